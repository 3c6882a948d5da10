-- Whether lines are those of a plan.
use Rattle.std.proofs.Common.{◌≡◌, ◌≢◌, ℕ, suc, ◌<◌, ◌^◌, List, [], ◌∷◌, ◌++◌, length, map, codes, decimal, refl, sym, ap, ap₂, ◌∙◌, subst, append_assoc, arith}
use Rattle.std.specs.List.{AllByRecursion}
use Rattle.std.proofs.Math.Decide.{map_dec}
use Rattle.ts_name.specs.Paths.{Path, path_text}
use Rattle.ts_model.specs.Texts.{reason_text, PathFits, KindFits, IsPlan}
use Rattle.ts_model.specs.declared.plan.Reason.{Reason}
use Rattle.ts_model.specs.declared.plan.Entry.{Entry}
use Rattle.ts_model.specs.declared.plan.Kind.{Kind}
use Rattle.ts_model.specs.declared.plan.Kind.TheVariants.{Piece, Commit, Mark}
use Rattle.ts_model.specs.declared.plan.Action.{Action}
use Rattle.ts_model.specs.declared.plan.Plan.{Plan}
use Rattle.ts_laws.proofs.Basics.{Dec-both, Dec-not}
use Rattle.ts_laws.proofs.Search.{decide_less, decide_each, decide_empty}
use Rattle.ts_laws.proofs.Rules.{decide_some_reason, decide_limits}
use Rattle.ts_name.proofs.Spelling.{cons_parts}
use Rattle.ts_text_laws.proofs.Words.{Words}
use Rattle.ts_text_laws.proofs.PlanTexts.{ActionsFit, action_words, actions_words, end_words, entry_words, kind_words, one_entry, one_kind, one_pred, plan_words, pred_words}
use Rattle.ts_text_laws.proofs.ReadWords.{BeginsWith, decide_begins, decide_keyed, decide_word, decide_decimal, decide_fit_path, decide_is_path}
use Rattle.ts_text_laws.proofs.ReadTrees.{AreItems, decide_items}
use Rattle.ts_name.proofs.Basics.{all_both}
use Rattle.ts_model.proofs.Deciding.{same_list, same_names}

-- ---- words

-- the word spells a number below a bound
abbrev IsNumberWord : ℕ → List ℕ → Type 0
IsNumberWord bound w = (n : ℕ) × (n < bound) × (w ≡ decimal n)

-- the word spells a path of an entry or of a piece
abbrev IsPathWord : List ℕ → Type 0
IsPathWord w = (p : Path) × PathFits p × (w ≡ path_text p)

-- the word spells a reason
abbrev IsReasonWord : List ℕ → Type 0
IsReasonWord w = (r : Reason) × (w ≡ reason_text r)

-- the line ends
abbrev IsEnd : Words → Type 0
IsEnd line = line ≡ []

-- whether a word spells a reason
decide_reason_word : (w : List ℕ) → Dec (IsReasonWord w)
decide_reason_word w = decide_some_reason (λ r. w ≡ reason_text r) (λ r. decide_word w (reason_text r))

-- whether a path fits
decide_path_fits : (p : Path) → Dec (PathFits p)
decide_path_fits p = Dec-both (decide_is_path p) (Dec-not (same_names p []))

-- ---- lines

-- whether a line is an entry's
decide_entry_line : (line : Words) → Dec ((e : Entry) × PathFits e.path × (line ≡ entry_words e))
unfolding entry_words
decide_entry_line line = map_dec
    (λ h.
    let second = h.4 in let third = second.4 in (
      record { path = third.3.0; reason = second.3.0 },
      third.3.1,
      (let a = h.2 in let b = h.3 in let c = second.2 in let d = second.3.1 in let e = third.2 in let f = third.3.2 in let g = third.4 in cc),
    ))
    (λ h. (codes "entry", _, h.2, refl, (reason_text h.0.reason, _, refl, (h.0.reason, refl), (path_text h.0.path, [], refl, (h.0.path, h.1, refl), refl))))
    (decide_begins (λ w. w ≡ codes "entry") (BeginsWith IsReasonWord (BeginsWith IsPathWord IsEnd)) (λ w. decide_word w (codes "entry"))
    (decide_begins IsReasonWord (BeginsWith IsPathWord IsEnd) decide_reason_word (decide_begins IsPathWord IsEnd decide_fit_path decide_empty)) line)

-- whether a line is that of a word and a short number
decide_numbered : (key : List ℕ) (line : Words) → Dec ((n : ℕ) × (n < 2 ^ 32) × (line ≡ key ∷ decimal n ∷ []))
decide_numbered = decide_keyed (λ n. n < 2 ^ 32) decimal (decide_decimal (2 ^ 32))

-- whether a line is a piece's
decide_piece_line : (line : Words) → Dec ((e offset size : ℕ) × (p : Path) × KindFits (Piece e offset size p) × (line ≡ codes "piece" ∷ decimal e ∷ decimal offset ∷ decimal size ∷ path_text p ∷ []))
decide_piece_line line = map_dec
    (λ h.
    let entry = h.4 in let offset = entry.4 in let size = offset.4 in let path = size.4 in (
      entry.3.0,
      offset.3.0,
      size.3.0,
      path.3.0,
      (entry.3.1, offset.3.1, size.3.1, path.3.1),
      (let a = h.2 in let b = h.3 in let c = entry.2 in let d = entry.3.2 in let e = offset.2 in let f = offset.3.2 in let g = size.2 in let i = size.3.2 in let j = path.2 in let k = path.3.2 in let l = path.4 in cc),
    ))
    (λ h. (
      codes "piece",
      _,
      h.5,
      refl,
      (
        decimal h.0,
        _,
        refl,
        (h.0, h.4.0, refl),
        (
          decimal h.1,
          _,
          refl,
          (h.1, h.4.1, refl),
          (decimal h.2, _, refl, (h.2, h.4.2, refl), (path_text h.3, [], refl, (h.3, h.4.3, refl), refl)),
        ),
      ),
    ))
    (decide_begins (λ w. w ≡ codes "piece") (BeginsWith (IsNumberWord (2 ^ 32)) (BeginsWith (IsNumberWord (2 ^ 64)) (BeginsWith (IsNumberWord (2 ^ 64)) (BeginsWith IsPathWord IsEnd)))) (λ w. decide_word w (codes "piece"))
    (decide_begins (IsNumberWord (2 ^ 32)) (BeginsWith (IsNumberWord (2 ^ 64)) (BeginsWith (IsNumberWord (2 ^ 64)) (BeginsWith IsPathWord IsEnd))) (decide_decimal (2 ^ 32))
    (decide_begins (IsNumberWord (2 ^ 64)) (BeginsWith (IsNumberWord (2 ^ 64)) (BeginsWith IsPathWord IsEnd)) (decide_decimal (2 ^ 64))
    (decide_begins (IsNumberWord (2 ^ 64)) (BeginsWith IsPathWord IsEnd) (decide_decimal (2 ^ 64))
    (decide_begins IsPathWord IsEnd decide_fit_path decide_empty)))) line)

-- the line is an action's first
abbrev IsKindLine : Words → Type 0
IsKindLine line = (kind : Kind) × KindFits kind × (line ≡ kind_words kind)

-- whether it is
decide_kind_line : (line : Words) → Dec (IsKindLine line)
unfolding kind_words
decide_kind_line line = go (decide_piece_line line) (decide_numbered (codes "commit") line) (decide_numbered (codes "mark") line)
  where
    PieceLine : Type 0
    PieceLine = (e offset size : ℕ) × (p : Path) × KindFits (Piece e offset size p) × (line ≡ codes "piece" ∷ decimal e ∷ decimal offset ∷ decimal size ∷ path_text p ∷ [])

    Numbered : List ℕ → Type 0
    Numbered key = (n : ℕ) × (n < 2 ^ 32) × (line ≡ key ∷ decimal n ∷ [])

    none : ¬ PieceLine → ¬ Numbered (codes "commit") → ¬ Numbered (codes "mark") → (kind : Kind) → KindFits kind → line ≢ kind_words kind
    none n m k (Piece e offset size p) fits h = n (e, offset, size, p, fits, h)
    none n m k (Commit e) fits h = m (e, fits, h)
    none n m k (Mark e) fits h = k (e, fits, h)

    go : Dec PieceLine → Dec (Numbered (codes "commit")) → Dec (Numbered (codes "mark")) → Dec ((kind : Kind) × KindFits kind × (line ≡ kind_words kind))
    go (yes h) commit mark = yes (Piece h.0 h.1 h.2 h.3, h.4, h.5)
    go (no n) (yes h) mark = yes (Commit h.0, h.1, h.2)
    go (no n) (no m) (yes h) = yes (Mark h.0, h.1, h.2)
    go (no n) (no m) (no k) = no (λ h. none n m k h.0 h.1 h.2)

-- the line is a predecessor's
abbrev IsPredLine : Words → Type 0
IsPredLine line = (j : ℕ) × (j < 2 ^ 32) × (line ≡ pred_words j)

-- whether it is
decide_pred_line : (line : Words) → Dec (IsPredLine line)
unfolding pred_words
decide_pred_line line = decide_numbered (codes "p") line

-- ---- actions

-- the lines are predecessors, then actions, then a last line, with a fact of the three
abbrev AreActions : (List ℕ → List Action → Words → Type 0) → List Words → Type 0
AreActions E lines = (preds : List ℕ) × (actions : List Action) × (last : Words) × AllByRecursion (λ j. j < 2 ^ 32) preds × ActionsFit actions
    × (lines ≡ map pred_words preds ++ (actions_words actions ++ last ∷ [])) × E preds actions last

-- an action before others
abbrev with_action : Kind → List ℕ → List Action → List Action
with_action kind preds actions = record { kind = kind; preds = preds } ∷ actions

-- how such lines begin
data ActionsBegin (E : List ℕ → List Action → Words → Type 0) (line : Words) (more : List Words) : Type 0 where
  last_line : more ≡ [] → E [] [] line → ActionsBegin E line more
  pred_line : (j : ℕ) → j < 2 ^ 32 → line ≡ pred_words j → AreActions (λ preds actions last. E (j ∷ preds) actions last) more → ActionsBegin E line more
  kind_line : (kind : Kind) → KindFits kind → line ≡ kind_words kind → AreActions (λ preds actions last. E [] (with_action kind preds actions) last) more → ActionsBegin E line more

-- each does so
actions_begin : (E : List ℕ → List Action → Words → Type 0) (line : Words) (more : List Words) → AreActions E (line ∷ more) → ActionsBegin E line more
unfolding actions_words action_words
actions_begin E line more (j ∷ preds, actions, last, preds_fit, fits, e, h) =
    let parts = cons_parts line (pred_words j) more (map pred_words preds ++ (actions_words actions ++ last ∷ [])) e in
    pred_line j preds_fit.0 parts.0 (preds, actions, last, preds_fit.1, fits, parts.1, h)
actions_begin E line more ([], [], last, preds_fit, fits, e, h) =
    let parts = cons_parts line last more [] e in
    last_line parts.1 (subst (λ z. E [] [] z) (sym parts.0) h)
actions_begin E line more ([], a ∷ actions, last, preds_fit, fits, e, h) =
    let parts = cons_parts line (kind_words a.kind) more ((map pred_words a.preds ++ actions_words actions) ++ last ∷ []) e in
    kind_line a.kind fits.0.0 parts.0 (a.preds, actions, last, fits.0.1, fits.1, parts.1 ∙ append_assoc (map pred_words a.preds) (actions_words actions) (last ∷ []), h)

-- no lines are none
no_actions : (E : List ℕ → List Action → Words → Type 0) → ¬ AreActions E []
unfolding actions_words action_words
no_actions E (j ∷ preds, actions, last, preds_fit, fits, e, h) = cc
no_actions E ([], [], last, preds_fit, fits, e, h) = cc
no_actions E ([], a ∷ actions, last, preds_fit, fits, e, h) = cc

-- one line more
with_pred_line : (E : List ℕ → List Action → Words → Type 0) (line : Words) (more : List Words) (j : ℕ) → j < 2 ^ 32 → line ≡ pred_words j → AreActions (λ preds actions last. E (j ∷ preds) actions last) more → AreActions E (line ∷ more)
with_pred_line E line more j small is (preds, actions, last, preds_fit, fits, e, h) = (j ∷ preds, actions, last, (small, preds_fit), fits, ap₂ ◌∷◌ is e, h)

-- or an action more
with_kind_line : (E : List ℕ → List Action → Words → Type 0) (line : Words) (more : List Words) (kind : Kind) → KindFits kind → line ≡ kind_words kind
    → AreActions (λ preds actions last. E [] (with_action kind preds actions) last) more → AreActions E (line ∷ more)
unfolding actions_words action_words
with_kind_line E line more kind fit is (preds, actions, last, preds_fit, fits, e, h) = (
  [],
  with_action kind preds actions,
  last,
  tt,
  ((fit, preds_fit), fits),
  ap₂ ◌∷◌ is (e ∙ sym (append_assoc (map pred_words preds) (actions_words actions) (last ∷ []))),
  h,
)

-- whether they are
decide_actions : (lines : List Words) (E : List ℕ → List Action → Words → Type 0) → ((preds : List ℕ) (actions : List Action) (last : Words) → Dec (E preds actions last)) → Dec (AreActions E lines)
unfolding actions_words
decide_actions [] E d = no (no_actions E)
decide_actions (line ∷ more) E d = by_kind (decide_kind_line line) (λ kind. decide_actions more (λ preds actions last. E [] (with_action kind preds actions) last) (λ preds actions last. d [] (with_action kind preds actions) last))
    (by_pred (decide_pred_line line) (λ j. decide_actions more (λ preds actions last. E (j ∷ preds) actions last) (λ preds actions last. d (j ∷ preds) actions last)))
    (by_last more (d [] [] line))
  where
    AfterKind : Kind → Type 0
    AfterKind kind = AreActions (λ preds actions last. E [] (with_action kind preds actions) last) more

    AfterPred : ℕ → Type 0
    AfterPred j = AreActions (λ preds actions last. E (j ∷ preds) actions last) more

    by_last : (more : List Words) → Dec (E [] [] line) → Dec ((more ≡ []) × E [] [] line)
    by_last more last = Dec-both (decide_empty more) last

    by_pred : Dec (IsPredLine line) → ((j : ℕ) → Dec (AfterPred j)) → Dec ((j : ℕ) × (j < 2 ^ 32) × (line ≡ pred_words j) × AfterPred j)
    by_pred (no n) rest = no (λ h. n (h.0, h.1, h.2))
    by_pred (yes (j, small, e)) rest = elim (rest j) [
      | yes h ↦ yes (j, small, e, h)
      | no n ↦ no (λ h. n (subst AfterPred (one_pred h.0 j h.1 small (sym h.2 ∙ e)) h.3))
    ]

    by_kind : Dec (IsKindLine line) → ((kind : Kind) → Dec (AfterKind kind)) → Dec ((j : ℕ) × (j < 2 ^ 32) × (line ≡ pred_words j) × AfterPred j) → Dec ((more ≡ []) × E [] [] line) → Dec (AreActions E (line ∷ more))
    by_kind kind_found rest (yes h) last = yes (with_pred_line E line more h.0 h.1 h.2 h.3)
    by_kind kind_found rest (no n) (yes h) = yes ([], [], line, tt, tt, ap (λ z. line ∷ z) h.0, h.1)
    by_kind (no m) rest (no n) (no k) = no (λ h. elim (actions_begin E line more h) [
      | last_line e g ↦ k (e, g)
      | pred_line j small e g ↦ n (j, small, e, g)
      | kind_line kind fits e g ↦ m (kind, fits, e)
    ])
    by_kind (yes (kind, fit, is)) rest (no n) (no k) = elim (rest kind) [
      | yes h ↦ yes (with_kind_line E line more kind fit is h)
      | no m ↦ no (λ h. elim (actions_begin E line more h) [
        | last_line e g ↦ k (e, g)
        | pred_line j small e g ↦ n (j, small, e, g)
        | kind_line other fits e g ↦ m (subst AfterKind (one_kind other kind fits fit (sym e ∙ is)) g)
      ])
    ]

-- ---- plans

-- whether a kind fits
decide_kind_fits : (kind : Kind) → Dec (KindFits kind)
decide_kind_fits (Piece e offset size p) = map_dec (λ h. (h.0, h.1.0, h.1.1.0, h.1.1.1)) (λ h. (h.0, (h.1, (h.2, h.3))))
    (Dec-both (decide_less e (2 ^ 32)) (Dec-both (decide_less offset (2 ^ 64)) (Dec-both (decide_less size (2 ^ 64)) (decide_path_fits p))))
decide_kind_fits (Commit e) = decide_less e (2 ^ 32)
decide_kind_fits (Mark e) = decide_less e (2 ^ 32)

-- whether a plan is lawful
decide_plan : (plan : Plan) → Dec (IsPlan plan)
decide_plan plan = map_dec
    (λ h. record { limits = h.0; entries = h.1.0; kinds = h.1.1.0; preds = h.1.1.1 })
    (λ (h : IsPlan plan). (h.limits, (h.entries, (h.kinds, h.preds))))
    (Dec-both (decide_limits plan) (Dec-both (decide_each (λ e. PathFits e.path) (λ e. decide_path_fits e.path) plan.entries)
    (Dec-both (decide_each (λ a. KindFits a.kind) (λ a. decide_kind_fits a.kind) plan.actions)
    (decide_each (λ a. AllByRecursion (λ j. j < 2 ^ 32) a.preds) (λ a. decide_each (λ j. j < 2 ^ 32) (λ j. decide_less j (2 ^ 32)) a.preds) plan.actions))))

-- the last line, and what the plan is to be
abbrev IsLast : List Entry → List ℕ → List Action → Words → Type 0
IsLast entries preds actions last = (preds ≡ []) × ((last ≡ end_words (length entries) (length actions)) × IsPlan (record { entries = entries; actions = actions }))

-- whether the last line is that
decide_last : (entries : List Entry) (preds : List ℕ) (actions : List Action) (last : Words) → Dec (IsLast entries preds actions last)
decide_last entries preds actions last = Dec-both (decide_empty preds) (Dec-both (same_list decide_word last (end_words (length entries) (length actions))) (decide_plan (record { entries = entries; actions = actions })))

-- whether lines are entries, and then actions
decide_entry_lines : (lines : List Words) → Dec (AreItems (λ (e : Entry). PathFits e.path) (map entry_words) (λ entries rest. AreActions (IsLast entries) rest) lines)
decide_entry_lines lines = decide_items (λ e. PathFits e.path) (λ e. entry_words e ∷ []) (map entry_words)
    (record { nothing = refl; one_more = λ e entries. refl; first = first; one = one; some = λ e fits. omega arith }) (suc (length lines))
    (λ entries rest. AreActions (IsLast entries) rest) (λ entries rest. decide_actions rest (IsLast entries) (decide_last entries)) lines (omega arith)
  where
    first : (lines : List Words) → Dec ((e : Entry) × (rest : List Words) × PathFits e.path × (lines ≡ (entry_words e ∷ []) ++ rest))
    first [] = no (λ h. let e = h.3 in cc)
    first (line ∷ more) = map_dec
        (λ h. (h.0, more, h.1, ap (λ z. z ∷ more) h.2))
        (λ h. (h.0, h.2, (cons_parts line (entry_words h.0) more h.1 h.3).0))
        (decide_entry_line line)

    one : (x y : Entry) (u v : List Words) → PathFits x.path → PathFits y.path → (entry_words x ∷ []) ++ u ≡ (entry_words y ∷ []) ++ v → (x ≡ y) × (u ≡ v)
    one x y u v fits_x fits_y e = let parts = cons_parts (entry_words x) (entry_words y) u v e in (one_entry x y fits_x.0 fits_y.0 parts.0, parts.1)

-- whether lines are a plan's
pub decide_plan_lines : (lines : List Words) → Dec ((plan : Plan) × IsPlan plan × (lines ≡ plan_words plan))
unfolding plan_words
decide_plan_lines [] = no (λ h. let e = h.2 in cc)
decide_plan_lines (line ∷ more) = go (same_list decide_word line (codes "twosync-plan" ∷ codes "1" ∷ [])) (decide_entry_lines more)
  where
    Entries : Type 0
    Entries = AreItems (λ (e : Entry). PathFits e.path) (map entry_words) (λ entries rest. AreActions (IsLast entries) rest) more

    parts : (plan : Plan) → IsPlan plan → line ∷ more ≡ plan_words plan → (line ≡ codes "twosync-plan" ∷ codes "1" ∷ []) × Entries
    parts plan is e =
        let cons = cons_parts line (codes "twosync-plan" ∷ codes "1" ∷ []) more (map entry_words plan.entries ++ (actions_words plan.actions ++ end_words (length plan.entries) (length plan.actions) ∷ [])) e in (
          cons.0,
          (
            plan.entries,
            actions_words plan.actions ++ end_words (length plan.entries) (length plan.actions) ∷ [],
            is.entries,
            cons.1,
            (
              [],
              plan.actions,
              end_words (length plan.entries) (length plan.actions),
              tt,
              all_both (λ (a : Action). KindFits a.kind) (λ a. AllByRecursion (λ j. j < 2 ^ 32) a.preds) plan.actions is.kinds is.preds,
              refl,
              (refl, (refl, is)),
            ),
          ),
        )

    whole : line ≡ codes "twosync-plan" ∷ codes "1" ∷ [] → Entries → (plan : Plan) × IsPlan plan × (line ∷ more ≡ plan_words plan)
    whole e (entries, rest, fits, f, (preds, actions, last, preds_fit, actions_fit, g, (none, (is_last, is)))) = (
      record { entries = entries; actions = actions },
      is,
      ap₂ ◌∷◌ e (f ∙ ap (λ z. map entry_words entries ++ z) (g ∙ ap (λ z. map pred_words z ++ (actions_words actions ++ last ∷ [])) none ∙ ap (λ z. actions_words actions ++ z ∷ []) is_last)),
    )

    go : Dec (line ≡ codes "twosync-plan" ∷ codes "1" ∷ []) → Dec Entries → Dec ((plan : Plan) × IsPlan plan × (line ∷ more ≡ plan_words plan))
    go (no n) rest = no (λ h. n (parts h.0 h.1 h.2).0)
    go (yes e) (no n) = no (λ h. n (parts h.0 h.1 h.2).1)
    go (yes e) (yes h) = yes (whole e h)
