-- The text of a plan.
use Rattle.std.proofs.Common.{◌≡◌, ◌≢◌, ℕ, ◌^◌, ◌<◌, ◌≤◌, List, [], ◌∷◌, ◌++◌, length, map, flat_map, codes, decimal, refl, sym, ap, ap₂, ◌∙◌, append_assoc, arith}
use Rattle.std.specs.List.{AllByRecursion}
use Rattle.std.proofs.lemmas.Fmt.{decimal_injective}
use Rattle.std.proofs.lemmas.List.{map-append}
use Rattle.ts_name.specs.Paths.{IsPath, path_text}
use Rattle.ts_model.specs.Texts.{words, reason_text, entry_line, kind_line, pred_line, action_lines, plan_lines, KindFits, IsPlan}
use Rattle.ts_model.proofs.Told.{BeginsNone, items_before, tells_map}
use Rattle.ts_model.specs.declared.plan.Entry.{Entry}
use Rattle.ts_model.specs.declared.plan.Kind.{Kind}
use Rattle.ts_model.specs.declared.plan.Kind.TheVariants.{Piece, Commit, Mark}
use Rattle.ts_model.specs.declared.plan.Action.{Action}
use Rattle.ts_model.specs.declared.plan.Plan.{Plan}
use Rattle.ts_name.proofs.Spelling.{clean_decimal, clean_from_test, clean_path, cons_parts, one_path}
use Rattle.ts_model.proofs.Spelling.{clean_reason, one_reason_text}
use Rattle.ts_name.proofs.Utf8.{all_append}
use Rattle.ts_text_laws.proofs.Words.{first_byte, AreLines, IsLine, Words, other_length}
use Rattle.ts_name.proofs.Basics.{all_both}

-- ---- entries

-- an entry's line in words
unfoldable pub entry_words : Entry → Words
entry_words e = codes "entry" ∷ reason_text e.reason ∷ path_text e.path ∷ []

-- the words spell the lines
entries_spelled : (entries : List Entry) → map entry_line entries ≡ map words (map entry_words entries)
unfolding entry_words
entries_spelled [] = refl
entries_spelled (e ∷ entries) = ap (λ z. entry_line e ∷ z) (entries_spelled entries)

-- each path is lawful
abbrev pub EntriesFit : List Entry → Type 0
EntriesFit entries = AllByRecursion (λ e. IsPath e.path × (e.path ≢ [])) entries

-- each line is one
entries_are_lines : (entries : List Entry) → EntriesFit entries → AreLines (map entry_words entries)
unfolding entry_words
entries_are_lines [] fits = tt
entries_are_lines (e ∷ entries) fits = ((clean_from_test (codes "entry") refl, (clean_reason e.reason, clean_path e.path fits.0.0)), entries_are_lines entries fits.1)

-- a line is of one entry
pub one_entry : (x y : Entry) → IsPath x.path → IsPath y.path → entry_words x ≡ entry_words y → x ≡ y
unfolding entry_words
one_entry x y is_x is_y e =
    let word = cons_parts (codes "entry") (codes "entry") (reason_text x.reason ∷ path_text x.path ∷ []) (reason_text y.reason ∷ path_text y.path ∷ []) e in
    let why = cons_parts (reason_text x.reason) (reason_text y.reason) (path_text x.path ∷ []) (path_text y.path ∷ []) word.1 in
    let path = cons_parts (path_text x.path) (path_text y.path) [] [] why.1 in
    let paths = one_path x.path y.path is_x is_y path.0 in
    let reasons = one_reason_text x.reason y.reason why.0 in
    λ i. record { path = paths i; reason = reasons i }

-- an entry's path is lawful
abbrev EntryFits : Entry → Type 0
EntryFits e = IsPath e.path × (e.path ≢ [])

-- the first line, if any, is of no entry
abbrev NoEntryFirst : List Words → Type 0
NoEntryFirst lines = BeginsNone (λ e. entry_words e ∷ []) EntryFits lines

-- entries up to a line of none
one_entries : (xs ys : List Entry) (u v : List Words) → EntriesFit xs → EntriesFit ys → NoEntryFirst u → NoEntryFirst v
    → map entry_words xs ++ u ≡ map entry_words ys ++ v → (xs ≡ ys) × (u ≡ v)
one_entries xs ys u v fits_x fits_y no_u no_v e =
    items_before (λ x. entry_words x ∷ []) (map entry_words) EntryFits (tells_map entry_words EntryFits (λ x y is_x is_y h. one_entry x y is_x.0 is_y.0 h)) xs ys u v fits_x fits_y no_u no_v e

-- ---- actions

-- an action's first line in words
unfoldable pub kind_words : Kind → Words
kind_words (Piece e offset size p) = codes "piece" ∷ decimal e ∷ decimal offset ∷ decimal size ∷ path_text p ∷ []
kind_words (Commit e) = codes "commit" ∷ decimal e ∷ []
kind_words (Mark e) = codes "mark" ∷ decimal e ∷ []

-- the words spell the line
kind_spelled : (kind : Kind) → kind_line kind ≡ words (kind_words kind)
unfolding kind_words
kind_spelled (Piece e offset size p) = refl
kind_spelled (Commit e) = refl
kind_spelled (Mark e) = refl

-- a predecessor's line in words
unfoldable pub pred_words : ℕ → Words
pred_words j = codes "p" ∷ decimal j ∷ []

-- the words spell the lines
preds_spelled : (js : List ℕ) → map pred_line js ≡ map words (map pred_words js)
unfolding pred_words
preds_spelled [] = refl
preds_spelled (j ∷ js) = ap (λ z. pred_line j ∷ z) (preds_spelled js)

-- the lines of an action
unfoldable pub action_words : Action → List Words
action_words a = kind_words a.kind ∷ map pred_words a.preds

-- and of all actions
unfoldable pub actions_words : List Action → List Words
actions_words [] = []
actions_words (a ∷ actions) = action_words a ++ actions_words actions

-- the words spell the lines
actions_spelled : (actions : List Action) → flat_map action_lines actions ≡ map words (actions_words actions)
unfolding actions_words action_words
actions_spelled [] = refl
actions_spelled (a ∷ actions) =
    ap₂ ◌++◌ (ap₂ ◌∷◌ (kind_spelled a.kind) (preds_spelled a.preds)) (actions_spelled actions)
    ∙ sym (map-append words (kind_words a.kind ∷ map pred_words a.preds) (actions_words actions))

-- a short number is a number
pub number_32 : (n : ℕ) → n < 2 ^ 32 → n < 2 ^ 64
number_32 n small = omega arith

-- an action's numbers and path are lawful
abbrev pub ActionFits : Kind → List ℕ → Type 0
ActionFits kind preds = KindFits kind × AllByRecursion (λ j. j < 2 ^ 32) preds

-- and so are those of all actions
abbrev pub ActionsFit : List Action → Type 0
ActionsFit actions = AllByRecursion (λ a. ActionFits a.kind a.preds) actions

-- the first line is one
kind_is_line : (kind : Kind) → KindFits kind → IsLine (kind_words kind)
unfolding kind_words
kind_is_line (Piece e offset size p) fits =
    (clean_from_test (codes "piece") refl, (clean_decimal e (number_32 e fits.0), (clean_decimal offset fits.1, (clean_decimal size fits.2, clean_path p fits.3.0))))
kind_is_line (Commit e) fits = (clean_from_test (codes "commit") refl, clean_decimal e (number_32 e fits))
kind_is_line (Mark e) fits = (clean_from_test (codes "mark") refl, clean_decimal e (number_32 e fits))

-- and so are those of the predecessors
preds_are_lines : (js : List ℕ) → AllByRecursion (λ j. j < 2 ^ 32) js → AreLines (map pred_words js)
unfolding pred_words
preds_are_lines [] fits = tt
preds_are_lines (j ∷ js) fits = ((clean_from_test (codes "p") refl, clean_decimal j (number_32 j fits.0)), preds_are_lines js fits.1)

-- and all of them
actions_are_lines : (actions : List Action) → ActionsFit actions → AreLines (actions_words actions)
unfolding actions_words action_words
actions_are_lines [] fits = tt
actions_are_lines (a ∷ actions) fits =
    all_append IsLine (kind_words a.kind ∷ map pred_words a.preds) (actions_words actions) (kind_is_line a.kind fits.0.0, preds_are_lines a.preds fits.0.1) (actions_are_lines actions fits.1)

-- a line is of one kind
pub one_kind : (x y : Kind) → KindFits x → KindFits y → kind_words x ≡ kind_words y → x ≡ y
unfolding kind_words
one_kind (Piece e offset size p) (Piece f offset_y size_y q) fits_x fits_y h =
    let word = cons_parts (codes "piece") (codes "piece") (decimal e ∷ decimal offset ∷ decimal size ∷ path_text p ∷ []) (decimal f ∷ decimal offset_y ∷ decimal size_y ∷ path_text q ∷ []) h in
    let entry = cons_parts (decimal e) (decimal f) (decimal offset ∷ decimal size ∷ path_text p ∷ []) (decimal offset_y ∷ decimal size_y ∷ path_text q ∷ []) word.1 in
    let place = cons_parts (decimal offset) (decimal offset_y) (decimal size ∷ path_text p ∷ []) (decimal size_y ∷ path_text q ∷ []) entry.1 in
    let len = cons_parts (decimal size) (decimal size_y) (path_text p ∷ []) (path_text q ∷ []) place.1 in
    let path = cons_parts (path_text p) (path_text q) [] [] len.1 in
    let same_e = decimal_injective e f (number_32 e fits_x.0) (number_32 f fits_y.0) entry.0 in
    let same_o = decimal_injective offset offset_y fits_x.1 fits_y.1 place.0 in
    let same_s = decimal_injective size size_y fits_x.2 fits_y.2 len.0 in
    let same_p = one_path p q fits_x.3.0 fits_y.3.0 path.0 in
    λ i. Piece (same_e i) (same_o i) (same_s i) (same_p i)
one_kind (Commit e) (Commit f) fits_x fits_y h =
    let word = cons_parts (codes "commit") (codes "commit") (decimal e ∷ []) (decimal f ∷ []) h in
    ap Commit (decimal_injective e f (number_32 e fits_x) (number_32 f fits_y) (cons_parts (decimal e) (decimal f) [] [] word.1).0)
one_kind (Mark e) (Mark f) fits_x fits_y h =
    let word = cons_parts (codes "mark") (codes "mark") (decimal e ∷ []) (decimal f ∷ []) h in
    ap Mark (decimal_injective e f (number_32 e fits_x) (number_32 f fits_y) (cons_parts (decimal e) (decimal f) [] [] word.1).0)
one_kind (Piece e offset size p) (Commit f) fits_x fits_y h =
    absurd (other_length (codes "piece" ∷ decimal e ∷ decimal offset ∷ decimal size ∷ path_text p ∷ []) (codes "commit" ∷ decimal f ∷ []) (λ k. omega arith) h)
one_kind (Piece e offset size p) (Mark f) fits_x fits_y h =
    absurd (other_length (codes "piece" ∷ decimal e ∷ decimal offset ∷ decimal size ∷ path_text p ∷ []) (codes "mark" ∷ decimal f ∷ []) (λ k. omega arith) h)
one_kind (Commit f) (Piece e offset size p) fits_x fits_y h =
    absurd (other_length (codes "commit" ∷ decimal f ∷ []) (codes "piece" ∷ decimal e ∷ decimal offset ∷ decimal size ∷ path_text p ∷ []) (λ k. omega arith) h)
one_kind (Mark f) (Piece e offset size p) fits_x fits_y h =
    absurd (other_length (codes "mark" ∷ decimal f ∷ []) (codes "piece" ∷ decimal e ∷ decimal offset ∷ decimal size ∷ path_text p ∷ []) (λ k. omega arith) h)
one_kind (Commit e) (Mark f) fits_x fits_y h = absurd (let k : ◌≡◌ {A = ℕ} 99 109 = ap first_byte h in omega arith)
one_kind (Mark e) (Commit f) fits_x fits_y h = absurd (let k : ◌≡◌ {A = ℕ} 109 99 = ap first_byte h in omega arith)

-- a line is of one predecessor
pub one_pred : (i j : ℕ) → i < 2 ^ 32 → j < 2 ^ 32 → pred_words i ≡ pred_words j → i ≡ j
unfolding pred_words
one_pred i j small_i small_j e =
    let word = cons_parts (codes "p") (codes "p") (decimal i ∷ []) (decimal j ∷ []) e in
    decimal_injective i j (number_32 i small_i) (number_32 j small_j) (cons_parts (decimal i) (decimal j) [] [] word.1).0

-- the first line, if any, is of no predecessor
abbrev NoPredFirst : List Words → Type 0
NoPredFirst lines = BeginsNone (λ j. pred_words j ∷ []) (λ j. j < 2 ^ 32) lines

-- predecessors up to a line of none
one_preds : (xs ys : List ℕ) (u v : List Words) → AllByRecursion (λ j. j < 2 ^ 32) xs → AllByRecursion (λ j. j < 2 ^ 32) ys → NoPredFirst u → NoPredFirst v
    → map pred_words xs ++ u ≡ map pred_words ys ++ v → (xs ≡ ys) × (u ≡ v)
one_preds xs ys u v fits_x fits_y no_u no_v e =
    items_before (λ j. pred_words j ∷ []) (map pred_words) (λ j. j < 2 ^ 32) (tells_map pred_words (λ j. j < 2 ^ 32) one_pred) xs ys u v fits_x fits_y no_u no_v e

-- the last line of a plan
unfoldable pub end_words : ℕ → ℕ → Words
end_words m n = codes "end" ∷ decimal m ∷ decimal n ∷ []

-- an action's first line is of no predecessor
kind_no_pred : (kind : Kind) (j : ℕ) → kind_words kind ≢ pred_words j
unfolding kind_words pred_words
kind_no_pred (Piece e offset size p) j h =
    other_length (codes "piece" ∷ decimal e ∷ decimal offset ∷ decimal size ∷ path_text p ∷ []) (codes "p" ∷ decimal j ∷ []) (λ k. omega arith) h
kind_no_pred (Commit e) j h = let k : ◌≡◌ {A = ℕ} 99 112 = ap first_byte h in omega arith
kind_no_pred (Mark e) j h = let k : ◌≡◌ {A = ℕ} 109 112 = ap first_byte h in omega arith

-- and of no entry
kind_no_entry : (kind : Kind) (e : Entry) → kind_words kind ≢ entry_words e
unfolding kind_words entry_words
kind_no_entry (Piece e offset size p) x h =
    other_length (codes "piece" ∷ decimal e ∷ decimal offset ∷ decimal size ∷ path_text p ∷ []) (codes "entry" ∷ reason_text x.reason ∷ path_text x.path ∷ []) (λ k. omega arith) h
kind_no_entry (Commit e) x h = other_length (codes "commit" ∷ decimal e ∷ []) (codes "entry" ∷ reason_text x.reason ∷ path_text x.path ∷ []) (λ k. omega arith) h
kind_no_entry (Mark e) x h = other_length (codes "mark" ∷ decimal e ∷ []) (codes "entry" ∷ reason_text x.reason ∷ path_text x.path ∷ []) (λ k. omega arith) h

-- the last line is of no action
end_no_kind : (m n : ℕ) (kind : Kind) → end_words m n ≢ kind_words kind
unfolding end_words kind_words
end_no_kind m n (Piece e offset size p) h =
    other_length (codes "end" ∷ decimal m ∷ decimal n ∷ []) (codes "piece" ∷ decimal e ∷ decimal offset ∷ decimal size ∷ path_text p ∷ []) (λ k. omega arith) h
end_no_kind m n (Commit e) h = other_length (codes "end" ∷ decimal m ∷ decimal n ∷ []) (codes "commit" ∷ decimal e ∷ []) (λ k. omega arith) h
end_no_kind m n (Mark e) h = other_length (codes "end" ∷ decimal m ∷ decimal n ∷ []) (codes "mark" ∷ decimal e ∷ []) (λ k. omega arith) h

-- of no predecessor
end_no_pred : (m n j : ℕ) → end_words m n ≢ pred_words j
unfolding end_words pred_words
end_no_pred m n j h = other_length (codes "end" ∷ decimal m ∷ decimal n ∷ []) (codes "p" ∷ decimal j ∷ []) (λ k. omega arith) h

-- and of no entry
end_no_entry : (m n : ℕ) (e : Entry) → end_words m n ≢ entry_words e
unfolding end_words entry_words
end_no_entry m n e h =
    let word = cons_parts (codes "end") (codes "entry") (decimal m ∷ decimal n ∷ []) (reason_text e.reason ∷ path_text e.path ∷ []) h in
    other_length (codes "end") (codes "entry") (λ k. omega arith) word.0

-- the lines of actions and the last line
abbrev rest_words : List Action → ℕ → ℕ → List Words
rest_words actions m n = actions_words actions ++ end_words m n ∷ []

-- so what follows is of no predecessor
rest_no_pred : (actions : List Action) (m n : ℕ) → NoPredFirst (rest_words actions m n)
unfolding actions_words action_words
rest_no_pred [] m n = λ j rest fits e. end_no_pred m n j (cons_parts (end_words m n) (pred_words j) [] rest e).0
rest_no_pred (a ∷ actions) m n = λ j rest fits e. kind_no_pred a.kind j (cons_parts (kind_words a.kind) (pred_words j) ((map pred_words a.preds ++ actions_words actions) ++ end_words m n ∷ []) rest e).0

-- and of no entry
rest_no_entry : (actions : List Action) (m n : ℕ) → NoEntryFirst (rest_words actions m n)
unfolding actions_words action_words
rest_no_entry [] m n = λ x rest fits e. end_no_entry m n x (cons_parts (end_words m n) (entry_words x) [] rest e).0
rest_no_entry (a ∷ actions) m n = λ x rest fits e. kind_no_entry a.kind x (cons_parts (kind_words a.kind) (entry_words x) ((map pred_words a.preds ++ actions_words actions) ++ end_words m n ∷ []) rest e).0

-- the lines are of one list of actions
one_actions : (xs ys : List Action) (k l m n : ℕ) → ActionsFit xs → ActionsFit ys → rest_words xs k l ≡ rest_words ys m n → xs ≡ ys
unfolding actions_words action_words
one_actions [] [] k l m n fits_x fits_y e = refl
one_actions [] (y ∷ ys) k l m n fits_x fits_y e =
    absurd (end_no_kind k l y.kind (cons_parts (end_words k l) (kind_words y.kind) [] ((map pred_words y.preds ++ actions_words ys) ++ end_words m n ∷ []) e).0)
one_actions (x ∷ xs) [] k l m n fits_x fits_y e =
    absurd (end_no_kind m n x.kind (cons_parts (end_words m n) (kind_words x.kind) [] ((map pred_words x.preds ++ actions_words xs) ++ end_words k l ∷ []) (sym e)).0)
one_actions (x ∷ xs) (y ∷ ys) k l m n fits_x fits_y e =
    let line = cons_parts (kind_words x.kind) (kind_words y.kind) ((map pred_words x.preds ++ actions_words xs) ++ end_words k l ∷ []) ((map pred_words y.preds ++ actions_words ys) ++ end_words m n ∷ []) e in
    let kinds = one_kind x.kind y.kind fits_x.0.0 fits_y.0.0 line.0 in
    let preds = one_preds x.preds y.preds (rest_words xs k l) (rest_words ys m n) fits_x.0.1 fits_y.0.1 (rest_no_pred xs k l) (rest_no_pred ys m n)
    (sym (append_assoc (map pred_words x.preds) (actions_words xs) (end_words k l ∷ [])) ∙ line.1 ∙ append_assoc (map pred_words y.preds) (actions_words ys) (end_words m n ∷ [])) in
    let first : x ≡ y = λ i. record { kind = kinds i; preds = preds.0 i } in
    ap₂ ◌∷◌ first (one_actions xs ys k l m n fits_x.1 fits_y.1 preds.1)

-- ---- plans

-- a plan's lines in words
unfoldable pub plan_words : Plan → List Words
plan_words plan = (codes "twosync-plan" ∷ codes "1" ∷ []) ∷ (map entry_words plan.entries ++ rest_words plan.actions (length plan.entries) (length plan.actions))

-- the words spell the lines
pub plan_spelled : (plan : Plan) → plan_lines plan ≡ map words (plan_words plan)
unfolding plan_words end_words
plan_spelled plan = ap (λ z. codes "twosync-plan 1" ∷ z)
    (append_assoc (map entry_line plan.entries) (flat_map action_lines plan.actions) (words (codes "end" ∷ decimal (length plan.entries) ∷ decimal (length plan.actions) ∷ []) ∷ [])
    ∙ ap₂ ◌++◌ (entries_spelled plan.entries) (ap (λ z. z ++ words (codes "end" ∷ decimal (length plan.entries) ∷ decimal (length plan.actions) ∷ []) ∷ []) (actions_spelled plan.actions) ∙ sym (map-append words (actions_words plan.actions) (end_words (length plan.entries) (length plan.actions) ∷ [])))
    ∙ sym (map-append words (map entry_words plan.entries) (rest_words plan.actions (length plan.entries) (length plan.actions))))

-- each line is one
pub plan_are_lines : (plan : Plan) → IsPlan plan → AreLines (plan_words plan)
unfolding plan_words end_words
plan_are_lines plan is = (
  (clean_from_test (codes "twosync-plan") refl, clean_from_test (codes "1") refl),
  all_append IsLine (map entry_words plan.entries) (rest_words plan.actions (length plan.entries) (length plan.actions)) (entries_are_lines plan.entries is.entries)
      (all_append IsLine (actions_words plan.actions) (end_words (length plan.entries) (length plan.actions) ∷ [])
      (actions_are_lines plan.actions (all_both (λ (a : Action). KindFits a.kind) (λ a. AllByRecursion (λ j. j < 2 ^ 32) a.preds) plan.actions is.kinds is.preds))
      ((clean_from_test (codes "end") refl, (clean_decimal (length plan.entries) (few_entries is.limits.entries), clean_decimal (length plan.actions) (few_actions is.limits.actions))), tt)),
)
  where
    few_entries : length plan.entries ≤ 1048576 → length plan.entries < 2 ^ 64
    few_entries h = omega arith

    few_actions : length plan.actions ≤ 1048576 → length plan.actions < 2 ^ 64
    few_actions h = omega arith

-- the lines are of one plan
pub one_plan : (x y : Plan) → IsPlan x → IsPlan y → plan_words x ≡ plan_words y → x ≡ y
unfolding plan_words
one_plan x y is_x is_y e =
    let line = cons_parts (codes "twosync-plan" ∷ codes "1" ∷ []) (codes "twosync-plan" ∷ codes "1" ∷ [])
    (map entry_words x.entries ++ rest_words x.actions (length x.entries) (length x.actions)) (map entry_words y.entries ++ rest_words y.actions (length y.entries) (length y.actions)) e in
    let entries = one_entries x.entries y.entries (rest_words x.actions (length x.entries) (length x.actions)) (rest_words y.actions (length y.entries) (length y.actions)) is_x.entries is_y.entries
    (rest_no_entry x.actions (length x.entries) (length x.actions)) (rest_no_entry y.actions (length y.entries) (length y.actions)) line.1 in
    let actions = one_actions x.actions y.actions (length x.entries) (length x.actions) (length y.entries) (length y.actions)
    (all_both (λ (a : Action). KindFits a.kind) (λ a. AllByRecursion (λ j. j < 2 ^ 32) a.preds) x.actions is_x.kinds is_x.preds)
    (all_both (λ (a : Action). KindFits a.kind) (λ a. AllByRecursion (λ j. j < 2 ^ 32) a.preds) y.actions is_y.kinds is_y.preds) entries.1 in
    λ i. record { entries = entries.0 i; actions = actions i }
