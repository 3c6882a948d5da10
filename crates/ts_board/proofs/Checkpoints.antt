-- Marks that were looked at from the highest number down, while others worked: those seen done are a closed part of what was seen.
use Rattle.std.proofs.Common.{◌≡◌, ◌≢◌, ◌⊎◌, ℕ, ◌+◌, ◌<◌, ◌≤◌, Bool, true, false, List, [], ◌++◌, length, get_or, slice_get, replicate, set, sym, refl, ap, ◌∙◌, subst, inl, inr, append_assoc, append-nil, arith}
use Rattle.std.specs.Prelude.{slice_index_or}
use Rattle.std.specs.List.{list_any}
use Rattle.std.proofs.lemmas.Bool.{true≢false, cases_eq}
use Rattle.std.specs.Int.{bit_at}
use Rattle.std.proofs.lemmas.List.{length-replicate, length-set, get_or-set_same, get_or-set_other}
use Rattle.std.proofs.lemmas.Option.{slice_get_read, slice_get_within}
use Rattle.ts_name.proofs.Basics.{at_each}
use Rattle.ts_name.specs.Paths.{Path}
use Rattle.ts_model.specs.Trees.{AreApart as AreContentsApart, Listing, at}
use Rattle.ts_model.specs.Sync.{AreBothDirs}
use Rattle.ts_model.specs.Plans.{ActionIs, KindIs, Waits, Valid}
use Rattle.ts_model.specs.Runs.{Run, Legal, Has, acts, finishes, marked, after, start, word_after}
use Rattle.ts_model.specs.Headline.{Agrees, Meets}
use Rattle.ts_model.specs.Resume.{IsClosedPart, archive_of_part}
use Rattle.ts_model.specs.declared.row.Content.TheVariants.{Absent}
use Rattle.ts_model.specs.declared.row.Stamp.{Stamp}
use Rattle.ts_model.specs.declared.plan.Action.{Action}
use Rattle.ts_model.specs.declared.plan.Kind.TheVariants.{Mark}
use Rattle.ts_model.specs.declared.plan.Plan.{Plan}
use Rattle.ts_model.specs.declared.step.Step.{Step}
use Rattle.ts_laws.proofs.Agreement.{agreed}
use Rattle.ts_laws.proofs.Cuts.{any_in_longer}
use Rattle.ts_laws.proofs.Basics.{Start-from}
use Rattle.ts_laws.proofs.Lists.{below_bound, Among-from_Contains}
use Rattle.ts_laws.proofs.Marks.{mark_or_none, marked_after}
use Rattle.ts_laws.proofs.Parts.{part_kept_at, part_marked}
use Rattle.ts_laws.proofs.Plans.{one_mark}
use Rattle.ts_laws.proofs.Reasons.{IsEdge, IsWhole-from_snapshot, Place, inside, outside, place_of}
use Rattle.ts_laws.proofs.Runs.{IsRun, IsRun-from_legal, preds_ascend, same_action}
use Rattle.ts_laws.proofs.Settings.{Begun, begun_at}
use Rattle.ts_laws.proofs.Steps.{mark_is_marked, same_kind}
use Rattle.ts_check.specs.Checkup.{Checkup, snapshot_of}
use Rattle.ts_board.specs.declared.law.Terms.{Terms}
use Rattle.ts_board.specs.declared.board.Pass.{Pass}
use Rattle.ts_board.specs.Terms.{IsLegalRun}
use Rattle.ts_board.specs.Runs.{StartsWith, bit}
use Rattle.ts_board.specs.Calls.{seen, Sees}
use Rattle.ts_board.specs.Archives.{AreOfPart, IsDone, flagged}
use Rattle.ts_board.specs.Checks.{IsFromCheck}
use Rattle.ts_board.specs.Checkpoints.{HasDone, HasLooked, StaysAgreed, with_archive}
use Rattle.ts_board.proofs.Archives.{flag_of, flagged_mark, root_alone}
use Rattle.ts_board.proofs.Checks.{legal_for}
use Rattle.ts_board.proofs.Flags.{marked_entry, unset}
use Rattle.ts_board.proofs.Words.{done_word, few_open, true_from_bit}

-- ---- looks

starts_in : (p q r : Run) → StartsWith q p → StartsWith r q → StartsWith r p
starts_in p q r first then = (first.0 ++ then.0, then.1 ∙ ap (λ z. z ++ then.0) first.1 ∙ append_assoc p first.0 then.0)

pub still_has : (r later : Run) (test : Step → Bool) → StartsWith later r → Has r test → Has later test
still_has r later test starts h = subst (λ z. Has z test) (sym starts.1) (any_in_longer test r starts.0 h)

module _ {S : Type 0} (t : Terms) where
  pub no_look : (p : Pass S) → HasLooked t p p
  no_look p = (([], sym (append-nil (seen p))), refl, λ h. h)

  pub one_look : (p q : Pass S) → Sees t p q → HasLooked t p q
  one_look p q sees = (sees.0, sees.1, λ h. sees.2)

  pub more_looks : (p q r : Pass S) → HasLooked t p q → HasLooked t q r → HasLooked t p r
  more_looks p q r first then = (starts_in (seen p) (seen q) (seen r) first.0 then.0, then.1 ∙ first.1, λ h. then.2 (first.2 h))

-- ---- the flags so far

-- the marks from number i on were looked at: `before` is what was seen at first, `run` what is seen by now
pub record AreSeenFrom (plan : Plan) (i : ℕ) (before run : Run) (flags : List Bool) : Type 0 where
  pub count : length flags ≡ length plan.entries
  pub marked : (e : ℕ) → slice_index_or flags e false ≡ true → (m : ℕ) × KindIs plan m (Mark e) × Has run (finishes m) × Has run (acts m)
  pub done : (m e : ℕ) → i ≤ m → KindIs plan m (Mark e) → Has before (finishes m) → slice_index_or flags e false ≡ true
  pub closed : (m d j e : ℕ) → i ≤ j → slice_index_or flags d false ≡ true → KindIs plan m (Mark d) → Waits plan m j → KindIs plan j (Mark e)
      → slice_index_or flags e false ≡ true

-- none was looked at
pub none_seen : (plan : Plan) (before run : Run) (n : ℕ) (flags : List Bool) → n ≡ length plan.actions → flags ≡ replicate (length plan.entries) false → AreSeenFrom plan n before run flags
none_seen plan before run n flags all unset_all = record {
  count = ap length unset_all ∙ length-replicate (length plan.entries) false;
  marked = λ e on. off e on;
  done = λ m e past kind has. absurd (let within = slice_get_within plan.actions m kind.0 kind.1 in omega arith);
  closed = λ m d j e past on. off d on;
}
  where
    off : {A : Type 0} → (e : ℕ) → slice_index_or flags e false ≡ true → A
    off e on = absurd (true≢false (sym on ∙ ap (λ z. slice_index_or z e false) unset_all ∙ unset (length plan.entries) e))

module _ (k : Checkup) (valid : Valid (snapshot_of k) k.plan) where
  ran : (r : Run) → Legal (snapshot_of k) k.plan r → IsRun k.plan r
  ran r legal = IsRun-from_legal (snapshot_of k) k.plan valid (start (snapshot_of k) (λ p. Absent) (λ p. Absent)) r legal

  one : (i j e : ℕ) → KindIs k.plan i (Mark e) → KindIs k.plan j (Mark e) → i ≡ j
  one i j e x y = one_mark (snapshot_of k) k.plan valid i j e x y

  -- what a done action waits for is done
  done_before : (r : Run) (i j : ℕ) → IsRun k.plan r → Has r (finishes i) → Waits k.plan i j → Has r (finishes j)
  done_before r i j run has waits = run.ordered.claimed i j (run.ordered.acted i (run.ordered.finished i has)) waits

  module _ (i : ℕ) (before run now : Run) (flags : List Bool) (so_far : AreSeenFrom k.plan (i + 1) before run flags) (began : StartsWith run before) (goes_on : StartsWith now run) where
    -- what is flagged stays marked
    stays : (e : ℕ) → slice_index_or flags e false ≡ true → (m : ℕ) × KindIs k.plan m (Mark e) × Has now (finishes m) × Has now (acts m)
    stays e set =
        let of = so_far.marked e set in
        (of.0, of.1, still_has run now (finishes of.0) goes_on of.2, still_has run now (acts of.0) goes_on of.3)

    -- no action but a mark is passed, or a mark that isn't done
    pub passed : ((e : ℕ) → KindIs k.plan i (Mark e) → Legal (snapshot_of k) k.plan now × (¬ Has now (finishes i))) → AreSeenFrom k.plan i before now flags
    passed open_one = record {
      count = so_far.count;
      marked = stays;
      done = λ m e past kind has. elim (cases_eq m i) [
        | inl same ↦ absurd ((open_one e (subst (λ z. KindIs k.plan z (Mark e)) same kind)).1
            (still_has run now (finishes i) goes_on (still_has before run (finishes i) began (subst (λ z. Has before (finishes z)) same has))))
        | inr differ ↦ (let above : i + 1 ≤ m = omega arith in so_far.done m e above kind has)
      ];
      closed = λ m d j e past set kind waits of. elim (cases_eq j i) [
        | inl same ↦ absurd (
            let none = open_one e (subst (λ z. KindIs k.plan z (Mark e)) same of) in
            let mark = stays d set in
            let has = subst (λ z. Has now (finishes z)) (one mark.0 m d mark.1 kind) mark.2 in
            none.1 (done_before now m i (ran now none.0) has (subst (λ z. Waits k.plan m z) same waits)))
        | inr differ ↦ (let above : i + 1 ≤ j = omega arith in so_far.closed m d j e above set kind waits of)
      ];
    }

    -- a mark that is done is flagged
    pub flagged_next : (e : ℕ) (flags_now : List Bool) → KindIs k.plan i (Mark e) → Legal (snapshot_of k) k.plan now → Has now (finishes i)
        → length flags_now ≡ length flags → slice_index_or flags_now e false ≡ true → ((d : ℕ) → d ≢ e → slice_index_or flags_now d false ≡ slice_index_or flags d false)
        → AreSeenFrom k.plan i before now flags_now
    flagged_next e flags_now kind legal has long set others = record {
      count = long ∙ so_far.count;
      marked = λ d on. elim (cases_eq d e) [
        | inl same ↦ (i, subst (λ z. KindIs k.plan i (Mark z)) (sym same) kind, has, (ran now legal).ordered.finished i has)
        | inr differ ↦ stays d (sym (others d differ) ∙ on)
      ];
      done = λ m d past of had. elim (cases_eq m i) [
        | inl same ↦ at d (subst (λ z. KindIs k.plan z (Mark d)) same of)
        | inr differ ↦ (let above : i + 1 ≤ m = omega arith in keeps d (so_far.done m d above of had))
      ];
      closed = λ m d j f past on of waits at_j. elim (cases_eq j i) [
        | inl same ↦ at f (subst (λ z. KindIs k.plan z (Mark f)) same at_j)
        | inr differ ↦ (let above : i + 1 ≤ j = omega arith in elim (cases_eq d e) [
          | inl equal ↦ absurd (
              let mark : m ≡ i = one m i e (subst (λ z. KindIs k.plan m (Mark z)) equal of) kind in
              let below = below_bound m waits.0.preds j (preds_ascend (snapshot_of k) k.plan valid m waits.0 waits.1) (Among-from_Contains waits.0.preds j waits.2) in
              omega arith)
          | inr apart ↦ keeps f (so_far.closed m d j f above (sym (others d apart) ∙ on) of waits at_j)
        ])
      ];
    }
      where
        keeps : (d : ℕ) → slice_index_or flags d false ≡ true → slice_index_or flags_now d false ≡ true
        keeps d on = elim (cases_eq d e) [
          | inl same ↦ ap (λ z. slice_index_or flags_now z false) same ∙ set
          | inr differ ↦ others d differ ∙ on
        ]

        at : (d : ℕ) → KindIs k.plan i (Mark d) → slice_index_or flags_now d false ≡ true
        at d of = ap (λ z. slice_index_or flags_now z false) (ap marked_entry (same_kind k.plan i (Mark d) (Mark e) of kind)) ∙ set

  -- ---- all were looked at

  module _ (before run : Run) (flags : List Bool) (all : AreSeenFrom k.plan 0 before run flags) where
    pub seen_part : AreOfPart k.plan run flags
    seen_part = record {
      count = all.count;
      marked = λ e set. (let mark = all.marked e set in (mark.0, mark.1));
      closed = closed;
      done = λ i taken. (
          let mark = flagged_mark k.plan flags i taken in let of = all.marked mark.0 mark.2 in
          subst (λ z. Has run (finishes z)) (one of.0 i mark.0 of.1 mark.1) of.2);
    }
      where
        closed : IsClosedPart k.plan run (flagged k.plan flags)
        closed = record {
          marks = λ i taken. (let mark = flagged_mark k.plan flags i taken in (mark.0, mark.1));
          acted = λ i taken. (
              let mark = flagged_mark k.plan flags i taken in let of = all.marked mark.0 mark.2 in
              subst (λ z. Has run (acts z)) (one of.0 i mark.0 of.1 mark.1) of.3);
          closed = λ i j e taken waits kind. (
              let mark = flagged_mark k.plan flags i taken in
              flag_of k.plan flags j e kind ∙ all.closed i mark.0 j e (omega arith) mark.2 mark.1 waits kind);
        }

    pub seen_done : HasDone k.plan before (flagged k.plan flags)
    seen_done i e kind has = flag_of k.plan flags i e kind ∙ all.done i e (omega arith) kind has

-- ---- what a look tells

-- the action that is read at i, where n is the number after it
pub read_action : (plan : Plan) (actions : List Action) (i n : ℕ) (action : Action) → actions ≡ plan.actions → n ≡ i + 1 → n ≤ length plan.actions → action ≡ get_or actions i action → ActionIs plan i action
read_action plan actions i n action same next within is =
    let long : length plan.actions ≡ length actions = ap length (sym same) in
    ap (λ z. slice_get z i) (sym same) ∙ slice_get_read actions (length actions) i action refl (omega arith) is

module _ (t : Terms) (k : Checkup) (from : IsFromCheck t k) (valid : Valid (snapshot_of k) k.plan) (i : ℕ) where
  -- the word says whether the action is done
  word_is : (r : Run) → bit_at (word_after t.plan r i) 33 ≡ bit (list_any (finishes i) r)
  word_is r = ap (λ p. bit_at (word_after p r i) 33) from.0 ∙ done_word k.plan r i (few_open (snapshot_of k) k.plan valid r i)

  module _ (action : Action) (is : ActionIs k.plan i action) (n : ℕ) (before run now : Run) (flags : List Bool) (next : n ≡ i + 1) (so_far : AreSeenFrom k.plan n before run flags)
      (began : StartsWith run before) (goes_on : StartsWith now run) where
    so_far_next : AreSeenFrom k.plan (i + 1) before run flags
    so_far_next = subst (λ z. AreSeenFrom k.plan z before run flags) next so_far

    -- a mark that isn't done, or another action, is passed over
    pub passed_over : ((e : ℕ) → action.kind ≡ Mark e → IsLegalRun t now) → ((e : ℕ) → action.kind ≡ Mark e → ¬ IsDone (word_after t.plan now i)) → AreSeenFrom k.plan i before now flags
    passed_over legal none = passed k valid i before run now flags so_far_next began goes_on (λ e kind.
        let at = ap (λ a. a.kind) (same_action k.plan i action kind.0 is kind.1) ∙ kind.2 in
        (legal_for t k from now (legal e at), λ has. none e at (word_is now ∙ ap bit has)))

    -- there is a flag for its entry
    pub has_flag : (e : ℕ) → action.kind ≡ Mark e → e < length flags
    has_flag e at =
        let entry = mark_is_marked (snapshot_of k) k.plan valid i e (action, is, at) in
        let within = slice_get_within k.plan.entries e entry.0 entry.1 in
        omega (arith, so_far.count)

    -- it is set where the mark is done
    pub flag_set : (e : ℕ) (flags_now : List Bool) → action.kind ≡ Mark e → IsLegalRun t now → IsDone (word_after t.plan now i) → flags_now ≡ set flags e true → AreSeenFrom k.plan i before now flags_now
    flag_set e flags_now at legal one same = subst (λ z. AreSeenFrom k.plan i before now z) (sym same)
        (flagged_next k valid i before run now flags so_far_next began goes_on e (set flags e true) (action, is, at) (legal_for t k from now legal)
        (true_from_bit (list_any (finishes i) now) (sym (word_is now) ∙ one)) (length-set flags e true) (get_or-set_same flags e true false (has_flag e at))
        (λ d differ. get_or-set_other flags e d true false differ))

-- ---- the archive of a closed part is agreed

-- a part that is closed in a run is closed in one that goes on from there
pub closed_later : (plan : Plan) (r later : Run) (part : ℕ → Bool) → StartsWith later r → IsClosedPart plan r part → IsClosedPart plan later part
closed_later plan r later part starts closed = record { marks = closed.marks; acted = λ i taken. still_has r later (acts i) starts (closed.acted i taken); closed = closed.closed }

module _ (given : Begun) (r : Run) (part : ℕ → Bool) (closed : IsClosedPart given.setting.plan r part) (legal : Legal given.setting.s given.setting.plan r) where
  open given use {setting.{s, plan, a, b}, begin}

  abbrev OldOrMarked : Path → Type 0
  OldOrMarked q = (archive_of_part s plan part (length plan.actions) q ≡ s.archive q) ⊎ (archive_of_part s plan part (length plan.actions) q ≡ (after s plan (start s a b) r).archive q)

  by_mark : (p rest : Path) → IsEdge s p ⊎ (AreBothDirs s.first s.second p × (rest ≡ [])) → OldOrMarked (p ++ rest)
  by_mark p rest kind_of_p = elim (mark_or_none given.setting part p) [
    | inl others ↦ inl (part_kept_at given.setting r part closed p rest kind_of_p others)
    | inr found ↦ (let only = root_alone given.setting p rest kind_of_p part found in
        inr (part_marked given.setting r part closed p rest found only
        ∙ sym (subst (λ z. (after s plan (start s a b) r).archive (z ++ rest) ≡ marked s found.entry.reason z rest) found.at
        (marked_after given.setting found.mark found.place found.entry rest found.kind found.is only r legal (closed.acted found.mark found.chosen)))))
  ]

  -- at each path it is the old archive, or the one after the run
  old_or_marked : (q : Path) → OldOrMarked q
  old_or_marked q = go (place_of s (IsWhole-from_snapshot s begin.lawful) q)
    where
      go : Place s q → OldOrMarked q
      go (inside dirs) = subst OldOrMarked (append-nil q) (by_mark q [] (inr (dirs, refl)))
      go (outside p rest is edge) = subst OldOrMarked (sym is) (by_mark p rest (inl edge))

  pub part_agrees : AreContentsApart (Meets a b r) → (rows : Listing Stamp) → at rows ≡ archive_of_part s plan part (length plan.actions) → Agrees s (with_archive (after s plan (start s a b) r) rows)
  part_agrees apart rows is q = elim (old_or_marked q) [
    | inl old ↦ inl (at_each is q ∙ old)
    | inr now ↦ elim (agreed given r legal apart q) [
      | inl kept ↦ inl (at_each is q ∙ now ∙ kept)
      | inr both ↦ inr (at_each is q ∙ now ∙ both.0, at_each is q ∙ now ∙ both.1)
    ]
  ]

-- however the run goes on
pub stays_agreed : (k : Checkup) → Valid (snapshot_of k) k.plan → (run : Run) (part : ℕ → Bool) → IsClosedPart k.plan run part → (rows : Listing Stamp)
    → at rows ≡ archive_of_part (snapshot_of k) k.plan part (length k.plan.actions) → StaysAgreed k run rows
stays_agreed k valid run part closed rows is a b later starts met legal =
    part_agrees (begun_at (snapshot_of k) k.plan valid a b (Start-from (snapshot_of k) a b met.snapshot met.replicas)) later part (closed_later k.plan run later part starts closed) legal met.apart rows is
