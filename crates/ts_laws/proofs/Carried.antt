-- What a valid plan leaves, entry by entry: the same as any run in which all is done.
use Rattle.std.proofs.Common.{◌≡◌, ◌≢◌, ◌⊎◌, ℕ, zero, suc, ◌+◌, ◌<◌, Bool, true, false, cond, List, [], ◌∷◌, ◌++◌, Some, slice_get, sym, refl, ap, ◌∙◌, subst, inl, inr, append-nil, arith}
use Rattle.std.proofs.lemmas.Bool.{true≢false}
use Rattle.std.proofs.lemmas.Option.{none-some, same_Some}
use Rattle.ts_name.specs.Paths.{Path, IsAbove, IsBefore}
use Rattle.ts_model.specs.Trees.{Tree, Print, sub, IsTree, AreApart}
use Rattle.ts_model.specs.Sync.{Snapshot, IsSnapshot, AreReplicas, HasReason, IsSkipped, Synced, is_skipped}
use Rattle.ts_model.specs.Plans.{EntryIs, is_from, source, Valid}
use Rattle.ts_model.specs.Runs.{Run, graft, marked, with_mark, after, start}
use Rattle.ts_model.specs.Headline.{AllDone, FinalArchive, Meets}
use Rattle.ts_model.specs.declared.plan.Side.{Side}
use Rattle.ts_model.specs.declared.plan.Side.TheVariants as side
use Rattle.ts_model.specs.declared.plan.Reason.{Reason}
use Rattle.ts_model.specs.declared.plan.Reason.TheVariants as reason
use Rattle.ts_model.specs.declared.plan.Entry.{Entry}
use Rattle.ts_model.specs.declared.plan.Kind.TheVariants.{Commit, Mark}
use Rattle.ts_model.specs.declared.plan.Plan.{Plan}
use Rattle.ts_laws.specs.Laws.{Finishes}
use Rattle.ts_model.proofs.Reasons.{decide_from, source_from_test, test_from_source}
use Rattle.ts_laws.specs.Carried.{copied, marked_all, IsCarriedOut, LeavesCarried}
use Rattle.ts_laws.proofs.Settings.{Setting, Begun, Ran, begun_at, ran_at, ran_from}
use Rattle.ts_laws.proofs.Basics.{Dec-both, Dec-either, Dec-not, IsTree-from_print, Start-from, stable}
use Rattle.ts_name.proofs.Prefixes.{decide_above}
use Rattle.ts_name.proofs.Order.{before_below, before_itself, before_trans}
use Rattle.ts_name.proofs.Basics.{by_each, at_each}
use Rattle.ts_laws.proofs.Grafts.{graft_at, graft_off}
use Rattle.ts_laws.proofs.Lists.{find_index}
use Rattle.ts_laws.proofs.Reasons.{other, IsCopy, decide_reason, decide_skipped}
use Rattle.ts_laws.proofs.Steps.{tree_on, same_entry, mark_is_marked}
use Rattle.ts_laws.proofs.Copies.{copied_after, untouched_at}
use Rattle.ts_laws.proofs.Plans.{in_order, commit_exists, mark_exists}
use Rattle.ts_laws.proofs.Marks.{mark_kept, mark_over_mark, archive_kept, marked_after}
use Rattle.ts_laws.proofs.Deciding.{decide_dirty}
use Rattle.ts_laws.proofs.Entries.{reason_has_entry}
use Rattle.ts_laws.proofs.Completion.{complete, done_acts}
use Rattle.ts_laws.proofs.Parts.{archive_is_closed}
use Rattle.ts_laws.proofs.Resume.{asks_for_same}
use Rattle.ts_laws.proofs.Finishing.{finish}
use Rattle.ts_model.proofs.Deciding.{same_names}

-- ---- tests of reasons

-- what tests skipped is
pub skipped_from_test : (r : Reason) → is_skipped r ≡ true → IsSkipped r
skipped_from_test reason.Conflict h = inl refl
skipped_from_test reason.Held h = inr refl
skipped_from_test _ h = cc

-- and the other way round
pub test_from_skipped : (r : Reason) → is_skipped r ≡ false → ¬ IsSkipped r
test_from_skipped r h still = true≢false (sym (elim still [ inl e ↦ ap is_skipped e | inr e ↦ ap is_skipped e ]) ∙ h)

-- ---- what is copied

-- a graft of an origin's own subtree keeps what is the origin's
graft_origin : (t origin : Tree) (p q : Path) → t q ≡ origin q → graft t p (sub origin p) q ≡ origin q
graft_origin t origin p q same = elim (decide_above p q) [
  | yes found ↦ ap (graft t p (sub origin p)) found.1 ∙ graft_at t p (sub origin p) found.0 ∙ ap origin (sym found.1)
  | no n ↦ graft_off t p (sub origin p) q (λ rest at. n (rest, at)) ∙ same
]

module _ (from : Side) (origin : Tree) where
  -- where no entry that is copied from the side is above, nothing changes
  pub copied_off : (t : Tree) (entries : List Entry) (q : Path)
      → ((j : ℕ) (x : Entry) → slice_get entries j ≡ Some x → source x.reason ≡ Some from → (rest : Path) → q ≢ x.path ++ rest)
      → copied from origin t entries q ≡ t q
  copied_off t [] q off = refl
  copied_off t (x ∷ xs) q off = go (is_from from x.reason) refl (λ u. copied_off u xs q (λ j y is. off (suc j) y is))
    where
      go : (test : Bool) → is_from from x.reason ≡ test → ((u : Tree) → copied from origin u xs q ≡ u q)
          → copied from origin (cond test (graft t x.path (sub origin x.path)) t) xs q ≡ t q
      go true e more = more (graft t x.path (sub origin x.path)) ∙ graft_off t x.path (sub origin x.path) q (off 0 x refl (source_from_test from x.reason e))
      go false e more = more t

  -- one part of the entries after another
  pub copied_append : (t : Tree) (xs ys : List Entry) → copied from origin t (xs ++ ys) ≡ copied from origin (copied from origin t xs) ys
  copied_append t [] ys = refl
  copied_append t (x ∷ xs) ys = copied_append (cond (is_from from x.reason) (graft t x.path (sub origin x.path)) t) xs ys

  -- what is the origin's stays so
  pub copied_kept : (t : Tree) (entries : List Entry) (q : Path) → t q ≡ origin q → copied from origin t entries q ≡ origin q
  copied_kept t [] q same = same
  copied_kept t (x ∷ xs) q same = go (is_from from x.reason) (λ u. copied_kept u xs q)
    where
      go : (test : Bool) → ((u : Tree) → u q ≡ origin q → copied from origin u xs q ≡ origin q)
          → copied from origin (cond test (graft t x.path (sub origin x.path)) t) xs q ≡ origin q
      go true more = more (graft t x.path (sub origin x.path)) (graft_origin t origin x.path q same)
      go false more = more t same

  -- at and below an entry that is copied from the side is what the origin has
  pub copied_at : (t : Tree) (entries : List Entry) (k : ℕ) (x : Entry) (rest : Path) → slice_get entries k ≡ Some x → source x.reason ≡ Some from
      → copied from origin t entries (x.path ++ rest) ≡ origin (x.path ++ rest)
  copied_at t [] k x rest is why = absurd (none-some x is)
  copied_at t (y ∷ ys) zero x rest is why = go (is_from from y.reason) (test_from_source from y.reason (ap (λ z. source z.reason) same ∙ why))
    where
      same : y ≡ x
      same = same_Some y x is

      go : (test : Bool) → test ≡ true → copied from origin (cond test (graft t y.path (sub origin y.path)) t) ys (x.path ++ rest) ≡ origin (x.path ++ rest)
      go true e = copied_kept (graft t y.path (sub origin y.path)) ys (x.path ++ rest)
          (subst (λ z. graft t y.path (sub origin y.path) (z.path ++ rest) ≡ origin (z.path ++ rest)) same (graft_at t y.path (sub origin y.path) rest))
      go false e = cc
  copied_at t (y ∷ ys) (suc k) x rest is why = copied_at (cond (is_from from y.reason) (graft t y.path (sub origin y.path)) t) ys k x rest is why

-- ---- what is marked

-- these are the plan's entries from a place on
abbrev pub AreFrom : Plan → ℕ → List Entry → Type 0
AreFrom plan k entries = (j : ℕ) (x : Entry) → slice_get entries j ≡ Some x → EntryIs plan (k + j) x

-- the first of them
pub first_from : (plan : Plan) (k : ℕ) (x : Entry) (xs : List Entry) → AreFrom plan k (x ∷ xs) → EntryIs plan k x
first_from plan k x xs from = let same : k + 0 ≡ k = omega arith in subst (λ z. EntryIs plan z x) same (from 0 x refl)

-- and the rest
pub rest_from : (plan : Plan) (k : ℕ) (x : Entry) (xs : List Entry) → AreFrom plan k (x ∷ xs) → AreFrom plan (suc k) xs
rest_from plan k x xs from j y is = let same : k + suc j ≡ suc k + j = omega arith in subst (λ z. EntryIs plan z y) same (from (suc j) y is)

-- those of the plan itself
all_from : (plan : Plan) → AreFrom plan 0 plan.entries
all_from plan j x is = let same : j ≡ 0 + j = omega arith in subst (λ z. EntryIs plan z x) same is

-- one part of the entries after another
pub marked_append : (s : Snapshot) (t : Print) (xs ys : List Entry) → marked_all s t (xs ++ ys) ≡ marked_all s (marked_all s t xs) ys
marked_append s t [] ys = refl
marked_append s t (x ∷ xs) ys = marked_append s (cond (is_skipped x.reason) t (with_mark s t (Some x))) xs ys

module _ (given : Setting) where
  open given use {s, plan, valid}

  -- where no mark reaches, the archive is the start's
  pub marked_off : (t : Print) (k : ℕ) (entries : List Entry) → AreFrom plan k entries → (q : Path)
      → ((e : ℕ) (x : Entry) → EntryIs plan e x → ¬ IsSkipped x.reason → (more : Path) → q ≡ x.path ++ more → (x.reason ≡ reason.Dir) × (more ≢ []))
      → t q ≡ s.archive q → marked_all s t entries q ≡ s.archive q
  marked_off t k [] from q off before = before
  marked_off t k (x ∷ xs) from q off before = go (is_skipped x.reason) refl (λ u. marked_off u (suc k) xs (rest_from plan k x xs from) q off)
    where
      go : (test : Bool) → is_skipped x.reason ≡ test → ((u : Print) → u q ≡ s.archive q → marked_all s u xs q ≡ s.archive q)
          → marked_all s (cond test t (with_mark s t (Some x))) xs q ≡ s.archive q
      go true e more = more t before
      go false e more = more (with_mark s t (Some x))
          (mark_kept given q t k x (first_from plan k x xs from) (off k x (first_from plan k x xs from) (test_from_skipped x.reason e)) before)

  -- what an entry's mark wrote stays
  pub marked_kept : (e : ℕ) (x : Entry) (rest : Path) → EntryIs plan e x → (x.reason ≡ reason.Dir → rest ≡ []) → (t : Print) (k : ℕ) (entries : List Entry) → e < k
      → AreFrom plan k entries → t (x.path ++ rest) ≡ marked s x.reason x.path rest → marked_all s t entries (x.path ++ rest) ≡ marked s x.reason x.path rest
  marked_kept e x rest is only_root t k [] less from before = before
  marked_kept e x rest is only_root t k (y ∷ ys) less from before =
      go (is_skipped y.reason) (λ u. marked_kept e x rest is only_root u (suc k) ys (omega (arith, less)) (rest_from plan k y ys from))
    where
      go : (test : Bool) → ((u : Print) → u (x.path ++ rest) ≡ marked s x.reason x.path rest → marked_all s u ys (x.path ++ rest) ≡ marked s x.reason x.path rest)
          → marked_all s (cond test t (with_mark s t (Some y))) ys (x.path ++ rest) ≡ marked s x.reason x.path rest
      go true more = more t before
      go false more = more (with_mark s t (Some y))
          (mark_over_mark given t e k x y rest is (first_from plan k y ys from) only_root
          (λ new over. before_itself x.path (before_trans x.path y.path x.path (in_order s plan valid e k x y is (first_from plan k y ys from) less)
          (subst (λ z. IsBefore y.path z) (sym over.is) (before_below y.path over.name over.rest)))) before)

  -- at an entry that isn't skipped is its mark
  pub marked_at : (t : Print) (k : ℕ) (entries : List Entry) → AreFrom plan k entries → (j : ℕ) (x : Entry) (rest : Path) → slice_get entries j ≡ Some x
      → ¬ IsSkipped x.reason → (x.reason ≡ reason.Dir → rest ≡ []) → marked_all s t entries (x.path ++ rest) ≡ marked s x.reason x.path rest
  marked_at t k [] from j x rest is markable only_root = absurd (none-some x is)
  marked_at t k (y ∷ ys) from zero x rest is markable only_root = go (is_skipped y.reason) refl
    where
      same : y ≡ x
      same = same_Some y x is

      go : (test : Bool) → is_skipped y.reason ≡ test → marked_all s (cond test t (with_mark s t (Some y))) ys (x.path ++ rest) ≡ marked s x.reason x.path rest
      go true e = absurd (markable (subst (λ z. IsSkipped z.reason) same (skipped_from_test y.reason e)))
      go false e = marked_kept k x rest (subst (λ z. EntryIs plan k z) same (first_from plan k y ys from)) only_root (with_mark s t (Some y)) (suc k) ys (omega arith)
          (rest_from plan k y ys from)
          (subst (λ z. graft t y.path (marked s y.reason y.path) (z.path ++ rest) ≡ marked s z.reason z.path rest) same (graft_at t y.path (marked s y.reason y.path) rest))
  marked_at t k (y ∷ ys) from (suc j) x rest is markable only_root =
      marked_at (cond (is_skipped y.reason) t (with_mark s t (Some y))) (suc k) ys (rest_from plan k y ys from) j x rest is markable only_root

-- ---- a run in which all is done leaves the same

-- the reason of what is copied onto a side
abbrev pub reason_onto : Side → Reason
reason_onto side.First = reason.Second
reason_onto side.Second = reason.First

-- whose source is the other one
source_onto : (on : Side) → source (reason_onto on) ≡ Some (other on)
source_onto side.First = refl
source_onto side.Second = refl

module _ (given : Ran) (done : AllDone given.begun.setting.plan given.r) where
  open given use {begun.{setting.{s, plan, valid, lawful, a, b}, begin}, r, legal, contents}

  -- a copy onto a side has that reason
  has_from_copy : (on : Side) (p : Path) → IsCopy s p (other on) → HasReason s p (reason_onto on)
  has_from_copy side.First p copy = (copy.edge.below, (copy.edge.no_dirs, copy.differ, stable (decide_dirty s lawful side.Second p) copy.dirty, copy.clean))
  has_from_copy side.Second p copy = (copy.edge.below, (copy.edge.no_dirs, copy.differ, stable (decide_dirty s lawful side.First p) copy.dirty, copy.clean))

  -- what the entries that are copied onto a side make of it
  abbrev Ends : Side → Tree
  Ends on = copied (other on) (tree_on (start s a b) (other on)) (tree_on (start s a b) on) plan.entries

  -- an entry is copied onto a side, at a path or above it
  abbrev Brings : Side → Path → Entry → Type 0
  Brings on q x = (source x.reason ≡ Some (other on)) × IsAbove x.path q

  -- each side is left with what its entries copy
  pub ends_copied : (on : Side) → tree_on (after s plan (start s a b) r) on ≡ Ends on
  ends_copied on = by_each (tree_on (after s plan (start s a b) r) on) (Ends on) (λ q.
      go q (find_index (Brings on q) (λ x. Dec-both (decide_from (other on) x.reason) (decide_above x.path q)) plan.entries))
    where
      go : (q : Path) → ((k : ℕ) × (x : Entry) × EntryIs plan k x × Brings on q x) ⊎ ((k : ℕ) (x : Entry) → EntryIs plan k x → ¬ Brings on q x)
          → tree_on (after s plan (start s a b) r) on q ≡ Ends on q
      go q (inl (k, x, is, (from_is, (rest, at)))) =
          let commit = commit_exists s plan valid k x (other on) is from_is in
          subst (λ z. tree_on (after s plan (start s a b) r) on z ≡ Ends on z) (sym at)
          (at_each (copied_after given.begun commit.0 k x on commit.1 is from_is r legal contents (done_acts given done commit.0 (Commit k) commit.1)) rest
          ∙ sym (copied_at (other on) (tree_on (start s a b) (other on)) (tree_on (start s a b) on) plan.entries k x rest is from_is))
      go q (inr none) =
          untouched_at given.begun on q (λ p copy rest at.
          let found = reason_has_entry s plan valid p (reason_onto on) (has_from_copy on p copy) in
          none found.0 found.1 found.2 (ap source found.4 ∙ source_onto on, (rest, at ∙ ap (λ z. z ++ rest) (sym found.3)))) r legal
          ∙ sym (copied_off (other on) (tree_on (start s a b) (other on)) (tree_on (start s a b) on) plan.entries q
          (λ j x is why rest at. none j x is (why, (rest, at))))

  -- the mark of an entry reaches a path
  abbrev Reaches : Path → Entry → Type 0
  Reaches q x = (¬ IsSkipped x.reason) × ((x.path ≡ q) ⊎ ((x.reason ≢ reason.Dir) × IsAbove x.path q))

  -- whether it does
  decide_reaches : (q : Path) (x : Entry) → Dec (Reaches q x)
  decide_reaches q x = Dec-both (Dec-not (decide_skipped x.reason)) (Dec-either (same_names x.path q) (Dec-both (Dec-not (decide_reason x.reason reason.Dir)) (decide_above x.path q)))

  -- the archive is left with the marks of the entries
  pub ends_marked : (after s plan (start s a b) r).archive ≡ marked_all s s.archive plan.entries
  ends_marked = by_each (after s plan (start s a b) r).archive (marked_all s s.archive plan.entries) (λ q. go q (find_index (Reaches q) (decide_reaches q) plan.entries))
    where
      found_at : (q : Path) (k : ℕ) (x : Entry) → EntryIs plan k x → ¬ IsSkipped x.reason → (rest : Path) → q ≡ x.path ++ rest → (x.reason ≡ reason.Dir → rest ≡ [])
          → (after s plan (start s a b) r).archive q ≡ marked_all s s.archive plan.entries q
      found_at q k x is markable rest at only_root =
          let mark = mark_exists s plan valid k x is markable in
          subst (λ z. (after s plan (start s a b) r).archive z ≡ marked_all s s.archive plan.entries z) (sym at)
          (marked_after given.begun.setting mark.0 k x rest mark.1 is only_root r legal (done_acts given done mark.0 (Mark k) mark.1)
          ∙ sym (marked_at given.begun.setting s.archive 0 plan.entries (all_from plan) k x rest is markable only_root))

      off : (q : Path) → ((k : ℕ) (x : Entry) → EntryIs plan k x → ¬ Reaches q x)
          → (e : ℕ) (x : Entry) → EntryIs plan e x → ¬ IsSkipped x.reason → (more : Path) → q ≡ x.path ++ more → (x.reason ≡ reason.Dir) × (more ≢ [])
      off q none e x is markable more at = (
        stable (decide_reason x.reason reason.Dir) (λ ne. none e x is (markable, inr (ne, (more, at)))),
        λ empty. none e x is (markable, inl (sym (at ∙ ap (λ z. x.path ++ z) empty ∙ append-nil x.path))),
      )

      go : (q : Path) → ((k : ℕ) × (x : Entry) × EntryIs plan k x × Reaches q x) ⊎ ((k : ℕ) (x : Entry) → EntryIs plan k x → ¬ Reaches q x)
          → (after s plan (start s a b) r).archive q ≡ marked_all s s.archive plan.entries q
      go q (inl (k, x, is, (markable, inl same))) = found_at q k x is markable [] (sym same ∙ sym (append-nil x.path)) (λ _. refl)
      go q (inl (k, x, is, (markable, inr (ne, (rest, at))))) = found_at q k x is markable rest at (λ new. absurd (ne new))
      go q (inr none) =
          archive_kept given.begun.setting q r legal (record {
            each = λ i e x acted kind is more at.
                let found = mark_is_marked s plan valid i e kind in
                off q none e x is (subst (λ z. ¬ IsSkipped z.reason) (same_entry plan e found.0 x found.1 is) found.2) more at;
          })
          ∙ sym (marked_off given.begun.setting s.archive 0 plan.entries (all_from plan) q (off q none) refl)

  -- so what the entries leave is the pair and the final archive
  pub carried : IsCarriedOut s plan a b
  carried = go (complete given done)
    where
      first : (after s plan (start s a b) r).first ≡ copied side.Second b a plan.entries
      first = ends_copied side.First

      second : (after s plan (start s a b) r).second ≡ copied side.First a b plan.entries
      second = ends_copied side.Second

      go : Synced s a b (after s plan (start s a b) r).first (after s plan (start s a b) r).second
          × FinalArchive s (after s plan (start s a b) r).first (after s plan (start s a b) r).archive → IsCarriedOut s plan a b
      go ended =
          let w = after s plan (start s a b) r in
          let closed = archive_is_closed given.begun.setting r legal in
          let asks = asks_for_same given w.first w.second ended.0 closed.0 closed.1 in
          record {
            pair = subst (λ t. Synced s a b (copied side.Second b a plan.entries) t) second (subst (λ t. Synced s a b t w.second) first ended.0);
            archive = subst (λ t. FinalArchive s (copied side.Second b a plan.entries) t) ends_marked (subst (λ t. FinalArchive s t w.archive) first ended.1);
            trees = (
              subst (λ t. IsTree t) first (IsTree-from_print w.first asks.lawful.first),
              subst (λ t. IsTree t) second (IsTree-from_print w.second asks.lawful.second),
            );
            archive_tree = subst (λ t. IsTree t) (sym closed.2 ∙ ends_marked) asks.lawful.archive;
          }

-- ---- the law

-- a valid plan can be run to its end, so its entries leave the pair and the final archive
pub carried_out : (s : Snapshot) (plan : Plan) (a b : Tree) → Valid s plan → IsSnapshot s → AreReplicas s a b → AreApart (Meets a b []) → IsCarriedOut s plan a b
carried_out s plan a b valid lawful are contents = go (finish begun [] tt (λ i. refl))
  where
    begun : Begun
    begun = begun_at s plan valid a b (Start-from s a b lawful are)

    go : (more : Run) × Finishes s plan a b [] more → IsCarriedOut s plan a b
    go (more, finishes) = carried (ran_at begun more finishes.legal (λ x y met_x met_y same. contents x y (finishes.met x met_x) (finishes.met y met_y) same)) finishes.done

-- and so does any run in which all is done
pub leaves_carried : (s : Snapshot) (plan : Plan) → Valid s plan → LeavesCarried s plan
leaves_carried s plan valid a b r met legal done =
    let given = ran_from s plan valid a b r met legal in
    (ends_copied given done side.First, ends_copied given done side.Second, ends_marked given done)
