-- A built plan breaks no rule.
use Rattle.std.proofs.Common.{◌≡◌, ◌≢◌, ◌⊎◌, ℕ, zero, suc, ◌+◌, ◌*◌, ◌<◌, ◌≤◌, sum_by, List, [], ◌∷◌, ◌++◌, length, Option, Some, None, Contains, slice_get, refl, sym, ap, ◌∙◌, subst, inl, inr, arith}
use Rattle.std.proofs.lemmas.Bool.{cases_order}
use Rattle.std.proofs.lemmas.Option.{none-some, slice_get_within, slice_get-get_or, get_or_from_slice_get}
use Rattle.ts_name.specs.Paths.{Path, IsAbove, IsBefore}
use Rattle.ts_model.specs.Trees.{Listing, at, IsListing}
use Rattle.ts_model.specs.Sync.{Snapshot, listed_snapshot, replica, IsSkipped, treatment}
use Rattle.ts_model.specs.Plans.{EntryIs, ActionIs, KindIs, source, AscendBelow, Wrong, Valid, copied_side}
use Rattle.ts_model.specs.declared.plan.PlanRule.TheVariants as rule
use Rattle.ts_model.specs.declared.hold.Rule.{Rule}
use Rattle.ts_model.specs.declared.row.Content.TheVariants.{File}
use Rattle.ts_model.specs.declared.row.Stamp.{Stamp}
use Rattle.ts_model.specs.declared.plan.Side.{Side}
use Rattle.ts_model.specs.declared.plan.Side.TheVariants as side
use Rattle.ts_model.specs.declared.plan.Entry.{Entry}
use Rattle.ts_model.specs.declared.plan.Action.{Action}
use Rattle.ts_model.specs.declared.plan.Kind.{Kind}
use Rattle.ts_model.specs.declared.plan.Kind.TheVariants.{Piece, Commit, Mark}
use Rattle.ts_model.specs.declared.plan.Reason.{Reason}
use Rattle.ts_model.specs.declared.plan.Reason.TheVariants as reason
use Rattle.ts_model.specs.declared.plan.Plan.{Plan}
use Rattle.ts_name.proofs.Order.{before_itself}
use Rattle.ts_name.proofs.Prefixes.{above_turned}
use Rattle.ts_recon.specs.Reasons.{AreReasons}
use Rattle.ts_table.specs.Tables.{rows_below}
use Rattle.ts_plan_build.specs.Blocks.{each_below, pieces_of, commit_of, mark_of, some_of, copy_block, block, block_by}
use Rattle.ts_plan_build.specs.Built.{entry_of, IsNearestMark, IsAboveMark, IsLocated, IsBuilt, AreOrdered}
use Rattle.ts_plan_build.proofs.Places.{get_right, get_cases, get_one, each_below_at}
use Rattle.ts_plan_build.proofs.Inside.{pieces_at, CopyAt, piece, commit, mark, copy_at, commit_there, mark_there}
use Rattle.ts_plan_build.proofs.Dirs.{in_order}
use Rattle.ts_plan_build.proofs.Ranges.{IsLawful, lawful_from, piece_there, pieces_once, below_order}
use Rattle.ts_name.proofs.Basics.{same_at, element_at, got_front}
use Rattle.ts_model.specs.declared.plan.Treatment.{Treatment}
use Rattle.ts_model.specs.declared.plan.Treatment.TheVariants.{Copied, Agreed, NewDirectory, Skipped}
use Rattle.ts_model.proofs.Reasons.{left_from_skipped, skipped_from_left}

-- ---- kinds are apart

piece_commit : (e offset len x : ℕ) (p : Path) → Piece e offset len p ≢ Commit x
piece_commit e offset len x p f = cc

piece_mark : (e offset len x : ℕ) (p : Path) → Piece e offset len p ≢ Mark x
piece_mark e offset len x p f = cc

commit_mark : (e x : ℕ) → Commit e ≢ Mark x
commit_mark e x f = cc

-- an element of a list
contains_at : (xs : List ℕ) (i x : ℕ) → slice_get xs i ≡ Some x → Contains xs x
contains_at xs i x h = (i, slice_get_within xs i x h, get_or_from_slice_get xs i x x h)

-- ---- rules of the entries

module _ (s : Snapshot) (plan : Plan) (found : AreReasons s plan.entries) where
  pub entries_ascend : (place : ℕ) → ¬ Wrong s plan rule.EntriesAscend place
  entries_ascend place h = h.6 (in_order plan.entries found.ascending h.0 place h.1 h.2 (let e : place ≡ h.0 + 1 = h.3 in omega arith) h.4 h.5)

  pub contains_entry : (k : ℕ) (e : Entry) → slice_get plan.entries k ≡ Some e → Contains plan.entries e
  contains_entry k e h = (k, slice_get_within plan.entries k e h, get_or_from_slice_get plan.entries k e e h)

  pub reasons_hold : (place : ℕ) → ¬ Wrong s plan rule.ReasonsHold place
  reasons_hold place h = h.2 (found.each h.0 (contains_entry place h.0 h.1))

  pub entries_complete : (place : ℕ) → ¬ Wrong s plan rule.EntriesComplete place
  entries_complete place h =
      let c = found.all h.0 h.1 h.2 in
      h.3 c.0 (record { path = h.0; reason = h.1 }) (slice_get-get_or plan.entries c.0 (record { path = h.0; reason = h.1 }) c.1 ∙ ap (λ (z : Entry). Some z) c.2) refl

-- ---- ascending numbers

ascend_more : (n y m : ℕ) (xs : List ℕ) → AscendBelow n xs → n ≤ y → y < m → AscendBelow m (xs ++ y ∷ [])
ascend_more n y m [] h le l = l
ascend_more n y m (x ∷ []) h le l = ((let f : x < n = h in omega arith), l)
ascend_more n y m (x ∷ z ∷ zs) h le l = (h.0, ascend_more n y m (z ∷ zs) h.1 le l)

ascend_each : (base m n : ℕ) → base + m ≤ n → AscendBelow n (each_below (λ i. base + i) m)
ascend_each base zero n le = tt
ascend_each base (suc m) n le = ascend_more (base + m) (base + m) n (each_below (λ i. base + i) m) (ascend_each base m (base + m) (omega arith)) (omega arith) (omega arith)

-- ---- rules of the actions

abbrev pub side_rows : Listing Stamp → Listing Stamp → Side → Listing Stamp
side_rows F S side.First = F
side_rows F S side.Second = S

module _ (F S : Listing Stamp) (plan : Plan) (w : IsBuilt F S plan.entries plan.actions (length plan.entries)) where
  -- the pieces of an entry that is copied from a side
  abbrev pub pieces : ℕ → Entry → Side → List Action
  pieces e entry from = pieces_of e (rows_below entry.path (side_rows F S from))

  pub located : (e : ℕ) (entry : Entry) → EntryIs plan e entry → IsLocated F S plan.entries plan.actions e entry
  located e entry is = w.located e entry (slice_get_within plan.entries e entry is) is

  -- the number of the first action of an entry
  base : (e : ℕ) (entry : Entry) → EntryIs plan e entry → ℕ
  base e entry is = length ((located e entry is).before)

  -- what an action of an entry is
  pub data View (e : ℕ) (entry : Entry) (l : IsLocated F S plan.entries plan.actions e entry) (i : ℕ) (a : Action) : Type 0 where
    is_piece : (from : Side) (j : ℕ) → source entry.reason ≡ Some from → i ≡ length l.before + j → slice_get (pieces e entry from) j ≡ Some a → View e entry l i a
    is_commit : (from : Side) → source entry.reason ≡ Some from → i ≡ length l.before + length (pieces e entry from) → a ≡ commit_of e (length l.before) (length (pieces e entry from)) → View e entry l i a
    is_copy_mark : (from : Side) → source entry.reason ≡ Some from → i ≡ length l.before + (length (pieces e entry from) + 1) → a ≡ mark_of e l.above (Some (length l.before + length (pieces e entry from))) → View e entry l i a
    is_mark : source entry.reason ≡ None → ¬ IsSkipped entry.reason → i ≡ length l.before → a ≡ mark_of e l.above None → View e entry l i a

  in_block : (e : ℕ) (entry : Entry) (l : IsLocated F S plan.entries plan.actions e entry) (i : ℕ) (a : Action) → ActionIs plan i a → entry_of a.kind ≡ e
      → (j : ℕ) × (i ≡ length l.before + j) × (slice_get (block F S e entry.path entry.reason l.above (length l.before)) j ≡ Some a)
  in_block e entry l i a h of = go (get_cases l.before _ i a (subst (λ (z : List Action). slice_get z i ≡ Some a) l.here h))
    where
      go : (slice_get l.before i ≡ Some a) ⊎ ((j : ℕ) × (i ≡ length l.before + j) × (slice_get (block F S e entry.path entry.reason l.above (length l.before) ++ l.after) j ≡ Some a))
          → (j : ℕ) × (i ≡ length l.before + j) × (slice_get (block F S e entry.path entry.reason l.above (length l.before)) j ≡ Some a)
      go (inl before) = absurd (l.none_before i a before of)
      go (inr later) = elim (get_cases (block F S e entry.path entry.reason l.above (length l.before)) l.after later.0 a later.2) [
        | inl here ↦ (later.0, later.1, here)
        | inr after ↦ absurd (l.none_after after.0 a after.2 of)
      ]

  from_block : (e : ℕ) (entry : Entry) (l : IsLocated F S plan.entries plan.actions e entry) (j : ℕ) (a : Action) → slice_get (block F S e entry.path entry.reason l.above (length l.before)) j ≡ Some a → ActionIs plan (length l.before + j) a
  from_block e entry l j a h = subst (λ (z : List Action). slice_get z (length l.before + j) ≡ Some a) (sym l.here) (get_right l.before _ (length l.before + j) j a refl (got_front _ l.after j a h))

  -- each action of an entry is one of these
  pub view : (e : ℕ) (entry : Entry) (l : IsLocated F S plan.entries plan.actions e entry) (i : ℕ) (a : Action) → ActionIs plan i a → entry_of a.kind ≡ e → View e entry l i a
  view e entry l i a h of = go (treatment entry.reason) refl (in_block e entry l i a h of)
    where
      copied : (from : Side) → source entry.reason ≡ Some from → (j : ℕ) → i ≡ length l.before + j → CopyAt e (rows_below entry.path (side_rows F S from)) l.above (length l.before) j a → View e entry l i a
      copied from is j at (piece here) = is_piece from j is at here
      copied from is j at (commit f g) = is_commit from is (at ∙ ap (λ (n : ℕ). length l.before + n) f) g
      copied from is j at (mark f g) = is_copy_mark from is (at ∙ ap (λ (n : ℕ). length l.before + n) f) g

      alone : source entry.reason ≡ None → ¬ IsSkipped entry.reason → (j : ℕ) → i ≡ length l.before + j → slice_get (mark_of e l.above None ∷ []) j ≡ Some a → View e entry l i a
      alone none plain j at here = let one = get_one (mark_of e l.above None) j a here in is_mark none plain (let z : j ≡ 0 = one.0 in omega arith) one.1

      plain_by : (how : Treatment) → treatment entry.reason ≡ how → how ≢ Skipped → ¬ IsSkipped entry.reason
      plain_by how is plain skipped = plain (sym is ∙ left_from_skipped entry.reason skipped)

      go : (how : Treatment) → treatment entry.reason ≡ how → (j : ℕ) × (i ≡ length l.before + j) × (slice_get (block_by F S e entry.path how l.above (length l.before)) j ≡ Some a)
          → View e entry l i a
      go (Copied side.First) is found = copied side.First (ap copied_side is) found.0 found.1 (copy_at e (rows_below entry.path F) l.above (length l.before) found.0 a found.2)
      go (Copied side.Second) is found = copied side.Second (ap copied_side is) found.0 found.1 (copy_at e (rows_below entry.path S) l.above (length l.before) found.0 a found.2)
      go Agreed is found = alone (ap copied_side is) (plain_by Agreed is (λ e. cc)) found.0 found.1 found.2
      go NewDirectory is found = alone (ap copied_side is) (plain_by NewDirectory is (λ e. cc)) found.0 found.1 found.2
      go Skipped is found = absurd (none-some a found.2)

  -- a copied entry's block
  copied_block : (e : ℕ) (entry : Entry) (from : Side) (above : Option ℕ) (at : ℕ) → source entry.reason ≡ Some from → block F S e entry.path entry.reason above at ≡ copy_block e (rows_below entry.path (side_rows F S from)) above at
  copied_block e entry from above at is = go (treatment entry.reason) from is
    where
      go : (how : Treatment) (from : Side) → copied_side how ≡ Some from → block_by F S e entry.path how above at ≡ copy_block e (rows_below entry.path (side_rows F S from)) above at
      go (Copied side.First) side.First h = refl
      go (Copied side.Second) side.Second h = refl
      go _ _ h = cc

  commit_here : (e : ℕ) (entry : Entry) (l : IsLocated F S plan.entries plan.actions e entry) (from : Side) → source entry.reason ≡ Some from
      → ActionIs plan (length l.before + length (pieces e entry from)) (commit_of e (length l.before) (length (pieces e entry from)))
  commit_here e entry l from is = from_block e entry l (length (pieces e entry from)) _ (subst (λ (z : List Action). slice_get z (length (pieces e entry from)) ≡ Some (commit_of e (length l.before) (length (pieces e entry from)))) (sym (copied_block e entry from l.above (length l.before) is)) (commit_there e (rows_below entry.path (side_rows F S from)) l.above (length l.before)))

  -- an action has an entry
  pub entry_here : (i : ℕ) (a : Action) → ActionIs plan i a → (entry : Entry) × EntryIs plan (entry_of a.kind) entry
  entry_here i a h = element_at plan.entries (entry_of a.kind) (w.below i a h)

  mark_here : (e : ℕ) (entry : Entry) (l : IsLocated F S plan.entries plan.actions e entry) (from : Side) → source entry.reason ≡ Some from
      → ActionIs plan (length l.before + (length (pieces e entry from) + 1)) (mark_of e l.above (Some (length l.before + length (pieces e entry from))))
  mark_here e entry l from is = from_block e entry l (length (pieces e entry from) + 1) _ (subst (λ (z : List Action). slice_get z (length (pieces e entry from) + 1) ≡ Some (mark_of e l.above (Some (length l.before + length (pieces e entry from))))) (sym (copied_block e entry from l.above (length l.before) is)) (mark_there e (rows_below entry.path (side_rows F S from)) l.above (length l.before)))

  -- the kind of an action tells its entry
  pub of_kind : (a : Action) (kind : Kind) (e : ℕ) → a.kind ≡ kind → entry_of kind ≡ e → entry_of a.kind ≡ e
  of_kind a kind e is f = ap entry_of is ∙ f

  -- so there is an entry for it
  entry_by : (e i : ℕ) (a : Action) (kind : Kind) → ActionIs plan i a → a.kind ≡ kind → entry_of kind ≡ e → (entry : Entry) × EntryIs plan e entry
  entry_by e i a kind h is f = let found = entry_here i a h in (found.0, subst (λ (n : ℕ). EntryIs plan n found.0) (of_kind a kind e is f) found.1)

  -- a commit is that of a copied entry
  record CommitAt (e : ℕ) (entry : Entry) (l : IsLocated F S plan.entries plan.actions e entry) (i : ℕ) (a : Action) : Type 0 where
    from : Side
    copied : source entry.reason ≡ Some from
    place : i ≡ length l.before + length (pieces e entry from)
    is : a ≡ commit_of e (length l.before) (length (pieces e entry from))

  commit_at : (e : ℕ) (entry : Entry) (l : IsLocated F S plan.entries plan.actions e entry) (i : ℕ) (a : Action) → a.kind ≡ Commit e → View e entry l i a → CommitAt e entry l i a
  commit_at e entry l i a k (is_piece from j is at here) = let one = pieces_at e (rows_below entry.path (side_rows F S from)) j a here in absurd (piece_commit _ _ _ _ _ (sym (ap (λ (z : Action). z.kind) one.is) ∙ k))
  commit_at e entry l i a k (is_commit from is at f) = record { from = from; copied = is; place = at; is = f }
  commit_at e entry l i a k (is_copy_mark from is at f) = absurd (commit_mark _ _ (sym k ∙ ap (λ (z : Action). z.kind) f))
  commit_at e entry l i a k (is_mark is plain at f) = absurd (commit_mark _ _ (sym k ∙ ap (λ (z : Action). z.kind) f))

  -- two sides that an entry is copied from are one
  same_side : (r : Reason) (x y : Side) → source r ≡ Some x → source r ≡ Some y → x ≡ y
  same_side r x y h k = let f : Some x ≡ Some y = sym h ∙ k in cc

  -- the entry of a commit, and where the commit stands
  commit_found : (e i : ℕ) (a : Action) → ActionIs plan i a → a.kind ≡ Commit e → (entry : Entry) × ((is : EntryIs plan e entry) × CommitAt e entry (located e entry is) i a)
  commit_found e i a h k =
      let found = entry_by e i a (Commit e) h k refl in
      let l = located e found.0 found.1 in
      (found.0, (found.1, commit_at e found.0 l i a k (view e found.0 l i a h (of_kind a (Commit e) e k refl))))

  -- the places of a commit are one
  one_commit_place : (e i j : ℕ) (a b : Action) (entry : Entry) (is : EntryIs plan e entry) → ActionIs plan j b → b.kind ≡ Commit e → CommitAt e entry (located e entry is) i a → i ≡ j
  one_commit_place e i j a b entry is h k first =
      let of : entry_of b.kind ≡ e = of_kind b (Commit e) e k refl in
      let second = commit_at e entry (located e entry is) j b k (view e entry (located e entry is) j b h of) in
      first.place ∙ ap (λ (from : Side). length ((located e entry is).before) + length (pieces e entry from)) (same_side entry.reason first.from second.from first.copied second.copied) ∙ sym second.place

  -- which entries are marked, and where
  record MarkAt (e : ℕ) (entry : Entry) (l : IsLocated F S plan.entries plan.actions e entry) (i : ℕ) (a : Action) : Type 0 where
    commit : Option ℕ
    plain : ¬ IsSkipped entry.reason
    is : a ≡ mark_of e l.above commit
    later : length l.before ≤ i
    copied : (from : Side) → source entry.reason ≡ Some from → (commit ≡ Some (length l.before + length (pieces e entry from))) × (i ≡ length l.before + (length (pieces e entry from) + 1))
    alone : source entry.reason ≡ None → (commit ≡ None) × (i ≡ length l.before)

  copied_plain : (r : Reason) (from : Side) → source r ≡ Some from → ¬ IsSkipped r
  copied_plain r from h (inl e) = none-some from (ap source (sym e) ∙ h)
  copied_plain r from h (inr e) = none-some from (ap source (sym e) ∙ h)

  mark_at : (e : ℕ) (entry : Entry) (l : IsLocated F S plan.entries plan.actions e entry) (i : ℕ) (a : Action) → a.kind ≡ Mark e → View e entry l i a → MarkAt e entry l i a
  mark_at e entry l i a k (is_piece from j is at here) = let one = pieces_at e (rows_below entry.path (side_rows F S from)) j a here in absurd (piece_mark _ _ _ _ _ (sym (ap (λ (z : Action). z.kind) one.is) ∙ k))
  mark_at e entry l i a k (is_commit from is at f) = absurd (commit_mark _ _ (sym (ap (λ (z : Action). z.kind) f) ∙ k))
  mark_at e entry l i a k (is_copy_mark from is at f) = record {
    commit = Some (length l.before + length (pieces e entry from));
    plain = copied_plain entry.reason from is;
    is = f;
    later = omega arith;
    copied = λ other h. (ap (λ (z : Side). Some (length l.before + length (pieces e entry z))) (same_side entry.reason from other is h), at ∙ ap (λ (z : Side). length l.before + (length (pieces e entry z) + 1)) (same_side entry.reason from other is h));
    alone = λ h. absurd (none-some from (sym h ∙ is));
  }
  mark_at e entry l i a k (is_mark is plain at f) = record {
    commit = None;
    plain = plain;
    is = f;
    later = omega arith;
    copied = λ other h. absurd (none-some other (sym is ∙ h));
    alone = λ h. (refl, at);
  }

  mark_found : (e i : ℕ) (a : Action) → ActionIs plan i a → a.kind ≡ Mark e → (entry : Entry) × ((is : EntryIs plan e entry) × MarkAt e entry (located e entry is) i a)
  mark_found e i a h k =
      let found = entry_by e i a (Mark e) h k refl in
      let l = located e found.0 found.1 in
      (found.0, (found.1, mark_at e found.0 l i a k (view e found.0 l i a h (of_kind a (Mark e) e k refl))))

  source_cases : (r : Reason) → (source r ≡ None) ⊎ ((from : Side) × (source r ≡ Some from))
  source_cases r = go (treatment r)
    where
      go : (how : Treatment) → (copied_side how ≡ None) ⊎ ((from : Side) × (copied_side how ≡ Some from))
      go (Copied from) = inr (from, refl)
      go Agreed = inl refl
      go NewDirectory = inl refl
      go Skipped = inl refl

  one_mark_place : (e i j : ℕ) (a b : Action) (entry : Entry) (is : EntryIs plan e entry) → ActionIs plan j b → b.kind ≡ Mark e → MarkAt e entry (located e entry is) i a → i ≡ j
  one_mark_place e i j a b entry is h k first =
      let of : entry_of b.kind ≡ e = of_kind b (Mark e) e k refl in
      let second = mark_at e entry (located e entry is) j b k (view e entry (located e entry is) j b h of) in
      elim (source_cases entry.reason) [
        | inl none ↦ (first.alone none).1 ∙ sym ((second.alone none).1)
        | inr copied ↦ (first.copied copied.0 copied.1).1 ∙ sym ((second.copied copied.0 copied.1).1)
      ]

  -- each copied entry has one commit
  pub one_commit : (s : Snapshot) (place : ℕ) → ¬ Wrong s plan rule.OneCommit place
  one_commit s place (inl h) =
      let found = commit_found h.0 place h.1.0 h.1.1 h.1.2 in
      elim h.2 [
        | inl unwanted ↦ unwanted (found.0, found.1.1.from, (found.1.0, found.1.1.copied))
        | inr twice ↦ let same : place ≡ twice.0 = one_commit_place h.0 place twice.0 h.1.0 twice.3.0 found.0 found.1.0 twice.3.1 (twice.3.2 ∙ twice.4) found.1.1 in let l : twice.0 < place = twice.2 in absurd (omega arith)
      ]
  one_commit s place (inr h) = h.3 _ (_, commit_here h.0 h.2.0 (located h.0 h.2.0 h.2.2.0) h.2.1 h.2.2.1, refl)

  marked_here : (e : ℕ) (entry : Entry) (is : EntryIs plan e entry) → ¬ IsSkipped entry.reason → (i : ℕ) × KindIs plan i (Mark e)
  marked_here e entry is plain = elim (source_cases entry.reason) [
    | inr copied ↦ (_, (_, mark_here e entry (located e entry is) copied.0 copied.1, refl))
    | inl none ↦ (_, (_, from_block e entry (located e entry is) 0 (mark_of e ((located e entry is).above) None) (alone_block (treatment entry.reason) none (λ e. plain (skipped_from_left entry.reason e))), refl))
  ]
    where
      alone_block : (how : Treatment) → copied_side how ≡ None → how ≢ Skipped
          → slice_get (block_by F S e entry.path how ((located e entry is).above) (length ((located e entry is).before))) 0 ≡ Some (mark_of e ((located e entry is).above) None)
      alone_block Agreed none plain = refl
      alone_block NewDirectory none plain = refl
      alone_block (Copied from) none plain = cc
      alone_block Skipped none plain = absurd (plain refl)

  -- each entry that isn't skipped has one mark
  pub one_mark : (s : Snapshot) (place : ℕ) → ¬ Wrong s plan rule.OneMark place
  one_mark s place (inl h) =
      let found = mark_found h.0 place h.1.0 h.1.1 h.1.2 in
      elim h.2 [
        | inl unwanted ↦ unwanted (found.0, found.1.0, found.1.1.plain)
        | inr twice ↦ let same : place ≡ twice.0 = one_mark_place h.0 place twice.0 h.1.0 twice.3.0 found.0 found.1.0 twice.3.1 (twice.3.2 ∙ twice.4) found.1.1 in let l : twice.0 < place = twice.2 in absurd (omega arith)
      ]
  one_mark s place (inr h) = let found = marked_here h.0 h.2.0 h.2.1 h.2.2 in h.3 found.0 found.1

  -- a mark waits for the commit of its entry
  pub commit_first : (s : Snapshot) (place : ℕ) → ¬ Wrong s plan rule.CommitFirst place
  commit_first s place h =
      let e = h.0 in
      let mark_is = mark_found e place h.2.0 h.2.1 h.2.2 in
      let at = commit_at e mark_is.0 (located e mark_is.0 mark_is.1.0) h.1 h.3.0 h.3.2 (view e mark_is.0 (located e mark_is.0 mark_is.1.0) h.1 h.3.0 h.3.1 (of_kind h.3.0 (Commit e) e h.3.2 refl)) in
      let the_commit = (mark_is.1.1.copied at.from at.copied).0 in
      h.4 (h.2.0, h.2.1, waits h.2.0 h.1 ((located e mark_is.0 mark_is.1.0).above) e mark_is.1.1.commit mark_is.1.1.is (the_commit ∙ ap (λ (n : ℕ). Some n) (sym at.place)))
    where
      waits : (a : Action) (i : ℕ) (above : Option ℕ) (e : ℕ) (commit : Option ℕ) → a ≡ mark_of e above commit → commit ≡ Some i → Contains a.preds i
      waits a i above e c is f =
          subst (λ (z : Action). Contains z.preds i) (sym (is ∙ ap (λ (o : Option ℕ). mark_of e above o) f)) (contains_at (some_of above ++ i ∷ []) (length (some_of above)) i (get_right (some_of above) (i ∷ []) (length (some_of above)) 0 i (omega arith) refl))

  -- a commit waits for the pieces of its entry
  pub pieces_first : (s : Snapshot) (place : ℕ) → ¬ Wrong s plan rule.PiecesFirst place
  pieces_first s place h =
      let e = h.0 in
      let commit_is = commit_found e place h.5.0 h.5.1 h.5.2 in
      h.7 (h.5.0, h.5.1, waits e commit_is.0 (located e commit_is.0 commit_is.1.0) h.1 h.6.0 h.5.0 (h.6.2) (view e commit_is.0 (located e commit_is.0 commit_is.1.0) h.1 h.6.0 h.6.1 (of_kind h.6.0 (Piece e h.2 h.3 h.4) e h.6.2 refl)) commit_is.1.1)
    where
      waits : (e : ℕ) (entry : Entry) (l : IsLocated F S plan.entries plan.actions e entry) (i : ℕ) (a c : Action) → {offset len : ℕ} {p : Path} → a.kind ≡ Piece e offset len p → View e entry l i a → {place : ℕ} → CommitAt e entry l place c → Contains c.preds i
      waits e entry l i a c k (is_piece from j is at here) commit_is =
          let within : j < length (pieces e entry from) = slice_get_within (pieces e entry from) j a here in
          let one = same_side entry.reason from commit_is.from is commit_is.copied in
          subst (λ (z : Action). Contains z.preds i) (sym (commit_is.is ∙ ap (λ (z : Side). commit_of e (length l.before) (length (pieces e entry z))) (sym one)))
          (contains_at (each_below (λ n. length l.before + n) (length (pieces e entry from))) j i (each_below_at (λ n. length l.before + n) (length (pieces e entry from)) j within ∙ ap (λ (n : ℕ). Some n) (sym at)))
      waits e entry l i a c k (is_commit from is at f) commit_is = absurd (piece_commit _ _ _ _ _ (sym k ∙ ap (λ (z : Action). z.kind) f))
      waits e entry l i a c k (is_copy_mark from is at f) commit_is = absurd (piece_mark _ _ _ _ _ (sym k ∙ ap (λ (z : Action). z.kind) f))
      waits e entry l i a c k (is_mark is plain at f) commit_is = absurd (piece_mark _ _ _ _ _ (sym k ∙ ap (λ (z : Action). z.kind) f))

  -- the predecessors of an action ascend
  pub ascends_at : (i : ℕ) (a : Action) → ActionIs plan i a → AscendBelow i a.preds
  ascends_at i a h =
      let found = entry_here i a h in
      let l = located (entry_of a.kind) found.0 found.1 in
      ascends (entry_of a.kind) found.0 l i a (view (entry_of a.kind) found.0 l i a h refl)
    where
      above_less : (o : Option ℕ) (entry : Entry) (before : List Action) (m : ℕ) → IsAboveMark plan.entries before entry o → o ≡ Some m → m < length before
      above_less None entry before m dir e = absurd (none-some m e)
      above_less (Some x) entry before m dir e = let f : x ≡ m = cc in let l : x < length before = slice_get_within before x dir.action dir.there in omega arith

      pair : (above commit : Option ℕ) (n : ℕ) → ((m : ℕ) → above ≡ Some m → m < n) → ((m : ℕ) → commit ≡ Some m → m < n) → ((m k : ℕ) → above ≡ Some m → commit ≡ Some k → m < k) → AscendBelow n (some_of above ++ some_of commit)
      pair None None n a c b = tt
      pair None (Some k) n a c b = c k refl
      pair (Some m) None n a c b = a m refl
      pair (Some m) (Some k) n a c b = (b m k refl refl, c k refl)

      ascends : (e : ℕ) (entry : Entry) (l : IsLocated F S plan.entries plan.actions e entry) (i : ℕ) (a : Action) → View e entry l i a → AscendBelow i a.preds
      ascends e entry l i a (is_piece from j is at here) = subst (λ (z : Action). AscendBelow i z.preds) (sym ((pieces_at e (rows_below entry.path (side_rows F S from)) j a here).is)) tt
      ascends e entry l i a (is_commit from is at f) = subst (λ (z : Action). AscendBelow i z.preds) (sym f) (ascend_each (length l.before) (length (pieces e entry from)) i (omega arith))
      ascends e entry l i a (is_copy_mark from is at f) = subst (λ (z : Action). AscendBelow i z.preds) (sym f)
          (pair l.above (Some (length l.before + length (pieces e entry from))) i
          (λ m g. let less : m < length l.before = above_less l.above entry l.before m l.dir g in omega arith)
          (λ m g. let same : length l.before + length (pieces e entry from) ≡ m = some_same _ _ g in omega arith)
          (λ m k g g'. let less : m < length l.before = above_less l.above entry l.before m l.dir g in let same : length l.before + length (pieces e entry from) ≡ k = some_same _ _ g' in omega arith))
        where
          some_same : (x y : ℕ) → Some x ≡ Some y → x ≡ y
          some_same x y g = cc
      ascends e entry l i a (is_mark is plain at f) = subst (λ (z : Action). AscendBelow i z.preds) (sym f)
          (pair l.above None i
          (λ m g. let less : m < length l.before = above_less l.above entry l.before m l.dir g in omega arith)
          (λ m g. absurd (none-some m g))
          (λ m k g g'. absurd (none-some k g')))

  -- so no action breaks the rule
  pub preds_ascend : (s : Snapshot) (place : ℕ) → ¬ Wrong s plan rule.PredsAscend place
  preds_ascend s place h = h.2 (ascends_at place h.0 h.1)

  -- a mark waits for the mark of the nearest new directory above it
  pub dir_first : (s : Snapshot) → AreOrdered plan.entries → (place : ℕ) → ¬ Wrong s plan rule.DirFirst place
  dir_first s ordered place h =
      let mark_is = mark_found h.0 place h.3.0 h.3.1 h.3.2 in
      let l = located h.0 mark_is.0 mark_is.1.0 in
      h.6 (h.3.0, h.3.1, go mark_is.0 l (h.3.0) mark_is.1.1.commit mark_is.1.1.is (same_at plan.entries h.0 h.4.below mark_is.0 h.4.is_below mark_is.1.0) l.above refl)
    where
      same_number : (x y : ℕ) (a b : Entry) → EntryIs plan x a → EntryIs plan y b → a.path ≡ b.path → x ≡ y
      same_number x y a b is_a is_b same = elim (cases_order x y) [
        | inl f ↦ f
        | inr more ↦ elim more [
          | inl less ↦ absurd (before_itself b.path (subst (λ (z : Path). IsBefore z b.path) same (in_order plan.entries ordered x y a b less is_a is_b)))
          | inr after ↦ absurd (before_itself b.path (subst (λ (z : Path). IsBefore b.path z) same (in_order plan.entries ordered y x b a after is_b is_a)))
        ]
      ]

      go : (entry : Entry) (l : IsLocated F S plan.entries plan.actions h.0 entry) (a : Action) (c : Option ℕ) → a ≡ mark_of h.0 l.above c → h.4.below ≡ entry → (o : Option ℕ) → l.above ≡ o → Contains a.preds h.2
      go entry l a c is same None f = absurd (subst (λ (x : Option ℕ). IsAboveMark plan.entries l.before entry x) f l.dir h.1 h.4.dir
          (h.4.is_dir, h.4.new_dir, subst (λ (z : Entry). IsAbove h.4.dir.path z.path) same h.4.above, subst (λ (z : Entry). h.4.dir.path ≢ z.path) same h.4.strictly))
      go entry l a c is same (Some m) f =
          let near : IsNearestMark plan.entries l.before entry m = subst (λ (x : Option ℕ). IsAboveMark plan.entries l.before entry x) f l.dir in
          let up = near.nearest h.1 h.4.dir (h.4.is_dir, h.4.new_dir, subst (λ (z : Entry). IsAbove h.4.dir.path z.path) same h.4.above, subst (λ (z : Entry). h.4.dir.path ≢ z.path) same h.4.strictly) in
          let down = h.4.nearest near.number near.dir near.is_above.0 near.is_above.1 (subst (λ (z : Entry). IsAbove near.dir.path z.path) (sym same) near.is_above.2) (subst (λ (z : Entry). near.dir.path ≢ z.path) (sym same) near.is_above.3) in
          let number : near.number ≡ h.1 = same_number near.number h.1 near.dir h.4.dir near.is_above.0 h.4.is_dir (above_turned near.dir.path h.4.dir.path down up) in
          let there : ActionIs plan m near.action = subst (λ (z : List Action). slice_get z m ≡ Some near.action) (sym l.here) (got_front l.before _ m near.action near.there) in
          let first = mark_found h.1 h.2 h.5.0 h.5.1 h.5.2 in
          let place_is : h.2 ≡ m = one_mark_place h.1 h.2 m h.5.0 near.action first.0 first.1.0 there (near.kind ∙ ap (λ (n : ℕ). Mark n) number) first.1.1 in
          subst (λ (z : Action). Contains z.preds h.2) (sym (is ∙ ap (λ (o : Option ℕ). mark_of h.0 o c) f)) (contains_at (m ∷ some_of c) 0 h.2 (ap (λ (n : ℕ). Some n) (sym place_is)))

  -- pieces are lawful
  pub pieces_lawful : (A : Listing Stamp) (rules : List Rule) → IsListing F → IsListing S → (place : ℕ) → ¬ Wrong (listed_snapshot A F S rules) plan rule.PiecesLawful place
  pieces_lawful A rules lists_f lists_s place h =
      let found = piece_entry h.0 h.1 h.2 h.3 place h.4.0 h.4.1 h.4.2 in
      let lawful = piece_lawful h.0 h.1 h.2 h.3 place h.4.0 h.4.2 found.0 found.1 (view h.0 found.0 (located h.0 found.0 found.1) place h.4.0 h.4.1 (of_kind h.4.0 (Piece h.0 h.1 h.2 h.3) h.0 h.4.2 refl)) in
      h.5 (found.0, lawful.0, lawful.2.stamp, (found.1, lawful.1), lawful.2.above, on_side lawful.0 h.3 lawful.2.stamp lawful.2.file, lawful.2.range)
    where
      listing : (from : Side) → IsListing (side_rows F S from)
      listing side.First = lists_f
      listing side.Second = lists_s

      on_side : (from : Side) (p : Path) (stamp : Stamp) → at (side_rows F S from) p ≡ File stamp → replica (listed_snapshot A F S rules) from p ≡ File stamp
      on_side side.First p stamp f = f
      on_side side.Second p stamp f = f

      piece_entry : (e offset len : ℕ) (p : Path) (i : ℕ) (a : Action) → ActionIs plan i a → a.kind ≡ Piece e offset len p → (entry : Entry) × EntryIs plan e entry
      piece_entry e offset len p i a is k = entry_by e i a (Piece e offset len p) is k refl

      piece_lawful : (e offset len : ℕ) (p : Path) (i : ℕ) (a : Action) → a.kind ≡ Piece e offset len p → (entry : Entry) (is : EntryIs plan e entry) → View e entry (located e entry is) i a
          → (from : Side) × (source entry.reason ≡ Some from) × IsLawful (side_rows F S from) entry.path e offset len p
      piece_lawful e offset len p i a k entry is (is_piece from j copied at here) = (from, copied, lawful_from (side_rows F S from) (listing from) entry.path e e offset len p a (pieces_at e (rows_below entry.path (side_rows F S from)) j a here) k)
      piece_lawful e offset len p i a k entry is (is_commit from copied at f) = absurd (piece_commit _ _ _ _ _ (sym k ∙ ap (λ (z : Action). z.kind) f))
      piece_lawful e offset len p i a k entry is (is_copy_mark from copied at f) = absurd (piece_mark _ _ _ _ _ (sym k ∙ ap (λ (z : Action). z.kind) f))
      piece_lawful e offset len p i a k entry is (is_mark none plain at f) = absurd (piece_mark _ _ _ _ _ (sym k ∙ ap (λ (z : Action). z.kind) f))

  -- where a piece stands in its entry
  record PieceAt (e : ℕ) (entry : Entry) (l : IsLocated F S plan.entries plan.actions e entry) (i : ℕ) (a : Action) : Type 0 where
    from : Side
    number : ℕ
    copied : source entry.reason ≡ Some from
    place : i ≡ length l.before + number
    there : slice_get (pieces e entry from) number ≡ Some a

  piece_at : (e offset len : ℕ) (p : Path) (entry : Entry) (l : IsLocated F S plan.entries plan.actions e entry) (i : ℕ) (a : Action) → a.kind ≡ Piece e offset len p → View e entry l i a → PieceAt e entry l i a
  piece_at e offset len p entry l i a k (is_piece from j copied at here) = record { from = from; number = j; copied = copied; place = at; there = here }
  piece_at e offset len p entry l i a k (is_commit from copied at f) = absurd (piece_commit _ _ _ _ _ (sym k ∙ ap (λ (z : Action). z.kind) f))
  piece_at e offset len p entry l i a k (is_copy_mark from copied at f) = absurd (piece_mark _ _ _ _ _ (sym k ∙ ap (λ (z : Action). z.kind) f))
  piece_at e offset len p entry l i a k (is_mark none plain at f) = absurd (piece_mark _ _ _ _ _ (sym k ∙ ap (λ (z : Action). z.kind) f))

  one_piece_place : IsListing F → IsListing S → (e offset len other : ℕ) (p : Path) (entry : Entry) (l : IsLocated F S plan.entries plan.actions e entry) (i j : ℕ) (a b : Action)
      → a.kind ≡ Piece e offset len p → b.kind ≡ Piece e offset other p → PieceAt e entry l i a → PieceAt e entry l j b → i ≡ j
  one_piece_place lists_f lists_s e offset len other p entry l i j a b k m one two =
      let there : slice_get (pieces e entry one.from) two.number ≡ Some b = subst (λ (z : Side). slice_get (pieces e entry z) two.number ≡ Some b) (same_side entry.reason two.from one.from two.copied one.copied) two.there in
      let same : one.number ≡ two.number = pieces_once e (rows_below entry.path (side_rows F S one.from)) (below_order (side_rows F S one.from) (listing one.from) entry.path) one.number two.number a b one.there there offset len other p k m in
      one.place ∙ ap (λ (n : ℕ). length l.before + n) same ∙ sym two.place
    where
      listing : (from : Side) → IsListing (side_rows F S from)
      listing side.First = lists_f
      listing side.Second = lists_s

  -- each lawful piece stands once
  pub pieces_complete : (A : Listing Stamp) (rules : List Rule) → IsListing F → IsListing S → (place : ℕ) → ¬ Wrong (listed_snapshot A F S rules) plan rule.PiecesComplete place
  pieces_complete A rules lists_f lists_s place (inl h) =
      let a = h.4.0 in
      let b = h.5.3.0 in
      let k : b.kind ≡ Piece h.0 h.1 h.5.4.0 h.3 = h.5.3.2 ∙ h.5.4.1 in
      let found = entry_by h.0 place a (Piece h.0 h.1 h.2 h.3) h.4.1 h.4.2 refl in
      let l = located h.0 found.0 found.1 in
      let one = piece_at h.0 h.1 h.2 h.3 found.0 l place a h.4.2 (view h.0 found.0 l place a h.4.1 (of_kind a (Piece h.0 h.1 h.2 h.3) h.0 h.4.2 refl)) in
      let two = piece_at h.0 h.1 h.5.4.0 h.3 found.0 l h.5.0 b k (view h.0 found.0 l h.5.0 b h.5.3.1 (of_kind b (Piece h.0 h.1 h.5.4.0 h.3) h.0 k refl)) in
      let same : place ≡ h.5.0 = one_piece_place lists_f lists_s h.0 h.1 h.2 h.5.4.0 h.3 found.0 l place h.5.0 a b h.4.2 k one two in
      let less : h.5.0 < place = h.5.2 in absurd (omega arith)
  pieces_complete A rules lists_f lists_s place (inr h) =
      let entry = h.5.0 in
      let from = h.5.1 in
      let there = piece_there (side_rows F S from) (listing from) entry.path h.0 h.1 h.2 h.3 h.5.2 h.5.4 (on_side from h.3 h.5.2 h.5.5) h.5.6 in
      let l = located h.0 entry h.5.3.0 in
      h.6 (length l.before + there.0) there.2 (
        there.1,
        from_block h.0 entry l there.0 there.1
            (subst (λ (z : List Action). slice_get z there.0 ≡ Some there.1) (sym (copied_block h.0 entry from l.above (length l.before) h.5.3.1)) (got_front (pieces h.0 entry from) _ there.0 there.1 there.3)),
        there.4,
      )
    where
      listing : (from : Side) → IsListing (side_rows F S from)
      listing side.First = lists_f
      listing side.Second = lists_s

      on_side : (from : Side) (p : Path) (stamp : Stamp) → replica (listed_snapshot A F S rules) from p ≡ File stamp → at (side_rows F S from) p ≡ File stamp
      on_side side.First p stamp f = f
      on_side side.Second p stamp f = f

-- a built plan of the reasons is valid
pub valid_from : (A F S : Listing Stamp) (rules : List Rule) (plan : Plan) → IsListing F → IsListing S → AreReasons (listed_snapshot A F S rules) plan.entries → IsBuilt F S plan.entries plan.actions (length plan.entries)
    → length plan.entries ≤ 1048576 → length plan.actions ≤ 1048576 → Valid (listed_snapshot A F S rules) plan
valid_from A F S rules plan lists_f lists_s found w few_entries few_actions rule.Limits place = λ h.
    h.1 (record { entries = few_entries; actions = few_actions; preds = let l : sum_by (λ a. length a.preds) plan.actions ≤ 2 * length plan.actions = w.preds in omega arith })
valid_from A F S rules plan lists_f lists_s found w few_entries few_actions rule.EntriesAscend place = entries_ascend (listed_snapshot A F S rules) plan found place
valid_from A F S rules plan lists_f lists_s found w few_entries few_actions rule.ReasonsHold place = reasons_hold (listed_snapshot A F S rules) plan found place
valid_from A F S rules plan lists_f lists_s found w few_entries few_actions rule.EntriesComplete place = entries_complete (listed_snapshot A F S rules) plan found place
valid_from A F S rules plan lists_f lists_s found w few_entries few_actions rule.PredsAscend place = preds_ascend F S plan w (listed_snapshot A F S rules) place
valid_from A F S rules plan lists_f lists_s found w few_entries few_actions rule.OneCommit place = one_commit F S plan w (listed_snapshot A F S rules) place
valid_from A F S rules plan lists_f lists_s found w few_entries few_actions rule.PiecesLawful place = pieces_lawful F S plan w A rules lists_f lists_s place
valid_from A F S rules plan lists_f lists_s found w few_entries few_actions rule.PiecesComplete place = pieces_complete F S plan w A rules lists_f lists_s place
valid_from A F S rules plan lists_f lists_s found w few_entries few_actions rule.OneMark place = one_mark F S plan w (listed_snapshot A F S rules) place
valid_from A F S rules plan lists_f lists_s found w few_entries few_actions rule.PiecesFirst place = pieces_first F S plan w (listed_snapshot A F S rules) place
valid_from A F S rules plan lists_f lists_s found w few_entries few_actions rule.CommitFirst place = commit_first F S plan w (listed_snapshot A F S rules) place
valid_from A F S rules plan lists_f lists_s found w few_entries few_actions rule.DirFirst place = dir_first F S plan w (listed_snapshot A F S rules) found.ascending place

-- the same of its parts, as code has them
pub valid_parts : (A F S : Listing Stamp) (rules : List Rule) (es es' slice : List Entry) (acts acts' : List Action) → es' ≡ es → acts' ≡ acts → slice ≡ es → IsListing F → IsListing S → AreReasons (listed_snapshot A F S rules) es
    → IsBuilt F S slice acts (length slice) → length es ≤ 1048576 → length acts ≤ 1048576 → Valid (listed_snapshot A F S rules) (record { entries = es'; actions = acts' })
valid_parts A F S rules es es' slice acts acts' e f g lists_f lists_s found w few_entries few_actions =
    subst (λ (x : List Entry). Valid (listed_snapshot A F S rules) (record { entries = x; actions = acts' })) (sym e)
    (subst (λ (x : List Action). Valid (listed_snapshot A F S rules) (record { entries = es; actions = x })) (sym f)
    (valid_from A F S rules (record { entries = es; actions = acts }) lists_f lists_s found (subst (λ (x : List Entry). IsBuilt F S x acts (length x)) g w) few_entries few_actions))
