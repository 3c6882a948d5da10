-- The archive once each action is done: it has the mark of each entry.
use Rattle.std.proofs.Common.{◌≡◌, ℕ, zero, suc, ◌<◌, Bool, true, false, cond, List, [], ◌∷◌, length, map, Some, slice_get, refl, sym, ap, ◌∙◌}
use Rattle.std.specs.Prelude.{slice_index, slice_index_or}
use Rattle.std.specs.Int.{bit_at}
use Rattle.std.proofs.lemmas.Bool.{true≢false}
use Rattle.std.proofs.lemmas.Option.{none-some, slice_get_within}
use Rattle.ts_model.specs.Trees.{Listing, Print, Tree, IsListing, at}
use Rattle.ts_model.specs.Plans.{Valid}
use Rattle.ts_model.specs.Runs.{Run, graft, marked}
use Rattle.ts_model.specs.Sync.{IsSkipped, Snapshot, is_skipped}
use Rattle.ts_model.specs.declared.plan.Entry.{Entry}
use Rattle.ts_model.specs.declared.plan.Reason.{Reason}
use Rattle.ts_model.specs.declared.row.Content.TheVariants.{Absent}
use Rattle.ts_model.specs.declared.row.Stamp.{Stamp}
use Rattle.ts_laws.specs.Carried.{marked_all}
use Rattle.ts_laws.proofs.Carried.{skipped_from_test, test_from_skipped}
use Rattle.ts_laws.proofs.Plans.{mark_exists}
use Rattle.ts_laws.proofs.Steps.{mark_is_marked}
use Rattle.ts_board.specs.Edits.{left_by, marks, with_put}
use Rattle.ts_check.specs.Checkup.{Checkup, snapshot_of}
use Rattle.ts_board.specs.Archives.{AreMarked, LeftArchive, picked}
use Rattle.ts_board.specs.Checks.{IsFromCheck}
use Rattle.ts_board.specs.Kept.{HasLeft}
use Rattle.ts_board.specs.declared.law.Terms.{Terms}
use Rattle.ts_board.proofs.Archives.{marks_leave, put_mark}

-- ---- flags for the entries that have a mark

abbrev has_mark : Entry → Bool
has_mark entry = cond (is_skipped entry.reason) false true

flags_count : (entries : List Entry) → length (map has_mark entries) ≡ length entries
flags_count [] = refl
flags_count (entry ∷ entries) = ap suc (flags_count entries)

-- whose flag is set has a mark
flag_set : (entries : List Entry) (e : ℕ) → slice_index_or (map has_mark entries) e false ≡ true → (entry : Entry) × (slice_get entries e ≡ Some entry) × (is_skipped entry.reason ≡ false)
flag_set [] zero set = absurd (true≢false (sym set))
flag_set [] (suc e) set = absurd (true≢false (sym set))
flag_set (entry ∷ entries) zero set = (entry, refl, go (is_skipped entry.reason) set)
  where
    go : (b : Bool) → cond b false true ≡ true → b ≡ false
    go true h = absurd (true≢false (sym h))
    go false h = refl
flag_set (entry ∷ entries) (suc e) set = flag_set entries e set

-- and the other way round
mark_flag : (entries : List Entry) (e : ℕ) (entry : Entry) → slice_get entries e ≡ Some entry → is_skipped entry.reason ≡ false → slice_index_or (map has_mark entries) e false ≡ true
mark_flag [] e entry is unskipped = absurd (none-some entry is)
mark_flag (x ∷ entries) zero entry is unskipped =
    let same : x ≡ entry = cc in
    ap (λ b. cond b false true) (ap (λ z. is_skipped z.reason) same ∙ unskipped)
mark_flag (x ∷ entries) (suc e) entry is unskipped = mark_flag entries e entry is unskipped

-- what an entry with a mark puts
put_is : (s : Snapshot) (t : Print) (entry : Entry) → is_skipped entry.reason ≡ false
    → with_put t entry.path (marks s.first s.second entry.reason entry.path) ≡ graft t entry.path (marked s entry.reason entry.path)
put_is s t entry unskipped = put_mark s t entry.path entry.reason (test_from_skipped entry.reason unskipped)

-- the flagged entries leave what all do
flagged_leave : (s : Snapshot) (entries : List Entry) (t : Print) → left_by (marks s.first s.second) t (picked entries (map has_mark entries)) ≡ marked_all s t entries
flagged_leave s [] t = refl
flagged_leave s (entry ∷ entries) t = go (λ u. flagged_leave s entries u) (is_skipped entry.reason) refl
  where
    go : ((u : Print) → left_by (marks s.first s.second) u (picked entries (map has_mark entries)) ≡ marked_all s u entries) → (b : Bool) → is_skipped entry.reason ≡ b
        → left_by (marks s.first s.second) t (cond (cond b false true) (entry ∷ picked entries (map has_mark entries)) (picked entries (map has_mark entries)))
        ≡ marked_all s (cond b t (graft t entry.path (marked s entry.reason entry.path))) entries
    go rest true e = rest t
    go rest false e = ap (λ u. left_by (marks s.first s.second) u (picked entries (map has_mark entries))) (put_is s t entry e) ∙ rest (graft t entry.path (marked s entry.reason entry.path))

-- ---- all marks are done

module _ (k : Checkup) (words : List ℕ) (valid : Valid (snapshot_of k) k.plan) (done : (i : ℕ) → i < length k.plan.actions → bit_at (slice_index words i) 33 ≡ 1) where
  all_marked : AreMarked k.plan words (map has_mark k.plan.entries)
  all_marked = record {
    only = λ e set.
        let found = flag_set k.plan.entries e set in
        let mark = mark_exists (snapshot_of k) k.plan valid e found.0 found.1 (test_from_skipped found.0.reason found.2) in
        (mark.0, mark.1, done mark.0 (slice_get_within k.plan.actions mark.0 mark.1.0 mark.1.1));
    all = λ i e less kind ended within.
        let found = mark_is_marked (snapshot_of k) k.plan valid i e kind in
        mark_flag k.plan.entries e found.0 found.1 (unskipped found.0.reason found.2);
  }
    where
      unskipped : (r : Reason) → ¬ IsSkipped r → is_skipped r ≡ false
      unskipped r n = go (is_skipped r) refl
        where
          go : (b : Bool) → is_skipped r ≡ b → b ≡ false
          go true e = absurd (n (skipped_from_test r e))
          go false e = refl

  -- so whatever run left the words left an archive with all of them
  pub all_marks_left : (rows : Listing Stamp) → IsListing k.archive → IsListing k.first → IsListing k.second → (t : Terms) (run : Run) → IsFromCheck t k → HasLeft t words run
      → LeftArchive k words rows → at rows ≡ marked_all (snapshot_of k) (at k.archive) k.plan.entries
  all_marks_left rows archive first second t run from left is =
      is t run from left nowhere nowhere
      ∙ sym (marks_leave k words (map has_mark k.plan.entries) archive first second valid (flags_count k.plan.entries) all_marked t run from left nowhere nowhere)
      ∙ flagged_leave (snapshot_of k) k.plan.entries (at k.archive)
    where
      nowhere : Tree
      nowhere p = Absent
