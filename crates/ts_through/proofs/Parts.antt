-- Parts at the paths of entries: they are edits, and where they may be taken out.
use Rattle.std.proofs.Common.{◌≡◌, ◌≢◌, ℕ, Bool, true, false, cond, List, [], ◌∷◌, ◌++◌, Some, None, refl, sym, ap, ◌∙◌, subst, append_assoc, append-nil, length, drop, get_or, set, slice_get, suc, add-one, drop-cons, ◌+◌, ◌<◌, ◌≤◌, arith}
use Rattle.std.proofs.lemmas.Option.{none-some, same_Some}
use Rattle.std.proofs.Math.ListN.{drop_of_length-le}
use Rattle.std.specs.List.{AllByRecursion}
use Rattle.ts_name.specs.Paths.{Name, Path, IsAbove, IsBefore, IsPath}
use Rattle.ts_model.specs.Trees.{IsListing, IsSubListing, Listing, Tree, at, listed, sub}
use Rattle.ts_model.specs.Plans.{Valid, is_from, source}
use Rattle.ts_model.specs.Sync.{Snapshot, IsSnapshot, AreReplicas}
use Rattle.ts_model.specs.declared.row.Content.TheVariants.{Absent, Dir}
use Rattle.ts_model.specs.declared.row.Row.{Row}
use Rattle.ts_model.specs.declared.plan.Entry.{Entry}
use Rattle.ts_model.specs.declared.plan.Plan.{Plan}
use Rattle.ts_model.specs.declared.plan.Side.{Side}
use Rattle.ts_model.specs.declared.plan.Side.TheVariants as side
use Rattle.ts_model.specs.declared.plan.Reason.{Reason}
use Rattle.ts_table.specs.Splits.{AreSeparate, MaySplit, edits_of}
use Rattle.ts_table.specs.Tables.{IsPlace}
use Rattle.ts_name.proofs.Order.{before_itself}
use Rattle.ts_name.proofs.Basics.{weaker, all_both, all_map, at_each}
use Rattle.ts_tree.proofs.Parts.{lists_each}
use Rattle.ts_laws.proofs.Listings.{IsTree-from_listing}
use Rattle.ts_model.proofs.Reasons.{source_from_test, test_from_source}
use Rattle.ts_laws.proofs.Places.{entries_in_place}
use Rattle.ts_check.proofs.Scans.{got_beside}
use Rattle.ts_board.specs.Edits.{AreEdits, Begins, IsPart, copies}
use Rattle.ts_through.specs.Parts.{AreParts, Leads, paths_from}

-- ---- parts as edits

-- each part at its path is the edit that its entry makes
pub parts_edits : (on : Side) (origin : Tree) (entries : List Entry) (parts : List (Listing (List ℕ))) → AreParts on origin entries parts
    → AreEdits (copies on origin) entries (edits_of (paths_from on entries) parts)
parts_edits on origin [] parts h = refl
parts_edits on origin (entry ∷ entries) parts h = go (λ ps k. parts_edits on origin entries ps k) (is_from on entry.reason) parts h
  where
    go : ((ps : List (Listing (List ℕ))) → AreParts on origin entries ps → AreEdits (copies on origin) entries (edits_of (paths_from on entries) ps))
        → (b : Bool) (parts : List (Listing (List ℕ))) → Leads b (IsPart entry.path (sub origin entry.path)) parts (λ rest. AreParts on origin entries rest)
        → Begins (cond b (Some (sub origin entry.path)) None) entry.path (edits_of (cond b (entry.path ∷ paths_from on entries) (paths_from on entries)) parts) (λ rest. AreEdits (copies on origin) entries rest)
    go rest false parts h = rest parts h
    go rest true [] h = absurd h
    go rest true (part ∷ parts) h = (record { path = refl; part = h.0 }, rest parts h.1)

-- there is one for each path
pub parts_count : (on : Side) (origin : Tree) (entries : List Entry) (parts : List (Listing (List ℕ))) → AreParts on origin entries parts
    → length parts ≡ length (paths_from on entries)
parts_count on origin [] parts h = ap length h
parts_count on origin (entry ∷ entries) parts h = go (λ ps k. parts_count on origin entries ps k) (is_from on entry.reason) parts h
  where
    go : ((ps : List (Listing (List ℕ))) → AreParts on origin entries ps → length ps ≡ length (paths_from on entries))
        → (b : Bool) (parts : List (Listing (List ℕ))) → Leads b (IsPart entry.path (sub origin entry.path)) parts (λ rest. AreParts on origin entries rest)
        → length parts ≡ length (cond b (entry.path ∷ paths_from on entries) (paths_from on entries))
    go rest false parts h = rest parts h
    go rest true [] h = absurd h
    go rest true (part ∷ parts) h = ap suc (rest parts h.1)

-- what lists what a tree has at a path is a part there
pub part_is : (source : Listing (List ℕ)) (p : Path) (part : Listing (List ℕ)) → IsListing source → IsSubListing part → listed part ≡ sub (at source) p → IsPart p (sub (at source) p) part
part_is source p part lawful rows lists = record {
  rows = rows;
  lists = lists;
  paths = all_map (λ (row : Row (List ℕ)). IsPath row.path) (λ row. record { path = p ++ row.path; content = row.content }) part
      (weaker (λ (row : Row (List ℕ)). (IsPath row.path × (row.content ≢ Absent)) × (listed part row.path ≡ row.content)) (λ row. IsPath (p ++ row.path))
      (λ row h. (IsTree-from_listing source lawful).paths (p ++ row.path) (λ gone. h.0.1 (sym h.1 ∙ at_each lists row.path ∙ gone)))
      part (all_both (λ (row : Row (List ℕ)). IsPath row.path × (row.content ≢ Absent)) (λ row. listed part row.path ≡ row.content) part rows.rows_are (lists_each part rows.ascending)));
}

-- ---- loops

-- whatever parts of the entries from place i on follow, all are those of the entries
abbrev pub AreSoFar : Side → Tree → List Entry → ℕ → List (Listing (List ℕ)) → Type 0
AreSoFar on origin entries i back = (more : List (Listing (List ℕ))) → AreParts on origin (drop i entries) more → AreParts on origin entries (back ++ more)

pub all_parts : (on : Side) (origin : Tree) (entries : List Entry) (i : ℕ) (back : List (Listing (List ℕ))) → length entries ≤ i
    → AreSoFar on origin entries i back → AreParts on origin entries back
all_parts on origin entries i back past so_far =
    subst (λ parts. AreParts on origin entries parts) (append-nil back) (so_far [] (subst (λ rest. AreParts on origin rest []) (sym (drop_of_length-le entries past)) refl))

pub from_here : {A : Type 0} (xs : List A) (i : ℕ) (x : A) → i < length xs → x ≡ get_or xs i x → drop i xs ≡ x ∷ drop (i + 1) xs
from_here {A} xs i x within is = rw (add-one, drop-cons xs i x within) (ap (λ (e : A). e ∷ drop (suc i) xs) (sym is))

-- an entry of this reason adds its part
pub with_part : (on : Side) (origin : Tree) (entries : List Entry) (i : ℕ) (entry : Entry) (back : List (Listing (List ℕ))) (part : Listing (List ℕ))
    → i < length entries → entry ≡ get_or entries i entry → source entry.reason ≡ Some on → IsPart entry.path (sub origin entry.path) part
    → AreSoFar on origin entries i back → AreSoFar on origin entries (i + 1) (back ++ part ∷ [])
with_part on origin entries i entry back part within is why good so_far more h =
    subst (λ parts. AreParts on origin entries parts) (sym (append_assoc back (part ∷ []) more))
    (so_far (part ∷ more) (subst (λ rest. AreParts on origin rest (part ∷ more)) (sym (from_here entries i entry within is))
    (subst (λ b. Leads b (IsPart entry.path (sub origin entry.path)) (part ∷ more) (λ rest. AreParts on origin (drop (i + 1) entries) rest)) (sym (test_from_source on entry.reason why)) (good, h))))

-- another one adds none
pub from_elsewhere : (on : Side) (r : Reason) → source r ≢ Some on → is_from on r ≡ false
from_elsewhere on r other = go (is_from on r) refl
  where
    go : (b : Bool) → is_from on r ≡ b → b ≡ false
    go true e = absurd (other (source_from_test on r e))
    go false e = refl

pub without_part : (on : Side) (origin : Tree) (entries : List Entry) (i : ℕ) (entry : Entry) (back : List (Listing (List ℕ)))
    → i < length entries → entry ≡ get_or entries i entry → source entry.reason ≢ Some on
    → AreSoFar on origin entries i back → AreSoFar on origin entries (i + 1) back
without_part on origin entries i entry back within is other so_far more h =
    so_far more (subst (λ rest. AreParts on origin rest more) (sym (from_here entries i entry within is))
    (subst (λ b. Leads b (IsPart entry.path (sub origin entry.path)) more (λ rest. AreParts on origin (drop (i + 1) entries) rest)) (sym (from_elsewhere on entry.reason other)) h))

-- the part of another entry, or of one to come, stays when that of entry i is taken out
pub beside : (entries : List Entry) (parts : List (Listing (List ℕ))) (i e : ℕ) (entry other : Entry) (nothing : Listing (List ℕ)) (on : Side) → slice_get entries i ≡ Some entry → slice_get entries e ≡ Some other
    → source entry.reason ≡ Some on → (source other.reason ≡ Some on → i + 1 ≤ e) → slice_get (set parts i nothing) e ≡ slice_get parts e
beside entries parts i e entry other nothing on is that why later = got_beside parts i e nothing (λ same.
    let one : entry ≡ other = same_Some entry other (sym is ∙ ap (λ z. slice_get entries z) (sym same) ∙ that) in
    let after = later (ap (λ (z : Entry). source z.reason) (sym one) ∙ why) in absurd (omega arith))

-- ---- where parts may be taken out

-- what holds of the later entries holds of those of one reason
each_path : (P : Path → Type 0) (on : Side) (entries : List Entry) → AllByRecursion (λ entry. P entry.path) entries → AllByRecursion P (paths_from on entries)
each_path P on [] h = tt
each_path P on (entry ∷ entries) h = go (each_path P on entries h.1) (is_from on entry.reason)
  where
    go : AllByRecursion P (paths_from on entries) → (b : Bool) → AllByRecursion P (cond b (entry.path ∷ paths_from on entries) (paths_from on entries))
    go rest true = (h.0, rest)
    go rest false = rest

-- an entry of this reason is at a place, and apart from those after it
abbrev pub StandsApart : Tree → Side → Entry → List Entry → Type 0
StandsApart t on entry after = IsPlace t entry.path × (source entry.reason ≡ Some on → AllByRecursion (λ later. IsBefore entry.path later.path × (¬ IsAbove entry.path later.path)) after)

paths_apart : (t : Tree) (on : Side) (all : List Entry) → ((before : List Entry) (entry : Entry) (after : List Entry) → all ≡ before ++ entry ∷ after → StandsApart t on entry after)
    → (entries before : List Entry) → all ≡ before ++ entries → AreSeparate (paths_from on entries) × AllByRecursion (λ p. IsPlace t p) (paths_from on entries)
paths_apart t on all well [] before split = (tt, tt)
paths_apart t on all well (entry ∷ entries) before split = go (paths_apart t on all well entries (before ++ entry ∷ []) (split ∙ sym (append_assoc before (entry ∷ []) entries))) (is_from on entry.reason) refl
  where
    go : AreSeparate (paths_from on entries) × AllByRecursion (λ p. IsPlace t p) (paths_from on entries) → (b : Bool) → is_from on entry.reason ≡ b
        → AreSeparate (cond b (entry.path ∷ paths_from on entries) (paths_from on entries)) × AllByRecursion (λ p. IsPlace t p) (cond b (entry.path ∷ paths_from on entries) (paths_from on entries))
    go rest true e =
        let here = well before entry entries split in
        ((each_path (λ q. IsBefore entry.path q × (¬ IsAbove entry.path q)) on entries (here.1 (source_from_test on entry.reason e)), rest.0), (here.0, rest.1))
    go rest false e = rest

-- what is below a path that all below it comes before comes before itself
not_above : (p q : Path) → ((rest : Path) → IsBefore (p ++ rest) q) → ¬ IsAbove p q
not_above p q before (rest, at) = before_itself q (subst (λ z. IsBefore z q) (sym at) (before rest))

all_not_above : (p : Path) (entries : List Entry) → AllByRecursion (λ later. IsBefore p later.path) entries → ((rest : Path) → AllByRecursion (λ later. IsBefore (p ++ rest) later.path) entries)
    → AllByRecursion (λ later. IsBefore p later.path × (¬ IsAbove p later.path)) entries
all_not_above p [] ascends apart = tt
all_not_above p (later ∷ entries) ascends apart =
    ((ascends.0, not_above p later.path (λ rest. let all = apart rest in all.0)), all_not_above p entries ascends.1 (λ rest. let all = apart rest in all.1))

module _ (s : Snapshot) (plan : Plan) (a b : Tree) (valid : Valid s plan) (lawful : IsSnapshot s) (are : AreReplicas s a b) where
  -- a tree may be cut at the entries that are copied from a side, where each entry's parent is a directory of it
  may_split : (t : Tree) (on : Side) → ((before : List Entry) (entry : Entry) (after : List Entry) → plan.entries ≡ before ++ entry ∷ after
      → (parent : Path) (name : Name) → entry.path ≡ parent ++ name ∷ [] → t parent ≡ Dir) → MaySplit t (paths_from on plan.entries)
  may_split t on parents = record { separate = both.0; places = both.1 }
    where
      both : AreSeparate (paths_from on plan.entries) × AllByRecursion (λ p. IsPlace t p) (paths_from on plan.entries)
      both = paths_apart t on plan.entries (λ before entry after split.
          let here = entries_in_place s plan a b valid lawful are before entry after split in (
            record { not_root = here.not_root; parent = parents before entry after split },
            λ why. all_not_above entry.path after here.ascends (here.apart (λ dir. none-some on (ap source (sym dir) ∙ why))),
          )) plan.entries [] refl

  -- the first replica may be cut where the second is copied to it
  pub first_may_split : MaySplit a (paths_from side.Second plan.entries)
  first_may_split = may_split a side.Second (λ before entry after split parent name at. ((entries_in_place s plan a b valid lawful are before entry after split).parent parent name at).0)

  -- and the other way round
  pub second_may_split : MaySplit b (paths_from side.First plan.entries)
  second_may_split = may_split b side.First (λ before entry after split parent name at. ((entries_in_place s plan a b valid lawful are before entry after split).parent parent name at).1)
