-- The parts of a replica at the paths of entries.
--     paths_from side entries            the paths of the entries that are copied from this side, in their order
--     AreParts side origin entries parts for each of these entries what the origin has at its path, in their order
--     AreLaid side origin entries parts  the same, where each entry has its own place among the parts
--     KeepsOthers side entries old new   no part of another entry changed
--     AreDone plan words                 each action is done, by its word
--     AreHeld plan first second slots    the site of each commit has what the entry's source has at its path
--     ArePlaced plan parts sites         the site of each commit has the part of its entry
--     AreBlockedByEarlier results        a blocked action waits for an earlier one that isn't done
--     NoneIsLeft results                 no action that could have been claimed was left
--     AreTaken plan slots parts          the part of each commit's entry is what its site has
use Rattle.std.specs.Prelude.{◌≡◌, ◌≢◌, ℕ, ◌<◌, Bool, true, false, cond, List, [], ◌∷◌, Some, length, slice_get, slice_index, slice_index_or}
use Rattle.ts_name.specs.Paths.{Path}
use Rattle.ts_model.specs.Plans.{Copies, KindIs, is_from, source}
use Rattle.ts_model.specs.Trees.{Listing, Tree, at, listed, sub}
use Rattle.ts_table.specs.Splits.{without}
use Rattle.ts_model.specs.declared.plan.Kind.TheVariants.{Commit}
use Rattle.ts_model.specs.declared.plan.Side.{Side}
use Rattle.ts_model.specs.declared.plan.Entry.{Entry}
use Rattle.ts_model.specs.declared.plan.Plan.{Plan}
use Rattle.ts_board.specs.Edits.{IsPart}
use Rattle.ts_board.specs.Archives.{IsDone}
use Rattle.ts_board.specs.Terms.{placed, site_in}
use Rattle.ts_board.specs.declared.law.Slot.{Slot}
use Rattle.ts_board.specs.declared.law.Slot.TheVariants.{Empty}
use Rattle.ts_exec.specs.Failures.{of_side}
use Rattle.ts_exec.specs.declared.outcome.ActionResult.{ActionResult}
use Rattle.ts_exec.specs.declared.outcome.ActionResult.TheVariants.{Done, Blocked, Left}

abbrev pub paths_from : Side → List Entry → List Path
paths_from on [] = []
paths_from on (entry ∷ entries) = cond (is_from on entry.reason) (entry.path ∷ paths_from on entries) (paths_from on entries)

-- what is left of a tree that was cut at these paths
abbrev pub left_of : Side → List Entry → Tree → Tree
left_of on entries t = without t (paths_from on entries)

-- where a part is wanted, the first is as it should be, and the others follow
abbrev pub Leads : Bool → (Listing (List ℕ) → Type 0) → List (Listing (List ℕ)) → (List (Listing (List ℕ)) → Type 0) → Type 0
Leads false Is parts Follow = Follow parts
Leads true Is [] Follow = ⊥
Leads true Is (part ∷ parts) Follow = Is part × Follow parts

abbrev pub AreParts : Side → Tree → List Entry → List (Listing (List ℕ)) → Type 0
AreParts on origin [] parts = parts ≡ []
AreParts on origin (entry ∷ entries) parts = Leads (is_from on entry.reason) (IsPart entry.path (sub origin entry.path)) parts (λ rest. AreParts on origin entries rest)

abbrev pub AreDone : Plan → List ℕ → Type 0
AreDone plan words = (i : ℕ) → i < length plan.actions → IsDone (slice_index words i)

abbrev pub IsLaid : Tree → Path → List (Listing (List ℕ)) → ℕ → Type 0
IsLaid origin p parts e = (part : Listing (List ℕ)) × (slice_get parts e ≡ Some part) × (listed part ≡ sub origin p)

abbrev pub AreLaid : Side → Tree → List Entry → List (Listing (List ℕ)) → Type 0
AreLaid on origin entries parts = (e : ℕ) (entry : Entry) → slice_get entries e ≡ Some entry → source entry.reason ≡ Some on → IsLaid origin entry.path parts e

abbrev pub KeepsOthers : Side → List Entry → List (Listing (List ℕ)) → List (Listing (List ℕ)) → Type 0
KeepsOthers on entries old new = (e : ℕ) (entry : Entry) → slice_get entries e ≡ Some entry → source entry.reason ≢ Some on → slice_get new e ≡ slice_get old e

abbrev pub AreHeld : Plan → Listing (List ℕ) → Listing (List ℕ) → List (Slot (Listing (List ℕ))) → Type 0
AreHeld plan first second slots =
    (c e : ℕ) (entry : Entry) (from : Side) → KindIs plan c (Commit e) → Copies plan e entry from
    → (rows : Listing (List ℕ)) × (site_in (slice_index_or slots c Empty) ≡ Some rows) × (listed rows ≡ sub (at (of_side first second from)) entry.path)

abbrev pub AreTaken : Plan → List (Slot (Listing (List ℕ))) → List (Listing (List ℕ)) → Type 0
AreTaken plan slots parts = (c e : ℕ) (rows : Listing (List ℕ)) → KindIs plan c (Commit e) → site_in (slice_index_or slots c Empty) ≡ Some rows → slice_get parts e ≡ Some rows

abbrev pub ArePlaced : Plan → List (Listing (List ℕ)) → List (Listing (List ℕ)) → Type 0
ArePlaced plan parts sites = (c e : ℕ) → KindIs plan c (Commit e) → site_in (slice_index_or (placed plan.actions sites) c Empty) ≡ slice_get parts e

abbrev pub AreBlockedByEarlier : List ActionResult → Type 0
AreBlockedByEarlier results = (i k : ℕ) → slice_get results i ≡ Some (Blocked k) → (k < i) × (slice_get results k ≢ Some Done)

abbrev pub NoneIsLeft : List ActionResult → Type 0
NoneIsLeft results = (i : ℕ) → slice_get results i ≢ Some Left
