-- What the words of a closed board say of the archive.
--     HasEnded k words            the words were left by a run of this checked plan
--     LeftArchive k words rows    the archive after whatever run left the words
--     IsDone word                 the word says that its action is done
--     AreMarked plan words flags  the flag of an entry is set where its mark is done
--     AreMarksOf k words flags    the flagged marks are those of whatever run left the words
--     picked xs flags             the entries at which the flag is set
-- What flags of entries say of the archive, whatever set them.
--     flagged plan flags          the marks of the entries at which the flag is set
--     AreOfPart plan run flags    these marks are done, and a closed part of the run
--     ArchiveOf k flags rows      the archive of this part
use Rattle.std.specs.Prelude.{◌≡◌, ℕ, ◌<◌, Bool, true, false, cond, List, [], ◌∷◌, length, Some, None, slice_get, slice_index, slice_index_or}
use Rattle.std.specs.Int.{bit_at}
use Rattle.ts_model.specs.Trees.{Tree, Listing, at}
use Rattle.ts_model.specs.Plans.{KindIs}
use Rattle.ts_model.specs.Resume.{IsClosedPart, archive_of_part}
use Rattle.ts_model.specs.Runs.{Run, Has, after, finishes, start}
use Rattle.ts_model.specs.declared.row.Stamp.{Stamp}
use Rattle.ts_model.specs.declared.plan.Entry.{Entry}
use Rattle.ts_model.specs.declared.plan.Kind.{Kind}
use Rattle.ts_model.specs.declared.plan.Kind.TheVariants.{Piece, Commit, Mark}
use Rattle.ts_model.specs.declared.plan.Plan.{Plan}
use Rattle.ts_check.specs.Checkup.{Checkup, snapshot_of}
use Rattle.ts_board.specs.declared.law.Terms.{Terms}
use Rattle.ts_board.specs.Checks.{IsFromCheck}
use Rattle.ts_board.specs.Kept.{HasLeft}

-- the words were left by a run on a board that was opened for this plan
abbrev pub HasEnded : Checkup → List ℕ → Type 0
HasEnded k words = (t : Terms) × (run : Run) × IsFromCheck t k × HasLeft t words run

-- the archive after whatever run left the words
abbrev pub LeftArchive : Checkup → List ℕ → Listing Stamp → Type 0
LeftArchive k words rows = (t : Terms) (run : Run) → IsFromCheck t k → HasLeft t words run
    → (a b : Tree) → at rows ≡ (after (snapshot_of k) k.plan (start (snapshot_of k) a b) run).archive

-- bit 33 says so
abbrev pub IsDone : ℕ → Type 0
IsDone word = bit_at word 33 ≡ 1

-- the flag of an entry is set just where the mark of the entry, among the first n actions, is done
pub record AreMarkedBelow (n : ℕ) (plan : Plan) (words : List ℕ) (flags : List Bool) : Type 0 where
  pub only : (e : ℕ) → slice_index_or flags e false ≡ true → (i : ℕ) × KindIs plan i (Mark e) × IsDone (slice_index words i)
  pub all : (i e : ℕ) → i < n → KindIs plan i (Mark e) → IsDone (slice_index words i) → e < length plan.entries → slice_index_or flags e false ≡ true

abbrev pub AreMarked : Plan → List ℕ → List Bool → Type 0
AreMarked plan words flags = AreMarkedBelow (length plan.actions) plan words flags

-- the flags are set at the marks that whatever run left the words has made
pub record AreMarksOf (k : Checkup) (words : List ℕ) (flags : List Bool) : Type 0 where
  pub ended : HasEnded k words
  pub marked : AreMarked k.plan words flags

abbrev pub picked : List Entry → List Bool → List Entry
picked [] flags = []
picked (x ∷ xs) [] = []
picked (x ∷ xs) (flag ∷ flags) = cond flag (x ∷ picked xs flags) (picked xs flags)

-- ---- flags

abbrev pub is_flagged : List Bool → Kind → Bool
is_flagged flags (Mark e) = slice_index_or flags e false
is_flagged flags (Commit e) = false
is_flagged flags (Piece e offset size p) = false

-- action i is the mark of an entry at which the flag is set
abbrev pub flagged : Plan → List Bool → ℕ → Bool
flagged plan flags i = elim (slice_get plan.actions i) [ None ↦ false | Some action ↦ is_flagged flags action.kind ]

-- there is a flag for each entry. Those that are set are of entries with marks, and these marks are done, and a closed part of the run
pub record AreOfPart (plan : Plan) (run : Run) (flags : List Bool) : Type 0 where
  pub count : length flags ≡ length plan.entries
  pub marked : (e : ℕ) → slice_index_or flags e false ≡ true → (i : ℕ) × KindIs plan i (Mark e)
  pub closed : IsClosedPart plan run (flagged plan flags)
  pub done : (i : ℕ) → flagged plan flags i ≡ true → Has run (finishes i)

-- the archive of this part
abbrev pub ArchiveOf : Checkup → List Bool → Listing Stamp → Type 0
ArchiveOf k flags rows = at rows ≡ archive_of_part (snapshot_of k) k.plan (flagged k.plan flags) (length k.plan.actions)
