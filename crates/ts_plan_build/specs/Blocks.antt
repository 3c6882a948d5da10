-- The actions of an entry, which stand side by side in a built plan.
--     block F S e entry above base    the actions of entry e, the first of them with the number base
use Rattle.std.specs.Prelude.{ℕ, zero, suc, ◌+◌, ◌-◌, ◌*◌, ◌/◌, ◌==◌, min, cond, List, [], ◌∷◌, ◌++◌, length, flat_map, Option, Some, None}
use Rattle.ts_name.specs.Paths.{Path}
use Rattle.ts_model.specs.Trees.{Listing}
use Rattle.ts_model.specs.Plans.{piece_size}
use Rattle.ts_model.specs.Sync.{treatment}
use Rattle.ts_model.specs.declared.row.Content.TheVariants.{Absent, Dir, File}
use Rattle.ts_model.specs.declared.row.Row.{Row}
use Rattle.ts_model.specs.declared.row.Stamp.{Stamp}
use Rattle.ts_model.specs.declared.plan.Reason.{Reason}
use Rattle.ts_model.specs.declared.plan.Entry.{Entry}
use Rattle.ts_model.specs.declared.plan.Side.TheVariants as side
use Rattle.ts_model.specs.declared.plan.Treatment.{Treatment}
use Rattle.ts_model.specs.declared.plan.Treatment.TheVariants.{Copied, Agreed, NewDirectory, Skipped}
use Rattle.ts_model.specs.declared.plan.Action.{Action}
use Rattle.ts_model.specs.declared.plan.Kind.TheVariants.{Piece, Commit, Mark}
use Rattle.ts_table.specs.Tables.{rows_below}

-- what f gives at each number below n, in order
abbrev pub each_below : {A : Type 0} → (ℕ → A) → ℕ → List A
each_below f zero = []
each_below f (suc n) = each_below f n ++ f n ∷ []

-- how many pieces a file of this size has
unfoldable pub piece_count : ℕ → ℕ
piece_count size = cond (size == 0) 0 ((size - 1) / piece_size + 1)

-- a piece of a file
abbrev pub piece_of : ℕ → Path → ℕ → ℕ → Action
piece_of e p size j = record { kind = Piece e (j * piece_size) (min piece_size (size - j * piece_size)) p; preds = [] }

abbrev pub row_pieces : ℕ → Row Stamp → List Action
row_pieces e row = elim row.content [ Absent ↦ [] | Dir ↦ [] | File stamp ↦ each_below (piece_of e row.path stamp.size) (piece_count stamp.size) ]

-- the pieces of the files at and below a path
abbrev pub pieces_of : ℕ → Listing Stamp → List Action
pieces_of e rows = flat_map (row_pieces e) rows

abbrev pub commit_of : ℕ → ℕ → ℕ → Action
commit_of e base count = record { kind = Commit e; preds = each_below (λ i. base + i) count }

abbrev pub some_of : Option ℕ → List ℕ
some_of None = []
some_of (Some x) = x ∷ []

abbrev pub mark_of : ℕ → Option ℕ → Option ℕ → Action
mark_of e above commit = record { kind = Mark e; preds = some_of above ++ some_of commit }

-- the actions of a copied entry
abbrev pub copy_block : ℕ → Listing Stamp → Option ℕ → ℕ → List Action
copy_block e rows above base = pieces_of e rows ++ commit_of e base (length (pieces_of e rows)) ∷ mark_of e above (Some (base + length (pieces_of e rows))) ∷ []

abbrev pub block_by : Listing Stamp → Listing Stamp → ℕ → Path → Treatment → Option ℕ → ℕ → List Action
block_by F S e p (Copied side.First) above base = copy_block e (rows_below p F) above base
block_by F S e p (Copied side.Second) above base = copy_block e (rows_below p S) above base
block_by F S e p Agreed above base = mark_of e above None ∷ []
block_by F S e p NewDirectory above base = mark_of e above None ∷ []
block_by F S e p Skipped above base = []

abbrev pub block : Listing Stamp → Listing Stamp → ℕ → Path → Reason → Option ℕ → ℕ → List Action
block F S e p r above base = block_by F S e p (treatment r) above base

-- the same by the entry
abbrev pub entry_block : Listing Stamp → Listing Stamp → ℕ → Entry → Option ℕ → ℕ → List Action
entry_block F S number entry above base = block F S number entry.path entry.reason above base
