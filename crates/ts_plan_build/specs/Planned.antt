-- How many actions the builder's plan has.
--     entry_actions F S e         of an entry: what it copies takes a piece for each 1,048,576 bytes of a file and a commit,
--                                 and what isn't skipped a mark
--     IsPastLimit F S entries     there are more entries, or more actions, than a plan may have
use Rattle.std.specs.Prelude.{◌⊎◌, ℕ, ◌+◌, ◌<◌, List, length, sum_by}
use Rattle.ts_name.specs.Paths.{Path}
use Rattle.ts_model.specs.Trees.{Listing}
use Rattle.ts_model.specs.Plans.{action_limit, entry_limit}
use Rattle.ts_model.specs.Sync.{treatment}
use Rattle.ts_model.specs.declared.row.Content.TheVariants.{Absent, Dir, File}
use Rattle.ts_model.specs.declared.row.Row.{Row}
use Rattle.ts_model.specs.declared.row.Stamp.{Stamp}
use Rattle.ts_model.specs.declared.plan.Entry.{Entry}
use Rattle.ts_model.specs.declared.plan.Reason.{Reason}
use Rattle.ts_model.specs.declared.plan.Side.TheVariants as side
use Rattle.ts_model.specs.declared.plan.Treatment.{Treatment}
use Rattle.ts_model.specs.declared.plan.Treatment.TheVariants.{Copied, Agreed, NewDirectory, Skipped}
use Rattle.ts_table.specs.Tables.{rows_below}
use Rattle.ts_plan_build.specs.Blocks.{piece_count}

-- how many pieces what stands in a row has
abbrev pub row_count : Row Stamp → ℕ
row_count row = elim row.content [ Absent ↦ 0 | Dir ↦ 0 | File stamp ↦ piece_count stamp.size ]

-- how many pieces the files at a path and below it have
abbrev pub pieces_below : Path → Listing Stamp → ℕ
pieces_below p rows = sum_by row_count (rows_below p rows)

abbrev pub count_by_treatment : Listing Stamp → Listing Stamp → Path → Treatment → ℕ
count_by_treatment F S p (Copied side.First) = pieces_below p F + 2
count_by_treatment F S p (Copied side.Second) = pieces_below p S + 2
count_by_treatment F S p Agreed = 1
count_by_treatment F S p NewDirectory = 1
count_by_treatment F S p Skipped = 0

-- how many actions a path with this reason has
abbrev pub action_count : Listing Stamp → Listing Stamp → Path → Reason → ℕ
action_count F S p r = count_by_treatment F S p (treatment r)

abbrev pub entry_actions : Listing Stamp → Listing Stamp → Entry → ℕ
entry_actions F S e = action_count F S e.path e.reason

abbrev pub planned_actions : Listing Stamp → Listing Stamp → List Entry → ℕ
planned_actions F S entries = sum_by (entry_actions F S) entries

abbrev pub IsPastLimit : Listing Stamp → Listing Stamp → List Entry → Type 0
IsPastLimit F S entries = (entry_limit < length entries) ⊎ (action_limit < planned_actions F S entries)
