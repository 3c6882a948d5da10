-- What both replicas agree on before a run, and its archive will name.
--     agreed_at entry rows          the paths that the entry says it of, in a replica with these rows: all at and below the path that is the
--                                   same on both sides, or the new directory
--     agreed_paths entries rows     those of all entries, in their order
--     agreed_entries entries        the paths of the entries that say it of some
--     root_of pair side             the root of a replica
--     AreFlushed flushed pair entries rows other   what the entries say that both agree on is flushed, as `flushed` says of a root and a path,
--                                   in the first replica, which has these rows, and in the second, which has the other ones
--     AreFlushedInBoth flushed pair paths          `flushed` says so of these paths in both replicas
--     HasFlushed w pair checkup     what a plan says that both agree on is flushed, and the directories around its entries that say so
--     HasFlushedPut w pair plan results            the directories around what a run with these results put in place in either replica are, in both
use Rattle.std.specs.Prelude.{ℕ, List, [], ◌∷◌, ◌++◌, map}
use Rattle.std.specs.List.{All}
use Rattle.ts_check.specs.Checkup.{Checkup}
use Rattle.ts_command.specs.declared.job.Pair.{Pair}
use Rattle.ts_exec.specs.Failures.{of_side}
use Rattle.ts_exec.specs.declared.outcome.ActionResult.{ActionResult}
use Rattle.ts_name.specs.Paths.{Path}
use Rattle.ts_model.specs.Sync.{treatment}
use Rattle.ts_model.specs.Trees.{Listing}
use Rattle.ts_model.specs.declared.plan.Entry.{Entry}
use Rattle.ts_model.specs.declared.plan.Plan.{Plan}
use Rattle.ts_model.specs.declared.plan.Side.{Side}
use Rattle.ts_model.specs.declared.plan.Side.TheVariants.{First, Second}
use Rattle.ts_model.specs.declared.plan.Treatment.{Treatment}
use Rattle.ts_model.specs.declared.plan.Treatment.TheVariants.{Copied, Agreed, NewDirectory, Skipped}
use Rattle.ts_model.specs.declared.row.Stamp.{Stamp}
use Rattle.ts_perform.specs.Puts.{put_paths}
use Rattle.ts_perform.specs.Worlds.{World}
use Rattle.ts_table.specs.Tables.{rows_below}

abbrev pub agreed_by : Treatment → Path → Listing Stamp → List Path
agreed_by (Copied from) path rows = []
agreed_by Agreed path rows = map (λ row. row.path) (rows_below path rows)
agreed_by NewDirectory path rows = path ∷ []
agreed_by Skipped path rows = []

abbrev pub agreed_at : Entry → Listing Stamp → List Path
agreed_at entry rows = agreed_by (treatment entry.reason) entry.path rows

abbrev pub agreed_paths : List Entry → Listing Stamp → List Path
agreed_paths [] rows = []
agreed_paths (entry ∷ entries) rows = agreed_at entry rows ++ agreed_paths entries rows

abbrev pub agreed_entry : Treatment → Path → List Path
agreed_entry (Copied from) path = []
agreed_entry Agreed path = path ∷ []
agreed_entry NewDirectory path = path ∷ []
agreed_entry Skipped path = []

abbrev pub agreed_entries : List Entry → List Path
agreed_entries [] = []
agreed_entries (entry ∷ entries) = agreed_entry (treatment entry.reason) entry.path ++ agreed_entries entries

abbrev pub root_of : Pair → Side → List ℕ
root_of pair side = of_side pair.first.now pair.second.now side

abbrev pub AreFlushed : (List ℕ → Path → Type 0) → Pair → List Entry → (rows other : Listing Stamp) → Type 0
AreFlushed flushed pair entries rows other = All (flushed (root_of pair First)) (agreed_paths entries rows) × All (flushed (root_of pair Second)) (agreed_paths entries other)

abbrev pub AreFlushedInBoth : (List ℕ → Path → Type 0) → Pair → List Path → Type 0
AreFlushedInBoth flushed pair paths = All (flushed (root_of pair First)) paths × All (flushed (root_of pair Second)) paths

abbrev pub HasFlushed : {S F P A L : Type 0} → World S F P A L → Pair → Checkup → Type 0
HasFlushed w pair checkup =
    AreFlushed w.is_flushed pair checkup.plan.entries checkup.first checkup.second × AreFlushedInBoth w.is_flushed_above pair (agreed_entries checkup.plan.entries)

abbrev pub HasFlushedPut : {S F P A L : Type 0} → World S F P A L → Pair → Plan → List ActionResult → Type 0
HasFlushedPut w pair plan results =
    AreFlushedInBoth w.is_flushed_above pair (put_paths First plan.entries plan.actions results)
    × AreFlushedInBoth w.is_flushed_above pair (put_paths Second plan.entries plan.actions results)
