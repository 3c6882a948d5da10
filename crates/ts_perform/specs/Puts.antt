-- Which entries a run has put in place in a replica.
--     put_path on entries step         the path of the entry that this action has put in place in the replica on this side, if it has
--     put_paths on entries ..          those of all actions, in their order
use Rattle.std.specs.Prelude.{List, Option, Some, None, if◌then◌else◌, filter_map, slice_get, zip}
use Rattle.ts_name.specs.Paths.{Path}
use Rattle.ts_exec.specs.declared.outcome.ActionResult.{ActionResult}
use Rattle.ts_exec.specs.declared.outcome.ActionResult.TheVariants as ended
use Rattle.ts_model.specs.Plans.{is_from, other}
use Rattle.ts_model.specs.declared.plan.Action.{Action}
use Rattle.ts_model.specs.declared.plan.Entry.{Entry}
use Rattle.ts_model.specs.declared.plan.Kind.{Kind}
use Rattle.ts_model.specs.declared.plan.Kind.TheVariants.{Piece, Commit, Mark}
use Rattle.ts_model.specs.declared.plan.Side.{Side}

-- of an entry that is copied from the other side
abbrev pub path_into : Side → Option Entry → Option Path
path_into on None = None
path_into on (Some entry) = if is_from (other on) entry.reason then Some entry.path else None

abbrev pub committed : Side → List Entry → Kind → Option Path
committed on entries (Piece e offset size p) = None
committed on entries (Commit e) = path_into on (slice_get entries e)
committed on entries (Mark e) = None

abbrev pub put_path : Side → List Entry → Action × ActionResult → Option Path
put_path on entries (action, ended.Done) = committed on entries action.kind
put_path on entries (action, ended.Failed fault) = None
put_path on entries (action, ended.Blocked before) = None
put_path on entries (action, ended.Left) = None

abbrev pub put_paths : Side → List Entry → List Action → List ActionResult → List Path
put_paths on entries actions results = filter_map (put_path on entries) (zip actions results)
