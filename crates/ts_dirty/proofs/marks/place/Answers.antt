use Rattle.std.proofs.Common.{rules}
use Rattle.std.proofs.lemmas.List.Sorted.{IsPartitionPoint-from_clause}
use Rattle.std.specs.Ordering.{is_lt}
use Rattle.ts_name.specs.Paths.{Path, path_cmp}
use Rattle.ts_dirty.proofs.Dirt.{before_front, place_parts}
use Rattle.ts_dirty.proofs.marks.place.Goals as goal

pub returns-clause-split : goal.returns-clause-split
returns-clause-split c = place_parts c.args.paths.now c.args.path.now c.partition_point.result
    (IsPartitionPoint-from_clause (λ (y : Path). is_lt (path_cmp y c.args.path.now)) c.args.paths.now c.partition_point.result c.partition_point.ensures.partitioned (before_front c.args.paths.now c.args.path.now c.requires) (λ a r f' k. search rules))
