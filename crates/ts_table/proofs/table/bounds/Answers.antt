use Rattle.std.proofs.Common.{rules}
use Rattle.std.proofs.lemmas.List.{take_rest}
use Rattle.std.proofs.lemmas.List.Sorted.{IsPartitionPoint-from_clause}
use Rattle.std.specs.Ordering.{is_lt}
use Rattle.ts_name.specs.Paths.{path_cmp}
use Rattle.ts_table.specs.Tables.{is_above}
use Rattle.ts_table.proofs.Found.{before_parts, cut_bounds, above_test}
use Rattle.ts_table.proofs.table.bounds.Goals as goal

pub returns-clause-cut : goal.returns-clause-cut
returns-clause-cut g c =
    let first = IsPartitionPoint-from_clause (λ row. is_lt (path_cmp row.path c.args.path.now)) c.args.rows.now c.partition_point-start.result c.partition_point-start.ensures.partitioned (before_parts c.args.rows.now c.args.path.now c.requires) (λ a r f k. search rules) in
    cut_bounds c.args.rows.now _ c.args.path.now c.partition_point-start.result c.partition_point-count.result (take_rest c.args.rows.now c.partition_point-start.result) c.requires c.partition_point-start.ensures.bound first c.partition_point-count.ensures.bound
    (λ parted. IsPartitionPoint-from_clause (λ row. is_above c.args.path.now row.path) _ c.partition_point-count.result c.partition_point-count.ensures.partitioned parted (λ a r f k. (above_test r c.args.path.now a.0.now.path (search rules), search rules)))
