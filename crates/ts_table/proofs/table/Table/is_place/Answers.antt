use Rattle.std.proofs.Common.{rules}
use Rattle.std.proofs.lemmas.List.Sorted.{IsPartitionPoint-from_clause}
use Rattle.std.specs.Ordering.{is_lt}
use Rattle.ts_name.specs.Paths.{path_cmp}
use Rattle.ts_table.proofs.Found.{before_parts}
use Rattle.ts_table.proofs.Places.{front_lists, front_before, place_in_front}
use Rattle.ts_table.proofs.table.Table.is_place.Goals as goal

pub is_place_after-requires-clause-listing : goal.is_place_after-requires-clause-listing
is_place_after-requires-clause-listing g c = rw c.deref-2.ensures.value (front_lists c.self.inside.rows.items c.partition_point-start.result c.self.invariant)

pub is_place_after-requires-clause-after : goal.is_place_after-requires-clause-after
is_place_after-requires-clause-after g c =
    let first = IsPartitionPoint-from_clause (λ row. is_lt (path_cmp row.path c.args.path.now)) c.deref.result.now c.partition_point-start.result c.partition_point-start.ensures.partitioned (rw c.deref.ensures.value (before_parts c.self.inside.rows.items c.args.path.now c.self.invariant.ascending)) (λ a r f k. search rules) in
    rw c.deref-2.ensures.value (front_before c.self.inside.rows.items c.args.path.now c.partition_point-start.result (rw c.deref.ensures.value at c.partition_point-start.ensures.bound) (rw c.deref.ensures.value at first))

pub returns : goal.returns
returns g c =
    let first = IsPartitionPoint-from_clause (λ row. is_lt (path_cmp row.path c.args.path.now)) c.deref.result.now c.partition_point-start.result c.partition_point-start.ensures.partitioned (rw c.deref.ensures.value (before_parts c.self.inside.rows.items c.args.path.now c.self.invariant.ascending)) (λ a r f k. search rules) in
    let same = place_in_front c.self.inside.rows.items c.args.path.now c.partition_point-start.result c.self.invariant (rw c.deref.ensures.value at c.partition_point-start.ensures.bound) (rw c.deref.ensures.value at first) in
    let tested = rw c.deref-2.ensures.value at c.is_place_after.ensures in
    rw (← c.self.view_is) ((λ t. same.0 (tested.0 t)), (λ place. tested.1 (same.1 place)))
