use Rattle.std.proofs.Common.{rules, ◌≡◌, ◌∷◌, [], List, Some, subst}
use Rattle.std.proofs.lemmas.List.Sorted.{IsPartitionPoint-from_clause}
use Rattle.std.specs.Prelude.{slice_get}
use Rattle.std.specs.List.{AllByRecursion}
use Rattle.std.specs.Ordering.{is_lt}
use Rattle.ts_name.specs.Paths.{IsBefore, path_cmp}
use Rattle.ts_model.specs.Trees.{Listing}
use Rattle.ts_table.specs.Splices.{ComeFirst}
use Rattle.ts_table.specs.declared.splice.Put.{Put}
use Rattle.ts_table.proofs.Found.{before_parts}
use Rattle.ts_table.proofs.Places.{front_before}
use Rattle.ts_table.proofs.splice.rows_before.Goals as goal

-- what comes before a path comes before that of the first put, if it is the same
come_first : {F : Type 0} (puts : List (Put F)) (rows : Listing F) (put : Put F) → Some put ≡ slice_get puts 0 → AllByRecursion (λ row. IsBefore row.path put.path) rows → ComeFirst puts rows
come_first [] rows put e h = tt
come_first {F} (first ∷ puts) rows put e h =
    let same : put ≡ first = cc in
    subst (λ (p : Put F). AllByRecursion (λ row. IsBefore row.path p.path) rows) same h

pub returns-in-Some-clause-before : goal.returns-in-Some-clause-before
returns-in-Some-clause-before g c =
    let first = IsPartitionPoint-from_clause (λ row. is_lt (path_cmp row.path c.in-Some.put.now.path)) c.args.rows.now c.partition_point.result c.partition_point.ensures.partitioned (before_parts c.args.rows.now c.in-Some.put.now.path c.requires) (λ a r f k. search rules) in
    come_first c.args.puts.now _ c.in-Some.put.now c.in-Some.ensures.value (front_before c.args.rows.now c.in-Some.put.now.path c.partition_point.result c.partition_point.ensures.bound first)
