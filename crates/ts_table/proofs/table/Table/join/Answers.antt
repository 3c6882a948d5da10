use Rattle.std.proofs.Common.{◌≡◌, ◌++◌, length, map, sum_by, sym, ap, ap₂, ◌∙◌, subst, arith}
use Rattle.ts_model.specs.Trees.{at}
use Rattle.ts_table.specs.Slots.{slot_paths}
use Rattle.ts_table.specs.Splices.{put_of, spliced}
use Rattle.ts_table.specs.Splits.{edits_of}
use Rattle.ts_table.proofs.Joining.{frame_joined, joined_whole}
use Rattle.ts_table.proofs.Putting.{rows_put}
use Rattle.ts_table.proofs.Splicing.{IsSpliced}
use Rattle.ts_table.proofs.table.Table.join.Given.{Over}
use Rattle.ts_table.proofs.table.Table.join.Goals as goal
use Rattle.ts_table.proofs.table.Table.join.Goals.{After-merged-rows}

pub merged-rows-requires : goal.merged-rows-requires
merged-rows-requires g c =
    let none = ap length c.in-Ok.ensures.no_rows in
    let few = ap length c.into_rows.ensures.rows in
    let room = c.in-Ok.ensures.rows_room in
    let puts : sum_by (λ put. length put.rows) c.put_down-puts.result.items ≡ sum_by (λ slot. length slot.names.items) c.in-Ok.space.slots.items =
    ap (sum_by (λ put. length put.rows)) (c.put_down-puts.ensures ∙ ap (λ z. z ++ map put_of (edits_of (slot_paths c.in-Ok.space.slots.items) c.args.parts.items)) c.in-Ok.ensures.no_puts)
    ∙ rows_put c.in-Ok.space.slots.items c.args.parts.items (rw c.deref.ensures.value at c.in-Ok.ensures.fit) in
    omega arith

outcome : (g : Over) (c : After-merged-rows g) → IsSpliced (at c.args.frame.rows) (edits_of c.args.frame.paths c.args.parts.items) c.merged-rows.result.items
outcome g c =
    let puts = c.put_down-puts.ensures ∙ ap₂ (λ x y. x ++ map put_of (edits_of y c.args.parts.items)) c.in-Ok.ensures.no_puts c.in-Ok.ensures.slots in
    let is : c.merged-rows.result.items ≡ spliced c.args.frame.rows (map put_of (edits_of c.args.frame.paths c.args.parts.items)) =
    c.merged-rows.ensures ∙ ap (λ z. z ++ spliced c.from_vec.result.items c.put_down-puts.result.items) c.in-Ok.ensures.no_rows ∙ ap₂ spliced (c.from_vec.ensures.items ∙ c.into_rows.ensures.rows) puts in
    subst (λ z. IsSpliced (at c.args.frame.rows) (edits_of c.args.frame.paths c.args.parts.items) z) (sym is)
    (frame_joined c.args.frame c.args.parts.items c.into_rows.ensures.lawful c.requires (rw c.deref.ensures.value at c.in-Ok.ensures.listings) (rw c.deref.ensures.value at c.in-Ok.ensures.paths))

pub invariant_of-result : goal.invariant_of-result
invariant_of-result g c = let h = outcome g c in h.listing

pub returns-in-Ok-clause-ok : goal.returns-in-Ok-clause-ok
returns-in-Ok-clause-ok g c = let h = outcome g c in h.tree

pub returns-in-Ok-clause-whole : goal.returns-in-Ok-clause-whole
returns-in-Ok-clause-whole g c t is = let h = outcome g c in h.tree ∙ joined_whole c.args.frame.rows t c.args.frame.paths c.args.parts.items c.requires is
