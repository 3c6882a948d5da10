use Rattle.std.proofs.Common.{◌≡◌, ◌≢◌, [], map, sym, ap, ap₂, ◌∙◌, subst}
use Rattle.std.specs.List.{AllByRecursion}
use Rattle.ts_name.specs.Paths.{Path}
use Rattle.ts_model.specs.Trees.{at}
use Rattle.ts_table.specs.Tables.{IsPlace}
use Rattle.ts_table.specs.Splices.{spliced}
use Rattle.ts_table.specs.Splits.{AreSeparate, ArePartsAt, IsFrame, FrameOf}
use Rattle.ts_table.specs.Slots.{cleared, parted, slot_paths}
use Rattle.ts_name.proofs.Basics.{weaker}
use Rattle.ts_table.proofs.Joining.{IsLeft, frame_left}
use Rattle.ts_table.proofs.Taking.{taken_at_first, slots_fit, parts_there}
use Rattle.ts_table.proofs.table.Table.split.Given.{Over}
use Rattle.ts_table.proofs.table.Table.split.Goals as goal
use Rattle.ts_table.proofs.table.Table.split.Goals.{After-into_rows, After-taken_apart-rows}

named : (g : Over) (c : After-into_rows g) → AllByRecursion (λ p. p ≢ []) c.args.paths.now
named g c = weaker (λ (p : Path). IsPlace (at c.args.self) p) (λ p. p ≢ []) (λ p h. h.not_root) c.args.paths.now c.requires.places

pub taken_apart-rows-requires-clause-slots : goal.taken_apart-rows-requires-clause-slots
taken_apart-rows-requires-clause-slots g c =
    rw c.into_rows.ensures.rows
    (slots_fit c.args.self c.args.self c.in-Ok.room.slots.items c.into_rows.ensures.listing (subst (λ z. AllByRecursion (λ (p : Path). p ≢ []) z) (sym c.in-Ok.ensures.paths) (named g c))
    (taken_at_first c.args.self (slot_paths c.in-Ok.room.slots.items) c.into_rows.ensures.listing (subst (λ z. AreSeparate z) (sym c.in-Ok.ensures.paths) c.requires.separate)) c.in-Ok.ensures.room.slots)

-- what is left is a frame
outcome : (g : Over) (c : After-taken_apart-rows g) → IsLeft c.args.self c.args.paths.now (spliced c.args.self (map cleared c.args.paths.now))
outcome g c = frame_left c.args.self c.args.paths.now c.into_rows.ensures.listing c.requires

rows_are : (g : Over) (c : After-taken_apart-rows g) → c.taken_apart-rows.result.0.items ≡ spliced c.args.self (map cleared c.args.paths.now)
rows_are g c = c.taken_apart-rows.ensures.rows ∙ ap₂ (λ x y. spliced x (map cleared y)) c.into_rows.ensures.rows c.in-Ok.ensures.paths

pub invariant_of-result : goal.invariant_of-result
invariant_of-result g c =
    let h = outcome g c in
    let frame : ◌≡◌ {A = FrameOf g.row.F.Denot} (record { rows = c.taken_apart-rows.result.0.items; paths = c.taken_apart-rows.result.1.items }) (record { rows = spliced c.args.self (map cleared c.args.paths.now); paths = c.args.paths.now }) =
    ap₂ (λ x y. record { rows = x; paths = y }) (rows_are g c) (c.taken_apart-rows.ensures.paths ∙ c.in-Ok.ensures.paths) in
    subst (λ z. IsFrame z) (sym frame) h.frame

pub returns-in-Ok-clause-parts : goal.returns-in-Ok-clause-parts
returns-in-Ok-clause-parts g c =
    let at_paths = parts_there c.args.self c.args.self c.args.paths.now c.into_rows.ensures.listing (named g (goal.at.returns-in-Ok-clause-parts g c).After-into_rows) (taken_at_first c.args.self c.args.paths.now c.into_rows.ensures.listing c.requires.separate) in
    subst (λ z. ArePartsAt (at c.args.self) c.args.paths.now z) (sym (c.taken_apart-rows.ensures.parts ∙ ap₂ parted c.into_rows.ensures.rows c.in-Ok.ensures.paths)) at_paths

pub returns-in-Ok-clause-frame : goal.returns-in-Ok-clause-frame
returns-in-Ok-clause-frame g c = let h = outcome g c in ap at (rows_are g c) ∙ h.tree
