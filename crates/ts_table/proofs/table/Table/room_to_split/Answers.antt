use Rattle.std.proofs.Common.{◌≡◌, ◌++◌, ◌∷◌, [], length, sym, ap, ap₂, ◌∙◌, subst, arith}
use Rattle.std.proofs.lemmas.List.{map-append, take_all, take_more}
use Rattle.std.specs.List.{AllByRecursion}
use Rattle.ts_name.proofs.Utf8.{all_append}
use Rattle.ts_table.specs.Slots.{SlotFits, slot_paths}
use Rattle.ts_table.specs.declared.frame.Slot.{Slot}
use Rattle.ts_table.proofs.Putting.{length_slots}
use Rattle.ts_table.proofs.table.Table.room_to_split.Given.{Over}
use Rattle.ts_table.proofs.table.Table.room_to_split.Goals as goal
use Rattle.ts_table.proofs.table.Table.room_to_split.Goals.{In_ok-with_capacity-3}

pub loop-path-preserved : goal.loop-path-preserved
loop-path-preserved g c =
    let slots = c.loop-path.slots.items in
    let slot = c.in_ok-slot.field-0 in
    let paths = c.args.paths.now in
    let added = c.in_ok-push.ensures.items in
    record {
      fit = subst (λ z. AllByRecursion (λ (it : Slot _). SlotFits c.args.self.now it) z) (sym added) (all_append (λ (it : Slot _). SlotFits c.args.self.now it) slots (slot ∷ []) c.loop-path.invariant.fit (c.in_ok-slot.ensures.fits, tt));
      paths_are =
          ap slot_paths added ∙ map-append (λ (it : Slot _). it.path) slots (slot ∷ [])
          ∙ ap₂ (λ x y. x ++ y ∷ []) c.loop-path.invariant.paths_are (c.in_ok-slot.ensures.path ∙ c.path-item.is)
          ∙ sym (take_more paths c.loop-path.path-index c.path-item.result c.loop-path-test.true);
    }

-- behind the last path each has a slot
all_there : (g : Over) (c : In_ok-with_capacity-3 g) → slot_paths c.loop-path.slots.items ≡ c.args.paths.now
all_there g c = c.loop-path.invariant.paths_are ∙ take_all c.loop-path.path-index c.args.paths.now c.loop-path-test.false

pub returns-clause-room : goal.returns-clause-room
returns-clause-room g c =
    let rows = ap length c.self.view_is in
    let count = c.len.ensures in
    let many = c.self.inside.rows.ok.0 in
    let paths = sym (length_slots c.loop-path.slots.items) ∙ ap length (all_there g c) in
    record {
      slots = c.loop-path.invariant.fit;
      no_rows = c.in_ok-with_capacity.ensures.items;
      rows_room = (let a = c.in_ok-with_capacity.ensures.capacity in omega arith);
      no_paths = c.in_ok-with_capacity-2.ensures.items;
      paths_room = (let a = c.in_ok-with_capacity-2.ensures.capacity in omega arith);
      no_parts = c.in_ok-with_capacity-3.ensures.items;
      parts_room = (let a = c.in_ok-with_capacity-3.ensures.capacity in omega arith);
    }

pub returns-clause-paths : goal.returns-clause-paths
returns-clause-paths g c = all_there g c
