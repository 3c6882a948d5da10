use Rattle.std.proofs.Common.{◌≡◌, [], ◌∷◌, ◌++◌, length, map, sym, ap, ap₂, ◌∙◌, subst, arith, append_assoc, append-nil}
use Rattle.std.proofs.lemmas.List.{nil_from_length}
use Rattle.ts_table.specs.Slots.{SlotsFit, cleared, parted, passed, slot_paths}
use Rattle.ts_table.specs.Splices.{spliced}
use Rattle.ts_table.proofs.Taking.{part_moved, slot_turn, step_rows}
use Rattle.ts_table.proofs.frame.taken_apart.Goals as goal

pub moved-part-requires-clause-fewer : goal.moved-part-requires-clause-fewer
moved-part-requires-clause-fewer g c =
    let turn = slot_turn c.loop-slot.rest.items c.move_before.new.rest.items c.in-Some.slot c.next.new.self.rest.items c.loop-slot.slot-iterator.rest.items c.in-Some.ensures.steps.0 c.loop-slot.invariant.fit c.move_before.ensures.left in
    let h = turn.fewer in omega arith

pub invariant_of-push : goal.invariant_of-push
invariant_of-push g c =
    let turn = slot_turn c.loop-slot.rest.items c.move_before.new.rest.items c.in-Some.slot c.next.new.self.rest.items c.loop-slot.slot-iterator.rest.items c.in-Some.ensures.steps.0 c.loop-slot.invariant.fit c.move_before.ensures.left in
    rw (part_moved c.loop-slot.rest.items c.move_before.new.rest.items c.in-Some.slot c.next.new.self.rest.items c.moved-part.result.items turn c.moved-part.ensures.moved) turn.listing

pub loop-slot-preserved : goal.loop-slot-preserved
loop-slot-preserved g c =
    let p = c.in-Some.slot.path in
    let more = c.next.new.self.rest.items in
    let next = c.in-Some.ensures.steps.0 in
    let turn = slot_turn c.loop-slot.rest.items c.move_before.new.rest.items c.in-Some.slot more c.loop-slot.slot-iterator.rest.items next c.loop-slot.invariant.fit c.move_before.ensures.left in
    let part = part_moved c.loop-slot.rest.items c.move_before.new.rest.items c.in-Some.slot more c.moved-part.result.items turn c.moved-part.ensures.moved in
    let left : c.moved-part.new.rest.items ≡ passed p c.loop-slot.rest.items = c.moved-part.ensures.left ∙ turn.behind in
    let long = ap length next in
    record {
      fit = subst (λ z. SlotsFit z more) (sym left) turn.more;
      rows_are =
          ap₂ (λ x y. x ++ spliced y (map cleared (slot_paths more))) c.move_before.ensures.moved left
          ∙ step_rows c.loop-slot.rows.items c.loop-slot.rest.items p (slot_paths more)
          ∙ ap (λ z. c.loop-slot.rows.items ++ spliced c.loop-slot.rest.items (map cleared (slot_paths z))) (sym next) ∙ c.loop-slot.invariant.rows_are;
      paths_are =
          ap (λ z. z ++ slot_paths more) c.in-Ok-push.ensures.items ∙ append_assoc c.loop-slot.paths.items (p ∷ []) (slot_paths more)
          ∙ ap (λ z. c.loop-slot.paths.items ++ slot_paths z) (sym next) ∙ c.loop-slot.invariant.paths_are;
      parts_are =
          ap₂ (λ x y. x ++ parted y (slot_paths more)) c.in-Ok.ensures.items left
          ∙ append_assoc c.loop-slot.parts.items (c.moved-part.result.items ∷ []) (parted (passed p c.loop-slot.rest.items) (slot_paths more))
          ∙ ap (λ z. c.loop-slot.parts.items ++ (z ∷ parted (passed p c.loop-slot.rest.items) (slot_paths more))) part
          ∙ ap (λ z. c.loop-slot.parts.items ++ parted c.loop-slot.rest.items (slot_paths z)) (sym next) ∙ c.loop-slot.invariant.parts_are;
      rows_room = (let a = c.loop-slot.invariant.rows_room in let b = c.move_before.ensures.room in let d = c.move_before.ensures.capacity in let e = c.moved-part.ensures.fewer in omega arith);
      paths_room = (let a = c.loop-slot.invariant.paths_room in let b = c.in-Ok-push.ensures.len in let d = c.push-in-loop-slot.ensures.capacity in omega arith);
      parts_room = (let a = c.loop-slot.invariant.parts_room in let b = c.in-Ok.ensures.len in let d = c.push.ensures.capacity in omega arith);
    }

pub returns-clause-paths : goal.returns-clause-paths
returns-clause-paths g c =
    let ended = nil_from_length c.loop-slot.slot-iterator.rest.items (sym c.loop-slot.slot-iterator.rest.ok.0 ∙ c.in-None.ensures.steps.0) in
    sym (append-nil c.loop-slot.paths.items) ∙ ap (λ z. c.loop-slot.paths.items ++ slot_paths z) (sym ended) ∙ c.loop-slot.invariant.paths_are

pub returns-clause-parts : goal.returns-clause-parts
returns-clause-parts g c =
    let ended = nil_from_length c.loop-slot.slot-iterator.rest.items (sym c.loop-slot.slot-iterator.rest.ok.0 ∙ c.in-None.ensures.steps.0) in
    sym (append-nil c.loop-slot.parts.items) ∙ ap (λ z. c.loop-slot.parts.items ++ parted c.loop-slot.rest.items (slot_paths z)) (sym ended) ∙ c.loop-slot.invariant.parts_are
