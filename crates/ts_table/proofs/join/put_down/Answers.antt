use Rattle.std.proofs.Common.{◌≡◌, [], ◌∷◌, ◌++◌, length, map, sym, ap, ap₂, ◌∙◌, subst, arith, append_assoc}
use Rattle.ts_table.specs.Slots.{PartsFit, rerouted, slot_paths}
use Rattle.ts_table.specs.Splices.{put_of}
use Rattle.ts_table.specs.Splits.{edits_of}
use Rattle.ts_table.specs.Tables.{placed}
use Rattle.ts_table.proofs.Putting.{part_put}
use Rattle.ts_table.proofs.join.put_down.Goals as goal

pub loop-slot-preserved : goal.loop-slot-preserved
loop-slot-preserved g c =
    let slot = c.in-Some.slot in
    let more = c.next.new.self.rest.items in
    let part = c.in-Some-pop_front.part in
    let left = c.pop_front.new.self.items in
    let next = c.in-Some.ensures.steps.0 in
    let parts : c.loop-slot.rest.items ≡ part ∷ left = c.in-Some-pop_front.ensures.items in
    let fit : PartsFit (slot ∷ more) (part ∷ left) = subst (λ z. PartsFit (slot ∷ more) z) parts (subst (λ z. PartsFit z c.loop-slot.rest.items) next c.loop-slot.invariant.fit) in
    let put = part_put slot.path part slot.names.items fit.0 in
    let rows_are : c.new-rows.result ≡ placed slot.path part =
    c.new-rows.ensures ∙ c.moved.ensures.moved ∙ ap (λ z. z ++ rerouted slot.names.items c.from_vec-rows.result.items) fit.1.empty
    ∙ ap (rerouted slot.names.items) (c.from_vec-rows.ensures.items ∙ c.into_rows.ensures.rows) ∙ put.0 in
    let long = ap length next in
    record {
      fit = fit.2;
      puts_are =
          ap (λ z. z ++ map put_of (edits_of (slot_paths more) left)) c.in-Ok.ensures.items
          ∙ ap (λ z. (c.loop-slot.puts.items ++ record { path = slot.path; rows = z } ∷ []) ++ map put_of (edits_of (slot_paths more) left)) rows_are
          ∙ append_assoc c.loop-slot.puts.items (record { path = slot.path; rows = placed slot.path part } ∷ []) (map put_of (edits_of (slot_paths more) left))
          ∙ ap₂ (λ z w. c.loop-slot.puts.items ++ map put_of (edits_of (slot_paths z) w)) (sym next) (sym parts) ∙ c.loop-slot.invariant.puts_are;
      room = (let a = c.loop-slot.invariant.room in let b = c.in-Ok.ensures.len in let d = c.push.ensures.capacity in omega arith);
    }
