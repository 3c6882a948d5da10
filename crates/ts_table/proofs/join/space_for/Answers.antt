use Rattle.std.proofs.Common.{◌≡◌, ◌+◌, ◌∷◌, [], ◌++◌, length, take, get_or, sym, ap, ◌∙◌, subst, arith}
use Rattle.ts_table.proofs.Exits.{exit_itself}
use Rattle.ts_table.proofs.Putting.{IsFilled, edit_at, filled_all, filled_more, room_more}
use Rattle.ts_table.proofs.join.space_for.Given.{Over}
use Rattle.ts_table.proofs.join.space_for.Goals as goal
use Rattle.ts_table.proofs.join.space_for.Goals.{In_ok-rows}

pub returns-in_err-slot-clause-too_long : goal.returns-in_err-slot-clause-too_long
returns-in_err-slot-clause-too_long g c too all =
    let i = c.loop-index.index in
    let p = c.path-item.result in
    let paths = c.paths-path-items.ensures.paths in
    let below = c.loop-index-test.true in
    let under = ap length paths in
    let long = c.requires in
    c.in_err-slot.ensures.too_long (exit_itself c.from_residual.result c.in_err-slot.field-0.0 c.from_residual.ensures.1 too)
    (edit_at c.args.frame.now.paths c.args.parts.now i p c.index-parts-index.result (omega arith) (omega arith) (c.path-item.is ∙ ap (λ z. get_or z i p) paths) c.index-parts-index.is all)

pub loop-index-preserved : goal.loop-index-preserved
loop-index-preserved g c =
    let i = c.loop-index.index in
    let p = c.path-item.result in
    let paths = c.paths-path-items.ensures.paths in
    let below = c.loop-index-test.true in
    let under = ap length paths in
    let long = c.requires in
    let filled : IsFilled (c.loop-index.slots.items ++ c.in_ok-slot.slot ∷ []) (take (i + 1) c.args.frame.now.paths) (take (i + 1) c.args.parts.now) =
    filled_more c.loop-index.slots.items c.args.frame.now.paths c.args.parts.now i c.in_ok-slot.slot p c.index-parts-index.result (omega arith) (omega arith) (c.path-item.is ∙ ap (λ z. get_or z i p) paths) c.index-parts-index.is
    c.loop-index.invariant.filled c.in_ok-slot.ensures.path c.in_ok-slot.ensures.names c.in_ok-slot.ensures.room c.in_ok-slot.ensures.listing c.in_ok-slot.ensures.paths in
    record {
      filled = subst (λ z. IsFilled z (take (i + 1) c.args.frame.now.paths) (take (i + 1) c.args.parts.now)) (sym c.in_ok-push.ensures.items) filled;
      room_is =
          (let added = rw c.in_ok-room.ensures.ok_part at c.checked_add.ensures in
          let few = c.len.ensures in
          let many = c.in_ok-slot.slot.names.ok.0 in
          let sum : c.in_ok-room.room ≡ c.loop-index.room + length c.in_ok-slot.slot.names.items = omega (arith, added.1) in
          room_more (length c.rows-room.result.now) c.loop-index.room c.in_ok-room.room c.loop-index.slots.items c.push.new.self.items c.in_ok-slot.slot c.loop-index.invariant.room_is sum c.in_ok-push.ensures.items);
    }

-- behind the last path all slots are there
all_filled : (g : Over) (c : In_ok-rows g) → IsFilled c.loop-index.slots.items c.args.frame.now.paths c.args.parts.now
all_filled g c =
    let behind = c.loop-index-test.false in
    let long = ap length c.paths-path-items.ensures.paths in
    filled_all c.loop-index.slots.items c.args.frame.now.paths c.args.parts.now c.loop-index.index (omega arith) c.requires c.loop-index.invariant.filled

pub returns-clause-slots : goal.returns-clause-slots
returns-clause-slots g c = let filled = all_filled g c in filled.paths_are

pub returns-clause-fit : goal.returns-clause-fit
returns-clause-fit g c = let filled = all_filled g c in filled.fit

pub returns-clause-listings : goal.returns-clause-listings
returns-clause-listings g c = let filled = all_filled g c in filled.listings

pub returns-clause-paths : goal.returns-clause-paths
returns-clause-paths g c = let filled = all_filled g c in filled.are_paths

pub returns-clause-rows_room : goal.returns-clause-rows_room
returns-clause-rows_room g c =
    let room_is = c.loop-index.invariant.room_is in
    let framed = ap length c.rows-room.ensures in
    let wide = c.in_ok-rows.ensures.capacity in
    omega arith
