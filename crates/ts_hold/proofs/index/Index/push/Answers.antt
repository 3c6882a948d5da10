use Rattle.std.proofs.Common.{◌<◌, refl, ap, ◌∙◌, length, arith}
use Rattle.std.proofs.lemmas.List.{get_or_default}
use Rattle.ts_hold.proofs.Chains.{chained_room, links_push, slot_small, some_room}
use Rattle.ts_hold.proofs.index.Index.push.Goals as goal

pub make_room-requires : goal.make_room-requires
make_room-requires c = some_room _ _ _ c.self.invariant

pub index-earlier-requires : goal.index-earlier-requires
index-earlier-requires c = omega (arith, slot_small c.args.key, c.slot_of-chain.ensures, c.in_ok-make_room.ensures.ok.room, c.make_room.new.heads.ok.0)

pub index_mut-requires : goal.index_mut-requires
index_mut-requires c = omega (arith, slot_small c.args.key, c.slot_of-chain.ensures, c.in_ok-make_room.ensures.ok.room, c.make_room.new.heads.ok.0)

pub invariant_of-self-2 : goal.invariant_of-self-2
invariant_of-self-2 c =
    let inside : c.slot_of-chain.result < length c.make_room.new.heads.items = omega (arith, slot_small c.args.key, c.slot_of-chain.ensures, c.in_ok-make_room.ensures.ok.room) in
    links_push c.make_room.new.heads.items c.self.inside.links.items c.push.new.self.items (record { key = c.args.key; earlier = c.index-earlier.result.now })
    c.args.key c.slot_of-chain.result c.len.result
    (chained_room _ _ _ _ c.self.invariant c.in_ok-make_room.ensures.ok) c.in_ok-make_room.ensures.ok.room (omega (arith, c.requires, ap length c.self.view_is)) c.slot_of-chain.ensures refl
    (c.index-earlier.ensures ∙ get_or_default _ _ _ 0 inside) c.in_ok-push.ensures.items (omega (arith, c.len.ensures, c.push.new.self.ok.0))
