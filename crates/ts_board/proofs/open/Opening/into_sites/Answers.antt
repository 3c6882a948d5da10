use Rattle.std.proofs.Common.{List, ◌++◌, length, ap, ◌∙◌, arith}
use Rattle.ts_board.specs.declared.law.Slot.{Slot}
use Rattle.ts_board.specs.Terms.{sites_in}
use Rattle.ts_board.proofs.Sites.{sites_back}
use Rattle.ts_board.proofs.open.Opening.into_sites.Goals as goal

pub sites_from-requires : goal.sites_from-requires
sites_from-requires g c =
    let it = c.args.self in
    let same = ap (λ (l : List (Slot g.row.S.Denot)). length (sites_in l)) it.placed ∙ ap length (sites_back it.plan.value.actions it.sites.value.items it.sited) in
    let none = ap length it.room.0 in let room = it.room.1 in omega (arith, same, none, room)

pub returns : goal.returns
returns g c =
    let it = c.args.self in
    let same = ap sites_in it.placed ∙ sites_back it.plan.value.actions it.sites.value.items it.sited in
    c.sites_from.ensures ∙ (λ k. it.room.0 k ++ same k)
