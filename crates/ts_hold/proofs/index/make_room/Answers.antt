use Rattle.std.proofs.Common.{sym, arith, eqb-true}
use Rattle.ts_hold.proofs.Chains.{new_heads}
use Rattle.ts_hold.proofs.index.make_room.Goals as goal

pub returns-in_ok-heads-clause-ok : goal.returns-in_ok-heads-clause-ok
returns-in_ok-heads-clause-ok c =
    new_heads _ _ 65536 (omega (arith, eqb-true _ 0 (sym c.if-is_empty.ensures), c.args.heads.now.ok.0))
    (omega (arith, c.in_ok-heads.ensures.len, c.in_ok-heads.field-0.ok.0)) (c.in_ok-heads.ensures.items_if_clones_equal (λ y e. e))
