use Rattle.std.proofs.Common.{List, ◌∙◌, ap, ap₂, length, sym, arith}
use Rattle.ts_model.specs.declared.plan.Plan.{Plan}
use Rattle.ts_board.specs.Terms.{commit_count, placed}
use Rattle.ts_board.proofs.open.Opening.lay_out.Goals as goal

pub invariant_of-result : goal.invariant_of-result
invariant_of-result g c =
    let given = ap (λ x. x.items) c.of-given.ensures in
    record {
      placed = c.in-Ok-slots_with.ensures.placed ∙ ap₂ (λ (p : Plan) (l : List g.row.S.Denot). placed p.actions l) (sym c.of.ensures) (sym given);
      sited = ap length given ∙ c.requires.sites ∙ ap (λ (p : Plan). commit_count p.actions) (sym (c.of.ensures ∙ c.plan-plan.ensures.plan));
      room = (c.in-Ok.ensures.items, (let room = c.in-Ok.ensures.capacity in let long = ap length given in let len = c.len.ensures in omega (arith, room, long, len)));
    }
