use Rattle.std.proofs.Common.{decimal, sym, ◌∙◌}
use Rattle.ts_plan.proofs.Words.{number_parts, refuse_end}
use Rattle.ts_plan.proofs.line.PlanLine.end.Goals as goal

pub returns-in-None : goal.returns-in-None
returns-in-None c =
    refuse_end c.args.fields.now (λ m n small_m small_n e.
    let parts = number_parts c.in-Some.entries m c.in-Some.rest.now (decimal n) c.in-Some.ensures.small small_m (sym c.in-Some.ensures.found ∙ e) in
    c.in-None.ensures.none n small_n parts.1)
