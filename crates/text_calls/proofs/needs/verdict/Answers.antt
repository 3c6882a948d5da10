use Rattle.std.proofs.Common.{List, sym, subst}
use Rattle.ts_model.specs.Plans.{IsOutOfOrder}
use Rattle.ts_model.specs.declared.plan.Entry.{Entry}
use Rattle.ts_need.specs.Needs.{Never}
use Rattle.text_calls.proofs.needs.verdict.Goals as goal

pub first_wrong-requires : goal.first_wrong-requires
first_wrong-requires c = subst (λ (z : List Entry). Never (IsOutOfOrder z)) (sym c.deref.ensures.value) c.requires
