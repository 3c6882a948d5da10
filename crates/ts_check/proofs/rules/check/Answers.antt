use Rattle.ts_check.proofs.rules.check.Goals as goal

pub returns-clause-safe : goal.returns-clause-safe
returns-clause-safe g c = c.valid_plans_are_safe.ensures _ _ c.in_ok-check_order.ensures.holds
