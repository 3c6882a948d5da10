use Rattle.ts_check.proofs.Scans.{first_after, never_after}
use Rattle.ts_check.proofs.census.one_each.Goals as goal

pub returns-in-Some-first_unmet-clause-wrong : goal.returns-in-Some-first_unmet-clause-wrong
returns-in-Some-first_unmet-clause-wrong c =
    rw c.as_slice.ensures (first_after c.args.plan.now c.args.role c.fill.new.numbers.items c.in-Some-first_unmet.e c.requires.actions c.in_default.ensures.index c.in_default.ensures.right
    (rw (c.as_slice-entries.ensures, c.deref.ensures.value) at c.in-Some-first_unmet.ensures.0) (rw (c.as_slice-entries.ensures, c.deref.ensures.value) at c.in-Some-first_unmet.ensures.1))

pub returns-in-None-clause-index : goal.returns-in-None-clause-index
returns-in-None-clause-index c = (
  c.in_default.ensures.index,
  never_after c.args.plan.now c.args.role c.fill.new.numbers.items c.in_default.ensures.index c.in_default.ensures.right
      (rw (c.as_slice-entries.ensures, c.deref.ensures.value) at c.in-None.ensures),
)
