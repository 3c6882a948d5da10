use Rattle.std.proofs.Common.{append_assoc}
use Rattle.ts_report.proofs.writing.push_total.Goals as goal

-- Word after word.
pub returns-clause-line : goal.returns-clause-line
returns-clause-line c =
    rw (
      c.in_ok-push_decimal-5.ensures.ok,
      c.in_ok-extend_from_slice-5.ensures.items,
      c.in_ok-push_decimal-4.ensures.ok,
      c.in_ok-extend_from_slice-4.ensures.items,
      c.in_ok-push_decimal-3.ensures.ok,
      c.in_ok-extend_from_slice-3.ensures.items,
      c.in_ok-push_decimal-2.ensures.ok,
      c.in_ok-extend_from_slice-2.ensures.items,
      c.in_ok-push_decimal.ensures.ok,
      c.in_ok-extend_from_slice.ensures.items,
    ) (simp append_assoc)
