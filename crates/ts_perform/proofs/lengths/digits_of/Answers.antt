use Rattle.std.proofs.Common.{arith}
use Rattle.std.proofs.lemmas.Int.Digits.{length-digits_of_step}
use Rattle.ts_name.proofs.Spelling.{length_number}
use Rattle.ts_perform.proofs.Digits.{digits_split}
use Rattle.ts_perform.proofs.lengths.digits_of.Goals as goal

pub next-init : goal.next-init
next-init c = digits_split c.args.number c.ranges.number.fits

pub overflow_add-digits : goal.overflow_add-digits
overflow_add-digits c = omega (arith, c.next.invariant, length_number c.args.number c.ranges.number.fits)

pub next-preserved : goal.next-preserved
next-preserved c = omega (arith, c.next.invariant, length-digits_of_step 10 c.next.rest (omega arith) (omega arith))
