use Rattle.std.proofs.Common.{◌^◌, ◌<◌, sym, ◌∙◌, arith}
use Rattle.std.proofs.lemmas.Fmt.{decimal_injective}
use Rattle.ts_plan.proofs.field.short_number.Goals as goal

pub returns-in_default-clause-none : goal.returns-in_default-clause-none
returns-in_default-clause-none c n small e =
    let wide : n < 2 ^ 64 = omega (arith, small) in
    let fits : c.in-Some.number < 2 ^ 64 = omega arith in
    let same = decimal_injective c.in-Some.number n fits wide (sym c.in-Some.ensures.found ∙ e) in
    omega (arith, same, small, c.if-number-le4294967295.false)
