use Rattle.std.proofs.Common.{decimal}
use Rattle.ts_disk.proofs.Numbers.{behind_front, none_of, numbered, other_front, unnumbered}
use Rattle.ts_disk.proofs.names.number_after.Goals as goal

pub returns-in_err-digits-clause-none : goal.returns-in_err-digits-clause-none
returns-in_err-digits-clause-none c =
    rw (← c.as_bytes.ensures.value)
    (none_of c.from_residual.result (λ n small. other_front c.args.front.now c.as_bytes.result.now (decimal n) c.in_err-digits.ensures.cases))

pub returns-clause-some : goal.returns-clause-some
returns-clause-some c =
    rw (← c.as_bytes.ensures.value)
    (numbered c.args.front.now c.as_bytes.result.now c.in_ok-digits.digits.now c.in_ok-field_dec.field-0 c.try_from.result c.ok.result
    (behind_front c.args.front.now c.as_bytes.result.now c.in_ok-digits.digits.now c.in_ok-digits.ensures.cases.0 c.in_ok-digits.ensures.cases.1)
    c.in_ok-field_dec.ensures.found c.try_from.ensures c.ok.ensures.value)

pub returns-clause-none : goal.returns-clause-none
returns-clause-none c =
    rw (← c.as_bytes.ensures.value)
    (unnumbered c.args.front.now c.as_bytes.result.now c.in_ok-digits.digits.now c.in_ok-field_dec.field-0 c.try_from.result c.ok.result (search)
    (behind_front c.args.front.now c.as_bytes.result.now c.in_ok-digits.digits.now c.in_ok-digits.ensures.cases.0 c.in_ok-digits.ensures.cases.1)
    c.in_ok-field_dec.ensures.found c.try_from.ensures c.ok.ensures.value)
