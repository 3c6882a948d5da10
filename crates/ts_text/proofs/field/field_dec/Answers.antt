use Rattle.ts_text.proofs.Numbers.{parsed_text, not_plain, not_utf8}
use Rattle.ts_text.proofs.field.field_dec.Goals as goal

pub returns-then-not-is_plain-clause-none : goal.returns-then-not-is_plain-clause-none
returns-then-not-is_plain-clause-none c = not_plain c.args.field.now (λ plain. c.if-not-is_plain.ensures plain)

pub returns-in-Ok-clause-found : goal.returns-in-Ok-clause-found
returns-in-Ok-clause-found c =
    (parsed_text c.args.field.now c.in-Ok.text.now c.parse.result c.ok.result c.in-Ok.ensures.cases.0 c.ok.ensures.value c.parse.ensures.value.0 c.if-not-is_plain.ensures).1

pub returns-in-Ok-clause-none : goal.returns-in-Ok-clause-none
returns-in-Ok-clause-none c =
    (parsed_text c.args.field.now c.in-Ok.text.now c.parse.result c.ok.result c.in-Ok.ensures.cases.0 c.ok.ensures.value c.parse.ensures.value.0 c.if-not-is_plain.ensures).0

pub returns-in-Err-clause-none : goal.returns-in-Err-clause-none
returns-in-Err-clause-none c = not_utf8 c.args.field.now c.in-Err.ensures.cases.0
