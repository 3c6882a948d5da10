use Rattle.std.proofs.Common.{◌≡◌, ◌∙◌, ◌+◌, ◌≤◌, length, get_or, set, sym, ap, arith}
use Rattle.ts_report.specs.Fates.{next_fate}
use Rattle.ts_report.proofs.Fated.{step_beyond, step_here}
use Rattle.ts_report.proofs.writing.settle.Goals as goal

pub returns-then-place-len : goal.returns-then-place-len
returns-then-place-len c =
    let fates = c.args.fates.now.items in
    let known = c.index.result.now in
    let within = c.if-place-len.true in
    let is : known ≡ get_or fates c.args.entry known = c.index.ensures in
    let after : c.after.result ≡ next_fate known c.args.is_mark c.args.ending = c.after.ensures in
    ap (λ f. set fates c.args.entry f) (after ∙ ap (λ f. next_fate f c.args.is_mark c.args.ending) is)
    ∙ sym (step_here c.args.entry c.args.is_mark c.args.ending fates known (omega (arith, c.len.ensures, within)))

pub returns-else-place-len : goal.returns-else-place-len
returns-else-place-len c =
    let past : 0 + length c.args.fates.now.items ≤ c.args.entry = omega (arith, c.len.ensures, c.if-place-len.false) in
    sym (step_beyond c.args.entry c.args.is_mark c.args.ending 0 c.args.fates.now.items past)
