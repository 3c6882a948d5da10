use Rattle.std.proofs.Common.{◌∙◌, ◌++◌, ap, subst}
use Rattle.ts_hold.specs.Rules.{RefusesLine}
use Rattle.ts_name.specs.Paths.{path_text}
use Rattle.ts_perform.proofs.Adding.{adds_path, without_rule}
use Rattle.ts_perform.proofs.special.add_rule.Goals as goal

pub returns-in-Ok-clause-added : goal.returns-in-Ok-clause-added
returns-in-Ok-clause-added c =
    let p = c.args.path.now in
    adds_path c.args.rules.now c.line.new.self c.deref.result.now p c.depth.ensures.lawful
    (c.deref.ensures.value ∙ c.in_ok-write_text.ensures ∙ ap (λ z. z ++ path_text p) c.in_ok-line.ensures.items) c.in-Ok.ensures.ok

pub returns-clause-refused : goal.returns-clause-refused
returns-clause-refused c =
    let p = c.args.path.now in
    without_rule c.args.what c.args.rules.now c.deref.result.now p _ c.unreadable.result c.depth.ensures.lawful
    (c.deref.ensures.value ∙ c.in_ok-write_text.ensures ∙ ap (λ z. z ++ path_text p) c.in_ok-line.ensures.items)
    (subst (RefusesLine c.args.rules.now c.deref.result.now) c.in-Err-BadRule.field-0-is c.in-Err-BadRule.ensures.bad) c.unreadable.ensures.fault
