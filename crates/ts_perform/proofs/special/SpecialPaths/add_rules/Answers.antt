use Rattle.std.proofs.Common.{◌∙◌, ap, map}
use Rattle.std.proofs.lemmas.Result.{err_from_is_err_and}
use Rattle.ts_special.specs.Specials.{joined}
use Rattle.ts_perform.proofs.Adding.{crowded_out}
use Rattle.ts_perform.proofs.special.SpecialPaths.add_rules.Goals as goal

pub returns-in_err-add_rule-clause-refused : goal.returns-in_err-add_rule-clause-refused
returns-in_err-add_rule-clause-refused c =
    let p = err_from_is_err_and c.from_residual-in_err-add_rule.result c.from_residual-in_err-add_rule.ensures.1 in
    let paths = c.as_slice-path-items.result.now in
    rw (p.1, p.2) (crowded_out c.args.self.now.first c.args.rules.now c.loop-path.rules paths (joined c.args.self.now.first c.args.self.now.second) c.loop-path.path-index c.path-item.result _
    (ap (map (λ b. b.now)) c.as_slice-path-items.ensures.value ∙ c.in_ok-paths.ensures) c.loop-path-test.true c.path-item.is c.loop-path.invariant (rw c.replica_of.ensures at c.in_err-add_rule.ensures.refused))
