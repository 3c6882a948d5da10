use Rattle.ts_laws.proofs.Rules.{valid_or_broken, one_broken}
use Rattle.ts_laws.proofs.laws.decided_rules.Goals as goal

pub returns : goal.returns
returns given = λ s plan lawful. record { answer = valid_or_broken s lawful plan; one_rule = one_broken s plan }
