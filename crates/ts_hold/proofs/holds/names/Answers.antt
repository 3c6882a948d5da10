use Rattle.ts_hold.proofs.Naming.{names_one}
use Rattle.ts_hold.proofs.holds.names.Goals as goal

pub returns-in-OnePath : goal.returns-in-OnePath
returns-in-OnePath c = names_one c.eq.result c.args.path.now c.in-OnePath.named c.args.rule.now c.in-OnePath.is c.eq.ensures
