use Rattle.ts_perform.proofs.Copied.{between}
use Rattle.ts_perform.proofs.spacing.spacing.Goals as goal

pub returns-in-Ok : goal.returns-in-Ok
returns-in-Ok c =
    let copied = c.in-Some.ensures in let here = c.in-Ok.ensures in
    record {
      between = between c.args.actions c.args.bytes c.args.workers c.in-Some.every c.clamp.result c.requires.some copied.0 (rw (← c.from.ensures, ← c.from-2.ensures) copied.1) (rw (← here.1) c.clamp.ensures);
    }
