use Rattle.std.proofs.Common.{sym}
use Rattle.ts_name.proofs.Prefixes.{below_gives}
use Rattle.ts_disk.proofs.aside.place_aside.Goals as goal

pub returns : goal.returns
returns g c =
    let there = rw c.in-Ok-Some.field-0-is at c.in-Ok-Some.ensures.value in
    (c.in-Ok-Some.rest, below_gives c.args.top.now c.args.path.now c.in-Ok-Some.rest (sym there), c.in-Ok.ensures)
