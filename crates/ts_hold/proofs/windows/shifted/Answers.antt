use Rattle.std.proofs.Common.{◌+◌, ◌*◌, ◌%◌, ap}
use Rattle.ts_hold.specs.Windows.{shifted}
use Rattle.ts_hold.proofs.windows.shifted.Goals as goal

pub returns : goal.returns
unfolding shifted
returns c = ap (λ byte. (c.args.number * 256 % 18446744073709551616 + byte) % 18446744073709551616) c.from.ensures
