use Rattle.std.proofs.Common.{arith}
use Rattle.ts_name.proofs.Buffers.{Holds, Holds-same, measured}
use Rattle.ts_name.proofs.paths.Path.size.Goals as goal

pub overflow_sub-result : goal.overflow_sub-result
overflow_sub-result c =
    let held : Holds c.self.inside.bytes c.args.self.now = record { buffer = c.self.invariant; path_is = c.self.view_is } in
    let m = measured (Holds-same c.as_slice-bytes.ensures held) in omega (arith, m.long, m.deep)

pub returns-clause-size : goal.returns-clause-size
returns-clause-size c =
    let held : Holds c.self.inside.bytes c.args.self.now = record { buffer = c.self.invariant; path_is = c.self.view_is } in
    let m = measured (Holds-same c.as_slice-bytes.ensures held) in omega (arith, m.long, m.deep)
