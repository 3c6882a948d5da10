use Rattle.std.proofs.Common.{◌+◌, ◌-◌, ◌≤◌, length, drop, ap, ◌∙◌, arith, length-take}
use Rattle.ts_text.proofs.Windows.{slice_later}
use Rattle.ts_text.proofs.window.Window.drop_front.Goals as goal

pub returns : goal.returns
returns c =
    let w = c.self.inside in
    let size = ap length c.self.view_is in
    let within : w.start + c.args.count ≤ w.end = omega (arith, length-take (w.end - w.start) (drop w.start w.buffer.items), size, c.self.invariant.0, c.requires) in
    slice_later w.buffer.items w.start w.end c.args.count within ∙ ap (drop c.args.count) c.self.view_is
