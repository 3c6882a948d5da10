use Rattle.std.proofs.Common.{◌-◌, ◌++◌, take, drop, ap, ◌∙◌, arith, length-take, length-drop}
use Rattle.ts_text.proofs.Windows.{slice_grown}
use Rattle.ts_text.proofs.window.Window.fill.Goals as goal

pub returns-clause-gains : goal.returns-clause-gains
returns-clause-gains g c =
    let w = c.self.inside in
    let held = w.end - w.start in
    let after = c.read_behind.new.buffer in
    let n = c.in_ok-count.count in
    record {
      bytes = take n (drop held after.items);
      count = omega (arith, length-take n (drop held after.items), length-drop held after.items, after.ok.0, c.read_behind.ensures.len, c.in_ok-count.ensures.bound);
      appended = slice_grown w.buffer.items c.move_to_front.new.buffer.items after.items w.start w.end n c.move_to_front.ensures.moved c.read_behind.ensures.before ∙ ap (λ l. l ++ take n (drop held after.items)) c.self.view_is;
      given = c.in_ok-count.ensures.bytes;
    }
