use Rattle.std.proofs.Common.{drop, take, ap, sym, ◌∙◌}
use Rattle.std.specs.Arc.{arc_value}
use Rattle.ts_name.specs.Buffers.{shared_bytes}
use Rattle.ts_name.proofs.Buffers.{part_behind}
use Rattle.ts_name.proofs.bytes.Bytes.behind.Goals as goal

pub returns-in_ok-try_clone-in-Part : goal.returns-in_ok-try_clone-in-Part
returns-in_ok-try_clone-in-Part c =
    let items = (arc_value c.in_ok-try_clone-in-Part.field-0).items in
    part_behind items c.in-Part.start c.in-Part.length c.args.count c.in-Some.start c.in-Some.length c.in-Some.ensures.start c.in-Some.ensures.count ∙ ap (drop c.args.count) (ap (λ z. take c.in-Part.length (drop c.in-Part.start z.items)) c.in_ok-try_clone-in-Part.ensures ∙ ap shared_bytes (sym c.in-Part.is) ∙ c.self.view_is)
