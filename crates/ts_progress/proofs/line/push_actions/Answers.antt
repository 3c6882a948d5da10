use Rattle.std.proofs.Common.{codes}
use Rattle.std.proofs.lemmas.Result.{on_ok_weaker}
use Rattle.ts_progress.specs.Lines.{all_actions_text}
use Rattle.ts_progress.specs.Numbers.{grouped}
use Rattle.ts_progress.proofs.Printable.{in_three}
use Rattle.ts_progress.proofs.line.push_actions.Goals as goal

pub returns : goal.returns
returns c =
    on_ok_weaker c.push_all_actions.result
    (λ last. in_three c.args.line.now.items (codes "carrying out: ") (grouped c.args.done) (all_actions_text c.args.expected) _ _ _
    c.in_ok-extend_from_slice.ensures.items c.in_ok-push_grouped.ensures last)
    c.push_all_actions.ensures
