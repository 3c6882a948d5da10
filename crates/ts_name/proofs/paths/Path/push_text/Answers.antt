use Rattle.std.proofs.Common.{◌++◌, ap, ◌∙◌}
use Rattle.ts_name.specs.Paths.{name_text}
use Rattle.ts_name.proofs.Texts.{WrittenSoFar-more, WrittenSoFar-all}
use Rattle.ts_name.proofs.paths.Path.push_text.Goals as goal

pub loop-name-preserved : goal.loop-name-preserved
loop-name-preserved c =
    let found = c.in-Some.ensures in
    WrittenSoFar-more name_text _ _ _ _ _ _ _ c.loop-name.invariant found.0 found.1 (c.in_ok-push_escaped.ensures.ok ∙ ap (λ z. z ++ name_text c.in-Some.name.now) c.in_ok-push.ensures.items)

pub returns-clause-ok : goal.returns-clause-ok
returns-clause-ok c = WrittenSoFar-all name_text _ _ _ _ c.loop-name.invariant c.in_default.ensures
