use Rattle.ts_name.proofs.Buffers.{parent_answer}
use Rattle.ts_name.proofs.paths.Path.is_parent_of.Goals as goal

pub returns-then-is_prefix : goal.returns-then-is_prefix
returns-then-is_prefix c =
    parent_answer _ _ (c.is_prefix.ensures.0 c.if-is_prefix.true) _ _ c.depth.ensures.depth c.depth-then-is_prefix.ensures.depth
