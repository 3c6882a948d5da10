use Rattle.std.proofs.Common.{◌∙◌}
use Rattle.ts_name.proofs.Buffers.{count_whole}
use Rattle.ts_name.proofs.buffer.depth_of.Goals as goal

pub returns : goal.returns
returns c = c.zero_count.ensures ∙ count_whole _ c.requires
