use Rattle.ts_name.proofs.Buffers.{short_buffer}
use Rattle.ts_name.proofs.paths.Path.parent.Goals as goal

pub share-requires : goal.share-requires
share-requires c = short_buffer c.in-Some.parent.now _ c.in_ok-bytes.ensures.items c.in-Some.ensures.3
