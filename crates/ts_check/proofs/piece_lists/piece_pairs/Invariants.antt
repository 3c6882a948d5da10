use Rattle.std.proofs.Common.{◌≡◌, take}
use Rattle.ts_check.specs.Pieces.{by_entry}
use Rattle.ts_check.proofs.piece_lists.piece_pairs.Given as goal

abbrev pub invariant-loop-found : goal.invariant-loop-found
invariant-loop-found l = l.pairs.items ≡ by_entry (take l.found-index l.staged)
