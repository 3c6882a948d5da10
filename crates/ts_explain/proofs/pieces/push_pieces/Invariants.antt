use Rattle.std.proofs.Common.{◌≡◌, ◌++◌, drop, map}
use Rattle.ts_explain.specs.Pieces.{piece_text, said}
use Rattle.ts_explain.proofs.pieces.push_pieces.Given as goal

abbrev pub invariant-loop-i : goal.invariant-loop-i
invariant-loop-i l = l.line.items ++ said (map piece_text (drop l.i l.pieces)) ≡ l.fn.line.items ++ said (map piece_text l.pieces)
