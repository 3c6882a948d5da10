use Rattle.std.proofs.Common.{◌++◌, map, arith}
use Rattle.ts_explain.specs.Pieces.{piece_text, said}
use Rattle.ts_explain.proofs.Saying.{said_more}
use Rattle.ts_explain.proofs.pieces.push_pieces.Goals as goal

pub loop-i-preserved : goal.loop-i-preserved
loop-i-preserved c =
    let pieces = c.args.pieces.now in
    said_more pieces c.loop-i.i c.index-pieces-i.result c.loop-i.line.items c.push_piece.new.line.items (c.args.line.now.items ++ said (map piece_text pieces)) (omega arith)
    c.index-pieces-i.is c.in_ok-push_piece.ensures c.loop-i.invariant
