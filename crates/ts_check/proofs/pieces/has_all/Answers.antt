use Rattle.std.proofs.Common.{sym, ◌∙◌, arith, ◌+◌}
use Rattle.ts_check.proofs.Placing.{some_of}
use Rattle.ts_check.proofs.Complete.{AreBefore-more, HasAll-from}
use Rattle.ts_check.proofs.pieces.has_all.Goals as goal

pub returns-then-size-offset-le-PIECE_SIZE-clause-all : goal.returns-then-size-offset-le-PIECE_SIZE-clause-all
returns-then-size-offset-le-PIECE_SIZE-clause-all c = λ e.
    let found = some_of _ (sym c.stands_at.ensures ∙ c.if-not-stands_at.false) in
    HasAll-from c.args.staged.now c.args.e c.args.row c.args.size (c.loop-offset.offset + 1048576) (let g = c.if-size-offset-le-PIECE_SIZE.true in omega arith)
    (AreBefore-more c.args.staged.now c.args.e c.args.row c.loop-offset.offset found.0 c.loop-offset.invariant found.1)

pub loop-offset-preserved : goal.loop-offset-preserved
loop-offset-preserved c =
    let found = some_of _ (sym c.stands_at.ensures ∙ c.if-not-stands_at.false) in
    AreBefore-more c.args.staged.now c.args.e c.args.row c.loop-offset.offset found.0 c.loop-offset.invariant found.1
