use Rattle.std.proofs.Common.{◌<◌, ◌*◌, arith}
use Rattle.std.proofs.lemmas.Result.{err_from_is_err_and}
use Rattle.ts_plan_build.specs.Blocks.{piece_count, piece_of}
use Rattle.ts_plan_build.proofs.Added.{piece_more}
use Rattle.ts_plan_build.proofs.Counting.{piece_within}
use Rattle.ts_plan_build.proofs.Past.{past_in_file}
use Rattle.ts_plan_build.proofs.block.add_file.Goals as goal

pub overflow_mul-offset : goal.overflow_mul-offset
overflow_mul-offset c = let within : c.loop-piece.piece * 1048576 < c.args.size = piece_within c.args.size c.loop-piece.piece (omega arith) in omega arith

pub overflow_sub-size : goal.overflow_sub-size
overflow_sub-size c = let within : c.loop-piece.piece * 1048576 < c.args.size = piece_within c.args.size c.loop-piece.piece (omega arith) in omega arith

pub returns-in_err-push-clause-past : goal.returns-in_err-push-clause-past
returns-in_err-push-clause-past c =
    let p = err_from_is_err_and c.from_residual-in_err-push.result c.from_residual-in_err-push.ensures.1 in
    let l : c.loop-piece.piece < piece_count c.args.size = omega (arith, c.loop-piece-test.true, c.count_pieces-count.ensures) in
    rw (p.1, p.2) (λ e. past_in_file 1048576 (piece_of c.args.entry c.args.path.now c.args.size) c.args.actions.now.items c.loop-piece.actions.items c.loop-piece.piece (piece_count c.args.size) c.loop-piece.invariant.0 l (c.in_err-push.ensures.past e))

pub loop-piece-preserved : goal.loop-piece-preserved
loop-piece-preserved c = (
  piece_more c.args.entry c.args.path.now c.in_ok-path.path c.args.size c.loop-piece.piece c.min.result c.none.result c.args.actions.now.items c.loop-piece.actions.items c.push.new.actions.items
      c.loop-piece.invariant.0 c.min.ensures c.in_ok-path.ensures.value c.none.ensures c.in_ok-push.ensures.added,
  c.in_ok-push.ensures.limit,
)
