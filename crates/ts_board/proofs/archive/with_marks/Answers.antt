use Rattle.std.proofs.Common.{List, sym, ap, ◌∙◌, subst, arith}
use Rattle.ts_model.specs.Trees.{at}
use Rattle.ts_model.specs.declared.plan.Entry.{Entry}
use Rattle.ts_board.specs.Edits.{MayFollow, left_by, marks}
use Rattle.ts_board.proofs.Edits.{follow_first, follow_second, left_joined}
use Rattle.ts_board.proofs.Flags.{nothing_left, parts_picked}
use Rattle.ts_board.specs.Archives.{picked}
use Rattle.ts_board.proofs.archive.with_marks.Goals as goal

pub add_marks-requires-clause-follow : goal.add_marks-requires-clause-follow
add_marks-requires-clause-follow c =
    let puts = marks (at c.args.first.now) (at c.args.second.now) in
    let parts = parts_picked c.min-count.result c.loop-rest.rest.now c.split_at.result.0.now c.split_at.result.1.now
    c.loop-rest.rest_flags.now c.split_at-in-loop-rest.result.0.now c.split_at-in-loop-rest.result.1.now
    c.split_at.ensures.front c.split_at.ensures.back c.split_at-in-loop-rest.ensures.front c.split_at-in-loop-rest.ensures.back in
    follow_first puts (at c.loop-rest.print) (picked c.split_at.result.0.now c.split_at-in-loop-rest.result.0.now) (picked c.split_at.result.1.now c.split_at-in-loop-rest.result.1.now)
    (subst (λ (es : List Entry). MayFollow puts (at c.loop-rest.print) es) parts c.loop-rest.invariant.follow)

pub loop-rest-preserved : goal.loop-rest-preserved
loop-rest-preserved c =
    let puts = marks (at c.args.first.now) (at c.args.second.now) in
    let front = picked c.split_at.result.0.now c.split_at-in-loop-rest.result.0.now in
    let back = picked c.split_at.result.1.now c.split_at-in-loop-rest.result.1.now in
    let parts = parts_picked c.min-count.result c.loop-rest.rest.now c.split_at.result.0.now c.split_at.result.1.now
    c.loop-rest.rest_flags.now c.split_at-in-loop-rest.result.0.now c.split_at-in-loop-rest.result.1.now
    c.split_at.ensures.front c.split_at.ensures.back c.split_at-in-loop-rest.ensures.front c.split_at-in-loop-rest.ensures.back in
    record {
      follow = subst (λ t. MayFollow puts t back) (sym c.in_ok-add_marks.ensures)
          (follow_second puts (at c.loop-rest.print) front back (subst (λ (es : List Entry). MayFollow puts (at c.loop-rest.print) es) parts c.loop-rest.invariant.follow));
      count = omega (arith, c.split_at.ensures.back_len, c.split_at-in-loop-rest.ensures.back_len, c.loop-rest.invariant.count);
      leaves = ap (λ t. left_by puts t back) c.in_ok-add_marks.ensures ∙ sym (left_joined puts (at c.loop-rest.print) front back)
          ∙ ap (λ (es : List Entry). left_by puts (at c.loop-rest.print) es) (sym parts) ∙ c.loop-rest.invariant.leaves;
    }

pub returns : goal.returns
returns c =
    let puts = marks (at c.args.first.now) (at c.args.second.now) in
    sym (nothing_left puts (at c.loop-rest.print) c.loop-rest.rest.now c.loop-rest.rest_flags.now c.is_empty.result c.is_empty.ensures c.loop-rest-test.false) ∙ c.loop-rest.invariant.leaves
