use Rattle.std.proofs.Common.{◌≡◌, false, rules}
use Rattle.ts_swap.proofs.Counting.{grown}
use Rattle.ts_swap.proofs.Outcomes.{failed_with, counts_then, counted_then, back_stumbles, back_stops, back_ends, sweep_stumbles, sweep_ends}
use Rattle.ts_swap.proofs.Stops.{swept, swept_first, went_back}
use Rattle.ts_swap.proofs.swap.tidy.Goals as goal

pub returns-in_err-rename : goal.returns-in_err-rename
returns-in_err-rename g c =
    let absent : c.args.target ≡ false = search rules in
    let is_err = c.from_residual.ensures.0 in
    record {
      counted = failed_with _ _ _ is_err (grown _ _ c.in_err-rename.ensures.counted);
      done = failed_with _ _ _ is_err (back_stumbles _ _ _ _ _ absent c.if-new.true c.if-old.true c.in_err-rename.ensures.left);
      stops = back_stops _ _ _ _ _ _ absent c.if-new.true c.if-old.true c.rename.ensures.stops;
    }

pub returns-then-old : goal.returns-then-old
returns-then-old g c =
    let absent : c.args.target ≡ false = search rules in
    record {
      counted = counts_then _ _ _ _ c.in_ok-rename.ensures.counted c.remove.ensures.counted;
      done = back_ends _ _ _ _ _ _ _ absent c.if-new.true c.if-old.true c.in_ok-rename.ensures.left c.remove.ensures.left;
      stops = went_back _ _ _ _ _ _ _ _ absent c.if-new.true c.if-old.true c.in_ok-rename.ensures.left c.rename.ensures.stops c.remove.ensures.stops;
    }

pub returns-in_err-clear_if : goal.returns-in_err-clear_if
returns-in_err-clear_if g c =
    let is_err = c.from_residual-in_err-clear_if.ensures.0 in
    record {
      counted = failed_with _ _ _ is_err c.in_err-clear_if.ensures.counted;
      done = failed_with _ _ _ is_err (sweep_stumbles c.args.target c.args.new c.args.old _ _ c.else-not-target.either c.in_err-clear_if.ensures.done);
      stops = swept_first c.args.target c.args.new c.args.old _ _ _ c.else-not-target.either c.clear_if.ensures.stops;
    }

pub returns : goal.returns
returns g c = record {
  counted = counted_then _ _ _ _ c.in_ok-clear_if.ensures.counted c.clear_if-2.ensures.counted;
  done = sweep_ends _ c.args.target c.args.new c.args.old _ _ _ c.else-not-target.either c.in_ok-clear_if.ensures.done c.clear_if-2.ensures.done;
  stops = swept c.args.target c.args.new c.args.old _ _ _ _ _ c.else-not-target.either c.in_ok-clear_if.ensures.done c.clear_if.ensures.stops c.clear_if-2.ensures.stops;
}
