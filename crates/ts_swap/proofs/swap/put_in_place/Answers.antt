use Rattle.std.proofs.Common.{◌≡◌, [], inr, refl}
use Rattle.ts_model.specs.Swap.{Spots}
use Rattle.ts_swap.proofs.Counting.{still_grown, still_after, two_failed}
use Rattle.ts_swap.proofs.Outcomes.{none_failed, nothing_put, of_ok, of_err, is_back, was_nothing, may_be_back, may_be_same, put_stops}
use Rattle.ts_swap.proofs.Stops.{at_rest, back, stuck, cleared, both, nothing_kept}
use Rattle.ts_swap.proofs.swap.put_in_place.Goals as goal

pub returns-then-not-wanted : goal.returns-then-not-wanted
returns-then-not-wanted g c = record {
  ok = nothing_put _ _ c.if-not-wanted.true c.requires.target c.requires.new;
  err = none_failed;
  back = none_failed;
  once = none_failed;
  stops = at_rest _ _ _;
  counted = refl;
}

pub returns-in_default-clause-stops : goal.returns-in_default-clause-stops
returns-in_default-clause-stops g c = put_stops _ _ _ c.rename.ensures.stops

pub returns-then-is_ok-clause-back : goal.returns-then-is_ok-clause-back
returns-then-is_ok-clause-back g c =
    λ _. may_be_back _ _ (is_back _ _ _ _ c.in-Err.ensures.left (of_ok _ _ _ _ c.is_ok.ensures.value c.if-is_ok.true c.rename-then-had.ensures.left) c.clear_new.ensures.kept)

pub returns-then-is_ok-clause-once : goal.returns-then-is_ok-clause-once
returns-then-is_ok-clause-once g c =
    λ _ _. is_back _ _ _ _ c.in-Err.ensures.left (of_ok _ _ _ _ c.is_ok.ensures.value c.if-is_ok.true c.rename-then-had.ensures.left) c.clear_new.ensures.kept

pub returns-then-is_ok-clause-stops : goal.returns-then-is_ok-clause-stops
returns-then-is_ok-clause-stops g c =
    let moved = of_ok _ _ _ _ c.is_ok.ensures.value c.if-is_ok.true c.rename-then-had.ensures.left in
    back _ _ _ _ _ _ _ c.in-Err.ensures.left moved c.rename.ensures.stops c.rename-then-had.ensures.stops c.clear_new.ensures.stops

pub returns-then-is_ok-clause-counted : goal.returns-then-is_ok-clause-counted
returns-then-is_ok-clause-counted g c =
    still_after _ _ _ _ c.in-Err.ensures.counted (of_ok _ _ _ _ c.is_ok.ensures.value c.if-is_ok.true c.rename-then-had.ensures.counted) c.clear_new.ensures.counted

pub returns-else-is_ok-clause-back : goal.returns-else-is_ok-clause-back
returns-else-is_ok-clause-back g c =
    λ _. may_be_same _ _ _ c.in-Err.ensures.left (of_err _ _ _ _ c.is_ok.ensures.value c.if-is_ok.false c.rename-then-had.ensures.left)

pub returns-else-is_ok-clause-once : goal.returns-else-is_ok-clause-once
returns-else-is_ok-clause-once g c =
    λ _. two_failed _ _ _ _ c.in-Err.ensures.counted (of_err _ _ _ _ c.is_ok.ensures.value c.if-is_ok.false c.rename-then-had.ensures.counted)

pub returns-else-is_ok-clause-stops : goal.returns-else-is_ok-clause-stops
returns-else-is_ok-clause-stops g c = stuck _ _ _ _ _ c.in-Err.ensures.left c.rename.ensures.stops c.rename-then-had.ensures.stops

pub returns-else-is_ok-clause-counted : goal.returns-else-is_ok-clause-counted
returns-else-is_ok-clause-counted g c =
    still_grown _ _ _ c.in-Err.ensures.counted (inr (of_err _ _ _ _ c.is_ok.ensures.value c.if-is_ok.false c.rename-then-had.ensures.counted))

pub returns-else-had : goal.returns-else-had
returns-else-had g c =
    let nothing = nothing_kept _ _ c.if-had.false c.requires.old in
    let moved = was_nothing _ _ _ c.requires.target nothing c.in-Err.ensures.left c.clear_new-else-had.ensures.kept in
    record {
      ok = tt;
      err = λ _. c.if-not-wanted.false;
      back = λ _. may_be_back _ _ moved;
      once = λ _ _. moved;
      stops = cleared _ _ _ _ _ (both (λ (s : Spots). s.target ≡ []) (λ (s : Spots). s.old ≡ []) _ c.requires.target nothing) c.in-Err.ensures.left c.rename.ensures.stops
          c.clear_new-else-had.ensures.stops;
      counted = still_grown _ _ _ c.in-Err.ensures.counted c.clear_new-else-had.ensures.counted;
    }
