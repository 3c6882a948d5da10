use Rattle.std.proofs.Common.{inl, inr, refl}
use Rattle.ts_swap.proofs.Counting.{grown}
use Rattle.ts_swap.proofs.Outcomes.{not_ok, same_spots, nothing_aside, is_aside, setting, none_failed, lies_there}
use Rattle.ts_model.specs.Swap as spot
use Rattle.ts_swap.proofs.Stops.{at_rest}
use Rattle.ts_swap.specs.declared.places.Spot.TheVariants.{Target}
use Rattle.ts_swap.proofs.swap.set_aside.Goals as goal

pub returns-in_err-present : goal.returns-in_err-present
returns-in_err-present g c =
    let is_err = c.from_residual.ensures.0 in
    record {
      ok = not_ok _ _ is_err;
      err = λ _. refl;
      stops = at_rest _ _ _;
      counted = not_ok _ _ is_err;
      fault = λ _. inl (c.in_err-present.ensures.fault refl);
      looks = λ hides. hides;
    }

pub returns-then-not-branch : goal.returns-then-not-branch
returns-then-not-branch g c = record {
  ok = nothing_aside _ _ c.if-not-branch.true c.in_ok-present.ensures.told c.requires;
  err = none_failed;
  stops = at_rest _ _ _;
  counted = refl;
  fault = none_failed;
  looks = λ hides. hides;
}

pub rename-requires : goal.rename-requires
rename-requires g c = record { there = lies_there _ _ spot.Target c.if-not-branch.false c.in_ok-present.ensures.told; empty = c.requires }

pub returns-in_err-rename : goal.returns-in_err-rename
returns-in_err-rename g c =
    let is_err = c.from_residual-in_err-rename.ensures.0 in
    record {
      ok = not_ok _ _ is_err;
      err = λ _. same_spots _ _ c.in_err-rename.ensures.left;
      stops = setting _ _ _ _ c.if-not-branch.false c.in_ok-present.ensures.told c.rename.ensures.stops;
      counted = not_ok _ _ is_err;
      fault = λ _. inr (grown _ _ c.in_err-rename.ensures.counted);
      looks = c.rename.ensures.looks Target;
    }

pub returns : goal.returns
returns g c = record {
  ok = is_aside _ _ _ c.if-not-branch.false c.in_ok-present.ensures.told c.in_ok-rename.ensures.left;
  err = none_failed;
  stops = setting _ _ _ _ c.if-not-branch.false c.in_ok-present.ensures.told c.rename.ensures.stops;
  counted = c.in_ok-rename.ensures.counted;
  fault = none_failed;
  looks = c.rename.ensures.looks Target;
}
