-- How many bytes the actions of a plan copy, action after action, and how many of a worker's copy 256 MiB.
use Rattle.std.proofs.Common.{◌≡◌, ◌<◌, ◌≤◌, ◌+◌, ◌*◌, ◌/◌, ◌-◌, ◌^◌, ℕ, List, ap, arith, length, max, min, subst, sum_by, take, ◌∙◌}
use Rattle.std.proofs.lemmas.List.{take_all}
use Rattle.std.proofs.Math.Nat.{div-div-eq-div-mul, div-lt_iff_lt-mul, le-div_iff_mul-le, mul-pos}
use Rattle.ts_model.specs.declared.plan.Action.{Action}
use Rattle.ts_perform.specs.Spacing.{IsBetween, size_of}

-- behind the last action all are counted
pub all_counted : (actions actions' : List Action) (i bytes : ℕ) → actions' ≡ actions → length actions' ≤ i
    → bytes ≡ min (sum_by size_of (take i actions')) (2 ^ 64 - 1) → bytes ≡ min (sum_by size_of actions) (2 ^ 64 - 1)
all_counted actions actions' i bytes same past counted =
    counted ∙ ap (λ (l : List Action). min (sum_by size_of l) (2 ^ 64 - 1)) (take_all i actions' past ∙ same)

-- the number of actions that is cut to its limits
pub between : (actions bytes workers exact every : ℕ) → 1 ≤ workers → 0 < bytes → exact ≡ 268435456 * actions / workers / bytes → every ≡ max 1 (min exact 65536)
    → IsBetween actions bytes workers every
between actions bytes workers exact every some copied is cut =
    let all : 0 < workers * bytes = mul-pos some copied in
    let whole : exact ≡ 268435456 * actions / (workers * bytes) = is ∙ div-div-eq-div-mul (268435456 * actions) workers bytes in
    record {
      least = omega arith;
      most = omega arith;
      within = λ more. (le-div_iff_mul-le all).0 (subst (λ n. every ≤ n) whole (omega arith));
      past = λ less. (div-lt_iff_lt-mul all).0 (subst (λ n. n < every + 1) whole (omega arith));
    }
