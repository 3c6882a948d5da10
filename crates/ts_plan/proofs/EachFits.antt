-- What a plan needs so that it has a text, found item by item.
use Rattle.std.proofs.Common.{◌≡◌, ℕ, suc, ◌+◌, ◌-◌, ◌≤◌, ◌<◌, ◌^◌, List, [], ◌∷◌, ◌++◌, length, get_or, take, sum_by}
use Rattle.std.proofs.Common.{ap, subst, sym, ◌∙◌, arith}
use Rattle.std.specs.List.{AllByRecursion}
use Rattle.std.proofs.lemmas.List.{take_more}
use Rattle.std.proofs.lemmas.List.Sums.{sum_by-append}
use Rattle.ts_model.specs.Plans.{pred_limit}
use Rattle.ts_model.specs.Texts.{KindFits}
use Rattle.ts_model.specs.declared.plan.Action.{Action}
use Rattle.ts_name.proofs.Utf8.{all_append}
use Rattle.ts_plan.specs.Fitting.{AreActions}

-- what holds at each place holds of each number
pub at_each_place : (P : ℕ → Type 0) (xs : List ℕ) → ((i : ℕ) → P (get_or xs i 0)) → AllByRecursion P xs
at_each_place P [] holds = tt
at_each_place P (x ∷ xs) holds = (holds 0, at_each_place P xs (λ i. holds (suc i)))

-- how many predecessors the actions have
abbrev pub pred_total : List Action → ℕ
pred_total actions = sum_by (λ a. length a.preds) actions

-- they fit, and have this many predecessors
abbrev pub AreCounted : ℕ → List Action → Type 0
AreCounted total actions = (total ≡ pred_total actions) × AreActions actions

-- one more that fits, and doesn't take the predecessors past their limit
pushed : (xs : List Action) (a : Action) (total : ℕ) → AreCounted total xs → length a.preds ≤ pred_limit - total → KindFits a.kind
    → AllByRecursion (λ j. j < 2 ^ 32) a.preds → AreCounted (total + length a.preds) (xs ++ a ∷ [])
pushed xs a total (counted, are) few kind short = (
  ap (λ n. n + length a.preds) counted ∙ more,
  record {
    few = let f = are.few in let sum = more in omega (arith, counted, f, few, sum);
    kinds = all_append (λ (a : Action). KindFits a.kind) xs (a ∷ []) are.kinds (kind, tt);
    preds = all_append (λ (a : Action). AllByRecursion (λ j. j < 2 ^ 32) a.preds) xs (a ∷ []) are.preds (short, tt);
  },
)
  where
    more : pred_total xs + length a.preds ≡ pred_total (xs ++ a ∷ [])
    more = let sum = sum_by-append (λ (a : Action). length a.preds) xs (a ∷ []) in omega (arith, sum)

-- the next one of all actions
pub one_more : (xs : List Action) (i total count : ℕ) (a : Action) → i < length xs → a ≡ get_or xs i a → AreCounted total (take i xs)
    → count ≡ length a.preds → count ≤ pred_limit - total → KindFits a.kind → AllByRecursion (λ j. j < 2 ^ 32) a.preds
    → AreCounted (total + count) (take (i + 1) xs)
one_more xs i total count a below is so_far counted few kind short =
    subst (λ n. AreCounted (total + n) (take (i + 1) xs)) (sym counted)
    (subst (AreCounted (total + length a.preds)) (ap (λ x. take i xs ++ x ∷ []) is ∙ sym (take_more xs i a below))
    (pushed (take i xs) a total so_far (subst (λ n. n ≤ pred_limit - total) counted few) kind short))
