-- Paths that are flushed a part at a time.
use Rattle.std.proofs.Common.{◌≡◌, ℕ, ◌+◌, ◌-◌, ◌≤◌, List, Result, Ok, Err, IfOk, arith, drop, map, slice_range, subst, sym, take}
use Rattle.std.proofs.Math.Seq.{take-add}
use Rattle.std.proofs.lemmas.List.Elements.{All-append, All-map}
use Rattle.std.specs.List.{All}

-- what holds of the first ones, and of those behind them up to a place, holds of all up to there
pub all_further : {X : Type 0} (P : X → Type 0) (xs : List X) (i j : ℕ) → i ≤ j → All P (take i xs) → All P (slice_range xs i j) → All P (take j xs)
all_further P xs i j h first behind =
    let n = j - i in
    let size : i + n ≡ j = omega arith in
    subst (λ m. All P (take m xs)) size (subst (All P) (sym (take-add i n xs)) (All-append P (take i xs) (take n (drop i xs)) first behind))

-- what holds of what these stand for holds of a list of that
pub all_listed : {X Y : Type 0} (P : Y → Type 0) (f : X → Y) (xs : List X) (ys : List Y) → map f xs ≡ ys → All (λ x. P (f x)) xs → All P ys
all_listed P f xs ys is all = subst (All P) is (All-map P f xs all)

-- what follows from two things that are so where a call goes well
pub both_ok : {X Y : Type 0} (r : Result X Y) (P Q A B : Type 0) → (P → A) → (Q → B) → IfOk r (λ _. P) → IfOk r (λ _. Q) → IfOk r (λ _. A × B)
both_ok (Ok x) P Q A B f g p q = (f p, g q)
both_ok (Err e) P Q A B f g p q = tt
