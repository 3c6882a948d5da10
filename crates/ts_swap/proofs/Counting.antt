-- Counts of failures.
use Rattle.std.proofs.Common.{◌≡◌, ◌⊎◌, inl, inr, ℕ, sym, subst, arith}
use Rattle.ts_swap.specs.Leavings.{FailedAtMostOnce, Grows, HasFailed}

-- a count that grew tells of a failure
pub grown : (b a : ℕ) → Grows b a → HasFailed b a
grown b a (inl one) = inl (omega (arith, one))
grown b a (inr (same, end)) = inr end

-- and so it does where it grew once more, or not, after that
pub still_grown : (b m a : ℕ) → Grows b m → (a ≡ m) ⊎ Grows m a → HasFailed b a
still_grown b m a (inr (same, end)) more = inr end
still_grown b m a (inl one) (inl more) = inl (omega (arith, one, more))
still_grown b m a (inl one) (inr (inl more)) = inl (omega (arith, one, more))
still_grown b m a (inl one) (inr (inr (more, end))) = inl (omega (arith, one, more))

-- and after a call between them that ended well
pub still_after : (b m k a : ℕ) → Grows b m → k ≡ m → (a ≡ k) ⊎ Grows k a → HasFailed b a
still_after b m k a first same more = still_grown b m a first (subst (λ (j : ℕ). (a ≡ j) ⊎ Grows j a) same more)

-- two calls that failed
pub two_failed : (A : Type 0) (b m a : ℕ) → Grows b m → Grows m a → FailedAtMostOnce b a → A
two_failed A b m a first second once = absurd (neither first second)
  where
    neither : Grows b m → Grows m a → ⊥
    neither (inr (same, end)) (inl more) = omega (arith, once.0, once.1, same, end, more)
    neither (inr (same, end)) (inr (more, too)) = omega (arith, once.0, once.1, same, end, more)
    neither (inl one) (inl more) = omega (arith, once.0, once.1, one, more)
    neither (inl one) (inr (more, end)) = omega (arith, once.0, once.1, one, more, end)

-- where nothing failed before
pub failed_from : (b m a : ℕ) → m ≡ b → HasFailed m a → HasFailed b a
failed_from b m a same = subst (λ (k : ℕ). HasFailed k a) same

pub once_from : (b m a : ℕ) → m ≡ b → FailedAtMostOnce b a → FailedAtMostOnce m a
once_from b m a same = subst (λ (k : ℕ). FailedAtMostOnce k a) (sym same)

-- where something may fail after a failure
pub still_at_fault : (A : Type 0) (b m a : ℕ) → A ⊎ HasFailed b m → (a ≡ m) ⊎ Grows m a → A ⊎ HasFailed b a
still_at_fault A b m a (inl hides) more = inl hides
still_at_fault A b m a (inr (inr end)) more = inr (inr end)
still_at_fault A b m a (inr (inl less)) (inl more) = inr (inl (omega (arith, less, more)))
still_at_fault A b m a (inr (inl less)) (inr (inl more)) = inr (inl (omega (arith, less, more)))
still_at_fault A b m a (inr (inl less)) (inr (inr (more, end))) = inr (inl (omega (arith, less, more)))
