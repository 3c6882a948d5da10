-- What a search for the least number tells, by the answers of a closure.
--     Answers post i b                 the closure has answered b at this number
--     IsFirstAnswer post count found   at the number that is found it answered true, and false at each before it; or at none below count
use Rattle.std.specs.Prelude.{◌≡◌, ℕ, ◌<◌, Bool, true, false, Option, Some, None}
use Rattle.std.specs.Borrow.{Bor}

abbrev pub Answers : (Bor ℕ → Bool → Type 0) → ℕ → Bool → Type 0
Answers post i b = (p : Bor ℕ) × (p.now ≡ i) × post p b

abbrev pub IsFirstAnswer : (Bor ℕ → Bool → Type 0) → ℕ → Option ℕ → Type 0
IsFirstAnswer post count None = (i : ℕ) → i < count → Answers post i false
IsFirstAnswer post count (Some k) = (k < count) × Answers post k true × ((i : ℕ) → i < k → Answers post i false)
