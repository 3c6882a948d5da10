-- What readers and writers count, and what a read adds to the bytes that are held.
use Rattle.std.specs.Prelude.{◌≡◌, ◌≢◌, ℕ, List, ◌++◌, length, Option, Result, MatchResult}
use Rattle.std.specs.Io.KnownBytes.{Consumes, Appends}

-- the count changes at a failure, and only there
abbrev pub CountsFailure : {A E : Type 0} → ℕ → ℕ → Result A E → Type 0
CountsFailure old new r = MatchResult r (λ _. new ≡ old) (λ _. new ≢ old)

-- held bytes grow by n, which the source gave
pub record Gains (source_old source_new : Option (List ℕ)) (old new : List ℕ) (n : ℕ) : Type 0 where
  pub bytes : List ℕ
  pub count : length bytes ≡ n
  pub appended : new ≡ old ++ bytes
  pub given : Consumes source_old source_new bytes

-- some beginning of the bytes was added
pub record AppendsFront (old new : Option (List ℕ)) (bytes : List ℕ) : Type 0 where
  pub front : List ℕ
  pub rest : List ℕ
  pub split : bytes ≡ front ++ rest
  pub added : Appends old new front

-- the bytes were added, or at an error a beginning of them
abbrev pub Writes : {A E : Type 0} → Option (List ℕ) → Option (List ℕ) → List ℕ → Result A E → Type 0
Writes old new bytes r = MatchResult r (λ _. Appends old new bytes) (λ _. AppendsFront old new bytes)
