-- The lines that report what was kept.
use Rattle.std.proofs.Common.{◌≡◌, ℕ, List, ◌++◌, ap, ◌∙◌, append_assoc}

-- what was written piece by piece
pub with_place : (line front path middle place : List ℕ) → (((line ++ front) ++ path) ++ middle) ++ place ≡ line ++ (front ++ path ++ middle ++ place)
with_place line front path middle place =
    ap (λ z. z ++ place) (ap (λ z. z ++ middle) (append_assoc line front path) ∙ append_assoc line (front ++ path) middle) ∙ append_assoc line (front ++ path ++ middle) place
