-- The lines that report faults.
use Rattle.std.proofs.Common.{◌≡◌, ℕ, List, [], ◌∷◌, ◌++◌, Some, codes, decimal, refl, sym, ap, subst, ◌∙◌, append_assoc}
use Rattle.ts_name.specs.Paths.{Path, path_text}
use Rattle.ts_explain.specs.Faults.{fault_line}

pub at_root : (number : ℕ) (path : Path) → path ≡ [] → codes "twosync: fault " ++ decimal number ≡ fault_line number (Some path)
at_root number path root = subst (λ p. codes "twosync: fault " ++ decimal number ≡ fault_line number (Some p)) (sym root) refl

pub at_path : (number : ℕ) (path : Path) → ¬ (path ≡ []) → codes "twosync: fault " ++ decimal number ++ 32 ∷ path_text path ≡ fault_line number (Some path)
at_path number [] some = absurd (some refl)
at_path number (name ∷ path) some = refl

-- what was written piece by piece
pub with_path : (line front number path : List ℕ) → (((line ++ front) ++ number) ++ 32 ∷ []) ++ path ≡ line ++ (front ++ number ++ 32 ∷ path)
with_path line front number path =
    append_assoc ((line ++ front) ++ number) (32 ∷ []) path ∙ ap (λ z. z ++ 32 ∷ path) (append_assoc line front number) ∙ append_assoc line (front ++ number) (32 ∷ path)

pub with_place : (line front path middle place : List ℕ) → (((line ++ front) ++ path) ++ middle) ++ place ≡ line ++ (front ++ path ++ middle ++ place)
with_place line front path middle place =
    ap (λ z. z ++ place) (ap (λ z. z ++ middle) (append_assoc line front path) ∙ append_assoc line (front ++ path) middle) ∙ append_assoc line (front ++ path ++ middle) place
