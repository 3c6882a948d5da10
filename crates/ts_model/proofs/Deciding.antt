-- Equality is decided: of numbers, lists, paths, stamps and contents.
use Rattle.std.proofs.Common.{◌≡◌, ℕ, List, [], ◌∷◌, refl, ap, inl, inr}
use Rattle.std.proofs.lemmas.Bool.{cases_eq}
use Rattle.ts_name.specs.Paths.{Path}
use Rattle.ts_model.specs.declared.row.Content.{Content}
use Rattle.ts_model.specs.declared.row.Content.TheVariants.{Absent, Dir, File}
use Rattle.ts_model.specs.declared.row.Stamp.{Stamp}

-- numbers
pub same_number : (m n : ℕ) → Dec (m ≡ n)
same_number m n = elim (cases_eq m n) [ inl e ↦ yes e | inr h ↦ no h ]

-- lists of what is decided
pub same_list : {A : Type 0} → ((x y : A) → Dec (x ≡ y)) → (xs ys : List A) → Dec (xs ≡ ys)
same_list d [] [] = yes refl
same_list d [] (y ∷ ys) = no (λ e. cc)
same_list d (x ∷ xs) [] = no (λ e. cc)
same_list d (x ∷ xs) (y ∷ ys) = joined (d x y) (same_list d xs ys)
  where
    joined : Dec (x ≡ y) → Dec (xs ≡ ys) → Dec (x ∷ xs ≡ y ∷ ys)
    joined (yes e) (yes f) = yes cc
    joined (no n) f = no (λ e. n cc)
    joined (yes e) (no n) = no (λ e. n cc)

-- paths
pub same_names : (p q : Path) → Dec (p ≡ q)
same_names p q = same_list (same_list same_number) p q

-- stamps
pub same_stamp : (x y : Stamp) → Dec (x ≡ y)
same_stamp x y = joined (same_number x.size y.size) (same_list same_number x.digest y.digest)
  where
    joined : Dec (x.size ≡ y.size) → Dec (x.digest ≡ y.digest) → Dec (x ≡ y)
    joined (yes e) (yes f) = yes (λ i. record { size = e i; digest = f i })
    joined (no n) f = no (λ e. n (ap (λ s. s.size) e))
    joined (yes e) (no n) = no (λ e. n (ap (λ s. s.digest) e))

-- contents of what is decided
pub same_content : {F : Type 0} → ((x y : F) → Dec (x ≡ y)) → (x y : Content F) → Dec (x ≡ y)
same_content d Absent Absent = yes refl
same_content d Dir Dir = yes refl
same_content d (File x) (File y) = elim (d x y) [ yes e ↦ yes (ap File e) | no n ↦ no (λ e. n cc) ]
same_content d Absent Dir = no (λ e. cc)
same_content d Absent (File y) = no (λ e. cc)
same_content d Dir Absent = no (λ e. cc)
same_content d Dir (File y) = no (λ e. cc)
same_content d (File x) Absent = no (λ e. cc)
same_content d (File x) Dir = no (λ e. cc)

-- contents of trees
pub same_bytes_at : (x y : Content (List ℕ)) → Dec (x ≡ y)
same_bytes_at = same_content (same_list same_number)

-- contents of prints
pub same_stamp_at : (x y : Content Stamp) → Dec (x ≡ y)
same_stamp_at = same_content same_stamp
