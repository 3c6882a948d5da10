-- Small facts on functions, and on lists: what is at a place, what holds of each element, and their parts.
use Rattle.std.proofs.Common.{◌≡◌, ℕ, zero, suc, ◌<◌, List, [], ◌∷◌, ◌++◌, ◌+◌, take, drop, length, Some, slice_get, map, refl, sym, ap, ◌∙◌, subst, append_assoc, arith}
use Rattle.std.proofs.lemmas.Option.{none-some, same_Some}
use Rattle.std.specs.List.{AllByRecursion}

-- ---- functions

-- functions that agree at each argument are equal
pub by_each : {A B : Type 0} (f g : A → B) → ((x : A) → f x ≡ g x) → f ≡ g
by_each f g h = λ i. λ x. h x i

-- equal functions agree at each argument
pub at_each : {A B : Type 0} {f g : A → B} → f ≡ g → (x : A) → f x ≡ g x
at_each e x = ap (λ h. h x) e

-- ---- what holds of each element

-- what each element has, each has in a weaker form
pub weaker : {A : Type 0} (P Q : A → Type 0) → ((x : A) → P x → Q x) → (xs : List A) → AllByRecursion P xs → AllByRecursion Q xs
weaker P Q h [] all = tt
weaker P Q h (x ∷ xs) all = (h x all.0, weaker P Q h xs all.1)

-- two facts of each element are one
pub all_both : {A : Type 0} (P Q : A → Type 0) (xs : List A) → AllByRecursion P xs → AllByRecursion Q xs → AllByRecursion (λ x. P x × Q x) xs
all_both P Q [] h k = tt
all_both P Q (x ∷ xs) h k = ((h.0, k.0), all_both P Q xs h.1 k.1)

-- what holds after a map
pub all_map : {A B : Type 0} (P : B → Type 0) (f : A → B) (xs : List A) → AllByRecursion (λ x. P (f x)) xs → AllByRecursion P (map f xs)
all_map P f [] h = tt
all_map P f (x ∷ xs) h = (h.0, all_map P f xs h.1)

-- what each element has, the one at a place has
pub all_at : {A : Type 0} (P : A → Type 0) (xs : List A) → AllByRecursion P xs → (k : ℕ) (x : A) → slice_get xs k ≡ Some x → P x
all_at P [] all k x e = absurd (none-some x e)
all_at P (y ∷ ys) all zero x e = subst P (same_Some y x e) all.0
all_at P (y ∷ ys) all (suc k) x e = all_at P ys all.1 k x e

-- ---- places in a list

-- one place holds one element
pub same_at : {A : Type 0} (xs : List A) (k : ℕ) (x y : A) → slice_get xs k ≡ Some x → slice_get xs k ≡ Some y → x ≡ y
same_at xs k x y e f = same_Some x y (sym e ∙ f)

-- a place within the list holds one
pub element_at : {A : Type 0} (xs : List A) (k : ℕ) → k < length xs → (x : A) × (slice_get xs k ≡ Some x)
element_at [] k h = absurd (omega arith)
element_at (x ∷ xs) zero h = (x, refl)
element_at (x ∷ xs) (suc k) h = element_at xs k (omega arith)

-- what is put at the end is the last element
pub got_last : {A : Type 0} (xs : List A) (x : A) → slice_get (xs ++ x ∷ []) (length xs) ≡ Some x
got_last [] x = refl
got_last (y ∷ ys) x = got_last ys x

-- what is at a place of a list is there in a longer one, too
pub got_front : {A : Type 0} (xs ys : List A) (k : ℕ) (x : A) → slice_get xs k ≡ Some x → slice_get (xs ++ ys) k ≡ Some x
got_front [] ys k x is = absurd (none-some x is)
got_front (y ∷ xs) ys zero x is = is
got_front (y ∷ xs) ys (suc k) x is = got_front xs ys k x is

-- ---- parts of a list

-- the first elements, and those that follow them
pub take_part : {A : Type 0} (m n : ℕ) (xs : List A) → take m xs ++ take n (drop m xs) ≡ take (m + n) xs
take_part zero n xs = let on : n ≡ zero + n = omega arith in ap (λ k. take k xs) on
take_part (suc m) zero [] = let on : suc m ≡ suc m + zero = omega arith in ap (λ k. take k []) on
take_part (suc m) (suc n) [] = let on : suc (m + suc n) ≡ suc m + suc n = omega arith in ap (λ k. take k []) on
take_part (suc m) n (x ∷ xs) =
    let on : suc (m + n) ≡ suc m + n = omega arith in ap (λ z. x ∷ z) (take_part m n xs) ∙ ap (λ k. take k (x ∷ xs)) on

-- five lists in a row, from either end
pub five_parts : {A : Type 0} (p f s h l : List A) → (((p ++ f) ++ s) ++ h) ++ l ≡ p ++ (f ++ (s ++ (h ++ l)))
five_parts p f s h l = append_assoc ((p ++ f) ++ s) h l ∙ append_assoc (p ++ f) s (h ++ l) ∙ append_assoc p f (s ++ (h ++ l))
