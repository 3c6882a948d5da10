-- UTF-8 is made of bytes, and so are good names.
use Rattle.std.proofs.Common.{◌≡◌, ◌+◌, ◌/◌, ◌<◌, ℕ, Bool, true, false, cond, ltb, List, [], ◌∷◌, ◌++◌, refl, subst, ⊎_elim, arith}
use Rattle.std.proofs.lemmas.Bool.{and_parts, ltb-true}
use Rattle.std.specs.List.{AllByRecursion}
use Rattle.std.specs.Prelude.{IsUtf8}
use lib.Utf8.{scalar, scalars, encode, encodes, next, scalar_cases}
use Rattle.std.proofs.lemmas.Str.{IsUtf8-append, IsUtf8-nil}
use Rattle.ts_name.specs.Paths.{Path, IsName, place_text}
use Rattle.ts_name.specs.Escapes.{AreBytes}

-- what holds of each element of two lists holds of each of both
pub all_append : {A : Type 0} (P : A → Type 0) (xs ys : List A) → AllByRecursion P xs → AllByRecursion P ys → AllByRecursion P (xs ++ ys)
all_append P [] ys h k = k
all_append P (x ∷ xs) ys h k = (h.0, all_append P xs ys h.1 k)

-- and the other way round
pub all_parts : {A : Type 0} (P : A → Type 0) (xs ys : List A) → AllByRecursion P (xs ++ ys) → AllByRecursion P xs × AllByRecursion P ys
all_parts P [] ys h = (tt, h)
all_parts P (x ∷ xs) ys h = let more = all_parts P xs ys h.1 in ((h.0, more.0), more.1)

below_all : (c : ℕ) → scalar c ≡ true → c < 1114112
below_all c h = ⊎_elim (λ k. omega arith) (λ k. k.1) (scalar_cases c h)

encode_bytes : (c : ℕ) → c < 1114112 → AreBytes (encode c)
unfolding encode
encode_bytes c h = go (ltb c 128) (ltb c 2048) (ltb c 65536) refl refl refl
  where
    go : (s t u : Bool) → ltb c 128 ≡ s → ltb c 2048 ≡ t → ltb c 65536 ≡ u → AreBytes (cond s (c ∷ []) (cond t ((192 + c / 64) ∷ next c ∷ []) (cond u ((224 + c / 4096) ∷ next (c / 64) ∷ next c ∷ []) ((240 + c / 262144) ∷ next (c / 4096) ∷ next (c / 64) ∷ next c ∷ []))))
    go true t u e f g = (omega (arith, ltb-true c 128 e), tt)
    go false true u e f g = (omega (arith, ltb-true c 2048 f), (omega arith, tt))
    go false false true e f g = (omega (arith, ltb-true c 65536 g), (omega arith, (omega arith, tt)))
    go false false false e f g = (omega arith, (omega arith, (omega arith, (omega arith, tt))))

encodes_bytes : (cs : List ℕ) → scalars cs ≡ true → AreBytes (encodes cs)
encodes_bytes [] h = tt
encodes_bytes (c ∷ cs) h =
    let parts = and_parts (scalar c) (scalars cs) h in
    all_append (λ b. b < 256) (encode c) (encodes cs) (encode_bytes c (below_all c parts.0)) (encodes_bytes cs parts.1)

-- UTF-8 is made of bytes
pub AreBytes-from_utf8 : (bytes : List ℕ) → IsUtf8 bytes → AreBytes bytes
AreBytes-from_utf8 bytes (cs, h) = subst (λ z. AreBytes z) h.1 (encodes_bytes cs h.0)

-- good names are made of bytes other than `/`
pub fit_from_names : (path : Path) → AllByRecursion IsName path → AllByRecursion AreBytes path
fit_from_names [] h = tt
fit_from_names (name ∷ path) h = (AreBytes-from_utf8 name h.0.utf8, fit_from_names path h.1)

slash_utf8 : IsUtf8 (47 ∷ [])
unfolding encode
slash_utf8 = (47 ∷ [], (refl, refl))

-- where there is text above, each place below is text
pub place_utf8 : (path : Path) → AllByRecursion IsName path → IsUtf8 (place_text path)
place_utf8 [] h = IsUtf8-nil
place_utf8 (name ∷ path) h = IsUtf8-append (47 ∷ name) (place_text path) (IsUtf8-append (47 ∷ []) name slash_utf8 h.0.utf8) (place_utf8 path h.1)
