-- Patterns: a run of bytes is taken off, and a star tries each end of a name.
use Rattle.std.proofs.Common.{◌≡◌, ◌≢◌, ◌⊎◌, ◌↔◌, ℕ, ◌≤◌, List, [], ◌∷◌, ◌++◌, length, map, refl, sym, ap, ◌∙◌, subst, inl, inr, append_assoc, arith, length-append}
use Rattle.ts_name.specs.Paths.{Name}
use Rattle.ts_model.specs.Holds.{Fits}
use Rattle.ts_model.specs.declared.hold.Symbol.{Symbol}
use Rattle.ts_model.specs.declared.hold.Symbol.TheVariants.{Star, Byte}
use Rattle.ts_hold.specs.Fronts.{Passed}
use Rattle.std.proofs.lemmas.List.{nil_from_length}

-- bytes in front of both may be taken off
pub take_front : (front : Name) (pattern : List Symbol) (name : Name) → Fits (map Byte front ++ pattern) (front ++ name) → Fits pattern name
take_front [] pattern name fits = fits
take_front (b ∷ front) pattern name fits = take_front front pattern name fits.1

-- and put there
pub put_front : (front : Name) (pattern : List Symbol) (name : Name) → Fits pattern name → Fits (map Byte front ++ pattern) (front ++ name)
put_front [] pattern name fits = fits
put_front (b ∷ front) pattern name fits = (refl, put_front front pattern name fits)

-- a name that fits bytes and more begins with these bytes
pub begins : (front : Name) (pattern : List Symbol) (name : Name) → Fits (map Byte front ++ pattern) name → (left : Name) × (name ≡ front ++ left) × Fits pattern left
begins [] pattern name fits = (name, refl, fits)
begins (b ∷ front) pattern [] fits = absurd fits
begins (b ∷ front) pattern (x ∷ name) fits =
    let more = begins front pattern name fits.1 in
    (more.0, (let same : b ≡ x = fits.0 in let rest : name ≡ front ++ more.0 = more.1 in cc), more.2)

-- of two ways to cut a list, the later cut leaves an end of what the earlier one leaves
pub later_cut : (early late left rest : Name) → early ++ left ≡ late ++ rest → length early ≤ length late → (skipped : Name) × (left ≡ skipped ++ rest)
later_cut [] late left rest same shorter = (late, same)
later_cut (x ∷ early) [] left rest same shorter = absurd (omega arith)
later_cut (x ∷ early) (y ∷ late) left rest same shorter = later_cut early late left rest (let e : x ∷ (early ++ left) ≡ y ∷ (late ++ rest) = same in cc) (omega arith)

-- an end of a name that fits after a star: the whole name, or an end of what follows its first byte
pub at_first : (pattern : List Symbol) (name : Name) → Fits pattern name → Fits (Star ∷ pattern) name
at_first pattern name fits = ([], name, refl, fits)

pub at_later : (pattern : List Symbol) (x : ℕ) (name : Name) → Fits (Star ∷ pattern) name → Fits (Star ∷ pattern) (x ∷ name)
at_later pattern x name fits = (x ∷ fits.0, fits.1, ap (λ z. x ∷ z) fits.2, fits.3)

pub first_or_later : (pattern : List Symbol) (x : ℕ) (name : Name) → Fits (Star ∷ pattern) (x ∷ name) → Fits pattern (x ∷ name) ⊎ Fits (Star ∷ pattern) name
first_or_later pattern x name fits = go fits.0 fits.1 fits.2 fits.3
  where
    go : (front rest : Name) → x ∷ name ≡ front ++ rest → Fits pattern rest → Fits pattern (x ∷ name) ⊎ Fits (Star ∷ pattern) name
    go [] rest is fits = inl (subst (λ z. Fits pattern z) (sym is) fits)
    go (y ∷ front) rest is fits = inr (front, rest, (let e : x ∷ name ≡ y ∷ (front ++ rest) = is in cc), fits)

-- what fits the rest fits the whole, and the other way round
pub fits_whole : (pattern : List Symbol) (name : Name) (symbols : List Symbol) (bytes : Name) → Passed pattern name symbols bytes → Fits symbols bytes → Fits pattern name
fits_whole pattern name symbols bytes passed fits =
    subst (λ z. Fits z name) (sym passed.pattern_is) (subst (λ z. Fits (map Byte passed.front ++ symbols) z) (sym passed.name_is) (put_front passed.front symbols bytes fits))

pub fits_rest : (pattern : List Symbol) (name : Name) (symbols : List Symbol) (bytes : Name) → Passed pattern name symbols bytes → Fits pattern name → Fits symbols bytes
fits_rest pattern name symbols bytes passed fits =
    take_front passed.front symbols bytes (subst (λ z. Fits (map Byte passed.front ++ symbols) z) passed.name_is (subst (λ z. Fits z name) passed.pattern_is fits))

-- one byte more
pub pass_one : (pattern : List Symbol) (name : Name) (b : ℕ) (symbols : List Symbol) (bytes : Name) → Passed pattern name (Byte b ∷ symbols) (b ∷ bytes) → Passed pattern name symbols bytes
pass_one pattern name b symbols bytes passed = record {
  front = passed.front ++ b ∷ [];
  pattern_is = passed.pattern_is ∙ sym (ap (λ z. z ++ symbols) (map_append passed.front b) ∙ append_assoc (map Byte passed.front) (Byte b ∷ []) symbols);
  name_is = passed.name_is ∙ sym (append_assoc passed.front (b ∷ []) bytes);
}
  where
    map_append : (front : Name) (b : ℕ) → map Byte (front ++ b ∷ []) ≡ map Byte front ++ Byte b ∷ []
    map_append [] b = refl
    map_append (x ∷ front) b = ap (λ z. Byte x ∷ z) (map_append front b)

-- The first place where the bytes before the next star stand will do: a later one leaves an end of what this one leaves.
pub earliest : (pattern : List Symbol) (name : Name) (rest : List Symbol) (left : Name) → Passed pattern name (Star ∷ rest) left → Fits (Star ∷ pattern) name → Fits (Star ∷ rest) left
earliest pattern name rest left passed fits = go (begins passed.front (Star ∷ rest) fits.1 (subst (λ z. Fits z fits.1) passed.pattern_is fits.3))
  where
    go : (after : Name) × (fits.1 ≡ passed.front ++ after) × Fits (Star ∷ rest) after → Fits (Star ∷ rest) left
    go found =
        let late : passed.front ++ left ≡ (fits.0 ++ passed.front) ++ found.0 = sym passed.name_is ∙ fits.2 ∙ ap (λ z. fits.0 ++ z) found.1 ∙ sym (append_assoc fits.0 passed.front found.0) in
        let skip = later_cut passed.front (fits.0 ++ passed.front) left found.0 late (omega (arith, length-append fits.0 passed.front)) in
        (skip.0 ++ found.2.0, found.2.1, skip.1 ∙ ap (λ z. skip.0 ++ z) found.2.2 ∙ sym (append_assoc skip.0 found.2.0 found.2.1), found.2.3)

-- and where the rest fits, so does the whole
pub latest : (pattern : List Symbol) (name : Name) (rest : List Symbol) (left : Name) → Passed pattern name (Star ∷ rest) left → Fits (Star ∷ rest) left → Fits (Star ∷ pattern) name
latest pattern name rest left passed fits = at_first pattern name (fits_whole pattern name (Star ∷ rest) left passed fits)

-- ---- what one step over the pattern finds

-- no byte of the name is left for the pattern's
pub name_ends : (pattern : List Symbol) (name : Name) (symbols : List Symbol) (bytes : Name) (b : ℕ) (rest : List Symbol) → Passed pattern name symbols bytes
    → symbols ≡ Byte b ∷ rest → length bytes ≡ 0 → ¬ Fits pattern name
name_ends pattern name symbols bytes b rest passed is none fits =
    subst (λ z. Fits z []) is (subst (λ z. Fits symbols z) (nil_from_length bytes none) (fits_rest pattern name symbols bytes passed fits))

-- the next bytes differ
pub bytes_differ : (pattern : List Symbol) (name : Name) (symbols : List Symbol) (bytes : Name) (b x : ℕ) (rest : List Symbol) (left : Name) → Passed pattern name symbols bytes
    → symbols ≡ Byte b ∷ rest → bytes ≡ x ∷ left → b ≢ x → ¬ Fits pattern name
bytes_differ pattern name symbols bytes b x rest left passed is is_bytes differ fits =
    let both : Fits (Byte b ∷ rest) (x ∷ left) = subst (λ z. Fits z (x ∷ left)) is (subst (λ z. Fits symbols z) is_bytes (fits_rest pattern name symbols bytes passed fits)) in
    differ both.0

-- the next bytes are the same
pub bytes_agree : (pattern : List Symbol) (name : Name) (symbols : List Symbol) (bytes : Name) (b x : ℕ) (rest : List Symbol) (left : Name) → Passed pattern name symbols bytes
    → symbols ≡ Byte b ∷ rest → bytes ≡ x ∷ left → b ≡ x → Passed pattern name rest left
bytes_agree pattern name symbols bytes b x rest left passed is is_bytes same =
    pass_one pattern name b rest left (subst (λ z. Passed pattern name z (b ∷ left)) is (subst (λ z. Passed pattern name symbols z) (is_bytes ∙ ap (λ z. z ∷ left) (sym same)) passed))

-- the pattern ends, with the name
pub both_end : (pattern : List Symbol) (name : Name) (symbols : List Symbol) (bytes : Name) → Passed pattern name symbols bytes → length symbols ≡ 0 → length bytes ≡ 0 → Fits pattern name
both_end pattern name symbols bytes passed none none_left =
    fits_whole pattern name symbols bytes passed (subst (λ z. Fits z bytes) (sym (nil_from_length symbols none)) (subst (λ z. Fits [] z) (sym (nil_from_length bytes none_left)) tt))

-- the pattern ends before the name
pub pattern_ends : (pattern : List Symbol) (name : Name) (symbols : List Symbol) (bytes : Name) → Passed pattern name symbols bytes → length symbols ≡ 0 → length bytes ≢ 0 → ¬ Fits pattern name
pattern_ends pattern name symbols bytes passed none some fits =
    go bytes some (subst (λ z. Fits z bytes) (nil_from_length symbols none) (fits_rest pattern name symbols bytes passed fits))
  where
    go : (bytes : Name) → length bytes ≢ 0 → ¬ Fits [] bytes
    go [] some fits = some refl
    go (x ∷ bytes) some fits = fits

-- where bytes don't begin the name, a star may take its first byte
pub skip_one : (pattern : List Symbol) (name : Name) (x : ℕ) (left : Name) → ¬ Fits pattern name → name ≡ x ∷ left → Fits (Star ∷ pattern) left ↔ Fits (Star ∷ pattern) name
skip_one pattern name x left apart is = (
  λ h. subst (λ z. Fits (Star ∷ pattern) z) (sym is) (at_later pattern x left h),
  λ h. elim (first_or_later pattern x left (subst (λ z. Fits (Star ∷ pattern) z) is h)) [
    | inl f ↦ absurd (apart (subst (λ z. Fits pattern z) (sym is) f))
    | inr f ↦ f
  ],
)
