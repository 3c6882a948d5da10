-- Which steps stand in runs that are put together.
use Rattle.std.proofs.Common.{◌≡◌, ◌⊎◌, ℕ, zero, suc, Bool, true, false, ◌||◌, List, [], ◌∷◌, ◌++◌, sym, refl, ap, ◌∙◌, subst, inl, inr, ⊎_elim}
use Rattle.std.specs.List.{list_any}
use Rattle.std.proofs.lemmas.Bool.{true≢false}
use Rattle.std.proofs.lemmas.List.Folds.{list_any-append}
use Rattle.ts_model.specs.Runs.{Run, Has, HasNot}
use Rattle.ts_model.specs.declared.plan.Plan.{Plan}
use Rattle.ts_model.specs.declared.step.Step.{Step}
use Rattle.ts_model.specs.declared.step.Step.TheVariants.{Take, Release}
use Rattle.ts_board.specs.Runs.{steps_by, keep, count, actor}
use Rattle.ts_board.specs.Kept.{IsMerged}
use Rattle.ts_exec.specs.Tidy.{AreTakes, AreReleases}

pub or_cases : (a b : Bool) → (a || b) ≡ true → (a ≡ true) ⊎ (b ≡ true)
or_cases true b e = inl refl
or_cases false b e = inr e

pub or_left : (a b : Bool) → a ≡ true → (a || b) ≡ true
or_left true b e = refl
or_left false b e = absurd (true≢false (sym e))

pub or_right : (a b : Bool) → b ≡ true → (a || b) ≡ true
or_right true b e = refl
or_right false b e = e

pub or_none : (a b : Bool) → a ≡ false → b ≡ false → (a || b) ≡ false
or_none true b e f = absurd (true≢false e)
or_none false b e f = f

pub has_cases : (t : Step → Bool) (xs ys : Run) → Has (xs ++ ys) t → Has xs t ⊎ Has ys t
has_cases t xs ys h = or_cases (list_any t xs) (list_any t ys) (sym (list_any-append t xs ys) ∙ h)

pub has_right : (t : Step → Bool) (xs ys : Run) → Has ys t → Has (xs ++ ys) t
has_right t xs ys h = list_any-append t xs ys ∙ or_right (list_any t xs) (list_any t ys) h

pub not_both : (b : Bool) → b ≡ true → b ≡ false → ⊥
not_both b h k = true≢false (sym h ∙ k)

pub none_or_some : (b : Bool) → (b ≡ true) ⊎ (b ≡ false)
none_or_some true = inl refl
none_or_some false = inr refl

pub not_some : (b : Bool) → ((b ≡ true) → ⊥) → b ≡ false
not_some true h = absurd (h refl)
not_some false h = refl

-- a pass's own steps stand in what it has seen
pub own_seen : (t : Step → Bool) (cs : List ℕ) (xs : Run) → Has (steps_by cs xs) t → Has xs t
own_seen t cs [] h = h
own_seen t cs (x ∷ xs) h = go (count (actor x) cs) (λ k. own_seen t cs xs k) h
  where
    go : (n : ℕ) → (Has (steps_by cs xs) t → Has xs t) → Has (keep n x (steps_by cs xs)) t → Has (x ∷ xs) t
    go zero below k = or_right (t x) (list_any t xs) (below k)
    go (suc n) below k = ⊎_elim (or_left (t x) (list_any t xs)) (λ (r : Has (steps_by cs xs) t). or_right (t x) (list_any t xs) (below r)) (or_cases (t x) (list_any t (steps_by cs xs)) k)

-- the steps of two passes that were put together are those of either
pub merged_cases : (t : Step → Bool) (xs ys zs : Run) → IsMerged xs ys zs → Has zs t → Has xs t ⊎ Has ys t
merged_cases t xs ys [] m h = inl (subst (λ (l : Run). Has l t) (sym m.0) h)
merged_cases t xs ys (z ∷ zs) (inl m) h = subst (λ (l : Run). Has l t ⊎ Has ys t) (sym m.1) (⊎_elim
    (λ (e : t z ≡ true). inl (or_left (t z) (list_any t m.0) e))
    (λ (r : Has zs t). ⊎_elim (λ (e : Has m.0 t). inl (or_right (t z) (list_any t m.0) e)) (λ (e : Has ys t). inr e) (merged_cases t m.0 ys zs m.2 r))
    (or_cases (t z) (list_any t zs) h))
merged_cases t xs ys (z ∷ zs) (inr m) h = subst (λ (l : Run). Has xs t ⊎ Has l t) (sym m.1) (⊎_elim
    (λ (e : t z ≡ true). inr (or_left (t z) (list_any t m.0) e))
    (λ (r : Has zs t). ⊎_elim (λ (e : Has xs t). inl e) (λ (e : Has m.0 t). inr (or_right (t z) (list_any t m.0) e)) (merged_cases t xs m.0 zs m.2 r))
    (or_cases (t z) (list_any t zs) h))

pub merged_left : (t : Step → Bool) (xs ys zs : Run) → IsMerged xs ys zs → Has xs t → Has zs t
merged_left t xs ys [] m h = subst (λ (l : Run). Has l t) m.0 h
merged_left t xs ys (z ∷ zs) (inl m) h = ⊎_elim
    (λ (e : t z ≡ true). or_left (t z) (list_any t zs) e)
    (λ (r : Has m.0 t). or_right (t z) (list_any t zs) (merged_left t m.0 ys zs m.2 r))
    (or_cases (t z) (list_any t m.0) (subst (λ (l : Run). Has l t) m.1 h))
merged_left t xs ys (z ∷ zs) (inr m) h = or_right (t z) (list_any t zs) (merged_left t xs m.0 zs m.2 h)

pub merged_right : (t : Step → Bool) (xs ys zs : Run) → IsMerged xs ys zs → Has ys t → Has zs t
merged_right t xs ys [] m h = subst (λ (l : Run). Has l t) m.1 h
merged_right t xs ys (z ∷ zs) (inl m) h = or_right (t z) (list_any t zs) (merged_right t m.0 ys zs m.2 h)
merged_right t xs ys (z ∷ zs) (inr m) h = ⊎_elim
    (λ (e : t z ≡ true). or_left (t z) (list_any t zs) e)
    (λ (r : Has m.0 t). or_right (t z) (list_any t zs) (merged_right t xs m.0 zs m.2 r))
    (or_cases (t z) (list_any t m.0) (subst (λ (l : Run). Has l t) m.1 h))

-- takes and releases pass no other test
pub takes_none : (t : Step → Bool) (plan : Plan) (c : ℕ) → ((k : ℕ) → t (Take c k) ≡ false) → (xs : Run) → AreTakes plan c xs → HasNot xs t
takes_none t plan c away [] a = refl
takes_none t plan c away (x ∷ xs) a = or_none (t x) (list_any t xs) (ap t a.0.1 ∙ away a.0.0) (takes_none t plan c away xs a.1)

pub releases_none : (t : Step → Bool) (i : ℕ) → ((j : ℕ) → t (Release i j) ≡ false) → (xs : Run) → AreReleases i xs → HasNot xs t
releases_none t i away [] a = refl
releases_none t i away (x ∷ xs) a = or_none (t x) (list_any t xs) (ap t a.0.1 ∙ away a.0.0) (releases_none t i away xs a.1)
