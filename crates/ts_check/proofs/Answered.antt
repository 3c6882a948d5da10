-- The least number that a search by the answers of a closure finds.
use Rattle.std.proofs.Common.{◌≡◌, ◌↔◌, ℕ, zero, suc, ◌+◌, ◌<◌, ◌≤◌, Bool, true, false, List, [], ◌∷◌, IsTrue, Option, Some, None, slice_get, Bor, refl, sym, ap₂, ◌∙◌, subst, inl, inr, arith}
use Rattle.std.proofs.lemmas.Bool.{cases_eq, false≢true}
use Rattle.std.specs.List.{AllZip, range_with_len}
use Rattle.rayon.specs.Lists.{filter_by_mask}
use Rattle.rayon.specs.Numbers.{nat_range}
use Rattle.ts_need.specs.Needs.{IsFirst}
use Rattle.ts_check.specs.Answered.{Answers, IsFirstAnswer}

module _ (post : Bor ℕ → Bool → Type 0) where
  -- the first of n numbers from a on at which the answer was true
  abbrev IsFirstFrom : ℕ → ℕ → Option ℕ → Type 0
  IsFirstFrom a n None = (i : ℕ) → a ≤ i → i < a + n → Answers post i false
  IsFirstFrom a n (Some k) = (a ≤ k) × (k < a + n) × Answers post k true × ((i : ℕ) → a ≤ i → i < k → Answers post i false)

  first_from : (a n : ℕ) (bs : List Bool) → AllZip (Answers post) (range_with_len a n) bs → IsFirstFrom a n (slice_get (filter_by_mask (range_with_len a n) bs) 0)
  first_from a zero bs h = λ i low high. absurd (omega arith)
  first_from a (suc n) [] h = absurd h
  first_from a (suc n) (true ∷ bs) h = (omega arith, omega arith, h.0, λ i low high. absurd (omega arith))
  first_from a (suc n) (false ∷ bs) h = later (slice_get (filter_by_mask (range_with_len (a + 1) n) bs) 0) (first_from (a + 1) n bs h.1)
    where
      here : (i : ℕ) → i ≡ a → Answers post i false
      here i same = subst (λ z. Answers post z false) (sym same) h.0

      later : (o : Option ℕ) → IsFirstFrom (a + 1) n o → IsFirstFrom a (suc n) o
      later None f = λ i low high. elim (cases_eq i a) [ inl same ↦ here i same | inr differ ↦ f i (omega arith) (omega arith) ]
      later (Some k) f = (
        let low = f.0 in omega arith,
        let high = f.1 in omega arith,
        f.2,
        λ i low high. elim (cases_eq i a) [ inl same ↦ here i same | inr differ ↦ f.3 i (omega arith) high ],
      )

  pub first_answer : (n start end : ℕ) (xs : List ℕ) (bs : List Bool) (o : Option ℕ) → (start ≡ 0) × (end ≡ n) → xs ≡ nat_range start end → AllZip (Answers post) xs bs → o ≡ slice_get (filter_by_mask xs bs) 0
      → IsFirstAnswer post n o
  first_answer n start end xs bs o ends range zip is =
      let whole : xs ≡ range_with_len 0 n = range ∙ ap₂ range_with_len ends.0 (let low = ends.0 in let high = ends.1 in omega arith) in
      let moved : AllZip (Answers post) (range_with_len 0 n) bs = subst (λ z. AllZip (Answers post) z bs) whole zip in
      let at : o ≡ slice_get (filter_by_mask (range_with_len 0 n) bs) 0 = subst (λ z. o ≡ slice_get (filter_by_mask z bs) 0) whole is in
      go o (subst (λ z. IsFirstFrom 0 n z) (sym at) (first_from 0 n bs moved))
    where
      go : (o : Option ℕ) → IsFirstFrom 0 n o → IsFirstAnswer post n o
      go None f = λ i high. f i (omega arith) (omega arith)
      go (Some k) f = (let high = f.1 in omega arith, f.2, λ i high. f.3 i (omega arith) high)

  -- where the closure says what is wrong, the first answer is at the first wrong number
  pub first_wrong : (wrong : ℕ → Type 0) → ((p : Bor ℕ) (b : Bool) → post p b → (IsTrue b ↔ wrong p.now)) → (n : ℕ) → ((k : ℕ) → wrong k → k < n) → (o : Option ℕ) → IsFirstAnswer post n o → IsFirst wrong o
  first_wrong wrong says n within None f = λ k bad.
      let a = f k (within k bad) in absurd (false≢true ((says a.0 false a.2).1 (subst wrong (sym a.1) bad)))
  first_wrong wrong says n within (Some k) f = (
    subst wrong f.1.1 ((says f.1.0 true f.1.2).0 refl),
    λ j less bad. let a = f.2 j less in absurd (false≢true ((says a.0 false a.2).1 (subst wrong (sym a.1) bad))),
  )
