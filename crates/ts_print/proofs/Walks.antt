-- What a walk over an archive and two replicas has left after a path, and what a step of it tells.
use Rattle.std.proofs.Common.{◌≡◌, ◌≢◌, ◌⊎◌, ℕ, zero, suc, ◌<◌, List, [], ◌∷◌, length, get_or, Contains, refl, sym, ap, subst, ◌∙◌, inl, inr, arith}
use Rattle.ts_name.specs.Paths.{Path, IsAbove, IsBefore}
use Rattle.ts_name.proofs.Order.{before_cases, before_trans, decide_before}
use Rattle.ts_print.proofs.Order.{above_between, above_upto}
use Rattle.ts_model.specs.Trees.{Listing, listed, at, IsListing}
use Rattle.ts_model.specs.declared.row.Content.{Content}
use Rattle.ts_model.specs.declared.row.Content.TheVariants.{Absent}
use Rattle.ts_model.specs.declared.row.Stamp.{Stamp}
use Rattle.ts_print.specs.Walks.{AreMet, AscendFrom, Gives, HasNoneFrom, IsLeft, IsMet, IsPresent, IsRest, IsThere, IsWalkStep, Left, Met}
use Rattle.ts_print.proofs.Rows.{rest_all, rest_step, rest_between, rest_here, rest_forward}

-- what a list contains is its first element, or in the rest
contains_cases : {X : Type 0} (x y : X) (xs : List X) → Contains (x ∷ xs) y → (x ≡ y) ⊎ Contains xs y
contains_cases {X} x y xs has = go has.0 has.1 has.2
  where
    go : (k : ℕ) → k < length (x ∷ xs) → get_or (x ∷ xs) k y ≡ y → (x ≡ y) ⊎ Contains xs y
    go zero l e = inl e
    go (suc k) l e = inr (k, omega arith, e)

contains_later : {X : Type 0} (x y : X) (xs : List X) → Contains xs y → Contains (x ∷ xs) y
contains_later x y xs has = (suc has.0, omega (arith, has.1), has.2)

module _ (A F S : Listing Stamp) where
  -- where nothing stands, nothing is present
  pub nowhere_not_present : (q : Path) → IsThere A F S q Absent Absent Absent → (at F q ≢ Absent) ⊎ ((at S q ≢ Absent) ⊎ (at A q ≢ Absent)) → ⊥
  nowhere_not_present q none (inl n) = n none.first
  nowhere_not_present q none (inr (inl n)) = n none.second
  nowhere_not_present q none (inr (inr n)) = n none.archive

  -- at first everything is left
  pub left_all : IsListing A → IsListing F → IsListing S → IsLeft A F S [] (record { archive = A; first = F; second = S })
  left_all lists_a lists_f lists_s = record { archive = rest_all A lists_a; first = rest_all F lists_f; second = rest_all S lists_s }

  -- after the last path there is nothing
  pub left_none : (b : Path) (left : Left) → IsLeft A F S b left → (left.archive ≡ []) × (left.first ≡ []) × (left.second ≡ []) → (q : Path) → IsBefore b q → IsThere A F S q Absent Absent Absent
  left_none b left is ended q later = record {
    archive = sym (is.archive.later q later) ∙ ap (λ (rows : Listing Stamp). listed rows q) ended.0;
    first = sym (is.first.later q later) ∙ ap (λ (rows : Listing Stamp). listed rows q) ended.1;
    second = sym (is.second.later q later) ∙ ap (λ (rows : Listing Stamp). listed rows q) ended.2;
  }

  -- ---- a step

  module _ (b p : Path) (archive first second : Content Stamp) (old new : Left) (is : IsLeft A F S b old) (step : IsWalkStep p archive first second old new) where
    -- it goes forward
    pub step_forward : IsBefore b p
    step_forward = elim step.some [
      | inl there ↦ rest_forward b p archive A old.archive new.archive is.archive step.in_archive there
      | inr more ↦ elim more [
        | inl there ↦ rest_forward b p first F old.first new.first is.first step.in_first there
        | inr there ↦ rest_forward b p second S old.second new.second is.second step.in_second there
      ]
    ]

    -- to what is left
    pub step_left : IsLeft A F S p new
    step_left = record {
      archive = rest_step b p archive A old.archive new.archive is.archive step.in_archive step_forward;
      first = rest_step b p first F old.first new.first is.first step.in_first step_forward;
      second = rest_step b p second S old.second new.second is.second step.in_second step_forward;
    }

    -- and tells what stands at p
    pub step_there : IsThere A F S p archive first second
    step_there = record {
      archive = rest_here b p archive A old.archive new.archive is.archive step.in_archive step_forward;
      first = rest_here b p first F old.first new.first is.first step.in_first step_forward;
      second = rest_here b p second S old.second new.second is.second step.in_second step_forward;
    }

    -- between the two there is nothing
    pub step_between : (q : Path) → IsBefore b q → IsBefore q p → IsThere A F S q Absent Absent Absent
    step_between q after before = record {
      archive = rest_between b p q archive A old.archive new.archive is.archive step.in_archive after before;
      first = rest_between b p q first F old.first new.first is.first step.in_first after before;
      second = rest_between b p q second S old.second new.second is.second step.in_second after before;
    }

  something : (p : Path) → IsThere A F S p Absent Absent Absent → IsPresent A F S p → ⊥
  something p none (inl n) = n none.archive
  something p none (inr (inl n)) = n none.first
  something p none (inr (inr n)) = n none.second

  -- where the least path that is left isn't below the top, nothing below the top is left
  pub none_later : (b top : Path) (left : Left) → IsLeft A F S b left → HasNoneFrom top left → IsAbove top b → (q : Path) → IsAbove top q → IsPresent A F S q → ¬ IsBefore b q
  none_later b top left is (inl ended) above q under there later = something q (left_none b left is ended q later) there
  none_later b top left is (inr found) above q under there later = found.2 (above_between top found.0 q under not_before_top not_before_least)
    where
      after : (rows whole : Listing Stamp) → IsRest b whole rows → listed rows found.0 ≢ Absent → IsBefore b found.0
      after rows whole rest some = elim (decide_before b found.0) [ yes less ↦ less | no n ↦ absurd (some (rest.gone found.0 n)) ]

      least_after : IsBefore b found.0
      least_after = elim found.1.some [
        | inl some ↦ after left.archive A is.archive some
        | inr more ↦ elim more [ inl some ↦ after left.first F is.first some | inr some ↦ after left.second S is.second some ]
      ]

      not_before_top : ¬ IsBefore found.0 top
      not_before_top less = above_upto top b above (before_trans b found.0 top least_after less)

      not_before_least : ¬ IsBefore q found.0
      not_before_least less = something q (record {
        archive = sym (is.archive.later q later) ∙ found.1.in_archive q less;
        first = sym (is.first.later q later) ∙ found.1.in_first q less;
        second = sym (is.second.later q later) ∙ found.1.in_second q less;
      }) there

  -- ---- all that a walk gives

  -- what is left ascends from b
  gives_ascend : (b : Path) (left : Left) (items : List Met) → IsLeft A F S b left → Gives left items → AscendFrom b items
  gives_ascend b left [] is gives = tt
  gives_ascend b left (m ∷ items) is gives =
      let step = gives.1 in (
        step_forward b m.path m.archive m.first m.second left gives.0 is step,
        gives_ascend m.path gives.0 items (step_left b m.path m.archive m.first m.second left gives.0 is step) gives.2,
      )

  -- each item is there
  gives_each : (b : Path) (left : Left) (items : List Met) → IsLeft A F S b left → Gives left items → (m : Met) → Contains items m → IsMet A F S m
  gives_each b left [] is gives m has = absurd (omega (arith, has.1))
  gives_each b left (first ∷ items) is gives m has = elim (contains_cases first m items has) [
    | inl e ↦ subst (λ (x : Met). IsMet A F S x) e here
    | inr later ↦ gives_each first.path gives.0 items (step_left b first.path first.archive first.first first.second left gives.0 is gives.1) gives.2 m later
  ]
    where
      here : IsMet A F S first
      here = let there = step_there b first.path first.archive first.first first.second left gives.0 is gives.1 in
          record { in_archive = there.archive; in_first = there.first; in_second = there.second; some = gives.1.some }

  -- and so is whatever comes after b
  gives_all : (b : Path) (left : Left) (items : List Met) → IsLeft A F S b left → Gives left items → (p : Path) → IsBefore b p
      → IsPresent A F S p → (m : Met) × Contains items m × (m.path ≡ p)
  gives_all b left [] is gives p later some = absurd (let none = left_none b left is gives p later in something p none some)
  gives_all b left (first ∷ items) is gives p later some = elim (before_cases p first.path) [
    | inl before ↦ absurd (something p (step_between b first.path first.archive first.first first.second left gives.0 is gives.1 p later before) some)
    | inr more ↦ elim more [
      | inl e ↦ (first, (0, omega arith, refl), sym e)
      | inr after ↦
          let found = gives_all first.path gives.0 items (step_left b first.path first.archive first.first first.second left gives.0 is gives.1) gives.2 p after some in
          (found.0, contains_later first found.0 items found.1, found.2)
    ]
  ]

  -- so a walk over the whole gives just what is there
  pub gives_met : IsListing A → IsListing F → IsListing S → (items : List Met) → Gives (record { archive = A; first = F; second = S }) items → AreMet A F S items
  gives_met lists_a lists_f lists_s items gives = record {
    ascending = gives_ascend [] _ items begin gives;
    each = gives_each [] _ items begin gives;
    all = λ p n some. gives_all [] _ items begin gives p (after_root p n) some;
  }
    where
      begin : IsLeft A F S [] (record { archive = A; first = F; second = S })
      begin = left_all lists_a lists_f lists_s

      after_root : (p : Path) → p ≢ [] → IsBefore [] p
      after_root [] n = absurd (n refl)
      after_root (x ∷ p) n = refl

-- the same as code has it
pub gives_met_of : (archive first second A F S : Listing Stamp) → archive ≡ A → first ≡ F → second ≡ S → IsListing A → IsListing F → IsListing S
    → (items : List Met) → Gives (record { archive = archive; first = first; second = second }) items → AreMet A F S items
gives_met_of archive first second A F S e_a e_f e_s lists_a lists_f lists_s items gives =
    gives_met A F S lists_a lists_f lists_s items (subst (λ (left : Left). Gives left items) (λ i. record { archive = e_a i; first = e_f i; second = e_s i }) gives)
