-- Sites in the slots of their commits.
use Rattle.std.proofs.Common.{◌≡◌, ℕ, zero, suc, ◌+◌, List, [], ◌∷◌, map, length, sym, refl, ap, subst, arith}
use Rattle.std.specs.Prelude.{Option, Some, None, slice_get, slice_index_or, option_to_list, Bool, true, false}
use Rattle.std.proofs.lemmas.Bool.{true≢false}
use Rattle.std.proofs.lemmas.Option.{none-some, same_Some}
use Rattle.ts_name.specs.Paths.{Path}
use Rattle.ts_model.specs.Trees.{Listing}
use Rattle.ts_model.specs.declared.plan.Plan.{Plan}
use Rattle.ts_model.specs.declared.step.Work.{Work}
use Rattle.ts_model.specs.declared.step.Work.TheVariants.{Marked}
use Rattle.ts_model.specs.declared.plan.Action.{Action}
use Rattle.ts_model.specs.declared.plan.Kind.{Kind}
use Rattle.ts_model.specs.declared.plan.Kind.TheVariants.{Piece, Commit, Mark}
use Rattle.ts_board.specs.declared.law.Slot.{Slot}
use Rattle.ts_board.specs.declared.law.Slot.TheVariants.{Empty, Place, Committed, Bytes}
use Rattle.ts_board.specs.Terms.{placed, commit_count, sites_in, site_in, IsUntouched, has_site, is_place, IsSited, AreSited, IsToldIn, told_in, work_in}

-- the commits of an action of this kind and of those after it
abbrev commits_from : Kind → List Action → ℕ
commits_from kind actions = elim kind [ Piece e offset size p ↦ commit_count actions | Commit e ↦ commit_count actions + 1 | Mark e ↦ commit_count actions ]

module _ {S : Type 0} where
  -- the slots of an action of this kind and of those after it
  abbrev pub slots_of : Kind → List Action → List S → List (Slot S)
  slots_of kind actions sites = elim kind [
    | Piece e offset size p ↦ Empty ∷ placed actions sites
    | Commit e ↦ elim sites [ [] ↦ Empty ∷ placed actions [] | site ∷ more ↦ Place site ∷ placed actions more ]
    | Mark e ↦ Empty ∷ placed actions sites
  ]

  back_kind : (kind : Kind) (actions : List Action) (xs : List S) → ((ys : List S) → length ys ≡ commit_count actions → sites_in (placed actions ys) ≡ ys)
      → length xs ≡ commits_from kind actions → sites_in (slots_of kind actions xs) ≡ xs
  back_kind (Piece e offset size p) actions xs rest h = rest xs h
  back_kind (Commit e) actions [] rest h = absurd (omega arith)
  back_kind (Commit e) actions (x ∷ xs) rest h = ap (λ (l : List S). x ∷ l) (rest xs (omega arith))
  back_kind (Mark e) actions xs rest h = rest xs h

  -- the sites come back in their order
  pub sites_back : (actions : List Action) (xs : List S) → length xs ≡ commit_count actions → sites_in (placed actions xs) ≡ xs
  sites_back [] [] h = refl
  sites_back [] (x ∷ xs) h = absurd (omega arith)
  sites_back (a ∷ actions) xs h = back_kind a.kind actions xs (λ ys e. sites_back actions ys e) h

  long_kind : (kind : Kind) (actions : List Action) (xs : List S) → ((ys : List S) → length (placed actions ys) ≡ length actions) → length (slots_of kind actions xs) ≡ length actions + 1
  long_kind (Piece e offset size p) actions xs rest = let r = rest xs in omega arith
  long_kind (Commit e) actions [] rest = let r = rest [] in omega arith
  long_kind (Commit e) actions (x ∷ xs) rest = let r = rest xs in omega arith
  long_kind (Mark e) actions xs rest = let r = rest xs in omega arith

  -- a slot for each action
  pub placed_long : (actions : List Action) (xs : List S) → length (placed actions xs) ≡ length actions
  placed_long [] xs = refl
  placed_long (a ∷ actions) xs = let r = long_kind a.kind actions xs (λ ys. placed_long actions ys) in omega arith

  cons_untouched : (slot : Slot S) (slots : List (Slot S)) → IsUntouched slot → ((i : ℕ) → IsUntouched (slice_index_or slots i Empty)) → (i : ℕ) → IsUntouched (slice_index_or (slot ∷ slots) i Empty)
  cons_untouched slot slots u rest zero = u
  cons_untouched slot slots u rest (suc i) = rest i

  untouched_kind : (kind : Kind) (actions : List Action) (xs : List S) → ((ys : List S) (i : ℕ) → IsUntouched (slice_index_or (placed actions ys) i Empty)) → (i : ℕ) → IsUntouched (slice_index_or (slots_of kind actions xs) i Empty)
  untouched_kind (Piece e offset size p) actions xs rest = cons_untouched Empty (placed actions xs) tt (rest xs)
  untouched_kind (Commit e) actions [] rest = cons_untouched Empty (placed actions []) tt (rest [])
  untouched_kind (Commit e) actions (x ∷ xs) rest = cons_untouched (Place x) (placed actions xs) tt (rest xs)
  untouched_kind (Mark e) actions xs rest = cons_untouched Empty (placed actions xs) tt (rest xs)

  -- no site has committed yet
  pub placed_untouched : (actions : List Action) (xs : List S) (i : ℕ) → IsUntouched (slice_index_or (placed actions xs) i Empty)
  placed_untouched [] xs i = tt
  placed_untouched (a ∷ actions) xs i = untouched_kind a.kind actions xs (λ ys. placed_untouched actions ys) i

  -- the slot of an action takes the next site
  pub placed_next : (a : Action) (e : ℕ) (more : List Action) (xs : List S) (x : S) (rest : List S) → a.kind ≡ Commit e → xs ≡ x ∷ rest → placed (a ∷ more) xs ≡ Place x ∷ placed more rest
  placed_next a e more xs x rest k s = (λ i. slots_of (k i) more (s i))

  pub placed_none : (a : Action) (e : ℕ) (more : List Action) (xs : List S) → a.kind ≡ Commit e → xs ≡ [] → placed (a ∷ more) xs ≡ Empty ∷ placed more []
  placed_none a e more xs k s = (λ i. slots_of (k i) more (s i))

  some_sites : (slot : Slot S) (slots : List (Slot S)) → length (sites_in (slot ∷ slots)) ≡ length (option_to_list (site_in slot)) + length (sites_in slots)
  some_sites Empty slots = omega arith
  some_sites (Place site) slots = omega arith
  some_sites (Committed site staged) slots = omega arith
  some_sites (Bytes bytes) slots = omega arith

-- ---- which slots have a site

abbrev is_commit : Kind → Bool
is_commit (Commit e) = true
is_commit _ = false

abbrev is_piece : Kind → Bool
is_piece (Piece e offset size p) = true
is_piece _ = false

abbrev is_some_site : {A : Type 0} → Option A → Bool
is_some_site None = false
is_some_site (Some x) = true

abbrev is_marked : Work → Bool
is_marked Marked = true
is_marked _ = false

-- by the kind of the slot's action
abbrev Sited : {S : Type 0} → Kind → Slot S → Type 0
Sited kind slot = ((e : ℕ) → kind ≡ Commit e → is_place slot ≡ true) × ((e offset size : ℕ) (p : Path) → kind ≡ Piece e offset size p → has_site slot ≡ false)

module _ {S : Type 0} where
  sited_first : (kind : Kind) (actions : List Action) (xs : List S) → length xs ≡ commits_from kind actions → Sited kind (slice_index_or (slots_of kind actions xs) 0 Empty)
  sited_first (Piece e offset size p) actions xs h = (λ d same. absurd (true≢false (sym (ap is_commit same))), λ d o z q same. refl)
  sited_first (Commit e) actions [] h = absurd (omega arith)
  sited_first (Commit e) actions (x ∷ xs) h = (λ d same. refl, λ d o z q same. absurd (true≢false (sym (ap is_piece same))))
  sited_first (Mark e) actions xs h = (λ d same. absurd (true≢false (sym (ap is_commit same))), λ d o z q same. absurd (true≢false (sym (ap is_piece same))))

  sited_later : (kind : Kind) (actions : List Action) (xs : List S) (i : ℕ) (P : Slot S → Type 0) → length xs ≡ commits_from kind actions
      → ((ys : List S) → length ys ≡ commit_count actions → P (slice_index_or (placed actions ys) i Empty)) → P (slice_index_or (slots_of kind actions xs) (suc i) Empty)
  sited_later (Piece e offset size p) actions xs i P h rest = rest xs h
  sited_later (Commit e) actions [] i P h rest = absurd (omega arith)
  sited_later (Commit e) actions (x ∷ xs) i P h rest = rest xs (omega arith)
  sited_later (Mark e) actions xs i P h rest = rest xs h

  sited_at : (actions : List Action) (xs : List S) (i : ℕ) (action : Action) → slice_get actions i ≡ Some action → length xs ≡ commit_count actions → Sited action.kind (slice_index_or (placed actions xs) i Empty)
  sited_at [] xs i action is h = absurd (none-some action is)
  sited_at (a ∷ actions) xs zero action is h = subst (λ (k : Action). Sited k.kind (slice_index_or (placed (a ∷ actions) xs) 0 Empty)) (same_Some a action is) (sited_first a.kind actions xs h)
  sited_at (a ∷ actions) xs (suc i) action is h = sited_later a.kind actions xs i (Sited action.kind) h (λ ys e. sited_at actions ys i action is e)

  pub placed_sited : (plan : Plan) (xs : List S) → length xs ≡ commit_count plan.actions → AreSited plan (placed plan.actions xs)
  placed_sited plan xs h i = (λ e k. (sited_at plan.actions xs i k.0 k.1 h).0 e k.2, λ e o z p k. (sited_at plan.actions xs i k.0 k.1 h).1 e o z p k.2)

  -- a slot with which nothing was done has a site where it had one at the start
  same_site : (content : S → Option (Listing (List ℕ))) (opening y : Slot S) → work_in y ≡ Marked → IsToldIn content (told_in content opening) y → (is_place opening ≡ true → is_place y ≡ true) × (has_site opening ≡ false → has_site y ≡ false)
  same_site content opening Empty w t = (λ place. absurd (no_site opening place t), λ _. refl)
    where
      no_site : (o : Slot S) → is_place o ≡ true → told_in content o ≡ None → ⊥
      no_site Empty place e = true≢false (sym place)
      no_site (Place site) place e = true≢false (ap is_some_site e)
      no_site (Committed site staged) place e = true≢false (sym place)
      no_site (Bytes bytes) place e = true≢false (sym place)
  same_site content opening (Place site) w t = (λ _. refl, λ none. absurd (some_site opening none t))
    where
      some_site : (o : Slot S) → has_site o ≡ false → told_in content o ≡ Some (content site) → ⊥
      some_site Empty none e = true≢false (sym (ap is_some_site e))
      some_site (Place other) none e = true≢false none
      some_site (Committed other staged) none e = true≢false none
      some_site (Bytes bytes) none e = true≢false (sym (ap is_some_site e))
  same_site content opening (Committed site staged) w t = absurd (true≢false (sym (ap is_marked w)))
  same_site content opening (Bytes bytes) w t = absurd (true≢false (sym (ap is_marked w)))

  told_at : (content : S → Option (Listing (List ℕ))) (xs : List (Slot S)) (i : ℕ) → slice_index_or (map (told_in content) xs) i None ≡ told_in content (slice_index_or xs i Empty)
  told_at content [] i = refl
  told_at content (x ∷ xs) zero = refl
  told_at content (x ∷ xs) (suc i) = told_at content xs i

  pub sited_still : (content : S → Option (Listing (List ℕ))) (plan : Plan) (xs : List (Slot S)) (i : ℕ) (y : Slot S) → AreSited plan xs → work_in y ≡ Marked → IsToldIn content (slice_index_or (map (told_in content) xs) i None) y → IsSited plan i y
  sited_still content plan xs i y sited w t =
      let same = same_site content (slice_index_or xs i Empty) y w (subst (λ (o : Option (Option (Listing (List ℕ)))). IsToldIn content o y) (told_at content xs i) t) in
      (λ e k. same.0 ((sited i).0 e k), λ e o z p k. same.1 ((sited i).1 e o z p k))

  front_or : Slot S → List (ℕ × Slot S) → Slot S
  front_or d [] = d
  front_or d (x ∷ xs) = x.1

  pub same_front : (i : ℕ) (a b : Slot S) (xs ys : List (ℕ × Slot S)) → (i, a) ∷ xs ≡ (i, b) ∷ ys → a ≡ b
  unfolding front_or
  same_front i a b xs ys e = ap (front_or a) e
