-- Takes and releases, one for each number of a list.
use Rattle.std.proofs.Common.{◌≡◌, ◌⊎◌, ℕ, zero, suc, ◌+◌, ◌<◌, Bool, true, false, ◌&&◌, eqb, List, [], ◌∷◌, ◌++◌, map, take, length, get_or, sym, refl, ap, ◌∙◌, subst, inl, inr, arith, eq-eqb, ne_eqb}
use Rattle.std.specs.Prelude.{Contains, AllPairs, slice_index_or}
use Rattle.std.specs.List.{list_any}
use Rattle.std.proofs.lemmas.Bool.{and_from}
use Rattle.std.proofs.lemmas.List.{map-append, take_more}
use Rattle.ts_name.specs.Paths.{Path, IsBefore}
use Rattle.ts_model.specs.Plans.{AscendBelow}
use Rattle.ts_model.specs.Runs.{Run, Has, HasNot, IsPending, IsPieceOf, acts, claims, fails, takes, releases}
use Rattle.ts_model.specs.declared.plan.Kind.{Kind}
use Rattle.ts_model.specs.declared.plan.Kind.TheVariants.{Piece}
use Rattle.ts_model.specs.declared.plan.Plan.{Plan}
use Rattle.ts_model.specs.declared.step.Step.{Step}
use Rattle.ts_model.specs.declared.step.Step.TheVariants.{Take, Release}
use Rattle.ts_laws.proofs.Lists.{Among, Among-from_Contains}
use Rattle.ts_name.proofs.Order.{before_itself}
use Rattle.ts_laws.proofs.Steps.{same_kind}
use Rattle.ts_check.specs.Pieces.{IsEarlierPiece}
use Rattle.ts_exec.specs.Tidy.{AreTakes, AreReleases}
use Rattle.ts_exec.proofs.Steps.{or_none, or_left, or_right}
use Rattle.std.proofs.lemmas.Option.{slice_get_within}
use Rattle.ts_laws.proofs.Cuts.{any_in_longer, none_in_both}

abbrev pub takes_for : ℕ → List ℕ → Run
takes_for c ks = map (λ k. Take c k) ks

abbrev pub releases_for : ℕ → List ℕ → Run
releases_for i js = map (λ j. Release i j) js

-- ---- which numbers stand where

pub among_take : (n : ℕ) (xs : List ℕ) (k : ℕ) → Among k (take n xs) → (m : ℕ) × (m < n) × (m < length xs) × ((d : ℕ) → slice_index_or xs m d ≡ k)
among_take zero xs k h = absurd h
among_take (suc n) [] k h = absurd h
among_take (suc n) (x ∷ xs) k (inl e) = (0, omega arith, omega arith, λ d. e)
among_take (suc n) (x ∷ xs) k (inr h) = let r = among_take n xs k h in let a = r.1 in let b = r.2 in (suc r.0, omega arith, omega arith, λ d. r.3 d)

pub among_of_take : (n : ℕ) (xs : List ℕ) (k : ℕ) → Among k (take n xs) → Among k xs
among_of_take zero xs k h = absurd h
among_of_take (suc n) [] k h = absurd h
among_of_take (suc n) (x ∷ xs) k (inl e) = inl e
among_of_take (suc n) (x ∷ xs) k (inr h) = inr (among_of_take n xs k h)

ascend_step : (n i : ℕ) (x : ℕ) (xs : List ℕ) (d : ℕ) → AscendBelow n (x ∷ xs) → i < length xs → x < get_or xs i d
ascend_step n zero x [] d a h = absurd (omega arith)
ascend_step n (suc i) x [] d a h = absurd (omega arith)
ascend_step n zero x (y ∷ ys) d a h = a.0
ascend_step n (suc i) x (y ∷ ys) d a h = let p = ascend_step n i y ys d a.1 (omega arith) in let q = a.0 in omega arith

ascend_tail : (n : ℕ) (x : ℕ) (xs : List ℕ) → AscendBelow n (x ∷ xs) → AscendBelow n xs
ascend_tail n x [] a = tt
ascend_tail n x (y ∷ ys) a = a.1

pub ascend_pairs : (n : ℕ) (xs : List ℕ) → AscendBelow n xs → (i j d : ℕ) → i < j → j < length xs → get_or xs i d < get_or xs j d
ascend_pairs n [] a i j d l h = absurd (omega arith)
ascend_pairs n (x ∷ xs) a i zero d l h = absurd (omega arith)
ascend_pairs n (x ∷ xs) a zero (suc j) d l h = ascend_step n j x xs d a (omega arith)
ascend_pairs n (x ∷ xs) a (suc i) (suc j) d l h = ascend_pairs n xs (ascend_tail n x xs a) i j d (omega arith) (omega arith)

pub ascend_within : (n : ℕ) (xs : List ℕ) → AscendBelow n xs → (i d : ℕ) → i < length xs → get_or xs i d < n
ascend_within n [] a i d h = absurd (omega arith)
ascend_within n (x ∷ []) a zero d h = a
ascend_within n (x ∷ []) a (suc i) d h = absurd (omega arith)
ascend_within n (x ∷ y ∷ ys) a zero d h = let p = ascend_within n (y ∷ ys) a.1 0 d (omega arith) in let q = a.0 in omega arith
ascend_within n (x ∷ y ∷ ys) a (suc i) d h = ascend_within n (y ∷ ys) a.1 i d (omega arith)

-- ---- maps of steps

pub map_none : (t : Step → Bool) (f : ℕ → Step) (ks : List ℕ) → ((k : ℕ) → Among k ks → t (f k) ≡ false) → HasNot (map f ks) t
map_none t f [] away = refl
map_none t f (k ∷ ks) away = or_none (t (f k)) (list_any t (map f ks)) (away k (inl refl)) (map_none t f ks (λ j h. away j (inr h)))

pub map_some : (t : Step → Bool) (f : ℕ → Step) (k : ℕ) (ks : List ℕ) → Among k ks → t (f k) ≡ true → Has (map f ks) t
map_some t f k [] h e = absurd h
map_some t f k (j ∷ ks) (inl e') e = or_left (t (f j)) (list_any t (map f ks)) (ap (λ (z : ℕ). t (f z)) e' ∙ e)
map_some t f k (j ∷ ks) (inr h) e = or_right (t (f j)) (list_any t (map f ks)) (map_some t f k ks h e)

-- ---- takes

pub are_takes : (plan : Plan) (c : ℕ) (ks : List ℕ) → ((k : ℕ) → Among k ks → IsPieceOf plan c k) → AreTakes plan c (takes_for c ks)
are_takes plan c [] h = tt
are_takes plan c (k ∷ ks) h = ((k, refl, h k (inl refl)), are_takes plan c ks (λ j g. h j (inr g)))

not_earlier : (plan : Plan) (k : ℕ) → ¬ IsEarlierPiece plan k k
not_earlier plan k e = go (same_kind plan k (Piece e.one.0 e.one.1 e.one.2 e.one.3) (Piece e.other.0 e.other.1 e.other.2 e.other.3) e.one.4 e.other.4) e.earlier
  where
    path_in : Kind → Path
    path_in (Piece e o s p) = p
    path_in _ = []

    offset_in : Kind → ℕ
    offset_in (Piece e o s p) = o
    offset_in _ = 0

    go : Piece e.one.0 e.one.1 e.one.2 e.one.3 ≡ Piece e.other.0 e.other.1 e.other.2 e.other.3 → IsBefore e.one.3 e.other.3 ⊎ ((e.one.3 ≡ e.other.3) × (e.one.1 < e.other.1)) → ⊥
    go s (inl b) = (let p : e.one.3 ≡ e.other.3 = ap path_in s in before_itself e.one.3 (subst (λ (z : Path). IsBefore e.one.3 z) (sym p) b))
    go s (inr b) = (let o : e.one.1 ≡ e.other.1 = ap offset_in s in let l = b.1 in absurd (omega arith))

-- a piece isn't among those before it
pub not_taken_yet : (plan : Plan) (c n d : ℕ) (ks : List ℕ) → AllPairs (IsEarlierPiece plan) ks → n < length ks → HasNot (takes_for c (take n ks)) (takes (get_or ks n d))
not_taken_yet plan c n d ks order h = map_none (takes (get_or ks n d)) (λ k. Take c k) (take n ks) (λ k g.
    let at = among_take n ks k g in
    ne_eqb (get_or ks n d) k (λ e.
    let l = at.1 in
    not_earlier plan k (subst (λ (z : ℕ). IsEarlierPiece plan k z) e (subst (λ (z : ℕ). IsEarlierPiece plan z (get_or ks n d)) (at.3 d) (order at.0 n d (omega arith) h)))))

pub not_released_yet : (b i n d : ℕ) (js : List ℕ) → AscendBelow b js → n < length js → HasNot (releases_for i (take n js)) (releases i (get_or js n d))
not_released_yet b i n d js a h = map_none (releases i (get_or js n d)) (λ j. Release i j) (take n js) (λ k g.
    let at = among_take n js k g in
    let l = at.1 in
    let less : get_or js at.0 d < get_or js n d = ascend_pairs b js a at.0 n d (omega arith) h in
    let same : get_or js at.0 d ≡ k = at.3 d in
    and_no (eqb i i) (eqb (get_or js n d) k) (ne_eqb (get_or js n d) k (λ e. absurd (omega arith))))
  where
    and_no : (x y : Bool) → y ≡ false → (x && y) ≡ false
    and_no true y e = e
    and_no false y e = refl

pub are_releases : (i : ℕ) (js : List ℕ) → AreReleases i (releases_for i js)
are_releases i [] = tt
are_releases i (j ∷ js) = ((j, refl), are_releases i js)

pub released_among : (i j : ℕ) (js : List ℕ) → Contains js j → Has (releases_for i js) (releases i j)
released_among i j js h = map_some (releases i j) (λ k. Release i k) j js (Among-from_Contains js j h) (and_from (eqb i i) (eqb j j) (eq-eqb i i refl) (eq-eqb j j refl))

pub taken_among : (c k : ℕ) (ks : List ℕ) → Contains ks k → Has (takes_for c ks) (takes k)
taken_among c k ks h = map_some (takes k) (λ j. Take c j) k ks (Among-from_Contains ks k h) (eq-eqb k k refl)

-- one more
pub takes_more : (c n d : ℕ) (ks : List ℕ) → n < length ks → takes_for c (take (n + 1) ks) ≡ takes_for c (take n ks) ++ Take c (get_or ks n d) ∷ []
takes_more c n d ks h = ap (takes_for c) (take_more ks n d h) ∙ map-append (λ k. Take c k) (take n ks) (get_or ks n d ∷ [])

-- ---- what stands at a place

pub contains_at : (xs : List ℕ) (n d : ℕ) → n < length xs → Contains xs (get_or xs n d)
contains_at [] n d h = absurd (omega arith)
contains_at (x ∷ xs) zero d h = (0, omega arith, refl)
contains_at (x ∷ xs) (suc n) d h = let r = contains_at xs n d (omega arith) in let l = r.1 in (suc r.0, omega arith, r.2)

-- a piece's number is less than how many actions there are
pub piece_within : (plan : Plan) (c k : ℕ) → IsPieceOf plan c k → k < length plan.actions
piece_within plan c k is = slice_get_within plan.actions k is.piece.0 is.piece.1

-- takes leave an action pending
pub taking_pending : (own : Run) (c : ℕ) (ks : List ℕ) → IsPending own c → IsPending (own ++ takes_for c ks) c
taking_pending own c ks p = (
  any_in_longer (claims c) own (takes_for c ks) p.0,
  none_in_both (acts c) own (takes_for c ks) p.1 (map_none (acts c) (λ k. Take c k) ks (λ k g. refl)),
  none_in_both (fails c) own (takes_for c ks) p.2 (map_none (fails c) (λ k. Take c k) ks (λ k g. refl)),
)
