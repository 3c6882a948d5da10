-- The pieces of each entry, by path and offset.
use Rattle.std.proofs.Common.{◌≡◌, ◌⊎◌, ◌↔◌, ℕ, ◌<◌, List, [], ◌∷◌, length, get_or, Contains, Option, Some, None, MatchOption, Result, Ok, Err, IfOk, slice_get, Ordering, Less, Equal, Greater, sym, refl, ap, ◌∙◌, subst, inl, inr, arith}
use Rattle.std.specs.Ordering.{nat_cmp, ordering_then}
use Rattle.std.specs.Map.{keys_of}
use Rattle.std.specs.List.{All, AllPairs, AllByRecursion}
use Rattle.std.specs.List.Sorted.{IsStrictlySortedBy}
use Rattle.std.proofs.lemmas.Bool.{cases_eq, cases_order, eq-eqb, ne_eqb, le-ltb}
use Rattle.std.proofs.lemmas.List.{length-map}
use Rattle.std.proofs.lemmas.List.Elements.{All-cons, All-head, All-tail, All-contains}
use Rattle.std.proofs.lemmas.List.Kept.{AllPairs-cons}
use Rattle.std.proofs.lemmas.Map.Views.{Contains-from_lookup}
use Rattle.std.proofs.lemmas.Option.{none-some, same_Some, slice_get_within}
use Rattle.ts_name.specs.Paths.{Path, IsBefore}
use Rattle.ts_model.specs.Trees.{Listing, IsListing}
use Rattle.ts_model.specs.Plans.{KindIs}
use Rattle.ts_model.specs.Runs.{IsPieceOf}
use Rattle.ts_model.specs.declared.row.Row.{Row}
use Rattle.ts_model.specs.declared.row.Stamp.{Stamp}
use Rattle.ts_model.specs.declared.plan.Entry.{Entry}
use Rattle.ts_model.specs.declared.plan.Kind.TheVariants.{Piece, Commit}
use Rattle.ts_model.specs.declared.plan.Plan.{Plan}
use Rattle.ts_check.proofs.Scans.{same_kind}
use Rattle.ts_check.proofs.Rowed.{rows_order}
use Rattle.ts_check.proofs.Staging.{one_source, source_lists, same_piece}
use Rattle.ts_check.proofs.InOrder.{place_eq}
use Rattle.ts_check.proofs.Succeeding.{contains_cons, contains_tail, contains_none, at_key-yes, at_key-no}
use Rattle.ts_check.specs.Lists.{at_key, AreKeysBelow}
use Rattle.ts_check.specs.Pieces.{IsSourceOf, IsRowOf, IsStagedMap, AreInOrder, Place, place_cmp, staged_at, by_entry, IsPieceFor, IsEarlierPiece, ArePieces, AreAllPieces}
use Rattle.ts_name.proofs.Basics.{element_at}
use Rattle.ts_name.specs.Laws.{is_eq_Equal}

-- ---- places in order

nat_tied : (a : ℕ) → nat_cmp a a ≡ Equal
nat_tied a = rw (le-ltb a a (omega arith), eq-eqb a a refl) refl

nat_more : (a b : ℕ) → b < a → nat_cmp a b ≡ Greater
nat_more a b less = rw (le-ltb a b (omega arith), ne_eqb a b (λ e. omega arith)) refl

nat_lesser : (a b : ℕ) → nat_cmp a b ≡ Less → a < b
nat_lesser a b e = elim (cases_order a b) [
  | inl same ↦ (let f : ◌≡◌ {A = Ordering} Equal Less = sym (nat_tied b) ∙ subst (λ (z : ℕ). nat_cmp z b ≡ Less) same e in absurd cc)
  | inr (inl less) ↦ less
  | inr (inr more) ↦ (let f : ◌≡◌ {A = Ordering} Greater Less = sym (nat_more a b more) ∙ e in absurd cc)
]

-- of two places of one entry, the earlier has an earlier row, or the same and a lesser offset
place_less : (x y : Place) → x.0 ≡ y.0 → place_cmp x y ≡ Less → (x.1.0 < y.1.0) ⊎ ((x.1.0 ≡ y.1.0) × (x.1.1 < y.1.1))
place_less x y same e =
    let tied : nat_cmp x.0 y.0 ≡ Equal = ap (λ (z : ℕ). nat_cmp z y.0) same ∙ nat_tied y.0 in
    let rest : ordering_then (nat_cmp x.1.0 y.1.0) (nat_cmp x.1.1 y.1.1) ≡ Less = subst (λ (o : Ordering). ordering_then o (ordering_then (nat_cmp x.1.0 y.1.0) (nat_cmp x.1.1 y.1.1)) ≡ Less) tied e in
    elim (cases_order x.1.0 y.1.0) [
      | inl one ↦ (
          let tied_rows : nat_cmp x.1.0 y.1.0 ≡ Equal = ap (λ (z : ℕ). nat_cmp z y.1.0) one ∙ nat_tied y.1.0 in
          inr (one, nat_lesser x.1.1 y.1.1 (subst (λ (o : Ordering). ordering_then o (nat_cmp x.1.1 y.1.1) ≡ Less) tied_rows rest)))
      | inr (inl less) ↦ inl less
      | inr (inr more) ↦ (let f : ◌≡◌ {A = Ordering} Greater Less = subst (λ (o : Ordering). ordering_then o (nat_cmp x.1.1 y.1.1) ≡ Less) (nat_more x.1.0 y.1.0 more) rest in absurd cc)
    ]

-- ---- what is listed for an entry

listed_from : (e : ℕ) (xs : List (Place × ℕ)) (k : ℕ) → Contains (at_key e (by_entry xs)) k → (x : Place × ℕ) × Contains xs x × (x.0.0 ≡ e) × (x.1 ≡ k)
listed_from e [] k h = absurd (contains_none k h)
listed_from e (x ∷ xs) k h = elim (cases_eq x.0.0 e) [
  | inl same ↦ elim (contains_cons x.1 (at_key e (by_entry xs)) k (subst (λ (z : List ℕ). Contains z k) (at_key-yes e x.0.0 x.1 (by_entry xs) same) h)) [
    | inl here ↦ (x, (0, omega arith, refl), same, here)
    | inr later ↦ (let found = listed_from e xs k later in (found.0, contains_tail x xs found.0 found.1, found.2, found.3))
  ]
  | inr differ ↦ (let found = listed_from e xs k (subst (λ (z : List ℕ). Contains z k) (at_key-no e x.0.0 x.1 (by_entry xs) differ) h) in (found.0, contains_tail x xs found.0 found.1, found.2, found.3))
]

listed_to : (e : ℕ) (xs : List (Place × ℕ)) (y : Place × ℕ) → Contains xs y → y.0.0 ≡ e → Contains (at_key e (by_entry xs)) y.1
listed_to e [] y h is = absurd (contains_none y h)
listed_to e (x ∷ xs) y h is = elim (cases_eq x.0.0 e) [
  | inl same ↦ subst (λ (z : List ℕ). Contains z y.1) (sym (at_key-yes e x.0.0 x.1 (by_entry xs) same)) (elim (contains_cons x xs y h) [
    | inl here ↦ (0, omega arith, ap (λ (z : Place × ℕ). z.1) here)
    | inr later ↦ contains_tail x.1 (at_key e (by_entry xs)) y.1 (listed_to e xs y later is)
  ])
  | inr differ ↦ subst (λ (z : List ℕ). Contains z y.1) (sym (at_key-no e x.0.0 x.1 (by_entry xs) differ)) (elim (contains_cons x xs y h) [
    | inl here ↦ absurd (differ (ap (λ (z : Place × ℕ). z.0.0) here ∙ is))
    | inr later ↦ listed_to e xs y later is
  ])
]

module _ (R : ℕ → ℕ → Type 0) (Known : Place × ℕ → Type 0) (e : ℕ) (relates : (x y : Place × ℕ) → Known x → Known y → x.0.0 ≡ e → y.0.0 ≡ e → place_cmp x.0 y.0 ≡ Less → R x.1 y.1) where
  all_later : (x : Place × ℕ) → Known x → x.0.0 ≡ e → (ys : List (Place × ℕ)) → All Known ys → AllByRecursion (λ y. place_cmp x.0 y ≡ Less) (keys_of ys) → All (R x.1) (at_key e (by_entry ys))
  all_later x known is [] all later = λ k d less. absurd (omega arith)
  all_later x known is (y ∷ ys) all later =
      let rest = all_later x known is ys (All-tail Known y ys all) later.1 in
      elim (cases_eq y.0.0 e) [
        | inl same ↦ subst (λ (z : List ℕ). All (R x.1) z) (sym (at_key-yes e y.0.0 y.1 (by_entry ys) same)) (All-cons (R x.1) y.1 (at_key e (by_entry ys)) (relates x y known (All-head Known y ys all) is same later.0) rest)
        | inr differ ↦ subst (λ (z : List ℕ). All (R x.1) z) (sym (at_key-no e y.0.0 y.1 (by_entry ys) differ)) rest
      ]

  in_order : (xs : List (Place × ℕ)) → All Known xs → IsStrictlySortedBy place_cmp (keys_of xs) → AllPairs R (at_key e (by_entry xs))
  unfolding IsStrictlySortedBy
  in_order [] all sorted = λ i j d less within. absurd (omega arith)
  in_order (x ∷ xs) all sorted =
      let rest = in_order xs (All-tail Known x xs all) sorted.1 in
      elim (cases_eq x.0.0 e) [
        | inl same ↦ subst (λ (z : List ℕ). AllPairs R z) (sym (at_key-yes e x.0.0 x.1 (by_entry xs) same)) (AllPairs-cons R x.1 (at_key e (by_entry xs)) (all_later x (All-head Known x xs all) same xs (All-tail Known x xs all) sorted.0) rest)
        | inr differ ↦ subst (λ (z : List ℕ). AllPairs R z) (sym (at_key-no e x.0.0 x.1 (by_entry xs) differ)) rest
      ]

-- there are as many pairs as places
pub count_pairs : (xs : List (Place × ℕ)) → length (by_entry xs) ≡ length xs
count_pairs xs = length-map xs (λ (x : Place × ℕ). (x.0.0, x.1))

keys_within : (n : ℕ) (xs : List (Place × ℕ)) → All (λ (x : Place × ℕ). x.0.0 < n) xs → AreKeysBelow n (by_entry xs)
keys_within n [] all = λ k d less. absurd (omega arith)
keys_within n (x ∷ xs) all = All-cons (λ (p : ℕ × ℕ). p.0 < n) (x.0.0, x.1) (by_entry xs) (All-head (λ (x : Place × ℕ). x.0.0 < n) x xs all) (keys_within n xs (All-tail (λ (x : Place × ℕ). x.0.0 < n) x xs all))

module _ (xs ys : Listing Stamp) (first : IsListing xs) (second : IsListing ys) (plan : Plan) (map : List (Place × ℕ)) (staged : IsStagedMap xs ys plan (length plan.actions) map) where
  abbrev Found : Place × ℕ → Type 0
  Found x = staged_at map x.0 ≡ Some x.1

  -- what is found at a place is a piece of its entry
  piece_at : (z : Place) (k : ℕ) → staged_at map z ≡ Some k → (len : ℕ) × (p : Path) × KindIs plan k (Piece z.0 z.1.1 len p)
  piece_at z k found = let h = staged.found z k found in (h.1.2.0, h.1.2.1, (h.1.1.0, h.1.1.1, h.1.1.2 ∙ h.1.2.3))

  entry_at : (z : Place) (k : ℕ) → staged_at map z ≡ Some k → z.0 < length plan.entries
  entry_at z k found = let h = staged.found z k found in slice_get_within plan.entries z.0 h.1.2.4.0 h.1.2.4.2.0

  -- each piece is found at a place of its entry
  place_of : (e k : ℕ) → IsPieceFor plan e k → (z : Place) × (staged_at map z ≡ Some k) × (z.0 ≡ e)
  place_of e k piece =
      let at = staged.each k e piece.0 piece.1 piece.2 (slice_get_within plan.actions k piece.3.0 piece.3.1) piece.3 in
      let h = piece_at at.0 k at.1 in
      let kinds : Piece at.0.0 at.0.1.1 h.0 h.1 ≡ Piece e piece.0 piece.1 piece.2 = sym h.2.2 ∙ same_kind plan k h.2.0 (Piece e piece.0 piece.1 piece.2) h.2.1 piece.3 in
      (at.0, at.1, (same_piece at.0.0 at.0.1.1 h.0 e piece.0 piece.1 h.1 piece.2 kinds).0)

  contained : (z : Place) (k : ℕ) → staged_at map z ≡ Some k → Contains map (z, k)
  contained z k found = Contains-from_lookup (λ (x y : Place) e. place_eq x y (is_eq_Equal (place_cmp x y) e)) z k map found

  relates : (x y : Place × ℕ) → Found x → Found y → x.0.0 ≡ y.0.0 → place_cmp x.0 y.0 ≡ Less → IsEarlierPiece plan x.1 y.1
  relates x y found_x found_y one less =
      let h = staged.found x.0 x.1 found_x in
      let g = staged.found y.0 y.1 found_y in
      let rows : h.1.2.2 ≡ g.1.2.2 = one_source xs ys plan y.0.0 h.1.2.2 g.1.2.2 (subst (λ (z : ℕ). IsSourceOf xs ys plan z h.1.2.2) one h.1.2.4) g.1.2.4 in
      let lists = source_lists xs ys plan y.0.0 g.1.2.2 g.1.2.4 first second in
      let row : IsRowOf g.1.2.2 x.0.1.0 h.1.2.1 = subst (λ (z : Listing Stamp). IsRowOf z x.0.1.0 h.1.2.1) rows h.1.2.5 in
      let other : IsRowOf g.1.2.2 y.0.1.0 g.1.2.1 = g.1.2.5 in
      let earlier : IsBefore h.1.2.1 g.1.2.1 ⊎ ((h.1.2.1 ≡ g.1.2.1) × (x.0.1.1 < y.0.1.1)) = elim (place_less x.0 y.0 one less) [
        | inl before ↦ inl (subst (λ (z : Path). IsBefore z g.1.2.1) row.2 (subst (λ (z : Path). IsBefore row.0.path z) other.2 (rows_order g.1.2.2 lists.ascending x.0.1.0 y.0.1.0 row.0 other.0 row.1 other.1 before)))
        | inr same ↦ inr (
          sym row.2 ∙ ap (λ (z : Row Stamp). z.path) (same_Some row.0 other.0 (sym row.1 ∙ ap (slice_get g.1.2.2) same.0 ∙ other.1)) ∙ other.2,
          same.1,
        )
      ] in
      record {
        one = (x.0.0, x.0.1.1, h.1.2.0, h.1.2.1, (h.1.1.0, h.1.1.1, h.1.1.2 ∙ h.1.2.3));
        other = (y.0.0, y.0.1.1, g.1.2.0, g.1.2.1, (g.1.1.0, g.1.1.1, g.1.1.2 ∙ g.1.2.3));
        earlier = earlier;
      }

  module _ (all : All (λ (x : Place × ℕ). staged_at map x.0 ≡ Some x.1) map) where
    pieces_are : AreInOrder map → (e : ℕ) → ArePieces plan e (at_key e (by_entry map))
    pieces_are ordered e = record {
      each = λ k. (
        λ h.
            let x = listed_from e map k h in
            let found = All-contains (λ (x : Place × ℕ). staged_at map x.0 ≡ Some x.1) map x.0 all x.1 in
            let piece = piece_at x.0.0 x.0.1 found in
            subst (λ (z : ℕ). IsPieceFor plan z k) x.2 (subst (λ (z : ℕ). IsPieceFor plan x.0.0.0 z) x.3 (x.0.0.1.1, piece.0, piece.1, piece.2)),
        λ piece. let z = place_of e k piece in listed_to e map (z.0, k) (contained z.0 k z.1) z.2,
      );
      order = in_order (IsEarlierPiece plan) (λ (x : Place × ℕ). staged_at map x.0 ≡ Some x.1) e (λ x y known_x known_y is_x is_y less. relates x y known_x known_y (is_x ∙ sym is_y) less) map all ordered;
    }

    pub keys_at : (entries : List Entry) (pairs : List (ℕ × ℕ)) → entries ≡ plan.entries → pairs ≡ by_entry map → AreKeysBelow (length entries) pairs
    keys_at entries pairs same is =
        subst (λ (z : List Entry). AreKeysBelow (length z) pairs) (sym same) (subst (λ (z : List (ℕ × ℕ)). AreKeysBelow (length plan.entries) z) (sym is)
        (keys_within (length plan.entries) map (λ k d less. entry_at (get_or map k d).0 (get_or map k d).1 (all k d less))))

    pub if_all : {E : Type 0} → AreInOrder map → (entries : List Entry) (pairs : List (ℕ × ℕ)) → entries ≡ plan.entries → pairs ≡ by_entry map → (r : Result (List (List ℕ)) E) → IfOk r (λ lists. length lists ≡ length entries)
        → IfOk r (λ lists. (k : ℕ) → k < length entries → slice_get lists k ≡ Some (at_key k pairs)) → IfOk r (AreAllPieces plan)
    if_all ordered entries pairs same is (Ok lists) size are = record {
      size = size ∙ ap length same;
      each = λ e numbers at. let within = slice_get_within lists e numbers at in
          subst (λ (z : List ℕ). ArePieces plan e z) (same_Some (at_key e (by_entry map)) numbers (ap (λ (z : List (ℕ × ℕ)). Some (at_key e z)) (sym is) ∙ sym (are e (omega arith)) ∙ at)) (pieces_are ordered e);
      within = λ e k piece. let z = place_of e k piece in subst (λ (n : ℕ). n < length plan.entries) z.2 (entry_at z.0 k z.1);
    }
    if_all ordered entries pairs same is (Err e) size are = tt

-- ---- the pieces of a commit

pub pieces_of_commit : (plan : Plan) (pieces : List (List ℕ)) (c e : ℕ) (found : List ℕ) → AreAllPieces plan pieces → KindIs plan c (Commit e) → MatchOption (slice_get pieces e) (found ≡ []) (λ list. found ≡ list)
    → ((k : ℕ) → Contains found k ↔ IsPieceOf plan c k) × AllPairs (IsEarlierPiece plan) found
pieces_of_commit plan pieces c e found are commit h = go (slice_get pieces e) refl h
  where
    one_commit : (a b : ℕ) → Commit a ≡ Commit b → a ≡ b
    one_commit a b f = cc

    for_entry : (k : ℕ) → IsPieceOf plan c k → IsPieceFor plan e k
    for_entry k h =
        let same : h.entry ≡ e = one_commit h.entry e (sym h.commit.2 ∙ same_kind plan c h.commit.0 (Commit e) h.commit.1 commit) in
        (h.offset, h.size, h.path, subst (λ (z : ℕ). KindIs plan k (Piece z h.offset h.size h.path)) same h.piece)

    of_commit : (k : ℕ) → IsPieceFor plan e k → IsPieceOf plan c k
    of_commit k h = record { entry = e; offset = h.0; size = h.1; path = h.2; commit = commit; piece = h.3 }

    go : (o : Option (List ℕ)) → slice_get pieces e ≡ o → MatchOption o (found ≡ []) (λ list. found ≡ list) → ((k : ℕ) → Contains found k ↔ IsPieceOf plan c k) × AllPairs (IsEarlierPiece plan) found
    go (Some list) at same =
        let here = are.each e list at in
        subst (λ (z : List ℕ). ((k : ℕ) → Contains z k ↔ IsPieceOf plan c k) × AllPairs (IsEarlierPiece plan) z) (sym same)
        (λ k. (λ h. of_commit k ((here.each k).0 h), λ h. (here.each k).1 (for_entry k h)), here.order)
    go None at same =
        subst (λ (z : List ℕ). ((k : ℕ) → Contains z k ↔ IsPieceOf plan c k) × AllPairs (IsEarlierPiece plan) z) (sym same) (
          λ k. (
            λ h. absurd (contains_none k h),
            λ h. absurd (
                let within = are.within e k (for_entry k h) in
                let size = are.size in
                let there = element_at pieces e (omega arith) in
                none-some there.0 (sym at ∙ there.1)),
          ),
          λ i j d less within. absurd (omega arith),
        )
