-- The places of pieces in a map, and the first piece that stands again.
use Rattle.std.proofs.Common.{◌≡◌, ◌⊎◌, cond, ℕ, zero, suc, List, [], ◌∷◌, Contains, ap₂, ◌+◌, ◌-◌, ◌++◌, ◌<◌, ◌≤◌, Bool, true, false, length, length-append, Option, Some, None, is_some, slice_get, sym, refl, ap, ◌∙◌, subst, inl, inr, arith}
use Rattle.std.specs.Ordering.{is_eq}
use Rattle.rayon.specs.Numbers.{nat_range}
use Rattle.std.specs.BTreeMap.{BTreeMap, get, Updates, IsEmpty}
use Rattle.std.specs.List.{AllZip, filter_map, range_with_len}
use Rattle.std.proofs.lemmas.Bool.{cases_eq, cases_lt, false≢true}
use Rattle.std.proofs.lemmas.List.Elements.{Contains-append_cases, Contains-append_left, Contains-append_right}
use Rattle.std.proofs.lemmas.Map.Views.{Contains-from_lookup}
use Rattle.std.proofs.lemmas.Option.{none-some, same_Some, slice_get_within}
use Rattle.ts_name.specs.Paths.{Path}
use Rattle.ts_model.specs.Trees.{Listing, IsListing}
use Rattle.ts_model.specs.Plans.{ActionIs, KindIs}
use Rattle.ts_model.specs.declared.row.Row.{Row}
use Rattle.ts_model.specs.declared.row.Stamp.{Stamp}
use Rattle.ts_model.specs.declared.plan.Action.{Action}
use Rattle.ts_model.specs.declared.plan.Kind.{Kind}
use Rattle.ts_model.specs.declared.plan.Kind.TheVariants.{Piece}
use Rattle.ts_model.specs.declared.plan.Plan.{Plan}
use Rattle.ts_check.proofs.InOrder.{place_eq, found_from}
use Rattle.ts_check.proofs.Scans.{same_kind}
use Rattle.ts_check.proofs.Succeeding.{contains_cons, contains_tail, contains_none}
use Rattle.ts_check.proofs.Rowed.{file_row, one_row}
use Rattle.ts_check.proofs.Staging.{IsPieceOf-from, one_source, source_lists, same_piece}
use Rattle.ts_check.specs.Pieces.{on_side, IsSourceOf, IsPieceIn, IsRowOf, IsUnlawful, IsAgain, NotEachOnce, IsPlaceOf, IsPlacing, IsStagedMap, IsMapOfAll, ArePlaces, ArePlacesBetween, AreInOrder, Place, place_cmp, staged_at}
use Rattle.ts_name.specs.Laws.{is_eq_Equal}

-- what a map has at a place after another was put in
after_put : (m n : BTreeMap Place ℕ) (z : Place) (i : ℕ) → Updates place_cmp m n z (Some i) → (q : Place) → ((q ≡ z) × (get place_cmp n q ≡ Some i)) ⊎ (get place_cmp n q ≡ get place_cmp m q)
after_put m n z i puts q = go (is_eq (place_cmp z q)) refl
  where
    go : (b : Bool) → is_eq (place_cmp z q) ≡ b → ((q ≡ z) × (get place_cmp n q ≡ Some i)) ⊎ (get place_cmp n q ≡ get place_cmp m q)
    go true e = (let same = place_eq z q (is_eq_Equal (place_cmp z q) e) in inl (sym same, subst (λ y. get place_cmp n y ≡ Some i) same puts.1))
    go false e = inr (puts.2 q e)

-- the map after n actions, none of which stands again
pub record IsPlaced (xs ys : Listing Stamp) (plan : Plan) (n : ℕ) (map : BTreeMap Place ℕ) : Type 0 where
  pub map_is : IsStagedMap xs ys plan n map.entries
  pub fresh : (k : ℕ) → k < n → ¬ IsAgain plan k
  pub few : length map.entries ≤ n

module _ (xs ys : Listing Stamp) (first : IsListing xs) (second : IsListing ys) (plan : Plan) where
  -- a piece has one place
  one_place : (kind : Kind) (x y : Place) → IsPlaceOf xs ys plan kind x → IsPlaceOf xs ys plan kind y → x ≡ y
  one_place kind x y a b =
      let same = same_piece x.0 x.1.1 a.0 y.0 y.1.1 b.0 a.1 b.1 (sym a.3 ∙ b.3) in
      let rows : a.2 ≡ b.2 = one_source xs ys plan y.0 a.2 b.2 (subst (λ z. IsSourceOf xs ys plan z a.2) same.0 a.4) b.4 in
      let lists = source_lists xs ys plan y.0 b.2 b.4 first second in
      let row : x.1.0 ≡ y.1.0 = one_row b.2 lists.ascending x.1.0 y.1.0 b.1 (subst (λ z. IsRowOf z x.1.0 b.1) rows (subst (λ z. IsRowOf a.2 x.1.0 z) same.3 a.5)) b.5 in
      λ i. (same.0 i, (row i, same.1 i))

  -- pieces in one place are of one entry, path and offset
  same_path_there : (x y : Kind) (z : Place) (a : IsPlaceOf xs ys plan x z) (b : IsPlaceOf xs ys plan y z) → a.1 ≡ b.1
  same_path_there x y z a b =
      let rows : a.2 ≡ b.2 = one_source xs ys plan z.0 a.2 b.2 a.4 b.4 in
      let row : a.5.0 ≡ b.5.0 = same_Some a.5.0 b.5.0 (sym a.5.1 ∙ ap (λ (w : Listing Stamp). slice_get w z.1.0) rows ∙ b.5.1) in
      sym a.5.2 ∙ ap (λ (w : Row Stamp). w.path) row ∙ b.5.2

  -- a piece like one that has a place has the same
  place_like : (x : Kind) (z : Place) (len : ℕ) (a : IsPlaceOf xs ys plan x z) → IsPlaceOf xs ys plan (Piece z.0 z.1.1 len a.1) z
  place_like x z len a = (len, a.1, a.2, refl, a.4, a.5)

  -- a lawful piece has a place
  has_place : (e offset len : ℕ) (p : Path) → IsPieceIn xs ys plan e offset len p → (z : Place) × IsPlaceOf xs ys plan (Piece e offset len p) z
  has_place e offset len p piece =
      let rows = on_side xs ys piece.1 in
      let src : IsSourceOf xs ys plan e rows = (piece.0, piece.1, piece.3, refl) in
      let h = IsPieceOf-from xs ys plan rows e offset len p src piece in
      let found = file_row rows p h.stamp h.file in
      ((e, (found.0, offset)), (len, p, rows, refl, src, found.1))

  pub IsPlaced-none : (map : BTreeMap Place ℕ) → IsEmpty map → IsPlaced xs ys plan 0 map
  IsPlaced-none map empty = record {
    map_is = record { found = λ z i e. absurd (none-some i (rw empty at e)); complete = λ z i kind less. absurd (omega arith); each = λ i e offset len p less. absurd (omega arith) };
    fresh = λ k less. absurd (omega arith);
    few = subst (λ (z : List (Place × ℕ)). length z ≤ 0) (sym empty) (omega arith);
  }

  -- an action without a place changes nothing
  pub IsPlaced-skip : (n : ℕ) (map : BTreeMap Place ℕ) (action : Action) → ((k : ℕ) → ¬ IsUnlawful xs ys plan k) → ActionIs plan n action → ((z : Place) → ¬ IsPlaceOf xs ys plan action.kind z) → IsPlaced xs ys plan n map → IsPlaced xs ys plan (n + 1) map
  IsPlaced-skip n map action right is none placed = record {
    map_is = record {
      found = λ z i e. let h = placed.map_is.found z i e in (omega (arith, h.0), h.1);
      complete = λ z i kind less at of. elim (cases_eq i n) [
        | inl same ↦ absurd (none z (subst (λ k. IsPlaceOf xs ys plan k z) (sym (same_kind plan n action kind is (subst (λ k. KindIs plan k kind) same at))) of))
        | inr differ ↦ placed.map_is.complete z i kind (omega arith) at of
      ];
      each = λ i e offset len p less at. elim (cases_eq i n) [
        | inl same ↦ absurd (nowhere e offset len p (subst (λ k. KindIs plan k (Piece e offset len p)) same at))
        | inr differ ↦ placed.map_is.each i e offset len p (omega arith) at
      ];
    };
    fresh = λ k less again. elim (cases_eq k n) [
      | inl same ↦ here (subst (λ z. IsAgain plan z) same again)
      | inr differ ↦ placed.fresh k (omega arith) again
    ];
    few = (let h = placed.few in omega arith);
  }
    where
      nowhere : (e offset len : ℕ) (p : Path) → ¬ KindIs plan n (Piece e offset len p)
      nowhere e offset len p at = right n (
        e,
        offset,
        len,
        p,
        at,
        λ piece.
            let found = has_place e offset len p piece in
            none found.0 (subst (λ k. IsPlaceOf xs ys plan k found.0) (sym (same_kind plan n action (Piece e offset len p) is at)) found.1),
      )

      here : ¬ IsAgain plan n
      here again = nowhere again.0 again.1 again.2 again.3 again.4

  -- a piece whose place was free is put in
  pub IsPlaced-put : (n : ℕ) (m map : BTreeMap Place ℕ) (z : Place) (action : Action) → ActionIs plan n action → IsPlaceOf xs ys plan action.kind z → get place_cmp m z ≡ None → Updates place_cmp m map z (Some n) → length map.entries ≤ length m.entries + 1 → IsPlaced xs ys plan n m → IsPlaced xs ys plan (n + 1) map
  IsPlaced-put n m map z action is of free puts grown placed = record {
    map_is = record { found = found; complete = complete; each = each };
    fresh = λ k less again. elim (cases_eq k n) [
      | inl same ↦ here (subst (λ w. IsAgain plan w) same again)
      | inr differ ↦ placed.fresh k (omega arith) again
    ];
    few = (let h = placed.few in omega arith);
  }
    where
      found : (q : Place) (i : ℕ) → get place_cmp map q ≡ Some i → (i < n + 1) × ((kind : Kind) × KindIs plan i kind × IsPlaceOf xs ys plan kind q)
      found q i e = elim (after_put m map z n puts q) [
        | inl put ↦ (
            let now : i ≡ n = same_Some i n (sym e ∙ put.1) in
            (omega arith, subst (λ k. (kind : Kind) × KindIs plan k kind × IsPlaceOf xs ys plan kind q) (sym now) (action.kind, (action, is, refl), subst (λ w. IsPlaceOf xs ys plan action.kind w) (sym put.0) of)))
        | inr kept ↦ (let h = placed.map_is.found q i (sym kept ∙ e) in (omega (arith, h.0), h.1))
      ]

      complete : (q : Place) (i : ℕ) (kind : Kind) → i < n + 1 → KindIs plan i kind → IsPlaceOf xs ys plan kind q → (j : ℕ) × (get place_cmp map q ≡ Some j)
      complete q i kind less at of_q = elim (after_put m map z n puts q) [
        | inl put ↦ (n, put.1)
        | inr kept ↦ elim (cases_eq i n) [
          | inl same ↦ (
              let kinds = same_kind plan n action kind is (subst (λ k. KindIs plan k kind) same at) in
              let one : q ≡ z = one_place action.kind q z (subst (λ k. IsPlaceOf xs ys plan k q) (sym kinds) of_q) of in
              (n, subst (λ w. get place_cmp map w ≡ Some n) (sym one) puts.1))
          | inr differ ↦ (let h = placed.map_is.complete q i kind (omega arith) at of_q in (h.0, kept ∙ h.1))
        ]
      ]

      each : (i e offset len : ℕ) (p : Path) → i < n + 1 → KindIs plan i (Piece e offset len p) → (q : Place) × (get place_cmp map q ≡ Some i)
      each i e offset len p less at = elim (cases_eq i n) [
        | inl same ↦ (z, subst (λ k. get place_cmp map z ≡ Some k) (sym same) puts.1)
        | inr differ ↦ (
            let old = placed.map_is.each i e offset len p (omega arith) at in
            elim (after_put m map z n puts old.0) [
              | inl put ↦ absurd (none-some i (sym free ∙ subst (λ w. get place_cmp m w ≡ Some i) put.0 old.1))
              | inr kept ↦ (old.0, kept ∙ old.1)
            ])
      ]

      here : ¬ IsAgain plan n
      here again =
          let kinds : action.kind ≡ Piece again.0 again.1 again.2 again.3 = same_kind plan n action (Piece again.0 again.1 again.2 again.3) is again.4 in
          let same = same_piece z.0 z.1.1 of.0 again.0 again.1 again.2 of.1 again.3 (sym of.3 ∙ kinds) in
          let earlier : again.5.1 ≡ Piece z.0 z.1.1 again.5.4.0 of.1 = again.5.4.1 ∙ ap (λ w. Piece w again.1 again.5.4.0 again.3) (sym same.0) ∙ ap (λ w. Piece z.0 w again.5.4.0 again.3) (sym same.1) ∙ ap (λ w. Piece z.0 z.1.1 again.5.4.0 w) (sym same.3) in
          let h = placed.map_is.complete z again.5.0 again.5.1 again.5.2 again.5.3 (subst (λ k. IsPlaceOf xs ys plan k z) (sym earlier) (place_like action.kind z again.5.4.0 of)) in
          none-some h.0 (sym free ∙ h.1)

  -- a piece whose place was taken stands again, and is the first
  pub stands_again : (n j : ℕ) (m : BTreeMap Place ℕ) (z : Place) (action : Action) → ActionIs plan n action → IsPlaceOf xs ys plan action.kind z → get place_cmp m z ≡ Some j → IsPlaced xs ys plan n m
      → NotEachOnce xs ys plan n × ((k : ℕ) → k < n → ¬ NotEachOnce xs ys plan k)
  stands_again n j m z action is of taken placed =
      let h = placed.map_is.found z j taken in
      let path = same_path_there h.1.0 action.kind z h.1.2 of in (
        inl (z.0, z.1.1, of.0, of.1, (action, is, of.3), (j, h.1.0, h.0, h.1.1, (h.1.2.0, h.1.2.3 ∙ ap (λ w. Piece z.0 z.1.1 h.1.2.0 w) path))),
        λ k less wrong. elim wrong [
          | inl again ↦ placed.fresh k less again
          | inr lacks ↦ (let e = lacks.1 in let within = slice_get_within plan.actions n action is in omega arith)
        ],
      )

  -- the places of all pieces, in order, are a map of all
  pub is_map : (staged : List (Place × ℕ)) → ((k : ℕ) → ¬ IsUnlawful xs ys plan k) → AreInOrder staged → ArePlaces xs ys plan staged → IsMapOfAll xs ys plan staged
  is_map staged right order are = (
    record {
      found = λ z i e. let h = are.each z i (listed z i e) in (slice_get_within plan.actions i h.1.0 h.1.1, h);
      complete = λ z i kind less at of. (i, found_at i kind z less at of);
      each = λ i e offset len p less at. let h = stands i e offset len p less at in (h.0, found_from staged order h.0 i h.1);
    },
    fresh,
  )
    where
      listed : (z : Place) (i : ℕ) → staged_at staged z ≡ Some i → Contains staged (z, i)
      listed z i e = Contains-from_lookup (λ (x y : Place) e. place_eq x y (is_eq_Equal (place_cmp x y) e)) z i staged e

      -- a piece stands somewhere
      stands : (i e offset len : ℕ) (p : Path) → i < length plan.actions → KindIs plan i (Piece e offset len p) → (z : Place) × Contains staged (z, i)
      stands i e offset len p less at = elim (are.all i less) [
        | inl h ↦ h
        | inr none ↦ absurd (right i (e, offset, len, p, at, λ piece. let h = has_place e offset len p piece in none (Piece e offset len p) h.0 at h.1))
      ]

      -- and is found at its place
      found_at : (i : ℕ) (kind : Kind) (z : Place) → i < length plan.actions → KindIs plan i kind → IsPlaceOf xs ys plan kind z → staged_at staged z ≡ Some i
      found_at i kind z less at of = elim (are.all i less) [
        | inl h ↦ (
            let g = are.each h.0 i h.1 in
            let kinds : g.0 ≡ kind = sym g.1.2 ∙ same_kind plan i g.1.0 kind g.1.1 at in
            let one : h.0 ≡ z = one_place kind h.0 z (subst (λ k. IsPlaceOf xs ys plan k h.0) kinds g.2) of in
            found_from staged order z i (subst (λ w. Contains staged (w, i)) one h.1))
        | inr none ↦ absurd (none kind z at of)
      ]

      fresh : (k : ℕ) → ¬ IsAgain plan k
      fresh k again =
          let less = slice_get_within plan.actions k again.4.0 again.4.1 in
          let h = stands k again.0 again.1 again.2 again.3 less again.4 in
          let z = h.0 in
          let g = are.each z k h.1 in
          let of = g.2 in
          let kinds : g.0 ≡ Piece again.0 again.1 again.2 again.3 = sym g.1.2 ∙ same_kind plan k g.1.0 (Piece again.0 again.1 again.2 again.3) g.1.1 again.4 in
          let same = same_piece z.0 z.1.1 of.0 again.0 again.1 again.2 of.1 again.3 (sym of.3 ∙ kinds) in
          let earlier : again.5.1 ≡ Piece z.0 z.1.1 again.5.4.0 of.1 = again.5.4.1 ∙ ap (λ w. Piece w again.1 again.5.4.0 again.3) (sym same.0) ∙ ap (λ w. Piece z.0 w again.5.4.0 again.3) (sym same.1) ∙ ap (λ w. Piece z.0 z.1.1 again.5.4.0 w) (sym same.3) in
          let other = found_at again.5.0 again.5.1 z (let low = again.5.2 in omega arith) again.5.3 (subst (λ w. IsPlaceOf xs ys plan w z) (sym earlier) (place_like g.0 z again.5.4.0 of)) in
          let one : again.5.0 ≡ k = same_Some again.5.0 k (sym other ∙ found_from staged order z k h.1) in
          let low = again.5.2 in
          omega arith

  -- where the path of a piece has no row in its source, it has no place
  pub no_place : (kind : Kind) (e offset len : ℕ) (p : Path) (rows : Listing Stamp) → kind ≡ Piece e offset len p → IsSourceOf xs ys plan e rows → ((k : ℕ) → ¬ IsRowOf rows k p) → (z : Place) → ¬ IsPlaceOf xs ys plan kind z
  no_place kind e offset len p rows is src none z of =
      let same = same_piece z.0 z.1.1 of.0 e offset len of.1 p (sym of.3 ∙ is) in
      let one : of.2 ≡ rows = one_source xs ys plan e of.2 rows (subst (λ w. IsSourceOf xs ys plan w of.2) same.0 of.4) src in
      none z.1.0 (subst (λ w. IsRowOf w z.1.0 p) one (subst (λ w. IsRowOf of.2 z.1.0 w) same.3 of.5))

-- an option that has a value
pub some_of : (o : Option ℕ) → is_some o ≡ true → (j : ℕ) × (o ≡ Some j)
some_of None e = absurd (false≢true e)
some_of (Some j) e = (j, refl)

-- and one that has none
pub none_of : (o : Option ℕ) → is_some o ≡ false → o ≡ None
none_of None e = refl
none_of (Some j) e = absurd (false≢true (sym e))

-- by at most one
pub at_most_one : (b : Bool) (m n : ℕ) → n ≡ m + cond b 0 1 → n ≤ m + 1
at_most_one true m n e = omega arith
at_most_one false m n e = omega arith

-- after all actions
pub finish_placing : (xs ys : Listing Stamp) (plan : Plan) (n : ℕ) (map : BTreeMap Place ℕ) → length plan.actions ≤ n → IsPlaced xs ys plan n map → IsStagedMap xs ys plan (length plan.actions) map.entries × ((k : ℕ) → ¬ IsAgain plan k)
finish_placing xs ys plan n map all placed = (
  record {
    found = λ z i e. let h = placed.map_is.found z i e in (slice_get_within plan.actions i h.1.1.0 h.1.1.1, h.1);
    complete = λ z i kind less at of. placed.map_is.complete z i kind (omega arith) at of;
    each = λ i e offset len p less at. placed.map_is.each i e offset len p (omega arith) at;
  },
  λ k again. placed.fresh k (let h = slice_get_within plan.actions k again.4.0 again.4.1 in omega arith) again,
)

-- ---- places that were looked for one by one

module _ (xs ys : Listing Stamp) (plan : Plan) where
  each_from : (ns : List ℕ) (os : List (Option (Place × ℕ))) → AllZip (IsPlacing xs ys plan) ns os → (z : Place) (i : ℕ) → Contains (filter_map (λ o. o) os) (z, i) → (kind : Kind) × KindIs plan i kind × IsPlaceOf xs ys plan kind z
  each_from [] [] zip z i h = absurd (contains_none (z, i) h)
  each_from [] (o ∷ os) zip z i h = absurd zip
  each_from (n ∷ ns) [] zip z i h = absurd zip
  each_from (n ∷ ns) (None ∷ os) zip z i h = each_from ns os zip.1 z i h
  each_from (n ∷ ns) (Some x ∷ os) zip z i h = elim (contains_cons x (filter_map (λ o. o) os) (z, i) h) [
    | inl here ↦ (
        let number : n ≡ i = sym zip.0.0 ∙ ap (λ (w : Place × ℕ). w.1) here in
        let g = zip.0.1 in
        (g.0, subst (λ k. KindIs plan k g.0) number g.1, subst (λ w. IsPlaceOf xs ys plan g.0 w) (ap (λ (w : Place × ℕ). w.0) here) g.2))
    | inr later ↦ each_from ns os zip.1 z i later
  ]

  abbrev Stands : List (Place × ℕ) → ℕ → Type 0
  Stands staged i = ((z : Place) × Contains staged (z, i)) ⊎ ((kind : Kind) (z : Place) → KindIs plan i kind → ¬ IsPlaceOf xs ys plan kind z)

  all_from : (a n : ℕ) (os : List (Option (Place × ℕ))) → AllZip (IsPlacing xs ys plan) (range_with_len a n) os → (i : ℕ) → a ≤ i → i < a + n → Stands (filter_map (λ o. o) os) i
  all_from a zero os zip i low high = absurd (omega arith)
  all_from a (suc n) [] zip i low high = absurd zip
  all_from a (suc n) (None ∷ os) zip i low high = elim (cases_eq i a) [
    | inl same ↦ inr (subst (λ k. (kind : Kind) (z : Place) → KindIs plan k kind → ¬ IsPlaceOf xs ys plan kind z) (sym same) zip.0)
    | inr differ ↦ all_from (a + 1) n os zip.1 i (omega arith) (omega arith)
  ]
  all_from a (suc n) (Some x ∷ os) zip i low high = elim (cases_eq i a) [
    | inl same ↦ inl (x.0, (0, omega arith, (let number : x.1 ≡ i = zip.0.0 ∙ sym same in λ j. (x.0, number j))))
    | inr differ ↦ elim (all_from (a + 1) n os zip.1 i (omega arith) (omega arith)) [
      | inl h ↦ inl (h.0, contains_tail x (filter_map (λ o. o) os) (h.0, i) h.1)
      | inr none ↦ inr none
    ]
  ]

  few_from : (a n : ℕ) (os : List (Option (Place × ℕ))) → AllZip (IsPlacing xs ys plan) (range_with_len a n) os → length (filter_map (λ o. o) os) ≤ n
  few_from a zero [] zip = omega arith
  few_from a zero (o ∷ os) zip = absurd zip
  few_from a (suc n) [] zip = absurd zip
  few_from a (suc n) (None ∷ os) zip = let h = few_from (a + 1) n os zip.1 in omega arith
  few_from a (suc n) (Some x ∷ os) zip = let h = few_from (a + 1) n os zip.1 in omega arith

  pub are_places_between : (from to start end : ℕ) (ns : List ℕ) (os : List (Option (Place × ℕ))) (staged : List (Place × ℕ)) → from ≤ to → (start ≡ from) × (end ≡ to) → ns ≡ nat_range start end → AllZip (IsPlacing xs ys plan) ns os → staged ≡ filter_map (λ o. o) os → ArePlacesBetween xs ys plan from to staged
  are_places_between from to start end ns os staged between ends range zip is =
      let whole : ns ≡ range_with_len from (to - from) = range ∙ ap₂ range_with_len ends.0 (let low = ends.0 in let high = ends.1 in omega arith) in
      let moved : AllZip (IsPlacing xs ys plan) (range_with_len from (to - from)) os = subst (λ z. AllZip (IsPlacing xs ys plan) z os) whole zip in
      record {
        each = λ z i h. each_from (range_with_len from (to - from)) os moved z i (subst (λ w. Contains w (z, i)) is h);
        few = subst (λ (w : List (Place × ℕ)). from + length w ≤ to) (sym is) (let h = few_from from (to - from) os moved in omega arith);
        all = λ i low high. subst (λ w. Stands w i) (sym is) (all_from from (to - from) os moved i low (omega arith));
      }

  -- before the first action
  pub no_places : ArePlacesBetween xs ys plan 0 0 []
  no_places = record {
    each = λ z i h. absurd (contains_none (z, i) h);
    few = omega arith;
    all = λ i low high. absurd (omega arith);
  }

  -- the places among some actions, and among those that come next
  pub more_places : (a b c : ℕ) (some more : List (Place × ℕ)) → ArePlacesBetween xs ys plan a b some → ArePlacesBetween xs ys plan b c more → ArePlacesBetween xs ys plan a c (some ++ more)
  more_places a b c some more had next = record {
    each = λ z i h. elim (Contains-append_cases some more (z, i) h) [
      | inl early ↦ had.each z i early
      | inr late ↦ next.each z i late
    ];
    few = let whole = length-append some more in let front = had.few in let back = next.few in omega arith;
    all = λ i low high. elim (cases_lt i b) [
      | inl early ↦ elim (had.all i low early) [
        | inl h ↦ inl (h.0, Contains-append_left some more (h.0, i) h.1)
        | inr none ↦ inr none
      ]
      | inr late ↦ elim (next.all i late high) [
        | inl h ↦ inl (h.0, Contains-append_right some more (h.0, i) h.1)
        | inr none ↦ inr none
      ]
    ];
  }

  -- among all of them
  pub all_places : (n : ℕ) (staged : List (Place × ℕ)) → n ≡ length plan.actions → ArePlacesBetween xs ys plan 0 n staged → ArePlaces xs ys plan staged
  all_places n staged count found = record {
    each = found.each;
    few = let h = found.few in omega arith;
    all = λ i less. found.all i (omega arith) (omega arith);
  }
