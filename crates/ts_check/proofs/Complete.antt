-- Each lawful piece of an entry is looked for among those that stand.
use Rattle.std.proofs.Common.{◌≡◌, ◌≢◌, ℕ, ◌+◌, ◌%◌, ◌<◌, ◌≤◌, ◌↔◌, Bool, true, false, not, IsTrue, List, [], ◌∷◌, ◌++◌, length, Some, slice_get, sym, refl, ap, ◌∙◌, subst, inl, inr, append-nil, arith}
use Rattle.std.proofs.lemmas.Bool.{cases_eq, cases_lt, cases_order, false≢true}
use Rattle.std.proofs.lemmas.Option.{none-some, same_Some, slice_get_within}
use Rattle.ts_name.specs.Paths.{Path, IsAbove, IsBefore}
use Rattle.ts_name.proofs.Order.{before_itself, before_trans, before_from_above, above_between}
use Rattle.ts_laws.proofs.Grafts.{IsRooted-from_tree, nothing_below}
use Rattle.ts_laws.proofs.Listings.{IsTree-from_listing}
use Rattle.ts_model.specs.Trees.{Listing, IsListing, at}
use Rattle.ts_model.specs.Plans.{EntryIs, KindIs, IsCopied}
use Rattle.ts_model.specs.declared.row.Content.TheVariants.{File}
use Rattle.ts_model.specs.declared.row.Row.{Row}
use Rattle.ts_model.specs.declared.row.Stamp.{Stamp}
use Rattle.ts_model.specs.declared.plan.Entry.{Entry}
use Rattle.ts_model.specs.declared.plan.Kind.TheVariants.{Piece}
use Rattle.ts_model.specs.declared.plan.Plan.{Plan}
use Rattle.ts_check.proofs.Rowed.{row_is, dir_row, file_row, rows_order}
use Rattle.ts_check.proofs.Staging.{IsPieceOf-from, IsPieceIn-from, one_source}
use Rattle.ts_check.specs.Pieces.{IsSourceOf, IsRowOf, IsStagedMap, HasAll, HasAllBelow, LacksBelow, LacksSome, NotEachOnce, IsAgain, Place, staged_at}
use Rattle.ts_table.proofs.Listings.{at_row}
use Rattle.ts_model.proofs.Deciding.{same_stamp_at, same_names}

-- ---- the ranges of one file

-- each range before this offset has its piece
pub record AreBefore (staged : List (Place × ℕ)) (e row offset : ℕ) : Type 0 where
  pub aligned : offset % 1048576 ≡ 0
  pub each : (o : ℕ) → o % 1048576 ≡ 0 → o < offset → (i : ℕ) × (staged_at staged (e, (row, o)) ≡ Some i)

-- one range more
pub AreBefore-more : (staged : List (Place × ℕ)) (e row offset i : ℕ) → AreBefore staged e row offset → staged_at staged (e, (row, offset)) ≡ Some i → AreBefore staged e row (offset + 1048576)
AreBefore-more staged e row offset i so_far here = record {
  aligned = (let a = so_far.aligned in omega arith);
  each = λ o even less. elim (cases_lt o offset) [
    | inl before ↦ so_far.each o even before
    | inr after ↦ (let same : o ≡ offset = (let a = so_far.aligned in omega arith) in (i, ap (λ z. staged_at staged (e, (row, z))) same ∙ here))
  ];
}

-- all of them
pub HasAll-from : (staged : List (Place × ℕ)) (e row size offset : ℕ) → size ≤ offset → AreBefore staged e row offset → HasAll staged e row size
HasAll-from staged e row size offset past so_far o len range = so_far.each o range.aligned (let w = range.within in omega arith)

-- ---- the rows at or below a path

-- where a path other than the root has no row, nothing is below it
pub nothing_there : (rows : Listing Stamp) (top : Path) → IsListing rows → top ≢ [] → ((k : ℕ) → ¬ IsRowOf rows k top) → (k : ℕ) (row : Row Stamp) → slice_get rows k ≡ Some row → ¬ IsAbove top row.path
nothing_there rows top lists some none k row is above = go above.0 above.1
  where
    go : (rest : Path) → row.path ≡ top ++ rest → ⊥
    go [] e = none k (row, is, e ∙ append-nil top)
    go (name ∷ rest) e =
        let gone = nothing_below same_stamp_at (IsRooted-from_tree (IsTree-from_listing rows lists)) top name rest (λ dir. let found = dir_row rows top some dir in none found.0 found.1) in
        (row_is rows lists k row is).1 (sym (at_row rows lists k row is) ∙ ap (at rows) e ∙ gone)

-- rows at or below a path stand from its own row on
pub from_start : (rows : Listing Stamp) (top : Path) (start k : ℕ) (row : Row Stamp) → IsListing rows → IsRowOf rows start top → slice_get rows k ≡ Some row → IsAbove top row.path → start ≤ k
from_start rows top start k row lists at_start is above = elim (cases_lt k start) [
  | inr more ↦ more
  | inl less ↦ absurd (
      let down : IsBefore row.path top = subst (λ z. IsBefore row.path z) at_start.2 (rows_order rows lists.ascending k start row at_start.0 is at_start.1 less) in
      elim (same_names top row.path) [
        | yes same ↦ before_itself top (subst (λ z. IsBefore z top) (sym same) down)
        | no differ ↦ before_itself top (before_trans top row.path top (before_from_above top row.path above differ) down)
      ])
]

-- up to the first that isn't
pub to_end : (rows : Listing Stamp) (top : Path) (start stop k : ℕ) (last row : Row Stamp) → IsListing rows → IsRowOf rows start top → start ≤ stop → slice_get rows stop ≡ Some last → ¬ IsAbove top last.path
    → slice_get rows k ≡ Some row → IsAbove top row.path → k < stop
to_end rows top start stop k last row lists at_start less is_last out is above = elim (cases_order k stop) [
  | inl same ↦ absurd (out (subst (λ (z : Row Stamp). IsAbove top z.path) (same_Some row last (sym is ∙ ap (slice_get rows) same ∙ is_last)) above))
  | inr (inl before) ↦ before
  | inr (inr after) ↦ absurd (
      let up : start < stop = elim (cases_eq start stop) [
        | inl one ↦ absurd (out (subst (λ (z : Row Stamp). IsAbove top z.path) (same_Some at_start.0 last (sym at_start.1 ∙ ap (slice_get rows) one ∙ is_last)) ([], at_start.2 ∙ sym (append-nil top))))
        | inr differ ↦ omega arith
      ] in
      out (above_between top last.path row.path above
      (subst (λ z. IsBefore z last.path) at_start.2 (rows_order rows lists.ascending start stop at_start.0 last at_start.1 is_last up))
      (rows_order rows lists.ascending stop k last row is_last is after)))
]

-- ---- an entry

module _ (xs ys : Listing Stamp) (plan : Plan) (map : List (Place × ℕ)) (staged : IsStagedMap xs ys plan (length plan.actions) map) where
  -- an entry whose ranges all have pieces lacks none
  pub lacks_none : (e : ℕ) (entry : Entry) (rows : Listing Stamp) → EntryIs plan e entry → IsListing rows → IsSourceOf xs ys plan e rows → HasAllBelow entry.path rows map e → ¬ LacksSome xs ys plan e
  lacks_none e entry rows is lists src all lacks =
      let piece = IsPieceOf-from xs ys plan rows e lacks.0 lacks.1 lacks.2 src lacks.3 in
      let at_row_of = file_row rows lacks.2 piece.stamp piece.file in
      let row = at_row_of.1.0 in
      let content : row.content ≡ File piece.stamp = sym (at_row rows lists at_row_of.0 row at_row_of.1.1) ∙ ap (at rows) at_row_of.1.2 ∙ piece.file in
      let has = all at_row_of.0 row piece.stamp at_row_of.1.1 (subst (λ z. IsAbove entry.path z) (sym at_row_of.1.2) (subst (λ (w : Entry). IsAbove w.path lacks.2) (same_Some piece.entry entry (sym piece.is ∙ is)) piece.above)) content lacks.0 lacks.1 piece.range in
      let found = staged.found (e, (at_row_of.0, lacks.0)) has.0 has.1 in
      let of = found.1.2 in
      let one : of.2 ≡ rows = one_source xs ys plan e of.2 rows of.4 src in
      let path : of.1 ≡ lacks.2 = sym of.5.2 ∙ ap (λ (w : Row Stamp). w.path) (same_Some of.5.0 row (sym of.5.1 ∙ ap (λ (w : Listing Stamp). slice_get w at_row_of.0) one ∙ at_row_of.1.1)) ∙ at_row_of.1.2 in
      lacks.4 has.0 of.0 (subst (λ w. KindIs plan has.0 (Piece e lacks.0 of.0 w)) path (subst (λ w. KindIs plan has.0 w) of.3 found.1.1))

  -- one of whose ranges has none lacks that piece
  pub lacks_one : (e : ℕ) (entry : Entry) (rows : Listing Stamp) → EntryIs plan e entry → IsListing rows → IsSourceOf xs ys plan e rows → LacksBelow entry.path rows map e → LacksSome xs ys plan e
  lacks_one e entry rows is lists src lacks =
      let row = lacks.1 in
      let range = lacks.6 in (
        range.0,
        range.1,
        row.path,
        IsPieceIn-from xs ys plan rows e range.0 range.1 row.path src (record {
          entry = entry;
          is = is;
          above = lacks.4;
          stamp = lacks.2;
          file = at_row rows lists lacks.0 row lacks.3 ∙ lacks.5;
          range = range.2;
        }),
        λ i other kind.
            let within = slice_get_within plan.actions i kind.0 kind.1 in
            let has = staged.complete (e, (lacks.0, range.0)) i (Piece e range.0 other row.path) within kind (other, row.path, rows, refl, src, (row, lacks.3, refl)) in
            none-some has.0 (sym range.3 ∙ has.1),
      )

  -- an entry that isn't copied lacks none
  pub lacks_nothing : (e : ℕ) → ¬ IsCopied plan e → ¬ LacksSome xs ys plan e
  lacks_nothing e not lacks = not (lacks.3.0, lacks.3.1, lacks.3.3)

-- an entry lacks a piece exactly where the look for its ranges says no
pub tells_lacks : (xs ys : Listing Stamp) (plan : Plan) (staged : List (Place × ℕ)) → IsStagedMap xs ys plan (length plan.actions) staged → (e : ℕ) (entry : Entry) (rows : Listing Stamp) → EntryIs plan e entry → IsListing rows → IsSourceOf xs ys plan e rows
    → (b : Bool) → (IsTrue b → HasAllBelow entry.path rows staged e) → (b ≡ false → LacksBelow entry.path rows staged e) → (IsTrue (not b) ↔ LacksSome xs ys plan e)
tells_lacks xs ys plan staged are e entry rows is lists src true all lacking = (λ wrong. absurd (false≢true wrong), λ lacks. absurd (lacks_none xs ys plan staged are e entry rows is lists src (all refl) lacks))
tells_lacks xs ys plan staged are e entry rows is lists src false all lacking = (λ right. lacks_one xs ys plan staged are e entry rows is lists src (lacking refl), λ lacks. refl)

-- ---- all places

pub first_lacking : (xs ys : Listing Stamp) (plan : Plan) (e : ℕ) → ((k : ℕ) → ¬ IsAgain plan k) → LacksSome xs ys plan e → ((j : ℕ) → j < e → ¬ LacksSome xs ys plan j)
    → NotEachOnce xs ys plan (length plan.actions + e) × ((k : ℕ) → k < length plan.actions + e → ¬ NotEachOnce xs ys plan k)
first_lacking xs ys plan e fresh lacks least = (
  inr (e, refl, lacks),
  λ k less wrong. elim wrong [
    | inl again ↦ fresh k again
    | inr other ↦ least other.0 (let same = other.1 in omega arith) other.2
  ],
)

pub never_lacking : (xs ys : Listing Stamp) (plan : Plan) → ((k : ℕ) → ¬ IsAgain plan k) → ((e : ℕ) → ¬ LacksSome xs ys plan e) → (k : ℕ) → ¬ NotEachOnce xs ys plan k
never_lacking xs ys plan fresh none k wrong = elim wrong [ inl again ↦ fresh k again | inr other ↦ none other.0 other.2 ]
