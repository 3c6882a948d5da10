-- Pieces by the rows of their source.
use Rattle.std.proofs.Common.{◌≡◌, ◌≢◌, ◌↔◌, ℕ, Bool, true, false, not, IsTrue, Some, slice_get, sym, refl, ap, ◌∙◌, subst}
use Rattle.std.proofs.lemmas.Bool.{false≢true}
use Rattle.std.proofs.lemmas.Option.{same_Some}
use Rattle.ts_name.specs.Paths.{Path, IsAbove}
use Rattle.ts_model.specs.Trees.{Listing, IsListing, at}
use Rattle.ts_model.specs.Plans.{EntryIs, ActionIs, IsRange, source}
use Rattle.ts_model.specs.declared.row.Content.TheVariants.{File}
use Rattle.ts_model.specs.declared.row.Row.{Row}
use Rattle.ts_model.specs.declared.row.Stamp.{Stamp}
use Rattle.ts_model.specs.declared.plan.Side.{Side}
use Rattle.ts_model.specs.declared.plan.Side.TheVariants as side
use Rattle.ts_model.specs.declared.plan.Entry.{Entry}
use Rattle.ts_model.specs.declared.plan.Action.{Action}
use Rattle.ts_model.specs.declared.plan.Kind.TheVariants.{Piece}
use Rattle.ts_model.specs.declared.plan.Plan.{Plan}
use Rattle.ts_check.proofs.Scans.{same_kind}
use Rattle.ts_check.proofs.Rowed.{file_row}
use Rattle.ts_check.specs.Pieces.{on_side, IsSourceOf, IsPieceIn, IsRowOf, IsUnlawful}
use Rattle.ts_table.proofs.Listings.{at_row}

-- either side is a listing
pub side_lists : (xs ys : Listing Stamp) (from : Side) → IsListing xs → IsListing ys → IsListing (on_side xs ys from)
side_lists xs ys side.First h k = h
side_lists xs ys side.Second h k = k

pub source_lists : (xs ys : Listing Stamp) (plan : Plan) (e : ℕ) (rows : Listing Stamp) → IsSourceOf xs ys plan e rows → IsListing xs → IsListing ys → IsListing rows
source_lists xs ys plan e rows src h k = subst (λ z. IsListing z) (sym src.3) (side_lists xs ys src.1 h k)

-- an entry is copied from one side
pub one_source : (xs ys : Listing Stamp) (plan : Plan) (e : ℕ) (rows others : Listing Stamp) → IsSourceOf xs ys plan e rows → IsSourceOf xs ys plan e others → rows ≡ others
one_source xs ys plan e rows others a b =
    let entry : a.0 ≡ b.0 = same_Some a.0 b.0 (sym a.2.0 ∙ b.2.0) in
    let from : a.1 ≡ b.1 = same_Some a.1 b.1 (sym a.2.1 ∙ ap (λ (z : Entry). source z.reason) entry ∙ b.2.1) in
    a.3 ∙ ap (on_side xs ys) from ∙ sym b.3

-- what a lawful piece is of, in the rows of its source
pub record IsPieceOf (plan : Plan) (rows : Listing Stamp) (e offset len : ℕ) (p : Path) : Type 0 where
  pub entry : Entry
  pub is : EntryIs plan e entry
  pub above : IsAbove entry.path p
  pub stamp : Stamp
  pub file : at rows p ≡ File stamp
  pub range : IsRange stamp.size offset len

pub IsPieceOf-from : (xs ys : Listing Stamp) (plan : Plan) (rows : Listing Stamp) (e offset len : ℕ) (p : Path) → IsSourceOf xs ys plan e rows → IsPieceIn xs ys plan e offset len p → IsPieceOf plan rows e offset len p
IsPieceOf-from xs ys plan rows e offset len p src h = record {
  entry = h.0;
  is = h.3.0;
  above = h.4;
  stamp = h.2;
  file = ap (λ (z : Listing Stamp). at z p) (one_source xs ys plan e rows (on_side xs ys h.1) src (h.0, h.1, h.3, refl)) ∙ h.5;
  range = h.6;
}

pub IsPieceIn-from : (xs ys : Listing Stamp) (plan : Plan) (rows : Listing Stamp) (e offset len : ℕ) (p : Path) → IsSourceOf xs ys plan e rows → IsPieceOf plan rows e offset len p → IsPieceIn xs ys plan e offset len p
IsPieceIn-from xs ys plan rows e offset len p src h =
    let entry : h.entry ≡ src.0 = same_Some h.entry src.0 (sym h.is ∙ src.2.0) in
    (src.0, src.1, h.stamp, src.2, subst (λ (z : Entry). IsAbove z.path p) entry h.above, sym (ap (λ (z : Listing Stamp). at z p) src.3) ∙ h.file, h.range)

-- where the path has no row it is no piece
pub no_row : (plan : Plan) (rows : Listing Stamp) (e offset len : ℕ) (p : Path) → ((k : ℕ) → ¬ IsRowOf rows k p) → ¬ IsPieceOf plan rows e offset len p
no_row plan rows e offset len p none h = let found = file_row rows p h.stamp h.file in none found.0 found.1

-- nor where its row has no file
pub no_file : (plan : Plan) (rows : Listing Stamp) (e offset len k : ℕ) (p : Path) (row : Row Stamp) → IsListing rows → IsRowOf rows k p → slice_get rows k ≡ Some row → ((stamp : Stamp) → row.content ≢ File stamp) → ¬ IsPieceOf plan rows e offset len p
no_file plan rows e offset len k p row lists at_k is none h =
    let here : row.path ≡ p = ap (λ (z : Row Stamp). z.path) (same_Some row at_k.0 (sym is ∙ at_k.1)) ∙ at_k.2 in
    none h.stamp (sym (at_row rows lists k row is) ∙ ap (at rows) here ∙ h.file)

-- what is at a path with a row
pub file_at : (rows : Listing Stamp) (k : ℕ) (p : Path) (row : Row Stamp) (stamp : Stamp) → IsListing rows → IsRowOf rows k p → slice_get rows k ≡ Some row → row.content ≡ File stamp → at rows p ≡ File stamp
file_at rows k p row stamp lists at_k is file =
    let here : row.path ≡ p = ap (λ (z : Row Stamp). z.path) (same_Some row at_k.0 (sym is ∙ at_k.1)) ∙ at_k.2 in
    ap (at rows) (sym here) ∙ at_row rows lists k row is ∙ file

-- a file has one stamp
pub one_file : (x y : Stamp) → File x ≡ File y → x ≡ y
one_file x y e = cc

pub same_piece : (a b c d e f : ℕ) (p q : Path) → Piece a b c p ≡ Piece d e f q → (a ≡ d) × (b ≡ e) × (c ≡ f) × (p ≡ q)
same_piece a b c d e f p q h = (cc, cc, cc, cc)

-- an action that is a lawful piece isn't unlawful
pub lawful : (xs ys : Listing Stamp) (plan : Plan) (i e offset len : ℕ) (p : Path) (action : Action) → ActionIs plan i action → action.kind ≡ Piece e offset len p → IsPieceIn xs ys plan e offset len p → ¬ IsUnlawful xs ys plan i
lawful xs ys plan i e offset len p action is kind piece h =
    let same = same_piece e offset len h.0 h.1 h.2 p h.3 (sym kind ∙ same_kind plan i action (Piece h.0 h.1 h.2 h.3) is h.4) in
    h.5 (subst (λ z. IsPieceIn xs ys plan z h.1 h.2 h.3) same.0 (subst (λ z. IsPieceIn xs ys plan e z h.2 h.3) same.1 (subst (λ z. IsPieceIn xs ys plan e offset z h.3) same.2 (subst (λ z. IsPieceIn xs ys plan e offset len z) same.3 piece))))

-- nor is an action that is no piece
pub no_piece : (xs ys : Listing Stamp) (plan : Plan) (i : ℕ) (action : Action) → ActionIs plan i action → ((e offset len : ℕ) (p : Path) → action.kind ≢ Piece e offset len p) → ¬ IsUnlawful xs ys plan i
no_piece xs ys plan i action is none h = none h.0 h.1 h.2 h.3 (same_kind plan i action (Piece h.0 h.1 h.2 h.3) is h.4)

-- a piece is unlawful exactly where the test of lawful ones says no
pub unlawful_here : (xs ys : Listing Stamp) (plan : Plan) (i e offset len : ℕ) (p : Path) (action : Action) (b : Bool) → ActionIs plan i action → action.kind ≡ Piece e offset len p
    → (IsTrue b ↔ IsPieceIn xs ys plan e offset len p) → (IsTrue (not b) ↔ IsUnlawful xs ys plan i)
unlawful_here xs ys plan i e offset len p action true is kind says = (λ wrong. absurd (false≢true wrong), λ bad. absurd (lawful xs ys plan i e offset len p action is kind (says.0 refl) bad))
unlawful_here xs ys plan i e offset len p action false is kind says = (λ right. (e, offset, len, p, (action, is, kind), λ piece. false≢true (says.1 piece)), λ bad. refl)
