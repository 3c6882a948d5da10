-- Rows of a listing, found by their paths.
use Rattle.std.proofs.Common.{◌≡◌, ◌≢◌, ℕ, suc, ◌<◌, ◌≤◌, Bool, true, false, cond, [], ◌∷◌, length, get_or, Some, slice_get, Less, Equal, Greater, sym, refl, ap, ◌∙◌, subst, inl, inr, arith}
use Rattle.std.proofs.lemmas.Bool.{cases_order}
use Rattle.std.proofs.lemmas.Cmp.{tied_itself}
use Rattle.std.proofs.lemmas.Option.{same_Some, slice_get_within, get_or_from_slice_get}
use Rattle.ts_name.specs.Paths.{Path, IsBefore, path_cmp, same_path}
use Rattle.ts_model.specs.Trees.{Listing, IsListing, Ascend, listed, at}
use Rattle.ts_model.specs.declared.row.Content.{Content}
use Rattle.ts_model.specs.declared.row.Content.TheVariants.{Absent, Dir, File}
use Rattle.ts_model.specs.declared.row.Row.{Row}
use Rattle.ts_model.specs.declared.row.Stamp.{Stamp}
use Rattle.ts_name.specs.Laws.{path_total, tied_paths, same_path_equal}
use Rattle.ts_name.proofs.Order.{before_flip, before_itself, before_trans}
use Rattle.ts_table.proofs.Rows.{ascend_pair}
use Rattle.ts_check.specs.Pieces.{IsRowOf}
use Rattle.ts_name.proofs.Basics.{all_at, element_at}

-- a row's path isn't the root, and something is there
pub row_is : (rows : Listing Stamp) → IsListing rows → (k : ℕ) (row : Row Stamp) → slice_get rows k ≡ Some row → (row.path ≢ []) × (row.content ≢ Absent)
row_is rows lists k row is = let h = all_at _ rows lists.rows_are k row is in (h.1, h.2)

-- and whatever is listed has a row
listed_row : (rows : Listing Stamp) (p : Path) → listed rows p ≢ Absent → (k : ℕ) × IsRowOf rows k p
listed_row [] p there = absurd (there refl)
listed_row (row ∷ rows) p there = go (same_path row.path p) refl there (listed_row rows p)
  where
    go : (b : Bool) → same_path row.path p ≡ b → cond b row.content (listed rows p) ≢ Absent → (listed rows p ≢ Absent → (k : ℕ) × IsRowOf rows k p) → (k : ℕ) × IsRowOf (row ∷ rows) k p
    go true e there more = (0, (row, refl, same_path_equal row.path p e))
    go false e there more = (let found = more there in (suc found.0, found.1))

-- so does a file
pub file_row : (rows : Listing Stamp) (p : Path) (stamp : Stamp) → at rows p ≡ File stamp → (k : ℕ) × IsRowOf rows k p
file_row rows [] stamp e = absurd cc
file_row rows (n ∷ p) stamp e = listed_row rows (n ∷ p) (λ gone. let f : File stamp ≡ Absent = sym e ∙ gone in cc)

-- and a directory other than the root
pub dir_row : (rows : Listing Stamp) (p : Path) → p ≢ [] → at rows p ≡ Dir → (k : ℕ) × IsRowOf rows k p
dir_row rows [] some e = absurd (some refl)
dir_row rows (n ∷ p) some e = listed_row rows (n ∷ p) (λ gone. let f : ◌≡◌ {A = Content Stamp} Dir Absent = sym e ∙ gone in cc)

-- rows stand in the order of their paths
pub rows_order : (rows : Listing Stamp) → Ascend rows → (i j : ℕ) (x y : Row Stamp) → slice_get rows i ≡ Some x → slice_get rows j ≡ Some y → i < j → IsBefore x.path y.path
rows_order rows up i j x y is_x is_y less =
    let within = slice_get_within rows j y is_y in
    subst (λ (z : Row Stamp). IsBefore z.path y.path) (get_or_from_slice_get rows i x x is_x)
    (subst (λ (z : Row Stamp). IsBefore (get_or rows i x).path z.path) (get_or_from_slice_get rows j y x is_y) (ascend_pair rows up i j x less within))

-- a path has one row
pub one_row : (rows : Listing Stamp) → Ascend rows → (i j : ℕ) (p : Path) → IsRowOf rows i p → IsRowOf rows j p → i ≡ j
one_row rows up i j p at_i at_j = elim (cases_order i j) [
  | inl same ↦ same
  | inr (inl less) ↦ absurd (before_itself p (subst (λ z. IsBefore z p) at_i.2 (subst (λ z. IsBefore at_i.0.path z) at_j.2 (rows_order rows up i j at_i.0 at_j.0 at_i.1 at_j.1 less))))
  | inr (inr more) ↦ absurd (before_itself p (subst (λ z. IsBefore z p) at_j.2 (subst (λ z. IsBefore at_j.0.path z) at_i.2 (rows_order rows up j i at_j.0 at_i.0 at_j.1 at_i.1 more))))
]

-- ---- a look for a row

tied_row : (rows : Listing Stamp) (m : ℕ) (x : Row Stamp) (p : Path) → slice_get rows m ≡ Some x → IsRowOf rows m p → path_cmp x.path p ≡ Equal
tied_row rows m x p is at_m =
    let one : x ≡ at_m.0 = same_Some x at_m.0 (sym is ∙ at_m.1) in
    subst (λ z. path_cmp z p ≡ Equal) (sym (ap (λ (w : Row Stamp). w.path) one ∙ at_m.2)) (tied_itself path_total p)

-- the row at a place
row_at : (rows : Listing Stamp) (m : ℕ) (d : Row Stamp) → m < length rows → slice_get rows m ≡ Some (get_or rows m d)
row_at rows m d inside = let x = element_at rows m inside in x.1 ∙ ap Some (sym (get_or_from_slice_get rows m x.0 d x.1))

-- where that row's path comes before this one, the path's row comes after it
pub row_after : (rows : Listing Stamp) → Ascend rows → (m : ℕ) (d : Row Stamp) (p : Path) → m < length rows → Less ≡ path_cmp (get_or rows m d).path p → (k : ℕ) → IsRowOf rows k p → m < k
row_after rows up m d p inside less k at_k = elim (cases_order m k) [
  | inl same ↦ absurd (let tied : path_cmp (get_or rows m d).path p ≡ Equal = tied_row rows m (get_or rows m d) p (row_at rows m d inside) (subst (λ z. IsRowOf rows z p) (sym same) at_k) in cc)
  | inr (inl before) ↦ before
  | inr (inr after) ↦ absurd (before_itself p (before_trans p (get_or rows m d).path p
      (subst (λ z. IsBefore z (get_or rows m d).path) at_k.2 (rows_order rows up k m at_k.0 (get_or rows m d) at_k.1 (row_at rows m d inside) after)) (sym less)))
]

-- and where it comes after this one, the path's row comes before it
pub row_before : (rows : Listing Stamp) → Ascend rows → (m : ℕ) (d : Row Stamp) (p : Path) → m < length rows → Greater ≡ path_cmp (get_or rows m d).path p → (k : ℕ) → IsRowOf rows k p → k < m
row_before rows up m d p inside greater k at_k = elim (cases_order m k) [
  | inl same ↦ absurd (let tied : path_cmp (get_or rows m d).path p ≡ Equal = tied_row rows m (get_or rows m d) p (row_at rows m d inside) (subst (λ z. IsRowOf rows z p) (sym same) at_k) in cc)
  | inr (inl before) ↦ absurd (before_itself p (before_trans p (get_or rows m d).path p (before_flip (get_or rows m d).path p (sym greater))
      (subst (λ z. IsBefore (get_or rows m d).path z) at_k.2 (rows_order rows up m k (get_or rows m d) at_k.0 (row_at rows m d inside) at_k.1 before))))
  | inr (inr after) ↦ after
]

-- and where it is this one, that row is the path's
pub row_here : (rows : Listing Stamp) (m : ℕ) (d : Row Stamp) (p : Path) → m < length rows → Equal ≡ path_cmp (get_or rows m d).path p → IsRowOf rows m p
row_here rows m d p inside same = (get_or rows m d, row_at rows m d inside, tied_paths (get_or rows m d).path p (sym same))

-- the path's row lies from the first of these places on, and before the other
abbrev pub LiesIn : Listing Stamp → Path → ℕ → ℕ → Type 0
LiesIn rows p low high = (k : ℕ) → IsRowOf rows k p → (low ≤ k) × (k < high)

pub lies_anywhere : (rows : Listing Stamp) (p : Path) → LiesIn rows p 0 (length rows)
lies_anywhere rows p = λ k is. (omega arith, slice_get_within rows k is.0 is.1)

pub lies_nowhere : (rows : Listing Stamp) (p : Path) (low high : ℕ) → high ≤ low → LiesIn rows p low high → (k : ℕ) → ¬ IsRowOf rows k p
lies_nowhere rows p low high none lies k is = let at = lies k is in omega (arith, at.0, at.1, none)
