-- Where something may stand, told by the last row before a path.
use Rattle.std.proofs.Common.{◌≡◌, ◌≢◌, ◌↔◌, ℕ, zero, suc, ◌<◌, ◌≤◌, ◌+◌, Bool, true, false, [], ◌∷◌, ◌++◌, length, take, drop, Some, refl, sym, ap, ◌∙◌, subst, inl, inr, arith, append_assoc, append-nil, slice_get}
use Rattle.std.proofs.lemmas.Bool.{cond-false}
use Rattle.std.proofs.lemmas.List.{take-append-drop}
use Rattle.std.specs.List.{AllByRecursion}
use Rattle.std.specs.Ordering.{is_lt}
use Rattle.std.specs.List.Sorted.{IsPartitionPoint}
use Rattle.ts_name.specs.Paths.{Name, Path, IsPath, IsAbove, IsBefore, path_cmp}
use Rattle.ts_model.specs.Trees.{Listing, listed, at, Ascend, IsListing}
use Rattle.ts_model.specs.declared.row.Content.{Content}
use Rattle.ts_model.specs.declared.row.Content.TheVariants.{Absent, Dir}
use Rattle.ts_model.specs.declared.row.Row.{Row}
use Rattle.ts_table.specs.Tables.{IsPlace}
use Rattle.ts_name.specs.Laws.{same_path_differ}
use Rattle.ts_name.proofs.Prefixes.{same_parent, snoc_not_empty, last_name}
use Rattle.ts_name.proofs.Order.{late_between, before_itself, before_below, is_lt_Less}
use Rattle.ts_name.proofs.Basics.{weaker}
use Rattle.ts_table.proofs.Rows.{all_before, all_from, listed_before}
use Rattle.ts_table.proofs.Cuts.{HasParents, IsListing-front}
use Rattle.ts_table.proofs.Last.{all_get, all_until}
use Rattle.ts_model.proofs.Rows.{at_listed, listed_here, ascend_rest}
use Rattle.ts_model.proofs.Listings.{ascend_first, listed_none}

-- above whatever is there stands a directory
pub above_dir : {F : Type 0} (t : Path → Content F) → HasParents t → (p : Path) (name : Name) (rest : Path) → t (p ++ name ∷ rest) ≢ Absent → t p ≡ Dir
above_dir t h p name [] there = h p name there
above_dir t h p name (m ∷ more) there =
    h p name (λ gone. let dir = above_dir t h (p ++ name ∷ []) m more (λ none. there (ap t (sym (append_assoc p (name ∷ []) (m ∷ more))) ∙ none)) in let f = sym gone ∙ dir in cc)

-- a row that is found says what is at its path
pub listed_got : {F : Type 0} (rows : Listing F) (n : ℕ) (row : Row F) → Some row ≡ slice_get rows n → Ascend rows → listed rows row.path ≡ row.content
listed_got [] n row e up = cc
listed_got {F} (x ∷ rows) zero row e up = let same : x ≡ row = cc in subst (λ (z : Row F). listed (x ∷ rows) z.path ≡ z.content) same (listed_here x rows)
listed_got {F} (x ∷ rows) (suc n) row e up =
    let before : IsBefore x.path row.path = all_get (λ (other : Row F). IsBefore x.path other.path) rows n row e (ascend_first x rows up) in
    cond-false _ _ _ (same_path_differ x.path row.path (λ same. before_itself x.path (subst (λ z. IsBefore x.path z) (sym same) before)))
    ∙ listed_got rows n row e (ascend_rest x rows up)

-- p has a parent, which is q or above it
abbrev pub HasParentAbove : Path → Path → Type 0
HasParentAbove p q = (parent : Path) × (name : Name) × (p ≡ parent ++ name ∷ []) × IsAbove parent q

-- the row is a directory, or not the parent of p
abbrev pub MayBeAbove : {F : Type 0} → Row F → Path → Type 0
MayBeAbove row p = (name : Name) → p ≡ row.path ++ name ∷ [] → row.content ≡ Dir

-- a row at or below a path's parent makes it a place
pub place_from_last : {F : Type 0} (rows : Listing F) (p : Path) (n : ℕ) (row : Row F) → IsListing rows → Some row ≡ slice_get rows n → HasParentAbove p row.path → MayBeAbove row p → IsPlace (at rows) p
place_from_last {F} rows p n row lists got h may = record {
  not_root = λ root. snoc_not_empty h.0 h.1 (sym h.2 ∙ root);
  parent = λ q name is. ap (at rows) (same_parent q h.0 name h.1 (sym is ∙ h.2)) ∙ dir h.3.0 h.3.1;
}
  where
    is_row : IsPath row.path × (row.path ≢ []) × (row.content ≢ Absent)
    is_row = all_get (λ (other : Row F). IsPath other.path × (other.path ≢ []) × (other.content ≢ Absent)) rows n row got lists.rows_are

    here : at rows row.path ≡ row.content
    here = at_listed rows row.path is_row.1 ∙ listed_got rows n row got lists.ascending

    dir : (rest : Path) → row.path ≡ h.0 ++ rest → at rows h.0 ≡ Dir
    dir [] e =
        let same : row.path ≡ h.0 = e ∙ append-nil h.0 in
        ap (at rows) (sym same) ∙ here ∙ may h.1 (h.2 ∙ ap (λ z. z ++ h.1 ∷ []) (sym same))
    dir (m ∷ more) e = above_dir (at rows) lists.parents h.0 m more (λ gone. is_row.2 (sym here ∙ ap (at rows) e ∙ gone))

-- where p has two names or more, its parent is not the root
parent_named : (p q : Path) (name : Name) → 1 < length p → p ≡ q ++ name ∷ [] → q ≢ []
parent_named p q name long is none = let e : length p ≡ 1 = ap length (is ∙ ap (λ z. z ++ name ∷ []) none) in omega arith

-- a place below a name has a row of its parent, and no row but those below it comes after that one
pub last_from_place : {F : Type 0} (rows : Listing F) (p : Path) (n : ℕ) (row : Row F) → IsListing rows → 1 < length p → length rows ≡ n + 1 → Some row ≡ slice_get rows n → AllByRecursion (λ other. IsBefore other.path p) rows → (parent : Path) (name : Name) → p ≡ parent ++ name ∷ [] → at rows parent ≡ Dir → HasParentAbove p row.path × MayBeAbove row p
last_from_place {F} rows p n row lists long count got before q name is dir = ((q, name, is, above (is_lt (path_cmp row.path q)) refl), may)
  where
    named : q ≢ []
    named = parent_named p q name long is

    there : listed rows q ≡ Dir
    there = sym (at_listed rows q named) ∙ dir

    row_before : IsBefore row.path p
    row_before = all_get (λ (other : Row F). IsBefore other.path p) rows n row got before

    above : (b : Bool) → is_lt (path_cmp row.path q) ≡ b → IsAbove q row.path
    above true e =
        let early = all_until q rows n row count got lists.ascending (is_lt_Less _ e) in
        let gone = listed_none rows q (weaker (λ (other : Row F). IsBefore other.path q) (λ other. other.path ≢ q) (λ other first same. before_itself q (subst (λ z. IsBefore z q) same first)) rows early) in
        let f = sym gone ∙ there in cc
    above false e = late_between q row.path p e row_before (name ∷ [], is)

    may : MayBeAbove row p
    may other is_too =
        let same : row.path ≡ q = same_parent row.path q other name (sym is_too ∙ is) in
        sym (listed_got rows n row got lists.ascending) ∙ ap (listed rows) same ∙ there

-- a path that isn't the root has a parent and a last name
pub parent_of : (p : Path) → p ≢ [] → (parent : Path) × (name : Name) × (p ≡ parent ++ name ∷ [])
parent_of p some = elim (last_name p) [ inl none ↦ absurd (some none) | inr h ↦ h ]

-- below a name there is no place where there are no rows
pub no_place : {F : Type 0} (rows : Listing F) (p : Path) → rows ≡ [] → 1 < length p → ¬ IsPlace (at rows) p
no_place {F} rows p none long place = go p long (subst (λ z. IsPlace (at z) p) none place)
  where
    two : (a b : Name) (rest : Path) → (q : Path) × (name : Name) × (a ∷ b ∷ rest ≡ (a ∷ q) ++ name ∷ [])
    two a b [] = ([], b, refl)
    two a b (m ∷ more) = let h = two b m more in (b ∷ h.0, h.1, ap (λ z. a ∷ z) h.2)

    go : (p : Path) → 1 < length p → IsPlace (at {F = F} []) p → ⊥
    go [] long place = absurd (omega arith)
    go (a ∷ []) long place = absurd (omega arith)
    go (a ∷ b ∷ rest) long place = let h = two a b rest in let f = place.parent (a ∷ h.0) h.1 h.2 in cc

-- ---- the rows before a path

-- decide whether something may stand there
pub place_in_front : {F : Type 0} (rows : Listing F) (p : Path) (n : ℕ) → IsListing rows → n ≤ length rows → IsPartitionPoint (λ row. is_lt (path_cmp row.path p) ≡ true) (λ row. is_lt (path_cmp row.path p) ≡ false) rows n → (IsPlace (at (take n rows)) p ↔ IsPlace (at rows) p)
place_in_front {F} rows p n lists short parted = (
  (λ place. record { not_root = place.not_root; parent = λ q name is. sym (same q name is) ∙ place.parent q name is }),
  (λ place. record { not_root = place.not_root; parent = λ q name is. same q name is ∙ place.parent q name is }),
)
  where
    late : AllByRecursion (λ row. is_lt (path_cmp row.path p) ≡ false) (drop n rows)
    late = all_from _ rows n short parted.1

    above : (q : Path) → IsBefore q p → at (take n rows) q ≡ at rows q
    above [] before = refl
    above (m ∷ q) before =
        sym (listed_before (take n rows) (drop n rows) (m ∷ q)
        (weaker (λ (row : Row F). is_lt (path_cmp row.path p) ≡ false) (λ row. row.path ≢ m ∷ q)
        (λ row e same. let f : is_lt (path_cmp row.path p) ≡ true = ap is_lt (subst (λ z. IsBefore z p) (sym same) before) in cc) (drop n rows) late))
        ∙ ap (λ z. listed z (m ∷ q)) (take-append-drop n rows)

    same : (q : Path) (name : Name) → p ≡ q ++ name ∷ [] → at (take n rows) q ≡ at rows q
    same q name is = above q (subst (λ z. IsBefore q z) (sym is) (before_below q name []))

-- and they are a listing
pub front_lists : {F : Type 0} (rows : Listing F) (n : ℕ) → IsListing rows → IsListing (take n rows)
front_lists rows n lists = IsListing-front (take n rows) (drop n rows) (subst (λ z. IsListing z) (sym (take-append-drop n rows)) lists)

-- all of them before the path
pub front_before : {F : Type 0} (rows : Listing F) (p : Path) (n : ℕ) → n ≤ length rows → IsPartitionPoint (λ row. is_lt (path_cmp row.path p) ≡ true) (λ row. is_lt (path_cmp row.path p) ≡ false) rows n → AllByRecursion (λ row. IsBefore row.path p) (take n rows)
front_before {F} rows p n short parted = weaker (λ (row : Row F). is_lt (path_cmp row.path p) ≡ true) (λ row. IsBefore row.path p) (λ row h. is_lt_Less _ h) (take n rows) (all_before _ rows n short parted.0)
