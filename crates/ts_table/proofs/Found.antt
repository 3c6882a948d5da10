-- What a search by halving finds in a listing.
use Rattle.std.proofs.Common.{◌≡◌, ◌≢◌, ◌⊎◌, ◌↔◌, ℕ, zero, suc, ◌<◌, ◌≤◌, ◌+◌, ◌-◌, Bool, true, false, IsTrue, [], ◌∷◌, ◌++◌, length, get_or, take, drop, Ordering, Less, Equal, Greater, refl, sym, ap, ◌∙◌, subst, inl, inr, arith, append-nil}
use Rattle.std.proofs.lemmas.Bool.{false≢true, cases_lt}
use Rattle.std.specs.List.{AllByRecursion, AllWithin}
use Rattle.std.specs.List.Sorted.{IsNonDecreasingBy, IsPartitionedBy, IsPartitionPoint}
use Rattle.std.specs.Ordering.{ordering_index, is_lt}
use Rattle.std.proofs.lemmas.List.{take-append-drop, get_or-drop, length-drop, drop-drop}
use Rattle.ts_name.specs.Paths.{Path, IsAbove, IsBefore, path_cmp}
use Rattle.ts_model.specs.Trees.{Listing, at, Ascend}
use Rattle.ts_model.specs.declared.row.Content.TheVariants.{Absent}
use Rattle.ts_model.specs.declared.row.Row.{Row}
use Rattle.ts_table.specs.Tables.{is_above, rows_below, IsCut}
use Rattle.ts_name.specs.Laws.{tied_paths}
use Rattle.ts_name.proofs.Order.{before_cases, before_trans, before_itself, before_flip, late_between, before_not_below, is_lt_Less}
use Rattle.ts_name.proofs.Basics.{weaker, all_both}
use Rattle.ts_table.proofs.Rows.{all_before, all_from, ascend_pair}
use Rattle.ts_table.proofs.Looked.{listed_found, not_listed}
use Rattle.ts_table.proofs.Listings.{is_above_yes, is_above_gives, is_above_no, not_above_gives, rows_below_mid}
use Rattle.ts_model.proofs.Rows.{at_listed}

-- ---- a path that is sought

-- two indexes in order are equal, or one is less
same_or_less : (i j : ℕ) → i ≤ j → (i ≡ j) ⊎ (i < j)
same_or_less i j h = elim (cases_lt i j) [ inl lt ↦ inr lt | inr ge ↦ inl (omega arith) ]

-- the answers of comparisons with one path rise
pub rises : {F : Type 0} (rows : Listing F) (p : Path) → Ascend rows → IsNonDecreasingBy (λ row. ordering_index (path_cmp row.path p)) rows
rises {F} rows p up i j d le under = elim (same_or_less i j le) [
  | inl e ↦ (let f = ap (λ k. ordering_index (path_cmp (get_or rows k d).path p)) e in omega (arith, f))
  | inr lt ↦ go (path_cmp (get_or rows i d).path p) refl (path_cmp (get_or rows j d).path p) refl (ascend_pair rows up i j d lt under)
]
  where
    go : (o : Ordering) → path_cmp (get_or rows i d).path p ≡ o → (r : Ordering) → path_cmp (get_or rows j d).path p ≡ r → IsBefore (get_or rows i d).path (get_or rows j d).path → ordering_index o ≤ ordering_index r
    go Less e r f before = omega arith
    go Equal e Less f before = absurd (before_itself p (before_trans p (get_or rows j d).path p (subst (λ z. IsBefore z (get_or rows j d).path) (tied_paths (get_or rows i d).path p e) before) f))
    go Equal e Equal f before = omega arith
    go Equal e Greater f before = omega arith
    go Greater e Less f before = absurd (before_itself p (before_trans p (get_or rows i d).path p (before_flip (get_or rows i d).path p e) (before_trans (get_or rows i d).path (get_or rows j d).path p before f)))
    go Greater e Equal f before = absurd (before_itself p (before_trans p (get_or rows i d).path p (before_flip (get_or rows i d).path p e) (subst (λ z. IsBefore (get_or rows i d).path z) (tied_paths (get_or rows j d).path p f) before)))
    go Greater e Greater f before = omega arith

-- a row of the path says what is there
pub found : {F : Type 0} (rows : Listing F) (p : Path) (i : ℕ) (row : Row F) → Ascend rows → p ≢ [] → i < length rows → row ≡ get_or rows i row → path_cmp (get_or rows i row).path p ≡ Equal → row.content ≡ at rows p
found rows p i row up some under is tied = listed_found rows p i row up under is tied ∙ sym (at_listed rows p some)

-- and where rows come before it up to a place and after it from there on, nothing is there
pub not_found : {F : Type 0} (rows : Listing F) (p : Path) (i : ℕ) → p ≢ [] → i ≤ length rows → IsPartitionPoint (λ row. path_cmp row.path p ≡ Less) (λ row. path_cmp row.path p ≡ Greater) rows i → Absent ≡ at rows p
not_found rows p i some under parted = not_listed rows p i under parted ∙ sym (at_listed rows p some)

-- ---- the rows at or below a path

-- those before it come first
pub before_parts : {F : Type 0} (rows : Listing F) (p : Path) → Ascend rows → IsPartitionedBy (λ row. is_lt (path_cmp row.path p)) rows
before_parts {F} rows p up i j d le under h = elim (same_or_less i j le) [
  | inl e ↦ subst (λ k. is_lt (path_cmp (get_or rows k d).path p) ≡ true) (sym e) h
  | inr lt ↦ ap is_lt (before_trans (get_or rows i d).path (get_or rows j d).path p (ascend_pair rows up i j d lt under) (is_lt_Less _ h))
]

-- and of the others those below it
pub below_parts : {F : Type 0} (rows : Listing F) (p : Path) (n : ℕ) → Ascend rows → n ≤ length rows → AllWithin (λ row. is_lt (path_cmp row.path p) ≡ false) rows n (length rows) → IsPartitionedBy (λ row. is_above p row.path) (drop n rows)
below_parts {F} rows p n up short late i j d le under h = elim (same_or_less i j le) [
  | inl e ↦ subst (λ k. is_above p (get_or (drop n rows) k d).path ≡ true) (sym e) h
  | inr lt ↦
      (let cut = length-drop n rows in
      let within : n + j < length rows = omega arith in
      let here : is_above p (get_or rows (n + j) d).path ≡ true = subst (λ row. is_above p row.path ≡ true) (get_or-drop n rows j d) h in
      subst (λ row. is_above p row.path ≡ true) (sym (get_or-drop n rows i d))
      (is_above_yes p (get_or rows (n + i) d).path
      (late_between p (get_or rows (n + i) d).path (get_or rows (n + j) d).path (late (n + i) d (omega arith) (omega arith)) (ascend_pair rows up (n + i) (n + j) d (omega arith) within) (is_above_gives p (get_or rows (n + j) d).path here))))
]

-- so two halvings cut a listing
pub cut_found : {F : Type 0} (rows : Listing F) (p : Path) (n count : ℕ) → Ascend rows → n ≤ length rows → IsPartitionPoint (λ row. is_lt (path_cmp row.path p) ≡ true) (λ row. is_lt (path_cmp row.path p) ≡ false) rows n → count ≤ length (drop n rows) → IsPartitionPoint (λ row. is_above p row.path ≡ true) (λ row. is_above p row.path ≡ false) (drop n rows) count → IsCut p (take n rows) (take count (drop n rows)) (drop count (drop n rows))
cut_found {F} rows p n count up short first shorter second = record {
  before = weaker (λ (row : Row F). is_lt (path_cmp row.path p) ≡ true) (λ row. IsBefore row.path p) (λ row h. is_lt_Less _ h) (take n rows) (all_before _ rows n short first.0);
  below = weaker (λ (row : Row F). is_above p row.path ≡ true) (λ row. IsAbove p row.path) (λ row h. is_above_gives p row.path h) (take count (drop n rows)) (all_before _ (drop n rows) count shorter second.0);
  after = weaker (λ (row : Row F). (is_lt (path_cmp row.path p) ≡ false) × (is_above p row.path ≡ false)) (λ row. IsBefore p row.path × (¬ IsAbove p row.path)) (λ row h. after row h.0 h.1) (drop count (drop n rows)) (all_both _ _ _ late (all_from _ (drop n rows) count shorter second.1));
}
  where
    rest_late : (m : ℕ) (xs : Listing F) → AllByRecursion (λ row. is_lt (path_cmp row.path p) ≡ false) xs → AllByRecursion (λ row. is_lt (path_cmp row.path p) ≡ false) (drop m xs)
    rest_late zero xs h = h
    rest_late (suc m) [] h = tt
    rest_late (suc m) (x ∷ xs) h = rest_late m xs h.1

    late : AllByRecursion (λ row. is_lt (path_cmp row.path p) ≡ false) (drop count (drop n rows))
    late = rest_late count (drop n rows) (all_from _ rows n short first.1)

    after : (row : Row F) → is_lt (path_cmp row.path p) ≡ false → is_above p row.path ≡ false → IsBefore p row.path × (¬ IsAbove p row.path)
    after row h k = elim (before_cases p row.path) [
      | inl before ↦ (before, not_above_gives p row.path k)
      | inr more ↦ elim more [
        | inl e ↦ absurd (not_above_gives p row.path k ([], sym e ∙ sym (append-nil p)))
        | inr early ↦ (let f : is_lt (path_cmp row.path p) ≡ true = ap is_lt early in absurd (false≢true (sym h ∙ f)))
      ]
    ]

-- whose middle are the rows below the path
pub mid_is_below : {F : Type 0} (p : Path) (front mid back : Listing F) → IsCut p front mid back → rows_below p (front ++ (mid ++ back)) ≡ mid
mid_is_below {F} p front mid back cut =
    rows_below_mid p front mid back
    (weaker (λ (row : Row F). IsBefore row.path p) (λ row. ¬ IsAbove p row.path) (λ row h. before_not_below row.path p h) front cut.before)
    cut.below
    (weaker (λ (row : Row F). IsBefore p row.path × (¬ IsAbove p row.path)) (λ row. ¬ IsAbove p row.path) (λ row h. h.1) back cut.after)

-- a test that holds exactly where a path is above another
pub above_test : (r : Bool) (p q : Path) → (IsTrue r ↔ IsAbove p q) → r ≡ is_above p q
above_test true p q h = sym (is_above_yes p q (h.0 refl))
above_test false p q h = sym (is_above_no p q (λ above. false≢true (h.1 above)))

-- what two halvings of a slice say together
pub cut_bounds : {F : Type 0} (rows rest : Listing F) (p : Path) (n count : ℕ) → rest ≡ drop n rows → Ascend rows → n ≤ length rows → IsPartitionPoint (λ row. is_lt (path_cmp row.path p) ≡ true) (λ row. is_lt (path_cmp row.path p) ≡ false) rows n → count ≤ length rest → (IsPartitionedBy (λ row. is_above p row.path) rest → IsPartitionPoint (λ row. is_above p row.path ≡ true) (λ row. is_above p row.path ≡ false) rest count) → IsCut p (take n rows) (take (n + count - n) (drop n rows)) (drop (n + count) rows)
cut_bounds {F} rows rest p n count is up short first shorter second =
    let parted = subst (λ xs. IsPartitionedBy (λ (row : Row F). is_above p row.path) xs) (sym is) (below_parts rows p n up short first.1) in
    let cut : IsCut p (take n rows) (take count (drop n rows)) (drop count (drop n rows)) = cut_found rows p n count up short first (subst (λ xs. count ≤ length xs) is shorter) (subst (λ xs. IsPartitionPoint (λ (row : Row F). is_above p row.path ≡ true) (λ row. is_above p row.path ≡ false) xs count) is (second parted)) in
    let same : count ≡ n + count - n = omega arith in
    subst (λ xs. IsCut p (take n rows) (take (n + count - n) (drop n rows)) xs) (drop-drop count n rows) (subst (λ k. IsCut p (take n rows) (take k (drop n rows)) (drop count (drop n rows))) same cut)

-- three parts make the whole
pub whole : {F : Type 0} (rows : Listing F) (start end : ℕ) → start ≤ end → rows ≡ take start rows ++ (take (end - start) (drop start rows) ++ drop end rows)
whole {F} rows start end le =
    let same : start + (end - start) ≡ end = omega arith in
    sym (take-append-drop start rows) ∙ ap (λ z. take start rows ++ z) (sym (take-append-drop (end - start) (drop start rows)) ∙ ap (λ z. take (end - start) (drop start rows) ++ z) (drop-drop (end - start) start rows ∙ ap (λ k. drop k rows) same))

-- the rows between the bounds are those below the path
pub between_bounds : {F : Type 0} (rows : Listing F) (p : Path) (start end : ℕ) → start ≤ end → IsCut p (take start rows) (take (end - start) (drop start rows)) (drop end rows) → take (end - start) (drop start rows) ≡ rows_below p rows
between_bounds {F} rows p start end le cut = sym (ap (rows_below p) (whole rows start end le) ∙ mid_is_below p (take start rows) (take (end - start) (drop start rows)) (drop end rows) cut)
