-- Listings: what isn't listed, and that a tree has one listing.
use Rattle.std.proofs.Common.{◌≡◌, ◌≢◌, Bool, true, false, [], ◌∷◌, refl, sym, ap, ap₂, ◌∙◌, subst, inl, inr}
use Rattle.std.proofs.lemmas.Bool.{cond-false}
use Rattle.std.specs.List.{AllByRecursion}
use Rattle.ts_name.specs.Paths.{Path, IsPath, IsBefore, same_path}
use Rattle.ts_name.specs.Laws.{same_path_equal, same_path_differ}
use Rattle.ts_name.proofs.Basics.{at_each, weaker}
use Rattle.ts_name.proofs.Order.{before_cases, before_trans, before_itself}
use Rattle.ts_model.specs.Trees.{Listing, listed, at, Ascend, IsListing}
use Rattle.ts_model.specs.declared.row.Content.TheVariants.{Absent}
use Rattle.ts_model.specs.declared.row.Row.{Row}
use Rattle.ts_model.proofs.Rows.{listed_here, ascend_rest}

-- ---- what is listed

-- the first comes before each other
pub ascend_first : {F : Type 0} (row : Row F) (rows : Listing F) → Ascend (row ∷ rows) → AllByRecursion (λ other. IsBefore row.path other.path) rows
ascend_first row [] h = tt
ascend_first {F} row (next ∷ rows) h = (h.0, weaker (λ (other : Row F). IsBefore next.path other.path) (λ other. IsBefore row.path other.path) (λ other later. before_trans row.path next.path other.path h.0 later) rows (ascend_first next rows h.1))

-- what no row has the path of isn't listed
pub listed_none : {F : Type 0} (rows : Listing F) (p : Path) → AllByRecursion (λ row. row.path ≢ p) rows → listed rows p ≡ Absent
listed_none [] p all = refl
listed_none (row ∷ rows) p all = rw (same_path_differ row.path p all.0) (listed_none rows p all.1)

-- the root is not listed
pub root_not_listed : {F : Type 0} (rows : Listing F) → IsListing rows → listed rows [] ≡ Absent
root_not_listed {F} rows lists =
    listed_none rows [] (weaker (λ (row : Row F). IsPath row.path × (row.path ≢ []) × (row.content ≢ Absent)) (λ row. row.path ≢ []) (λ row h. h.1) rows lists.rows_are)

-- ---- one listing

-- rows that ascend and are not absent are told by what is listed
pub one_listed : {F : Type 0} (xs ys : Listing F) → Ascend xs → Ascend ys → AllByRecursion (λ row. row.content ≢ Absent) xs → AllByRecursion (λ row. row.content ≢ Absent) ys → ((p : Path) → listed xs p ≡ listed ys p) → xs ≡ ys
one_listed [] [] up_x up_y there_x there_y same = refl
one_listed [] (y ∷ ys) up_x up_y there_x there_y same = absurd (there_y.0 (sym (listed_here y ys) ∙ sym (same y.path)))
one_listed (x ∷ xs) [] up_x up_y there_x there_y same = absurd (there_x.0 (sym (listed_here x xs) ∙ same x.path))
one_listed {F} (x ∷ xs) (y ∷ ys) up_x up_y there_x there_y same = ap₂ ◌∷◌ first (one_listed xs ys (ascend_rest x xs up_x) (ascend_rest y ys up_y) there_x.1 there_y.1 others)
  where
    differ : (p : Path) (rows : Listing F) → AllByRecursion (λ row. IsBefore p row.path) rows → AllByRecursion (λ row. row.path ≢ p) rows
    differ p rows all = weaker (λ (row : Row F). IsBefore p row.path) (λ row. row.path ≢ p) (λ row before e. before_itself p (subst (λ z. IsBefore p z) e before)) rows all

    not_before : (a b : Row F) (others_a others_b : Listing F) → Ascend (b ∷ others_b) → a.content ≢ Absent → listed (a ∷ others_a) a.path ≡ listed (b ∷ others_b) a.path → ¬ IsBefore a.path b.path
    not_before a b others_a others_b up there e before =
        there (sym (listed_here a others_a) ∙ e ∙ listed_none (b ∷ others_b) a.path
        (differ a.path (b ∷ others_b) (before, weaker (λ (row : Row F). IsBefore b.path row.path) (λ row. IsBefore a.path row.path) (λ row later. before_trans a.path b.path row.path before later) others_b (ascend_first b others_b up))))

    paths : x.path ≡ y.path
    paths = elim (before_cases x.path y.path) [
      | inl before ↦ absurd (not_before x y xs ys up_y there_x.0 (same x.path) before)
      | inr more ↦ elim more [
        | inl e ↦ e
        | inr after ↦ absurd (not_before y x ys xs up_x there_y.0 (sym (same y.path)) after)
      ]
    ]

    contents : x.content ≡ y.content
    contents = sym (listed_here x xs) ∙ same x.path ∙ ap (listed (y ∷ ys)) paths ∙ listed_here y ys

    first : x ≡ y
    first = λ i. record { path = paths i; content = contents i }

    others : (p : Path) → listed xs p ≡ listed ys p
    others p = go (same_path x.path p) refl
      where
        go : (b : Bool) → same_path x.path p ≡ b → listed xs p ≡ listed ys p
        go true e =
            let is = same_path_equal x.path p e in
            listed_none xs p (subst (λ z. AllByRecursion (λ row. row.path ≢ z) xs) is (differ x.path xs (ascend_first x xs up_x)))
            ∙ sym (listed_none ys p (subst (λ z. AllByRecursion (λ row. row.path ≢ z) ys) (sym paths ∙ is) (differ y.path ys (ascend_first y ys up_y))))
        go false e =
            let f : same_path y.path p ≡ false = ap (λ z. same_path z p) (sym paths) ∙ e in
            sym (cond-false _ _ _ e) ∙ same p ∙ cond-false _ _ _ f

-- a tree has one listing
pub one_listing : {F : Type 0} (xs ys : Listing F) → IsListing xs → IsListing ys → at xs ≡ at ys → xs ≡ ys
one_listing {F} xs ys of_x of_y same = one_listed xs ys of_x.ascending of_y.ascending (some xs of_x) (some ys of_y) everywhere
  where
    some : (rows : Listing F) → IsListing rows → AllByRecursion (λ row. row.content ≢ Absent) rows
    some rows lists = weaker (λ (row : Row F). IsPath row.path × (row.path ≢ []) × (row.content ≢ Absent)) (λ row. row.content ≢ Absent) (λ row h. h.2) rows lists.rows_are

    everywhere : (p : Path) → listed xs p ≡ listed ys p
    everywhere [] = root_not_listed xs of_x ∙ sym (root_not_listed ys of_y)
    everywhere (n ∷ p) = at_each same (n ∷ p)
