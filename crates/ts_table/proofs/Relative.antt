-- The rows below a path, seen from it.
use Rattle.std.proofs.Common.{◌≡◌, ◌≢◌, ℕ, ◌+◌, ◌<◌, get_or, take, Bool, true, false, cond, [], ◌∷◌, ◌++◌, length, Option, Some, None, refl, sym, ap, ap₂, ◌∙◌, subst, append_assoc, append-nil}
use Rattle.std.proofs.lemmas.Bool.{cond-true, cond-false}
use Rattle.std.proofs.lemmas.List.{take_more, append_cancel_left}
use Rattle.std.specs.List.{AllByRecursion}
use Rattle.ts_name.specs.Paths.{Path, IsPath, IsBefore, same_path, path_cmp, below}
use Rattle.ts_model.specs.Trees.{Listing, listed, at, Ascend, IsListing, IsSubListing, sub}
use Rattle.ts_model.specs.Runs.{bare_directory}
use Rattle.ts_model.specs.declared.row.Content.{Content}
use Rattle.ts_model.specs.declared.row.Content.TheVariants.{Absent, Dir}
use Rattle.ts_model.specs.declared.row.Row.{Row}
use Rattle.ts_table.specs.Tables.{is_above, rows_below, relative, root_row}
use Rattle.ts_name.specs.Laws.{same_path_equal, same_path_itself, same_path_differ}
use Rattle.ts_name.proofs.Prefixes.{below_gives, not_above, rest_is_path}
use Rattle.ts_name.proofs.Order.{cmp_below}
use Rattle.ts_name.proofs.Utf8.{all_append}
use Rattle.ts_name.proofs.Basics.{by_each, weaker}
use Rattle.ts_table.proofs.Rows.{ascend_cons}
use Rattle.ts_table.proofs.Listings.{filter_ascend, filter_all, listed_below}
use Rattle.ts_table.proofs.Cuts.{HasParents, IsPath-root}
use Rattle.ts_model.proofs.Rows.{ascend_rest}
use Rattle.ts_model.proofs.Listings.{ascend_first}

-- rows are seen from a path part by part
pub relative_append : {F : Type 0} (p : Path) (xs ys : Listing F) → relative p (xs ++ ys) ≡ relative p xs ++ relative p ys
relative_append p [] ys = refl
relative_append {F} p (x ∷ xs) ys = go (below p x.path) (relative_append p xs ys)
  where
    go : (o : Option Path) → relative p (xs ++ ys) ≡ relative p xs ++ relative p ys → ◌≡◌ {A = Listing F} (elim o [ None ↦ relative p (xs ++ ys) | Some rest ↦ record { path = rest; content = x.content } ∷ relative p (xs ++ ys) ]) (elim o [ None ↦ relative p xs | Some rest ↦ record { path = rest; content = x.content } ∷ relative p xs ] ++ relative p ys)
    go None e = e
    go (Some rest) e = ap (λ z. record { path = rest; content = x.content } ∷ z) e

-- one more row that is below
pub relative_push : {F : Type 0} (p : Path) (front xs : Listing F) (row : Row F) (rest : Path) → Some rest ≡ below p row.path → front ++ relative p (xs ++ row ∷ []) ≡ (front ++ relative p xs) ++ record { path = rest; content = row.content } ∷ []
relative_push {F} p front xs row rest e = ap (λ z. front ++ z) (relative_append p xs (row ∷ []) ∙ ap (λ z. relative p xs ++ z) (one (below p row.path) e)) ∙ sym (append_assoc front (relative p xs) _)
  where
    one : (o : Option Path) → Some rest ≡ o → ◌≡◌ {A = Listing F} (elim o [ None ↦ [] | Some more ↦ record { path = more; content = row.content } ∷ [] ]) (record { path = rest; content = row.content } ∷ [])
    one None f = cc
    one (Some more) f = let same : more ≡ rest = cc in ap (λ z. record { path = z; content = row.content } ∷ []) same

-- and one that isn't
pub relative_skip : {F : Type 0} (p : Path) (front xs : Listing F) (row : Row F) → None ≡ below p row.path → front ++ relative p (xs ++ row ∷ []) ≡ front ++ relative p xs
relative_skip {F} p front xs row e = ap (λ z. front ++ z) (relative_append p xs (row ∷ []) ∙ ap (λ z. relative p xs ++ z) (one (below p row.path) e) ∙ append-nil (relative p xs))
  where
    one : (o : Option Path) → None ≡ o → ◌≡◌ {A = Listing F} (elim o [ None ↦ [] | Some more ↦ record { path = more; content = row.content } ∷ [] ]) []
    one None f = refl
    one (Some more) f = cc

-- rows seen from a path list what stands below it
pub listed_relative : {F : Type 0} (p rest : Path) (rows : Listing F) → listed (relative p rows) rest ≡ listed rows (p ++ rest)
listed_relative p rest [] = refl
listed_relative {F} p rest (row ∷ rows) = go (below p row.path) refl (listed_relative p rest rows)
  where
    go : (o : Option Path) → below p row.path ≡ o → listed (relative p rows) rest ≡ listed rows (p ++ rest) → ◌≡◌ {A = Content F} (listed (elim o [ None ↦ relative p rows | Some more ↦ record { path = more; content = row.content } ∷ relative p rows ]) rest) (cond (same_path row.path (p ++ rest)) row.content (listed rows (p ++ rest)))
    go None e more = more ∙ sym (cond-false _ _ _ (same_path_differ row.path (p ++ rest) (λ same. not_above p row.path e (rest, same))))
    go (Some this) e more = tested (same_path this rest) refl
      where
        is : row.path ≡ p ++ this
        is = below_gives p row.path this e

        tested : (b : Bool) → same_path this rest ≡ b → cond (same_path this rest) row.content (listed (relative p rows) rest) ≡ cond (same_path row.path (p ++ rest)) row.content (listed rows (p ++ rest))
        tested true f =
            let same : row.path ≡ p ++ rest = is ∙ ap (λ z. p ++ z) (same_path_equal this rest f) in
            let g : same_path row.path (p ++ rest) ≡ true = subst (λ z. same_path row.path z ≡ true) same (same_path_itself row.path) in
            cond-true _ _ _ f ∙ sym (cond-true _ _ _ g)
        tested false f =
            let g : same_path row.path (p ++ rest) ≡ false = same_path_differ row.path (p ++ rest) (λ same. let h = append_cancel_left p this rest (sym is ∙ same) in let k : same_path this rest ≡ true = subst (λ z. same_path this z ≡ true) h (same_path_itself this) in cc) in
            cond-false _ _ _ f ∙ more ∙ sym (cond-false _ _ _ g)

-- what holds of the rest of each row below the path holds of each row seen from it
relative_all : {F : Type 0} (P : Path → Type 0) (p : Path) (rows : Listing F) → AllByRecursion (λ row. (rest : Path) → row.path ≡ p ++ rest → P rest) rows → AllByRecursion (λ row. P row.path) (relative p rows)
relative_all P p [] h = tt
relative_all {F} P p (row ∷ rows) h = go (below p row.path) refl (relative_all P p rows h.1)
  where
    go : (o : Option Path) → below p row.path ≡ o → AllByRecursion (λ (row : Row F). P row.path) (relative p rows) → AllByRecursion (λ (row : Row F). P row.path) (elim o [ None ↦ relative p rows | Some rest ↦ record { path = rest; content = row.content } ∷ relative p rows ])
    go None e more = more
    go (Some rest) e more = (h.0 rest (below_gives p row.path rest e), more)

-- no row seen from a path is absent
relative_some : {F : Type 0} (p : Path) (rows : Listing F) → AllByRecursion (λ row. row.content ≢ Absent) rows → AllByRecursion (λ row. row.content ≢ Absent) (relative p rows)
relative_some p [] h = tt
relative_some {F} p (row ∷ rows) h = go (below p row.path) (relative_some p rows h.1)
  where
    go : (o : Option Path) → AllByRecursion (λ (row : Row F). row.content ≢ Absent) (relative p rows) → AllByRecursion (λ (row : Row F). row.content ≢ Absent) (elim o [ None ↦ relative p rows | Some rest ↦ record { path = rest; content = row.content } ∷ relative p rows ])
    go None more = more
    go (Some rest) more = (h.0, more)

-- rows seen from a path ascend
relative_ascend : {F : Type 0} (p : Path) (rows : Listing F) → Ascend rows → Ascend (relative p rows)
relative_ascend p [] h = tt
relative_ascend {F} p (row ∷ rows) h = go (below p row.path) refl (relative_ascend p rows (ascend_rest row rows h))
  where
    go : (o : Option Path) → below p row.path ≡ o → Ascend (relative p rows) → Ascend {F = F} (elim o [ None ↦ relative p rows | Some rest ↦ record { path = rest; content = row.content } ∷ relative p rows ])
    go None e more = more
    go (Some rest) e more =
        let is = below_gives p row.path rest e in
        ascend_cons (record { path = rest; content = row.content }) (relative p rows)
        (relative_all (λ z. IsBefore rest z) p rows (weaker (λ (other : Row F). IsBefore row.path other.path) (λ other. (z : Path) → other.path ≡ p ++ z → IsBefore rest z) (λ other before z at_z. sym (cmp_below p rest z) ∙ ap₂ path_cmp (sym is) (sym at_z) ∙ before) rows (ascend_first row rows h)))
        more

-- what `sub_table` gives
pub record IsPart {F : Type 0} (rows part : Listing F) (p : Path) : Type 0 where
  pub listing : IsSubListing part
  pub tree : listed part ≡ sub (at rows) p

-- it is the part of the tree from the path down
pub part_of : {F : Type 0} (rows : Listing F) (p : Path) → IsListing rows → IsPart rows (root_row p ++ relative p (rows_below p rows)) p
part_of {F} rows p lists = record { listing = record { ascending = ascending p refl; rows_are = all_append (λ (row : Row F). IsPath row.path × (row.content ≢ Absent)) (root_row p) _ (root_is p) rest_is; parents = parents }; tree = tree }
  where
    below_rows : AllByRecursion (λ row. IsPath row.path × (row.path ≢ []) × (row.content ≢ Absent)) (rows_below p rows)
    below_rows = filter_all (λ (row : Row F). IsPath row.path × (row.path ≢ []) × (row.content ≢ Absent)) (λ row. is_above p row.path) rows lists.rows_are

    both : (xs : Listing F) → AllByRecursion (λ row. IsPath row.path) xs → AllByRecursion (λ row. row.content ≢ Absent) xs → AllByRecursion (λ row. IsPath row.path × (row.content ≢ Absent)) xs
    both [] h k = tt
    both (x ∷ xs) h k = ((h.0, k.0), both xs h.1 k.1)

    rest_is : AllByRecursion (λ row. IsPath row.path × (row.content ≢ Absent)) (relative p (rows_below p rows))
    rest_is = both (relative p (rows_below p rows))
        (relative_all IsPath p (rows_below p rows) (weaker (λ (row : Row F). IsPath row.path × (row.path ≢ []) × (row.content ≢ Absent)) (λ row. (rest : Path) → row.path ≡ p ++ rest → IsPath rest) (λ row h rest e. rest_is_path p rest (subst (λ z. IsPath z) e h.0)) (rows_below p rows) below_rows))
        (relative_some p (rows_below p rows) (weaker (λ (row : Row F). IsPath row.path × (row.path ≢ []) × (row.content ≢ Absent)) (λ row. row.content ≢ Absent) (λ row h. h.2) (rows_below p rows) below_rows))

    root_is : (q : Path) → AllByRecursion (λ row. IsPath row.path × (row.content ≢ Absent)) (root_row {F = F} q)
    root_is [] = ((IsPath-root, (λ e. cc)), tt)
    root_is (n ∷ q) = tt

    rest_up : Ascend (relative p (rows_below p rows))
    rest_up = relative_ascend p (rows_below p rows) (filter_ascend (λ row. is_above p row.path) rows lists.ascending)

    first : (q : Path) → q ≢ [] → IsBefore [] q
    first [] some = absurd (some refl)
    first (n ∷ more) some = refl

    ascending : (q : Path) → q ≡ p → Ascend (root_row q ++ relative p (rows_below p rows))
    ascending [] e =
        ascend_cons (record { path = []; content = Dir }) (relative p (rows_below p rows))
        (relative_all (λ z. IsBefore [] z) p (rows_below p rows) (weaker (λ (row : Row F). IsPath row.path × (row.path ≢ []) × (row.content ≢ Absent)) (λ row. (rest : Path) → row.path ≡ p ++ rest → IsBefore [] rest) (λ row h rest is. first rest (λ none. h.1 (is ∙ ap₂ ◌++◌ (sym e) none))) (rows_below p rows) below_rows))
        rest_up
    ascending (n ∷ q) e = rest_up

    tree : listed (root_row p ++ relative p (rows_below p rows)) ≡ sub (at rows) p
    tree = by_each _ _ (everywhere p (λ rest. listed_relative p rest (rows_below p rows) ∙ listed_below p (p ++ rest) rows (rest, refl)))
      where
        everywhere : (q : Path) → ((rest : Path) → listed (relative p (rows_below p rows)) rest ≡ listed rows (q ++ rest)) → (rest : Path) → listed (root_row q ++ relative p (rows_below p rows)) rest ≡ at rows (q ++ rest)
        everywhere [] h [] = refl
        everywhere [] h (n ∷ rest) = h (n ∷ rest)
        everywhere (n ∷ q) h rest = h rest

    parents : HasParents (listed (root_row p ++ relative p (rows_below p rows)))
    parents = subst HasParents (sym tree) (λ q name there. lists.parents (p ++ q) name (λ gone. there (ap (at rows) (sym (append_assoc p q (name ∷ []))) ∙ gone)))

-- a directory alone
pub listed_dir : {F : Type 0} → listed {F = F} (record { path = []; content = Dir } ∷ []) ≡ bare_directory
listed_dir {F} = by_each _ _ everywhere
  where
    everywhere : (q : Path) → listed {F = F} (record { path = []; content = Dir } ∷ []) q ≡ bare_directory q
    everywhere [] = refl
    everywhere (n ∷ q) = refl

-- a loop's step: the row at an index is below the path, or it isn't
pub relative_more : {F : Type 0} (p : Path) (front xs : Listing F) (i : ℕ) (row : Row F) (rest : Path) → i < length xs → row ≡ get_or xs i row → Some rest ≡ below p row.path → front ++ relative p (take (i + 1) xs) ≡ (front ++ relative p (take i xs)) ++ record { path = rest; content = row.content } ∷ []
relative_more p front xs i row rest under is e =
    ap (λ z. front ++ relative p z) (take_more xs i row under ∙ ap (λ z. take i xs ++ z ∷ []) (sym is)) ∙ relative_push p front (take i xs) row rest e

-- the row at an index is not below the path
pub relative_pass : {F : Type 0} (p : Path) (front xs : Listing F) (i : ℕ) (row : Row F) → i < length xs → row ≡ get_or xs i row → None ≡ below p row.path → front ++ relative p (take (i + 1) xs) ≡ front ++ relative p (take i xs)
relative_pass p front xs i row under is e =
    ap (λ z. front ++ relative p z) (take_more xs i row under ∙ ap (λ z. take i xs ++ z ∷ []) (sym is)) ∙ relative_skip p front (take i xs) row e
