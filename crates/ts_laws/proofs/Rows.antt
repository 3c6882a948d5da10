-- Rows from a tree: what is at finitely many paths, listed in path order.
use Rattle.std.proofs.Common.{◌≡◌, ◌≢◌, ◌⊎◌, Ordering, Less, Equal, Greater, Option, Some, None, List, [], ◌∷◌, ◌++◌, refl, sym, ap, ◌∙◌, subst, inl, inr, append_assoc}
use Rattle.std.specs.List.{AllByRecursion}
use Rattle.ts_name.specs.Paths.{Name, Path, IsPath, IsBefore, path_cmp, below}
use Rattle.ts_model.specs.Trees.{IsTree, Listing, listed, at, sub, Ascend, IsListing, IsSubListing}
use Rattle.ts_model.specs.declared.row.Content.{Content}
use Rattle.ts_model.specs.declared.row.Content.TheVariants.{Absent, Dir, File}
use Rattle.ts_model.specs.declared.row.Row.{Row}
use Rattle.ts_name.specs.Laws.{tied_paths}
use Rattle.ts_name.proofs.Prefixes.{below_append, rest_is_path}
use Rattle.ts_name.proofs.Order.{before_flip}
use Rattle.ts_name.proofs.Basics.{at_each, by_each, weaker}
use Rattle.ts_laws.proofs.Lists.{Among, Among-from_Contains}
use Rattle.ts_laws.proofs.Listings.{paths_of, decide_absent, listed_among}
use Rattle.ts_model.proofs.Rows.{listed_here, listed_there}
use Rattle.ts_model.proofs.Deciding.{same_names}

-- ---- a row put in its place

-- a row among others, unless its path has one
put_row : {F : Type 0} → Row F → Listing F → Listing F
put_row x [] = x ∷ []
put_row x (y ∷ rows) = elim (path_cmp x.path y.path) [ Less ↦ x ∷ y ∷ rows | Equal ↦ y ∷ rows | Greater ↦ y ∷ put_row x rows ]

-- it keeps the order, also after an earlier row
put_ascends_after : {F : Type 0} (r x : Row F) (rows : Listing F) → IsBefore r.path x.path → Ascend (r ∷ rows) → Ascend (r ∷ put_row x rows)
unfolding put_row
put_ascends_after r x [] before ascend = (before, tt)
put_ascends_after {F} r x (y ∷ rows) before ascend = go (path_cmp x.path y.path) refl (λ after. put_ascends_after y x rows after ascend.1)
  where
    go : (o : Ordering) → path_cmp x.path y.path ≡ o → (IsBefore y.path x.path → Ascend (y ∷ put_row x rows))
        → Ascend (r ∷ elim o [ Less ↦ x ∷ y ∷ rows | Equal ↦ y ∷ rows | Greater ↦ y ∷ put_row x rows ])
    go Less e more = (before, (e, ascend.1))
    go Equal e more = ascend
    go Greater e more = (ascend.0, more (before_flip x.path y.path e))

-- it keeps the order
put_ascends : {F : Type 0} (x : Row F) (rows : Listing F) → Ascend rows → Ascend (put_row x rows)
unfolding put_row
put_ascends x [] ascend = tt
put_ascends {F} x (y ∷ rows) ascend = go (path_cmp x.path y.path) refl
  where
    go : (o : Ordering) → path_cmp x.path y.path ≡ o → Ascend (elim o [ Less ↦ x ∷ y ∷ rows | Equal ↦ y ∷ rows | Greater ↦ y ∷ put_row x rows ])
    go Less e = (e, ascend)
    go Equal e = ascend
    go Greater e = put_ascends_after y x rows (before_flip x.path y.path e) ascend

-- what was there stays there
put_keeps : {F : Type 0} (x : Row F) (rows : Listing F) (q : Path) → Among q (paths_of rows) → Among q (paths_of (put_row x rows))
unfolding put_row
put_keeps x [] q among = absurd among
put_keeps {F} x (y ∷ rows) q among = go (path_cmp x.path y.path) among (λ more. put_keeps x rows q more)
  where
    go : (o : Ordering) → (y.path ≡ q) ⊎ Among q (paths_of rows) → (Among q (paths_of rows) → Among q (paths_of (put_row x rows)))
        → Among q (paths_of (elim o [ Less ↦ x ∷ y ∷ rows | Equal ↦ y ∷ rows | Greater ↦ y ∷ put_row x rows ]))
    go Less h more = inr h
    go Equal h more = h
    go Greater (inl e) more = inl e
    go Greater (inr h) more = inr (more h)

-- and its own path is
put_adds : {F : Type 0} (x : Row F) (rows : Listing F) → Among x.path (paths_of (put_row x rows))
unfolding put_row
put_adds x [] = inl refl
put_adds {F} x (y ∷ rows) = go (path_cmp x.path y.path) refl (put_adds x rows)
  where
    go : (o : Ordering) → path_cmp x.path y.path ≡ o → Among x.path (paths_of (put_row x rows))
        → Among x.path (paths_of (elim o [ Less ↦ x ∷ y ∷ rows | Equal ↦ y ∷ rows | Greater ↦ y ∷ put_row x rows ]))
    go Less e more = inl refl
    go Equal e more = inl (sym (tied_paths x.path y.path e))
    go Greater e more = inr more

-- what holds of it and of the others holds of all
put_all : {F : Type 0} (P : Row F → Type 0) (x : Row F) (rows : Listing F) → P x → AllByRecursion P rows → AllByRecursion P (put_row x rows)
unfolding put_row
put_all P x [] h all = (h, tt)
put_all {F} P x (y ∷ rows) h all = go (path_cmp x.path y.path) (put_all P x rows h all.1)
  where
    go : (o : Ordering) → AllByRecursion P (put_row x rows) → AllByRecursion P (elim o [ Less ↦ x ∷ y ∷ rows | Equal ↦ y ∷ rows | Greater ↦ y ∷ put_row x rows ])
    go Less more = (h, all)
    go Equal more = all
    go Greater more = (all.0, more)

-- ---- rows of what is at some paths

-- a path's row, unless there is nothing
with_row : {F : Type 0} → Path → Content F → Listing F → Listing F
with_row p Absent rows = rows
with_row p Dir rows = put_row (record { path = p; content = Dir }) rows
with_row p (File x) rows = put_row (record { path = p; content = File x }) rows

-- rows of what is at these paths
pub rows_at : {F : Type 0} → (Path → Content F) → List Path → Listing F
rows_at t [] = []
rows_at t (p ∷ ps) = with_row p (t p) (rows_at t ps)

-- rows that say what a function says
pub record ListsAll {F : Type 0} (t : Path → Content F) (rows : Listing F) : Type 0 where
  pub ascending : Ascend rows
  pub each : AllByRecursion (λ row. (row.content ≡ t row.path) × (row.content ≢ Absent)) rows
  pub all : (p : Path) → listed rows p ≡ t p

-- they ascend
rows_ascend : {F : Type 0} (t : Path → Content F) (ps : List Path) → Ascend (rows_at t ps)
unfolding rows_at with_row
rows_ascend t [] = tt
rows_ascend {F} t (p ∷ ps) = go (t p) (rows_ascend t ps)
  where
    go : (x : Content F) → Ascend (rows_at t ps) → Ascend (with_row p x (rows_at t ps))
    go Absent more = more
    go Dir more = put_ascends _ (rows_at t ps) more
    go (File x) more = put_ascends _ (rows_at t ps) more

-- each says what is there
rows_each : {F : Type 0} (t : Path → Content F) (ps : List Path) → AllByRecursion (λ row. (row.content ≡ t row.path) × (row.content ≢ Absent)) (rows_at t ps)
unfolding rows_at with_row
rows_each t [] = tt
rows_each {F} t (p ∷ ps) = go (t p) refl (rows_each t ps)
  where
    Says : Row F → Type 0
    Says row = (row.content ≡ t row.path) × (row.content ≢ Absent)

    go : (x : Content F) → t p ≡ x → AllByRecursion (λ row. (row.content ≡ t row.path) × (row.content ≢ Absent)) (rows_at t ps)
        → AllByRecursion (λ row. (row.content ≡ t row.path) × (row.content ≢ Absent)) (with_row p x (rows_at t ps))
    go Absent e more = more
    go Dir e more = put_all (λ row. (row.content ≡ t row.path) × (row.content ≢ Absent)) (record { path = p; content = Dir }) (rows_at t ps) (sym e, λ f. cc) more
    go (File x) e more = put_all (λ row. (row.content ≡ t row.path) × (row.content ≢ Absent)) (record { path = p; content = File x }) (rows_at t ps) (sym e, λ f. cc) more

-- and what is there has its path among them
rows_among : {F : Type 0} (t : Path → Content F) (ps : List Path) (q : Path) → t q ≢ Absent → Among q ps → Among q (paths_of (rows_at t ps))
unfolding rows_at with_row
rows_among t [] q there among = absurd among
rows_among {F} t (p ∷ ps) q there among = go (t p) refl among (λ more. rows_among t ps q there more)
  where
    go : (x : Content F) → t p ≡ x → (p ≡ q) ⊎ Among q ps → (Among q ps → Among q (paths_of (rows_at t ps))) → Among q (paths_of (with_row p x (rows_at t ps)))
    go Absent e (inl same) more = absurd (there (ap t (sym same) ∙ e))
    go Absent e (inr h) more = more h
    go Dir e (inl same) more = subst (λ z. Among z (paths_of (put_row (record { path = p; content = Dir }) (rows_at t ps)))) same (put_adds (record { path = p; content = Dir }) (rows_at t ps))
    go Dir e (inr h) more = put_keeps _ (rows_at t ps) q (more h)
    go (File x) e (inl same) more = subst (λ z. Among z (paths_of (put_row (record { path = p; content = File x }) (rows_at t ps)))) same (put_adds (record { path = p; content = File x }) (rows_at t ps))
    go (File x) e (inr h) more = put_keeps _ (rows_at t ps) q (more h)

-- a path among rows that say what t says has that content
listed_says : {F : Type 0} (t : Path → Content F) (rows : Listing F) → AllByRecursion (λ row. (row.content ≡ t row.path) × (row.content ≢ Absent)) rows
    → (p : Path) → Among p (paths_of rows) → listed rows p ≡ t p
listed_says t [] each p among = absurd among
listed_says {F} t (row ∷ rows) each p among = go (same_names row.path p) among (λ more. listed_says t rows each.1 p more)
  where
    go : Dec (row.path ≡ p) → (row.path ≡ p) ⊎ Among p (paths_of rows) → (Among p (paths_of rows) → listed rows p ≡ t p) → listed (row ∷ rows) p ≡ t p
    go (yes e) h more = ap (listed (row ∷ rows)) (sym e) ∙ listed_here row rows ∙ each.0.0 ∙ ap t e
    go (no n) (inl e) more = absurd (n e)
    go (no n) (inr h) more = listed_there row rows p n ∙ more h

-- what is there at finitely many paths alone has rows
pub rows_of : {F : Type 0} (t : Path → Content F) (ps : List Path) → ((p : Path) → t p ≢ Absent → Among p ps) → ListsAll t (rows_at t ps)
rows_of t ps within = record {
  ascending = rows_ascend t ps;
  each = rows_each t ps;
  all = λ p. elim (decide_absent (t p)) [
    | no there ↦ listed_says t (rows_at t ps) (rows_each t ps) p (rows_among t ps p there (within p there))
    | yes gone ↦ elim (decide_absent (listed (rows_at t ps) p)) [
      | yes none ↦ none ∙ sym gone
      | no some ↦ listed_says t (rows_at t ps) (rows_each t ps) p (listed_among (rows_at t ps) p some)
    ]
  ];
}

-- ---- the rows of a tree

-- what is at each path but the root
without_root : {F : Type 0} → (Path → Content F) → Path → Content F
without_root t [] = Absent
without_root t (name ∷ names) = t (name ∷ names)

-- what is there is not at the root, and there in the tree
without_root_there : {F : Type 0} (t : Path → Content F) (p : Path) → without_root t p ≢ Absent → (p ≢ []) × (t p ≢ Absent)
unfolding without_root
without_root_there t [] there = absurd (there refl)
without_root_there t (name ∷ names) there = (λ e. cc, there)

-- elsewhere it is the same
without_root_same : {F : Type 0} (t : Path → Content F) (p : Path) → p ≢ [] → without_root t p ≡ t p
unfolding without_root
without_root_same t [] differ = absurd (differ refl)
without_root_same t (name ∷ names) differ = refl

-- the rows are a listing of this tree
pub record IsListingOf {F : Type 0} (t : Path → Content F) (rows : Listing F) : Type 0 where
  pub listing : IsListing rows
  pub each : AllByRecursion (λ row. row.content ≡ t row.path) rows
  pub same : at rows ≡ t

-- a tree has a listing
pub listing_of : {F : Type 0} (t : Path → Content F) → IsTree t → (rows : Listing F) × IsListingOf t rows
unfolding without_root
listing_of {F} t tree = (rows, record { listing = record { ascending = lists.ascending; rows_are = rows_are; parents = parents }; each = each; same = same })
  where
    rows : Listing F
    rows = rows_at (without_root t) tree.present

    lists : ListsAll (without_root t) rows
    lists = rows_of (without_root t) tree.present (λ p there. Among-from_Contains tree.present p (tree.finite p (without_root_there t p there).1))

    rows_are : AllByRecursion (λ row. IsPath row.path × (row.path ≢ []) × (row.content ≢ Absent)) rows
    rows_are = weaker (λ (row : Row F). (row.content ≡ without_root t row.path) × (row.content ≢ Absent)) (λ row. IsPath row.path × (row.path ≢ []) × (row.content ≢ Absent))
        (λ row h. let there = without_root_there t row.path (λ gone. h.1 (h.0 ∙ gone)) in (tree.paths row.path there.1, there.0, h.1)) rows lists.each

    each : AllByRecursion (λ row. row.content ≡ t row.path) rows
    each = weaker (λ (row : Row F). (row.content ≡ without_root t row.path) × (row.content ≢ Absent)) (λ row. row.content ≡ t row.path)
        (λ row h. h.0 ∙ without_root_same t row.path (without_root_there t row.path (λ gone. h.1 (h.0 ∙ gone))).0) rows lists.each

    same : at rows ≡ t
    same = by_each (at rows) t here
      where
        here : (p : Path) → at rows p ≡ t p
        here [] = sym tree.root
        here (name ∷ names) = lists.all (name ∷ names)

    parents : (p : Path) (name : Name) → at rows (p ++ name ∷ []) ≢ Absent → at rows p ≡ Dir
    parents p name there = at_each same p ∙ tree.parents p name (λ gone. there (at_each same (p ++ name ∷ []) ∙ gone))

-- ---- the rows at and below a path

-- what is left below a path of others
rests : Path → List Path → List Path
rests p [] = []
rests p (q ∷ qs) = elim (below p q) [ None ↦ rests p qs | Some rest ↦ rest ∷ rests p qs ]

-- what is left of one of them is among these
rests_among : (p rest : Path) (qs : List Path) → Among (p ++ rest) qs → Among rest (rests p qs)
unfolding rests
rests_among p rest [] among = absurd among
rests_among p rest (q ∷ qs) among = go (below p q) refl among (λ more. rests_among p rest qs more)
  where
    left : q ≡ p ++ rest → below p q ≡ Some rest
    left e = ap (below p) e ∙ below_append p rest

    go : (o : Option Path) → below p q ≡ o → (q ≡ p ++ rest) ⊎ Among (p ++ rest) qs → (Among (p ++ rest) qs → Among rest (rests p qs))
        → Among rest (elim o [ None ↦ rests p qs | Some rest ↦ rest ∷ rests p qs ])
    go None e (inl same) more = let f = sym (left same) ∙ e in cc
    go None e (inr h) more = more h
    go (Some found) e (inl same) more = inl (let f = sym (left same) ∙ e in cc)
    go (Some found) e (inr h) more = inr (more h)

-- the rows are those of a subtree
pub record IsSubListingOf {F : Type 0} (t : Path → Content F) (p : Path) (rows : Listing F) : Type 0 where
  pub listing : IsSubListing rows
  pub same : listed rows ≡ sub t p

-- a subtree has a listing
pub sub_listing_of : {F : Type 0} (t : Path → Content F) → IsTree t → (p : Path) → (rows : Listing F) × IsSubListingOf t p rows
sub_listing_of {F} t tree p = (rows, record { listing = record { ascending = lists.ascending; rows_are = rows_are; parents = parents }; same = same })
  where
    rows : Listing F
    rows = rows_at (sub t p) (rests p tree.present)

    lists : ListsAll (sub t p) rows
    lists = rows_of (sub t p) (rests p tree.present) (λ rest there. rests_among p rest tree.present (Among-from_Contains tree.present (p ++ rest) (tree.finite (p ++ rest) there)))

    rows_are : AllByRecursion (λ row. IsPath row.path × (row.content ≢ Absent)) rows
    rows_are = weaker (λ (row : Row F). (row.content ≡ sub t p row.path) × (row.content ≢ Absent)) (λ row. IsPath row.path × (row.content ≢ Absent))
        (λ row h. (rest_is_path p row.path (tree.paths (p ++ row.path) (λ gone. h.1 (h.0 ∙ gone))), h.1)) rows lists.each

    same : listed rows ≡ sub t p
    same = by_each (listed rows) (sub t p) lists.all

    parents : (q : Path) (name : Name) → listed rows (q ++ name ∷ []) ≢ Absent → listed rows q ≡ Dir
    parents q name there =
        lists.all q ∙ tree.parents (p ++ q) name (λ gone. there (lists.all (q ++ name ∷ []) ∙ ap t (sym (append_assoc p q (name ∷ []))) ∙ gone))
