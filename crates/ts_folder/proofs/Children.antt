-- The children of a directory among the rows of a tree.
use Rattle.std.proofs.Common.{◌≡◌, ◌≢◌, ◌⊎◌, ℕ, zero, suc, ◌+◌, ◌-◌, ◌<◌, ◌≤◌, Bool, true, false, cond, List, [], ◌∷◌, ◌++◌, length, take, get_or, Option, Some, None, Ordering, Less, Equal, Greater, refl, sym, ap, ◌∙◌, subst, inl, inr, arith, append-nil, Contains}
use Rattle.std.proofs.lemmas.Bool.{cond-true, cond-false}
use Rattle.std.proofs.lemmas.List.{take_more}
use Rattle.std.proofs.lemmas.List.Elements.{filter_map-append}
use Rattle.std.specs.List.{AllByRecursion, cons_option}
use Rattle.std.specs.Cmp.Lexicographic.{slice_cmp}
use Rattle.std.specs.Ordering.{nat_cmp, ordering_then}
use Rattle.ts_name.specs.Paths.{Name, Path, IsName, IsPath, IsBefore, same_path, below}
use Rattle.ts_name.proofs.Prefixes.{below_append, below_gives}
use Rattle.ts_name.proofs.Order.{cmp_below, before_itself}
use Rattle.ts_model.specs.Trees.{Listing, IsListing, Ascend, listed, at}
use Rattle.ts_model.specs.declared.row.Content.{Content}
use Rattle.ts_model.specs.declared.row.Content.TheVariants.{Absent, Dir, File}
use Rattle.ts_model.specs.declared.row.Row.{Row}
use Rattle.ts_table.specs.Tables.{is_above, rows_below}
use Rattle.ts_name.specs.Laws.{same_path_equal, same_path_differ}
use Rattle.ts_name.proofs.Utf8.{all_parts}
use Rattle.ts_name.proofs.Basics.{weaker}
use Rattle.ts_table.proofs.Listings.{not_above_gives}
use Rattle.ts_folder.specs.Children.{children, child_of, kind_of, named}
use Rattle.ts_folder.specs.Folders.{AreChildren, CanBe, HasKind, InOrder}
use Rattle.ts_folder.specs.declared.folder.Kind.{Kind}
use Rattle.ts_folder.specs.declared.folder.Kind.TheVariants as kind
use Rattle.ts_model.proofs.Rows.{listed_here, ascend_rest}
use Rattle.ts_model.proofs.Listings.{ascend_first, listed_none}

-- ---- one row

-- a row that stands in the directory
pub child_here : (p : Path) (name : Name) (row : Row (List ℕ)) → row.path ≡ p ++ name ∷ [] → child_of p row ≡ Some (name, kind_of row.content)
child_here p name row e = ap (λ o. named o (kind_of row.content)) (ap (below p) e ∙ below_append p (name ∷ []))

-- and one that doesn't
pub child_none : (p : Path) (row : Row (List ℕ)) → ((name : Name) → row.path ≢ p ++ name ∷ []) → child_of p row ≡ None
child_none p row off = go (below p row.path) refl
  where
    go : (o : Option Path) → below p row.path ≡ o → named o (kind_of row.content) ≡ None
    go None f = refl
    go (Some []) f = refl
    go (Some (name ∷ [])) f = absurd (off name (below_gives p row.path (name ∷ []) f))
    go (Some (name ∷ next ∷ rest)) f = refl

-- whether it does
pub child_cases : (p : Path) (row : Row (List ℕ)) → ((name : Name) × (row.path ≡ p ++ name ∷ [])) ⊎ ((name : Name) → row.path ≢ p ++ name ∷ [])
child_cases p row = go (below p row.path) refl
  where
    go : (o : Option Path) → below p row.path ≡ o → ((name : Name) × (row.path ≡ p ++ name ∷ [])) ⊎ ((name : Name) → row.path ≢ p ++ name ∷ [])
    go None f = inr (λ name e. let g : below p row.path ≡ Some (name ∷ []) = ap (below p) e ∙ below_append p (name ∷ []) in cc)
    go (Some []) f = inr (λ name e. let g : below p row.path ≡ Some (name ∷ []) = ap (below p) e ∙ below_append p (name ∷ []) in cc)
    go (Some (name ∷ [])) f = inl (name, below_gives p row.path (name ∷ []) f)
    go (Some (name ∷ next ∷ rest)) f = inr (λ other e. let g : below p row.path ≡ Some (other ∷ []) = ap (below p) e ∙ below_append p (other ∷ []) in cc)

-- the last name of a lawful path is lawful
pub last_lawful : (parent : Path) (name : Name) (q : Path) → IsPath q → q ≡ parent ++ name ∷ [] → IsName name
last_lawful parent name q lawful e = (all_parts IsName parent (name ∷ []) (subst (λ z. AllByRecursion IsName z) e lawful.names)).1.0

-- a loop's step
pub children_more : (p : Path) (rows : Listing (List ℕ)) (i : ℕ) (d : Row (List ℕ)) → i < length rows → children p (take (i + 1) rows) ≡ children p (take i rows) ++ children p (get_or rows i d ∷ [])
children_more p rows i d under = ap (children p) (take_more rows i d under) ∙ filter_map-append (child_of p) (take i rows) (get_or rows i d ∷ [])

-- a loop's step at a row that stands in the directory
pub children_push : (p : Path) (rows : Listing (List ℕ)) (i : ℕ) (row : Row (List ℕ)) (names : List (Name × Kind)) (child : Name × Kind) → names ≡ children p (take i rows) → i < length rows → row ≡ get_or rows i row → Some child ≡ child_of p row → names ++ child ∷ [] ≡ children p (take (i + 1) rows)
children_push p rows i row names child so_far under is e =
    ap (λ z. z ++ child ∷ []) so_far ∙ ap (λ z. children p (take i rows) ++ z) (one (child_of p row) e) ∙ ap (λ z. children p (take i rows) ++ children p (z ∷ [])) is ∙ sym (children_more p rows i row under)
  where
    one : (o : Option (Name × Kind)) → Some child ≡ o → child ∷ [] ≡ cons_option o []
    one None f = cc
    one (Some x) f = let same : child ≡ x = cc in ap (λ z. z ∷ []) same

-- and at one that doesn't
pub children_pass : (p : Path) (rows : Listing (List ℕ)) (i : ℕ) (row : Row (List ℕ)) (names : List (Name × Kind)) → names ≡ children p (take i rows) → i < length rows → row ≡ get_or rows i row → None ≡ child_of p row → names ≡ children p (take (i + 1) rows)
children_pass p rows i row names so_far under is e =
    so_far ∙ sym (append-nil (children p (take i rows))) ∙ ap (λ z. children p (take i rows) ++ z) (none (child_of p row) e) ∙ ap (λ z. children p (take i rows) ++ children p (z ∷ [])) is ∙ sym (children_more p rows i row under)
  where
    none : (o : Option (Name × Kind)) → None ≡ o → [] ≡ cons_option o []
    none None f = refl
    none (Some x) f = cc

-- ---- all rows

contains_first : (x : Name × Kind) (xs : List (Name × Kind)) → Contains (x ∷ xs) x
contains_first x xs = (0, omega arith, refl)

contains_later : (x y : Name × Kind) (xs : List (Name × Kind)) → Contains xs y → Contains (x ∷ xs) y
contains_later x y xs (k, under, e) = (suc k, omega arith, e)

contains_cases : (x y : Name × Kind) (xs : List (Name × Kind)) → Contains (x ∷ xs) y → (x ≡ y) ⊎ Contains xs y
contains_cases x y xs (zero, under, e) = inl e
contains_cases x y xs (suc k, under, e) = inr (k, omega arith, e)

not_absent : (k : Kind) → ¬ HasKind Absent k
not_absent kind.Dir e = cc
not_absent kind.File e = let f = e.1 in cc
not_absent kind.Unseen e = e

has_kind_of : (x : Content (List ℕ)) → x ≢ Absent → HasKind x (kind_of x)
has_kind_of Absent there = absurd (there refl)
has_kind_of Dir there = refl
has_kind_of (File bytes) there = (bytes, refl)

kind_is : (x : Content (List ℕ)) (k : Kind) → HasKind x k → kind_of x ≡ k
kind_is Absent k h = absurd (not_absent k h)
kind_is Dir kind.Dir h = refl
kind_is Dir kind.File h = let f = h.1 in cc
kind_is (File bytes) kind.Dir h = cc
kind_is (File bytes) kind.File h = refl
kind_is Dir kind.Unseen h = absurd h
kind_is (File bytes) kind.Unseen h = absurd h

-- what was seen to be of a kind is of it, and what is of one is there
pub can_be : (x : Content (List ℕ)) (k : Kind) → HasKind x k → CanBe x k
can_be x kind.Dir h = h
can_be x kind.File h = h
can_be x kind.Unseen h = absurd h

pub kind_there : (x : Content (List ℕ)) (k : Kind) → CanBe x k → x ≢ Absent
kind_there x kind.Dir h none = let f : ◌≡◌ {A = Content (List ℕ)} Dir Absent = sym h ∙ none in cc
kind_there x kind.File h none = let f : ◌≡◌ {A = Content (List ℕ)} (File h.0) Absent = sym h.1 ∙ none in cc
kind_there x kind.Unseen h none = h none

-- a child of the rows is listed
child_listed : (p : Path) (rows : Listing (List ℕ)) (name : Name) (k : Kind) → Ascend rows → AllByRecursion (λ row. row.content ≢ Absent) rows → Contains (children p rows) (name, k) → HasKind (listed rows (p ++ name ∷ [])) k
child_listed p [] name k up there (i, under, e) = absurd (omega arith)
child_listed p (row ∷ rows) name k up there h = elim (child_cases p row) [
  | inl here ↦ at_row (child_listed p rows name k (ascend_rest row rows up) there.1) here.0 here.1 (contains_cases (here.0, kind_of row.content) (name, k) (children p rows) (subst (λ o. Contains (cons_option o (children p rows)) (name, k)) (child_here p here.0 row here.1) h))
  | inr off ↦ skip (off name) (child_listed p rows name k (ascend_rest row rows up) there.1 (subst (λ o. Contains (cons_option o (children p rows)) (name, k)) (child_none p row off) h))
]
  where
    skip : row.path ≢ p ++ name ∷ [] → HasKind (listed rows (p ++ name ∷ [])) k → HasKind (listed (row ∷ rows) (p ++ name ∷ [])) k
    skip off found = subst (λ x. HasKind x k) (sym (cond-false _ _ _ (same_path_differ row.path (p ++ name ∷ []) off))) found

    -- no later row has the path of this one
    once : row.path ≡ p ++ name ∷ [] → listed rows (p ++ name ∷ []) ≡ Absent
    once e = listed_none rows (p ++ name ∷ []) (subst (λ q. AllByRecursion (λ (other : Row (List ℕ)). other.path ≢ q) rows) e (weaker (λ (other : Row (List ℕ)). IsBefore row.path other.path) (λ other. other.path ≢ row.path) (λ other before same. before_itself row.path (subst (λ z. IsBefore row.path z) same before)) rows (ascend_first row rows up)))

    at_row : (Contains (children p rows) (name, k) → HasKind (listed rows (p ++ name ∷ [])) k) → (here : Name) → row.path ≡ p ++ here ∷ [] → (◌≡◌ {A = Name × Kind} (here, kind_of row.content) (name, k)) ⊎ Contains (children p rows) (name, k) → HasKind (listed (row ∷ rows) (p ++ name ∷ [])) k
    at_row later here path (inl same) =
        let path_is : row.path ≡ p ++ name ∷ [] = path ∙ ap (λ (c : Name × Kind). p ++ c.0 ∷ []) same in
        let content : listed (row ∷ rows) (p ++ name ∷ []) ≡ row.content = ap (listed (row ∷ rows)) (sym path_is) ∙ listed_here row rows in
        subst (λ x. HasKind x k) (sym content) (subst (λ m. HasKind row.content m) (ap (λ (c : Name × Kind). c.1) same) (has_kind_of row.content there.0))
    at_row later here path (inr more) =
        let found = later more in
        skip (λ e. not_absent k (subst (λ x. HasKind x k) (once e) found)) found

-- what is listed in the directory is a child of the rows
listed_child : (p : Path) (rows : Listing (List ℕ)) (name : Name) (k : Kind) → HasKind (listed rows (p ++ name ∷ [])) k → Contains (children p rows) (name, k)
listed_child p [] name k h = absurd (not_absent k h)
listed_child p (row ∷ rows) name k h = go (listed_child p rows name k) (same_path row.path (p ++ name ∷ [])) refl
  where
    go : (HasKind (listed rows (p ++ name ∷ [])) k → Contains (children p rows) (name, k)) → (b : Bool) → same_path row.path (p ++ name ∷ []) ≡ b → Contains (children p (row ∷ rows)) (name, k)
    go later true e =
        let kind : kind_of row.content ≡ k = kind_is row.content k (subst (λ x. HasKind x k) (cond-true _ _ _ e) h) in
        subst (λ o. Contains (cons_option o (children p rows)) (name, k)) (sym (child_here p name row (same_path_equal row.path (p ++ name ∷ []) e)))
        (subst (λ m. Contains ((name, m) ∷ children p rows) (name, k)) (sym kind) (contains_first (name, k) (children p rows)))
    go later false e = behind (child_of p row) (later (subst (λ x. HasKind x k) (cond-false _ _ _ e) h))
      where
        behind : (o : Option (Name × Kind)) → Contains (children p rows) (name, k) → Contains (cons_option o (children p rows)) (name, k)
        behind None more = more
        behind (Some child) more = contains_later child (name, k) (children p rows) more

-- ---- their order

in_order_cons : (child : Name × Kind) (names : List (Name × Kind)) → AllByRecursion (λ next. slice_cmp nat_cmp child.0 next.0 ≡ Less) names → InOrder names → InOrder (child ∷ names)
in_order_cons child [] all up = tt
in_order_cons child (next ∷ names) all up = (all.0, up)

-- paths in one directory are in the order of their names
names_in_order : (p : Path) (m n : Name) → IsBefore (p ++ m ∷ []) (p ++ n ∷ []) → slice_cmp nat_cmp m n ≡ Less
names_in_order p m n before = go (slice_cmp nat_cmp m n) (sym (cmp_below p (m ∷ []) (n ∷ [])) ∙ before)
  where
    go : (o : Ordering) → ordering_then o Equal ≡ Less → o ≡ Less
    go Less e = refl
    go Equal e = cc
    go Greater e = cc

later_names : (p : Path) (name : Name) (rows : Listing (List ℕ)) → AllByRecursion (λ row. IsBefore (p ++ name ∷ []) row.path) rows → AllByRecursion (λ (child : Name × Kind). slice_cmp nat_cmp name child.0 ≡ Less) (children p rows)
later_names p name [] all = tt
later_names p name (row ∷ rows) all = elim (child_cases p row) [
  | inl here ↦ subst (λ o. AllByRecursion (λ (child : Name × Kind). slice_cmp nat_cmp name child.0 ≡ Less) (cons_option o (children p rows))) (sym (child_here p here.0 row here.1)) (names_in_order p name here.0 (subst (λ q. IsBefore (p ++ name ∷ []) q) here.1 all.0), later_names p name rows all.1)
  | inr off ↦ subst (λ o. AllByRecursion (λ (child : Name × Kind). slice_cmp nat_cmp name child.0 ≡ Less) (cons_option o (children p rows))) (sym (child_none p row off)) (later_names p name rows all.1)
]

pub children_in_order : (p : Path) (rows : Listing (List ℕ)) → Ascend rows → InOrder (children p rows)
children_in_order p [] up = tt
children_in_order p (row ∷ rows) up = go (children_in_order p rows (ascend_rest row rows up)) (child_cases p row)
  where
    go : InOrder (children p rows) → ((name : Name) × (row.path ≡ p ++ name ∷ [])) ⊎ ((name : Name) → row.path ≢ p ++ name ∷ []) → InOrder (children p (row ∷ rows))
    go more (inl here) = subst (λ o. InOrder (cons_option o (children p rows))) (sym (child_here p here.0 row here.1)) (in_order_cons (here.0, kind_of row.content) (children p rows) (later_names p here.0 rows (subst (λ q. AllByRecursion (λ (other : Row (List ℕ)). IsBefore q other.path) rows) here.1 (ascend_first row rows up))) more)
    go more (inr off) = subst (λ o. InOrder (cons_option o (children p rows))) (sym (child_none p row off)) more

-- ---- the rows below the directory have all its children

pub children_below : (p : Path) (rows : Listing (List ℕ)) → children p (rows_below p rows) ≡ children p rows
children_below p [] = refl
children_below p (row ∷ rows) = go (children_below p rows) (is_above p row.path) refl
  where
    go : children p (rows_below p rows) ≡ children p rows → (b : Bool) → is_above p row.path ≡ b → children p (cond b (row ∷ rows_below p rows) (rows_below p rows)) ≡ children p (row ∷ rows)
    go more true e = ap (cons_option (child_of p row)) more
    go more false e = more ∙ ap (λ o. cons_option o (children p rows)) (sym (child_none p row (λ name path. not_above_gives p row.path e (name ∷ [], path))))

-- what is at a child is listed
at_child : (rows : Listing (List ℕ)) (p : Path) (name : Name) → at rows (p ++ name ∷ []) ≡ listed rows (p ++ name ∷ [])
at_child rows [] name = refl
at_child rows (first ∷ p) name = refl

pub are_children : (p : Path) (rows : Listing (List ℕ)) → IsListing rows → at rows p ≡ Dir → AreChildren (at rows) p (children p rows)
are_children p rows lists dir = record {
  directory = dir;
  each = λ name k. (
    (λ h. subst (λ x. HasKind x k) (sym (at_child rows p name)) (child_listed p rows name k lists.ascending (weaker (λ (row : Row (List ℕ)). IsPath row.path × (row.path ≢ []) × (row.content ≢ Absent)) (λ row. row.content ≢ Absent) (λ row h. h.2) rows lists.rows_are) h)),
    (λ h. listed_child p rows name k (subst (λ x. HasKind x k) (at_child rows p name) h)),
  );
}

-- ---- names that are looked at one after another

-- one more name
in_order_more : (names : List (Name × Kind)) (i : ℕ) (d e : Name × Kind) → suc i < length names → InOrder (take (suc i) names) → slice_cmp nat_cmp (get_or names i d).0 (get_or names (suc i) e).0 ≡ Less → InOrder (take (suc (suc i)) names)
in_order_more [] i d e under up before = absurd (omega arith)
in_order_more (x ∷ []) i d e under up before = absurd (omega arith)
in_order_more (x ∷ y ∷ names) zero d e under up before = (before, tt)
in_order_more (x ∷ y ∷ names) (suc i) d e under up before = (up.0, in_order_more (y ∷ names) i d e (omega arith) up.1 before)

-- the name at an index comes after the one before it
pub in_order_next : (names : List (Name × Kind)) (i : ℕ) (d e : Name × Kind) → 1 ≤ i → i < length names → InOrder (take i names) → slice_cmp nat_cmp (get_or names (i - 1) d).0 (get_or names i e).0 ≡ Less → InOrder (take (i + 1) names)
in_order_next names zero d e some under up before = absurd (omega arith)
in_order_next names (suc j) d e some under up before =
    let back : suc j - 1 ≡ j = omega arith in
    let next : suc (suc j) ≡ suc j + 1 = omega arith in
    subst (λ m. InOrder (take m names)) next (in_order_more names j d e under up (subst (λ m. slice_cmp nat_cmp (get_or names m d).0 (get_or names (suc j) e).0 ≡ Less) back before))
