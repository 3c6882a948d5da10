-- Rows of one name after another make the rows of a directory.
use Rattle.std.proofs.Common.{◌≡◌, ◌≢◌, ◌⊎◌, Bool, true, false, cond, [], ◌∷◌, ◌++◌, Less, nat_cmp, refl, sym, ap, ◌∙◌, subst, inl, inr, append_assoc, append-nil}
use Rattle.std.specs.List.{AllByRecursion}
use Rattle.std.specs.Cmp.Lexicographic.{slice_cmp}
use Rattle.std.specs.Ordering.{ordering_then}
use Rattle.std.proofs.lemmas.Cmp.{nat_list_cmp_total}
use Rattle.ts_name.specs.Paths.{Name, Path, IsPath, IsAbove, IsBefore, path_cmp, same_path}
use Rattle.ts_model.specs.Trees.{Listing, listed, at, IsListing}
use Rattle.ts_model.specs.declared.row.Content.TheVariants.{Absent, Dir, File}
use Rattle.ts_model.specs.declared.row.Row.{Row}
use Rattle.ts_model.specs.declared.row.Stamp.{Stamp}
use Rattle.ts_name.specs.Laws.{same_path_equal}
use Rattle.ts_name.proofs.Prefixes.{above_trans, same_parent, decide_above}
use Rattle.ts_name.proofs.Order.{cmp_below, before_below, before_itself}
use Rattle.ts_name.proofs.Utf8.{all_append, all_parts}
use Rattle.ts_name.proofs.Basics.{weaker}
use Rattle.ts_table.proofs.Rows.{ascend_cons, ascend_join, listed_after, listed_holds, AllBefore}
use Rattle.ts_folder.specs.Folders.{InOrder}
use Rattle.ts_folder.specs.declared.folder.Kind.{Kind}
use Rattle.ts_scan.specs.Scans.{Children, IsUnder, AreBelow}
use Rattle.ts_model.proofs.Rows.{listed_here, dir_is_there}

-- ---- children in order

-- the first child comes before each other
first_child : (child : Name × Kind) (children : Children) → InOrder (child ∷ children) → AllByRecursion (λ other. slice_cmp nat_cmp child.0 other.0 ≡ Less) children
first_child child [] h = tt
first_child child (next ∷ children) h =
    (h.0, weaker (λ (other : Name × Kind). slice_cmp nat_cmp next.0 other.0 ≡ Less) (λ other. slice_cmp nat_cmp child.0 other.0 ≡ Less) (λ other later. nat_list_cmp_total.trans child.0 next.0 other.0 h.0 later) children (first_child next children h.1))

other_children : (child : Name × Kind) (children : Children) → InOrder (child ∷ children) → InOrder children
other_children child [] h = tt
other_children child (next ∷ children) h = h.1

-- children in order are so in each part
pub order_left : (xs ys : Children) → InOrder (xs ++ ys) → InOrder xs
order_left [] ys h = tt
order_left (x ∷ []) ys h = tt
order_left (x ∷ y ∷ xs) ys h = (h.0, order_left (y ∷ xs) ys h.1)

pub order_right : (xs ys : Children) → InOrder (xs ++ ys) → InOrder ys
order_right [] ys h = h
order_right (x ∷ xs) ys h = order_right xs ys (other_children x (xs ++ ys) h)

-- what follows a name is below it
pub above_is : (p : Path) (name : Name) (q : Path) → IsAbove (p ++ name ∷ []) q → (rest : Path) × (q ≡ p ++ name ∷ rest)
above_is p name q h = (h.0, h.1 ∙ append_assoc p (name ∷ []) h.0)

-- what is below a name comes before what is below a later one
before_later : (p : Path) (m n : Name) (q r : Path) → slice_cmp nat_cmp m n ≡ Less → IsAbove (p ++ m ∷ []) q → IsAbove (p ++ n ∷ []) r → IsBefore q r
before_later p m n q r h of_q of_r =
    let x = above_is p m q of_q in
    let y = above_is p n r of_r in
    let order : IsBefore (p ++ m ∷ x.0) (p ++ n ∷ y.0) = cmp_below p (m ∷ x.0) (n ∷ y.0) ∙ ap (λ o. ordering_then o (path_cmp x.0 y.0)) h in
    subst (λ z. IsBefore z r) (sym x.1) (subst (λ z. IsBefore (p ++ m ∷ x.0) z) (sym y.1) order)

before_each : (p : Path) (child : Name × Kind) (children : Children) (q r : Path) → AllByRecursion (λ other. slice_cmp nat_cmp child.0 other.0 ≡ Less) children → IsAbove (p ++ child.0 ∷ []) q → IsUnder p children r → IsBefore q r
before_each p child [] q r h above under = absurd under
before_each p child (other ∷ children) q r h above (inl here) = before_later p child.0 other.0 q r h.0 above here
before_each p child (other ∷ children) q r h above (inr later) = before_each p child children q r h.1 above later

-- what is under earlier children comes before what is under later ones
pub under_before : (p : Path) (xs ys : Children) (q r : Path) → InOrder (xs ++ ys) → IsUnder p xs q → IsUnder p ys r → IsBefore q r
under_before p [] ys q r up of_q of_r = absurd of_q
under_before p (x ∷ xs) ys q r up (inl here) of_r = before_each p x ys q r (all_parts _ xs ys (first_child x (xs ++ ys) up)).1 here of_r
under_before p (x ∷ xs) ys q r up (inr later) of_r = under_before p xs ys q r (other_children x (xs ++ ys) up) later of_r

-- ---- under children

pub under_left : (p : Path) (xs ys : Children) (q : Path) → IsUnder p xs q → IsUnder p (xs ++ ys) q
under_left p [] ys q h = absurd h
under_left p (x ∷ xs) ys q (inl here) = inl here
under_left p (x ∷ xs) ys q (inr later) = inr (under_left p xs ys q later)

pub under_right : (p : Path) (xs ys : Children) (q : Path) → IsUnder p ys q → IsUnder p (xs ++ ys) q
under_right p [] ys q h = h
under_right p (x ∷ xs) ys q h = inr (under_right p xs ys q h)

pub under_parts : (p : Path) (xs ys : Children) (q : Path) → IsUnder p (xs ++ ys) q → IsUnder p xs q ⊎ IsUnder p ys q
under_parts p [] ys q h = inr h
under_parts p (x ∷ xs) ys q (inl here) = inl (inl here)
under_parts p (x ∷ xs) ys q (inr later) = elim (under_parts p xs ys q later) [ inl l ↦ inl (inr l) | inr r ↦ inr r ]

-- what is under a name of a directory is strictly below it
pub under_below : (p : Path) (children : Children) (q : Path) → IsUnder p children q → (name : Name) × (rest : Path) × (q ≡ p ++ name ∷ rest)
under_below p [] q h = absurd h
under_below p (child ∷ children) q (inl here) = let x = above_is p child.0 q here in (child.0, x.0, x.1)
under_below p (child ∷ children) q (inr later) = under_below p children q later

-- and what is below that too
pub under_more : (p : Path) (children : Children) (q more : Path) → IsUnder p children q → IsUnder p children (q ++ more)
under_more p [] q more h = absurd h
under_more p (child ∷ children) q more (inl here) = inl (above_trans (p ++ child.0 ∷ []) q (q ++ more) here (more, refl))
under_more p (child ∷ children) q more (inr later) = inr (under_more p children q more later)

pub decide_under : (p : Path) (children : Children) (q : Path) → IsUnder p children q ⊎ (¬ IsUnder p children q)
decide_under p [] q = inr (λ h. h)
decide_under p (child ∷ children) q = elim (decide_above (p ++ child.0 ∷ []) q) [
  | yes here ↦ inl (inl here)
  | no off ↦ elim (decide_under p children q) [
    | inl later ↦ inl (inr later)
    | inr none ↦ inr (λ h. elim h [ inl here ↦ off here | inr later ↦ none later ])
  ]
]

-- ---- rows of a part after those of another

-- what a front lists is listed
pub listed_front : (xs ys : Listing Stamp) (q : Path) → listed xs q ≢ Absent → listed (xs ++ ys) q ≡ listed xs q
listed_front [] ys q h = absurd (h refl)
listed_front (x ∷ xs) ys q h = go (same_path x.path q) h (listed_front xs ys q)
  where
    go : (b : Bool) → cond b x.content (listed xs q) ≢ Absent → (listed xs q ≢ Absent → listed (xs ++ ys) q ≡ listed xs q) → cond b x.content (listed (xs ++ ys) q) ≡ cond b x.content (listed xs q)
    go true there more = refl
    go false there more = more there

-- what is listed is listed by one of the parts
pub listed_either : (xs ys : Listing Stamp) (q : Path) → listed (xs ++ ys) q ≢ Absent → (listed xs q ≢ Absent) ⊎ (listed ys q ≢ Absent)
listed_either [] ys q h = inr h
listed_either (x ∷ xs) ys q h = go (same_path x.path q) h (listed_either xs ys q)
  where
    go : (b : Bool) → cond b x.content (listed (xs ++ ys) q) ≢ Absent → (listed (xs ++ ys) q ≢ Absent → (listed xs q ≢ Absent) ⊎ (listed ys q ≢ Absent)) → (cond b x.content (listed xs q) ≢ Absent) ⊎ (listed ys q ≢ Absent)
    go true there more = inl there
    go false there more = more there

-- rows under earlier children come before a path under later ones
pub rows_before : (p : Path) (xs ys : Children) (rows : Listing Stamp) (q : Path) → InOrder (xs ++ ys) → AreBelow p xs rows → IsUnder p ys q → AllByRecursion (λ row. IsBefore row.path q) rows
rows_before p xs ys rows q up a under =
    weaker (λ (row : Row Stamp). IsPath row.path × (row.content ≢ Absent) × IsUnder p xs row.path) (λ row. IsBefore row.path q) (λ row h. under_before p xs ys row.path q up h.2 under) rows a.rows_are

-- and those under later children after a path under earlier ones
pub rows_after : (p : Path) (xs ys : Children) (rows : Listing Stamp) (q : Path) → InOrder (xs ++ ys) → AreBelow p ys rows → IsUnder p xs q → AllByRecursion (λ row. IsBefore q row.path) rows
rows_after p xs ys rows q up b under =
    weaker (λ (row : Row Stamp). IsPath row.path × (row.content ≢ Absent) × IsUnder p ys row.path) (λ row. IsBefore q row.path) (λ row h. under_before p xs ys q row.path up under h.2) rows b.rows_are

pub differ_before : (q : Path) (rows : Listing Stamp) → AllByRecursion (λ row. IsBefore row.path q) rows → AllByRecursion (λ row. row.path ≢ q) rows
differ_before q rows all = weaker (λ (row : Row Stamp). IsBefore row.path q) (λ row. row.path ≢ q) (λ row before e. before_itself q (subst (λ z. IsBefore z q) e before)) rows all

pub differ_after : (q : Path) (rows : Listing Stamp) → AllByRecursion (λ row. IsBefore q row.path) rows → AllByRecursion (λ row. row.path ≢ q) rows
differ_after q rows all = weaker (λ (row : Row Stamp). IsBefore q row.path) (λ row. row.path ≢ q) (λ row before e. before_itself q (subst (λ z. IsBefore q z) e before)) rows all

-- what is listed is under one of the children
pub listed_under : (p : Path) (children : Children) (rows : Listing Stamp) (q : Path) → AreBelow p children rows → listed rows q ≢ Absent → IsUnder p children q
listed_under p children rows q are there =
    listed_holds (IsUnder p children) rows q
    (weaker (λ (row : Row Stamp). IsPath row.path × (row.content ≢ Absent) × IsUnder p children row.path) (λ row. IsUnder p children row.path) (λ row h. h.2) rows are.rows_are)
    there

-- the rows of earlier children and then those of later ones
pub joined : (p : Path) (xs ys : Children) (front back : Listing Stamp) → InOrder (xs ++ ys) → AreBelow p xs front → AreBelow p ys back → AreBelow p (xs ++ ys) (front ++ back)
joined p xs ys front back up a b = record {
  ascending = ascend_join front back a.ascending b.ascending across;
  rows_are = all_append _ front back
      (weaker (λ (row : Row Stamp). IsPath row.path × (row.content ≢ Absent) × IsUnder p xs row.path) (λ row. IsPath row.path × (row.content ≢ Absent) × IsUnder p (xs ++ ys) row.path) (λ row h. (h.0, h.1, under_left p xs ys row.path h.2)) front a.rows_are)
      (weaker (λ (row : Row Stamp). IsPath row.path × (row.content ≢ Absent) × IsUnder p ys row.path) (λ row. IsPath row.path × (row.content ≢ Absent) × IsUnder p (xs ++ ys) row.path) (λ row h. (h.0, h.1, under_right p xs ys row.path h.2)) back b.rows_are);
  parents = parents;
}
  where
    across : AllBefore front back
    across =
        weaker (λ (row : Row Stamp). IsPath row.path × (row.content ≢ Absent) × IsUnder p xs row.path) (λ row. AllByRecursion (λ other. IsBefore row.path other.path) back)
        (λ row h. rows_after p xs ys back row.path up b h.2) front a.rows_are

    parents : (q : Path) (name : Name) → listed (front ++ back) (q ++ name ∷ []) ≢ Absent → (q ≡ p) ⊎ (listed (front ++ back) q ≡ Dir)
    parents q name there = elim (listed_either front back (q ++ name ∷ []) there) [
      | inl l ↦ elim (a.parents q name l) [
        | inl e ↦ inl e
        | inr e ↦ inr (listed_front front back q (dir_is_there (listed front q) e) ∙ e)
      ]
      | inr r ↦ elim (b.parents q name r) [
        | inl e ↦ inl e
        | inr e ↦ inr (listed_after front back q (differ_before q front (rows_before p xs ys front q up a (listed_under p ys back q b (dir_is_there (listed back q) e)))) ∙ e)
      ]
    ]

pub none_below : (p : Path) (children : Children) → AreBelow p children []
none_below p children = record { ascending = tt; rows_are = tt; parents = λ q name there. absurd (there refl) }

-- ---- the rows of one name

-- a directory's own row, and then what is below it
pub directory : (p : Path) (name : Name) (kind : Kind) (children : Children) (rows : Listing Stamp) → IsPath (p ++ name ∷ []) → AreBelow (p ++ name ∷ []) children rows → AreBelow p ((name, kind) ∷ []) (record { path = p ++ name ∷ []; content = Dir } ∷ rows)
directory p name kind children rows lawful are = record {
  ascending = ascend_cons own rows (weaker (λ (row : Row Stamp). IsPath row.path × (row.content ≢ Absent) × IsUnder place children row.path) (λ row. IsBefore place row.path) (λ row h. after row.path h.2) rows are.rows_are) are.ascending;
  rows_are = (
    (lawful, (λ e. cc), inl ([], sym (append-nil place))),
    weaker (λ (row : Row Stamp). IsPath row.path × (row.content ≢ Absent) × IsUnder place children row.path) (λ row. IsPath row.path × (row.content ≢ Absent) × IsUnder p ((name, kind) ∷ []) row.path) (λ row h. (h.0, h.1, inl (within row.path h.2))) rows are.rows_are,
  );
  parents = λ q last there. parents q last (same_path place (q ++ last ∷ [])) refl there;
}
  where
    place : Path
    place = p ++ name ∷ []

    own : Row Stamp
    own = record { path = p ++ name ∷ []; content = Dir }

    within : (q : Path) → IsUnder place children q → IsAbove place q
    within q h = let x = under_below place children q h in (x.0 ∷ x.1, x.2)

    after : (q : Path) → IsUnder place children q → IsBefore place q
    after q h = let x = under_below place children q h in subst (λ z. IsBefore place z) (sym x.2) (before_below place x.0 x.1)

    still : (q : Path) (b : Bool) → same_path place q ≡ b → listed rows q ≡ Dir → cond b Dir (listed rows q) ≡ Dir
    still q true is e = refl
    still q false is e = e

    parents : (q : Path) (last : Name) (b : Bool) → same_path place (q ++ last ∷ []) ≡ b → cond b Dir (listed rows (q ++ last ∷ [])) ≢ Absent → (q ≡ p) ⊎ (listed (own ∷ rows) q ≡ Dir)
    parents q last true is there = inl (sym (same_parent p q name last (same_path_equal place (q ++ last ∷ []) is)))
    parents q last false is there = elim (are.parents q last there) [
      | inl e ↦ inr (subst (λ z. listed (own ∷ rows) z ≡ Dir) (sym e) (listed_here own rows))
      | inr e ↦ inr (still q (same_path place q) refl e)
    ]

-- a file's row
pub file : (p : Path) (name : Name) (kind : Kind) (stamp : Stamp) → IsPath (p ++ name ∷ []) → AreBelow p ((name, kind) ∷ []) (record { path = p ++ name ∷ []; content = File stamp } ∷ [])
file p name kind stamp lawful = record {
  ascending = tt;
  rows_are = ((lawful, (λ e. cc), inl ([], sym (append-nil (p ++ name ∷ [])))), tt);
  parents = λ q last there. parents q last (same_path (p ++ name ∷ []) (q ++ last ∷ [])) refl there;
}
  where
    parents : (q : Path) (last : Name) (b : Bool) → same_path (p ++ name ∷ []) (q ++ last ∷ []) ≡ b → cond b (File stamp) Absent ≢ Absent → (q ≡ p) ⊎ (listed (record { path = p ++ name ∷ []; content = File stamp } ∷ []) q ≡ Dir)
    parents q last true is there = inl (sym (same_parent p q name last (same_path_equal (p ++ name ∷ []) (q ++ last ∷ []) is)))
    parents q last false is there = absurd (there refl)

-- ---- the whole

-- all rows below the root are a listing
pub whole : (children : Children) (rows : Listing Stamp) → AreBelow [] children rows → IsListing rows
whole children rows are = record {
  ascending = are.ascending;
  rows_are = weaker (λ (row : Row Stamp). IsPath row.path × (row.content ≢ Absent) × IsUnder [] children row.path) (λ row. IsPath row.path × (row.path ≢ []) × (row.content ≢ Absent)) (λ row h. (h.0, not_root row.path h.2, h.1)) rows are.rows_are;
  parents = λ p name there. parents p name there;
}
  where
    not_root : (q : Path) → IsUnder [] children q → q ≢ []
    not_root q h e = let x = under_below [] children q h in let f : x.0 ∷ x.1 ≡ [] = sym x.2 ∙ e in cc

    parents : (p : Path) (name : Name) → at rows (p ++ name ∷ []) ≢ Absent → at rows p ≡ Dir
    parents [] name there = refl
    parents (first ∷ p) name there = elim (are.parents (first ∷ p) name there) [
      | inl e ↦ (let f : first ∷ p ≡ [] = e in cc)
      | inr e ↦ e
    ]
