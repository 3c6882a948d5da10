-- A part of which a tree has each row, and no more, is that of the tree's print; and each row of that part it has.
use Rattle.std.proofs.Common.{◌≡◌, ◌≢◌, ℕ, suc, ◌+◌, Bool, true, false, cond, List, [], ◌∷◌, ◌++◌, length, Option, Some, None, refl, sym, ap, ◌∙◌, subst, append_assoc, append-nil, length-append}
use Rattle.std.proofs.lemmas.List.Elements.{recursion_from_All}
use Rattle.std.specs.List.{AllByRecursion}
use Rattle.ts_name.specs.Laws.{same_path_equal}
use Rattle.ts_name.specs.Paths.{Name, Path, IsAbove, below, same_path}
use Rattle.ts_name.proofs.Basics.{at_each, by_each}
use Rattle.ts_name.proofs.Prefixes.{above_trans, below_append, root_not_below, snoc_not_empty}
use Rattle.ts_model.specs.Trees.{Tree, Listing, Ascend, IsSubListing, listed, print_of, stamp_of, stamped, sub}
use Rattle.ts_model.specs.declared.row.Content.{Content}
use Rattle.ts_model.specs.declared.row.Content.TheVariants.{Absent, Dir, File}
use Rattle.ts_model.specs.declared.row.Row.{Row}
use Rattle.ts_model.specs.declared.row.Stamp.{Stamp}
use Rattle.ts_table.specs.Tables.{relative, root_row}
use Rattle.ts_table.proofs.Listings.{listed_at}
use Rattle.ts_table.proofs.Places.{above_dir}
use Rattle.ts_table.proofs.Relative.{listed_relative}
use Rattle.ts_print.specs.Parts.{Part}
use Rattle.ts_folder.specs.Folders.{HasKind}
use Rattle.ts_folder.specs.declared.folder.Kind.{Kind}
use Rattle.ts_folder.specs.declared.folder.Kind.TheVariants as kind
use Rattle.ts_scan.proofs.Printed.{IsClosed, there_above}
use Rattle.ts_disk.specs.Compared.{Has, HasAt, HasOnly, HasPart, Says}
use Rattle.ts_model.proofs.Rows.{listed_here, stamped_absent, stamped_dir}

-- ---- what a part's rows list

-- the rows of a part, with whole paths
pub record AreLent (part : Part) (rows : Listing Stamp) : Type 0 where
  pub same : part.rows ≡ root_row part.top ++ relative part.top rows
  pub ascending : Ascend rows
  pub each : AllByRecursion (λ row. IsAbove part.top row.path × (row.path ≢ []) × (row.content ≢ Absent)) rows
  pub lawful : IsSubListing part.rows

-- they list what the part has
lent_lists : (part : Part) (rows : Listing Stamp) (rest : Path) → AreLent part rows → part.top ++ rest ≢ [] → listed part.rows rest ≡ listed rows (part.top ++ rest)
lent_lists part rows rest lent some = ap (λ z. listed z rest) lent.same ∙ go part.top rest some
  where
    go : (top rest : Path) → top ++ rest ≢ [] → listed (root_row top ++ relative top rows) rest ≡ listed rows (top ++ rest)
    go [] [] some = absurd (some refl)
    go [] (name ∷ rest) some = listed_relative [] (name ∷ rest) rows
    go (name ∷ top) rest some = listed_relative (name ∷ top) rest rows

-- as many as the part has, but for the root's
pub lent_count : (part : Part) (rows : Listing Stamp) → AreLent part rows → length part.rows ≡ length (root_row {F = Stamp} part.top) + length rows
lent_count part rows lent = ap length lent.same ∙ length-append (root_row part.top) (relative part.top rows) ∙ ap (λ n. length (root_row {F = Stamp} part.top) + n) (count rows lent.each)
  where
    count : (rows : Listing Stamp) → AllByRecursion (λ row. IsAbove part.top row.path × (row.path ≢ []) × (row.content ≢ Absent)) rows → length (relative part.top rows) ≡ length rows
    count [] each = refl
    count (row ∷ rows) each = go (below part.top row.path) (ap (below part.top) each.0.0.1 ∙ below_append part.top each.0.0.0) (count rows each.1)
      where
        go :
            (o : Option Path) → o ≡ Some each.0.0.0 → length (relative part.top rows) ≡ length rows
            → length {A = Row Stamp} (elim o [ None ↦ relative part.top rows | Some rest ↦ record { path = rest; content = row.content } ∷ relative part.top rows ]) ≡ length (row ∷ rows)
        go None e more = cc
        go (Some rest) e more = ap suc more

-- where there are rows, one is that of the top
top_is_there : (part : Part) (rows : Listing Stamp) → AreLent part rows → part.top ≢ [] → rows ≢ [] → listed rows part.top ≢ Absent
top_is_there part [] lent below_root some gone = some refl
top_is_there part (row ∷ rows) lent below_root some gone = go rest refl
  where
    rest : Path
    rest = lent.each.0.0.0

    there : listed part.rows rest ≢ Absent
    there none =
        lent.each.0.2
        (sym (listed_here row rows) ∙ ap (listed (row ∷ rows)) lent.each.0.0.1
        ∙ sym (lent_lists part (row ∷ rows) rest lent (λ e. lent.each.0.1 (lent.each.0.0.1 ∙ e))) ∙ none)

    top : listed part.rows [] ≡ Absent
    top =
        lent_lists part (row ∷ rows) [] lent (λ e. below_root (sym (append-nil part.top) ∙ e))
        ∙ ap (listed (row ∷ rows)) (append-nil part.top) ∙ gone

    go : (p : Path) → rest ≡ p → ⊥
    go [] e = there (ap (listed part.rows) e ∙ top)
    go (name ∷ p) e =
        let dir = above_dir (listed part.rows) lent.lawful.parents [] name p (λ none. there (ap (listed part.rows) e ∙ none)) in
        let f : ◌≡◌ {A = Content Stamp} Dir Absent = sym dir ∙ top in cc

-- ---- a tree that has each row

-- whatever a row says of a path, the tree has it there
has_listed : (t : Tree) (all rows : Listing Stamp) (p : Path) → AllByRecursion (Has t all) rows → HasAt t all p (listed rows p)
has_listed t all [] p h = tt
has_listed t all (row ∷ rows) p h = go (same_path row.path p) refl (has_listed t all rows p h.1)
  where
    go : (b : Bool) → same_path row.path p ≡ b → HasAt t all p (listed rows p) → HasAt t all p (cond b row.content (listed rows p))
    go true e more = subst (λ z. HasAt t all z row.content) (same_path_equal row.path p e) h.0
    go false e more = more

-- where a directory is, a row says each of its children
abbrev Covers : Tree → Listing Stamp → Path → Type 0
Covers t rows p = t p ≡ Dir → (name : Name) (k : Kind) → HasKind (t (p ++ name ∷ [])) k → Says rows (p ++ name ∷ []) k

covers : (t : Tree) (rows : Listing Stamp) (p : Path) → AllByRecursion (Has t rows) rows → listed rows p ≡ stamped (t p) → Covers t rows p
covers t rows p all same dir = (subst (HasAt t rows p) (same ∙ ap stamped dir) (has_listed t rows rows p all)).1

-- what is listed is what is there
listed_is_there : (t : Tree) (rows : Listing Stamp) (p : Path) → AllByRecursion (Has t rows) rows → listed rows p ≢ Absent → listed rows p ≡ stamped (t p)
listed_is_there t rows p all there = go (listed rows p) refl (has_listed t rows rows p all)
  where
    go : (x : Content Stamp) → listed rows p ≡ x → HasAt t rows p x → listed rows p ≡ stamped (t p)
    go Absent e h = absurd (there e)
    go Dir e h = e ∙ sym (ap stamped h.0)
    go (File stamp) e h = e ∙ sym h

-- a child of what is covered
child_is : (t : Tree) (rows : Listing Stamp) (p : Path) (name : Name) → IsClosed t → AllByRecursion (Has t rows) rows → Covers t rows p → listed rows (p ++ name ∷ []) ≡ stamped (t (p ++ name ∷ []))
child_is t rows p name closed all covered = go (listed rows (p ++ name ∷ [])) refl
  where
    none : (y : Content (List ℕ)) → t (p ++ name ∷ []) ≡ y → listed rows (p ++ name ∷ []) ≡ Absent → stamped (t (p ++ name ∷ [])) ≡ Absent
    none Absent f e = ap stamped f
    none Dir f e =
        let dir = closed p name (λ gone. let g : ◌≡◌ {A = Content (List ℕ)} Dir Absent = sym f ∙ gone in cc) in
        let said : listed rows (p ++ name ∷ []) ≡ Dir = covered dir name kind.Dir f in
        let g : ◌≡◌ {A = Content Stamp} Dir Absent = sym said ∙ e in cc
    none (File bytes) f e =
        let dir = closed p name (λ gone. let g : ◌≡◌ {A = Content (List ℕ)} (File bytes) Absent = sym f ∙ gone in cc) in
        let said = covered dir name kind.File (bytes, f) in
        let g : ◌≡◌ {A = Content Stamp} (File said.0) Absent = sym said.1 ∙ e in cc

    go : (x : Content Stamp) → listed rows (p ++ name ∷ []) ≡ x → listed rows (p ++ name ∷ []) ≡ stamped (t (p ++ name ∷ []))
    go Absent e = e ∙ sym (none (t (p ++ name ∷ [])) refl e)
    go Dir e = listed_is_there t rows (p ++ name ∷ []) all (λ gone. let g : ◌≡◌ {A = Content Stamp} Dir Absent = sym e ∙ gone in cc)
    go (File stamp) e = listed_is_there t rows (p ++ name ∷ []) all (λ gone. let g : ◌≡◌ {A = Content Stamp} (File stamp) Absent = sym e ∙ gone in cc)

-- and all below it
below_is :
    (t : Tree) (rows : Listing Stamp) (p : Path) (name : Name) (rest : Path) → IsClosed t → AllByRecursion (Has t rows) rows → Covers t rows p
    → listed rows (p ++ name ∷ rest) ≡ stamped (t (p ++ name ∷ rest))
below_is t rows p name [] closed all covered = child_is t rows p name closed all covered
below_is t rows p name (next ∷ rest) closed all covered =
    subst (λ z. listed rows z ≡ stamped (t z)) (append_assoc p (name ∷ []) (next ∷ rest))
    (below_is t rows (p ++ name ∷ []) next rest closed all (covers t rows (p ++ name ∷ []) all (child_is t rows p name closed all covered)))

-- ---- the part

-- all of the tree
pub root_has_part : (t : Tree) (part : Part) (rows : Listing Stamp) → IsClosed t → AreLent part rows → part.top ≡ [] → HasOnly t rows [] → AllByRecursion (Has t rows) rows → HasPart t part
root_has_part t part rows closed lent root only all = subst (λ z. listed part.rows ≡ sub (print_of t) z) (sym root) (by_each _ _ each)
  where
    own : (top : Path) → top ≡ [] → listed (root_row top ++ relative top rows) [] ≡ Dir
    own [] e = refl
    own (name ∷ top) e = cc

    each : (q : Path) → listed part.rows q ≡ stamped (t q)
    each [] = ap (λ z. listed z []) lent.same ∙ own part.top root ∙ sym (ap stamped only.0)
    each (name ∷ rest) =
        lent_lists part rows (name ∷ rest) lent (λ e. let f : name ∷ rest ≡ [] = ap (λ z. z ++ name ∷ rest) (sym root) ∙ e in cc)
        ∙ ap (λ z. listed rows (z ++ name ∷ rest)) root ∙ below_is t rows [] name rest closed all (λ dir. only.1)

-- what is at a path and below it
pub place_has_part : (t : Tree) (part : Part) (rows : Listing Stamp) → IsClosed t → AreLent part rows → part.top ≢ [] → rows ≢ [] → AllByRecursion (Has t rows) rows → HasPart t part
place_has_part t part rows closed lent below_root some all = by_each _ _ each
  where
    top : listed rows part.top ≡ stamped (t part.top)
    top = listed_is_there t rows part.top all (top_is_there part rows lent below_root some)

    each : (q : Path) → listed part.rows q ≡ stamped (t (part.top ++ q))
    each [] =
        lent_lists part rows [] lent (λ e. below_root (sym (append-nil part.top) ∙ e))
        ∙ subst (λ z. listed rows z ≡ stamped (t z)) (sym (append-nil part.top)) top
    each (name ∷ rest) =
        lent_lists part rows (name ∷ rest) lent (λ e. root_not_below part.top name rest (sym e))
        ∙ below_is t rows part.top name rest closed all (covers t rows part.top all top)

no_rows : (part : Part) → AreLent part [] → part.top ≢ [] → part.rows ≡ []
no_rows part lent below_root = lent.same ∙ go part.top below_root
  where
    go : (top : Path) → top ≢ [] → root_row {F = Stamp} top ++ [] ≡ []
    go [] some = absurd (some refl)
    go (name ∷ top) some = refl

-- nothing
pub nothing_has_part : (t : Tree) (part : Part) → IsClosed t → AreLent part [] → part.top ≢ [] → t part.top ≡ Absent → HasPart t part
nothing_has_part t part closed lent below_root gone = by_each _ _ (λ q. ap (λ z. listed z q) (no_rows part lent below_root) ∙ sym (none q (t (part.top ++ q)) refl))
  where
    none : (q : Path) (x : Content (List ℕ)) → t (part.top ++ q) ≡ x → stamped (t (part.top ++ q)) ≡ Absent
    none q Absent e = ap stamped e
    none q Dir e = absurd (there_above t part.top q closed (λ f. let g : ◌≡◌ {A = Content (List ℕ)} Dir Absent = sym e ∙ f in cc) gone)
    none q (File bytes) e = absurd (there_above t part.top q closed (λ f. let g : ◌≡◌ {A = Content (List ℕ)} (File bytes) Absent = sym e ∙ f in cc) gone)

-- ---- and back

-- nothing is there where the part is empty
pub part_is_nothing : (t : Tree) (part : Part) → AreLent part [] → part.top ≢ [] → HasPart t part → t part.top ≡ Absent
part_is_nothing t part lent below_root has =
    stamped_absent (t part.top)
    (ap (λ z. stamped (t z)) (sym (append-nil part.top)) ∙ sym (at_each has []) ∙ ap (λ z. listed z []) (no_rows part lent below_root))

-- the rows list what is there
part_lists : (t : Tree) (part : Part) (rows : Listing Stamp) (q : Path) → AreLent part rows → HasPart t part → IsAbove part.top q → q ≢ [] → listed rows q ≡ stamped (t q)
part_lists t part rows q lent has above some =
    ap (listed rows) above.1 ∙ sym (lent_lists part rows above.0 lent (λ e. some (above.1 ∙ e))) ∙ at_each has above.0
    ∙ sym (ap (λ z. stamped (t z)) above.1)

part_covers :
    (t : Tree) (part : Part) (rows : Listing Stamp) (p : Path) → AreLent part rows → HasPart t part → IsAbove part.top p → (name : Name) (k : Kind)
    → HasKind (t (p ++ name ∷ [])) k → Says rows (p ++ name ∷ []) k
part_covers t part rows p lent has above name k = go k
  where
    same : listed rows (p ++ name ∷ []) ≡ stamped (t (p ++ name ∷ []))
    same = part_lists t part rows (p ++ name ∷ []) lent has (above_trans part.top p (p ++ name ∷ []) above (name ∷ [], refl)) (snoc_not_empty p name)

    go : (k : Kind) → HasKind (t (p ++ name ∷ [])) k → Says rows (p ++ name ∷ []) k
    go kind.Dir e = same ∙ ap stamped e
    go kind.File e = (stamp_of e.0, same ∙ ap stamped e.1)
    go kind.Unseen e = absurd e

-- the root has no other children
pub part_of_root : (t : Tree) (part : Part) (rows : Listing Stamp) → AreLent part rows → part.top ≡ [] → t [] ≡ Dir → HasPart t part → HasOnly t rows []
part_of_root t part rows lent root dir has = (dir, part_covers t part rows [] lent has ([], sym (append-nil part.top ∙ root)))

-- each row is there
pub part_has_rows : (t : Tree) (part : Part) (rows : Listing Stamp) → AreLent part rows → HasPart t part → AllByRecursion (Has t rows) rows
part_has_rows t part rows lent has = go rows lent.each (recursion_from_All (λ (row : Row Stamp). listed rows row.path ≡ row.content) rows (λ k d h. listed_at rows k d lent.ascending h))
  where
    at_row : (p : Path) (x : Content Stamp) → IsAbove part.top p → x ≡ stamped (t p) → HasAt t rows p x
    at_row p Absent above e = tt
    at_row p Dir above e = (stamped_dir (t p) (sym e), part_covers t part rows p lent has above)
    at_row p (File stamp) above e = sym e

    go :
        (some : Listing Stamp) → AllByRecursion (λ row. IsAbove part.top row.path × (row.path ≢ []) × (row.content ≢ Absent)) some
        → AllByRecursion (λ row. listed rows row.path ≡ row.content) some → AllByRecursion (Has t rows) some
    go [] each own = tt
    go (row ∷ some) each own = (at_row row.path row.content each.0.0 (sym own.0 ∙ part_lists t part rows row.path lent has each.0.0 each.0.1), go some each.1 own.1)
