-- What a scan finds, put together.
use Rattle.std.proofs.Common.{◌≡◌, ◌≢◌, ◌⊎◌, ℕ, zero, suc, ◌<◌, ◌^◌, Bool, true, false, cond, List, [], ◌∷◌, ◌++◌, length, get_or, Option, Some, None, IfSome, Result, Ok, Err, IfErr, IfOk, refl, sym, ap, ◌∙◌, subst, inl, inr, append_assoc, append-nil, arith}
use Rattle.std.proofs.lemmas.List.Elements.{recursion_from_All}
use Rattle.std.proofs.lemmas.Result.{IfErr-at_err}
use Rattle.std.specs.List.{AllByRecursion}
use Rattle.std.specs.Result.{IsErrAnd, IsOkAnd}
use Rattle.ts_name.specs.Paths.{Name, Path, IsPath, same_path}
use Rattle.ts_name.proofs.Prefixes.{snoc_not_empty}
use Rattle.ts_name.proofs.Utf8.{all_parts}
use Rattle.ts_name.proofs.Basics.{weaker}
use Rattle.ts_table.proofs.Rows.{listed_holds}
use Rattle.ts_model.specs.Texts.{IsTreeBody, FileFits}
use Rattle.ts_model.specs.Trees.{Tree, Listing, at, listed, IsListing, print_of}
use Rattle.ts_model.specs.declared.row.Content.{Content}
use Rattle.ts_model.specs.declared.row.Content.TheVariants.{Absent, Dir, File}
use Rattle.ts_model.specs.declared.row.Row.{Row}
use Rattle.ts_model.specs.declared.row.Stamp.{Stamp}
use Rattle.ts_folder.specs.Folders.{AreChildren, CanBe, IsFile, InOrder}
use Rattle.ts_folder.proofs.Children.{can_be, kind_there}
use Rattle.ts_folder.specs.declared.folder.Kind.{Kind}
use Rattle.ts_folder.specs.declared.folder.Kind.TheVariants as kind
use Rattle.ts_scan.specs.Files.{HasStamp}
use Rattle.ts_scan.specs.Scans.{Children, Told, IsUnder, ArePrinted, AreThere, Found, FoundIn, Adds}
use Rattle.ts_scan.proofs.Parts.{joined, none_below, directory, file, whole}
use Rattle.ts_scan.proofs.Printed.{IsClosed, HasOnly, joined_print, directory_print, file_print, whole_print}

-- ---- options

pub both_some : {A : Type 0} (P Q R : A → Type 0) (o : Option A) → ((x : A) → P x → Q x → R x) → IfSome o P → IfSome o Q → IfSome o R
both_some P Q R None h p q = tt
both_some P Q R (Some x) h p q = h x p q

pub map_some : {A : Type 0} (P Q : A → Type 0) (o : Option A) → ((x : A) → P x → Q x) → IfSome o P → IfSome o Q
map_some P Q None h p = tt
map_some P Q (Some x) h p = h x p

-- ---- children

-- an element is the one at its index, whatever stands past the end
at_index : {A : Type 0} (xs : List A) (k : ℕ) (d e : A) → k < length xs → get_or xs k d ≡ get_or xs k e
at_index [] k d e h = absurd (omega arith)
at_index (x ∷ xs) zero d e h = refl
at_index (x ∷ xs) (suc k) d e h = at_index xs k d e (omega arith)

contained : (p : Path) (children : Children) (k : ℕ) (child : Name × Kind) → k < length children → get_or children k child ≡ child → IsUnder p children (p ++ child.0 ∷ [])
contained p [] k child h e = absurd (omega arith)
contained p (x ∷ children) zero child h e = inl ([], ap (λ c. p ++ c.0 ∷ []) (sym e) ∙ sym (append-nil (p ++ x.0 ∷ [])))
contained p (x ∷ children) (suc k) child h e = inr (contained p children k child (omega arith) e)

-- the children of a directory are there
pub are_there : (t : Tree) (p : Path) (children : Children) → AreChildren t p children → AreThere t p children
are_there t p children are =
    recursion_from_All (λ (child : Name × Kind). CanBe (t (p ++ child.0 ∷ [])) child.1) children
    (λ k d h. can_be (t (p ++ (get_or children k d).0 ∷ [])) (get_or children k d).1 ((are.each (get_or children k d).0 (get_or children k d).1).0 (k, h, at_index children k (get_or children k d) d h)))

-- and nothing else is
pub has_only : (t : Tree) (p : Path) (children : Children) → AreChildren t p children → HasOnly t p children
has_only t p children are name there = go (t (p ++ name ∷ [])) refl
  where
    go : (x : Content (List ℕ)) → t (p ++ name ∷ []) ≡ x → IsUnder p children (p ++ name ∷ [])
    go Absent e = absurd (there e)
    go Dir e = let h = (are.each name kind.Dir).1 e in contained p children h.0 (name, kind.Dir) h.1 h.2
    go (File bytes) e = let h = (are.each name kind.File).1 (bytes, e) in contained p children h.0 (name, kind.File) h.1 h.2

-- ---- a tree that is told

pub closed : (tree : Listing (List ℕ)) → IsTreeBody tree → IsClosed (at tree)
closed tree body = body.listing.parents

-- what is listed has a lawful path
listed_path : (tree : Listing (List ℕ)) (q : Path) → IsTreeBody tree → q ≢ [] → at tree q ≢ Absent → IsPath q
listed_path tree [] body some there = absurd (some refl)
listed_path tree (n ∷ q) body some there =
    listed_holds IsPath tree (n ∷ q) (weaker (λ (row : Row (List ℕ)). IsPath row.path × (row.path ≢ []) × (row.content ≢ Absent)) (λ row. IsPath row.path) (λ row h. h.0) tree body.listing.rows_are) there

-- a child that is there has a lawful path
pub child_path : (tree : Listing (List ℕ)) (p : Path) (child : Name × Kind) → IsTreeBody tree → CanBe (at tree (p ++ child.0 ∷ [])) child.1 → IsPath (p ++ child.0 ∷ [])
child_path tree p child body h = listed_path tree (p ++ child.0 ∷ []) body (snoc_not_empty p child.0) (kind_there (at tree (p ++ child.0 ∷ [])) child.1 h)

-- a file's bytes can be counted
pub file_fits : (tree : Listing (List ℕ)) (p : Path) → IsTreeBody tree → IsFile (at tree p) → (bytes : List ℕ) × (at tree p ≡ File bytes) × (length bytes < 2 ^ 64)
file_fits tree [] body is = absurd (let f : ◌≡◌ {A = Content (List ℕ)} Dir (File is.0) = is.1 in cc)
file_fits tree (n ∷ p) body is = (is.0, is.1, go tree body.files is.1)
  where
    fits : (x : Content (List ℕ)) → x ≡ File is.0 → FileFits x → length is.0 < 2 ^ 64
    fits x e h = (subst FileFits e h).1

    go : (rows : Listing (List ℕ)) → AllByRecursion (λ row. FileFits row.content) rows → listed rows (n ∷ p) ≡ File is.0 → length is.0 < 2 ^ 64
    go [] all e = cc
    go (row ∷ rows) all e = pick (same_path row.path (n ∷ p)) e (go rows all.1)
      where
        pick : (b : Bool) → cond b row.content (listed rows (n ∷ p)) ≡ File is.0 → (listed rows (n ∷ p) ≡ File is.0 → length is.0 < 2 ^ 64) → length is.0 < 2 ^ 64
        pick true f more = fits row.content f all.0
        pick false f more = more f

-- ---- what is found

pub found_none : (told : Told) (p : Path) → Found told p [] []
found_none told p = record { below = none_below p []; print = nothing told }
  where
    nothing : (o : Told) → IfSome o (λ tree. AreThere (at tree) p [] → ArePrinted (at tree) p [] [])
    nothing None = tt
    nothing (Some tree) = λ there q under. absurd under

pub found_join : (told : Told) (p : Path) (xs ys : Children) (front back : Listing Stamp) → InOrder (xs ++ ys) → Found told p xs front → Found told p ys back → Found told p (xs ++ ys) (front ++ back)
found_join told p xs ys front back up f g = record {
  below = joined p xs ys front back up f.below g.below;
  print = both_some _ _ (λ tree. AreThere (at tree) p (xs ++ ys) → ArePrinted (at tree) p (xs ++ ys) (front ++ back)) told
      (λ tree h k there. joined_print (at tree) p xs ys front back up f.below g.below (h (all_parts _ xs ys there).0) (k (all_parts _ xs ys there).1)) f.print g.print;
}

-- rows after rows
pub adds_more : (told : Told) (p : Path) (xs ys : Children) (old mid new : Listing Stamp) → InOrder (xs ++ ys) → Adds old mid (Found told p xs) → Adds mid new (Found told p ys) → Adds old new (Found told p (xs ++ ys))
adds_more told p xs ys old mid new up h k = (h.0 ++ k.0, k.1 ∙ ap (λ z. z ++ k.0) h.1 ∙ append_assoc old h.0 k.0, found_join told p xs ys h.0 k.0 up h.2 k.2)

pub adds_none : (told : Told) (p : Path) (old : Listing Stamp) → Adds old old (Found told p [])
adds_none told p old = ([], sym (append-nil old), found_none told p)

-- a file
pub found_file : (told : Told) (p : Path) (child : Name × Kind) (stamp : Stamp) → IfSome told IsTreeBody → IsPath (p ++ child.0 ∷ []) → IfSome told (λ tree. HasStamp (at tree (p ++ child.0 ∷ [])) stamp) → Found told p (child ∷ []) (record { path = p ++ child.0 ∷ []; content = File stamp } ∷ [])
found_file told p child stamp lawful path is = record {
  below = file p child.0 child.1 stamp path;
  print = both_some _ _ (λ tree. AreThere (at tree) p (child ∷ []) → ArePrinted (at tree) p (child ∷ []) (record { path = p ++ child.0 ∷ []; content = File stamp } ∷ [])) told
      (λ tree body h there. file_print (at tree) p child.0 child.1 h.0 stamp (closed tree body) h.1 h.2) lawful is;
}

-- a directory, and what is found in it
pub found_directory : (told : Told) (p : Path) (child : Name × Kind) (rows : Listing Stamp) → IfSome told IsTreeBody → IsPath (p ++ child.0 ∷ []) → FoundIn told (p ++ child.0 ∷ []) rows → Found told p (child ∷ []) (record { path = p ++ child.0 ∷ []; content = Dir } ∷ rows)
found_directory told p child rows lawful path inner = record {
  below = directory p child.0 child.1 inner.children rows path inner.found.below;
  print = three told lawful inner.all inner.found.print;
}
  where
    three : (o : Told) → IfSome o IsTreeBody → IfSome o (λ tree. AreChildren (at tree) (p ++ child.0 ∷ []) inner.children) → IfSome o (λ tree. AreThere (at tree) (p ++ child.0 ∷ []) inner.children → ArePrinted (at tree) (p ++ child.0 ∷ []) inner.children rows) → IfSome o (λ tree. AreThere (at tree) p (child ∷ []) → ArePrinted (at tree) p (child ∷ []) (record { path = p ++ child.0 ∷ []; content = Dir } ∷ rows))
    three None a b c = tt
    three (Some tree) a b c = λ there. directory_print (at tree) p child.0 child.1 inner.children rows (closed tree a) b.directory (has_only (at tree) (p ++ child.0 ∷ []) inner.children b) inner.found.below (c (are_there (at tree) (p ++ child.0 ∷ []) inner.children b))

-- its row, and then what is added
pub adds_directory : (told : Told) (p : Path) (child : Name × Kind) (old mid new : Listing Stamp) → IfSome told IsTreeBody → IsPath (p ++ child.0 ∷ []) → mid ≡ old ++ record { path = p ++ child.0 ∷ []; content = Dir } ∷ [] → Adds mid new (FoundIn told (p ++ child.0 ∷ [])) → Adds old new (Found told p (child ∷ []))
adds_directory told p child old mid new lawful path pushed h = (
  record { path = p ++ child.0 ∷ []; content = Dir } ∷ h.0,
  h.1 ∙ ap (λ z. z ++ h.0) pushed ∙ append_assoc old (record { path = p ++ child.0 ∷ []; content = Dir } ∷ []) h.0,
  found_directory told p child h.0 lawful path h.2,
)

-- all rows of a folder are a listing
pub found_listing : (told : Told) (rows : Listing Stamp) → FoundIn told [] rows → IsListing rows
found_listing told rows inner = whole inner.children rows inner.found.below

-- of the print of its tree
pub found_print : (told : Told) (rows : Listing Stamp) → FoundIn told [] rows → IfSome told (λ tree. at rows ≡ print_of (at tree))
found_print told rows inner = three told inner.lawful inner.all inner.found.print
  where
    three : (o : Told) → IfSome o IsTreeBody → IfSome o (λ tree. AreChildren (at tree) [] inner.children) → IfSome o (λ tree. AreThere (at tree) [] inner.children → ArePrinted (at tree) [] inner.children rows) → IfSome o (λ tree. at rows ≡ print_of (at tree))
    three None a b c = tt
    three (Some tree) a b c = whole_print (at tree) inner.children rows (closed tree a) b.directory (has_only (at tree) [] inner.children b) inner.found.below (c (are_there (at tree) [] inner.children b))

-- ---- as the walk needs it

-- children that are there are so in each part
pub there_left : (told : Told) (p : Path) (xs ys all : Children) → all ≡ xs ++ ys → IfSome told (λ tree. AreThere (at tree) p all) → IfSome told (λ tree. AreThere (at tree) p xs)
there_left told p xs ys all e =
    map_some _ _ told (λ tree there. (all_parts (λ (child : Name × Kind). CanBe (at tree (p ++ child.0 ∷ [])) child.1) xs ys (subst (AreThere (at tree) p) e there)).0)

pub there_right : (told : Told) (p : Path) (xs ys all : Children) → all ≡ xs ++ ys → IfSome told (λ tree. AreThere (at tree) p all) → IfSome told (λ tree. AreThere (at tree) p ys)
there_right told p xs ys all e =
    map_some _ _ told (λ tree there. (all_parts (λ (child : Name × Kind). CanBe (at tree (p ++ child.0 ∷ [])) child.1) xs ys (subst (AreThere (at tree) p) e there)).1)

pub there_first : (told : Told) (p : Path) (child : Name × Kind) (others rest : Children) → rest ≡ child ∷ others → IfSome told (λ tree. AreThere (at tree) p rest) → IfSome told (λ tree. CanBe (at tree (p ++ child.0 ∷ [])) child.1)
there_first told p child others rest e = map_some _ _ told (λ tree there. (subst (AreThere (at tree) p) e there).0)

-- rows of all children after those of the first ones
pub adds_rest : (told : Told) (p : Path) (done rest all : Children) (old mid new : Listing Stamp) → all ≡ done ++ rest → InOrder all → Adds old mid (Found told p done) → Adds mid new (Found told p rest) → Adds old new (Found told p all)
adds_rest told p done rest all old mid new e up h k =
    subst (λ z. Adds old new (Found told p z)) (sym e) (adds_more told p done rest old mid new (subst InOrder e up) h k)

-- and where the second half was found apart
adds_half : (told : Told) (p : Path) (xs ys all : Children) (old mid more new : Listing Stamp) → all ≡ xs ++ ys → InOrder all → Adds old mid (Found told p xs) → Found told p ys more → new ≡ mid ++ more → Adds old new (Found told p all)
adds_half told p xs ys all old mid more new e up h k is = adds_rest told p xs ys all old mid new e up h (more, is, k)

pub adds_both :
    {A B E : Type 0} (front : Result A E) (back : Result B E) (rows : A → Listing Stamp) (items : B → Listing Stamp) (told : Told) (p : Path) (xs ys all : Children) (old new : Listing Stamp)
    → all ≡ xs ++ ys → InOrder all → IfOk front (λ a. Adds old (rows a) (Found told p xs)) → IfOk back (λ b. Found told p ys (items b))
    → IsOkAnd front (λ a. IsOkAnd back (λ b. new ≡ rows a ++ items b)) → Adds old new (Found told p all)
adds_both (Ok a) (Ok b) rows items told p xs ys all old new e up h k is = adds_half told p xs ys all old (rows a) (items b) new e up h k is
adds_both (Ok a) (Err y) rows items told p xs ys all old new e up h k is = absurd is
adds_both (Err x) back rows items told p xs ys all old new e up h k is = absurd is

-- and it fails as one of them does
pub fails_either :
    {A B C E : Type 0} (front : Result A E) (back : Result B E) (r : Result C E) (P : E → Type 0) (none : E)
    → P none → IfErr front P → IfErr back P → IfErr r (λ e. (e ≡ none) ⊎ (front ≡ Err e) ⊎ (back ≡ Err e)) → IfErr r P
fails_either front back (Ok x) P none n h k is = tt
fails_either front back (Err y) P none n h k (inl e) = subst P (sym e) n
fails_either front back (Err y) P none n h k (inr (inl e)) = IfErr-at_err P e h
fails_either front back (Err y) P none n h k (inr (inr e)) = IfErr-at_err P e k

pub adds_file : (told : Told) (p path : Path) (child : Name × Kind) (stamp : Stamp) (old new : Listing Stamp) → IfSome told IsTreeBody → path ≡ p ++ child.0 ∷ [] → IsPath path → IfSome told (λ tree. HasStamp (at tree path) stamp) → new ≡ old ++ record { path = path; content = File stamp } ∷ [] → Adds old new (Found told p (child ∷ []))
adds_file told p path child stamp old new lawful e is stamped pushed = (
  record { path = p ++ child.0 ∷ []; content = File stamp } ∷ [],
  pushed ∙ ap (λ z. old ++ record { path = z; content = File stamp } ∷ []) e,
  found_file told p child stamp lawful (subst IsPath e is) (subst (λ z. IfSome told (λ tree. HasStamp (at tree z) stamp)) e stamped),
)

pub adds_below : (told : Told) (p path own : Path) (child : Name × Kind) (old mid new : Listing Stamp) → IfSome told IsTreeBody → path ≡ p ++ child.0 ∷ [] → IsPath path → own ≡ path → mid ≡ old ++ record { path = own; content = Dir } ∷ [] → Adds mid new (FoundIn told path) → Adds old new (Found told p (child ∷ []))
adds_below told p path own child old mid new lawful e is same pushed h =
    adds_directory told p child old mid new lawful (subst IsPath e is)
    (pushed ∙ ap (λ z. old ++ record { path = z; content = Dir } ∷ []) (same ∙ e)) (subst (λ z. Adds mid new (FoundIn told z)) e h)

-- what the exit of a `?` tells
pub exit_tells : {T E : Type 0} (r : Result T E) (e : E) (P : E → Type 0) → IsErrAnd r (λ y. y ≡ e) → P e → IfErr r P
exit_tells (Ok x) e P is h = tt
exit_tells (Err y) e P is h = subst P (sym is) h

-- all that was found, from the root on and with no rows before
pub adds_all : (told : Told) (p : Path) (old new : Listing Stamp) → p ≡ [] → old ≡ [] → Adds old new (FoundIn told p) → FoundIn told [] new
adds_all told p old new root none h =
    subst (FoundIn told []) (sym (h.1 ∙ ap (λ z. z ++ h.0) none)) (subst (λ z. FoundIn told z h.0) root h.2)
