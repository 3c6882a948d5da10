-- Assemblies: rows whose contents change while their kinds stay.
use Rattle.std.proofs.Common.{◌≡◌, ◌≢◌, ℕ, zero, suc, ◌<◌, Bool, true, false, cond, List, [], ◌∷◌, ◌++◌, length, map, get_or, Some, None, refl, sym, ap, ap₂, ◌∙◌, subst, arith, ◌⊎◌, inl, inr, Result, Ok, Err, OnOk, OnErr}
use Rattle.std.proofs.Math.ListN.{set}
use Rattle.std.proofs.lemmas.Bool.{cond-true, cond-false}
use Rattle.std.proofs.lemmas.List.{set-get_or, append_cancel_left}
use Rattle.std.specs.List.{AllByRecursion}
use Rattle.ts_name.specs.Paths.{Path, IsPath, IsBefore, below, same_path}
use Rattle.ts_model.specs.Trees.{Listing, Ascend, IsSubListing, listed, print_of}
use Rattle.ts_model.specs.declared.row.Content.{Content}
use Rattle.ts_model.specs.declared.row.Content.TheVariants.{Absent, Dir, File}
use Rattle.ts_model.specs.declared.row.Row.{Row}
use Rattle.ts_model.specs.declared.row.Stamp.{Stamp}
use Rattle.ts_stage.specs.Assemblies.{Assembly, HasSoFar, begun, begun_rows, more, with_more}
use Rattle.ts_print.specs.Prints.{stamped_rows}
use Rattle.ts_print.proofs.Stamping.{listed-stamped}
use Rattle.ts_table.proofs.Listings.{listed_at}
use Rattle.ts_name.specs.Laws.{same_path_differ, same_path_equal, same_path_itself}
use Rattle.ts_name.proofs.Prefixes.{below_append, below_gives}
use Rattle.ts_name.proofs.Order.{before_itself}
use Rattle.ts_name.proofs.Basics.{by_each, weaker}
use Rattle.ts_table.proofs.Rows.{ascend_pair}
use Rattle.ts_model.proofs.Rows.{ascend_rest}
use Rattle.ts_model.proofs.Listings.{ascend_first}

-- ---- rows whose contents change

abbrev pub changed : {F G : Type 0} → (Path → Content F → Content G) → Listing F → Listing G
changed g rows = map (λ row. record { path = row.path; content = g row.path row.content }) rows

-- nothing, and directories, stay what they are, and nothing else becomes nothing
pub record KeepsKinds {F G : Type 0} (g : Path → Content F → Content G) : Type 0 where
  pub absent : (p : Path) → g p Absent ≡ Absent
  pub dir : (p : Path) → g p Dir ≡ Dir
  pub there : (p : Path) (x : Content F) → g p x ≡ Absent → x ≡ Absent

pub listed-changed : {F G : Type 0} (g : Path → Content F → Content G) → KeepsKinds g → (rows : Listing F) (p : Path) → listed (changed g rows) p ≡ g p (listed rows p)
listed-changed g keeps [] p = sym (keeps.absent p)
listed-changed {F} {G} g keeps (row ∷ rows) p = go (listed-changed g keeps rows p) (same_path row.path p) refl
  where
    go : listed (changed g rows) p ≡ g p (listed rows p) → (b : Bool) → same_path row.path p ≡ b → cond (same_path row.path p) (g row.path row.content) (listed (changed g rows) p) ≡ g p (cond (same_path row.path p) row.content (listed rows p))
    go rest true e =
        cond-true _ _ _ e ∙ ap (λ z. g z row.content) (same_path_equal row.path p e) ∙ ap (g p) (sym (cond-true _ row.content (listed rows p) e))
    go rest false e = cond-false _ _ _ e ∙ rest ∙ ap (g p) (sym (cond-false _ row.content (listed rows p) e))

pub ascend-changed : {F G : Type 0} (g : Path → Content F → Content G) (rows : Listing F) → Ascend rows → Ascend (changed g rows)
ascend-changed g [] h = tt
ascend-changed g (row ∷ []) h = tt
ascend-changed g (row ∷ next ∷ rows) h = (h.0, ascend-changed g (next ∷ rows) h.1)

each-changed : {F G : Type 0} (g : Path → Content F → Content G) → KeepsKinds g → (rows : Listing F) → AllByRecursion (λ row. IsPath row.path × (row.content ≢ Absent)) rows
    → AllByRecursion (λ row. IsPath row.path × (row.content ≢ Absent)) (changed g rows)
each-changed g keeps [] h = tt
each-changed g keeps (row ∷ rows) h = ((h.0.0, (λ e. h.0.1 (keeps.there row.path row.content e))), each-changed g keeps rows h.1)

ascend_of_changed : {F G : Type 0} (g : Path → Content F → Content G) (rows : Listing F) → Ascend (changed g rows) → Ascend rows
ascend_of_changed g [] h = tt
ascend_of_changed g (row ∷ []) h = tt
ascend_of_changed g (row ∷ next ∷ rows) h = (h.0, ascend_of_changed g (next ∷ rows) h.1)

each_of_changed : {F G : Type 0} (g : Path → Content F → Content G) → KeepsKinds g → (rows : Listing F) → AllByRecursion (λ row. IsPath row.path × (row.content ≢ Absent)) (changed g rows)
    → AllByRecursion (λ row. IsPath row.path × (row.content ≢ Absent)) rows
each_of_changed g keeps [] h = tt
each_of_changed g keeps (row ∷ rows) h = ((h.0.0, (λ e. h.0.1 (ap (g row.path) e ∙ keeps.absent row.path))), each_of_changed g keeps rows h.1)

pub IsSubListing-changed : {F G : Type 0} (g : Path → Content F → Content G) → KeepsKinds g → (rows : Listing F) → IsSubListing rows → IsSubListing (changed g rows)
IsSubListing-changed g keeps rows is = record {
  ascending = ascend-changed g rows is.ascending;
  rows_are = each-changed g keeps rows is.rows_are;
  parents = λ p name there.
      listed-changed g keeps rows p
      ∙ ap (g p) (is.parents p name (λ gone. there (listed-changed g keeps rows (p ++ name ∷ []) ∙ ap (g (p ++ name ∷ [])) gone ∙ keeps.absent (p ++ name ∷ []))))
      ∙ keeps.dir p;
}

-- where only directories become directories, the rows were those of a part before, too
pub IsSubListing-of_changed : {F G : Type 0} (g : Path → Content F → Content G) → KeepsKinds g → ((p : Path) (x : Content F) → g p x ≡ Dir → x ≡ Dir) → (rows : Listing F)
    → IsSubListing (changed g rows) → IsSubListing rows
IsSubListing-of_changed g keeps dirs rows is = record {
  ascending = ascend_of_changed g rows is.ascending;
  rows_are = each_of_changed g keeps rows is.rows_are;
  parents = λ p name there.
      dirs p (listed rows p)
      (sym (listed-changed g keeps rows p) ∙ is.parents p name (λ gone. there (keeps.there (p ++ name ∷ []) (listed rows (p ++ name ∷ [])) (sym (listed-changed g keeps rows (p ++ name ∷ [])) ∙ gone))));
}

-- ---- a new assembly

begun_there : (x : Content Stamp) → begun x ≡ Absent → x ≡ Absent
begun_there Absent e = refl
begun_there Dir e = cc
begun_there (File stamp) e = cc

pub IsSubListing-begun : (rows : Listing Stamp) → IsSubListing rows → IsSubListing (begun_rows rows)
IsSubListing-begun rows is =
    IsSubListing-changed (λ p x. begun x) (record { absent = λ p. refl; dir = λ p. refl; there = λ p x e. begun_there x e }) rows is

-- ---- bytes at the end of a file

more_there : (bytes : List ℕ) (x : Content (List ℕ)) → more bytes x ≡ Absent → x ≡ Absent
more_there bytes Absent e = refl
more_there bytes Dir e = cc
more_there bytes (File had) e = cc

choice_there : (b : Bool) (bytes : List ℕ) (x : Content (List ℕ)) → cond b (more bytes x) x ≡ Absent → x ≡ Absent
choice_there true bytes x e = more_there bytes x e
choice_there false bytes x e = e

choice_same : (b : Bool) {X : Type 0} (x : X) → cond b x x ≡ x
choice_same true x = refl
choice_same false x = refl

pub keeps-more : (top path : Path) (bytes : List ℕ) → KeepsKinds (λ p x. cond (same_path (top ++ p) path) (more bytes x) x)
keeps-more top path bytes = record {
  absent = λ p. choice_same (same_path (top ++ p) path) Absent;
  dir = λ p. choice_same (same_path (top ++ p) path) Dir;
  there = λ p x e. choice_there (same_path (top ++ p) path) bytes x e;
}

pub IsSubListing-more : (top path : Path) (bytes : List ℕ) (rows : Listing (List ℕ)) → IsSubListing rows → IsSubListing (with_more top path bytes rows)
IsSubListing-more top path bytes rows is = IsSubListing-changed (λ p x. cond (same_path (top ++ p) path) (more bytes x) x) (keeps-more top path bytes) rows is

-- rows of other paths stay
more_else : (top rest : Path) (bytes : List ℕ) (rows : Listing (List ℕ)) → AllByRecursion (λ row. row.path ≢ rest) rows → with_more top (top ++ rest) bytes rows ≡ rows
more_else top rest bytes [] h = refl
more_else top rest bytes (row ∷ rows) h =
    ap₂ (λ x xs. record { path = row.path; content = x } ∷ xs)
    (cond-false _ _ _ (same_path_differ (top ++ row.path) (top ++ rest) (λ e. h.0 (append_cancel_left top row.path rest e))))
    (more_else top rest bytes rows h.1)

-- writing over the row of the file is the same
pub set_more : (top rest : Path) (bytes : List ℕ) (rows : Listing (List ℕ)) (i : ℕ) (d : Row (List ℕ)) → Ascend rows → i < length rows → (get_or rows i d).path ≡ rest
    → set rows i (record { path = (get_or rows i d).path; content = more bytes (get_or rows i d).content }) ≡ with_more top (top ++ rest) bytes rows
set_more top rest bytes [] i d up under is = absurd (omega arith)
set_more top rest bytes (row ∷ rows) zero d up under is =
    ap₂ (λ x xs. record { path = row.path; content = x } ∷ xs)
    (sym (cond-true _ _ _ (ap (λ z. same_path (top ++ z) (top ++ rest)) is ∙ same_path_itself (top ++ rest))))
    (sym (more_else top rest bytes rows (weaker (λ (other : Row (List ℕ)). IsBefore row.path other.path) (λ other. other.path ≢ rest)
    (λ other before e. before_itself rest (subst (λ z. IsBefore z rest) is (subst (λ z. IsBefore row.path z) e before))) rows (ascend_first row rows up))))
set_more top rest bytes (row ∷ rows) (suc i) d up under is =
    let before : IsBefore row.path (get_or rows i d).path = ascend_pair (row ∷ rows) up 0 (suc i) d (omega arith) under in
    ap₂ (λ x xs. record { path = row.path; content = x } ∷ xs)
    (sym (cond-false _ _ _ (same_path_differ (top ++ row.path) (top ++ rest) (λ e. before_itself rest (subst (λ z. IsBefore z rest) (append_cancel_left top row.path rest e) (subst (λ z. IsBefore row.path z) is before))))))
    (set_more top rest bytes rows i d (ascend_rest row rows up) (omega arith) is)

pub all_get_or : {A : Type 0} (P : A → Type 0) (xs : List A) (i : ℕ) (d : A) → i < length xs → AllByRecursion P xs → P (get_or xs i d)
all_get_or P [] i d under h = absurd (omega arith)
all_get_or P (x ∷ xs) zero d under h = h.0
all_get_or P (x ∷ xs) (suc i) d under h = all_get_or P xs i d (omega arith) h.1

pub all_set : {A : Type 0} (P : A → Type 0) (xs : List A) (i : ℕ) (x : A) → AllByRecursion P xs → P x → AllByRecursion P (set xs i x)
all_set P [] i x h k = tt
all_set P (y ∷ ys) zero x h k = (k, h.1)
all_set P (y ∷ ys) (suc i) x h k = (h.0, all_set P ys i x h.1 k)

-- ---- the file of a piece

-- the row at the index is that of the path
pub row_says : {F : Type 0} (rows : Listing F) (i : ℕ) (row : Row F) (rest : Path) → Ascend rows → i < length rows → row ≡ get_or rows i row → (get_or rows i row).path ≡ rest → row.content ≡ listed rows rest
row_says {F} rows i row rest up under is at_rest = ap (λ r. r.content) is ∙ sym (listed_at rows i row up under) ∙ ap (listed rows) at_rest

-- writing bytes behind those of the row at the index
pub put_more : (top rest : Path) (bytes : List ℕ) (rows : Listing (List ℕ)) (i : ℕ) (row : Row (List ℕ)) → Ascend rows → i < length rows → row ≡ get_or rows i row → (get_or rows i row).path ≡ rest
    → set rows i (record { path = row.path; content = more bytes row.content }) ≡ with_more top (top ++ rest) bytes rows
put_more top rest bytes rows i row up under is at_rest =
    ap (λ r. set rows i (record { path = r.path; content = more bytes r.content })) is ∙ set_more top rest bytes rows i row up under at_rest

pub either : {T E P Q : Type 0} (r : Result T E) → OnOk r P → OnErr r Q → P ⊎ Q
either (Ok x) h k = inl h
either (Err e) h k = inr k

-- whether bytes came or not, the rows are those of a content
pub still_rows : (rest : Path) (bytes : List ℕ) (rows : Listing (List ℕ)) (i : ℕ) (row : Row (List ℕ)) (x : Content (List ℕ)) → IsSubListing rows → i < length rows → row ≡ get_or rows i row → (get_or rows i row).path ≡ rest
    → (x ≡ more bytes row.content) ⊎ (x ≡ row.content) → IsSubListing (set rows i (record { path = row.path; content = x }))
still_rows rest bytes rows i row x lists under is at_rest (inl e) =
    let same = ap (λ z. set rows i (record { path = row.path; content = z })) e ∙ put_more [] rest bytes rows i row lists.ascending under is at_rest in
    subst IsSubListing (sym same) (IsSubListing-more [] ([] ++ rest) bytes rows lists)
still_rows rest bytes rows i row x lists under is at_rest (inr e) =
    let same = ap (λ z. set rows i (record { path = row.path; content = z })) e ∙ ap (set rows i) is ∙ set-get_or rows i row in
    subst IsSubListing (sym same) lists

pub far_path : (a : Assembly) (path rest : Path) (n : ℕ) → HasSoFar a path n → below a.top path ≡ Some rest → (had : List ℕ) × (listed a.made rest ≡ File had) × (length had ≡ n)
far_path a path rest n far is =
    let same : far.0 ≡ rest = append_cancel_left a.top far.0 rest (sym far.2 ∙ below_gives a.top path rest is) in
    (far.1, subst (λ z. listed a.made z ≡ File far.1) same far.3, far.4)

pub far_below : (a : Assembly) (path : Path) (n : ℕ) → HasSoFar a path n → below a.top path ≢ None
far_below a path n far e = let f = ap (below a.top) far.2 ∙ below_append a.top far.0 in let g : None ≡ Some far.0 = sym e ∙ f in cc

-- a file at the path has so many bytes
pub far_size : (a : Assembly) (path rest : Path) (n size : ℕ) → below a.top path ≡ Some rest → (had : List ℕ) × (listed a.made rest ≡ File had) × (length had ≡ size)
    → (size ≡ n → HasSoFar a path n) × (HasSoFar a path n → size ≡ n)
far_size a path rest n size is file = (
  (λ e. (rest, file.0, below_gives a.top path rest is, file.1, file.2 ∙ e)),
  (λ far. let found = far_path a path rest n far is in let same : ◌≡◌ {A = Content (List ℕ)} (File file.0) (File found.0) = sym file.1 ∙ found.1 in let bytes : file.0 ≡ found.0 = cc in sym file.2 ∙ ap length bytes ∙ found.2),
)

pub far_none : (a : Assembly) (path rest : Path) (n : ℕ) → below a.top path ≡ Some rest → ((had : List ℕ) → listed a.made rest ≢ File had) → ¬ HasSoFar a path n
far_none a path rest n is gone far = let found = far_path a path rest n far is in gone found.0 found.1

-- what is absent, or a directory, is no file
pub no_file : {F : Type 0} (x : Content F) (had : F) → (x ≡ Absent) ⊎ (x ≡ Dir) → x ≢ File had
no_file {F} x had (inl e) f = let g : ◌≡◌ {A = Content F} Absent (File had) = sym e ∙ f in cc
no_file {F} x had (inr e) f = let g : ◌≡◌ {A = Content F} Dir (File had) = sym e ∙ f in cc

-- ---- prints of what is staged

-- the print of listed rows
pub print-listed : (rows : Listing (List ℕ)) → print_of (listed rows) ≡ listed (stamped_rows rows)
print-listed rows = by_each _ _ (λ p. sym (listed-stamped rows p))
