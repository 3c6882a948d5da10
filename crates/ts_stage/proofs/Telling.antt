-- What was staged of files, told as their bytes.
use Rattle.std.proofs.Common.{◌≡◌, ℕ, zero, suc, ◌<◌, Bool, true, false, List, [], ◌∷◌, ◌++◌, length, get_or, take, drop, ◌+◌, refl, sym, ap, ap₂, ◌∙◌, subst, arith, ◌⊎◌, inl, inr}
use Rattle.std.proofs.Math.ListN.{set}
use Rattle.std.proofs.lemmas.List.{set-get_or, take_more}
use Rattle.ts_name.specs.Paths.{Path}
use Rattle.ts_model.specs.Trees.{Listing, Ascend, IsSubListing, listed, stamped}
use Rattle.ts_model.specs.declared.row.Content.{Content}
use Rattle.ts_model.specs.declared.row.Content.TheVariants.{Absent, Dir, File}
use Rattle.ts_model.specs.declared.row.Row.{Row}
use Rattle.ts_model.specs.declared.row.Stamp.{Stamp}
use Rattle.ts_model.proofs.Rows.{stamped_absent}
use Rattle.ts_print.specs.Prints.{stamped_row, stamped_rows}
use Rattle.ts_stage.specs.Assemblies.{begun, begun_rows, more, with_more}
use Rattle.ts_stage.specs.Stagings.{Staging, all_held, both, is_held, joined_to, told, told_row, told_rows}
use Rattle.ts_stage.proofs.Assembling.{IsSubListing-changed, IsSubListing-more, IsSubListing-of_changed, KeepsKinds, ascend-changed, listed-changed, put_more}

told_there : (x : Content Staging) → told x ≡ Absent → x ≡ Absent
told_there Absent e = refl
told_there Dir e = cc
told_there (File file) e = cc

told_dir : (x : Content Staging) → told x ≡ Dir → x ≡ Dir
told_dir Absent e = cc
told_dir Dir e = refl
told_dir (File file) e = cc

stamped_dir : (x : Content (List ℕ)) → stamped x ≡ Dir → x ≡ Dir
stamped_dir Absent e = cc
stamped_dir Dir e = refl
stamped_dir (File bytes) e = cc

keeps-told : KeepsKinds (λ p (x : Content Staging). told x)
keeps-told = record { absent = λ p. refl; dir = λ p. refl; there = λ p x e. told_there x e }

pub listed-told : (rows : Listing Staging) (p : Path) → listed (told_rows rows) p ≡ told (listed rows p)
listed-told rows p = listed-changed (λ p (x : Content Staging). told x) keeps-told rows p

pub ascend-told : (rows : Listing Staging) → Ascend rows → Ascend (told_rows rows)
ascend-told rows up = ascend-changed (λ p (x : Content Staging). told x) rows up

pub IsSubListing-told : (rows : Listing Staging) → IsSubListing rows → IsSubListing (told_rows rows)
IsSubListing-told rows is = IsSubListing-changed (λ p (x : Content Staging). told x) keeps-told rows is

pub IsSubListing-of_told : (rows : Listing Staging) → IsSubListing (told_rows rows) → IsSubListing rows
IsSubListing-of_told rows is = IsSubListing-of_changed (λ p (x : Content Staging). told x) keeps-told (λ p x e. told_dir x e) rows is

-- rows whose stamps are those of a part are rows of a part
pub IsSubListing-of_stamps : (rows : Listing Staging) → IsSubListing (stamped_rows (told_rows rows)) → IsSubListing rows
IsSubListing-of_stamps rows is = IsSubListing-of_told rows (IsSubListing-of_changed (λ p (x : Content (List ℕ)). stamped x)
    (record { absent = λ p. refl; dir = λ p. refl; there = λ p x e. stamped_absent x e }) (λ p x e. stamped_dir x e) (told_rows rows) is)

-- what is told as a file is one
pub told_file : (x : Content Staging) (had : List ℕ) → told x ≡ File had → (file : Staging) × (x ≡ File file) × (file.bytes ≡ had)
told_file Absent had e = absurd (let g : ◌≡◌ {A = Content (List ℕ)} Absent (File had) = e in cc)
told_file Dir had e = absurd (let g : ◌≡◌ {A = Content (List ℕ)} Dir (File had) = e in cc)
told_file (File file) had e = (file, refl, let g : ◌≡◌ {A = Content (List ℕ)} (File file.bytes) (File had) = e in cc)

-- ---- a row is set

pub told_set : (rows : Listing Staging) (i : ℕ) (row : Row Staging) → told_rows (set rows i row) ≡ set (told_rows rows) i (told_row row)
told_set [] i row = refl
told_set (first ∷ rows) zero row = refl
told_set (first ∷ rows) (suc i) row = ap (λ z. told_row first ∷ z) (told_set rows i row)

pub told_get : (rows : Listing Staging) (i : ℕ) (row : Row Staging) → get_or (told_rows rows) i (told_row row) ≡ told_row (get_or rows i row)
told_get [] i row = refl
told_get (first ∷ rows) zero row = refl
told_get (first ∷ rows) (suc i) row = told_get rows i row

pub told_length : (rows : Listing Staging) → length (told_rows rows) ≡ length rows
told_length [] = refl
told_length (first ∷ rows) = ap suc (told_length rows)

told_joined : (piece : Staging) (x : Content Staging) → told (joined_to piece x) ≡ more piece.bytes (told x)
told_joined piece Absent = refl
told_joined piece Dir = refl
told_joined piece (File had) = refl

-- a piece at the end of the file in the row at the index
pub told_put : (top rest : Path) (piece : Staging) (rows : Listing Staging) (i : ℕ) (row : Row Staging) → Ascend rows → i < length rows → row ≡ get_or rows i row → (get_or rows i row).path ≡ rest
    → told_rows (set rows i (record { path = row.path; content = joined_to piece row.content })) ≡ with_more top (top ++ rest) piece.bytes (told_rows rows)
told_put top rest piece rows i row up under is at_rest =
    told_set rows i (record { path = row.path; content = joined_to piece row.content })
    ∙ ap (λ x. set (told_rows rows) i (record { path = row.path; content = x })) (told_joined piece row.content)
    ∙ put_more top rest piece.bytes (told_rows rows) i (told_row row) (ascend-told rows up) (subst (λ n. i < n) (sym (told_length rows)) under)
    (ap told_row is ∙ sym (told_get rows i row)) (ap (λ r. r.path) (told_get rows i row) ∙ at_rest)

-- ---- what is in memory

both_swap : (a b c : Bool) → both (both a b) c ≡ both (both a c) b
both_swap true true true = refl
both_swap true true false = refl
both_swap true false true = refl
both_swap true false false = refl
both_swap false b c = refl

both_last : (a b c : Bool) → both a (both b c) ≡ both (both a b) c
both_last true b c = refl
both_last false b c = refl

pub both_false : (a : Bool) → both a false ≡ false
both_false true = refl
both_false false = refl

pub both_true : (a b : Bool) → both a b ≡ true → (a ≡ true) × (b ≡ true)
both_true true b e = (refl, e)
both_true false b e = let g : ◌≡◌ {A = Bool} false true = e in cc

held_joined : (piece : Staging) (x : Content Staging) (had : Staging) → x ≡ File had → is_held (joined_to piece x) ≡ both (is_held x) piece.held
held_joined piece Absent had e = absurd (let g : ◌≡◌ {A = Content Staging} Absent (File had) = e in cc)
held_joined piece Dir had e = absurd (let g : ◌≡◌ {A = Content Staging} Dir (File had) = e in cc)
held_joined piece (File file) had e = refl

pub held_set : (piece had : Staging) (rows : Listing Staging) (i : ℕ) (row d : Row Staging) → i < length rows → row ≡ get_or rows i d → row.content ≡ File had
    → all_held (set rows i (record { path = row.path; content = joined_to piece row.content })) ≡ both (all_held rows) piece.held
held_set piece had [] i row d under is file = absurd (omega arith)
held_set piece had (first ∷ rows) zero row d under is file =
    ap (λ z. both z (all_held rows)) (held_joined piece row.content had file ∙ ap (λ (r : Row Staging). both (is_held r.content) piece.held) is)
    ∙ both_swap (is_held first.content) piece.held (all_held rows)
held_set piece had (first ∷ rows) (suc i) row d under is file =
    ap (both (is_held first.content)) (held_set piece had rows i row d (omega arith) is file) ∙ both_last (is_held first.content) (all_held rows) piece.held

-- whether a piece came or not, the rows are those of a part
pub still_told : (rest : Path) (piece : Staging) (rows : Listing Staging) (i : ℕ) (row : Row Staging) (x : Content Staging) → IsSubListing rows → i < length rows → row ≡ get_or rows i row → (get_or rows i row).path ≡ rest
    → (x ≡ joined_to piece row.content) ⊎ (x ≡ row.content) → IsSubListing (set rows i (record { path = row.path; content = x }))
still_told rest piece rows i row x lists under is at_rest (inl e) =
    let same = ap (λ z. told_rows (set rows i (record { path = row.path; content = z }))) e ∙ told_put [] rest piece rows i row lists.ascending under is at_rest in
    IsSubListing-of_told (set rows i (record { path = row.path; content = x }))
    (subst IsSubListing (sym same) (IsSubListing-more [] ([] ++ rest) piece.bytes (told_rows rows) (IsSubListing-told rows lists)))
still_told rest piece rows i row x lists under is at_rest (inr e) =
    let same = ap (λ z. set rows i (record { path = row.path; content = z })) e ∙ ap (set rows i) is ∙ set-get_or rows i row in
    subst IsSubListing (sym same) lists

pub told_push : (rows : Listing Staging) (row : Row Staging) → told_rows (rows ++ row ∷ []) ≡ told_rows rows ++ told_row row ∷ []
told_push [] row = refl
told_push (first ∷ rows) row = ap (λ z. told_row first ∷ z) (told_push rows row)

pub held_push : (rows : Listing Staging) (row : Row Staging) → all_held (rows ++ row ∷ []) ≡ both (all_held rows) (is_held row.content)
held_push [] row = both_one (is_held row.content)
  where
    both_one : (a : Bool) → both a true ≡ a
    both_one true = refl
    both_one false = refl
held_push (first ∷ rows) row = ap (both (is_held first.content)) (held_push rows row) ∙ both_last (is_held first.content) (all_held rows) (is_held row.content)

pub held_more : (rows : Listing Staging) (i : ℕ) (d : Row Staging) → i < length rows → all_held (take i rows) ≡ true → is_held (get_or rows i d).content ≡ true → all_held (take (i + 1) rows) ≡ true
held_more rows i d under all one = ap all_held (take_more rows i d under) ∙ held_push (take i rows) (get_or rows i d) ∙ ap₂ both all one

pub held_at : (rows : Listing Staging) (i : ℕ) (d : Row Staging) → i < length rows → all_held rows ≡ true → is_held (get_or rows i d).content ≡ true
held_at [] i d under all = absurd (omega arith)
held_at (first ∷ rows) zero d under all = (both_true (is_held first.content) (all_held rows) all).0
held_at (first ∷ rows) (suc i) d under all = held_at rows i d (omega arith) (both_true (is_held first.content) (all_held rows) all).1

pub not_held : (rows : Listing Staging) (i : ℕ) (d : Row Staging) → i < length rows → is_held (get_or rows i d).content ≡ false → all_held rows ≡ false
not_held rows i d under gone = go (all_held rows) refl
  where
    go : (b : Bool) → all_held rows ≡ b → b ≡ false
    go false e = refl
    go true e = let g : ◌≡◌ {A = Bool} true false = sym (held_at rows i d under e) ∙ gone in g

-- ---- stamps

stamps_push : (rows : Listing Staging) (row : Row Staging) → stamped_rows (told_rows (rows ++ row ∷ [])) ≡ stamped_rows (told_rows rows) ++ stamped_row (told_row row) ∷ []
stamps_push [] row = refl
stamps_push (first ∷ rows) row = ap (λ z. stamped_row (told_row first) ∷ z) (stamps_push rows row)

pub stamps_more : (rows : Listing Staging) (stamps : Listing Stamp) (i : ℕ) (d : Row Staging) (e : Row Stamp) → i < length rows → i < length stamps → stamped_rows (told_rows (take i rows)) ≡ take i stamps
    → stamped_row (told_row (get_or rows i d)) ≡ get_or stamps i e → stamped_rows (told_rows (take (i + 1) rows)) ≡ take (i + 1) stamps
stamps_more rows stamps i d e under below so one =
    ap (λ z. stamped_rows (told_rows z)) (take_more rows i d under) ∙ stamps_push (take i rows) (get_or rows i d)
    ∙ ap₂ (λ xs x. xs ++ x ∷ []) so one ∙ sym (take_more stamps i e below)

pub stamps_at : (rows : Listing Staging) (i : ℕ) (d : Row Staging) (e : Row Stamp) → i < length rows → get_or (stamped_rows (told_rows rows)) i e ≡ stamped_row (told_row (get_or rows i d))
stamps_at [] i d e under = absurd (omega arith)
stamps_at (first ∷ rows) zero d e under = refl
stamps_at (first ∷ rows) (suc i) d e under = stamps_at rows i d e (omega arith)

pub stamps_length : (rows : Listing Staging) → length (stamped_rows (told_rows rows)) ≡ length rows
stamps_length [] = refl
stamps_length (first ∷ rows) = ap suc (stamps_length rows)

pub begun_drop : (rows : Listing Stamp) (i : ℕ) (d : Row Stamp) → i < length rows
    → begun_rows (drop i rows) ≡ record { path = (get_or rows i d).path; content = begun (get_or rows i d).content } ∷ begun_rows (drop (i + 1) rows)
begun_drop [] i d under = absurd (omega arith)
begun_drop (row ∷ rows) zero d under = refl
begun_drop (row ∷ rows) (suc i) d under =
    let next : suc (i + 1) ≡ suc i + 1 = omega arith in
    begun_drop rows i d (omega arith) ∙ ap (λ n. record { path = (get_or rows i d).path; content = begun (get_or rows i d).content } ∷ begun_rows (drop n (row ∷ rows))) next
