-- Rows and their lines: what fits in rows and at paths, and which rows stand first in a list of lines.
--     Fitting P p x               a lawful row
--     TellsRow lines_of Fits      each row has a line, and lines that begin with a row's lines are of one row
use Rattle.std.proofs.Common.{◌≡◌, ◌≢◌, ◌<◌, ℕ, zero, suc, Bool, true, false, cond, List, [], ◌∷◌, ◌++◌, flat_map, slice_index, refl, sym, ap₂, ◌∙◌, append_assoc, arith}
use Rattle.std.specs.List.{AllByRecursion}
use Rattle.std.specs.Int.{to_be_bytes, w32}
use Rattle.sha2.specs.Sha256.{sha256, digest_bytes, final_hash, initial_hash_256}
use Rattle.sha2.proofs.Facts256.{length-sha256}
use Rattle.ts_name.specs.Paths.{Path, IsPath, same_path}
use Rattle.ts_name.specs.Laws.{same_path_itself, same_path_differ}
use Rattle.ts_name.proofs.Utf8.{all_append}
use Rattle.ts_model.specs.Trees.{Ascend, Listing, listed, at, stamped}
use Rattle.ts_model.specs.Texts.{IsBytes, FileFits, StampFits}
use Rattle.ts_model.specs.declared.row.Content.{Content}
use Rattle.ts_model.specs.declared.row.Content.TheVariants.{Absent, Dir, File}
use Rattle.ts_model.specs.declared.row.Row.{Row}

-- ---- what is listed

-- the first row says what is at its path
pub listed_here : {F : Type 0} (row : Row F) (rows : Listing F) → listed (row ∷ rows) row.path ≡ row.content
listed_here row rows = rw (same_path_itself row.path)

-- other paths have what the rest says
pub listed_there : {F : Type 0} (row : Row F) (rows : Listing F) (p : Path) → row.path ≢ p → listed (row ∷ rows) p ≡ listed rows p
listed_there row rows p differ = rw (same_path_differ row.path p differ)

-- below the root, what is there is what is listed
pub at_listed : {F : Type 0} (rows : Listing F) (p : Path) → p ≢ [] → at rows p ≡ listed rows p
at_listed rows [] some = absurd (some refl)
at_listed rows (n ∷ p) some = refl

-- the rows after the first ascend
pub ascend_rest : {F : Type 0} (row : Row F) (rows : Listing F) → Ascend (row ∷ rows) → Ascend rows
ascend_rest row [] h = tt
ascend_rest row (next ∷ rows) h = h.1

-- where nothing is stamped nothing is
pub stamped_absent : (x : Content (List ℕ)) → stamped x ≡ Absent → x ≡ Absent
stamped_absent Absent e = refl
stamped_absent Dir e = cc
stamped_absent (File bytes) e = cc

-- where a directory is stamped one is
pub stamped_dir : (x : Content (List ℕ)) → stamped x ≡ Dir → x ≡ Dir
stamped_dir Absent e = cc
stamped_dir Dir e = refl
stamped_dir (File bytes) e = cc

-- where a directory is something is
pub dir_is_there : {F : Type 0} (x : Content F) → x ≡ Dir → x ≢ Absent
dir_is_there Absent e none = cc
dir_is_there Dir e none = cc
dir_is_there (File x) e none = cc

-- ---- contents

-- what fits in each row fits at each path
pub fits_at : {F : Type 0} (P : Content F → Type 0) → P Absent → P Dir → (rows : Listing F) → AllByRecursion (λ row. P row.content) rows → (p : Path) → P (at rows p)
fits_at P absent dir rows all [] = dir
fits_at {F} P absent dir rows all (name ∷ names) = go rows all (name ∷ names)
  where
    here : (row : Row F) (rows : Listing F) → P row.content → (p : Path) → P (listed rows p) → (b : Bool) → P (cond b row.content (listed rows p))
    here row rows h p more true = h
    here row rows h p more false = more

    go : (rows : Listing F) → AllByRecursion (λ row. P row.content) rows → (p : Path) → P (listed rows p)
    go [] all p = absent
    go (row ∷ rows) all p = here row rows all.0 p (go rows all.1 p) (same_path row.path p)

-- a digest has bytes
pub bytes-sha256 : (x : List ℕ) → IsBytes (sha256 x)
unfolding sha256 digest_bytes
bytes-sha256 x = digest (final_hash initial_hash_256 x) 8
  where
    word : (n : ℕ) → IsBytes (to_be_bytes w32 n)
    word n = (omega arith, (omega arith, (omega arith, (omega arith, tt))))

    digest : (h : List ℕ) (n : ℕ) → IsBytes (digest_bytes h n)
    digest h zero = tt
    digest h (suc n) = all_append (λ b. b < 256) (digest_bytes h n) (to_be_bytes w32 (slice_index h n)) (digest h n) (word (slice_index h n))

-- the stamp of what fits does
pub stamp_fits : (x : Content (List ℕ)) → FileFits x → StampFits (stamped x)
stamp_fits Absent fits = tt
stamp_fits Dir fits = tt
stamp_fits (File bytes) fits = (fits.1, bytes-sha256 bytes, length-sha256 bytes)

-- ---- lines of rows

-- a row that some listing may have, with what fits
abbrev pub Fitting : {A : Type 0} → (Content A → Type 0) → Path → Content A → Type 0
Fitting P p x = IsPath p × (p ≢ []) × (x ≢ Absent) × P x

-- each row is lawful
abbrev pub RowsFit : {A : Type 0} → (Path → Content A → Type 0) → Listing A → Type 0
RowsFit Fits rows = AllByRecursion (λ row. Fits row.path row.content) rows

-- the rows of a listing are, where each content fits
pub rows_fit : {A : Type 0} (P : Content A → Type 0) (rows : Listing A) → AllByRecursion (λ row. IsPath row.path × (row.path ≢ []) × (row.content ≢ Absent)) rows
    → AllByRecursion (λ row. P row.content) rows → RowsFit (Fitting P) rows
rows_fit P [] are fit = tt
rows_fit P (row ∷ rows) are fit = ((are.0.0, are.0.1, are.0.2, fit.0), rows_fit P rows are.1 fit.1)

-- the lines of all rows
abbrev pub lines_of_rows : {A L : Type 0} → (Path → Content A → List L) → Listing A → List L
lines_of_rows lines_of rows = flat_map (λ row. lines_of row.path row.content) rows

-- what each row's lines have, all lines have
pub each_line : {A L : Type 0} (lines_of : Path → Content A → List L) (Fits : Path → Content A → Type 0) (P : L → Type 0)
    → ((p : Path) (x : Content A) → Fits p x → AllByRecursion P (lines_of p x)) → (rows : Listing A) → RowsFit Fits rows → AllByRecursion P (lines_of_rows lines_of rows)
each_line lines_of Fits P each [] fit = tt
each_line lines_of Fits P each (row ∷ rows) fit =
    all_append P (lines_of row.path row.content) (lines_of_rows lines_of rows) (each row.path row.content fit.0) (each_line lines_of Fits P each rows fit.1)

-- lines that begin with a row's lines are of one row, and it has a line
pub record TellsRow {A L : Type 0} (lines_of : Path → Content A → List L) (Fits : Path → Content A → Type 0) : Type 0 where
  pub one : (p q : Path) (x y : Content A) (u v : List L) → Fits p x → Fits q y → lines_of p x ++ u ≡ lines_of q y ++ v → (p ≡ q) × (x ≡ y) × (u ≡ v)
  pub some : (p : Path) (x : Content A) (u : List L) → Fits p x → lines_of p x ++ u ≢ []

-- rows go on after these, by lawful rows that have these lines
pub record RowsFollow {A L : Type 0} (lines_of : Path → Content A → List L) (Fits : Path → Content A → Type 0) (xs ys : Listing A) (rest : List L) : Type 0 where
  pub more : Listing A
  pub rows : xs ≡ ys ++ more
  pub fit : RowsFit Fits more
  pub lines : lines_of_rows lines_of more ≡ rest

-- what begins with the lines of rows has these rows first
pub rows_front : {A L : Type 0} (lines_of : Path → Content A → List L) (Fits : Path → Content A → Type 0) → TellsRow lines_of Fits
    → (xs ys : Listing A) (rest : List L) → RowsFit Fits xs → RowsFit Fits ys → lines_of_rows lines_of xs ≡ lines_of_rows lines_of ys ++ rest → RowsFollow lines_of Fits xs ys rest
rows_front lines_of Fits tells xs [] rest fit_x fit_y e = record { more = xs; rows = refl; fit = fit_x; lines = e }
rows_front lines_of Fits tells [] (y ∷ ys) rest fit_x fit_y e =
    absurd (tells.some y.path y.content (lines_of_rows lines_of ys ++ rest) fit_y.0 (sym (append_assoc (lines_of y.path y.content) (lines_of_rows lines_of ys) rest) ∙ sym e))
rows_front lines_of Fits tells (x ∷ xs) (y ∷ ys) rest fit_x fit_y e =
    let row = tells.one x.path y.path x.content y.content (lines_of_rows lines_of xs) (lines_of_rows lines_of ys ++ rest) fit_x.0 fit_y.0
    (e ∙ append_assoc (lines_of y.path y.content) (lines_of_rows lines_of ys) rest) in
    let found = rows_front lines_of Fits tells xs ys rest fit_x.1 fit_y.1 row.2 in
    let first : x ≡ y = λ i. record { path = row.0 i; content = row.1 i } in
    record { more = found.more; rows = ap₂ ◌∷◌ first found.rows; fit = found.fit; lines = found.lines }
