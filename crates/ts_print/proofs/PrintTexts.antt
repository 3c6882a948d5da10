-- The text of a print: each line says one row.
use Rattle.std.proofs.Common.{◌≡◌, ◌≢◌, ℕ, List, [], ◌∷◌, ◌++◌, decimal, refl, arith, length-append}
use Rattle.std.specs.List.{AllByRecursion}
use Rattle.std.proofs.lemmas.Fmt.{decimal_injective}
use Rattle.hex.specs.Hex.{encode_lower}
use Rattle.ts_name.specs.Paths.{Path, IsPath, path_text}
use Rattle.ts_name.proofs.Spelling.{clean_decimal, clean_path, cut_at, length_number, no_feed, no_space, one_path}
use Rattle.ts_name.proofs.Texts.{path_text_short}
use Rattle.ts_name.proofs.Utf8.{all_append}
use Rattle.ts_model.specs.Trees.{Listing}
use Rattle.ts_model.specs.Texts.{Line, print_row_lines, print_lines, StampFits, IsPrintBody}
use Rattle.ts_model.specs.declared.row.Content.{Content}
use Rattle.ts_model.specs.declared.row.Content.TheVariants.{Absent, Dir, File}
use Rattle.ts_model.specs.declared.row.Stamp.{Stamp}
use Rattle.ts_text.specs.Lines.{IsLine}
use Rattle.ts_model.proofs.Spelling.{clean_hex, length_hex, one_hex}
use Rattle.ts_model.proofs.Rows.{RowsFollow}
use Rattle.ts_model.proofs.Rows as row_lists
use Rattle.ts_tree.proofs.Lines.{AreTextLines}

-- a lawful row
abbrev pub RowFits : Path → Content Stamp → Type 0
RowFits p x = IsPath p × (p ≢ []) × (x ≢ Absent) × StampFits x

abbrev pub RowsFit : Listing Stamp → Type 0
RowsFit rows = AllByRecursion (λ row. RowFits row.path row.content) rows

-- the rows of a print are lawful
pub rows_fit : (rows : Listing Stamp) → IsPrintBody rows → RowsFit rows
rows_fit rows is = row_lists.rows_fit StampFits rows is.listing.rows_are is.stamps

-- ---- one row

-- a row's line, and the lines after it
pub one_row : (p q : Path) (x y : Content Stamp) (u v : List Line) → RowFits p x → RowFits q y → print_row_lines p x ++ u ≡ print_row_lines q y ++ v → (p ≡ q) × (x ≡ y) × (u ≡ v)
one_row p q Absent y u v fits_x fits_y e = absurd (fits_x.2 refl)
one_row p q Dir Absent u v fits_x fits_y e = absurd (fits_y.2 refl)
one_row p q (File x) Absent u v fits_x fits_y e = absurd (fits_y.2 refl)
one_row p q Dir Dir u v fits_x fits_y e =
    let k : (100 ∷ 32 ∷ path_text p) ∷ u ≡ (100 ∷ 32 ∷ path_text q) ∷ v = e in
    let paths : path_text p ≡ path_text q = cc in
    (one_path p q fits_x.0 fits_y.0 paths, refl, cc)
one_row p q Dir (File y) u v fits_x fits_y e =
    let k : (100 ∷ 32 ∷ path_text p) ∷ u ≡ (102 ∷ 32 ∷ (path_text q ++ 32 ∷ (decimal y.size ++ 32 ∷ encode_lower y.digest))) ∷ v = e in
    absurd (let first : ◌≡◌ {A = ℕ} 100 102 = cc in omega arith)
one_row p q (File x) Dir u v fits_x fits_y e =
    let k : (102 ∷ 32 ∷ (path_text p ++ 32 ∷ (decimal x.size ++ 32 ∷ encode_lower x.digest))) ∷ u ≡ (100 ∷ 32 ∷ path_text q) ∷ v = e in
    absurd (let first : ◌≡◌ {A = ℕ} 102 100 = cc in omega arith)
one_row p q (File x) (File y) u v fits_x fits_y e =
    let k : (102 ∷ 32 ∷ (path_text p ++ 32 ∷ (decimal x.size ++ 32 ∷ encode_lower x.digest))) ∷ u
    ≡ (102 ∷ 32 ∷ (path_text q ++ 32 ∷ (decimal y.size ++ 32 ∷ encode_lower y.digest))) ∷ v = e in
    let lines : path_text p ++ 32 ∷ (decimal x.size ++ 32 ∷ encode_lower x.digest) ≡ path_text q ++ 32 ∷ (decimal y.size ++ 32 ∷ encode_lower y.digest) = cc in
    let rest : u ≡ v = cc in
    let path = cut_at 32 (path_text p) (path_text q) _ _ (no_space _ (clean_path p fits_x.0)) (no_space _ (clean_path q fits_y.0)) lines in
    let size = cut_at 32 (decimal x.size) (decimal y.size) _ _ (no_space _ (clean_decimal x.size fits_x.3.0)) (no_space _ (clean_decimal y.size fits_y.3.0)) path.1 in
    let sizes = decimal_injective x.size y.size fits_x.3.0 fits_y.3.0 size.0 in
    let digests = one_hex x.digest y.digest fits_x.3.1 fits_y.3.1 size.1 in
    (one_path p q fits_x.0 fits_y.0 path.0, λ i. File (record { size = sizes i; digest = digests i }), rest)

-- a row is some line
no_row : (p : Path) (x : Content Stamp) (u : List Line) → RowFits p x → print_row_lines p x ++ u ≢ []
no_row p Absent u fits e = fits.2 refl
no_row p Dir u fits e = cc
no_row p (File x) u fits e = cc

-- ---- rows

-- so what begins with the lines of rows has these rows first
pub rows_front : (xs ys : Listing Stamp) (rest : List Line) → RowsFit xs → RowsFit ys → print_lines xs ≡ print_lines ys ++ rest → RowsFollow print_row_lines RowFits xs ys rest
rows_front xs ys rest fit_x fit_y e = row_lists.rows_front print_row_lines RowFits (record { one = one_row; some = no_row }) xs ys rest fit_x fit_y e

-- ---- each line is one that a text can have

dir_line : (p : Path) → IsPath p → IsLine (100 ∷ 32 ∷ path_text p)
dir_line p is = record {
  one = (λ e. omega arith, (λ e. omega arith, no_feed _ (clean_path p is)));
  short = omega (arith, path_text_short p is);
}

file_line : (p : Path) (x : Stamp) → IsPath p → StampFits (File x) → IsLine (102 ∷ 32 ∷ (path_text p ++ 32 ∷ (decimal x.size ++ 32 ∷ encode_lower x.digest)))
file_line p x is fits = record {
  one = (
    λ e. omega arith,
    (
      λ e. omega arith,
      all_append (λ b. b ≢ 10) (path_text p) _ (no_feed _ (clean_path p is))
          (λ e. omega arith, all_append (λ b. b ≢ 10) (decimal x.size) _ (no_feed _ (clean_decimal x.size fits.0)) (λ e. omega arith, no_feed _ (clean_hex x.digest fits.1))),
    ),
  );
  short =
      let digits = length_hex x.digest in
      let all = length-append (path_text p) (32 ∷ (decimal x.size ++ 32 ∷ encode_lower x.digest)) in
      let last = length-append (decimal x.size) (32 ∷ encode_lower x.digest) in
      omega (arith, path_text_short p is, length_number x.size fits.0, fits.2, digits, all, last);
}

row_text_lines : (p : Path) (x : Content Stamp) → RowFits p x → AreTextLines (print_row_lines p x)
row_text_lines p Absent fits = tt
row_text_lines p Dir fits = (dir_line p fits.0, tt)
row_text_lines p (File x) fits = (file_line p x fits.0 fits.3, tt)

pub print_text_lines : (rows : Listing Stamp) → RowsFit rows → AreTextLines (print_lines rows)
print_text_lines rows fit = row_lists.each_line print_row_lines RowFits IsLine row_text_lines rows fit

-- the lines of a print are lines of a text
pub print_are_lines : (rows : Listing Stamp) → IsPrintBody rows → AreTextLines (print_lines rows)
print_are_lines rows is = print_text_lines rows (rows_fit rows is)
