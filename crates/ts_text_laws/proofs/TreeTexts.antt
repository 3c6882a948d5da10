-- The texts of trees and prints: what their lines' words say of the rows.
use Rattle.std.proofs.Common.{◌≡◌, ◌≢◌, ℕ, zero, suc, ◌+◌, ◌*◌, ◌/◌, ◌≤◌, List, [], ◌∷◌, ◌++◌, length, map, take, drop, codes, decimal, refl, sym, ap, ap₂, ◌∙◌, arith, take-append-drop, length-drop}
use Rattle.std.specs.List.{AllByRecursion}
use Rattle.std.proofs.lemmas.Fmt.{decimal_injective}
use Rattle.std.proofs.lemmas.List.{map-append}
use Rattle.hex.specs.Hex.{encode_lower}
use Rattle.ts_name.specs.Paths.{Path, IsPath, path_text}
use Rattle.ts_model.specs.Trees.{Listing}
use Rattle.ts_model.specs.Texts.{words, IsBytes, data_lines, tree_row_lines, tree_lines, print_row_lines, print_lines, FileFits, StampFits}
use Rattle.ts_model.proofs.Told.{Tells, items_before}
use Rattle.ts_model.specs.declared.row.Content.{Content}
use Rattle.ts_model.specs.declared.row.Content.TheVariants.{Absent, Dir, File}
use Rattle.ts_model.specs.declared.row.Row.{Row}
use Rattle.ts_model.specs.declared.row.Stamp.{Stamp}
use Rattle.ts_model.proofs.Spelling.{clean_hex, one_hex, bytes_parts}
use Rattle.ts_name.proofs.Spelling.{clean_decimal, clean_from_test, clean_path, cons_parts, one_path}
use Rattle.ts_name.proofs.Utf8.{all_append}
use Rattle.ts_text_laws.proofs.Words.{AreLines, IsLine, StartsOther, Words, other_length}

-- ---- data

-- a file's lines in words
unfoldable pub data_words : ℕ → List ℕ → List Words
data_words zero bytes = []
data_words (suc n) bytes = (codes "x" ∷ encode_lower (take 64 bytes) ∷ []) ∷ data_words n (drop 64 bytes)

-- the words spell the lines
data_spelled : (n : ℕ) (bytes : List ℕ) → data_lines n bytes ≡ map words (data_words n bytes)
unfolding data_words
data_spelled zero bytes = refl
data_spelled (suc n) bytes = ap (λ z. words (codes "x" ∷ encode_lower (take 64 bytes) ∷ []) ∷ z) (data_spelled n (drop 64 bytes))

-- each line is one
data_are_lines : (n : ℕ) (bytes : List ℕ) → IsBytes bytes → AreLines (data_words n bytes)
unfolding data_words
data_are_lines zero bytes is = tt
data_are_lines (suc n) bytes is =
    let parts = bytes_parts 64 bytes is in
    ((clean_from_test (codes "x") refl, clean_hex (take 64 bytes) parts.0), data_are_lines n (drop 64 bytes) parts.1)

-- lines of a known number are of one content
one_data : (n : ℕ) (x y : List ℕ) (u v : List Words) → IsBytes x → IsBytes y → length x ≤ 64 * n → length y ≤ 64 * n → data_words n x ++ u ≡ data_words n y ++ v → (x ≡ y) × (u ≡ v)
unfolding data_words
one_data zero [] [] u v bytes_x bytes_y short_x short_y e = (refl, e)
one_data zero (b ∷ x) y u v bytes_x bytes_y short_x short_y e = absurd (omega arith)
one_data zero [] (b ∷ y) u v bytes_x bytes_y short_x short_y e = absurd (omega arith)
one_data (suc n) x y u v bytes_x bytes_y short_x short_y e =
    let line = cons_parts (codes "x" ∷ encode_lower (take 64 x) ∷ []) (codes "x" ∷ encode_lower (take 64 y) ∷ []) (data_words n (drop 64 x) ++ u) (data_words n (drop 64 y) ++ v) e in
    let word = cons_parts (codes "x") (codes "x") (encode_lower (take 64 x) ∷ []) (encode_lower (take 64 y) ∷ []) line.0 in
    let hex = cons_parts (encode_lower (take 64 x)) (encode_lower (take 64 y)) [] [] word.1 in
    let parts_x = bytes_parts 64 x bytes_x in
    let parts_y = bytes_parts 64 y bytes_y in
    let first = one_hex (take 64 x) (take 64 y) parts_x.0 parts_y.0 hex.0 in
    let more = one_data n (drop 64 x) (drop 64 y) u v parts_x.1 parts_y.1 (omega (arith, length-drop 64 x)) (omega (arith, length-drop 64 y)) line.1 in
    (sym (take-append-drop 64 x) ∙ ap₂ ◌++◌ first more.0 ∙ take-append-drop 64 y, more.1)

-- ---- trees

-- a row's lines in words
unfoldable pub tree_row_words : Path → Content (List ℕ) → List Words
tree_row_words p Absent = []
tree_row_words p Dir = (codes "d" ∷ path_text p ∷ []) ∷ []
tree_row_words p (File bytes) = (codes "f" ∷ path_text p ∷ decimal (length bytes) ∷ []) ∷ data_words ((length bytes + 63) / 64) bytes

-- and those of all rows
unfoldable pub tree_words : Listing (List ℕ) → List Words
tree_words [] = []
tree_words (row ∷ rows) = tree_row_words row.path row.content ++ tree_words rows

-- the words spell the lines
tree_row_spelled : (p : Path) (x : Content (List ℕ)) → tree_row_lines p x ≡ map words (tree_row_words p x)
unfolding tree_row_words
tree_row_spelled p Absent = refl
tree_row_spelled p Dir = refl
tree_row_spelled p (File bytes) = ap (λ z. words (codes "f" ∷ path_text p ∷ decimal (length bytes) ∷ []) ∷ z) (data_spelled ((length bytes + 63) / 64) bytes)

-- of all rows too
pub tree_spelled : (rows : Listing (List ℕ)) → tree_lines rows ≡ map words (tree_words rows)
unfolding tree_words
tree_spelled [] = refl
tree_spelled (row ∷ rows) =
    ap₂ ◌++◌ (tree_row_spelled row.path row.content) (tree_spelled rows) ∙ sym (map-append words (tree_row_words row.path row.content) (tree_words rows))

-- a lawful row of a tree
abbrev pub RowFits : Path → Content (List ℕ) → Type 0
RowFits p x = IsPath p × (x ≢ Absent) × FileFits x

-- each row is lawful
abbrev pub TreeFits : Listing (List ℕ) → Type 0
TreeFits rows = AllByRecursion (λ row. RowFits row.path row.content) rows

-- each line is one
tree_row_lines_are : (p : Path) (x : Content (List ℕ)) → RowFits p x → AreLines (tree_row_words p x)
unfolding tree_row_words
tree_row_lines_are p Absent fits = tt
tree_row_lines_are p Dir fits = ((clean_from_test (codes "d") refl, clean_path p fits.0), tt)
tree_row_lines_are p (File bytes) fits =
    ((clean_from_test (codes "f") refl, (clean_path p fits.0, clean_decimal (length bytes) fits.2.1)), data_are_lines ((length bytes + 63) / 64) bytes fits.2.0)

-- and so are those of all rows
pub tree_are_lines : (rows : Listing (List ℕ)) → TreeFits rows → AreLines (tree_words rows)
unfolding tree_words
tree_are_lines [] fits = tt
tree_are_lines (row ∷ rows) fits =
    all_append IsLine (tree_row_words row.path row.content) (tree_words rows) (tree_row_lines_are row.path row.content fits.0) (tree_are_lines rows fits.1)

-- a row, and what follows it
pub one_tree_row : (p q : Path) (x y : Content (List ℕ)) (u v : List Words) → RowFits p x → RowFits q y → tree_row_words p x ++ u ≡ tree_row_words q y ++ v → (p ≡ q) × (x ≡ y) × (u ≡ v)
unfolding tree_row_words
one_tree_row p q Absent y u v fits_x fits_y e = absurd (fits_x.1 refl)
one_tree_row p q Dir Absent u v fits_x fits_y e = absurd (fits_y.1 refl)
one_tree_row p q (File x) Absent u v fits_x fits_y e = absurd (fits_y.1 refl)
one_tree_row p q Dir Dir u v fits_x fits_y e =
    let line = cons_parts (codes "d" ∷ path_text p ∷ []) (codes "d" ∷ path_text q ∷ []) u v e in
    let word = cons_parts (codes "d") (codes "d") (path_text p ∷ []) (path_text q ∷ []) line.0 in
    let path = cons_parts (path_text p) (path_text q) [] [] word.1 in
    (one_path p q fits_x.0 fits_y.0 path.0, refl, line.1)
one_tree_row p q Dir (File y) u v fits_x fits_y e =
    let line = cons_parts (codes "d" ∷ path_text p ∷ []) (codes "f" ∷ path_text q ∷ decimal (length y) ∷ []) u (data_words ((length y + 63) / 64) y ++ v) e in
    absurd (other_length (codes "d" ∷ path_text p ∷ []) (codes "f" ∷ path_text q ∷ decimal (length y) ∷ []) (λ k. omega arith) line.0)
one_tree_row p q (File x) Dir u v fits_x fits_y e =
    let line = cons_parts (codes "f" ∷ path_text p ∷ decimal (length x) ∷ []) (codes "d" ∷ path_text q ∷ []) (data_words ((length x + 63) / 64) x ++ u) v e in
    absurd (other_length (codes "f" ∷ path_text p ∷ decimal (length x) ∷ []) (codes "d" ∷ path_text q ∷ []) (λ k. omega arith) line.0)
one_tree_row p q (File x) (File y) u v fits_x fits_y e =
    let line = cons_parts (codes "f" ∷ path_text p ∷ decimal (length x) ∷ []) (codes "f" ∷ path_text q ∷ decimal (length y) ∷ []) (data_words ((length x + 63) / 64) x ++ u) (data_words ((length y + 63) / 64) y ++ v) e in
    let word = cons_parts (codes "f") (codes "f") (path_text p ∷ decimal (length x) ∷ []) (path_text q ∷ decimal (length y) ∷ []) line.0 in
    let path = cons_parts (path_text p) (path_text q) (decimal (length x) ∷ []) (decimal (length y) ∷ []) word.1 in
    let number = cons_parts (decimal (length x)) (decimal (length y)) [] [] path.1 in
    let sizes = decimal_injective (length x) (length y) fits_x.2.1 fits_y.2.1 number.0 in
    let found = one_data ((length x + 63) / 64) x y u v fits_x.2.0 fits_y.2.0 (omega arith) (omega (arith, sizes)) (line.1 ∙ ap (λ z. data_words ((z + 63) / 64) y ++ v) (sym sizes)) in
    (one_path p q fits_x.0 fits_y.0 path.0, ap File found.0, found.1)

-- a line of one word is of no row
no_row_first : (p : Path) (x : Content (List ℕ)) (rest u : List Words) (w : List ℕ) → RowFits p x → (w ∷ []) ∷ u ≢ (tree_row_words p x ++ rest)
unfolding tree_row_words
no_row_first p Absent rest u w fits e = fits.1 refl
no_row_first p Dir rest u w fits e =
    other_length (w ∷ []) (codes "d" ∷ path_text p ∷ []) (λ k. omega arith) (cons_parts (w ∷ []) (codes "d" ∷ path_text p ∷ []) u rest e).0
no_row_first p (File bytes) rest u w fits e =
    other_length (w ∷ []) (codes "f" ∷ path_text p ∷ decimal (length bytes) ∷ []) (λ k. omega arith)
    (cons_parts (w ∷ []) (codes "f" ∷ path_text p ∷ decimal (length bytes) ∷ []) u (data_words ((length bytes + 63) / 64) bytes ++ rest) e).0

-- lines of rows are of one row after the other
tells_tree : Tells (λ (r : Row (List ℕ)). tree_row_words r.path r.content) tree_words (λ r. RowFits r.path r.content)
unfolding tree_words
tells_tree = record {
  none = refl;
  more = λ x xs. refl;
  one = λ x y u v fits_x fits_y e.
      let row = one_tree_row x.path y.path x.content y.content u v fits_x fits_y e in
      let same : x ≡ y = λ i. record { path = row.0 i; content = row.1 i } in
      (same, row.2);
}

-- rows up to a line of one word
pub one_tree : (xs ys : Listing (List ℕ)) (w : List ℕ) (u v : List Words) → TreeFits xs → TreeFits ys → tree_words xs ++ (w ∷ []) ∷ u ≡ tree_words ys ++ (w ∷ []) ∷ v → (xs ≡ ys) × (u ≡ v)
one_tree xs ys w u v fits_x fits_y e =
    let found = items_before (λ (r : Row (List ℕ)). tree_row_words r.path r.content) tree_words (λ r. RowFits r.path r.content) tells_tree xs ys ((w ∷ []) ∷ u) ((w ∷ []) ∷ v) fits_x fits_y
    (λ r rest fits. no_row_first r.path r.content rest u w fits) (λ r rest fits. no_row_first r.path r.content rest v w fits) e in
    (found.0, (cons_parts (w ∷ []) (w ∷ []) u v found.1).1)

-- ---- prints

-- a row's line in words
unfoldable pub print_row_words : Path → Content Stamp → List Words
print_row_words p Absent = []
print_row_words p Dir = (codes "d" ∷ path_text p ∷ []) ∷ []
print_row_words p (File stamp) = (codes "f" ∷ path_text p ∷ decimal stamp.size ∷ encode_lower stamp.digest ∷ []) ∷ []

-- and those of all rows
unfoldable pub print_words : Listing Stamp → List Words
print_words [] = []
print_words (row ∷ rows) = print_row_words row.path row.content ++ print_words rows

-- the words spell the line
print_row_spelled : (p : Path) (x : Content Stamp) → print_row_lines p x ≡ map words (print_row_words p x)
unfolding print_row_words
print_row_spelled p Absent = refl
print_row_spelled p Dir = refl
print_row_spelled p (File stamp) = refl

-- of all rows too
pub print_spelled : (rows : Listing Stamp) → print_lines rows ≡ map words (print_words rows)
unfolding print_words
print_spelled [] = refl
print_spelled (row ∷ rows) =
    ap₂ ◌++◌ (print_row_spelled row.path row.content) (print_spelled rows) ∙ sym (map-append words (print_row_words row.path row.content) (print_words rows))

-- a lawful row of a print
abbrev pub MarkFits : Path → Content Stamp → Type 0
MarkFits p x = IsPath p × (x ≢ Absent) × StampFits x

-- each row is lawful
abbrev pub PrintFits : Listing Stamp → Type 0
PrintFits rows = AllByRecursion (λ row. MarkFits row.path row.content) rows

-- the line is one
print_row_lines_are : (p : Path) (x : Content Stamp) → MarkFits p x → AreLines (print_row_words p x)
unfolding print_row_words
print_row_lines_are p Absent fits = tt
print_row_lines_are p Dir fits = ((clean_from_test (codes "d") refl, clean_path p fits.0), tt)
print_row_lines_are p (File stamp) fits =
    ((clean_from_test (codes "f") refl, (clean_path p fits.0, (clean_decimal stamp.size fits.2.0, clean_hex stamp.digest fits.2.1))), tt)

-- and so are those of all rows
pub print_are_lines : (rows : Listing Stamp) → PrintFits rows → AreLines (print_words rows)
unfolding print_words
print_are_lines [] fits = tt
print_are_lines (row ∷ rows) fits =
    all_append IsLine (print_row_words row.path row.content) (print_words rows) (print_row_lines_are row.path row.content fits.0) (print_are_lines rows fits.1)

-- a row, and what follows it
pub one_print_row : (p q : Path) (x y : Content Stamp) (u v : List Words) → MarkFits p x → MarkFits q y → print_row_words p x ++ u ≡ print_row_words q y ++ v → (p ≡ q) × (x ≡ y) × (u ≡ v)
unfolding print_row_words
one_print_row p q Absent y u v fits_x fits_y e = absurd (fits_x.1 refl)
one_print_row p q Dir Absent u v fits_x fits_y e = absurd (fits_y.1 refl)
one_print_row p q (File x) Absent u v fits_x fits_y e = absurd (fits_y.1 refl)
one_print_row p q Dir Dir u v fits_x fits_y e =
    let line = cons_parts (codes "d" ∷ path_text p ∷ []) (codes "d" ∷ path_text q ∷ []) u v e in
    let word = cons_parts (codes "d") (codes "d") (path_text p ∷ []) (path_text q ∷ []) line.0 in
    let path = cons_parts (path_text p) (path_text q) [] [] word.1 in
    (one_path p q fits_x.0 fits_y.0 path.0, refl, line.1)
one_print_row p q Dir (File y) u v fits_x fits_y e =
    let line = cons_parts (codes "d" ∷ path_text p ∷ []) (codes "f" ∷ path_text q ∷ decimal y.size ∷ encode_lower y.digest ∷ []) u v e in
    absurd (other_length (codes "d" ∷ path_text p ∷ []) (codes "f" ∷ path_text q ∷ decimal y.size ∷ encode_lower y.digest ∷ []) (λ k. omega arith) line.0)
one_print_row p q (File x) Dir u v fits_x fits_y e =
    let line = cons_parts (codes "f" ∷ path_text p ∷ decimal x.size ∷ encode_lower x.digest ∷ []) (codes "d" ∷ path_text q ∷ []) u v e in
    absurd (other_length (codes "f" ∷ path_text p ∷ decimal x.size ∷ encode_lower x.digest ∷ []) (codes "d" ∷ path_text q ∷ []) (λ k. omega arith) line.0)
one_print_row p q (File x) (File y) u v fits_x fits_y e =
    let line = cons_parts (codes "f" ∷ path_text p ∷ decimal x.size ∷ encode_lower x.digest ∷ []) (codes "f" ∷ path_text q ∷ decimal y.size ∷ encode_lower y.digest ∷ []) u v e in
    let word = cons_parts (codes "f") (codes "f") (path_text p ∷ decimal x.size ∷ encode_lower x.digest ∷ []) (path_text q ∷ decimal y.size ∷ encode_lower y.digest ∷ []) line.0 in
    let path = cons_parts (path_text p) (path_text q) (decimal x.size ∷ encode_lower x.digest ∷ []) (decimal y.size ∷ encode_lower y.digest ∷ []) word.1 in
    let number = cons_parts (decimal x.size) (decimal y.size) (encode_lower x.digest ∷ []) (encode_lower y.digest ∷ []) path.1 in
    let hex = cons_parts (encode_lower x.digest) (encode_lower y.digest) [] [] number.1 in
    let sizes = decimal_injective x.size y.size fits_x.2.0 fits_y.2.0 number.0 in
    let digests = one_hex x.digest y.digest fits_x.2.1 fits_y.2.1 hex.0 in
    let same : x ≡ y = λ i. record { size = sizes i; digest = digests i } in
    (one_path p q fits_x.0 fits_y.0 path.0, ap File same, line.1)

-- a line of one word is of no row
no_mark_first : (p : Path) (x : Content Stamp) (rest u : List Words) (w : List ℕ) → MarkFits p x → (w ∷ []) ∷ u ≢ (print_row_words p x ++ rest)
unfolding print_row_words
no_mark_first p Absent rest u w fits e = fits.1 refl
no_mark_first p Dir rest u w fits e =
    other_length (w ∷ []) (codes "d" ∷ path_text p ∷ []) (λ k. omega arith) (cons_parts (w ∷ []) (codes "d" ∷ path_text p ∷ []) u rest e).0
no_mark_first p (File x) rest u w fits e =
    other_length (w ∷ []) (codes "f" ∷ path_text p ∷ decimal x.size ∷ encode_lower x.digest ∷ []) (λ k. omega arith)
    (cons_parts (w ∷ []) (codes "f" ∷ path_text p ∷ decimal x.size ∷ encode_lower x.digest ∷ []) u rest e).0

-- lines of rows are of one row after the other
tells_print : Tells (λ (r : Row Stamp). print_row_words r.path r.content) print_words (λ r. MarkFits r.path r.content)
unfolding print_words
tells_print = record {
  none = refl;
  more = λ x xs. refl;
  one = λ x y u v fits_x fits_y e.
      let row = one_print_row x.path y.path x.content y.content u v fits_x fits_y e in
      let same : x ≡ y = λ i. record { path = row.0 i; content = row.1 i } in
      (same, row.2);
}

-- rows up to a line of one word
pub one_print : (xs ys : Listing Stamp) (w : List ℕ) (u v : List Words) → PrintFits xs → PrintFits ys → print_words xs ++ (w ∷ []) ∷ u ≡ print_words ys ++ (w ∷ []) ∷ v → (xs ≡ ys) × (u ≡ v)
one_print xs ys w u v fits_x fits_y e =
    let found = items_before (λ (r : Row Stamp). print_row_words r.path r.content) print_words (λ r. MarkFits r.path r.content) tells_print xs ys ((w ∷ []) ∷ u) ((w ∷ []) ∷ v) fits_x fits_y
    (λ r rest fits. no_mark_first r.path r.content rest u w fits) (λ r rest fits. no_mark_first r.path r.content rest v w fits) e in
    (found.0, (cons_parts (w ∷ []) (w ∷ []) u v found.1).1)

-- ---- how lines of rows begin

-- lines of data begin with `x`
data_start_other : (c : ℕ) → 120 ≢ c → (n : ℕ) (bytes : List ℕ) → AllByRecursion (StartsOther c) (data_words n bytes)
unfolding data_words
data_start_other c x zero bytes = tt
data_start_other c x (suc n) bytes = (λ u v e. x cc, data_start_other c x n (drop 64 bytes))

-- and rows with `d` or `f`
pub tree_start_other : (c : ℕ) → 100 ≢ c → 102 ≢ c → 120 ≢ c → (rows : Listing (List ℕ)) → AllByRecursion (StartsOther c) (tree_words rows)
unfolding tree_words tree_row_words
tree_start_other c d f x [] = tt
tree_start_other c d f x (row ∷ rows) =
    all_append (StartsOther c) (tree_row_words row.path row.content) (tree_words rows) (go row.path row.content) (tree_start_other c d f x rows)
  where
    go : (p : Path) (content : Content (List ℕ)) → AllByRecursion (StartsOther c) (tree_row_words p content)
    go p Absent = tt
    go p Dir = (λ u v e. d cc, tt)
    go p (File bytes) = (λ u v e. f cc, data_start_other c x ((length bytes + 63) / 64) bytes)

-- so do those of a print
pub print_start_other : (c : ℕ) → 100 ≢ c → 102 ≢ c → (rows : Listing Stamp) → AllByRecursion (StartsOther c) (print_words rows)
unfolding print_words print_row_words
print_start_other c d f [] = tt
print_start_other c d f (row ∷ rows) =
    all_append (StartsOther c) (print_row_words row.path row.content) (print_words rows) (go row.path row.content) (print_start_other c d f rows)
  where
    go : (p : Path) (content : Content Stamp) → AllByRecursion (StartsOther c) (print_row_words p content)
    go p Absent = tt
    go p Dir = (λ u v e. d cc, tt)
    go p (File stamp) = (λ u v e. f cc, tt)
