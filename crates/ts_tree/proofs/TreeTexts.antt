-- The text of a tree: its lines have one tree, and those of a file that isn't whole yet say how it may go on.
use Rattle.std.proofs.Common.{◌≡◌, ◌≢◌, ℕ, zero, suc, ◌+◌, ◌-◌, ◌*◌, ◌/◌, ◌%◌, ◌^◌, ◌<◌, ◌≤◌, min, List, [], ◌∷◌, ◌++◌, length, take, drop, decimal, refl, sym, ap, ap₂, ◌∙◌, subst, append_assoc, arith, length-append, length-drop, take-append-drop}
use Rattle.std.specs.List.{AllByRecursion}
use Rattle.std.proofs.lemmas.Fmt.{decimal_injective}
use Rattle.std.proofs.lemmas.List.{take-append-le, drop-append-le, length-take, take_all}
use Rattle.hex.specs.Hex.{encode_lower}
use Rattle.ts_name.specs.Paths.{Path, IsPath, path_text}
use Rattle.ts_name.proofs.Spelling.{clean_decimal, clean_path, cons_parts, cut_at, length_number, no_feed, no_space, one_path}
use Rattle.ts_name.proofs.Texts.{path_text_short}
use Rattle.ts_name.proofs.Utf8.{all_append, all_parts}
use Rattle.ts_model.specs.Trees.{Listing}
use Rattle.ts_model.specs.Texts.{Line, IsBytes, data_lines, tree_row_lines, tree_lines, FileFits, IsTreeBody}
use Rattle.ts_model.specs.declared.row.Content.{Content}
use Rattle.ts_model.specs.declared.row.Content.TheVariants.{Absent, Dir, File}
use Rattle.ts_text.specs.Lines.{IsLine}
use Rattle.ts_model.proofs.Spelling.{bytes_parts, clean_hex, length_hex, one_hex}
use Rattle.ts_model.proofs.Rows.{RowsFollow}
use Rattle.ts_model.proofs.Rows as row_lists
use Rattle.ts_tree.specs.Fields.{data_line, dir_line, file_line}
use Rattle.ts_tree.proofs.Lines.{AreTextLines}

-- ---- data

-- a line of data is of one list of bytes
pub one_data_line : (x y : List ℕ) → IsBytes x → IsBytes y → data_line x ≡ data_line y → x ≡ y
one_data_line x y is_x is_y e =
    let k : 120 ∷ 32 ∷ encode_lower x ≡ 120 ∷ 32 ∷ encode_lower y = e in
    let digits : encode_lower x ≡ encode_lower y = cc in
    one_hex x y is_x is_y digits

-- a file has the bytes of its first lines first, and the other lines are of the others
pub record DataFollows (x b : List ℕ) (n : ℕ) (u v : List Line) : Type 0 where
  pub tail : List ℕ
  pub whole : x ≡ b ++ tail
  pub lines : data_lines n tail ++ u ≡ v

pub data_front : (m n k : ℕ) (x b : List ℕ) (u v : List Line) → k ≡ m + n → IsBytes x → IsBytes b → length b ≡ 64 * m → 64 * m ≤ length x
    → data_lines k x ++ u ≡ data_lines m b ++ v → DataFollows x b n u v
data_front zero n k x [] u v sum is_x is_b whole long e =
    let same : k ≡ n = omega arith in
    record { tail = x; whole = refl; lines = subst (λ j. data_lines j x ++ u ≡ v) same e }
data_front zero n k x (c ∷ b) u v sum is_x is_b whole long e = absurd (omega arith)
data_front (suc m) n zero x b u v sum is_x is_b whole long e = absurd (omega arith)
data_front (suc m) n (suc k) x b u v sum is_x is_b whole long e =
    let heads : data_line (take 64 x) ∷ (data_lines k (drop 64 x) ++ u) ≡ data_line (take 64 b) ∷ (data_lines m (drop 64 b) ++ v) = e in
    let first : data_line (take 64 x) ≡ data_line (take 64 b) = cc in
    let rest : data_lines k (drop 64 x) ++ u ≡ data_lines m (drop 64 b) ++ v = cc in
    let parts_x = bytes_parts 64 x is_x in
    let parts_b = bytes_parts 64 b is_b in
    let found = data_front m n k (drop 64 x) (drop 64 b) u v (omega arith) parts_x.1 parts_b.1 (omega (arith, length-drop 64 b)) (omega (arith, length-drop 64 x)) rest in
    record {
      tail = found.tail;
      whole = sym (take-append-drop 64 x) ∙ ap₂ ◌++◌ (one_data_line (take 64 x) (take 64 b) parts_x.0 parts_b.0 first) found.whole
          ∙ sym (append_assoc (take 64 b) (drop 64 b) found.tail) ∙ ap (λ z. z ++ found.tail) (take-append-drop 64 b);
      lines = found.lines;
    }

-- lines of a known number are of one content
pub one_data : (n : ℕ) (x y : List ℕ) (u v : List Line) → IsBytes x → IsBytes y → length x ≤ 64 * n → length y ≤ 64 * n → data_lines n x ++ u ≡ data_lines n y ++ v → (x ≡ y) × (u ≡ v)
one_data zero [] [] u v is_x is_y short_x short_y e = (refl, e)
one_data zero (b ∷ x) y u v is_x is_y short_x short_y e = absurd (omega arith)
one_data zero [] (b ∷ y) u v is_x is_y short_x short_y e = absurd (omega arith)
one_data (suc n) x y u v is_x is_y short_x short_y e =
    let heads : data_line (take 64 x) ∷ (data_lines n (drop 64 x) ++ u) ≡ data_line (take 64 y) ∷ (data_lines n (drop 64 y) ++ v) = e in
    let first : data_line (take 64 x) ≡ data_line (take 64 y) = cc in
    let rest : data_lines n (drop 64 x) ++ u ≡ data_lines n (drop 64 y) ++ v = cc in
    let parts_x = bytes_parts 64 x is_x in
    let parts_y = bytes_parts 64 y is_y in
    let more = one_data n (drop 64 x) (drop 64 y) u v parts_x.1 parts_y.1 (omega (arith, length-drop 64 x)) (omega (arith, length-drop 64 y)) rest in
    (sym (take-append-drop 64 x) ∙ ap₂ ◌++◌ (one_data_line (take 64 x) (take 64 y) parts_x.0 parts_y.0 first) more.0 ∙ take-append-drop 64 y, more.1)

-- whole lines, and then one more
pub data_push : (m : ℕ) (b d : List ℕ) → length b ≡ 64 * m → length d ≤ 64 → data_lines (suc m) (b ++ d) ≡ data_lines m b ++ data_line d ∷ []
data_push zero [] d whole short = ap (λ z. data_line z ∷ []) (take_all 64 d short)
data_push zero (c ∷ b) d whole short = absurd (omega arith)
data_push (suc m) b d whole short =
    ap₂ (λ x y. data_line x ∷ data_lines (suc m) y) (take-append-le 64 b d (omega arith)) (drop-append-le 64 b d (omega arith))
    ∙ ap (λ z. data_line (take 64 b) ∷ z) (data_push m (drop 64 b) d (omega (arith, length-drop 64 b)) short)

-- ---- rows

-- a lawful row
abbrev pub RowFits : Path → Content (List ℕ) → Type 0
RowFits p x = IsPath p × (p ≢ []) × (x ≢ Absent) × FileFits x

abbrev pub RowsFit : Listing (List ℕ) → Type 0
RowsFit rows = AllByRecursion (λ row. RowFits row.path row.content) rows

-- the rows of a tree are lawful
pub rows_fit : (rows : Listing (List ℕ)) → IsTreeBody rows → RowsFit rows
rows_fit rows is = row_lists.rows_fit FileFits rows is.listing.rows_are is.files

pub other_line : (p q : Path) (n : ℕ) → dir_line p ≢ file_line q n
other_line p q n e =
    let k : 100 ∷ 32 ∷ path_text p ≡ 102 ∷ 32 ∷ (path_text q ++ 32 ∷ decimal n) = e in
    let first : ◌≡◌ {A = ℕ} 100 102 = cc in omega arith

pub one_dir_line : (p q : Path) → IsPath p → IsPath q → dir_line p ≡ dir_line q → p ≡ q
one_dir_line p q is_p is_q e =
    let k : 100 ∷ 32 ∷ path_text p ≡ 100 ∷ 32 ∷ path_text q = e in
    let paths : path_text p ≡ path_text q = cc in one_path p q is_p is_q paths

pub one_file_line : (p q : Path) (m n : ℕ) → IsPath p → IsPath q → m < 2 ^ 64 → n < 2 ^ 64 → file_line p m ≡ file_line q n → (p ≡ q) × (m ≡ n)
one_file_line p q m n is_p is_q small_m small_n e =
    let k : 102 ∷ 32 ∷ (path_text p ++ 32 ∷ decimal m) ≡ 102 ∷ 32 ∷ (path_text q ++ 32 ∷ decimal n) = e in
    let rest : path_text p ++ 32 ∷ decimal m ≡ path_text q ++ 32 ∷ decimal n = cc in
    let cut = cut_at 32 (path_text p) (path_text q) _ _ (no_space _ (clean_path p is_p)) (no_space _ (clean_path q is_q)) rest in
    (one_path p q is_p is_q cut.0, decimal_injective m n small_m small_n cut.1)

-- a row, and the lines after it
pub one_row : (p q : Path) (x y : Content (List ℕ)) (u v : List Line) → RowFits p x → RowFits q y → tree_row_lines p x ++ u ≡ tree_row_lines q y ++ v → (p ≡ q) × (x ≡ y) × (u ≡ v)
one_row p q Absent y u v fits_x fits_y e = absurd (fits_x.2 refl)
one_row p q Dir Absent u v fits_x fits_y e = absurd (fits_y.2 refl)
one_row p q (File x) Absent u v fits_x fits_y e = absurd (fits_y.2 refl)
one_row p q Dir Dir u v fits_x fits_y e =
    let heads = cons_parts (dir_line p) (dir_line q) u v e in (one_dir_line p q fits_x.0 fits_y.0 heads.0, refl, heads.1)
one_row p q Dir (File y) u v fits_x fits_y e =
    absurd (other_line p q (length y) (cons_parts (dir_line p) (file_line q (length y)) u (data_lines ((length y + 63) / 64) y ++ v) e).0)
one_row p q (File x) Dir u v fits_x fits_y e =
    absurd (other_line q p (length x) (sym (cons_parts (file_line p (length x)) (dir_line q) (data_lines ((length x + 63) / 64) x ++ u) v e).0))
one_row p q (File x) (File y) u v fits_x fits_y e =
    let heads = cons_parts (file_line p (length x)) (file_line q (length y)) (data_lines ((length x + 63) / 64) x ++ u) (data_lines ((length y + 63) / 64) y ++ v) e in
    let same = one_file_line p q (length x) (length y) fits_x.0 fits_y.0 fits_x.3.1 fits_y.3.1 heads.0 in
    let sizes = same.1 in
    let found = one_data ((length x + 63) / 64) x y u v fits_x.3.0 fits_y.3.0 (omega arith) (omega (arith, sizes)) (heads.1 ∙ ap (λ z. data_lines ((z + 63) / 64) y ++ v) (sym sizes)) in
    (same.0, ap File found.0, found.1)

-- a row is some line
no_row : (p : Path) (x : Content (List ℕ)) (u : List Line) → RowFits p x → tree_row_lines p x ++ u ≢ []
no_row p Absent u fits e = fits.2 refl
no_row p Dir u fits e = cc
no_row p (File x) u fits e = cc

-- so what begins with the lines of rows has these rows first
pub rows_front : (xs ys : Listing (List ℕ)) (rest : List Line) → RowsFit xs → RowsFit ys → tree_lines xs ≡ tree_lines ys ++ rest → RowsFollow tree_row_lines RowFits xs ys rest
rows_front xs ys rest fit_x fit_y e = row_lists.rows_front tree_row_lines RowFits (record { one = one_row; some = no_row }) xs ys rest fit_x fit_y e

-- ---- a file that isn't whole yet

-- a file of n bytes, of which these are the first
pub record IsPartOf (p : Path) (n : ℕ) (b : List ℕ) : Type 0 where
  pub path : IsPath p
  pub size : n < 2 ^ 64
  pub bytes : IsBytes b
  pub whole : length b % 64 ≡ 0
  pub less : length b < n

-- its lines so far
abbrev pub part_lines : Path → ℕ → List ℕ → List Line
part_lines p n b = file_line p n ∷ data_lines (length b / 64) b

-- rows that begin with it: the whole file, of which its next line tells the next bytes
pub record GoesOn (rows : Listing (List ℕ)) (p : Path) (n : ℕ) (b : List ℕ) (rest : List Line) : Type 0 where
  pub file : List ℕ
  pub later : Listing (List ℕ)
  pub rows_are : rows ≡ record { path = p; content = File file } ∷ later
  pub chunk : List ℕ
  pub more : List Line
  pub bytes : IsBytes chunk
  pub size : length chunk ≡ min 64 (n - length b)
  pub next : rest ≡ data_line chunk ∷ more

-- lines that begin as those of a part are of rows that begin with the file
pub part_front : (rows : Listing (List ℕ)) (p : Path) (n : ℕ) (b : List ℕ) (rest : List Line) → RowsFit rows → IsPartOf p n b → tree_lines rows ≡ part_lines p n b ++ rest → GoesOn rows p n b rest
part_front [] p n b rest fit part e = absurd cc
part_front (row ∷ rows) p n b rest fit part e = go row.path row.content fit.0 e
  where
    go : (q : Path) (x : Content (List ℕ)) → RowFits q x → tree_row_lines q x ++ tree_lines rows ≡ file_line p n ∷ (data_lines (length b / 64) b ++ rest) → GoesOn (record { path = q; content = x } ∷ rows) p n b rest
    go q Absent fits e = absurd (fits.2 refl)
    go q Dir fits e = absurd (other_line q p n (cons_parts (dir_line q) (file_line p n) (tree_lines rows) (data_lines (length b / 64) b ++ rest) e).0)
    go q (File x) fits e =
        let heads = cons_parts (file_line q (length x)) (file_line p n) (data_lines ((length x + 63) / 64) x ++ tree_lines rows) (data_lines (length b / 64) b ++ rest) e in
        let same = one_file_line q p (length x) n fits.0 part.path fits.3.1 part.size heads.0 in
        let sizes : length x ≡ n = same.1 in
        let m : ℕ = length b / 64 in
        let whole = part.whole in
        let less = part.less in
        let j : ℕ = (n + 63) / 64 - (m + 1) in
        let found = data_front m (suc j) ((length x + 63) / 64) x b (tree_lines rows) rest (omega arith) fits.3.0 part.bytes (omega arith) (omega arith) heads.1 in
        let tail_bytes = all_parts (λ b. b < 256) b found.tail (subst (λ z. IsBytes z) found.whole fits.3.0) in
        let total : length x ≡ length b + length found.tail = ap length found.whole ∙ length-append b found.tail in
        record {
          file = x;
          later = rows;
          rows_are = λ i. record { path = same.0 i; content = File x } ∷ rows;
          chunk = take 64 found.tail;
          more = data_lines j (drop 64 found.tail) ++ tree_lines rows;
          bytes = (bytes_parts 64 found.tail tail_bytes.1).0;
          size = omega (arith, length-take 64 found.tail);
          next = sym found.lines;
        }

-- ---- each line is one that a text can have

dir_text_line : (p : Path) → IsPath p → IsLine (dir_line p)
dir_text_line p is = record {
  one = (λ e. omega arith, (λ e. omega arith, no_feed _ (clean_path p is)));
  short = omega (arith, path_text_short p is);
}

file_text_line : (p : Path) (n : ℕ) → IsPath p → n < 2 ^ 64 → IsLine (file_line p n)
file_text_line p n is small = record {
  one = (λ e. omega arith, (λ e. omega arith, all_append (λ b. b ≢ 10) (path_text p) _ (no_feed _ (clean_path p is)) (λ e. omega arith, no_feed _ (clean_decimal n small))));
  short = omega (arith, path_text_short p is, length_number n small, length-append (path_text p) (32 ∷ decimal n));
}

data_text_line : (d : List ℕ) → IsBytes d → length d ≤ 64 → IsLine (data_line d)
data_text_line d is short = record {
  one = (λ e. omega arith, (λ e. omega arith, no_feed _ (clean_hex d is)));
  short = let digits = length_hex d in omega (arith, digits);
}

data_text_lines : (n : ℕ) (x : List ℕ) → IsBytes x → AreTextLines (data_lines n x)
data_text_lines zero x is = tt
data_text_lines (suc n) x is =
    let parts = bytes_parts 64 x is in
    (data_text_line (take 64 x) parts.0 (omega (arith, length-take 64 x)), data_text_lines n (drop 64 x) parts.1)

row_text_lines : (p : Path) (x : Content (List ℕ)) → RowFits p x → AreTextLines (tree_row_lines p x)
row_text_lines p Absent fits = tt
row_text_lines p Dir fits = (dir_text_line p fits.0, tt)
row_text_lines p (File x) fits = (file_text_line p (length x) fits.0 fits.3.1, data_text_lines ((length x + 63) / 64) x fits.3.0)

pub tree_text_lines : (rows : Listing (List ℕ)) → RowsFit rows → AreTextLines (tree_lines rows)
tree_text_lines rows fit = row_lists.each_line tree_row_lines RowFits IsLine row_text_lines rows fit
