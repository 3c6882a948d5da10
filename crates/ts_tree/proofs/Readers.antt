-- What the lines that a reader has taken say of the lines that may follow.
use Rattle.std.proofs.Common.{◌≡◌, ℕ, suc, ◌+◌, ◌-◌, ◌/◌, ◌%◌, ◌<◌, ◌≤◌, min, List, [], ◌∷◌, ◌++◌, length, Some, refl, sym, ap, ◌∙◌, subst, append_assoc, arith, length-append}
use Rattle.std.proofs.lemmas.List.{append-nil}
use Rattle.ts_name.specs.Paths.{Path}
use Rattle.ts_model.specs.Trees.{Listing, IsListing}
use Rattle.ts_model.specs.Texts.{Line, data_lines, tree_row_lines, tree_lines, IsTreeBody}
use Rattle.ts_model.proofs.Rows.{RowsFollow}
use Rattle.ts_model.specs.declared.row.Content.{Content}
use Rattle.ts_model.specs.declared.row.Content.TheVariants.{Absent, Dir, File}
use Rattle.ts_model.specs.declared.row.Row.{Row}
use Rattle.ts_table.proofs.Cuts.{IsListing-front}
use Rattle.ts_tree.specs.Fields.{IsNamed, HeadFits, IsNoHead, IsNoData, AddsData, head_line, dir_line, file_line, data_line}
use Rattle.ts_tree.specs.Readers.{OpenFits, open_lines, BeginsNoTree, SpellsNoTree}
use Rattle.ts_tree.specs.declared.field.Head.{Head}
use Rattle.ts_tree.specs.declared.field.Head.TheVariants as head
use Rattle.ts_tree.specs.declared.reader.OpenFile.{OpenFile}
use Rattle.ts_tree.proofs.TreeTexts.{RowFits, RowsFit, IsPartOf, rows_fit, rows_front, part_front, part_lines, data_push, one_dir_line, one_file_line, other_line}

part : (rows : Listing (List ℕ)) (f : OpenFile) → OpenFits rows f → IsPartOf f.path f.size f.bytes.items
part rows f fits = record { path = fits.named.0; size = fits.size; bytes = fits.bytes; whole = fits.whole; less = fits.less }

-- the rows behind those that were read
behind : (whole rows : Listing (List ℕ)) (lines : List Line) → IsTreeBody whole → IsTreeBody rows → tree_lines whole ≡ tree_lines rows ++ lines → RowsFollow tree_row_lines RowFits whole rows lines
behind whole rows lines is_whole is_rows e = rows_front whole rows lines (rows_fit whole is_whole) (rows_fit rows is_rows) e

-- a part of a file isn't all of a tree
pub no_end : (rows : Listing (List ℕ)) (f : OpenFile) → IsTreeBody rows → OpenFits rows f → SpellsNoTree (tree_lines rows ++ open_lines (Some f))
no_end rows f is fits whole is_whole e =
    let found = behind whole rows (open_lines (Some f)) is_whole is e in
    let on = part_front found.more f.path f.size f.bytes.items [] found.fit (part rows f fits) (found.lines ∙ sym (append-nil (part_lines f.path f.size f.bytes.items))) in
    let k : [] ≡ data_line on.chunk ∷ on.more = on.next in cc

-- a file's next line tells its next bytes
pub no_data : (rows : Listing (List ℕ)) (f : OpenFile) (line : Line) (count : ℕ) → IsTreeBody rows → OpenFits rows f → count ≡ min 64 (f.size - length f.bytes.items)
    → IsNoData line count → BeginsNoTree ((tree_lines rows ++ open_lines (Some f)) ++ line ∷ [])
no_data rows f line count is fits size none whole rest is_whole e =
    let lines : tree_lines whole ≡ tree_lines rows ++ (part_lines f.path f.size f.bytes.items ++ line ∷ rest) =
    e ∙ append_assoc (tree_lines rows ++ open_lines (Some f)) (line ∷ []) rest ∙ append_assoc (tree_lines rows) (open_lines (Some f)) (line ∷ rest) in
    let found = behind whole rows (part_lines f.path f.size f.bytes.items ++ line ∷ rest) is_whole is lines in
    let on = part_front found.more f.path f.size f.bytes.items (line ∷ rest) found.fit (part rows f fits) found.lines in
    let k : line ∷ rest ≡ data_line on.chunk ∷ on.more = on.next in
    let told : line ≡ data_line on.chunk = cc in
    none on.chunk on.bytes (on.size ∙ sym size) told

-- ---- the first line of a row

abbrev head_of : Content (List ℕ) → Head
head_of Absent = head.Dir
head_of Dir = head.Dir
head_of (File bytes) = head.File (length bytes)

head_fits : (p : Path) (x : Content (List ℕ)) → RowFits p x → HeadFits (head_of x)
head_fits p Absent fits = tt
head_fits p Dir fits = tt
head_fits p (File bytes) fits = fits.3.1

-- rows that are more than none begin with the first line of one
record FirstRow (rows : Listing (List ℕ)) (line : Line) : Type 0 where
  path : Path
  content : Content (List ℕ)
  later : Listing (List ℕ)
  rows_are : rows ≡ record { path = path; content = content } ∷ later
  fits : RowFits path content
  line_is : line ≡ head_line path (head_of content)

first_row : (rows : Listing (List ℕ)) (line : Line) (rest : List Line) → RowsFit rows → tree_lines rows ≡ line ∷ rest → FirstRow rows line
first_row [] line rest fit e = absurd cc
first_row (row ∷ rows) line rest fit e = go row.path row.content fit.0 e
  where
    go : (p : Path) (x : Content (List ℕ)) → RowFits p x → tree_row_lines p x ++ tree_lines rows ≡ line ∷ rest → FirstRow (record { path = p; content = x } ∷ rows) line
    go p Absent fits e = absurd (fits.2 refl)
    go p Dir fits e =
        let k : dir_line p ∷ tree_lines rows ≡ line ∷ rest = e in
        record { path = p; content = Dir; later = rows; rows_are = refl; fits = fits; line_is = cc }
    go p (File bytes) fits e =
        let k : file_line p (length bytes) ∷ (data_lines ((length bytes + 63) / 64) bytes ++ tree_lines rows) ≡ line ∷ rest = e in
        record { path = p; content = File bytes; later = rows; rows_are = refl; fits = fits; line_is = cc }

-- a line that begins no row
pub no_head : (rows : Listing (List ℕ)) (line : Line) → IsTreeBody rows → IsNoHead line → BeginsNoTree (tree_lines rows ++ line ∷ [])
no_head rows line is none whole rest is_whole e =
    let found = behind whole rows (line ∷ rest) is_whole is (e ∙ append_assoc (tree_lines rows) (line ∷ []) rest) in
    let first = first_row found.more line rest found.fit found.lines in
    none first.path (head_of first.content) (first.fits.0, first.fits.1) (head_fits first.path first.content first.fits) first.line_is

-- a first line names one path
one_head : (p q : Path) (h k : Head) → IsNamed p → IsNamed q → HeadFits h → HeadFits k → head_line p h ≡ head_line q k → p ≡ q
one_head p q head.Dir head.Dir named_p named_q fits_h fits_k e = one_dir_line p q named_p.0 named_q.0 e
one_head p q head.Dir (head.File n) named_p named_q fits_h fits_k e = absurd (other_line p q n e)
one_head p q (head.File m) head.Dir named_p named_q fits_h fits_k e = absurd (other_line q p m (sym e))
one_head p q (head.File m) (head.File n) named_p named_q fits_h fits_k e = (one_file_line p q m n named_p.0 named_q.0 fits_h fits_k e).0

-- a line whose path may not come next
pub no_room : (rows : Listing (List ℕ)) (line : Line) (p : Path) (h : Head) → IsTreeBody rows → IsNamed p → HeadFits h → line ≡ head_line p h
    → ((x : Content (List ℕ)) → ¬ IsListing (rows ++ record { path = p; content = x } ∷ [])) → BeginsNoTree (tree_lines rows ++ line ∷ [])
no_room rows line p h is named fits told none whole rest is_whole e =
    let found = behind whole rows (line ∷ rest) is_whole is (e ∙ append_assoc (tree_lines rows) (line ∷ []) rest) in
    let first = first_row found.more line rest found.fit found.lines in
    let same = one_head first.path p (head_of first.content) h (first.fits.0, first.fits.1) named (head_fits first.path first.content first.fits) fits (sym first.line_is ∙ told) in
    let row : Row (List ℕ) = record { path = p; content = first.content } in
    let rows_are : found.more ≡ row ∷ first.later = first.rows_are ∙ λ i. record { path = same i; content = first.content } ∷ first.later in
    let all : whole ≡ (rows ++ row ∷ []) ++ first.later = found.rows ∙ ap (λ z. rows ++ z) rows_are ∙ sym (append_assoc rows (row ∷ []) first.later) in
    none first.content (IsListing-front (rows ++ row ∷ []) first.later (subst (λ z. IsListing z) all is_whole.listing))

-- ---- what a line of data adds

-- a full line, of a file that isn't whole yet
pub data_more : (b d : List ℕ) → length b % 64 ≡ 0 → length d ≡ 64 → data_lines (length (b ++ d) / 64) (b ++ d) ≡ data_lines (length b / 64) b ++ data_line d ∷ []
data_more b d whole full =
    let m : ℕ = length b / 64 in
    let count : length (b ++ d) / 64 ≡ suc m = omega (arith, length-append b d) in
    ap (λ k. data_lines k (b ++ d)) count ∙ data_push m b d (omega arith) (omega arith)

-- the last line
pub data_last : (b d : List ℕ) → length b % 64 ≡ 0 → 0 < length d → length d ≤ 64 → data_lines ((length (b ++ d) + 63) / 64) (b ++ d) ≡ data_lines (length b / 64) b ++ data_line d ∷ []
data_last b d whole some short =
    let m : ℕ = length b / 64 in
    let count : (length (b ++ d) + 63) / 64 ≡ suc m = omega (arith, length-append b d) in
    ap (λ k. data_lines k (b ++ d)) count ∙ data_push m b d (omega arith) short

-- a file goes on by a full line
pub file_goes_on : (rows : Listing (List ℕ)) (f : OpenFile) (new : List ℕ) (line : Line) → OpenFits rows f → AddsData f.bytes.items new line 64
    → tree_lines rows ++ (file_line f.path f.size ∷ data_lines (length new / 64) new) ≡ (tree_lines rows ++ open_lines (Some f)) ++ line ∷ []
file_goes_on rows f new line fits adds =
    let its_lines : data_lines (length new / 64) new ≡ data_lines (length f.bytes.items / 64) f.bytes.items ++ line ∷ [] =
    ap (λ z. data_lines (length z / 64) z) adds.added ∙ data_more f.bytes.items adds.data_bytes fits.whole adds.size
    ∙ ap (λ z. data_lines (length f.bytes.items / 64) f.bytes.items ++ z ∷ []) (sym adds.told) in
    ap (λ z. tree_lines rows ++ (file_line f.path f.size ∷ z)) its_lines ∙ sym (append_assoc (tree_lines rows) (open_lines (Some f)) (line ∷ []))

-- and ends by its last
pub file_ends : (rows : Listing (List ℕ)) (f : OpenFile) (new : List ℕ) (line : Line) (count : ℕ) → OpenFits rows f → AddsData f.bytes.items new line count
    → count ≤ 64 → length f.bytes.items + count ≡ f.size
    → tree_lines rows ++ tree_row_lines f.path (File new) ≡ (tree_lines rows ++ open_lines (Some f)) ++ line ∷ []
file_ends rows f new line count fits adds short total =
    let less = fits.less in
    let size = adds.size in
    let its_lines : data_lines ((length new + 63) / 64) new ≡ data_lines (length f.bytes.items / 64) f.bytes.items ++ line ∷ [] =
    ap (λ z. data_lines ((length z + 63) / 64) z) adds.added ∙ data_last f.bytes.items adds.data_bytes fits.whole (omega arith) (omega arith)
    ∙ ap (λ z. data_lines (length f.bytes.items / 64) f.bytes.items ++ z ∷ []) (sym adds.told) in
    let sizes : length new ≡ f.size = ap length adds.added ∙ length-append f.bytes.items adds.data_bytes ∙ omega arith in
    ap (λ z. tree_lines rows ++ (file_line f.path z ∷ data_lines ((length new + 63) / 64) new)) sizes
    ∙ ap (λ z. tree_lines rows ++ (file_line f.path f.size ∷ z)) its_lines ∙ sym (append_assoc (tree_lines rows) (open_lines (Some f)) (line ∷ []))
