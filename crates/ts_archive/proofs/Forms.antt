-- Bytes in the form of an archive file, and the lines that were taken of them.
--     Formed bytes             a print's lines and an end line, which may tell a wrong count or digest
--     Stands f fed left        how far these lines go, and what is left behind them
use Rattle.std.proofs.Common.{◌≡◌, ◌≢◌, ◌⊎◌, ℕ, ◌^◌, ◌<◌, List, [], ◌∷◌, ◌++◌, length, decimal, refl, sym, ap, ◌∙◌, subst, inl, inr, append_assoc, arith, length-append, codes}
use Rattle.std.specs.List.{AllByRecursion}
use Rattle.hex.specs.Hex.{encode_lower}
use Rattle.sha2.specs.Sha256.{sha256}
use Rattle.sha2.proofs.Facts256.{length-sha256}
use Rattle.ts_name.specs.Paths.{Path, path_text}
use Rattle.ts_name.specs.Buffers.{HasNo}
use Rattle.ts_name.proofs.Spelling.{clean_decimal, clean_from_test, cut_at, length_number, no_feed}
use Rattle.ts_name.proofs.Utf8.{all_append, all_parts}
use Rattle.ts_text.specs.Lines.{IsLine}
use Rattle.ts_model.specs.Trees.{Listing}
use Rattle.ts_model.specs.Texts.{Line, text, IsBytes, print_lines, print_row_lines, archive_front, IsPrintBody, IsArchiveText, HasWrongEnd}
use Rattle.ts_model.proofs.Lines.{Fronts, fronts, longer, shorter, text_cons}
use Rattle.ts_model.proofs.Rows.{bytes-sha256, each_line}
use Rattle.ts_model.proofs.Spelling.{clean_hex, length_hex}
use Rattle.ts_model.specs.declared.row.Content.{Content}
use Rattle.ts_model.specs.declared.row.Content.TheVariants.{Absent, Dir, File}
use Rattle.ts_model.specs.declared.row.Stamp.{Stamp}
use Rattle.ts_tree.proofs.Lines.{AreTextLines}
use Rattle.ts_print.proofs.PrintTexts.{RowFits, rows_fit, print_are_lines}
use Rattle.ts_archive.specs.Endings.{header, end_line, EndFits, IsNoArchive}

-- a print's lines, and an end line that may tell a wrong count or digest
pub record Formed (bytes : List ℕ) : Type 0 where
  pub rows : Listing Stamp
  pub count : ℕ
  pub digest : List ℕ
  pub print : IsPrintBody rows
  pub count_fits : (count < 2 ^ 64) ⊎ (count ≡ length (print_lines rows))
  pub digest_fits : IsBytes digest × (length digest ≡ 32)
  pub spelled : bytes ≡ text (header ∷ print_lines rows) ++ (end_line count digest ++ 10 ∷ [])

abbrev pub formed_right : (bytes : List ℕ) (rows : Listing Stamp) → IsArchiveText bytes rows → Formed bytes
formed_right bytes rows is = record {
  rows = rows;
  count = length (print_lines rows);
  digest = sha256 (archive_front rows);
  print = is.print;
  count_fits = inr refl;
  digest_fits = (bytes-sha256 (archive_front rows), length-sha256 (archive_front rows));
  spelled = is.spelled ∙ ap (λ z. archive_front rows ++ z) (text_cons (end_line (length (print_lines rows)) (sha256 (archive_front rows))) []);
}

abbrev pub formed_wrong : (bytes : List ℕ) → HasWrongEnd bytes → Formed bytes
formed_wrong bytes is = record {
  rows = is.rows;
  count = is.count;
  digest = is.digest;
  print = is.print;
  count_fits = inl is.count_fits;
  digest_fits = is.digest_fits;
  spelled = is.spelled ∙ ap (λ z. archive_front is.rows ++ z) (text_cons (end_line is.count is.digest) []);
}

pub no_archive : (bytes : List ℕ) → ¬ Formed bytes → IsNoArchive bytes
no_archive bytes none = record { none = λ rows is. none (formed_right bytes rows is); other_end = λ is. none (formed_wrong bytes is) }

-- ---- lines that aren't the end line

-- the line doesn't begin with an `e`
abbrev pub IsNoEnd : Line → Type 0
IsNoEnd line = (u v : List ℕ) → line ++ u ≢ 101 ∷ v

row_no_end : (p : Path) (x : Content Stamp) → RowFits p x → AllByRecursion IsNoEnd (print_row_lines p x)
row_no_end p Absent fits = tt
row_no_end p Dir fits = (λ u v e. let k : 100 ∷ ((32 ∷ path_text p) ++ u) ≡ 101 ∷ v = e in let first : ◌≡◌ {A = ℕ} 100 101 = cc in omega arith, tt)
row_no_end p (File x) fits =
    (λ u v e. let k : 102 ∷ ((32 ∷ (path_text p ++ 32 ∷ (decimal x.size ++ 32 ∷ encode_lower x.digest))) ++ u) ≡ 101 ∷ v = e in let first : ◌≡◌ {A = ℕ} 102 101 = cc in omega arith, tt)

pub print_no_end : (rows : Listing Stamp) → IsPrintBody rows → AllByRecursion IsNoEnd (print_lines rows)
print_no_end rows is = each_line print_row_lines RowFits IsNoEnd row_no_end rows (rows_fit rows is)

-- ---- the header and the end line are lines

letters_header : HasNo 10 header
letters_header =
    all_append (λ b. b ≢ 10) (codes "twosync-archive") (32 ∷ codes "1") (no_feed (codes "twosync-archive") (clean_from_test (codes "twosync-archive") refl))
    (λ e. omega arith, no_feed (codes "1") (clean_from_test (codes "1") refl))

pub header_is_line : IsLine header
header_is_line = record { short = omega arith; one = letters_header }

pub end_is_line : (count : ℕ) (digest : List ℕ) → EndFits count digest → IsLine (end_line count digest)
end_is_line count digest fits = record {
  one = (
    λ e. omega arith,
    (
      λ e. omega arith,
      (
        λ e. omega arith,
        (
          λ e. omega arith,
          all_append (λ b. b ≢ 10) (decimal count) (32 ∷ encode_lower digest) (no_feed (decimal count) (clean_decimal count fits.0))
              (λ e. omega arith, no_feed (encode_lower digest) (clean_hex digest fits.1)),
        ),
      ),
    ),
  );
  short = omega (arith, length_hex digest, length_number count fits.0, fits.2, length-append (decimal count) (32 ∷ encode_lower digest));
}

-- ---- how far lines go

pub record Stands (bytes : List ℕ) (f : Formed bytes) (fed : List Line) (left : List ℕ) : Type 0 where
  pub more : List Line
  pub lines : print_lines f.rows ≡ fed ++ more
  pub left_is : left ≡ text more ++ (end_line f.count f.digest ++ 10 ∷ [])

-- lines of a print that were taken are first among those of the file
pub stands : (bytes : List ℕ) (f : Formed bytes) (fed : List Line) (left : List ℕ) → AreTextLines fed → AllByRecursion IsNoEnd fed → bytes ≡ text (header ∷ fed) ++ left → Stands bytes f fed left
stands bytes f fed left are no_end e =
    let ends = end_line f.count f.digest ++ 10 ∷ [] in
    let first : text (header ∷ print_lines f.rows) ++ ends ≡ text (header ∷ fed) ++ left = sym f.spelled ∙ e in
    let cut = cut_at 10 header header (text (print_lines f.rows) ++ ends) (text fed ++ left) letters_header letters_header
    (sym (append_assoc header (10 ∷ text (print_lines f.rows)) ends) ∙ ap (λ z. z ++ ends) (sym (text_cons header (print_lines f.rows))) ∙ first
    ∙ ap (λ z. z ++ left) (text_cons header fed) ∙ append_assoc header (10 ∷ text fed) left) in
    go (fronts IsLine (λ x is. is.one) (print_lines f.rows) fed ends left (print_are_lines f.rows f.print) are cut.1)
  where
    go : Fronts (print_lines f.rows) fed (end_line f.count f.digest ++ 10 ∷ []) left → Stands bytes f fed left
    go (longer more lines rest) = record { more = more; lines = lines; left_is = rest }
    go (shorter y more lines rest) = absurd ((all_parts IsNoEnd (print_lines f.rows) (y ∷ more) (subst (λ z. AllByRecursion IsNoEnd z) lines no_end)).1.0 (10 ∷ (text more ++ left)) (110 ∷ 100 ∷ 32 ∷ ((decimal f.count ++ 32 ∷ encode_lower f.digest) ++ 10 ∷ [])) (sym rest))
