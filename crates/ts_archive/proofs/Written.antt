-- What was written of an archive file.
use Rattle.std.proofs.Common.{◌≡◌, ◌≢◌, ℕ, List, [], ◌∷◌, ◌++◌, length, Option, Some, refl, sym, ap, ◌∙◌, arith, subst, append-nil, length-append}
use Rattle.std.specs.List.{AllByRecursion}
use Rattle.std.specs.Io.KnownBytes.{Appends}
use Rattle.std.proofs.KnownBytes.{Appends-trans}
use Rattle.ts_text.specs.Sources.{AppendsFront}
use Rattle.ts_text.proofs.Sinks.{front_after, front_longer}
use Rattle.sha2.specs.Sha256.{sha256}
use Rattle.ts_name.specs.Paths.{Path, IsPath}
use Rattle.ts_model.specs.Trees.{Listing, IsListing}
use Rattle.ts_model.specs.Texts.{Line, archive_front, archive_text, print_lines, print_row_lines, text}
use Rattle.ts_tree.proofs.Writing.{Wrote}
use Rattle.ts_model.specs.declared.row.Content.{Content}
use Rattle.ts_model.specs.declared.row.Content.TheVariants.{Absent, Dir, File}
use Rattle.ts_model.specs.declared.row.Stamp.{Stamp}
use Rattle.ts_model.proofs.Lines.{text_cons}
use Rattle.ts_archive.specs.Endings.{end_line, header}

one_line_each : (p : Path) (x : Content Stamp) → x ≢ Absent → length (print_row_lines p x) ≡ 1
one_line_each p Absent some = absurd (some refl)
one_line_each p Dir some = refl
one_line_each p (File stamp) some = refl

-- a print has a line for each row
pub length-print_lines : (rows : Listing Stamp) → IsListing rows → length (print_lines rows) ≡ length rows
length-print_lines rows is = go rows is.rows_are
  where
    go : (rows : Listing Stamp) → AllByRecursion (λ row. IsPath row.path × (row.path ≢ []) × (row.content ≢ Absent)) rows → length (print_lines rows) ≡ length rows
    go [] are = refl
    go (row ∷ rows) are = omega (arith, one_line_each row.path row.content are.0.2, go rows are.1, length-append (print_row_lines row.path row.content) (print_lines rows))

-- the text before the end line, and that line
pub whole_text : (rows : Listing Stamp) (front line : List ℕ) (count : ℕ) → IsListing rows → count ≡ length rows → front ≡ archive_front rows → line ≡ end_line count (sha256 front)
    → archive_text rows ≡ front ++ (line ++ 10 ∷ [])
whole_text rows front line count is number begins ends =
    let counted : count ≡ length (print_lines rows) = number ∙ sym (length-print_lines rows is) in
    let its_line : line ≡ end_line (length (print_lines rows)) (sha256 (archive_front rows)) = ends ∙ ap (λ n. end_line n (sha256 front)) counted ∙ ap (λ z. end_line (length (print_lines rows)) (sha256 z)) begins in
    sym (ap (λ z. z ++ (line ++ 10 ∷ [])) begins ∙ ap (λ z. archive_front rows ++ (z ++ 10 ∷ [])) its_line
    ∙ ap (λ z. archive_front rows ++ z) (sym (text_cons (end_line (length (print_lines rows)) (sha256 (archive_front rows))) [])))

-- what was hashed behind some bytes, when no line is left, are all lines
pub all_hashed : (before now : List ℕ) (all rest : List Line) → rest ≡ [] → Wrote (Some before) (Some now) all rest → now ≡ before ++ text all
all_hashed before now all rest none wrote =
    wrote.written ∙ ap (λ z. before ++ text z) (sym (append-nil wrote.done) ∙ ap (λ z. wrote.done ++ z) (sym none) ∙ sym wrote.split)

abbrev pub header_line : List ℕ
header_line = header ++ 10 ∷ []

-- what goes out of an archive file: its first line, the lines of the rows, and the end line
module _ (rows : Listing Stamp) (is : IsListing rows) (first : List ℕ) (begins : first ++ text (print_lines rows) ≡ archive_front rows) where
  abbrev pub last : List ℕ
  last = end_line (length rows) (sha256 (first ++ text (print_lines rows))) ++ 10 ∷ []

  whole : archive_text rows ≡ (first ++ text (print_lines rows)) ++ last
  whole = whole_text rows (first ++ text (print_lines rows)) (end_line (length rows) (sha256 (first ++ text (print_lines rows)))) (length rows) is refl begins refl

  pub begun_first : (old new : Option (List ℕ)) → AppendsFront old new first → AppendsFront old new (archive_text rows)
  begun_first old new begun = subst (λ z. AppendsFront old new z) (sym whole) (front_longer old new (first ++ text (print_lines rows)) last (front_longer old new first (text (print_lines rows)) begun))

  pub begun_rows : (old mid new : Option (List ℕ)) → Appends old mid first → AppendsFront mid new (text (print_lines rows)) → AppendsFront old new (archive_text rows)
  begun_rows old mid new sent begun =
      subst (λ z. AppendsFront old new z) (sym whole) (front_longer old new (first ++ text (print_lines rows)) last (front_after old mid new first (text (print_lines rows)) sent begun))

  pub begun_last : (old mid new after : Option (List ℕ)) → Appends old mid first → Appends mid new (text (print_lines rows)) → AppendsFront new after last → AppendsFront old after (archive_text rows)
  begun_last old mid new after sent added begun =
      subst (λ z. AppendsFront old after z) (sym whole) (front_after old new after (first ++ text (print_lines rows)) last (Appends-trans old mid new first (text (print_lines rows)) sent added) begun)

  pub sent_all : (old mid new after : Option (List ℕ)) → Appends old mid first → Appends mid new (text (print_lines rows)) → Appends new after last → Appends old after (archive_text rows)
  sent_all old mid new after sent added ended =
      subst (λ z. Appends old after z) (sym whole) (Appends-trans old new after (first ++ text (print_lines rows)) last (Appends-trans old mid new first (text (print_lines rows)) sent added) ended)
