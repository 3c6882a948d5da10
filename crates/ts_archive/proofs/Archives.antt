-- What the end line of an archive file says of the lines before it.
use Rattle.std.proofs.Common.{◌≡◌, ◌≢◌, ◌⊎◌, ℕ, ◌+◌, List, [], ◌∷◌, ◌++◌, length, sym, ap, ◌∙◌, inl, inr, append_assoc, arith, length-append}
use Rattle.std.specs.Prelude.{IfSome}
use Rattle.sha2.specs.Sha256.{sha256}
use Rattle.ts_text.specs.Lines.{Reading, HasEnded}
use Rattle.ts_model.specs.Trees.{Listing}
use Rattle.ts_model.specs.Texts.{Line, text, print_lines, archive_front, IsPrintBody, IsArchiveText, HasWrongEnd}
use Rattle.ts_model.specs.declared.row.Stamp.{Stamp}
use Rattle.ts_model.proofs.Lines.{text_append, text_push}
use Rattle.ts_tree.proofs.NoTree.{known_weaker}
use Rattle.ts_tree.proofs.Taken.{Taken, taken_all}
use Rattle.ts_archive.specs.Endings.{header, end_line, EndFits, DecodesArchive}

-- one more line of the text that is hashed
pub hashed_more : (fed : List Line) (line : Line) → (text (header ∷ fed) ++ line) ++ 10 ∷ [] ≡ text (header ∷ (fed ++ line ∷ []))
hashed_more fed line = append_assoc (text (header ∷ fed)) line (10 ∷ []) ∙ sym (text_push (header ∷ fed) line)

-- and one more line of the count
pub counted_more : (fed : List Line) (line : Line) (n : ℕ) → n ≡ length fed → n + 1 ≡ length (fed ++ line ∷ [])
counted_more fed line n e = omega (arith, length-append fed (line ∷ []))

-- the lines that were read, and a last one
split_end : (rows : Listing Stamp) (fed : List Line) (line : Line) → print_lines rows ≡ fed → text (header ∷ (fed ++ line ∷ [])) ≡ archive_front rows ++ text (line ∷ [])
split_end rows fed line e = text_append (header ∷ fed) (line ∷ []) ∙ ap (λ z. text (header ∷ z) ++ text (line ∷ [])) (sym e)

-- the end line is right
pub right_end : (old next final : Reading) (fed : List Line) (line : Line) (rows : Listing Stamp) (count : ℕ) (digest : List ℕ) → Taken old next (header ∷ (fed ++ line ∷ [])) → HasEnded next final
    → line ≡ end_line count digest → count ≡ length fed → digest ≡ sha256 (text (header ∷ fed)) → IsPrintBody rows → print_lines rows ≡ fed → DecodesArchive old rows
right_end old next final fed line rows count digest taken ends told number sum is lines = (
  is,
  known_weaker old.left (λ bytes. bytes ≡ text (header ∷ (fed ++ line ∷ []))) (λ bytes. IsArchiveText bytes rows)
      (λ bytes e. record {
        print = is;
        spelled = e ∙ split_end rows fed line lines
            ∙ ap (λ z. archive_front rows ++ text (z ∷ [])) (told ∙ ap (λ n. end_line n digest) (number ∙ ap length (sym lines)) ∙ ap (λ d. end_line (length (print_lines rows)) d) (sum ∙ ap (λ z. sha256 (text (header ∷ z))) (sym lines)));
      }) (taken_all old next final (header ∷ (fed ++ line ∷ [])) taken ends),
)

-- the end line is of the form, but wrong
pub wrong_end : (old next final : Reading) (fed : List Line) (line : Line) (rows : Listing Stamp) (count : ℕ) (digest : List ℕ) → Taken old next (header ∷ (fed ++ line ∷ [])) → HasEnded next final
    → line ≡ end_line count digest → EndFits count digest → (count ≢ length fed) ⊎ (digest ≢ sha256 (text (header ∷ fed))) → IsPrintBody rows → print_lines rows ≡ fed
    → IfSome old.left HasWrongEnd
wrong_end old next final fed line rows count digest taken ends told fits wrong is lines =
    known_weaker old.left (λ bytes. bytes ≡ text (header ∷ (fed ++ line ∷ []))) HasWrongEnd
    (λ bytes e. record {
      rows = rows;
      count = count;
      digest = digest;
      print = is;
      count_fits = fits.0;
      digest_fits = (fits.1, fits.2);
      spelled = e ∙ split_end rows fed line lines ∙ ap (λ z. archive_front rows ++ text (z ∷ [])) told;
      wrong = elim wrong [
        | inl h ↦ inl (λ same. h (same ∙ ap length lines))
        | inr h ↦ inr (λ same. h (same ∙ ap (λ z. sha256 (text (header ∷ z))) lines))
      ];
    }) (taken_all old next final (header ∷ (fed ++ line ∷ [])) taken ends)
