-- The text of what `trial` tells of a run in which every action was done. Its last line counts entries without a limit, so it is told by its
-- first byte alone.
use Rattle.std.proofs.Common.{◌≡◌, ◌≢◌, ℕ, Bool, true, false, cond, List, [], ◌∷◌, ◌++◌, map, drop, codes}
use Rattle.std.proofs.Common.{refl, sym, ap, ap₂, ◌∙◌, append_assoc, arith}
use Rattle.std.specs.List.{AllByRecursion}
use Rattle.ts_name.specs.Paths.{path_text}
use Rattle.ts_model.specs.Sync.{is_skipped}
use Rattle.ts_model.specs.Texts.{Line, text, words, reason_text, tree_lines, print_lines, PathFits}
use Rattle.ts_model.specs.Trial.{report_line, total_line}
use Rattle.ts_model.specs.declared.plan.Entry.{Entry}
use Rattle.ts_model.proofs.Lines.{text_append}
use Rattle.ts_model.proofs.Spelling.{clean_reason, one_reason_text}
use Rattle.ts_name.proofs.Spelling.{IsClean, clean_from_test, clean_path, cons_parts, one_path}
use Rattle.ts_name.proofs.Utf8.{all_append}
use Rattle.ts_text_laws.specs.Laws.{TrialResult, IsResultText, OneToOne}
use Rattle.ts_text_laws.proofs.Words.{AreLines, IsLine, StartsOther, Words, one_spelling_before, spell, text_spells}
use Rattle.ts_text_laws.proofs.TreeTexts.{one_print, print_are_lines, print_spelled, print_start_other, print_words}
use Rattle.ts_text_laws.proofs.TreeTexts.{one_tree, tree_are_lines, tree_spelled, tree_start_other, tree_words}
use Rattle.ts_text_laws.proofs.Bundles.{joined, print_fits, tree_fits}

-- ---- the report

-- what is said of an entry
abbrev said : Bool → List ℕ
said skipped = cond skipped (codes "skip") (codes "done")

-- its line in words
unfoldable report_words : Entry → Words
report_words e = said (is_skipped e.reason) ∷ reason_text e.reason ∷ path_text e.path ∷ []

-- each entry's path is lawful
abbrev EntriesFit : List Entry → Type 0
EntriesFit entries = AllByRecursion (λ e. PathFits e.path) entries

-- the words spell the lines
report_spelled : (entries : List Entry) → map report_line entries ≡ map words (map report_words entries)
unfolding report_words
report_spelled [] = refl
report_spelled (e ∷ entries) = ap (λ z. report_line e ∷ z) (report_spelled entries)

-- each line is one
report_are_lines : (entries : List Entry) → EntriesFit entries → AreLines (map report_words entries)
unfolding report_words
report_are_lines [] fits = tt
report_are_lines (e ∷ entries) fits = ((clean (is_skipped e.reason), (clean_reason e.reason, clean_path e.path fits.0.0)), report_are_lines entries fits.1)
  where
    clean : (skipped : Bool) → IsClean (said skipped)
    clean true = clean_from_test (codes "skip") refl
    clean false = clean_from_test (codes "done") refl

-- and begins with `s` or `d`
report_start_other : (entries : List Entry) → AllByRecursion (StartsOther 116) (map report_words entries)
unfolding report_words
report_start_other [] = tt
report_start_other (e ∷ entries) = (begins (is_skipped e.reason), report_start_other entries)
  where
    begins : (skipped : Bool) → StartsOther 116 (said skipped ∷ reason_text e.reason ∷ path_text e.path ∷ [])
    begins true = λ u v e. absurd (let k : ◌≡◌ {A = ℕ} 115 116 = cc in omega (arith, k))
    begins false = λ u v e. absurd (let k : ◌≡◌ {A = ℕ} 100 116 = cc in omega (arith, k))

-- a line is of one entry
one_report_line : (x y : Entry) → PathFits x.path → PathFits y.path → report_words x ≡ report_words y → x ≡ y
unfolding report_words
one_report_line x y fits_x fits_y e =
    let word = cons_parts (said (is_skipped x.reason)) (said (is_skipped y.reason))
    (reason_text x.reason ∷ path_text x.path ∷ []) (reason_text y.reason ∷ path_text y.path ∷ []) e in
    let why = cons_parts (reason_text x.reason) (reason_text y.reason) (path_text x.path ∷ []) (path_text y.path ∷ []) word.1 in
    let path = cons_parts (path_text x.path) (path_text y.path) [] [] why.1 in
    let paths = one_path x.path y.path fits_x.0 fits_y.0 path.0 in
    let reasons = one_reason_text x.reason y.reason why.0 in
    λ i. record { path = paths i; reason = reasons i }

-- and the lines are of one list of entries
one_report : (xs ys : List Entry) → EntriesFit xs → EntriesFit ys → map report_words xs ≡ map report_words ys → xs ≡ ys
one_report [] [] fits_x fits_y e = refl
one_report [] (y ∷ ys) fits_x fits_y e = absurd cc
one_report (x ∷ xs) [] fits_x fits_y e = absurd cc
one_report (x ∷ xs) (y ∷ ys) fits_x fits_y e =
    let line = cons_parts (report_words x) (report_words y) (map report_words xs) (map report_words ys) e in
    ap₂ ◌∷◌ (one_report_line x y fits_x.0 fits_y.0 line.0) (one_report xs ys fits_x.1 fits_y.1 line.1)

-- ---- the lines before the last

-- the lines from each heading on, in words
abbrev report_part : TrialResult → List Words
report_part told = (codes "report" ∷ []) ∷ map report_words told.entries

-- from the archive on
abbrev archive_part : TrialResult → List Words
archive_part told = (codes "archive" ∷ []) ∷ (print_words told.archive ++ report_part told)

-- from the second replica on
abbrev second_part : TrialResult → List Words
second_part told = (codes "second" ∷ []) ∷ (tree_words told.second ++ archive_part told)

-- all but the totals
abbrev front_words : TrialResult → List Words
front_words told = (codes "first" ∷ []) ∷ (tree_words told.first ++ second_part told)

-- the same as lines
abbrev front_lines : TrialResult → List Line
front_lines told = (codes "first" ∷ tree_lines told.first) ++ (codes "second" ∷ tree_lines told.second)
    ++ (codes "archive" ∷ print_lines told.archive) ++ (codes "report" ∷ map report_line told.entries)

-- the words spell the lines
front_spelled : (told : TrialResult) → front_lines told ≡ map words (front_words told)
front_spelled told = ap (λ z. codes "first" ∷ z) (
    append_assoc (tree_lines told.first ++ codes "second" ∷ tree_lines told.second) (codes "archive" ∷ print_lines told.archive) _
    ∙ append_assoc (tree_lines told.first) (codes "second" ∷ tree_lines told.second) _
    ∙ joined (tree_lines told.first) (tree_words told.first) _ (second_part told) (tree_spelled told.first)
    (ap (λ z. codes "second" ∷ z) (joined (tree_lines told.second) (tree_words told.second) _ (archive_part told) (tree_spelled told.second)
    (ap (λ z. codes "archive" ∷ z) (joined (print_lines told.archive) (print_words told.archive) _ (report_part told) (print_spelled told.archive)
    (ap (λ z. codes "report" ∷ z) (report_spelled told.entries)))))))

-- each line is one
front_are_lines : (bytes : List ℕ) (told : TrialResult) → IsResultText bytes told → AreLines (front_words told)
front_are_lines bytes told is = (
  clean_from_test (codes "first") refl,
  all_append IsLine (tree_words told.first) (second_part told) (tree_are_lines told.first (tree_fits told.first is.bodies.0)) (
    clean_from_test (codes "second") refl,
    all_append IsLine (tree_words told.second) (archive_part told) (tree_are_lines told.second (tree_fits told.second is.bodies.1)) (
      clean_from_test (codes "archive") refl,
      all_append IsLine (print_words told.archive) (report_part told) (print_are_lines told.archive (print_fits told.archive is.bodies.2))
          (clean_from_test (codes "report") refl, report_are_lines told.entries is.entries_fit),
    ),
  ),
)

-- and none begins with 116, the `t` of the totals
front_start_other : (told : TrialResult) → AllByRecursion (StartsOther 116) (front_words told)
front_start_other told = (
  λ u v e. f cc,
  all_append (StartsOther 116) (tree_words told.first) (second_part told) (tree_start_other 116 d f x told.first) (
    λ u v e. absurd (let k : ◌≡◌ {A = ℕ} 115 116 = cc in omega (arith, k)),
    all_append (StartsOther 116) (tree_words told.second) (archive_part told) (tree_start_other 116 d f x told.second) (
      λ u v e. absurd (let k : ◌≡◌ {A = ℕ} 97 116 = cc in omega (arith, k)),
      all_append (StartsOther 116) (print_words told.archive) (report_part told) (print_start_other 116 d f told.archive)
          (λ u v e. absurd (let k : ◌≡◌ {A = ℕ} 114 116 = cc in omega (arith, k)), report_start_other told.entries),
    ),
  ),
)
  where
    d : ◌≢◌ {A = ℕ} 100 116
    d k = omega (arith, k)

    f : ◌≢◌ {A = ℕ} 102 116
    f k = omega (arith, k)

    x : ◌≢◌ {A = ℕ} 120 116
    x k = omega (arith, k)

-- ---- all of the text

-- the lines before the totals are of one result
one_front_words : (bytes more : List ℕ) (x y : TrialResult) → IsResultText bytes x → IsResultText more y → front_words x ≡ front_words y → x ≡ y
one_front_words bytes more x y is_x is_y e =
    let headings = cons_parts (codes "first" ∷ []) (codes "first" ∷ []) (tree_words x.first ++ second_part x) (tree_words y.first ++ second_part y) e in
    let first = one_tree x.first y.first (codes "second") (tree_words x.second ++ archive_part x) (tree_words y.second ++ archive_part y)
    (tree_fits x.first is_x.bodies.0) (tree_fits y.first is_y.bodies.0) headings.1 in
    let second = one_tree x.second y.second (codes "archive") (print_words x.archive ++ report_part x) (print_words y.archive ++ report_part y)
    (tree_fits x.second is_x.bodies.1) (tree_fits y.second is_y.bodies.1) first.1 in
    let archive = one_print x.archive y.archive (codes "report") (map report_words x.entries) (map report_words y.entries)
    (print_fits x.archive is_x.bodies.2) (print_fits y.archive is_y.bodies.2) second.1 in
    let entries = one_report x.entries y.entries is_x.entries_fit is_y.entries_fit archive.1 in
    λ i. record { first = first.0 i; second = second.0 i; archive = archive.0 i; entries = entries i }

-- the last line, but for its first byte
abbrev totals : TrialResult → List ℕ
totals told = drop 1 (text (total_line told.entries ∷ []))

-- the text is that of the lines before it, and the last line
result_spelled : (bytes : List ℕ) (told : TrialResult) → IsResultText bytes told → bytes ≡ spell (front_words told) ++ 116 ∷ totals told
result_spelled bytes told is = is.spelled ∙ text_append (front_lines told) (total_line told.entries ∷ [])
    ∙ ap (λ z. z ++ text (total_line told.entries ∷ [])) (ap text (front_spelled told) ∙ text_spells (front_words told))

-- a text is of one result
pub one_result_text : OneToOne IsResultText
one_result_text = record {
  one_value = λ bytes x y is_x is_y. one_front_words bytes bytes x y is_x is_y
      (one_spelling_before 116 (front_words x) (front_words y) (totals x) (totals y) (front_are_lines bytes x is_x) (front_are_lines bytes y is_y)
      (front_start_other x) (front_start_other y) (sym (result_spelled bytes x is_x) ∙ result_spelled bytes y is_y));
  one_text = λ bytes more x is_x is_y. is_x.spelled ∙ sym is_y.spelled;
}
