-- Each text is of one value.
use Rattle.std.proofs.Common.{◌≡◌, ℕ, List, [], ◌∷◌, ◌++◌, length, map, drop, codes, decimal, sym, ap, ◌∙◌, refl, arith}
use Rattle.std.specs.List.{AllByRecursion}
use Rattle.hex.specs.Hex.{encode_lower}
use Rattle.sha2.specs.Sha256.{sha256}
use Rattle.ts_model.specs.Trees.{Listing}
use Rattle.ts_model.specs.Texts.{text, words, archive_front, archive_text, tree_lines, print_lines, rule_line, plan_lines, IsTreeText, IsPrintText, IsArchiveText, IsRulesText, IsPlanText, IsBundleText}
use Rattle.ts_model.specs.declared.row.Stamp.{Stamp}
use Rattle.ts_text_laws.specs.Laws.{OneToOne}
use Rattle.ts_name.specs.Paths.{IsPathText}
use Rattle.ts_name.proofs.Spelling.{clean_from_test, cons_parts, one_path}
use Rattle.ts_text_laws.proofs.Words.{AreLines, Words, StartsOther, one_spelling, one_spelling_before, spell, text_spells}
use Rattle.ts_text_laws.proofs.TreeTexts.{PrintFits, one_print, one_tree, print_are_lines, print_spelled, print_start_other, print_words, tree_are_lines, tree_spelled, tree_words}
use Rattle.ts_text_laws.proofs.RuleTexts.{one_rules, rule_words, rules_are_lines, rules_spelled}
use Rattle.ts_text_laws.proofs.PlanTexts.{one_plan, plan_are_lines, plan_spelled, plan_words}
use Rattle.ts_text_laws.proofs.Bundles.{one_bundle, print_fits, tree_fits}

-- lines that are spelled by words have the words' spelling as their text
spells : (lines : List (List ℕ)) (ws : List Words) → lines ≡ map words ws → text lines ≡ spell ws
spells lines ws e = ap text e ∙ text_spells ws

-- lines of one text have the same words
one_lines : (xs ys : List Words) (lines_x lines_y : List (List ℕ)) → AreLines xs → AreLines ys → lines_x ≡ map words xs → lines_y ≡ map words ys
    → text lines_x ≡ text lines_y → xs ≡ ys
one_lines xs ys lines_x lines_y are_x are_y is_x is_y e = one_spelling xs ys are_x are_y (sym (spells lines_x xs is_x) ∙ e ∙ spells lines_y ys is_y)

-- lines before one of a single word
ended : (xs ys : List Words) → xs ≡ ys → xs ++ (codes "end" ∷ []) ∷ [] ≡ ys ++ (codes "end" ∷ []) ∷ []
ended xs ys e = ap (λ z. z ++ (codes "end" ∷ []) ∷ []) e

-- a path's text is of one path
pub one_path_text : OneToOne IsPathText
one_path_text = record {
  one_value = λ bytes x y is_x is_y. one_path x y is_x.0 is_y.0 (sym is_x.1 ∙ is_y.1);
  one_text = λ bytes more x is_x is_y. is_x.1 ∙ sym is_y.1;
}

-- a tree's text is of one tree
pub one_tree_text : OneToOne IsTreeText
one_tree_text = record {
  one_value = λ bytes x y is_x is_y. (one_tree x y (codes "end") [] [] (tree_fits x is_x.tree) (tree_fits y is_y.tree) (ended (tree_words x) (tree_words y)
      (one_lines (tree_words x) (tree_words y) (tree_lines x) (tree_lines y) (tree_are_lines x (tree_fits x is_x.tree)) (tree_are_lines y (tree_fits y is_y.tree))
      (tree_spelled x) (tree_spelled y) (sym is_x.spelled ∙ is_y.spelled)))).0;
  one_text = λ bytes more x is_x is_y. is_x.spelled ∙ sym is_y.spelled;
}

-- a print's text is of one print
pub one_print_text : OneToOne IsPrintText
one_print_text = record {
  one_value = λ bytes x y is_x is_y. (one_print x y (codes "end") [] [] (print_fits x is_x.print) (print_fits y is_y.print) (ended (print_words x) (print_words y)
      (one_lines (print_words x) (print_words y) (print_lines x) (print_lines y) (print_are_lines x (print_fits x is_x.print)) (print_are_lines y (print_fits y is_y.print))
      (print_spelled x) (print_spelled y) (sym is_x.spelled ∙ is_y.spelled)))).0;
  one_text = λ bytes more x is_x is_y. is_x.spelled ∙ sym is_y.spelled;
}

-- a text of rules is of one list of rules
pub one_rules_text : OneToOne IsRulesText
one_rules_text = record {
  one_value = λ bytes x y is_x is_y. (one_rules x y (codes "end") [] [] is_x.rules_fit.each is_y.rules_fit.each (ended (map rule_words x) (map rule_words y)
      (one_lines (map rule_words x) (map rule_words y) (map rule_line x) (map rule_line y) (rules_are_lines x is_x.rules_fit.each) (rules_are_lines y is_y.rules_fit.each)
      (rules_spelled x) (rules_spelled y) (sym is_x.spelled ∙ is_y.spelled)))).0;
  one_text = λ bytes more x is_x is_y. is_x.spelled ∙ sym is_y.spelled;
}

-- a plan's text is of one plan
pub one_plan_text : OneToOne IsPlanText
one_plan_text = record {
  one_value = λ bytes x y is_x is_y. one_plan x y is_x.plan_fits is_y.plan_fits
      (one_lines (plan_words x) (plan_words y) (plan_lines x) (plan_lines y) (plan_are_lines x is_x.plan_fits) (plan_are_lines y is_y.plan_fits)
      (plan_spelled x) (plan_spelled y) (sym is_x.spelled ∙ is_y.spelled));
  one_text = λ bytes more x is_x is_y. is_x.spelled ∙ sym is_y.spelled;
}

-- a bundle's text is of one bundle
pub one_bundle_text : OneToOne IsBundleText
one_bundle_text = record {
  one_value = one_bundle;
  one_text = λ bytes more x is_x is_y. is_x.spelled ∙ sym is_y.spelled;
}

-- ---- archives, whose last line counts rows without a limit, so it is told by its first byte alone

-- the lines before the last, in words
abbrev pub front_words : Listing Stamp → List Words
front_words rows = (codes "twosync-archive" ∷ codes "1" ∷ []) ∷ print_words rows

-- each is a line
pub front_are_lines : (rows : Listing Stamp) → PrintFits rows → AreLines (front_words rows)
front_are_lines rows fits = ((clean_from_test (codes "twosync-archive") refl, clean_from_test (codes "1") refl), print_are_lines rows fits)

-- the words spell the lines
pub front_spelled : (rows : Listing Stamp) → codes "twosync-archive 1" ∷ print_lines rows ≡ map words (front_words rows)
front_spelled rows = ap (λ z. codes "twosync-archive 1" ∷ z) (print_spelled rows)

-- those lines are of one print
one_front_words : (x y : Listing Stamp) → PrintFits x → PrintFits y → front_words x ≡ front_words y → x ≡ y
one_front_words x y fits_x fits_y e = (one_print x y (codes "end") [] [] fits_x fits_y (ended (print_words x) (print_words y)
    (cons_parts (codes "twosync-archive" ∷ codes "1" ∷ []) (codes "twosync-archive" ∷ codes "1" ∷ []) (print_words x) (print_words y) e).1)).0

-- and so is their text
pub one_front : (x y : Listing Stamp) → PrintFits x → PrintFits y → archive_front x ≡ archive_front y → x ≡ y
one_front x y fits_x fits_y e = one_front_words x y fits_x fits_y
    (one_lines (front_words x) (front_words y) (codes "twosync-archive 1" ∷ print_lines x) (codes "twosync-archive 1" ∷ print_lines y) (front_are_lines x fits_x) (front_are_lines y fits_y) (front_spelled x) (front_spelled y) e)

-- an archive's text is of one print
pub one_archive_text : OneToOne IsArchiveText
one_archive_text = record {
  one_value = λ bytes x y is_x is_y.
      let fits_x = print_fits x is_x.print in
      let fits_y = print_fits y is_y.print in
      one_front_words x y fits_x fits_y
      (one_spelling_before 101 (front_words x) (front_words y) _ _ (front_are_lines x fits_x) (front_are_lines y fits_y) (front_other x) (front_other y)
      (sym (spelled x) ∙ sym is_x.spelled ∙ is_y.spelled ∙ spelled y));
  one_text = λ bytes more x is_x is_y. is_x.spelled ∙ sym is_y.spelled;
}
  where
    front_other : (rows : Listing Stamp) → AllByRecursion (StartsOther 101) (front_words rows)
    front_other rows = (λ u v e. absurd (let k : ◌≡◌ {A = ℕ} 116 101 = cc in omega arith), print_start_other 101 (λ k. omega (arith, k)) (λ k. omega (arith, k)) rows)

    -- the last line
    last : Listing Stamp → List ℕ
    last rows = text (words (codes "end" ∷ decimal (length (print_lines rows)) ∷ encode_lower (sha256 (archive_front rows)) ∷ []) ∷ [])

    spelled : (rows : Listing Stamp) → archive_text rows ≡ spell (front_words rows) ++ 101 ∷ drop 1 (last rows)
    spelled rows = ap (λ z. z ++ last rows) (spells (codes "twosync-archive 1" ∷ print_lines rows) (front_words rows) (front_spelled rows))
