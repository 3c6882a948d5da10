-- Each line of a bundle is one that a text can have.
use Rattle.std.proofs.Common.{◌≢◌, ℕ, ◌*◌, ◌≤◌, List, [], ◌∷◌, ◌++◌, length, map, flat_map, codes, refl, sym, subst, arith, length-append}
use Rattle.std.specs.List.{AllByRecursion}
use Rattle.ts_text.specs.Lines.{IsLine}
use Rattle.ts_name.proofs.Spelling.{clean_from_test, no_feed}
use Rattle.ts_name.proofs.Texts.{path_text_short}
use Rattle.ts_name.proofs.Utf8.{all_append}
use Rattle.ts_model.specs.Texts.{Bundle, bundle_lines, IsBundle, tree_lines, print_lines, rule_line, plan_lines, symbol_text, RuleFits}
use Rattle.ts_model.proofs.Spelling.{SymbolSpelled, a_star, byte_as_it_is, byte_in_digits, spelled_symbol}
use Rattle.ts_model.specs.declared.hold.Symbol.{Symbol}
use Rattle.ts_model.specs.declared.hold.Rule.{Rule}
use Rattle.ts_model.specs.declared.hold.Rule.TheVariants.{OnePath, LastName}
use Rattle.ts_tree.proofs.Lines.{AreTextLines}
use Rattle.ts_tree.proofs.TreeTexts as tree
use Rattle.ts_print.proofs.PrintTexts as print
use Rattle.ts_hold.proofs.RuleLines.{rule_no_feed}
use Rattle.ts_plan.proofs.Grammar.{large}
use Rattle.ts_plan.proofs.Texts.{plan_are_lines}

-- ---- titles

header_line : IsLine (codes "twosync-bundle 1")
header_line = record {
  short = omega arith;
  one = all_append (λ b. b ≢ 10) (codes "twosync-bundle") (32 ∷ codes "1") (no_feed (codes "twosync-bundle") (clean_from_test (codes "twosync-bundle") refl))
      (λ e. omega arith, no_feed (codes "1") (clean_from_test (codes "1") refl));
}

archive_line : IsLine (codes "archive")
archive_line = record { short = omega arith; one = no_feed (codes "archive") (clean_from_test (codes "archive") refl) }

first_line : IsLine (codes "first")
first_line = record { short = omega arith; one = no_feed (codes "first") (clean_from_test (codes "first") refl) }

second_line : IsLine (codes "second")
second_line = record { short = omega arith; one = no_feed (codes "second") (clean_from_test (codes "second") refl) }

holds_line : IsLine (codes "holds")
holds_line = record { short = omega arith; one = no_feed (codes "holds") (clean_from_test (codes "holds") refl) }

plan_line : IsLine (codes "plan")
plan_line = record { short = omega arith; one = no_feed (codes "plan") (clean_from_test (codes "plan") refl) }

-- ---- rules

length_symbol : (x : Symbol) → length (symbol_text x) ≤ 3
length_symbol x = go (symbol_text x) (spelled_symbol x)
  where
    go : (l : List ℕ) → SymbolSpelled x l → length l ≤ 3
    go l (a_star is_x is) = subst (λ z. length z ≤ 3) (sym is) (omega arith)
    go l (byte_in_digits b is_x how is) = subst (λ z. length z ≤ 3) (sym is) (omega arith)
    go l (byte_as_it_is b is_x differ plain is) = subst (λ z. length z ≤ 3) (sym is) (omega arith)

length_symbols : (xs : List Symbol) → length (flat_map symbol_text xs) ≤ 3 * length xs
length_symbols [] = omega arith
length_symbols (x ∷ xs) = omega (arith, length_symbol x, length_symbols xs, length-append (symbol_text x) (flat_map symbol_text xs))

rule_is_line : (rule : Rule) → RuleFits rule → IsLine (rule_line rule)
rule_is_line (OnePath path) fits = record { short = omega (arith, path_text_short path fits.0); one = rule_no_feed (OnePath path) }
rule_is_line (LastName pattern) fits = record { short = omega (arith, length_symbols pattern, fits.1); one = rule_no_feed (LastName pattern) }

rules_are_lines : (rules : List Rule) → AllByRecursion RuleFits rules → AreTextLines (map rule_line rules)
rules_are_lines [] fit = tt
rules_are_lines (rule ∷ rules) fit = (rule_is_line rule fit.0, rules_are_lines rules fit.1)

-- ---- bundles

pub bundle_are_lines : (b : Bundle) → IsBundle b → AreTextLines (bundle_lines b)
bundle_are_lines b is =
    let archive : AreTextLines (codes "twosync-bundle 1" ∷ codes "archive" ∷ print_lines b.archive) = (header_line, (archive_line, print.print_text_lines b.archive (print.rows_fit b.archive is.archive))) in
    let first : AreTextLines (codes "first" ∷ tree_lines b.first) = (first_line, tree.tree_text_lines b.first (tree.rows_fit b.first is.first)) in
    let second : AreTextLines (codes "second" ∷ tree_lines b.second) = (second_line, tree.tree_text_lines b.second (tree.rows_fit b.second is.second)) in
    let rules : AreTextLines (codes "holds" ∷ map rule_line b.rules) = (holds_line, rules_are_lines b.rules is.rules.each) in
    let plan : AreTextLines (codes "plan" ∷ plan_lines b.plan) = (plan_line, plan_are_lines b.plan (large b.plan is.plan)) in
    let to_first = all_append IsLine (codes "twosync-bundle 1" ∷ codes "archive" ∷ print_lines b.archive) (codes "first" ∷ tree_lines b.first) archive first in
    let to_second = all_append IsLine ((codes "twosync-bundle 1" ∷ codes "archive" ∷ print_lines b.archive) ++ codes "first" ∷ tree_lines b.first) (codes "second" ∷ tree_lines b.second) to_first second in
    let to_rules = all_append IsLine (((codes "twosync-bundle 1" ∷ codes "archive" ∷ print_lines b.archive) ++ codes "first" ∷ tree_lines b.first) ++ codes "second" ∷ tree_lines b.second) (codes "holds" ∷ map rule_line b.rules) to_second rules in
    all_append IsLine ((((codes "twosync-bundle 1" ∷ codes "archive" ∷ print_lines b.archive) ++ codes "first" ∷ tree_lines b.first) ++ codes "second" ∷ tree_lines b.second) ++ codes "holds" ∷ map rule_line b.rules) (codes "plan" ∷ plan_lines b.plan) to_rules plan
