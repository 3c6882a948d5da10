-- A bundle has one text, so `trial` answers one thing.
use Rattle.std.proofs.Common.{◌≡◌, ◌≢◌, ℕ, List, [], ◌∷◌, ◌++◌, map, codes, refl, sym, ap, ap₂, ◌∙◌, subst, inl, inr}
use Rattle.std.specs.List.{AllByRecursion}
use Rattle.std.proofs.lemmas.List.{map-append}
use Rattle.ts_name.specs.Paths.{IsPath}
use Rattle.ts_model.specs.Trees.{Listing}
use Rattle.ts_model.specs.Texts.{text, words, tree_lines, print_lines, FileFits, StampFits, IsTreeBody, IsPrintBody, rule_line, plan_lines, Bundle, bundle_lines, IsBundle, IsBundleText}
use Rattle.ts_model.specs.declared.row.Content.TheVariants.{Absent}
use Rattle.ts_model.specs.declared.row.Stamp.{Stamp}
use Rattle.ts_model.specs.Trial.{Trial}
use Rattle.ts_laws.proofs.Results.{Answers, one_answer}
use Rattle.ts_name.proofs.Spelling.{clean_from_test, cons_parts}
use Rattle.ts_name.proofs.Utf8.{all_append}
use Rattle.ts_text_laws.proofs.Words.{AreLines, IsLine, Words, one_spelling, text_spells}
use Rattle.ts_text_laws.proofs.TreeTexts.{PrintFits, TreeFits, one_print, one_tree, print_are_lines, print_spelled, print_words, tree_are_lines, tree_spelled, tree_words}
use Rattle.ts_text_laws.proofs.RuleTexts.{one_rules, rule_words, rules_are_lines, rules_spelled}
use Rattle.ts_text_laws.proofs.PlanTexts.{one_plan, plan_are_lines, plan_spelled, plan_words}
use Rattle.ts_name.proofs.Basics.{five_parts}

-- ---- bundles

-- the lines from each heading on
abbrev pub plan_part : Bundle → List Words
plan_part b = (codes "plan" ∷ []) ∷ plan_words b.plan

-- from the hold rules on
abbrev pub holds_part : Bundle → List Words
holds_part b = (codes "holds" ∷ []) ∷ (map rule_words b.rules ++ plan_part b)

-- from the second replica on
abbrev pub second_part : Bundle → List Words
second_part b = (codes "second" ∷ []) ∷ (tree_words b.second ++ holds_part b)

-- from the first replica on
abbrev pub first_part : Bundle → List Words
first_part b = (codes "first" ∷ []) ∷ (tree_words b.first ++ second_part b)

-- all of a bundle's lines, in words
abbrev pub bundle_words : Bundle → List Words
bundle_words b = (codes "twosync-bundle" ∷ codes "1" ∷ []) ∷ ((codes "archive" ∷ []) ∷ (print_words b.archive ++ first_part b))

-- a part of lines before others
pub joined : (lines : List (List ℕ)) (part : List Words) (rest : List (List ℕ)) (more : List Words) → lines ≡ map words part → rest ≡ map words more → lines ++ rest ≡ map words (part ++ more)
joined lines part rest more e f = ap₂ ◌++◌ e f ∙ sym (map-append words part more)

-- the words spell the lines
pub bundle_spelled : (b : Bundle) → bundle_lines b ≡ map words (bundle_words b)
bundle_spelled b = ap (λ z. codes "twosync-bundle 1" ∷ codes "archive" ∷ z) (
    five_parts (print_lines b.archive) (codes "first" ∷ tree_lines b.first) (codes "second" ∷ tree_lines b.second) (codes "holds" ∷ map rule_line b.rules) (codes "plan" ∷ plan_lines b.plan)
    ∙ joined (print_lines b.archive) (print_words b.archive) _ (first_part b) (print_spelled b.archive)
    (ap (λ z. codes "first" ∷ z) (joined (tree_lines b.first) (tree_words b.first) _ (second_part b) (tree_spelled b.first)
    (ap (λ z. codes "second" ∷ z) (joined (tree_lines b.second) (tree_words b.second) _ (holds_part b) (tree_spelled b.second)
    (ap (λ z. codes "holds" ∷ z) (joined (map rule_line b.rules) (map rule_words b.rules) _ (plan_part b) (rules_spelled b.rules)
    (ap (λ z. codes "plan" ∷ z) (plan_spelled b.plan)))))))))

-- a body's rows are lawful rows of a tree
pub tree_fits : (rows : Listing (List ℕ)) → IsTreeBody rows → TreeFits rows
tree_fits rows is = go rows is.listing.rows_are is.files
  where
    go : (rows : Listing (List ℕ)) → AllByRecursion (λ row. IsPath row.path × (row.path ≢ []) × (row.content ≢ Absent)) rows → AllByRecursion (λ row. FileFits row.content) rows → TreeFits rows
    go [] are files = tt
    go (row ∷ rows) are files = ((are.0.0, are.0.2, files.0), go rows are.1 files.1)

-- a body's rows are lawful rows of a print
pub print_fits : (rows : Listing Stamp) → IsPrintBody rows → PrintFits rows
print_fits rows is = go rows is.listing.rows_are is.stamps
  where
    go : (rows : Listing Stamp) → AllByRecursion (λ row. IsPath row.path × (row.path ≢ []) × (row.content ≢ Absent)) rows → AllByRecursion (λ row. StampFits row.content) rows → PrintFits rows
    go [] are files = tt
    go (row ∷ rows) are files = ((are.0.0, are.0.2, files.0), go rows are.1 files.1)

-- each line is one
pub bundle_are_lines : (b : Bundle) → IsBundle b → AreLines (bundle_words b)
bundle_are_lines b is = (
  (clean_from_test (codes "twosync-bundle") refl, clean_from_test (codes "1") refl),
  (
    clean_from_test (codes "archive") refl,
    all_append IsLine (print_words b.archive) (first_part b) (print_are_lines b.archive (print_fits b.archive is.archive)) (
      clean_from_test (codes "first") refl,
      all_append IsLine (tree_words b.first) (second_part b) (tree_are_lines b.first (tree_fits b.first is.first)) (
        clean_from_test (codes "second") refl,
        all_append IsLine (tree_words b.second) (holds_part b) (tree_are_lines b.second (tree_fits b.second is.second)) (
          clean_from_test (codes "holds") refl,
          all_append IsLine (map rule_words b.rules) (plan_part b) (rules_are_lines b.rules is.rules.each)
              (clean_from_test (codes "plan") refl, plan_are_lines b.plan is.plan),
        ),
      ),
    ),
  ),
)

-- the lines are of one bundle
one_bundle_words : (b c : Bundle) → IsBundle b → IsBundle c → bundle_words b ≡ bundle_words c → b ≡ c
one_bundle_words b c is_b is_c e =
    let headings = cons_parts (codes "twosync-bundle" ∷ codes "1" ∷ []) (codes "twosync-bundle" ∷ codes "1" ∷ [])
    ((codes "archive" ∷ []) ∷ (print_words b.archive ++ first_part b)) ((codes "archive" ∷ []) ∷ (print_words c.archive ++ first_part c)) e in
    let archives = cons_parts (codes "archive" ∷ []) (codes "archive" ∷ []) (print_words b.archive ++ first_part b) (print_words c.archive ++ first_part c) headings.1 in
    let archive = one_print b.archive c.archive (codes "first") (tree_words b.first ++ second_part b) (tree_words c.first ++ second_part c) (print_fits b.archive is_b.archive) (print_fits c.archive is_c.archive) archives.1 in
    let first = one_tree b.first c.first (codes "second") (tree_words b.second ++ holds_part b) (tree_words c.second ++ holds_part c) (tree_fits b.first is_b.first) (tree_fits c.first is_c.first) archive.1 in
    let second = one_tree b.second c.second (codes "holds") (map rule_words b.rules ++ plan_part b) (map rule_words c.rules ++ plan_part c) (tree_fits b.second is_b.second) (tree_fits c.second is_c.second) first.1 in
    let rules = one_rules b.rules c.rules (codes "plan") (plan_words b.plan) (plan_words c.plan) is_b.rules.each is_c.rules.each second.1 in
    let plan = one_plan b.plan c.plan is_b.plan is_c.plan rules.1 in
    λ i. record { archive = archive.0 i; first = first.0 i; second = second.0 i; rules = rules.0 i; plan = plan i }

-- a text is of one bundle
pub one_bundle : (bytes : List ℕ) (b c : Bundle) → IsBundleText bytes b → IsBundleText bytes c → b ≡ c
one_bundle bytes b c text_b text_c =
    one_bundle_words b c text_b.bundle text_c.bundle (one_spelling (bundle_words b) (bundle_words c) (bundle_are_lines b text_b.bundle) (bundle_are_lines c text_c.bundle)
    (sym (text_spells (bundle_words b)) ∙ ap text (sym (bundle_spelled b)) ∙ sym text_b.spelled ∙ text_c.spelled ∙ ap text (bundle_spelled c) ∙ text_spells (bundle_words c)))

-- so `trial` answers one thing
pub one_trial : (bytes v w : List ℕ) (m n : ℕ) → Trial bytes v m → Trial bytes w n → (v ≡ w) × (m ≡ n)
one_trial bytes v w m n (inl h) (inl g) = (h.1.0 ∙ sym g.1.0, h.1.1 ∙ sym g.1.1)
one_trial bytes v w m n (inl h) (inr g) = absurd (h.0 g.0 g.1)
one_trial bytes v w m n (inr h) (inl g) = absurd (g.0 h.0 h.1)
one_trial bytes v w m n (inr h) (inr g) =
    one_answer g.0 g.1.bundle v w m n (subst (λ b. Answers b v m) (one_bundle bytes h.0 g.0 h.1 g.1) h.2) g.2
