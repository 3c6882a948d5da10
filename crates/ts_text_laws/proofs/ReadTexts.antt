-- Whether bytes are the text of a value of each kind: it is decided, so `trial` answers something for any bytes.
use Rattle.std.proofs.Common.{◌≡◌, ℕ, List, [], ◌∷◌, ◌++◌, map, codes, refl, sym, ap, ◌∙◌, subst, inl, inr, append-nil, length-append, decimal, arith, take, suc, ◌<◌, length}
use Rattle.std.proofs.Math.Decide.{map_dec}
use Rattle.ts_model.specs.Trees.{Listing}
use Rattle.ts_model.specs.declared.hold.Rule.{Rule}
use Rattle.ts_model.specs.declared.row.Stamp.{Stamp}
use Rattle.hex.specs.Hex.{encode_lower}
use Rattle.sha2.specs.Sha256.{sha256}
use Rattle.std.proofs.Math.Seq.{take-append_seam}
use Rattle.ts_model.specs.Texts.{text, words, archive_front, archive_text, tree_lines, print_lines, rule_line, plan_lines, bundle_lines, IsTreeBody, IsPrintBody, IsRules, IsPlan, IsTreeText, IsPrintText, IsArchiveText, IsRulesText, IsPlanText, Bundle, IsBundle, IsBundleText}
use Rattle.ts_model.specs.Trial.{HasContentsApart}
use Rattle.ts_model.specs.declared.plan.Plan.{Plan}
use Rattle.ts_text_laws.specs.Laws.{AreDecided, IsAnswered}
use Rattle.ts_laws.proofs.Basics.{Dec-both}
use Rattle.ts_name.proofs.Spelling.{cons_parts}
use Rattle.ts_text_laws.proofs.Words.{AreLines, Words, one_spelling, spell, text_spells}
use Rattle.ts_text_laws.proofs.TreeTexts.{tree_words, tree_spelled, tree_are_lines, print_words, print_spelled, print_are_lines}
use Rattle.ts_text_laws.proofs.RuleTexts.{rule_words, rules_spelled, rules_are_lines}
use Rattle.ts_text_laws.proofs.PlanTexts.{plan_words, plan_spelled, plan_are_lines}
use Rattle.ts_text_laws.proofs.Bundles.{tree_fits, print_fits, bundle_words, bundle_spelled, bundle_are_lines}
use Rattle.ts_text_laws.proofs.ReadWords.{decide_word, decide_lines}
use Rattle.ts_text_laws.proofs.ReadTrees.{decide_rows, decide_marks, decide_tree_body, decide_print_body}
use Rattle.ts_text_laws.proofs.ReadRules.{decide_rule_lines, decide_rules}
use Rattle.ts_text_laws.proofs.ReadPlans.{decide_plan_lines}
use Rattle.ts_text_laws.proofs.Texts.{front_words, front_spelled, front_are_lines, one_front}
use Rattle.ts_laws.proofs.Search.{decide_number, decide_empty}
use Rattle.ts_text_laws.proofs.Trials.{some_trial_of}
use Rattle.ts_model.proofs.Deciding.{same_list}

-- ---- parts of a bundle

-- a heading, and then lines with a fact
abbrev IsHeaded : Words → (List Words → Type 0) → List Words → Type 0
IsHeaded heading P lines = (more : List Words) × (lines ≡ heading ∷ more) × P more

-- whether lines are that
decide_headed : (heading : Words) (P : List Words → Type 0) → ((lines : List Words) → Dec (P lines)) → (lines : List Words) → Dec (IsHeaded heading P lines)
decide_headed heading P d [] = no (λ h. let e = h.1 in cc)
decide_headed heading P d (line ∷ more) = map_dec
    (λ h. (more, ap (λ z. z ∷ more) h.0, h.1))
    (λ h. let parts = cons_parts line heading more h.0 h.1 in (parts.0, subst P (sym parts.1) h.2))
    (Dec-both (same_list decide_word line heading) (d more))

-- a body, and then lines with a fact
abbrev IsBody : {A : Type 0} → (A → Type 0) → (A → List Words) → (List Words → Type 0) → List Words → Type 0
IsBody {A} Is lines_of P lines = (x : A) × (rest : List Words) × Is x × (lines ≡ lines_of x ++ rest) × P rest

-- whether lines are a tree's body, and then others with a decided fact
decide_tree : (P : List Words → Type 0) → ((lines : List Words) → Dec (P lines)) → (lines : List Words) → Dec (IsBody IsTreeBody tree_words P lines)
decide_tree P d lines = map_dec
    (λ h. (h.0, h.1, h.4.0, h.3, h.4.1))
    (λ h. (h.0, h.1, tree_fits h.0 h.2, h.3, (h.2, h.4)))
    (decide_rows (λ rows rest. IsTreeBody rows × P rest) (λ rows rest. Dec-both (decide_tree_body rows) (d rest)) lines)

-- whether lines are a print's body, and then others with one
decide_print : (P : List Words → Type 0) → ((lines : List Words) → Dec (P lines)) → (lines : List Words) → Dec (IsBody IsPrintBody print_words P lines)
decide_print P d lines = map_dec
    (λ h. (h.0, h.1, h.4.0, h.3, h.4.1))
    (λ h. (h.0, h.1, print_fits h.0 h.2, h.3, (h.2, h.4)))
    (decide_marks (λ rows rest. IsPrintBody rows × P rest) (λ rows rest. Dec-both (decide_print_body rows) (d rest)) lines)

-- whether lines are hold rules, and then others with one
decide_holds : (P : List Words → Type 0) → ((lines : List Words) → Dec (P lines)) → (lines : List Words) → Dec (IsBody IsRules (map rule_words) P lines)
decide_holds P d lines = map_dec
    (λ h. (h.0, h.1, h.4.0, h.3, h.4.1))
    (λ h. (h.0, h.1, h.2.each, h.3, (h.2, h.4)))
    (decide_rule_lines (λ rules rest. IsRules rules × P rest) (λ rules rest. Dec-both (decide_rules rules) (d rest)) lines)

-- ---- bundles

-- the lines after the heading of the plan
abbrev PlanPart : List Words → Type 0
PlanPart lines = (plan : Plan) × IsPlan plan × (lines ≡ plan_words plan)

-- those after the heading of the hold rules
abbrev HoldsPart : List Words → Type 0
HoldsPart lines = IsBody IsRules (map rule_words) (IsHeaded (codes "plan" ∷ []) PlanPart) lines

-- those after the heading of the second replica
abbrev SecondPart : List Words → Type 0
SecondPart lines = IsBody IsTreeBody tree_words (IsHeaded (codes "holds" ∷ []) HoldsPart) lines

-- those after the heading of the first replica
abbrev FirstPart : List Words → Type 0
FirstPart lines = IsBody IsTreeBody tree_words (IsHeaded (codes "second" ∷ []) SecondPart) lines

-- those after the heading of the archive
abbrev ArchivePart : List Words → Type 0
ArchivePart lines = IsBody IsPrintBody print_words (IsHeaded (codes "first" ∷ []) FirstPart) lines

-- all lines of a bundle
abbrev BundleLines : List Words → Type 0
BundleLines lines = IsHeaded (codes "twosync-bundle" ∷ codes "1" ∷ []) (IsHeaded (codes "archive" ∷ []) ArchivePart) lines

-- whether lines are those
decide_parts : (lines : List Words) → Dec (BundleLines lines)
decide_parts = decide_headed _ (IsHeaded (codes "archive" ∷ []) ArchivePart) (decide_headed _ ArchivePart
    (decide_print (IsHeaded (codes "first" ∷ []) FirstPart) (decide_headed _ FirstPart
    (decide_tree (IsHeaded (codes "second" ∷ []) SecondPart) (decide_headed _ SecondPart
    (decide_tree (IsHeaded (codes "holds" ∷ []) HoldsPart) (decide_headed _ HoldsPart
    (decide_holds (IsHeaded (codes "plan" ∷ []) PlanPart) (decide_headed _ PlanPart decide_plan_lines)))))))))

-- a bundle's lines are these parts
parts_of : (b : Bundle) → IsBundle b → (lines : List Words) → lines ≡ bundle_words b → BundleLines lines
parts_of b is lines e = (_, e, (_, refl, (b.archive, _, is.archive, refl, (_, refl, (b.first, _, is.first, refl, (_, refl, (b.second, _, is.second, refl, (_, refl, (b.rules, _, is.rules, refl, (_, refl, (b.plan, is.plan, refl)))))))))))

-- and the other way round
bundle_of : (lines : List Words) → BundleLines lines → (b : Bundle) × IsBundle b × (lines ≡ bundle_words b)
bundle_of lines (l0, e0, (l1, e1, (archive, l2, is_archive, e2, (l3, e3, (first, l4, is_first, e4, (l5, e5, (second, l6, is_second, e6, (l7, e7, (rules, l8, is_rules, e8, (l9, e9, (plan, is_plan, e10))))))))))) = (
  record { archive = archive; first = first; second = second; rules = rules; plan = plan },
  record { archive = is_archive; first = is_first; second = is_second; rules = is_rules; plan = is_plan },
  e0 ∙ ap (λ z. (codes "twosync-bundle" ∷ codes "1" ∷ []) ∷ z) (e1 ∙ ap (λ z. (codes "archive" ∷ []) ∷ z)
      (e2 ∙ ap (λ z. print_words archive ++ z) (e3 ∙ ap (λ z. (codes "first" ∷ []) ∷ z)
      (e4 ∙ ap (λ z. tree_words first ++ z) (e5 ∙ ap (λ z. (codes "second" ∷ []) ∷ z)
      (e6 ∙ ap (λ z. tree_words second ++ z) (e7 ∙ ap (λ z. (codes "holds" ∷ []) ∷ z)
      (e8 ∙ ap (λ z. map rule_words rules ++ z) (e9 ∙ ap (λ z. (codes "plan" ∷ []) ∷ z) e10))))))))),
)

-- whether lines are a bundle's
decide_bundle_lines : (lines : List Words) → Dec ((b : Bundle) × IsBundle b × (lines ≡ bundle_words b))
decide_bundle_lines lines = map_dec (bundle_of lines) (λ h. parts_of h.0 h.1 lines h.2) (decide_parts lines)

-- ---- whether bytes are the text of a value

-- how values are spelled in lines of words: whether lines are of one is decided
record IsReadable {V : Type 0} (Is : V → Type 0) (lines_of : V → List (List ℕ)) (words_of : V → List Words) : Type 0 where
  spelled : (v : V) → lines_of v ≡ map words (words_of v)
  are : (v : V) → Is v → AreLines (words_of v)
  decide : (lines : List Words) → Dec ((v : V) × Is v × (lines ≡ words_of v))

-- so whether bytes are the text of one is decided
decide_text : {V : Type 0} (Is : V → Type 0) (lines_of : V → List (List ℕ)) (words_of : V → List Words) → IsReadable Is lines_of words_of → (bytes : List ℕ)
    → Dec ((v : V) × Is v × (bytes ≡ text (lines_of v)))
decide_text {V} Is lines_of words_of readable bytes = elim (decide_lines bytes) [
  | no n ↦ no (λ h. n (words_of h.0, (readable.are h.0 h.1, h.2 ∙ spells h.0)))
  | yes found ↦ elim (readable.decide found.0) [
    | no n ↦ no (λ h. n (h.0, h.1, one_spelling found.0 (words_of h.0) found.1.0 (readable.are h.0 h.1) (sym found.1.1 ∙ h.2 ∙ spells h.0)))
    | yes h ↦ yes (h.0, h.1, found.1.1 ∙ ap spell h.2 ∙ sym (spells h.0))
  ]
]
  where
    spells : (v : V) → text (lines_of v) ≡ spell (words_of v)
    spells v = ap text (readable.spelled v) ∙ text_spells (words_of v)

-- a body alone
decide_alone : {A : Type 0} (Is : A → Type 0) (lines_of : A → List Words) → ((P : List Words → Type 0) → ((lines : List Words) → Dec (P lines)) → (lines : List Words) → Dec (IsBody Is lines_of P lines))
    → (lines : List Words) → Dec ((x : A) × Is x × (lines ≡ lines_of x))
decide_alone Is lines_of d lines = map_dec
    (λ h. (h.0, h.2, h.3 ∙ ap (λ z. lines_of h.0 ++ z) h.4 ∙ append-nil (lines_of h.0)))
    (λ h. (h.0, [], h.1, h.2 ∙ sym (append-nil (lines_of h.0)), refl))
    (d (λ rest. rest ≡ []) decide_empty lines)

-- whether bytes are a tree's text
decide_tree_text : (bytes : List ℕ) → Dec ((rows : Listing (List ℕ)) × IsTreeText bytes rows)
decide_tree_text bytes = map_dec
    (λ h. (h.0, record { tree = h.1; spelled = h.2 }))
    (λ h. (h.0, h.1.tree, h.1.spelled))
    (decide_text IsTreeBody tree_lines tree_words
    (record { spelled = tree_spelled; are = λ rows is. tree_are_lines rows (tree_fits rows is); decide = decide_alone IsTreeBody tree_words decide_tree }) bytes)

-- whether they are a print's
decide_print_text : (bytes : List ℕ) → Dec ((rows : Listing Stamp) × IsPrintText bytes rows)
decide_print_text bytes = map_dec
    (λ h. (h.0, record { print = h.1; spelled = h.2 }))
    (λ h. (h.0, h.1.print, h.1.spelled))
    (decide_text IsPrintBody print_lines print_words
    (record { spelled = print_spelled; are = λ rows is. print_are_lines rows (print_fits rows is); decide = decide_alone IsPrintBody print_words decide_print }) bytes)

-- whether they are those of hold rules
decide_rules_text : (bytes : List ℕ) → Dec ((rules : List Rule) × IsRulesText bytes rules)
decide_rules_text bytes = map_dec
    (λ h. (h.0, record { rules_fit = h.1; spelled = h.2 }))
    (λ h. (h.0, h.1.rules_fit, h.1.spelled))
    (decide_text IsRules (map rule_line) (map rule_words)
    (record { spelled = rules_spelled; are = λ rules is. rules_are_lines rules is.each; decide = decide_alone IsRules (map rule_words) decide_holds }) bytes)

-- whether they are a plan's
decide_plan_text : (bytes : List ℕ) → Dec ((plan : Plan) × IsPlanText bytes plan)
decide_plan_text bytes = map_dec
    (λ h. (h.0, record { plan_fits = h.1; spelled = h.2 }))
    (λ h. (h.0, h.1.plan_fits, h.1.spelled))
    (decide_text IsPlan plan_lines plan_words (record { spelled = plan_spelled; are = plan_are_lines; decide = decide_plan_lines }) bytes)

-- whether they are a bundle's
pub decide_bundle : (bytes : List ℕ) → Dec ((b : Bundle) × IsBundleText bytes b)
decide_bundle bytes = map_dec
    (λ h. (h.0, record { bundle = h.1; spelled = h.2 }))
    (λ h. (h.0, h.1.bundle, h.1.spelled))
    (decide_text IsBundle bundle_lines bundle_words (record { spelled = bundle_spelled; are = bundle_are_lines; decide = decide_bundle_lines }) bytes)

-- ---- archives

-- whether bytes are the front of an archive
decide_front : (bytes : List ℕ) → Dec ((rows : Listing Stamp) × IsPrintBody rows × (bytes ≡ archive_front rows))
decide_front bytes = decide_text IsPrintBody (λ rows. codes "twosync-archive 1" ∷ print_lines rows) front_words
    (record { spelled = front_spelled; are = λ rows is. front_are_lines rows (print_fits rows is); decide = decide_front_lines }) bytes
  where
    decide_front_lines : (lines : List Words) → Dec ((rows : Listing Stamp) × IsPrintBody rows × (lines ≡ front_words rows))
    decide_front_lines lines = map_dec
        (λ h. (h.2.0, h.2.1, h.1 ∙ ap (λ z. (codes "twosync-archive" ∷ codes "1" ∷ []) ∷ z) h.2.2))
        (λ h. (print_words h.0, h.2, (h.0, h.1, refl)))
        (decide_headed (codes "twosync-archive" ∷ codes "1" ∷ []) (λ more. (rows : Listing Stamp) × IsPrintBody rows × (more ≡ print_words rows)) (decide_alone IsPrintBody print_words decide_print) lines)

-- whether bytes are an archive's text: the place where its front ends is looked for
decide_archive_text : (bytes : List ℕ) → Dec ((rows : Listing Stamp) × IsArchiveText bytes rows)
decide_archive_text bytes = map_dec
    (λ h. let found = h.2 in (found.0, record { print = found.1; spelled = found.3 }))
    (λ h. (length (archive_front h.0), within h.0 h.1, (h.0, h.1.print, front_of h.0 h.1, h.1.spelled)))
    (decide_number IsCut decide_cut (suc (length bytes)))
  where
    -- the first n bytes are the front of the archive whose text this is
    IsCut : ℕ → Type 0
    IsCut n = (rows : Listing Stamp) × IsPrintBody rows × (take n bytes ≡ archive_front rows) × (bytes ≡ archive_text rows)

    decide_cut : (n : ℕ) → Dec (IsCut n)
    decide_cut n = elim (decide_front (take n bytes)) [
      | no m ↦ no (λ h. m (h.0, h.1, h.2))
      | yes found ↦ elim (decide_word bytes (archive_text found.0)) [
        | yes e ↦ yes (found.0, found.1, found.2, e)
        | no m ↦ no (λ h. m (h.3 ∙ ap archive_text (one_front h.0 found.0 (print_fits h.0 h.1) (print_fits found.0 found.1) (sym h.2 ∙ found.2))))
      ]
    ]

    -- what follows the front
    last : Listing Stamp → List ℕ
    last rows = text (words (codes "end" ∷ decimal (length (print_lines rows)) ∷ encode_lower (sha256 (archive_front rows)) ∷ []) ∷ [])

    front_of : (rows : Listing Stamp) → IsArchiveText bytes rows → take (length (archive_front rows)) bytes ≡ archive_front rows
    front_of rows is = ap (take (length (archive_front rows))) is.spelled ∙ take-append_seam (archive_front rows) (last rows)

    within : (rows : Listing Stamp) → IsArchiveText bytes rows → length (archive_front rows) < suc (length bytes)
    within rows is = let long = ap length is.spelled ∙ length-append (archive_front rows) (last rows) in omega (arith, long)

-- whether bytes are the text of each kind of value is decided
pub decide_texts : (bytes : List ℕ) → AreDecided bytes
decide_texts bytes = record {
  tree = decide_tree_text bytes;
  print = decide_print_text bytes;
  archive = decide_archive_text bytes;
  rules = decide_rules_text bytes;
  plan = decide_plan_text bytes;
  bundle = decide_bundle bytes;
}

-- ---- trials

-- whatever the bytes, there is an answer
pub some_trial : (bytes : List ℕ) → HasContentsApart bytes → IsAnswered bytes
some_trial bytes contents = elim (decide_bundle bytes) [
  | yes found ↦ some_trial_of bytes contents (inl found)
  | no none ↦ some_trial_of bytes contents (inr (λ b is. none (b, is)))
]
