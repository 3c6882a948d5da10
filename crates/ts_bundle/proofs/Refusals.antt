-- Where no bundle's lines begin so.
use Rattle.std.proofs.Common.{◌≡◌, ◌≢◌, ℕ, ◌<◌, ◌≤◌, List, [], ◌∷◌, ◌++◌, length, map, codes, Err, refl, sym, ap, ◌∙◌, subst, inl, inr, append_assoc, arith}
use Rattle.std.specs.List.{AllByRecursion}
use Rattle.ts_model.specs.Trees.{Listing}
use Rattle.ts_model.specs.Texts.{Line, Bundle, bundle_lines, tree_lines, print_lines, rule_line, plan_lines, RuleFits}
use Rattle.ts_model.specs.declared.row.Stamp.{Stamp}
use Rattle.ts_model.specs.declared.hold.Rule.{Rule}
use Rattle.ts_tree.specs.Faults as tree_faults
use Rattle.ts_tree.specs.Readers.{BeginsNoTree, SpellsNoTree}
use Rattle.ts_tree.specs.declared.fault.TreeFault.{TreeFault}
use Rattle.ts_tree.specs.declared.fault.TreeFault.TheVariants as tree
use Rattle.ts_print.specs.Faults as print_faults
use Rattle.ts_print.specs.Readers.{BeginsNoPrint}
use Rattle.ts_print.specs.declared.fault.PrintFault.{PrintFault}
use Rattle.ts_print.specs.declared.fault.PrintFault.TheVariants as print
use Rattle.ts_hold.specs.Lines.{IsRuleLine}
use Rattle.ts_hold.specs.Rules.{RefusesLine}
use Rattle.ts_hold.specs.declared.faults.HoldFault.{HoldFault}
use Rattle.ts_hold.specs.declared.faults.HoldFault.TheVariants as hold
use Rattle.ts_plan.specs.Progress as progress
use Rattle.ts_plan.specs.Reading.{ReadsNext, Finishes}
use Rattle.ts_plan.specs.declared.fault.PlanFault.{PlanFault}
use Rattle.ts_plan.specs.declared.fault.PlanFault.TheVariants as plan
use Rattle.ts_name.proofs.Spelling.{cons_parts, cut_at, no_cut}
use Rattle.ts_plan.proofs.Grammar.{large}
use Rattle.ts_bundle.specs.Bundles.{BeginsNoBundle, SpellsNoBundle}
use Rattle.ts_bundle.specs.Faults.{Refuses, fault_of_tree, fault_of_print, fault_of_rules, fault_of_plan}
use Rattle.ts_bundle.specs.Parts.{archive_lines, first_lines, second_lines, holds_lines, plan_part_lines, PartFits, Without, fed}
use Rattle.ts_bundle.specs.declared.reader.Part.{Part}
use Rattle.ts_bundle.specs.declared.reader.Part.TheVariants as part
use Rattle.ts_bundle.proofs.Titles.{before_title, first_title, holds_title, print_without, rules_without, second_title, tree_without}
use Rattle.ts_name.proofs.Basics.{five_parts}

-- ---- what a bundle's lines go on with

abbrev pub from_holds : Bundle → List Line
from_holds b = map rule_line b.rules ++ codes "plan" ∷ plan_lines b.plan

abbrev pub from_second : Bundle → List Line
from_second b = tree_lines b.second ++ codes "holds" ∷ from_holds b

abbrev pub from_first : Bundle → List Line
from_first b = tree_lines b.first ++ codes "second" ∷ from_second b

abbrev pub from_archive : Bundle → List Line
from_archive b = print_lines b.archive ++ codes "first" ∷ from_first b

pub parted : (b : Bundle) → bundle_lines b ≡ archive_lines (from_archive b)
parted b = ap archive_lines (five_parts (print_lines b.archive) (codes "first" ∷ tree_lines b.first) (codes "second" ∷ tree_lines b.second) (codes "holds" ∷ map rule_line b.rules) (codes "plan" ∷ plan_lines b.plan))

-- behind the archive's title
in_archive : (b : Bundle) (lines : List Line) → bundle_lines b ≡ archive_lines lines → from_archive b ≡ lines
in_archive b lines e =
    (cons_parts (codes "archive") (codes "archive") (from_archive b) lines
    (cons_parts (codes "twosync-bundle 1") (codes "twosync-bundle 1") (codes "archive" ∷ from_archive b) (codes "archive" ∷ lines) (sym (parted b) ∙ e)).1).1

in_first : (b : Bundle) (a : Listing Stamp) (lines : List Line) → bundle_lines b ≡ first_lines a lines → from_first b ≡ lines
in_first b a lines e =
    (cut_at (codes "first") (print_lines b.archive) (print_lines a) (from_first b) lines (print_without (codes "first") first_title b.archive) (print_without (codes "first") first_title a)
    (in_archive b (print_lines a ++ codes "first" ∷ lines) e)).1

in_second : (b : Bundle) (a : Listing Stamp) (f : Listing (List ℕ)) (lines : List Line) → bundle_lines b ≡ second_lines a f lines → from_second b ≡ lines
in_second b a f lines e =
    (cut_at (codes "second") (tree_lines b.first) (tree_lines f) (from_second b) lines (tree_without (codes "second") second_title b.first) (tree_without (codes "second") second_title f)
    (in_first b a (tree_lines f ++ codes "second" ∷ lines) (e ∙ append_assoc (archive_lines (print_lines a)) (codes "first" ∷ tree_lines f) (codes "second" ∷ lines)))).1

in_holds : (b : Bundle) (a : Listing Stamp) (f s : Listing (List ℕ)) (lines : List Line) → bundle_lines b ≡ holds_lines a f s lines → from_holds b ≡ lines
in_holds b a f s lines e =
    (cut_at (codes "holds") (tree_lines b.second) (tree_lines s) (from_holds b) lines (tree_without (codes "holds") holds_title b.second) (tree_without (codes "holds") holds_title s)
    (in_second b a f (tree_lines s ++ codes "holds" ∷ lines) (e ∙ append_assoc (first_lines a (tree_lines f)) (codes "second" ∷ tree_lines s) (codes "holds" ∷ lines)))).1

in_plan : (b : Bundle) (a : Listing Stamp) (f s : Listing (List ℕ)) (h : List Rule) (lines : List Line) → bundle_lines b ≡ plan_part_lines a f s h lines → plan_lines b.plan ≡ lines
in_plan b a f s h lines e =
    (cut_at (codes "plan") (map rule_line b.rules) (map rule_line h) (plan_lines b.plan) lines (rules_without b.rules) (rules_without h)
    (in_holds b a f s (map rule_line h ++ codes "plan" ∷ lines) (e ∙ append_assoc (second_lines a f (tree_lines s)) (codes "holds" ∷ map rule_line h) (codes "plan" ∷ lines)))).1

-- ---- lines that are refused

-- one more line behind lines, and more
pub pushed : (front : List Line) (t : Line) (lines : List Line) (l : Line) (rest : List Line) → ((front ++ t ∷ lines) ++ l ∷ []) ++ rest ≡ front ++ t ∷ (lines ++ l ∷ rest)
pushed front t lines l rest = append_assoc (front ++ t ∷ lines) (l ∷ []) rest ∙ append_assoc front (t ∷ lines) (l ∷ rest)

pub no_header : (l : Line) → l ≢ codes "twosync-bundle 1" → BeginsNoBundle (l ∷ [])
no_header l other b rest is e = other (sym (cons_parts (codes "twosync-bundle 1") l (codes "archive" ∷ from_archive b) rest (sym (parted b) ∙ e)).0)

pub no_archive : (l : Line) → l ≢ codes "archive" → BeginsNoBundle (codes "twosync-bundle 1" ∷ l ∷ [])
no_archive l other b rest is e =
    other (sym (cons_parts (codes "archive") l (from_archive b) rest
    (cons_parts (codes "twosync-bundle 1") (codes "twosync-bundle 1") (codes "archive" ∷ from_archive b) (l ∷ rest) (sym (parted b) ∙ e)).1).0)

-- the reader of a part refused the line for a reason, and so it is with the bundle
tree_reason : (e : TreeFault) (P Q : Type 0) → (P → Q) → tree_faults.Refuses P e → Refuses Q (fault_of_tree e)
tree_reason tree.OutOfMemory P Q f h = tt
tree_reason tree.TooLong P Q f h = absurd h
tree_reason tree.Failed P Q f h = h
tree_reason tree.NotCanonical P Q f h = f h

print_reason : (e : PrintFault) (P Q : Type 0) → (P → Q) → print_faults.Refuses P e → Refuses Q (fault_of_print e)
print_reason print.OutOfMemory P Q f h = tt
print_reason print.TooLong P Q f h = absurd h
print_reason print.Failed P Q f h = h
print_reason print.NotCanonical P Q f h = f h

tree_ended : (e : TreeFault) (P Q : Type 0) → (P → Q) → (e ≡ tree.NotCanonical) × P → Refuses Q (fault_of_tree e)
tree_ended e P Q f h = subst (λ z. Refuses Q (fault_of_tree z)) (sym h.0) (f h.1)

no_print_line : (r : List Line) (l : Line) → Without (codes "first") r → l ≢ codes "first" → BeginsNoPrint (r ++ l ∷ []) → BeginsNoBundle (archive_lines r ++ l ∷ [])
no_print_line r l without other none b rest is e =
    let found = before_title (codes "first") l (print_lines b.archive) r (from_first b) rest without other (in_archive b (r ++ l ∷ rest) (e ∙ append_assoc (archive_lines r) (l ∷ []) rest)) in
    none b.archive found.0 is.archive (found.1 ∙ sym (append_assoc r (l ∷ []) found.0))

no_first_line : (a : Listing Stamp) (r : List Line) (l : Line) → Without (codes "second") r → l ≢ codes "second" → BeginsNoTree (r ++ l ∷ []) → BeginsNoBundle (first_lines a r ++ l ∷ [])
no_first_line a r l without other none b rest is e =
    let found = before_title (codes "second") l (tree_lines b.first) r (from_second b) rest without other (in_first b a (r ++ l ∷ rest) (e ∙ pushed (archive_lines (print_lines a)) (codes "first") r l rest)) in
    none b.first found.0 is.first (found.1 ∙ sym (append_assoc r (l ∷ []) found.0))

no_first_end : (a : Listing Stamp) (r : List Line) → Without (codes "second") r → SpellsNoTree r → BeginsNoBundle (first_lines a r ++ codes "second" ∷ [])
no_first_end a r without none b rest is e =
    none b.first is.first (cut_at (codes "second") (tree_lines b.first) r (from_second b) rest (tree_without (codes "second") second_title b.first) without
    (in_first b a (r ++ codes "second" ∷ rest) (e ∙ pushed (archive_lines (print_lines a)) (codes "first") r (codes "second") rest))).0

no_second_line : (a : Listing Stamp) (f : Listing (List ℕ)) (r : List Line) (l : Line) → Without (codes "holds") r → l ≢ codes "holds" → BeginsNoTree (r ++ l ∷ []) → BeginsNoBundle (second_lines a f r ++ l ∷ [])
no_second_line a f r l without other none b rest is e =
    let found = before_title (codes "holds") l (tree_lines b.second) r (from_holds b) rest without other (in_second b a f (r ++ l ∷ rest) (e ∙ pushed (first_lines a (tree_lines f)) (codes "second") r l rest)) in
    none b.second found.0 is.second (found.1 ∙ sym (append_assoc r (l ∷ []) found.0))

no_second_end : (a : Listing Stamp) (f : Listing (List ℕ)) (r : List Line) → Without (codes "holds") r → SpellsNoTree r → BeginsNoBundle (second_lines a f r ++ codes "holds" ∷ [])
no_second_end a f r without none b rest is e =
    none b.second is.second (cut_at (codes "holds") (tree_lines b.second) r (from_holds b) rest (tree_without (codes "holds") holds_title b.second) without
    (in_second b a f (r ++ codes "holds" ∷ rest) (e ∙ pushed (first_lines a (tree_lines f)) (codes "second") r (codes "holds") rest))).0

pub archive_refused : (r : List Line) (l : Line) (e : PrintFault) → Without (codes "first") r → l ≢ codes "first" → print_faults.Refuses (BeginsNoPrint (r ++ l ∷ [])) e → Refuses (BeginsNoBundle (archive_lines r ++ l ∷ [])) (fault_of_print e)
archive_refused r l e without other h = print_reason e (BeginsNoPrint (r ++ l ∷ [])) (BeginsNoBundle (archive_lines r ++ l ∷ [])) (no_print_line r l without other) h

pub first_refused : (a : Listing Stamp) (r : List Line) (l : Line) (e : TreeFault) → Without (codes "second") r → l ≢ codes "second" → tree_faults.Refuses (BeginsNoTree (r ++ l ∷ [])) e → Refuses (BeginsNoBundle (first_lines a r ++ l ∷ [])) (fault_of_tree e)
first_refused a r l e without other h = tree_reason e (BeginsNoTree (r ++ l ∷ [])) (BeginsNoBundle (first_lines a r ++ l ∷ [])) (no_first_line a r l without other) h

pub first_ended : (a : Listing Stamp) (r : List Line) (l : Line) (e : TreeFault) → Without (codes "second") r → l ≡ codes "second" → (e ≡ tree.NotCanonical) × SpellsNoTree r → Refuses (BeginsNoBundle (first_lines a r ++ l ∷ [])) (fault_of_tree e)
first_ended a r l e without same h = subst (λ z. Refuses (BeginsNoBundle (first_lines a r ++ z ∷ [])) (fault_of_tree e)) (sym same)
    (tree_ended e (SpellsNoTree r) (BeginsNoBundle (first_lines a r ++ codes "second" ∷ [])) (no_first_end a r without) h)

pub second_refused : (a : Listing Stamp) (f : Listing (List ℕ)) (r : List Line) (l : Line) (e : TreeFault) → Without (codes "holds") r → l ≢ codes "holds" → tree_faults.Refuses (BeginsNoTree (r ++ l ∷ [])) e → Refuses (BeginsNoBundle (second_lines a f r ++ l ∷ [])) (fault_of_tree e)
second_refused a f r l e without other h = tree_reason e (BeginsNoTree (r ++ l ∷ [])) (BeginsNoBundle (second_lines a f r ++ l ∷ [])) (no_second_line a f r l without other) h

pub second_ended : (a : Listing Stamp) (f : Listing (List ℕ)) (r : List Line) (l : Line) (e : TreeFault) → Without (codes "holds") r → l ≡ codes "holds" → (e ≡ tree.NotCanonical) × SpellsNoTree r → Refuses (BeginsNoBundle (second_lines a f r ++ l ∷ [])) (fault_of_tree e)
second_ended a f r l e without same h = subst (λ z. Refuses (BeginsNoBundle (second_lines a f r ++ z ∷ [])) (fault_of_tree e)) (sym same)
    (tree_ended e (SpellsNoTree r) (BeginsNoBundle (second_lines a f r ++ codes "holds" ∷ [])) (no_second_end a f r without) h)

-- a line behind rules' lines is of one more rule
one_more : (xs ys : List Rule) (l : Line) (more : List Line) → AllByRecursion RuleFits xs → map rule_line xs ≡ map rule_line ys ++ l ∷ more → (length ys < length xs) × ((rule : Rule) × IsRuleLine l rule)
one_more [] [] l more fit e = absurd (let k : ◌≡◌ {A = List Line} [] (l ∷ more) = e in cc)
one_more [] (y ∷ ys) l more fit e = absurd (let k : ◌≡◌ {A = List Line} [] (rule_line y ∷ (map rule_line ys ++ l ∷ more)) = e in cc)
one_more (x ∷ xs) [] l more fit e = (omega arith, (x, record { fits = fit.0; spelled = sym (cons_parts (rule_line x) l (map rule_line xs) more e).0 }))
one_more (x ∷ xs) (y ∷ ys) l more fit e =
    let found = one_more xs ys l more fit.1 (cons_parts (rule_line x) (rule_line y) (map rule_line xs) (map rule_line ys ++ l ∷ more) e).1 in
    let few : length ys < length xs = found.0 in
    (omega arith, found.1)

pub holds_refused : (a : Listing Stamp) (f s : Listing (List ℕ)) (h : List Rule) (l : Line) (e : HoldFault) → l ≢ codes "plan" → RefusesLine h l e → Refuses (BeginsNoBundle (holds_lines a f s (map rule_line h) ++ l ∷ [])) (fault_of_rules e)
holds_refused a f s h l hold.OutOfMemory other refuses = tt
holds_refused a f s h l (hold.BadRule n) other refuses = λ b rest is e.
    let found = before_title (codes "plan") l (map rule_line b.rules) (map rule_line h) (plan_lines b.plan) rest (rules_without h) other
    (in_holds b a f s (map rule_line h ++ l ∷ rest) (e ∙ pushed (second_lines a f (tree_lines s)) (codes "holds") (map rule_line h) l rest)) in
    let more = one_more b.rules h l found.0 is.rules.each found.1 in
    elim refuses.1 [
      | inl full ↦ let few : length b.rules ≤ 4096 = is.rules.count in let less : length h < length b.rules = more.0 in absurd (omega arith)
      | inr none ↦ none more.1.0 more.1.1
    ]

pub plan_refused : (a : Listing Stamp) (f s : Listing (List ℕ)) (h : List Rule) (p new : progress.Progress) (l : Line) (e : PlanFault) → ReadsNext p l (Err e) new → Refuses (BeginsNoBundle (plan_part_lines a f s h (progress.fed p) ++ l ∷ [])) (fault_of_plan e)
plan_refused a f s h p new l plan.OutOfMemory reads = tt
plan_refused a f s h p new l plan.Failed reads = absurd reads
plan_refused a f s h p new l plan.NotCanonical reads = λ b rest is e.
    reads.1 b.plan (large b.plan is.plan) (rest, in_plan b a f s h (progress.fed p ++ l ∷ rest) (e ∙ pushed (holds_lines a f s (map rule_line h)) (codes "plan") (progress.fed p) l rest) ∙ sym (append_assoc (progress.fed p) (l ∷ []) rest))
plan_refused a f s h p new l plan.PastLimit reads = λ b rest is e.
    reads.1 b.plan is.plan (rest, in_plan b a f s h (progress.fed p ++ l ∷ rest) (e ∙ pushed (holds_lines a f s (map rule_line h)) (codes "plan") (progress.fed p) l rest) ∙ sym (append_assoc (progress.fed p) (l ∷ []) rest))

pub plan_ended : (a : Listing Stamp) (f s : Listing (List ℕ)) (h : List Rule) (p : progress.Progress) (e : PlanFault) → Finishes p (Err e) → Refuses (SpellsNoBundle (plan_part_lines a f s h (progress.fed p))) (fault_of_plan e)
plan_ended a f s h p plan.OutOfMemory ends = tt
plan_ended a f s h p plan.Failed ends = absurd ends
plan_ended a f s h p plan.NotCanonical ends = λ b is e. ends b.plan (large b.plan is.plan) (in_plan b a f s h (progress.fed p) e)
plan_ended a f s h p plan.PastLimit ends = absurd ends

-- the plan's end is still to come
pub unfinished : (p : Part) → PartFits p → ((a : Listing Stamp) (f s : Listing (List ℕ)) (h : List Rule) (r : progress.Progress) → p ≢ part.Plan a f s h r) → SpellsNoBundle (fed p)
unfinished part.Start fits other b is e = absurd (let k : codes "twosync-bundle 1" ∷ codes "archive" ∷ from_archive b ≡ [] = sym (parted b) ∙ e in cc)
unfinished part.Title fits other b is e =
    absurd (let k : ◌≡◌ {A = List Line} (codes "archive" ∷ from_archive b) [] = (cons_parts (codes "twosync-bundle 1") (codes "twosync-bundle 1") (codes "archive" ∷ from_archive b) [] (sym (parted b) ∙ e)).1 in cc)
unfinished (part.Archive r) fits other b is e = no_cut (codes "first") r (print_lines b.archive) (from_first b) fits (sym (in_archive b r e))
unfinished (part.First a r) fits other b is e = no_cut (codes "second") r (tree_lines b.first) (from_second b) fits.1 (sym (in_first b a r e))
unfinished (part.Second a f r) fits other b is e = no_cut (codes "holds") r (tree_lines b.second) (from_holds b) fits.2 (sym (in_second b a f r e))
unfinished (part.Holds a f s h) fits other b is e = no_cut (codes "plan") (map rule_line h) (map rule_line b.rules) (plan_lines b.plan) (rules_without h) (sym (in_holds b a f s (map rule_line h) e))
unfinished (part.Plan a f s h r) fits other b is e = absurd (other a f s h r refl)

-- the same of the lines that were taken
pub plan_ended_at : (p : Part) (lines : List Line) (a : Listing Stamp) (f s : Listing (List ℕ)) (h : List Rule) (r : progress.Progress) (e : PlanFault) → fed p ≡ lines → p ≡ part.Plan a f s h r → Finishes r (Err e) → Refuses (SpellsNoBundle lines) (fault_of_plan e)
plan_ended_at p lines a f s h r e taken is ends = subst (λ z. Refuses (SpellsNoBundle z) (fault_of_plan e)) (sym (ap fed is) ∙ taken) (plan_ended a f s h r e ends)

pub unfinished_at : (p : Part) (lines : List Line) → fed p ≡ lines → PartFits p → ((a : Listing Stamp) (f s : Listing (List ℕ)) (h : List Rule) (r : progress.Progress) → p ≢ part.Plan a f s h r) → SpellsNoBundle lines
unfinished_at p lines taken fits other = subst (λ z. SpellsNoBundle z) taken (unfinished p fits other)
