-- Why a decoder answers no tree.
use Rattle.std.proofs.Common.{◌≡◌, ◌≢◌, ℕ, List, ◌++◌, Option, Some, None, Err, sym, ◌∙◌, subst}
use Rattle.std.specs.Prelude.{IfSome}
use Rattle.ts_text.specs.Lines.{Reading, HasEnded, Answers}
use Rattle.ts_text.specs.declared.fault.TextFault.{TextFault}
use Rattle.ts_text.specs.declared.fault.TextFault.TheVariants as text_fault
use Rattle.ts_model.specs.Trees.{Listing}
use Rattle.ts_model.specs.Texts.{Line, text, tree_lines, IsTreeBody, IsTreeText}
use Rattle.ts_tree.specs.Decoding.{FindsNoTree, fault_of_text}
use Rattle.ts_tree.specs.Faults.{Refuses}
use Rattle.ts_tree.specs.Readers.{BeginsNoTree, SpellsNoTree}
use Rattle.ts_tree.specs.declared.fault.TreeFault.{TreeFault}
use Rattle.ts_tree.specs.declared.fault.TreeFault.TheVariants as fault
use Rattle.ts_tree.proofs.Lines.{AreTextLines, one_text}
use Rattle.ts_tree.proofs.Taken.{Taken, taken_all, taken_failed, taken_first, taken_refused}
use Rattle.ts_tree.proofs.TreeTexts.{rows_fit, tree_text_lines}

-- what is said of known bytes
pub known_weaker : (o : Option (List ℕ)) (P Q : List ℕ → Type 0) → ((x : List ℕ) → P x → Q x) → IfSome o P → IfSome o Q
known_weaker None P Q h p = tt
known_weaker (Some x) P Q h p = h x p

lines_of : (rows : Listing (List ℕ)) → IsTreeBody rows → AreTextLines (tree_lines rows)
lines_of rows is = tree_text_lines rows (rows_fit rows is)

-- the line reader answered a fault
pub no_tree_read : (old now next : Reading) (fed : List Line) (e : TextFault) → Taken old now fed → Answers now (Err e) next → FindsNoTree old next (fault_of_text e)
no_tree_read old now next fed text_fault.OutOfMemory taken answers = absurd answers
no_tree_read old now next fed text_fault.Failed taken answers = taken_failed old now next fed taken answers
no_tree_read old now next fed text_fault.NotCanonical taken answers =
    known_weaker old.left (λ bytes. (xs : List Line) → AreTextLines xs → bytes ≢ text xs) (λ bytes. (rows : Listing (List ℕ)) → ¬ IsTreeText bytes rows)
    (λ bytes none rows is. none (tree_lines rows) (lines_of rows is.tree) is.spelled) (taken_refused old now next fed taken answers)

-- the reader of trees refused the line
pub no_tree_line : (old now : Reading) (fed : List Line) (e : TreeFault) → Taken old now fed → Refuses (BeginsNoTree fed) e → FindsNoTree old now e
no_tree_line old now fed fault.OutOfMemory taken refuses = tt
no_tree_line old now fed fault.TooLong taken refuses = refuses
no_tree_line old now fed fault.Failed taken refuses = absurd refuses
no_tree_line old now fed fault.NotCanonical taken refuses =
    known_weaker old.left (λ bytes. (xs : List Line) → AreTextLines xs → bytes ≡ text xs → (rest : List Line) × (xs ≡ fed ++ rest)) (λ bytes. (rows : Listing (List ℕ)) → ¬ IsTreeText bytes rows)
    (λ bytes first rows is. let found = first (tree_lines rows) (lines_of rows is.tree) is.spelled in refuses rows found.0 is.tree found.1) (taken_first old now fed taken)

-- the lines ended, but are no tree's
pub no_tree_ended : (old now next : Reading) (fed : List Line) (e : TreeFault) → Taken old now fed → HasEnded now next → (e ≡ fault.NotCanonical) × SpellsNoTree fed → FindsNoTree old next e
no_tree_ended old now next fed e taken ends none =
    subst (λ z. FindsNoTree old next z) (sym none.0)
    (known_weaker old.left (λ bytes. bytes ≡ text fed) (λ bytes. (rows : Listing (List ℕ)) → ¬ IsTreeText bytes rows)
    (λ bytes all rows is. none.1 rows is.tree (one_text (tree_lines rows) fed (lines_of rows is.tree) taken.lines (sym is.spelled ∙ all))) (taken_all old now next fed taken ends))

-- ---- the source's count of failures
