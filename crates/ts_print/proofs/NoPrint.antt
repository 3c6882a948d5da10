-- Why a decoder answers no print.
use Rattle.std.proofs.Common.{◌≡◌, ◌≢◌, List, ◌++◌, Err}
use Rattle.ts_text.specs.Lines.{Reading, Answers}
use Rattle.ts_text.specs.declared.fault.TextFault.{TextFault}
use Rattle.ts_text.specs.declared.fault.TextFault.TheVariants as text_fault
use Rattle.ts_model.specs.Trees.{Listing}
use Rattle.ts_model.specs.declared.row.Stamp.{Stamp}
use Rattle.ts_model.specs.Texts.{Line, text, print_lines, IsPrintText}
use Rattle.ts_print.specs.Decoding.{FindsNoPrint, fault_of_text}
use Rattle.ts_print.specs.Faults.{Refuses}
use Rattle.ts_print.specs.Readers.{BeginsNoPrint}
use Rattle.ts_print.specs.declared.fault.PrintFault.{PrintFault}
use Rattle.ts_print.specs.declared.fault.PrintFault.TheVariants as fault
use Rattle.ts_tree.proofs.Lines.{AreTextLines}
use Rattle.ts_tree.proofs.NoTree.{known_weaker}
use Rattle.ts_tree.proofs.Taken.{Taken, taken_failed, taken_first, taken_refused}
use Rattle.ts_print.proofs.PrintTexts.{print_are_lines}

-- the line reader answered a fault
pub no_print_read : (old now next : Reading) (fed : List Line) (e : TextFault) → Taken old now fed → Answers now (Err e) next → FindsNoPrint old next (fault_of_text e)
no_print_read old now next fed text_fault.OutOfMemory taken answers = absurd answers
no_print_read old now next fed text_fault.Failed taken answers = taken_failed old now next fed taken answers
no_print_read old now next fed text_fault.NotCanonical taken answers =
    known_weaker old.left (λ bytes. (xs : List Line) → AreTextLines xs → bytes ≢ text xs) (λ bytes. (rows : Listing Stamp) → ¬ IsPrintText bytes rows)
    (λ bytes none rows is. none (print_lines rows) (print_are_lines rows is.print) is.spelled) (taken_refused old now next fed taken answers)

-- the reader of prints refused the line
pub no_print_line : (old now : Reading) (fed : List Line) (e : PrintFault) → Taken old now fed → Refuses (BeginsNoPrint fed) e → FindsNoPrint old now e
no_print_line old now fed fault.OutOfMemory taken refuses = tt
no_print_line old now fed fault.TooLong taken refuses = refuses
no_print_line old now fed fault.Failed taken refuses = absurd refuses
no_print_line old now fed fault.NotCanonical taken refuses =
    known_weaker old.left (λ bytes. (xs : List Line) → AreTextLines xs → bytes ≡ text xs → (rest : List Line) × (xs ≡ fed ++ rest)) (λ bytes. (rows : Listing Stamp) → ¬ IsPrintText bytes rows)
    (λ bytes first rows is. let found = first (print_lines rows) (print_are_lines rows is.print) is.spelled in refuses rows found.0 is.print found.1) (taken_first old now fed taken)
