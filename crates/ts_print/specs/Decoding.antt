-- What a decoder answers for the bytes that a line reader has left.
--     DecodesPrint, FindsNoPrint    the answer of a print's decoder
use Rattle.std.specs.Prelude.{IfSome}
use Rattle.ts_text.specs.Lines.{Reading}
use Rattle.ts_text.specs.declared.fault.TextFault.{TextFault}
use Rattle.ts_text.specs.declared.fault.TextFault.TheVariants as text
use Rattle.ts_model.specs.Texts.{IsPrintText, IsPrintBody}
use Rattle.ts_model.specs.Trees.{Listing}
use Rattle.ts_model.specs.declared.row.Stamp.{Stamp}
use Rattle.ts_tree.specs.Decoding.{SourceFailed}
use Rattle.ts_tree.specs.declared.fault.TreeFault.{TreeFault}
use Rattle.ts_tree.specs.declared.fault.TreeFault.TheVariants as tree
use Rattle.ts_print.specs.declared.fault.PrintFault.{PrintFault}
use Rattle.ts_print.specs.declared.fault.PrintFault.TheVariants as fault

-- the fault of a text as one of a print
abbrev pub fault_of_text : TextFault → PrintFault
fault_of_text text.OutOfMemory = fault.OutOfMemory
fault_of_text text.Failed = fault.Failed
fault_of_text text.NotCanonical = fault.NotCanonical

-- the fault of a tree as one of a print
abbrev pub fault_of_tree : TreeFault → PrintFault
fault_of_tree tree.OutOfMemory = fault.OutOfMemory
fault_of_tree tree.TooLong = fault.TooLong
fault_of_tree tree.Failed = fault.Failed
fault_of_tree tree.NotCanonical = fault.NotCanonical

-- the bytes that were left, where the source tells them, spell the print
abbrev pub DecodesPrint : Reading → Listing Stamp → Type 0
DecodesPrint old rows = IsPrintBody rows × IfSome old.left (λ bytes. IsPrintText bytes rows)

-- why no print is answered
abbrev pub FindsNoPrint : Reading → Reading → PrintFault → Type 0
FindsNoPrint old new fault.OutOfMemory = Unit {0}
FindsNoPrint old new fault.TooLong = ⊥
FindsNoPrint old new fault.Failed = SourceFailed old new
FindsNoPrint old new fault.NotCanonical = IfSome old.left (λ bytes. (rows : Listing Stamp) → ¬ IsPrintText bytes rows)
