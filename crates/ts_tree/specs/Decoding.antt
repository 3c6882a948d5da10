-- What a decoder answers for the bytes that a line reader has left.
--     SourceFailed old new    the source failed between, or had failed before
--     Decodes, Refused        the answer of a tree's decoder
use Rattle.std.specs.Prelude.{◌≡◌, ◌≢◌, ◌⊎◌, ℕ, List, IfSome}
use Rattle.ts_text.specs.Lines.{Reading}
use Rattle.ts_text.specs.declared.fault.TextFault.{TextFault}
use Rattle.ts_text.specs.declared.fault.TextFault.TheVariants as text
use Rattle.ts_text.specs.declared.state.State.TheVariants.{Refused}
use Rattle.ts_model.specs.Texts.{IsTreeText, IsTreeBody}
use Rattle.ts_model.specs.Trees.{Listing}
use Rattle.ts_tree.specs.declared.fault.TreeFault.{TreeFault}
use Rattle.ts_tree.specs.declared.fault.TreeFault.TheVariants as fault

-- the fault of a text as one of a tree
abbrev pub fault_of_text : TextFault → TreeFault
fault_of_text text.OutOfMemory = fault.OutOfMemory
fault_of_text text.Failed = fault.Failed
fault_of_text text.NotCanonical = fault.NotCanonical

pub record SourceFailed (old new : Reading) : Type 0 where
  pub state : new.state ≡ Refused text.Failed
  pub failures : (old.state ≡ Refused text.Failed) ⊎ (new.failures ≢ old.failures)

-- the bytes that were left, where the source tells them, spell the tree
abbrev pub DecodesTree : Reading → Listing (List ℕ) → Type 0
DecodesTree old rows = IsTreeBody rows × IfSome old.left (λ bytes. IsTreeText bytes rows)

-- why no tree is answered
abbrev pub FindsNoTree : Reading → Reading → TreeFault → Type 0
FindsNoTree old new fault.OutOfMemory = Unit {0}
FindsNoTree old new fault.TooLong = ⊥
FindsNoTree old new fault.Failed = SourceFailed old new
FindsNoTree old new fault.NotCanonical = IfSome old.left (λ bytes. (rows : Listing (List ℕ)) → ¬ IsTreeText bytes rows)
