-- What a refusal says.
use Rattle.ts_tree.specs.Faults.{Refuses}
use Rattle.ts_tree.specs.declared.fault.TreeFault.{TreeFault}
use Rattle.ts_tree.specs.declared.fault.TreeFault.TheVariants as fault

-- a refusal for one reason is one for what follows from it
pub refuses_weaker : (P Q : Type 0) (e : TreeFault) → (P → Q) → Refuses P e → Refuses Q e
refuses_weaker P Q fault.OutOfMemory h r = tt
refuses_weaker P Q fault.TooLong h r = r
refuses_weaker P Q fault.Failed h r = r
refuses_weaker P Q fault.NotCanonical h r = h r
