-- What commands read from files.
--     IsReadAt finds Spells name x    x was read from a file that was found by this name, whose bytes spell it where the file tells them
--     IsArchiveOf file found          the bytes of a file spell it, where the file tells them; or there is no file, and nothing was found
--     IsArchiveIn finds name found    the same of the file that was found by this name
--     IsArchiveAt finds name rows     the same; an archive that isn't there has no paths
--     AreRulesAt finds name rules     the rules that were read from a file, or none where no file is named
--     AreRulesFor finds pair special rules   those, and then one for each of these special paths
--     IsReadFor finds pair special rows rules  the archive and the rules of a pair
--     IsFoundOrEmpty decoded rows     the archive that was decoded; or there is none, and these are no paths
--     IsHeldFor finds finds_special pair held  the rules of a pair, and the special paths that they name
--     IsSeenFor w pair rows rules first second  the same with scans of both replicas, which have stand-ins at the special paths that the rules name
--     scanned_of pair first second    what the scans of a pair's replicas give; where neither gives a print, the fault is that of the first
use Rattle.std.specs.Prelude.{◌≡◌, ◌⊎◌, ℕ, List, [], ◌++◌, Option, Some, None, IfSome, Result, Ok, Err}
use Rattle.std.specs.Borrow.{Bor}
use Rattle.ts_archive.specs.declared.fault.ArchiveFault.{ArchiveFault}
use Rattle.ts_command.specs.declared.job.Pair.{Pair}
use Rattle.ts_model.specs.Texts.{IsArchiveText, IsRulesText}
use Rattle.ts_model.specs.Trees.{Listing}
use Rattle.ts_model.specs.declared.hold.Rule.{Rule}
use Rattle.ts_model.specs.declared.row.Stamp.{Stamp}
use Rattle.ts_scan.specs.declared.fault.ScanFault.{ScanFault}
use Rattle.ts_explain.specs.declared.fault.PerformFault.{PerformFault}
use Rattle.ts_explain.specs.declared.subject.Subject.TheVariants.{First, Second}
use Rattle.ts_perform.specs.Lengths.{fault_below}
use Rattle.ts_perform.specs.declared.inputs.Held.{Held}
use Rattle.ts_perform.specs.declared.inputs.Scanned.{Scanned}
use Rattle.ts_perform.specs.Specials.{AreSpecials, FindsSpecial, rules_of}
use Rattle.ts_perform.specs.Stands.{AreScans}
use Rattle.ts_perform.specs.Worlds.{Finds, World}
use Rattle.ts_perform.specs.declared.special.SpecialPaths.{SpecialPaths}

abbrev pub IsReadAt : {X : Type 0} → Finds → (List ℕ → X → Type 0) → List ℕ → X → Type 0
IsReadAt finds Spells name x = (bytes : Option (List ℕ)) × finds name (Some bytes) × IfSome bytes (λ text. Spells text x)

abbrev pub IsArchiveOf : Option (Option (List ℕ)) → Option (Listing Stamp) → Type 0
IsArchiveOf None None = Unit {0}
IsArchiveOf None (Some rows) = ⊥
IsArchiveOf (Some bytes) None = ⊥
IsArchiveOf (Some bytes) (Some rows) = IfSome bytes (λ text. IsArchiveText text rows)

abbrev pub IsArchiveIn : Finds → List ℕ → Option (Listing Stamp) → Type 0
IsArchiveIn finds name None = finds name None
IsArchiveIn finds name (Some rows) = IsReadAt finds IsArchiveText name rows

abbrev pub IsArchiveAt : Finds → List ℕ → Listing Stamp → Type 0
IsArchiveAt finds name rows = IsReadAt finds IsArchiveText name rows ⊎ (finds name None × (rows ≡ []))

abbrev pub AreRulesAt : Finds → Option (Bor (List ℕ)) → List Rule → Type 0
AreRulesAt finds None rules = rules ≡ []
AreRulesAt finds (Some name) rules = IsReadAt finds IsRulesText name.now rules

abbrev pub AreRulesFor : Finds → Pair → SpecialPaths → List Rule → Type 0
AreRulesFor finds pair special rules = (read : List Rule) × AreRulesAt finds pair.holds read × (rules ≡ read ++ rules_of special)

pub record IsReadFor (finds : Finds) (pair : Pair) (special : SpecialPaths) (rows : Listing Stamp) (rules : List Rule) : Type 0 where
  pub archive : IsArchiveAt finds pair.archive.now rows
  pub holds : AreRulesFor finds pair special rules

-- these are the rules and the special paths of a pair
pub record IsHeldFor (finds : Finds) (finds_special : FindsSpecial) (pair : Pair) (held : Held) : Type 0 where
  pub found : AreSpecials finds_special pair held.special
  pub rules : AreRulesFor finds pair held.special held.holds

-- just this was decoded, or no archive is there and it has no paths
abbrev pub IsFoundOrEmpty : Result (Option (Listing Stamp)) ArchiveFault → Listing Stamp → Type 0
IsFoundOrEmpty decoded rows = (decoded ≡ Ok (Some rows)) ⊎ ((decoded ≡ Ok None) × (rows ≡ []))

pub record IsSeenFor {S F P A L : Type 0} (w : World S F P A L) (pair : Pair) (rows : Listing Stamp) (rules : List Rule)
    (first second : Listing Stamp) : Type 0 where
  pub special : SpecialPaths
  pub found : AreSpecials w.finds_special pair special
  pub read : IsReadFor w.finds pair special rows rules
  pub scans : AreScans w.is_at w.tells pair special first second

abbrev pub scanned_of : Pair → Result (Listing Stamp) ScanFault → Result (Listing Stamp) ScanFault → Result Scanned PerformFault
scanned_of pair (Err e) second = Err (fault_below pair.first.now First e)
scanned_of pair (Ok a) (Err e) = Err (fault_below pair.second.now Second e)
scanned_of pair (Ok a) (Ok b) = Ok (record { first = a; second = b })
