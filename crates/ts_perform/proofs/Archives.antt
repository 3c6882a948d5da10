-- The archive that is decoded of a file which was found by a name.
use Rattle.std.proofs.Common.{◌≡◌, inl, inr, ℕ, List, Option, None, Some, Result, IfOk, subst, sym}
use Rattle.ts_archive.specs.declared.fault.ArchiveFault.{ArchiveFault}
use Rattle.ts_command.specs.declared.job.Pair.{Pair}
use Rattle.ts_model.specs.Trees.{Listing}
use Rattle.ts_model.specs.declared.hold.Rule.{Rule}
use Rattle.ts_model.specs.declared.row.Stamp.{Stamp}
use Rattle.ts_perform.specs.Inputs.{AreRulesFor, IsArchiveAt, IsArchiveIn, IsArchiveOf, IsFoundOrEmpty, IsHeldFor, IsSeenFor}
use Rattle.ts_perform.specs.Worlds.{Finds, World}
use Rattle.ts_perform.specs.Stands.{AreScans}
use Rattle.ts_perform.specs.declared.inputs.Held.{Held}
use Rattle.ts_perform.specs.declared.inputs.Scanned.{Scanned}

pub archive_found : (finds : Finds) (name : List ℕ) (file : Option (Option (List ℕ))) (found : Option (Listing Stamp)) → finds name file → IsArchiveOf file found
    → IsArchiveIn finds name found
archive_found finds name None None at spells = at
archive_found finds name None (Some rows) at spells = absurd spells
archive_found finds name (Some bytes) None at spells = absurd spells
archive_found finds name (Some bytes) (Some rows) at spells = (bytes, at, spells)

pub archive_at : (finds : Finds) (name : List ℕ) (file : Option (Option (List ℕ))) (decoded : Result (Option (Listing Stamp)) ArchiveFault) (rows : Listing Stamp)
    → finds name file → IfOk decoded (IsArchiveOf file) → IsFoundOrEmpty decoded rows → IsArchiveAt finds name rows
archive_at finds name file decoded rows at spells (inl found) =
    inl (archive_found finds name file (Some rows) at (subst (λ d. IfOk d (IsArchiveOf file)) found spells))
archive_at finds name file decoded rows at spells (inr (none, empty)) =
    inr (archive_found finds name file None at (subst (λ d. IfOk d (IsArchiveOf file)) none spells), empty)

-- a snapshot of the archive, of the rules that were read, and of both scans
pub seen : {S F P A L : Type 0} (w : World S F P A L) (pair : Pair) (held : Held)
    (archive : Listing Stamp) (scanned : Scanned) (rows : Listing Stamp) (rules : List Rule) (first second : Listing Stamp)
    → IsArchiveAt w.finds pair.archive.now archive → IsHeldFor w.finds w.finds_special pair held
    → AreScans w.is_at w.tells pair held.special scanned.first scanned.second
    → rows ≡ archive → rules ≡ held.holds → first ≡ scanned.first → second ≡ scanned.second
    → IsSeenFor w pair rows rules first second
seen w pair held archive scanned rows rules first second read is_held scans same_rows same_rules same_first same_second = record {
  special = held.special;
  found = is_held.found;
  read = record {
    archive = subst (λ z. IsArchiveAt w.finds pair.archive.now z) (sym same_rows) read;
    holds = subst (λ z. AreRulesFor w.finds pair held.special z) (sym same_rules) is_held.rules;
  };
  scans = subst (λ z. AreScans w.is_at w.tells pair held.special first z) (sym same_second) (subst (λ z. AreScans w.is_at w.tells pair held.special z scanned.second) (sym same_first) scans);
}
