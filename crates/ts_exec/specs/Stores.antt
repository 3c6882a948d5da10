-- What a keeper was handed while a run went on.
--     Store                        the archives that a keeper stores, if it tells them
--     Keeps before after rows      this archive was stored after the others, or it was done without
--     IsWithin part whole          each mark of the part is one of the whole
--     IsOfPart k run part rows     the archive of a closed part of the run
--     AreOfParts k run part list last    the archives of closed parts, the first of which has the given one within it, and each the one before it;
--                                  no mark of any is missing in the last part
--     AreDone plan run part        each mark of the part is done in the run
--     IsKept k before run after    what was stored since are archives of closed parts of the run, each within the next
--     StaysKept k run old more new whatever was stored first, if that holds of the old store it still holds of the new one, when more of the run was seen
--     IsKeptOutcome ..             what came of a plan, and of the very same run what its keeper has stored
--     IsKeptBy kept keeping end .. the same, where the run began with this keeping and gave its keeper back as this one
use Rattle.std.specs.Prelude.{◌≡◌, ◌⊎◌, ℕ, Bool, true, false, List, [], ◌∷◌, ◌++◌, Option, Some, None, length}
use Rattle.ts_model.specs.Trees.{Listing, at}
use Rattle.ts_model.specs.Plans.{KindIs}
use Rattle.ts_model.specs.Resume.{IsClosedPart, archive_of_part}
use Rattle.ts_model.specs.Runs.{Run, Has, finishes}
use Rattle.ts_model.specs.declared.plan.Kind.TheVariants.{Mark}
use Rattle.ts_model.specs.declared.plan.Plan.{Plan}
use Rattle.ts_model.specs.declared.row.Stamp.{Stamp}
use Rattle.ts_site.specs.declared.site.Site.{Ghosts}
use Rattle.ts_check.specs.Checkup.{Checkup, snapshot_of}
use Rattle.ts_exec.specs.Failures.{Setting}
use Rattle.ts_exec.specs.Outcomes.{IsOutcomeOf}
use Rattle.ts_exec.specs.declared.keeping.Keeping.{Keeping}
use Rattle.ts_exec.specs.declared.outcome.Outcome.{Outcome}

abbrev pub Store : Type 0
Store = Option (List (Listing Stamp))

-- who tells nothing goes on telling nothing
abbrev pub Keeps : Store → Store → Listing Stamp → Type 0
Keeps None after rows = after ≡ None
Keeps (Some had) after rows = (after ≡ Some (had ++ rows ∷ [])) ⊎ (after ≡ Some had)

abbrev pub IsWithin : (ℕ → Bool) → (ℕ → Bool) → Type 0
IsWithin part whole = (i : ℕ) → part i ≡ true → whole i ≡ true

pub record IsOfPart (k : Checkup) (run : Run) (part : ℕ → Bool) (rows : Listing Stamp) : Type 0 where
  pub closed : IsClosedPart k.plan run part
  pub archive : at rows ≡ archive_of_part (snapshot_of k) k.plan part (length k.plan.actions)

abbrev pub AreOfParts : Checkup → Run → (ℕ → Bool) → List (Listing Stamp) → (ℕ → Bool) → Type 0
AreOfParts k run below [] last = IsWithin below last
AreOfParts k run below (rows ∷ more) last = (part : ℕ → Bool) × IsWithin below part × IsOfPart k run part rows × AreOfParts k run part more last

abbrev pub AreDone : Plan → Run → (ℕ → Bool) → Type 0
AreDone plan run part = (i : ℕ) → part i ≡ true → (e : ℕ) × KindIs plan i (Mark e) × Has run (finishes i)

abbrev pub nothing : ℕ → Bool
nothing i = false

abbrev pub IsKept : Checkup → Store → Run → Store → Type 0
IsKept k None run after = after ≡ None
IsKept k (Some had) run after =
    (added : List (Listing Stamp)) × (last : ℕ → Bool) × (after ≡ Some (had ++ added)) × AreOfParts k run nothing added last × AreDone k.plan run last

abbrev pub StaysKept : Checkup → Run → Store → Run → Store → Type 0
StaysKept k run old more new = (before : Store) → IsKept k before run old → IsKept k before more new

abbrev pub IsKeptOutcome : {S : Type 0} {site : Ghosts S} → Setting → Store → Store → Outcome S site → Type 0
IsKeptOutcome x before after outcome = (of : IsOutcomeOf x outcome) × IsKept x.checkup before of.run after

abbrev pub IsKeptBy : {S K : Type 0} {site : Ghosts S} → (K → Store) → Keeping K → K → Setting → Outcome S site → Type 0
IsKeptBy kept keeping end x outcome = IsKeptOutcome x (kept keeping.keeper) (kept end) outcome
