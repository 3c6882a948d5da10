-- What is known of a held action around its act.
--     IsActed content t h         it has acted, as its kind asks
--     MayGoOn content t own h     it has not acted, and may still fail
--     HasAll, HasNone plan c own  all pieces of the commit were taken, or none
--     IsAppended, IsPut           a piece was put at the end of a file of an assembly
--     IsMadeWhole x r c old new   an assembly has become what the source's folder tells
use Rattle.std.specs.Prelude.{◌≡◌, ℕ, List, Option, true}
use Rattle.ts_name.specs.Paths.{Path}
use Rattle.ts_model.specs.Trees.{Listing, at, listed, sub}
use Rattle.ts_model.specs.Plans.{KindIs}
use Rattle.ts_model.specs.Runs.{Run, Has, HasNot, IsPending, IsPieceOf, takes}
use Rattle.ts_model.specs.declared.plan.Kind.TheVariants.{Piece}
use Rattle.ts_model.specs.declared.plan.Plan.{Plan}
use Rattle.ts_model.specs.declared.step.Step.TheVariants.{Act}
use Rattle.ts_board.specs.Calls.{IsFresh, work_of}
use Rattle.ts_board.specs.Terms.{IsTold, Suits}
use Rattle.ts_board.specs.declared.board.Held.{Held}
use Rattle.ts_board.specs.declared.law.Terms.{Terms}
use Rattle.ts_check.specs.Checkup.{IsSourcePart}
use Rattle.ts_stage.specs.Assemblies.{Assembly, HasSoFar, IsComplete, assembly_of, put_in}
use Rattle.ts_stage.specs.Stagings.{Staging}
use Rattle.ts_print.specs.Parts.{Part}
use Rattle.ts_exec.specs.Failures.{Setting, AreRead, TellsTree}

abbrev pub IsActed : {S : Type 0} → (S → Option (Listing (List ℕ))) → Terms → Held S → Type 0
IsActed content t h = (h.acted ≡ true) × Suits t (Act h.action (work_of h)) × IsTold content t h.action h.slot

abbrev pub MayGoOn : {S : Type 0} → (S → Option (Listing (List ℕ))) → Terms → Run → Held S → Type 0
MayGoOn content t own h = IsPending own h.action × IsFresh content t h

abbrev pub HasAll : Plan → ℕ → Run → Type 0
HasAll plan c own = (k : ℕ) → IsPieceOf plan c k → Has own (takes k)

abbrev pub HasNone : Plan → ℕ → Run → Type 0
HasNone plan c own = (k : ℕ) → IsPieceOf plan c k → HasNot own (takes k)

-- what a piece staged now stands at the end of the file at this path
abbrev pub IsAppended : Path → Staging → Assembly → Assembly → Type 0
IsAppended path piece old new = new ≡ put_in old path piece

-- of piece k, where its file had all bytes before them so far
abbrev pub IsPut : Plan → ℕ → Staging → Assembly → Assembly → Type 0
IsPut plan k piece old new = (e offset size : ℕ) (path : Path) → KindIs plan k (Piece e offset size path) → HasSoFar old path offset → IsAppended path piece old new

-- an assembly that was begun for the commit's source is complete, and just what the source's folder tells at the entry's path and below, where that
-- folder tells a tree of the checked print, and pieces staged in these steps what folders tell
abbrev pub IsMadeWhole : Setting → Run → ℕ → Assembly → Assembly → Type 0
IsMadeWhole x r c old new =
    (part : Part) (of : IsSourcePart x.checkup c part) → old ≡ assembly_of part → (told : TellsTree x of.from) → AreRead x r
    → IsComplete new × (listed new.made ≡ sub (at told.0) part.top)
