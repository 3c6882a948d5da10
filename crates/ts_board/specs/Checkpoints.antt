-- A checkpoint: an archive of a run that goes on meanwhile.
--     HasLooked t p q                  any number of looks: more of the history was seen, and no step of the pass's own made
--     HasDone plan run part            the part has each mark that is done in the run
--     IsCheckpoint k before run rows   the archive of a closed part of the run, whose marks are done, with each that was done before
--     StaysAgreed k run rows           however the run goes on, it differs from the old archive only where both replicas agree
use Rattle.std.specs.Prelude.{◌≡◌, ℕ, Bool, true, length}
use Rattle.ts_model.specs.Trees.{Tree, Listing, at}
use Rattle.ts_model.specs.Plans.{KindIs}
use Rattle.ts_model.specs.Runs.{Run, State, Has, finishes, Legal, after, start}
use Rattle.ts_model.specs.Headline.{Premises, Agrees}
use Rattle.ts_model.specs.Resume.{IsClosedPart, archive_of_part}
use Rattle.ts_model.specs.declared.row.Stamp.{Stamp}
use Rattle.ts_model.specs.declared.plan.Kind.TheVariants.{Mark}
use Rattle.ts_model.specs.declared.plan.Plan.{Plan}
use Rattle.ts_check.specs.Checkup.{Checkup, snapshot_of}
use Rattle.ts_board.specs.declared.law.Terms.{Terms}
use Rattle.ts_board.specs.declared.board.Pass.{Pass}
use Rattle.ts_board.specs.Terms.{IsLegalRun}
use Rattle.ts_board.specs.Runs.{StartsWith}
use Rattle.ts_board.specs.Calls.{seen, mine}

-- more of the history was seen, or just what was seen before; the pass has made no step of its own
abbrev pub HasLooked : {S : Type 0} → Terms → Pass S → Pass S → Type 0
HasLooked t p q = StartsWith (seen q) (seen p) × (mine q ≡ mine p) × (IsLegalRun t (seen p) → IsLegalRun t (seen q))

abbrev pub HasDone : Plan → Run → (ℕ → Bool) → Type 0
HasDone plan run part = (i e : ℕ) → KindIs plan i (Mark e) → Has run (finishes i) → part i ≡ true

pub record IsCheckpoint (k : Checkup) (before run : Run) (rows : Listing Stamp) : Type 0 where
  pub part : ℕ → Bool
  pub closed : IsClosedPart k.plan run part
  pub done : HasDone k.plan before part
  pub finished : (i : ℕ) → part i ≡ true → Has run (finishes i)
  pub archive : at rows ≡ archive_of_part (snapshot_of k) k.plan part (length k.plan.actions)

-- what a run leaves, with this archive
abbrev pub with_archive : State → Listing Stamp → State
with_archive w rows = record w { archive = at rows }

-- whichever replicas of these prints the run began with, and whatever steps come after it
abbrev pub StaysAgreed : Checkup → Run → Listing Stamp → Type 0
StaysAgreed k run rows = (a b : Tree) (later : Run) → StartsWith later run → Premises (snapshot_of k) a b later → Legal (snapshot_of k) k.plan later
    → Agrees (snapshot_of k) (with_archive (after (snapshot_of k) k.plan (start (snapshot_of k) a b) later) rows)
