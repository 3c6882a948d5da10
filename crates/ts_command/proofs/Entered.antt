-- The command of the subcommand that a parse entered.
use Rattle.std.proofs.Common.{◌≡◌, subst, sym, Option, Some, None, List, false, option_map}
use Rattle.clap.specs.Words.{Row, Text}
use Rattle.ts_command.specs.Readings.{Gives, HasCheckpoint, HasFlags, HasWorkers, IsJob}
use Rattle.ts_command.specs.declared.job.Command.{Command}
use native.Mathlib.Omega.{arith}

-- both parts of what an option is mapped to
pub entered : {B X Y : Type 0} (s : Option B) (both : B → X × Y) (x : X) (y : Y) → Some x ≡ option_map (λ b. (both b).0) s
    → Some y ≡ option_map (λ (p : X × Y). p.1) (option_map both s) → option_map both s ≡ Some (x, y)
entered None both x y first second = grind arith
entered (Some b) both x y first second = grind arith

pub gives : (reading : Option (Text × List Row)) (name : Text) (rows : List Row) (command : Command) → reading ≡ Some (name, rows)
    → IsJob name rows command.job → HasWorkers rows command.workers → HasCheckpoint rows command.checkpoint → HasFlags rows command
    → command.coloured ≡ false → Gives reading command
gives reading name rows command is job workers checkpoint flags plain =
    let P : Option (Text × List Row) → Type 0 = λ r. Gives r command in
    subst P (sym is) (job, workers, checkpoint, flags, plain)
