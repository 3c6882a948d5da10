-- The pair that a command works on.
use Rattle.std.specs.Prelude.{Option, Some, None}
use Rattle.ts_command.specs.declared.job.Job.{Job}
use Rattle.ts_command.specs.declared.job.Job.TheVariants as job
use Rattle.ts_command.specs.declared.job.Pair.{Pair}

abbrev pub pair_of : Job → Option Pair
pair_of (job.Tell text) = None
pair_of job.Trial = None
pair_of (job.Scan folder) = None
pair_of (job.Show archive) = None
pair_of (job.Plan pair) = Some pair
pair_of (job.Preview pair json) = Some pair
pair_of (job.Check pair plan) = Some pair
pair_of (job.Run pair plan) = Some pair
pair_of (job.Sync pair) = Some pair
