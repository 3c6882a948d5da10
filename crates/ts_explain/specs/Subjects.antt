-- What faults are about.
--     noun what               what stands before the name of a file or a folder
--     name_in job what        its name in a command, or none
--     why_text why            what is said of one that can't be read or written
--     why_hint why            how that ends where no cause is known
--     why_cause why           why the system's call failed
use Rattle.std.specs.Prelude.{ℕ, List, [], Option, Some, None, codes}
use Rattle.std.specs.Borrow.{Bor}
use Rattle.ts_cause.specs.declared.cause.Cause.{Cause}
use Rattle.ts_cause.specs.declared.cause.Cause.TheVariants.{Unknown}
use Rattle.ts_command.specs.declared.job.Job.{Job}
use Rattle.ts_command.specs.declared.job.Job.TheVariants as job
use Rattle.ts_command.specs.declared.job.Pair.{Pair}
use Rattle.ts_explain.specs.declared.subject.Subject.{Subject}
use Rattle.ts_explain.specs.declared.subject.Subject.TheVariants as subject
use Rattle.ts_explain.specs.declared.subject.Why.{Why}
use Rattle.ts_explain.specs.declared.subject.Why.TheVariants as why

abbrev pub noun : Subject → List ℕ
noun subject.Folder = []
noun subject.First = []
noun subject.Second = []
noun subject.Archive = codes "The archive "
noun subject.Holds = codes "The file of hold rules "
noun subject.Plan = codes "The plan "
noun subject.Stream = codes "Standard input or output"
noun subject.Input = codes "Standard input"
noun subject.Output = codes "Standard output"

abbrev pub text_or_none : Option (Bor (List ℕ)) → List ℕ
text_or_none None = []
text_or_none (Some name) = name.now

-- of a command on this pair, with this plan
abbrev pub name_of : Pair → List ℕ → Subject → List ℕ
name_of pair plan subject.Folder = []
name_of pair plan subject.First = pair.first.now
name_of pair plan subject.Second = pair.second.now
name_of pair plan subject.Archive = pair.archive.now
name_of pair plan subject.Holds = text_or_none pair.holds
name_of pair plan subject.Plan = plan
name_of pair plan subject.Stream = []
name_of pair plan subject.Input = []
name_of pair plan subject.Output = []

abbrev pub name_of_folder : List ℕ → Subject → List ℕ
name_of_folder folder subject.Folder = folder
name_of_folder folder other = []

abbrev pub name_of_archive : List ℕ → Subject → List ℕ
name_of_archive archive subject.Archive = archive
name_of_archive archive other = []

abbrev pub name_in : Job → Subject → List ℕ
name_in (job.Tell text) what = []
name_in job.Trial what = []
name_in (job.Scan folder) what = name_of_folder folder.now what
name_in (job.Show archive) what = name_of_archive archive.now what
name_in (job.Plan pair) what = name_of pair [] what
name_in (job.Preview pair json) what = name_of pair [] what
name_in (job.Check pair plan) what = name_of pair plan.now what
name_in (job.Run pair plan) what = name_of pair plan.now what
name_in (job.Sync pair) what = name_of pair [] what

abbrev pub why_text : Why → List ℕ
why_text why.Denied = codes " can't be opened"
why_text why.NotFile = codes " isn't a file"
why_text (why.Unread cause) = codes " can't be read"
why_text (why.Unwritten cause) = codes " can't be written"

abbrev pub why_hint : Why → List ℕ
why_hint why.Denied = codes ": the system doesn't allow it."
why_hint why.NotFile = codes "."
why_hint (why.Unread cause) = codes "."
why_hint (why.Unwritten cause) = codes ": is its disk full or read-only, or its folder not there?"

abbrev pub why_cause : Why → Cause
why_cause why.Denied = Unknown
why_cause why.NotFile = Unknown
why_cause (why.Unread cause) = cause
why_cause (why.Unwritten cause) = cause
