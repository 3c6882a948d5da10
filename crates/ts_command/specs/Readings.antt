-- Which command a reading of the words gives.
--     IsJob name rows job       the subcommand of this name, with these values, asks for the job
--     HasWorkers rows n         n threads are asked for
--     HasCheckpoint rows every  the archive is asked for after so many actions of a thread, or nothing is said of that
--     HasFlags rows command     the flags that every command may have are as they are given
--     Gives reading command     the reading gives the command
--     given_rows matches        the values that clap's matches have, by their names
--     IsAnswerTo words message  clap may answer the words with this message
use Rattle.std.specs.Prelude.{◌≡◌, ◌≢◌, ◌⊎◌, ◌↔◌, ◌≤◌, ℕ, IsTrue, List, Option, Some, None, false, true, codes, option_map}
use Rattle.std.specs.Str.Parse.{IsNumeral, digits_value, without_leading_plus}
use Rattle.clap.specs.Words.{Row, Text, first_of, found_of, kind_of, rows_of, takes, subcommand_of}
use Rattle.clap.specs.declared.error.Error.{Error}
use Rattle.clap.specs.declared.parser.matches.ArgMatches.{ArgMatches}
use Rattle.clap.specs.declared.error.kind.ErrorKind.TheVariants as kind
use Rattle.ts_command.specs.CommandLine.{command_line}
use Rattle.ts_command.specs.declared.job.Pair.{Pair}
use Rattle.ts_command.specs.declared.job.Job.{Job}
use Rattle.ts_command.specs.declared.job.Job.TheVariants as job
use Rattle.ts_command.specs.declared.job.Command.{Command}

abbrev pub given_rows : ArgMatches → List Row
given_rows matches = rows_of (found_of matches)

-- a file or a folder is named so
abbrev pub Names : Text → List Row → Text → Type 0
Names id rows name = first_of id rows ≡ Some name

-- the flag of this name is given
abbrev pub IsFlagged : Text → List Row → Type 0
IsFlagged id rows = Names id rows (codes "true")

pub record IsPair (rows : List Row) (pair : Pair) : Type 0 where
  pub first : Names (codes "FIRST") rows pair.first.now
  pub second : Names (codes "SECOND") rows pair.second.now
  pub archive : Names (codes "ARCHIVE") rows pair.archive.now
  pub holds : first_of (codes "holds") rows ≡ option_map (λ s. s.now) pair.holds
  pub hold_special : IsTrue pair.hold_special ↔ IsFlagged (codes "hold-special") rows

abbrev pub IsJob : Text → List Row → Job → Type 0
IsJob name rows (job.Tell text) = ⊥
IsJob name rows job.Trial = name ≡ codes "trial"
IsJob name rows (job.Scan folder) = (name ≡ codes "scan") × Names (codes "DIR") rows folder.now
IsJob name rows (job.Show archive) = (name ≡ codes "show") × Names (codes "ARCHIVE") rows archive.now
IsJob name rows (job.Plan pair) = (name ≡ codes "plan") × IsPair rows pair
IsJob name rows (job.Preview pair json) = (name ≡ codes "preview") × IsPair rows pair × (IsTrue json ↔ IsFlagged (codes "json") rows)
IsJob name rows (job.Check pair plan) = (name ≡ codes "check") × IsPair rows pair × Names (codes "PLAN") rows plan.now
IsJob name rows (job.Run pair plan) = (name ≡ codes "run") × IsPair rows pair × Names (codes "PLAN") rows plan.now
IsJob name rows (job.Sync pair) = (name ≡ codes "sync") × IsPair rows pair

-- 4 threads, or as many as a text tells
abbrev pub TellsWorkers : Option Text → ℕ → Type 0
TellsWorkers None n = n ≡ 4
TellsWorkers (Some digits) n = IsNumeral 10 (without_leading_plus digits) × (digits_value 10 (without_leading_plus digits) ≡ n)

pub record AreWorkers (told : Option Text) (n : ℕ) : Type 0 where
  pub some : 1 ≤ n
  pub few : n ≤ 64
  pub told_so : TellsWorkers told n

abbrev pub HasWorkers : List Row → ℕ → Type 0
HasWorkers rows = AreWorkers (first_of (codes "workers") rows)

-- the number of actions, 1 to 1,048,576, that a text tells
pub record IsEvery (digits : Text) (every : ℕ) : Type 0 where
  pub some : 1 ≤ every
  pub few : every ≤ 1048576
  pub numeral : IsNumeral 10 (without_leading_plus digits)
  pub told_so : digits_value 10 (without_leading_plus digits) ≡ every

-- the number that is told, or none where none is
abbrev pub TellsEvery : Option Text → Option ℕ → Type 0
TellsEvery None every = every ≡ None
TellsEvery (Some digits) None = ⊥
TellsEvery (Some digits) (Some every) = IsEvery digits every

abbrev pub HasCheckpoint : List Row → Option ℕ → Type 0
HasCheckpoint rows = TellsEvery (first_of (codes "checkpoint") rows)

pub record HasFlags (rows : List Row) (command : Command) : Type 0 where
  pub allow_empty : IsTrue command.allow_empty ↔ IsFlagged (codes "allow-empty") rows
  pub explain : IsTrue command.explain ↔ IsFlagged (codes "explain") rows
  pub quiet : IsTrue command.quiet ↔ IsFlagged (codes "quiet") rows

abbrev pub Gives : Option (Text × List Row) → Command → Type 0
Gives None command = ⊥
Gives (Some (name, rows)) command =
    IsJob name rows command.job × HasWorkers rows command.workers × HasCheckpoint rows command.checkpoint
    × HasFlags rows command × (command.coloured ≡ false)

abbrev pub reading_of_words : List Text → Option (Text × List Row)
reading_of_words words = subcommand_of command_line words

-- words that clap takes have a message only where memory ran out
abbrev pub IsAnswerTo : List Text → Error → Type 0
IsAnswerTo words message = takes command_line words ≡ true → kind_of message ≡ kind.OutOfMemory

-- the words ask for help or the version, and are no command
abbrev pub AsksToTell : List Text → Job → Type 0
AsksToTell words (job.Tell text) = (takes command_line words ≢ true) × ((kind_of text ≡ kind.DisplayHelp) ⊎ (kind_of text ≡ kind.DisplayVersion))
AsksToTell words _ = ⊥

abbrev pub IsAsked : List Text → Command → Type 0
IsAsked words command = Gives (reading_of_words words) command ⊎ AsksToTell words command.job

-- clap doesn't take the words, or its reading gives no command
abbrev pub IsNoCommand : List Text → Type 0
IsNoCommand words = (takes command_line words ≢ true) ⊎ ((command : Command) → ¬ Gives (reading_of_words words) command)
