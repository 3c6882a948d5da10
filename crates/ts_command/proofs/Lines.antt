-- What clap reads of words for the command line.
use Rattle.std.proofs.Common.{◌≡◌, ◌∙◌, ap, refl, true, List}
use Rattle.clap.specs.Words.{App, HasMatchesOf, Text, is_simple, subcommand_of, subcommand_rows_of}
use Rattle.clap.specs.declared.parser.matches.ArgMatches.{ArgMatches}
use Rattle.clap.proofs.OnLiterals.{clap_on_literals}
use Rattle.ts_command.specs.CommandLine.{command_line}
use Rattle.ts_command.specs.Readings.{reading_of_words}

pub line_is_simple : is_simple command_line ≡ true
unfolding clap_on_literals
line_is_simple = refl

-- what clap found is what the command line makes of the words
pub reads_words : (words : List Text) (a : App) (m : ArgMatches) → a ≡ command_line → HasMatchesOf a words m → subcommand_rows_of m ≡ reading_of_words words
reads_words words a m line has = (has (ap is_simple line ∙ line_is_simple)).1 ∙ ap (λ b. subcommand_of b words) line
