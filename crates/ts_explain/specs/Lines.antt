-- Lines that report faults, and the sentences before them.
--     with_sentence explain sentence line   the line, and the sentence before it where that is asked for
--     sentence_lines command fault          the sentence alone, where the command asks for it
--     BeginsLines old new lines             nothing was written where there are no lines, else as much of them as could be
--     fault_lines command fault             what is reported of a fault of a command: its line, and its sentence before it where the command asks for that
use Rattle.std.specs.Prelude.{◌≡◌, ℕ, Bool, true, false, if◌then◌else◌, List, [], ◌∷◌, Option}
use Rattle.ts_command.specs.declared.job.Command.{Command}
use Rattle.ts_model.specs.Texts.{Line, text}
use Rattle.ts_text.specs.Sources.{AppendsFront}
use Rattle.ts_explain.specs.Faults.{fault_line, fault_number, told_path}
use Rattle.ts_explain.specs.Sentences.{sentence_of}
use Rattle.ts_explain.specs.declared.fault.PerformFault.{PerformFault}

abbrev pub with_sentence : Bool → Line → Line → List Line
with_sentence true sentence line = sentence ∷ line ∷ []
with_sentence false sentence line = line ∷ []

abbrev pub fault_lines : Command → PerformFault → List Line
fault_lines command fault = with_sentence command.explain (sentence_of command.job fault) (fault_line (fault_number fault) (told_path fault))

abbrev pub sentence_lines : Command → PerformFault → List Line
sentence_lines command fault = if command.explain then sentence_of command.job fault ∷ [] else []

abbrev pub BeginsLines : (old new : Option (List ℕ)) → List Line → Type 0
BeginsLines old new [] = new ≡ old
BeginsLines old new (line ∷ lines) = AppendsFront old new (text (line ∷ lines))
