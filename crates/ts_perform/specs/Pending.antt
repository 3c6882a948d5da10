-- What commands that only look say of a run that was stopped.
--     pending_lines job first second      a sentence for each replica of which it is so that a stopped run isn't brought to its end there
--     SaysPending awaits command pair ..  such sentences were written where the command asks for sentences, as far as they could be; else nothing was
--     PrintsPending, JudgesPending        that, and then what the command prints or judges
--     AnswersPending, AnswersVerdictPending  that, and then what the command answers
use Rattle.std.specs.Prelude.{◌≡◌, ℕ, Bool, true, false, IsTrue, List, [], ◌∷◌, ◌++◌, Option, Result}
use Rattle.ts_check.specs.Checkup.{Checkup}
use Rattle.ts_command.specs.declared.job.Command.{Command}
use Rattle.ts_command.specs.declared.job.Job.{Job}
use Rattle.ts_command.specs.declared.job.Pair.{Pair}
use Rattle.ts_explain.specs.Sentences.{pending_text}
use Rattle.ts_explain.specs.declared.fault.PerformFault.{PerformFault}
use Rattle.ts_explain.specs.declared.subject.Subject.{Subject}
use Rattle.ts_explain.specs.declared.subject.Subject.TheVariants.{First, Second}
use Rattle.ts_model.specs.Texts.{Line, text}
use Rattle.ts_text.specs.Sources.{AppendsFront}
use Rattle.ts_perform.specs.Runs.{AnswersOne, AnswersVerdict}
use Rattle.ts_perform.specs.Snapshots.{Judges, Prints}

-- whether it was said of a root
abbrev pub Awaits : Type 1
Awaits = List ℕ → Bool → Type 0

abbrev pub pending_line : Job → Subject → Bool → List Line
pending_line job what true = pending_text job what ∷ []
pending_line job what false = []

abbrev pub pending_lines : Job → Bool → Bool → List Line
pending_lines job first second = pending_line job First first ++ pending_line job Second second

pub record SaysPending (awaits : Awaits) (command : Command) (pair : Pair) (old new : Option (List ℕ)) : Type 0 where
  pub first : Bool
  pub second : Bool
  pub in_first : IsTrue first → awaits pair.first.now true
  pub in_second : IsTrue second → awaits pair.second.now true
  pub said : AppendsFront old new (text (pending_lines command.job first second))
  pub quiet : ¬ IsTrue command.explain → new ≡ old

abbrev pub PrintsPending : Awaits → Command → Pair → (List ℕ → ℕ → Type 0) → (old new old_faults new_faults : Option (List ℕ)) → Result ℕ PerformFault → Type 0
PrintsPending awaits command pair Says old new old_faults new_faults result = Prints Says old new result × SaysPending awaits command pair old_faults new_faults

abbrev pub JudgesPending : Awaits → Command → Pair → (Checkup → Type 0) → (old new old_faults new_faults : Option (List ℕ)) → Result ℕ PerformFault → Type 0
JudgesPending awaits command pair Is old new old_faults new_faults result = Judges Is old new result × SaysPending awaits command pair old_faults new_faults

abbrev pub AnswersPending : Awaits → Command → Pair → (List ℕ → ℕ → Type 0) → (old new old_faults new_faults : Option (List ℕ)) → ℕ → Type 0
AnswersPending awaits command pair Says old new old_faults new_faults status =
    (mid_faults : Option (List ℕ)) × SaysPending awaits command pair old_faults mid_faults × AnswersOne command Says old new mid_faults new_faults status

abbrev pub AnswersVerdictPending : Awaits → Command → Pair → (Checkup → Type 0) → (old new old_faults new_faults : Option (List ℕ)) → ℕ → Type 0
AnswersVerdictPending awaits command pair Is old new old_faults new_faults status =
    (mid_faults : Option (List ℕ)) × SaysPending awaits command pair old_faults mid_faults × AnswersVerdict command Is old new mid_faults new_faults status
