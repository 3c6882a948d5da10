-- What a line reader gives of the bytes that it has left.
--     IsLine line            no line feed in it, and at most 16,384 bytes
--     HasNoLine bytes        there are bytes, but no line and its line feed at their front
--     Reading                a line reader, as contracts see it
--     Answers old r new      what a call that answers r does
use Rattle.std.specs.Prelude.{◌≡◌, ◌≢◌, ◌⊎◌, ℕ, ◌<◌, ◌≤◌, Bool, true, false, List, [], ◌∷◌, ◌++◌, length, take}
use Rattle.std.specs.Prelude.{slice_index, Option, Some, None, IfSome, Result, Ok, Err}
use Rattle.std.specs.Borrow.{Bor}
use Rattle.std.specs.List.{AllByRecursion}
use Rattle.std.specs.Io.KnownBytes.{Keeps, Consumes, IsAtEnd}
use Rattle.ts_text.specs.declared.fault.TextFault.{TextFault}
use Rattle.ts_text.specs.declared.fault.TextFault.TheVariants as fault
use Rattle.ts_text.specs.declared.state.State.{State}
use Rattle.ts_text.specs.declared.state.State.TheVariants.{Going, Ended, Refused}

pub record IsLine (line : List ℕ) : Type 0 where
  pub short : length line ≤ 16384
  pub one : AllByRecursion (λ b. b ≢ 10) line

pub record HasNoLine (bytes : List ℕ) : Type 0 where
  pub some : bytes ≢ []
  pub none : (line rest : List ℕ) → IsLine line → bytes ≢ line ++ 10 ∷ rest

-- the bytes that it has left, where its source tells them; the line that it stands at; its source's count of failures
pub record Reading : Type 0 where
  pub left : Option (List ℕ)
  pub line : List ℕ
  pub state : State
  pub failures : ℕ

-- what is left when a reader has ended, or refused what is left
abbrev pub StateFits : State → Option (List ℕ) → Type 0
StateFits Going left = Unit {0}
StateFits Ended left = IsAtEnd left
StateFits (Refused fault.OutOfMemory) left = ⊥
StateFits (Refused fault.Failed) left = Unit {0}
StateFits (Refused fault.NotCanonical) left = IfSome left HasNoLine

-- it stands at the next line, which was the front of what was left
pub record GivesLine (old new : Reading) : Type 0 where
  pub going : (old.state ≡ Going) × (new.state ≡ Going)
  pub line : IsLine new.line
  pub bytes : Consumes old.left new.left (new.line ++ 10 ∷ [])
  pub failures : new.failures ≡ old.failures

-- nothing was left
pub record HasEnded (old new : Reading) : Type 0 where
  pub state : new.state ≡ Ended
  pub kept : Keeps old.left new.left
  pub ended : IsAtEnd new.left
  pub failures : new.failures ≡ old.failures

-- the source failed now, or had failed before
pub record HasFailed (old new : Reading) : Type 0 where
  pub state : new.state ≡ Refused fault.Failed
  pub kept : Keeps old.left new.left
  pub failures : (old.state ≡ Refused fault.Failed) ⊎ (new.failures ≢ old.failures)

-- what is left doesn't begin with a line
pub record HasRefused (old new : Reading) : Type 0 where
  pub state : new.state ≡ Refused fault.NotCanonical
  pub kept : Keeps old.left new.left
  pub none : IfSome new.left HasNoLine
  pub failures : new.failures ≡ old.failures

-- whether there is a line
abbrev pub Answers : Reading → Result Bool TextFault → Reading → Type 0
Answers old (Ok true) new = GivesLine old new
Answers old (Ok false) new = HasEnded old new
Answers old (Err fault.OutOfMemory) new = ⊥
Answers old (Err fault.Failed) new = HasFailed old new
Answers old (Err fault.NotCanonical) new = HasRefused old new

-- the next line itself
abbrev pub AnswersLine : Reading → Result (Option (Bor (List ℕ))) TextFault → Reading → Type 0
AnswersLine old (Ok (Some line)) new = GivesLine old new × (line.now ≡ new.line)
AnswersLine old (Ok None) new = HasEnded old new
AnswersLine old (Err e) new = Answers old (Err e) new

-- whoever has ended or refused answers the same for good
abbrev pub Stays : State → Result Bool TextFault → Type 0
Stays Going r = Unit {0}
Stays Ended r = r ≡ Ok false
Stays (Refused e) r = r ≡ Err e

-- the same of an answer with the line
abbrev pub StaysLine : State → Result (Option (Bor (List ℕ))) TextFault → Type 0
StaysLine Going r = Unit {0}
StaysLine Ended r = r ≡ Ok None
StaysLine (Refused e) r = r ≡ Err e

-- what a search for the next line finds in the bytes that are held, before what the source has left
abbrev pub Finds : List ℕ → Option (List ℕ) → Result (Option ℕ) TextFault → Type 0
Finds held left (Ok (Some n)) = (n < length held) × (slice_index held n ≡ 10) × IsLine (take n held)
Finds held left (Ok None) = (held ≡ []) × IsAtEnd left
Finds held left (Err fault.OutOfMemory) = ⊥
Finds held left (Err fault.Failed) = Unit {0}
Finds held left (Err fault.NotCanonical) = IfSome left HasNoLine

-- the count of failures changes where the source failed, and only there
abbrev pub FailuresFit : {A : Type 0} → ℕ → ℕ → Result A TextFault → Type 0
FailuresFit old new (Ok x) = new ≡ old
FailuresFit old new (Err fault.OutOfMemory) = new ≡ old
FailuresFit old new (Err fault.Failed) = new ≢ old
FailuresFit old new (Err fault.NotCanonical) = new ≡ old
