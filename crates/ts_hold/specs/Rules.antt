-- What rules that are read line by line say, and how their text is spelled.
use Rattle.std.specs.Prelude.{◌≡◌, ◌⊎◌, ℕ, ◌+◌, List, [], ◌∷◌, ◌++◌, length, Result, Ok, Err}
use Rattle.ts_model.specs.declared.hold.Rule.{Rule}
use Rattle.ts_model.specs.Texts.{Line, IsBadLine}
use Rattle.ts_hold.specs.Lines.{IsRuleLine, IsNoRuleLine}
use Rattle.ts_hold.specs.declared.faults.HoldFault.{HoldFault}
use Rattle.ts_hold.specs.declared.faults.HoldFault.TheVariants.{OutOfMemory, BadRule}

-- the line is that of one rule, which came last
pub record AddsRule (before : List Rule) (line : Line) (after : List Rule) : Type 0 where
  pub rule : Rule
  pub spelled : IsRuleLine line rule
  pub added : after ≡ before ++ rule ∷ []

-- the fault has the number of the line after those of the rules
abbrev pub TellsNextLine : List Rule → HoldFault → Type 0
TellsNextLine rules OutOfMemory = ⊥
TellsNextLine rules (BadRule line) = line ≡ length rules + 1

-- there are as many rules as there may be, or the line is none of a rule
abbrev pub RefusesLine : List Rule → Line → HoldFault → Type 0
RefusesLine rules line OutOfMemory = Unit {0}
RefusesLine rules line (BadRule number) = (number ≡ length rules + 1) × ((length rules ≡ 4096) ⊎ IsNoRuleLine line)

abbrev pub TellsBadLine : List ℕ → HoldFault → Type 0
TellsBadLine text OutOfMemory = Unit {0}
TellsBadLine text (BadRule number) = IsBadLine text number

-- these rules, unless memory runs out
abbrev pub GivesRules : List Rule → Result (List Rule) HoldFault → Type 0
GivesRules rules (Ok found) = found ≡ rules
GivesRules rules (Err fault) = fault ≡ OutOfMemory
