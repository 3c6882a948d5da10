-- The lines of a plan, one by one.
--     line_text l       how a line is spelled
--     LineFits l        its numbers and its path are lawful
use Rattle.std.specs.Prelude.{◌≡◌, ◌≢◌, ℕ, ◌^◌, ◌<◌, List, [], ◌∷◌, codes, decimal, Result, Ok, Err}
use Rattle.ts_model.specs.Texts.{Line, words, entry_line, kind_line, pred_line, PathFits, KindFits}
use Rattle.ts_plan.specs.declared.line.PlanLine.{PlanLine}
use Rattle.ts_plan.specs.declared.line.PlanLine.TheVariants as line
use Rattle.ts_plan.specs.declared.fault.PlanFault.{PlanFault}
use Rattle.ts_plan.specs.declared.fault.PlanFault.TheVariants.{OutOfMemory, Failed, NotCanonical, PastLimit}

abbrev pub line_text : PlanLine → Line
line_text line.Header = codes "twosync-plan 1"
line_text (line.Entry e) = entry_line e
line_text (line.Action kind) = kind_line kind
line_text (line.Pred j) = pred_line j
line_text (line.End m n) = words (codes "end" ∷ decimal m ∷ decimal n ∷ [])

abbrev pub LineFits : PlanLine → Type 0
LineFits line.Header = Unit {0}
LineFits (line.Entry e) = PathFits e.path
LineFits (line.Action kind) = KindFits kind
LineFits (line.Pred j) = j < 2 ^ 32
LineFits (line.End m n) = (m < 2 ^ 64) × (n < 2 ^ 64)

-- the line that the bytes spell, or that they spell none
abbrev pub ReadsLine : List ℕ → Result PlanLine PlanFault → Type 0
ReadsLine bytes (Ok l) = LineFits l × (bytes ≡ line_text l)
ReadsLine bytes (Err OutOfMemory) = Unit {0}
ReadsLine bytes (Err Failed) = ⊥
ReadsLine bytes (Err NotCanonical) = (l : PlanLine) → LineFits l → bytes ≢ line_text l
ReadsLine bytes (Err PastLimit) = ⊥
