-- Paths that can't be synchronized, and the rules that hold them.
--     AreSpecials finds_special pair paths where the pair asks for it, they are what was found special below each root; else there are none
--     IsWithoutRule what rules path fault  why a path of this replica gets no rule beside these: memory ran out, or there are as many as there may be
--     holder_of first path                 the replica that has a special path: the first one where the path is among these of its own
--     IsCrowdedOut first rules paths fault some of the paths gets no rule beside these and those of the paths before it
--     rules_of paths                       a rule of one path for each of them, in their order, each once: first those of the first replica
use Rattle.std.specs.Prelude.{◌≡◌, ◌⊎◌, ℕ, IsTrue, if◌then◌else◌, List, [], ◌∷◌, ◌++◌, length, map}
use Rattle.ts_command.specs.declared.job.Pair.{Pair}
use Rattle.ts_model.specs.declared.hold.Rule.{Rule}
use Rattle.ts_model.specs.declared.hold.Rule.TheVariants.{OnePath}
use Rattle.ts_name.specs.Paths.{Path}
use Rattle.ts_cause.specs.declared.cause.Cause.TheVariants.{Unknown}
use Rattle.ts_scan.specs.declared.fault.Refusal.TheVariants.{Unreadable}
use Rattle.ts_scan.specs.declared.fault.ScanFault.TheVariants.{At}
use Rattle.ts_special.specs.Specials.{is_among, joined}
use Rattle.ts_explain.specs.declared.fault.PerformFault.{PerformFault}
use Rattle.ts_explain.specs.declared.fault.PerformFault.TheVariants as fault
use Rattle.ts_explain.specs.declared.subject.Subject.{Subject}
use Rattle.ts_explain.specs.declared.subject.Subject.TheVariants.{First, Second}
use Rattle.ts_perform.specs.declared.special.SpecialPaths.{SpecialPaths}

-- these paths were found special below a root
abbrev pub FindsSpecial : Type 1
FindsSpecial = List ℕ → List Path → Type 0

abbrev pub no_paths : SpecialPaths
no_paths = record { first = []; second = [] }

pub record AreSpecials (finds_special : FindsSpecial) (pair : Pair) (paths : SpecialPaths) : Type 0 where
  pub first : IsTrue pair.hold_special → finds_special pair.first.now paths.first
  pub second : IsTrue pair.hold_special → finds_special pair.second.now paths.second
  pub none : ¬ IsTrue pair.hold_special → paths ≡ no_paths

-- the root has no rule, and no path that is searched for is the root
abbrev pub IsWithoutRule : Subject → List Rule → Path → PerformFault → Type 0
IsWithoutRule what rules path e = (e ≡ fault.OutOfMemory) ⊎ (((length rules ≡ 4096) ⊎ (path ≡ [])) × (e ≡ fault.Scan what (At path Unreadable) Unknown))

abbrev pub holder_of : List Path → Path → Subject
holder_of first path = if is_among first path then First else Second

abbrev pub IsCrowdedOut : List Path → List Rule → List Path → PerformFault → Type 0
IsCrowdedOut first rules paths e =
    (e ≡ fault.OutOfMemory)
    ⊎ ((before : List Path) × (path : Path) × (after : List Path) × (paths ≡ before ++ path ∷ after)
    × IsWithoutRule (holder_of first path) (rules ++ map OnePath before) path e)

abbrev pub rules_of : SpecialPaths → List Rule
rules_of paths = map OnePath (joined paths.first paths.second)
