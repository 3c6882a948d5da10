-- Hold rules, and the paths that they hold.
--     Rule              one path, or every path whose last name fits a pattern
--     Fits pattern name the name fits; `Star` stands for any bytes or none
--     Names rules p     some rule names the path
--     IsHeld            a path that is present in a replica or in the archive and that a rule names
use Rattle.std.specs.Prelude.{◌≡◌, ◌≢◌, ◌⊎◌, List, [], ◌∷◌, ◌++◌, Any}
use Rattle.ts_name.specs.Paths.{Name, Path}
use Rattle.ts_model.specs.declared.row.Content.TheVariants.{Absent}
use Rattle.ts_model.specs.Trees.{Print}
use Rattle.ts_model.specs.declared.hold.Symbol.{Symbol}
use Rattle.ts_model.specs.declared.hold.Symbol.TheVariants.{Star, Byte}
use Rattle.ts_model.specs.declared.hold.Rule.{Rule}
use Rattle.ts_model.specs.declared.hold.Rule.TheVariants.{OnePath, LastName}

abbrev pub Fits : List Symbol → Name → Type 0
Fits [] [] = Unit {0}
Fits [] (x ∷ xs) = ⊥
Fits (Byte b ∷ symbols) [] = ⊥
Fits (Byte b ∷ symbols) (x ∷ xs) = (b ≡ x) × Fits symbols xs
Fits (Star ∷ symbols) xs = (front : Name) × (rest : Name) × (xs ≡ front ++ rest) × Fits symbols rest

abbrev pub RuleNames : Path → Rule → Type 0
RuleNames p (OnePath path) = p ≡ path
RuleNames p (LastName pattern) = (parent : Path) × (name : Name) × (p ≡ parent ++ name ∷ []) × Fits pattern name

abbrev pub Names : List Rule → Path → Type 0
Names rules p = Any (RuleNames p) rules

abbrev pub IsPresent : Print → Path → Type 0
IsPresent t p = t p ≢ Absent

pub record IsHeld (rules : List Rule) (archive first second : Print) (p : Path) : Type 0 where
  pub present : IsPresent first p ⊎ (IsPresent second p ⊎ IsPresent archive p)
  pub named : Names rules p
