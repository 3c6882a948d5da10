-- What the matcher's step over a pattern's bytes tells.
use Rattle.std.specs.Prelude.{◌≡◌, List, ◌∷◌, ◌++◌, map}
use Rattle.ts_name.specs.Paths.{Name}
use Rattle.ts_model.specs.Holds.{Fits}
use Rattle.ts_model.specs.declared.hold.Symbol.{Symbol}
use Rattle.ts_model.specs.declared.hold.Symbol.TheVariants.{Star, Byte}
use Rattle.ts_hold.specs.declared.pattern.Front.{Front}
use Rattle.ts_hold.specs.declared.pattern.Front.TheVariants.{Apart, Whole, AtStar}

-- past the same bytes of both, symbols is what is left of the pattern, and bytes of the name
pub record Passed (pattern : List Symbol) (name : Name) (symbols : List Symbol) (bytes : Name) : Type 0 where
  pub front : Name
  pub pattern_is : pattern ≡ map Byte front ++ symbols
  pub name_is : name ≡ front ++ bytes

abbrev pub FrontGives : List Symbol → Name → Front → Type 0
FrontGives pattern name Apart = ¬ Fits pattern name
FrontGives pattern name Whole = Fits pattern name
FrontGives pattern name (AtStar rest left) = Passed pattern name (Star ∷ rest.now) left.now
