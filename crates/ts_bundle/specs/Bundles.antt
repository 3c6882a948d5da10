-- What a bundle of the program says.
--     values b               its parts
--     SpellsBundle lines b   the lines are the bundle's
--     BeginsNoBundle lines   no bundle's lines begin with these
--     SpellsNoBundle lines   no bundle's lines are these
use Rattle.std.specs.Prelude.{◌≡◌, ◌≢◌, List, ◌++◌}
use Rattle.ts_model.specs.Texts.{Line, Bundle, bundle_lines, IsBundle}
use Rattle.ts_bundle.specs.declared.bundle.Bundle.{Bundle as Held}

abbrev pub values : Held → Bundle
values b = record { archive = b.archive; first = b.first; second = b.second; rules = b.holds; plan = b.plan }

abbrev pub BeginsNoBundle : List Line → Type 0
BeginsNoBundle lines = (b : Bundle) (rest : List Line) → IsBundle b → bundle_lines b ≢ lines ++ rest

abbrev pub SpellsNoBundle : List Line → Type 0
SpellsNoBundle lines = (b : Bundle) → IsBundle b → bundle_lines b ≢ lines

pub record SpellsBundle (lines : List Line) (b : Held) : Type 0 where
  pub bundle : IsBundle (values b)
  pub spelled : bundle_lines (values b) ≡ lines
