-- The lines of a bundle up to some line of each part.
--     archive_lines a, first_lines a f, ..    the lines through these of the part, the parts before it whole
--     fed part                                the lines that were taken
--     PartFits part                           what was taken is a bundle's beginning, but for lines of the last part
use Rattle.std.specs.Prelude.{◌≢◌, ℕ, List, [], ◌∷◌, ◌++◌, map, codes}
use Rattle.std.specs.List.{AllByRecursion}
use Rattle.ts_model.specs.Trees.{Listing}
use Rattle.ts_model.specs.Texts.{Line, tree_lines, print_lines, rule_line, IsTreeBody, IsPrintBody, IsRules}
use Rattle.ts_model.specs.declared.row.Stamp.{Stamp}
use Rattle.ts_model.specs.declared.hold.Rule.{Rule}
use Rattle.ts_plan.specs.Progress as progress
use Rattle.ts_bundle.specs.declared.reader.Part.{Part}
use Rattle.ts_bundle.specs.declared.reader.Part.TheVariants as part

abbrev pub archive_lines : List Line → List Line
archive_lines lines = codes "twosync-bundle 1" ∷ codes "archive" ∷ lines

abbrev pub first_lines : Listing Stamp → List Line → List Line
first_lines a lines = archive_lines (print_lines a) ++ codes "first" ∷ lines

abbrev pub second_lines : Listing Stamp → Listing (List ℕ) → List Line → List Line
second_lines a f lines = first_lines a (tree_lines f) ++ codes "second" ∷ lines

abbrev pub holds_lines : Listing Stamp → Listing (List ℕ) → Listing (List ℕ) → List Line → List Line
holds_lines a f s lines = second_lines a f (tree_lines s) ++ codes "holds" ∷ lines

abbrev pub plan_part_lines : Listing Stamp → Listing (List ℕ) → Listing (List ℕ) → List Rule → List Line → List Line
plan_part_lines a f s h lines = holds_lines a f s (map rule_line h) ++ codes "plan" ∷ lines

abbrev pub fed : Part → List Line
fed part.Start = []
fed part.Title = codes "twosync-bundle 1" ∷ []
fed (part.Archive reader) = archive_lines reader
fed (part.First a reader) = first_lines a reader
fed (part.Second a f reader) = second_lines a f reader
fed (part.Holds a f s rules) = holds_lines a f s (map rule_line rules)
fed (part.Plan a f s h reader) = plan_part_lines a f s h (progress.fed reader)

-- the title isn't among the lines
abbrev pub Without : Line → List Line → Type 0
Without title lines = AllByRecursion (λ l. l ≢ title) lines

abbrev pub PartFits : Part → Type 0
PartFits part.Start = Unit {0}
PartFits part.Title = Unit {0}
PartFits (part.Archive reader) = Without (codes "first") reader
PartFits (part.First a reader) = IsPrintBody a × Without (codes "second") reader
PartFits (part.Second a f reader) = IsPrintBody a × IsTreeBody f × Without (codes "holds") reader
PartFits (part.Holds a f s rules) = IsPrintBody a × IsTreeBody f × IsTreeBody s × IsRules rules
PartFits (part.Plan a f s h reader) = IsPrintBody a × IsTreeBody f × IsTreeBody s × IsRules h
