-- The lines of a preview.
--     preview_lines form all    what stands above it, a line for each entry, and the totals
use Rattle.std.specs.Prelude.{List, [], ◌∷◌, ◌++◌}
use Rattle.ts_model.specs.Texts.{Line}
use Rattle.ts_preview.specs.Json.{json_head, json_line, json_total}
use Rattle.ts_preview.specs.People.{coloured_line, people_head, people_line, people_total}
use Rattle.ts_preview.specs.Totals.{totals_of}
use Rattle.ts_preview.specs.declared.outlook.Outlook.{Outlook}
use Rattle.ts_preview.specs.declared.totals.Totals.{Totals}
use Rattle.ts_preview.specs.declared.writing.Form.{Form}
use Rattle.ts_preview.specs.declared.writing.Form.TheVariants.{People, Coloured, Json}

abbrev pub head_line : Form → Line
head_line People = people_head
head_line Coloured = people_head
head_line Json = json_head

abbrev pub outlook_line : Form → Outlook → Line
outlook_line People o = people_line o
outlook_line Coloured o = coloured_line o
outlook_line Json o = json_line o

abbrev pub total_line : Form → Totals → Line
total_line People totals = people_total totals
total_line Coloured totals = people_total totals
total_line Json totals = json_total totals

abbrev pub outlook_lines : Form → List Outlook → List Line
outlook_lines form [] = []
outlook_lines form (o ∷ all) = outlook_line form o ∷ outlook_lines form all

abbrev pub preview_lines : Form → List Outlook → List Line
preview_lines form all = head_line form ∷ (outlook_lines form all ++ total_line form (totals_of all) ∷ [])
