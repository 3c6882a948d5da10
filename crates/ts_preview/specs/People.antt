-- A preview's lines for people.
--     people_head           what stands above the columns
--     people_line o         an entry: where it goes, what becomes of it, how many files and bytes, its path, and for one that is skipped what changed on each side
--     coloured_line o       the same, with where it goes in a colour: green what is copied, red what is deleted, yellow a conflict, cyan what is held
--     people_total totals   the totals
use Rattle.std.specs.Prelude.{ℕ, List, [], ◌∷◌, ◌++◌, Option, Some, None, codes, decimal, option_map}
use Rattle.ts_name.specs.Paths.{path_text}
use Rattle.ts_model.specs.Plans.{other, source}
use Rattle.ts_model.specs.Sync.{treatment}
use Rattle.ts_model.specs.Texts.{Line}
use Rattle.ts_model.specs.declared.plan.Reason.{Reason}
use Rattle.ts_model.specs.declared.plan.Reason.TheVariants as reason
use Rattle.ts_model.specs.declared.plan.Side.{Side}
use Rattle.ts_model.specs.declared.plan.Side.TheVariants as side
use Rattle.ts_model.specs.declared.plan.Treatment.{Treatment}
use Rattle.ts_model.specs.declared.plan.Treatment.TheVariants.{Copied, Agreed, NewDirectory, Skipped}
use Rattle.ts_preview.specs.Changes.{change_word}
use Rattle.ts_preview.specs.Columns.{pad_left, pad_right}
use Rattle.ts_preview.specs.Names.{shown}
use Rattle.ts_preview.specs.declared.change.Change.{Change}
use Rattle.ts_preview.specs.declared.change.Change.TheVariants as change
use Rattle.ts_preview.specs.declared.outlook.Outlook.{Outlook}
use Rattle.ts_preview.specs.declared.outlook.State.{State}
use Rattle.ts_preview.specs.declared.totals.Totals.{Totals}

abbrev pub people_head : Line
people_head = codes "what       change                    files             bytes  path"

abbrev pub place_word : Reason → List ℕ
place_word reason.First = codes "to second"
place_word reason.Second = codes "to first"
place_word reason.Same = codes "agreed"
place_word reason.Dir = codes "agreed"
place_word reason.Conflict = codes "conflict"
place_word reason.Held = codes "held"

-- what becomes of a copied path; of one on which both replicas agree, what became of it in both
abbrev pub change_by : Treatment → Outlook → List ℕ
change_by (Copied from) o = change_word o.change
change_by Agreed o = change_word o.first.change
change_by NewDirectory o = change_word o.first.change
change_by Skipped o = codes "-"

abbrev pub change_shown : Outlook → List ℕ
change_shown o = change_by (treatment o.reason) o

abbrev pub state_on : Side → Outlook → State
state_on side.First o = o.first
state_on side.Second o = o.second

-- the source's, and of what is deleted the target's
abbrev pub amount_side : Change → Side → Side
amount_side change.Deleted from = other from
amount_side _ from = from

abbrev pub amount : Outlook → Option State
amount o = option_map (λ from. state_on (amount_side o.change from) o) (source o.reason)

abbrev pub amount_text : Option State → List ℕ
amount_text None = pad_left 9 (codes "-") ++ pad_left 18 (codes "-") ++ codes "  "
amount_text (Some state) = pad_left 9 (decimal state.files) ++ pad_left 18 (decimal state.bytes) ++ codes "  "

abbrev pub why_by : Treatment → Outlook → List ℕ
why_by (Copied from) o = []
why_by Agreed o = []
why_by NewDirectory o = []
why_by Skipped o = codes " (first " ++ change_word o.first.change ++ codes ", second " ++ change_word o.second.change ++ codes ")"

-- what changed on each side
abbrev pub why : Outlook → List ℕ
why o = why_by (treatment o.reason) o

abbrev pub place_column : Outlook → List ℕ
place_column o = pad_right 11 (place_word o.reason)

-- what stands behind where it goes
abbrev pub details : Outlook → List ℕ
details o = pad_right 22 (change_shown o) ++ amount_text (amount o) ++ shown 0 (path_text o.path.now) ++ why o

abbrev pub people_line : Outlook → Line
people_line o = place_column o ++ details o

-- how a terminal goes over to a colour, by its number, and to its own again
abbrev pub colour_code : List ℕ → List ℕ
colour_code number = 27 ∷ codes "[" ++ number ++ codes "m"

abbrev pub copied_colour : Change → List ℕ
copied_colour change.Deleted = colour_code (codes "31")
copied_colour _ = colour_code (codes "32")

abbrev pub colour_by : Reason → Change → List ℕ
colour_by reason.First c = copied_colour c
colour_by reason.Second c = copied_colour c
colour_by reason.Same c = []
colour_by reason.Dir c = []
colour_by reason.Conflict c = colour_code (codes "33")
colour_by reason.Held c = colour_code (codes "36")

-- on what both replicas agree has none
abbrev pub colour : Outlook → List ℕ
colour o = colour_by o.reason o.change

abbrev pub coloured_line : Outlook → Line
coloured_line o = colour o ++ place_column o ++ colour_code (codes "0") ++ details o

abbrev pub losses : Totals → List ℕ
losses t = codes "; files lost in first " ++ decimal t.lost_in_first ++ codes ", in second " ++ decimal t.lost_in_second

abbrev pub copied : Totals → List ℕ
copied t = codes "total " ++ decimal t.entries ++ codes ": to first " ++ decimal t.to_first ++ codes ", to second " ++ decimal t.to_second

abbrev pub not_copied : Totals → List ℕ
not_copied t = codes ", agreed " ++ decimal t.agreed ++ codes ", conflicts " ++ decimal t.conflicts ++ codes ", held " ++ decimal t.held

abbrev pub people_total : Totals → Line
people_total t = copied t ++ not_copied t ++ losses t
