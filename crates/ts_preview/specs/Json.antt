-- A preview's lines for programs: each is a JSON object.
--     json_head            the first line, which names the text and its version
--     json_line o          an entry
--     json_total totals    the totals
use Rattle.std.specs.Prelude.{ℕ, ◌||◌, ◌==◌, if◌then◌else◌, List, [], ◌∷◌, ◌++◌, Option, Some, None, codes, decimal, flat_map}
use Rattle.ts_name.specs.Paths.{Path, path_text}
use Rattle.ts_model.specs.Plans.{source}
use Rattle.ts_model.specs.Texts.{Line, reason_text}
use Rattle.ts_model.specs.declared.plan.Reason.{Reason}
use Rattle.ts_model.specs.declared.plan.Side.{Side}
use Rattle.ts_model.specs.declared.plan.Side.TheVariants as side
use Rattle.ts_preview.specs.Changes.{change_word}
use Rattle.ts_preview.specs.declared.outlook.Outlook.{Outlook}
use Rattle.ts_preview.specs.declared.outlook.State.{State}
use Rattle.ts_preview.specs.declared.totals.Totals.{Totals}

abbrev pub json_head : Line
json_head = codes "{\"text\":\"twosync-preview 1\"}"

-- a backslash before each quotation mark and backslash; control characters are escaped in a path's text
abbrev pub json_byte : ℕ → List ℕ
json_byte b = if (b == 34) || (b == 92) then 92 ∷ b ∷ [] else b ∷ []

abbrev pub json_path : Path → List ℕ
json_path p = flat_map json_byte (path_text p)

-- the other replica than the source
abbrev pub target_of : Option Side → List ℕ
target_of (Some side.First) = codes "\"second\""
target_of (Some side.Second) = codes "\"first\""
target_of None = codes "null"

abbrev pub target_text : Reason → List ℕ
target_text r = target_of (source r)

abbrev pub json_state : State → List ℕ
json_state s = codes "{\"change\":\"" ++ change_word s.change ++ codes "\",\"files\":" ++ decimal s.files ++ codes ",\"bytes\":" ++ decimal s.bytes ++ codes "}"

abbrev pub json_front : Outlook → List ℕ
json_front o = codes "{\"path\":\"" ++ json_path o.path.now ++ codes "\",\"reason\":\"" ++ reason_text o.reason ++ codes "\",\"to\":" ++ target_text o.reason

abbrev pub json_copy : Outlook → List ℕ
json_copy o = codes ",\"change\":\"" ++ change_word o.change ++ codes "\",\"lost\":" ++ decimal o.lost

abbrev pub json_states : Outlook → List ℕ
json_states o = codes ",\"first\":" ++ json_state o.first ++ codes ",\"second\":" ++ json_state o.second ++ codes "}"

abbrev pub json_line : Outlook → Line
json_line o = json_front o ++ json_copy o ++ json_states o

abbrev pub json_losses : Totals → List ℕ
json_losses t = codes ",\"lost_in_first\":" ++ decimal t.lost_in_first ++ codes ",\"lost_in_second\":" ++ decimal t.lost_in_second ++ codes "}"

abbrev pub json_copied : Totals → List ℕ
json_copied t = codes "{\"entries\":" ++ decimal t.entries ++ codes ",\"to_first\":" ++ decimal t.to_first ++ codes ",\"to_second\":" ++ decimal t.to_second

abbrev pub json_rest : Totals → List ℕ
json_rest t = codes ",\"agreed\":" ++ decimal t.agreed ++ codes ",\"conflicts\":" ++ decimal t.conflicts ++ codes ",\"held\":" ++ decimal t.held

abbrev pub json_total : Totals → Line
json_total t = json_copied t ++ json_rest t ++ json_losses t
