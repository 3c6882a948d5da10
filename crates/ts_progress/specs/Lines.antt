-- What a progress line says.
--     IsPrintable b          an ASCII character that isn't a control character
--     rate_text bytes ms     bytes a second
--     left_text s            what is left, where that can be told
--     line_text s            the line: the phase, what is done of what is expected, the rate, and what is left
use Rattle.std.specs.Prelude.{ℕ, ◌-◌, ◌*◌, ◌/◌, ◌^◌, ◌≤◌, List, [], ◌++◌, if◌then◌else◌, codes, min, nat_lt}
use Rattle.ts_progress.specs.Numbers.{duration_text, grouped, size_text}
use Rattle.ts_progress.specs.declared.line.Amount.{Amount}
use Rattle.ts_progress.specs.declared.line.Phase.TheVariants as phase
use Rattle.ts_progress.specs.declared.line.Phase.{Phase}
use Rattle.ts_progress.specs.declared.line.Standing.{Standing}

abbrev pub IsPrintable : ℕ → Type 0
IsPrintable b = (32 ≤ b) × (b ≤ 126)

-- of a product as a u64 has it, which stops at the largest
abbrev pub product : ℕ → ℕ → ℕ
product n m = min (n * m) (2 ^ 64 - 1)

-- nothing within the first millisecond
abbrev pub rate_text : ℕ → ℕ → List ℕ
rate_text bytes ms = if nat_lt 0 ms then codes ", " ++ size_text (product bytes 1000 / ms) ++ codes "/s" else []

-- as long as the bytes so far took, for those that are left
abbrev pub left_text : ℕ → ℕ → ℕ → List ℕ
left_text done all ms =
    if nat_lt 0 done then (if nat_lt done all then codes ", " ++ duration_text (product (all - done) ms / done / 1000) ++ codes " left" else [])
    else []

abbrev pub files_text : ℕ → List ℕ
files_text n = grouped n ++ (if nat_lt 1 n then codes " files" else if nat_lt 0 n then codes " file" else codes " files")

abbrev pub scan_text : Amount → ℕ → List ℕ
scan_text done ms = codes "scanning: " ++ files_text done.steps ++ codes ", " ++ size_text done.bytes ++ rate_text done.bytes ms

abbrev pub all_paths_text : ℕ → List ℕ
all_paths_text all = codes " of " ++ grouped all ++ codes " paths"

abbrev pub flush_text : ℕ → ℕ → List ℕ
flush_text done all = codes "flushing: " ++ grouped done ++ all_paths_text all

abbrev pub all_actions_text : ℕ → List ℕ
all_actions_text all = codes " of " ++ grouped all ++ codes " actions, "

abbrev pub actions_text : ℕ → ℕ → List ℕ
actions_text done all = codes "carrying out: " ++ grouped done ++ all_actions_text all

abbrev pub bytes_text : ℕ → ℕ → List ℕ
bytes_text done all = size_text done ++ codes " of " ++ size_text all

abbrev pub run_text : Amount → Amount → ℕ → List ℕ
run_text done all ms =
    actions_text done.steps all.steps ++ bytes_text done.bytes all.bytes ++ rate_text done.bytes ms ++ left_text done.bytes all.bytes ms

abbrev pub text_in : Phase → Standing → List ℕ
text_in phase.Scanning s = scan_text s.done s.elapsed
text_in phase.Checking s = codes "checking the plan"
text_in phase.Flushing s = flush_text s.done.steps s.expected.steps
text_in phase.CarryingOut s = run_text s.done s.expected s.elapsed

abbrev pub line_text : Standing → List ℕ
line_text s = text_in s.phase s
