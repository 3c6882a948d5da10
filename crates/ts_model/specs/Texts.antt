-- How each value is spelled. A text is lines, each ended by a line feed; a line is words parted by one space.
--     tree_lines, print_lines       bodies
--     archive_text                  the archive file
--     HasWrongEnd, IsBadLine        what is wrong with an archive's end line, and with a rule's line
--     rule_lines, plan_lines        hold rules and plans
--     IsTreeText bytes rows, IsPrintText, IsArchiveText, IsRulesText, IsPlanText, IsBundleText      the bytes spell the value, which is within the limits
use Rattle.std.specs.Prelude.{◌≡◌, ◌≢◌, ◌⊎◌, ℕ, zero, suc, ◌+◌, ◌/◌, ◌<◌, ◌≤◌, ◌^◌, ◌==◌, if◌then◌else◌, codes, decimal}
use Rattle.std.specs.Prelude.{List, [], ◌∷◌, ◌++◌, length, map, flat_map, take, drop}
use Rattle.std.specs.List.{AllByRecursion, join_with_byte}
use Rattle.hex.specs.Hex.{encode_lower}
use Rattle.sha2.specs.Sha256.{sha256}
use Rattle.ts_name.specs.Paths.{Path, IsPath, path_text, byte_text}
use Rattle.ts_model.specs.declared.row.Content.{Content}
use Rattle.ts_model.specs.declared.row.Content.TheVariants.{Absent, Dir, File}
use Rattle.ts_model.specs.declared.row.Stamp.{Stamp}
use Rattle.ts_model.specs.Trees.{Listing, IsListing}
use Rattle.ts_model.specs.declared.hold.Symbol.{Symbol}
use Rattle.ts_model.specs.declared.hold.Symbol.TheVariants.{Star, Byte}
use Rattle.ts_model.specs.declared.hold.Rule.{Rule}
use Rattle.ts_model.specs.declared.hold.Rule.TheVariants.{OnePath, LastName}
use Rattle.ts_model.specs.Plans.{WithinLimits}
use Rattle.ts_model.specs.declared.plan.Reason.{Reason}
use Rattle.ts_model.specs.declared.plan.Reason.TheVariants as reason
use Rattle.ts_model.specs.declared.plan.Entry.{Entry}
use Rattle.ts_model.specs.declared.plan.Kind.{Kind}
use Rattle.ts_model.specs.declared.plan.Kind.TheVariants.{Piece, Commit, Mark}
use Rattle.ts_model.specs.declared.plan.Action.{Action}
use Rattle.ts_model.specs.declared.plan.Plan.{Plan}

abbrev pub Line : Type 0
Line = List ℕ

abbrev pub text : List Line → List ℕ
text lines = flat_map (λ l. l ++ 10 ∷ []) lines

abbrev pub words : List (List ℕ) → Line
words ws = join_with_byte 32 ws

abbrev pub IsBytes : List ℕ → Type 0
IsBytes bytes = AllByRecursion (λ b. b < 256) bytes

-- ---- bodies. No line of a value is longer than a line may be

-- 64 bytes on each line but the last
abbrev pub data_lines : ℕ → List ℕ → List Line
data_lines zero bytes = []
data_lines (suc n) bytes = words (codes "x" ∷ encode_lower (take 64 bytes) ∷ []) ∷ data_lines n (drop 64 bytes)

abbrev pub tree_row_lines : Path → Content (List ℕ) → List Line
tree_row_lines p Absent = []
tree_row_lines p Dir = words (codes "d" ∷ path_text p ∷ []) ∷ []
tree_row_lines p (File bytes) = words (codes "f" ∷ path_text p ∷ decimal (length bytes) ∷ []) ∷ data_lines ((length bytes + 63) / 64) bytes

abbrev pub tree_lines : Listing (List ℕ) → List Line
tree_lines rows = flat_map (λ row. tree_row_lines row.path row.content) rows

abbrev pub print_row_lines : Path → Content Stamp → List Line
print_row_lines p Absent = []
print_row_lines p Dir = words (codes "d" ∷ path_text p ∷ []) ∷ []
print_row_lines p (File stamp) = words (codes "f" ∷ path_text p ∷ decimal stamp.size ∷ encode_lower stamp.digest ∷ []) ∷ []

abbrev pub print_lines : Listing Stamp → List Line
print_lines rows = flat_map (λ row. print_row_lines row.path row.content) rows

abbrev pub FileFits : Content (List ℕ) → Type 0
FileFits Absent = Unit {0}
FileFits Dir = Unit {0}
FileFits (File bytes) = IsBytes bytes × (length bytes < 2 ^ 64)

abbrev pub StampFits : Content Stamp → Type 0
StampFits Absent = Unit {0}
StampFits Dir = Unit {0}
StampFits (File stamp) = (stamp.size < 2 ^ 64) × IsBytes stamp.digest × (length stamp.digest ≡ 32)

pub record IsTreeBody (rows : Listing (List ℕ)) : Type 0 where
  pub listing : IsListing rows
  pub files : AllByRecursion (λ row. FileFits row.content) rows

pub record IsPrintBody (rows : Listing Stamp) : Type 0 where
  pub listing : IsListing rows
  pub stamps : AllByRecursion (λ row. StampFits row.content) rows

pub record IsTreeText (bytes : List ℕ) (rows : Listing (List ℕ)) : Type 0 where
  pub tree : IsTreeBody rows
  pub spelled : bytes ≡ text (tree_lines rows)

pub record IsPrintText (bytes : List ℕ) (rows : Listing Stamp) : Type 0 where
  pub print : IsPrintBody rows
  pub spelled : bytes ≡ text (print_lines rows)

-- ---- the archive file

abbrev pub archive_front : Listing Stamp → List ℕ
archive_front rows = text (codes "twosync-archive 1" ∷ print_lines rows)

abbrev pub archive_text : Listing Stamp → List ℕ
archive_text rows = archive_front rows
    ++ text (words (codes "end" ∷ decimal (length (print_lines rows)) ∷ encode_lower (sha256 (archive_front rows)) ∷ []) ∷ [])

pub record IsArchiveText (bytes : List ℕ) (rows : Listing Stamp) : Type 0 where
  pub print : IsPrintBody rows
  pub spelled : bytes ≡ archive_text rows

-- the end line has the right form, but not the count or not the digest of what stands before it
pub record HasWrongEnd (bytes : List ℕ) : Type 0 where
  pub rows : Listing Stamp
  pub count : ℕ
  pub digest : List ℕ
  pub print : IsPrintBody rows
  pub count_fits : count < 2 ^ 64
  pub digest_fits : IsBytes digest × (length digest ≡ 32)
  pub spelled : bytes ≡ archive_front rows ++ text (words (codes "end" ∷ decimal count ∷ encode_lower digest ∷ []) ∷ [])
  pub wrong : (count ≢ length (print_lines rows)) ⊎ (digest ≢ sha256 (archive_front rows))

-- ---- hold rules

abbrev pub symbol_text : Symbol → List ℕ
symbol_text Star = codes "*"
symbol_text (Byte b) = if b == 42 then codes "%2A" else byte_text b

abbrev pub rule_line : Rule → Line
rule_line (OnePath path) = words (codes "path" ∷ path_text path ∷ [])
rule_line (LastName pattern) = words (codes "name" ∷ flat_map symbol_text pattern ∷ [])

-- no zero byte, no `/`, and no two stars side by side
abbrev pub SymbolFits : Symbol → Type 0
SymbolFits Star = Unit {0}
SymbolFits (Byte b) = (b < 256) × (b ≢ 0) × (b ≢ 47)

abbrev pub StarsApart : List Symbol → Type 0
StarsApart [] = Unit {0}
StarsApart (Star ∷ Star ∷ symbols) = ⊥
StarsApart (symbol ∷ symbols) = StarsApart symbols

abbrev pub RuleFits : Rule → Type 0
RuleFits (OnePath path) = IsPath path × (path ≢ [])
RuleFits (LastName pattern) = (0 < length pattern) × (length pattern ≤ 255) × AllByRecursion SymbolFits pattern × StarsApart pattern

pub record IsRules (rules : List Rule) : Type 0 where
  pub each : AllByRecursion RuleFits rules
  pub count : length rules ≤ 4096

pub record IsRulesText (bytes : List ℕ) (rules : List Rule) : Type 0 where
  pub rules_fit : IsRules rules
  pub spelled : bytes ≡ text (map rule_line rules)

-- before line n stand good rules, and from line n on no good rule follows, or there are too many
pub record IsBadLine (bytes : List ℕ) (n : ℕ) : Type 0 where
  pub before : List Rule
  pub rest : List ℕ
  pub good : AllByRecursion RuleFits before
  pub number : n ≡ length before + 1
  pub few : length before ≤ 4096
  pub split : bytes ≡ text (map rule_line before) ++ rest
  pub more : rest ≢ []
  pub bad : (length before ≡ 4096) ⊎ ((rule : Rule) (end : List ℕ) → RuleFits rule → rest ≢ text (rule_line rule ∷ []) ++ end)

-- ---- plans

abbrev pub reason_text : Reason → List ℕ
reason_text reason.Same = codes "same"
reason_text reason.First = codes "first"
reason_text reason.Second = codes "second"
reason_text reason.Conflict = codes "conflict"
reason_text reason.Held = codes "held"
reason_text reason.Dir = codes "dir"

abbrev pub entry_line : Entry → Line
entry_line e = words (codes "entry" ∷ reason_text e.reason ∷ path_text e.path ∷ [])

abbrev pub kind_line : Kind → Line
kind_line (Piece e offset size p) = words (codes "piece" ∷ decimal e ∷ decimal offset ∷ decimal size ∷ path_text p ∷ [])
kind_line (Commit e) = words (codes "commit" ∷ decimal e ∷ [])
kind_line (Mark e) = words (codes "mark" ∷ decimal e ∷ [])

abbrev pub pred_line : ℕ → Line
pred_line j = words (codes "p" ∷ decimal j ∷ [])

abbrev pub action_lines : Action → List Line
action_lines a = kind_line a.kind ∷ map pred_line a.preds

abbrev pub plan_lines : Plan → List Line
plan_lines plan = (codes "twosync-plan 1" ∷ map entry_line plan.entries) ++ flat_map action_lines plan.actions
    ++ (words (codes "end" ∷ decimal (length plan.entries) ∷ decimal (length plan.actions) ∷ []) ∷ [])

abbrev pub PathFits : Path → Type 0
PathFits p = IsPath p × (p ≢ [])

abbrev pub KindFits : Kind → Type 0
KindFits (Piece e offset size p) = (e < 2 ^ 32) × (offset < 2 ^ 64) × (size < 2 ^ 64) × PathFits p
KindFits (Commit e) = e < 2 ^ 32
KindFits (Mark e) = e < 2 ^ 32

pub record IsPlan (plan : Plan) : Type 0 where
  pub limits : WithinLimits plan
  pub entries : AllByRecursion (λ e. PathFits e.path) plan.entries
  pub kinds : AllByRecursion (λ a. KindFits a.kind) plan.actions
  pub preds : AllByRecursion (λ a. AllByRecursion (λ j. j < 2 ^ 32) a.preds) plan.actions

pub record IsPlanText (bytes : List ℕ) (plan : Plan) : Type 0 where
  pub plan_fits : IsPlan plan
  pub spelled : bytes ≡ text (plan_lines plan)

-- ---- bundles

pub record Bundle : Type 0 where
  pub archive : Listing Stamp
  pub first : Listing (List ℕ)
  pub second : Listing (List ℕ)
  pub rules : List Rule
  pub plan : Plan

abbrev pub bundle_lines : Bundle → List Line
bundle_lines b = codes "twosync-bundle 1" ∷ (codes "archive" ∷ print_lines b.archive) ++ (codes "first" ∷ tree_lines b.first)
    ++ (codes "second" ∷ tree_lines b.second) ++ (codes "holds" ∷ map rule_line b.rules) ++ (codes "plan" ∷ plan_lines b.plan)

pub record IsBundle (b : Bundle) : Type 0 where
  pub archive : IsPrintBody b.archive
  pub first : IsTreeBody b.first
  pub second : IsTreeBody b.second
  pub rules : IsRules b.rules
  pub plan : IsPlan b.plan

pub record IsBundleText (bytes : List ℕ) (b : Bundle) : Type 0 where
  pub bundle : IsBundle b
  pub spelled : bytes ≡ text (bundle_lines b)
