-- The laws of texts that ts_model's definitions don't name themselves.
--     AreDecided bytes                 whether the bytes are the text of a value, of each kind
--     HasAnswer b, IsAnswered bytes    `trial` writes something for a bundle, for any bytes
--     OneToOne IsText                  a text is of one value at most, and a value has one text at most
--     IsResultText bytes told          the bytes are what `trial` writes of this result
use Rattle.std.specs.Prelude.{◌≡◌, ◌⊎◌, ℕ, List}
use Rattle.std.specs.List.{AllByRecursion}
use Rattle.ts_model.specs.Trees.{Listing}
use Rattle.ts_model.specs.Texts.{text, IsTreeBody, IsPrintBody, PathFits, IsTreeText, IsPrintText, IsArchiveText, IsRulesText, IsPlanText, Bundle, IsBundleText}
use Rattle.ts_model.specs.Trial.{result_lines, IsRefused, IsResult, Trial}
use Rattle.ts_model.specs.declared.row.Stamp.{Stamp}
use Rattle.ts_model.specs.declared.hold.Rule.{Rule}
use Rattle.ts_model.specs.declared.plan.Entry.{Entry}
use Rattle.ts_model.specs.declared.plan.Plan.{Plan}

-- ---- texts

-- a text is of one value at most, and a value has one text at most
pub record OneToOne {V : Type 0} (IsText : List ℕ → V → Type 0) : Type 0 where
  pub one_value : (bytes : List ℕ) (x y : V) → IsText bytes x → IsText bytes y → x ≡ y
  pub one_text : (bytes more : List ℕ) (x : V) → IsText bytes x → IsText more x → bytes ≡ more

-- what `trial` tells of a run in which every action was done
pub record TrialResult : Type 0 where
  pub first : Listing (List ℕ)
  pub second : Listing (List ℕ)
  pub archive : Listing Stamp
  pub entries : List Entry

-- the bytes are its text
pub record IsResultText (bytes : List ℕ) (told : TrialResult) : Type 0 where
  pub bodies : IsTreeBody told.first × IsTreeBody told.second × IsPrintBody told.archive
  pub entries_fit : AllByRecursion (λ e. PathFits e.path) told.entries
  pub spelled : bytes ≡ text (result_lines told.first told.second told.archive told.entries)

-- whether bytes are the text of a value, of each kind
pub record AreDecided (bytes : List ℕ) : Type 0 where
  pub tree : Dec ((rows : Listing (List ℕ)) × IsTreeText bytes rows)
  pub print : Dec ((rows : Listing Stamp) × IsPrintText bytes rows)
  pub archive : Dec ((rows : Listing Stamp) × IsArchiveText bytes rows)
  pub rules : Dec ((rules : List Rule) × IsRulesText bytes rules)
  pub plan : Dec ((plan : Plan) × IsPlanText bytes plan)
  pub bundle : Dec ((b : Bundle) × IsBundleText bytes b)

-- ---- trials

-- `trial` writes something for the bundle, with some status
abbrev pub HasAnswer : Bundle → Type 0
HasAnswer b = (written : List ℕ) × (status : ℕ) × (IsRefused b written status ⊎ IsResult b written status)

-- `trial` writes something for the bytes
abbrev pub IsAnswered : List ℕ → Type 0
IsAnswered bytes = (written : List ℕ) × (status : ℕ) × Trial bytes written status
