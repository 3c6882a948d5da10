-- What a rule's line is read as.
--     BeginsWith text x rest       the text is the spelling of x, then rest
--     IsPattern, IsRuleLine        the whole text, or line, is the spelling
--     IsNo.., BeginsWithNo..       there is nothing of which it is
use Rattle.std.specs.Prelude.{◌≡◌, ◌≢◌, ◌⊎◌, ℕ, ◌/◌, ◌%◌, ◌<◌, true, List, [], ◌∷◌, ◌++◌, flat_map}
use Rattle.std.specs.List.{AllByRecursion}
use Rattle.ts_name.specs.Paths.{Path, IsPathText, is_escaped, upper_hex_digit}
use Rattle.ts_model.specs.declared.hold.Symbol.{Symbol}
use Rattle.ts_model.specs.declared.hold.Rule.{Rule}
use Rattle.ts_model.specs.declared.hold.Rule.TheVariants.{LastName}
use Rattle.ts_model.specs.Texts.{Line, symbol_text, SymbolFits, rule_line, RuleFits}

abbrev pub IsDigit : ℕ → ℕ → Type 0
IsDigit digit n = (n < 16) × (digit ≡ upper_hex_digit n)

abbrev pub IsNoDigit : ℕ → Type 0
IsNoDigit digit = (n : ℕ) → ¬ IsDigit digit n

-- after a `%`, the two digits of a byte that isn't written as it is
pub record BeginsWithEscape (digits : List ℕ) (byte : ℕ) (rest : List ℕ) : Type 0 where
  pub is_byte : byte < 256
  pub in_digits : (byte ≡ 42) ⊎ (is_escaped byte ≡ true)
  pub spelled : digits ≡ upper_hex_digit (byte / 16) ∷ upper_hex_digit (byte % 16) ∷ rest

abbrev pub BeginsWithNoEscape : List ℕ → Type 0
BeginsWithNoEscape digits = (byte : ℕ) (rest : List ℕ) → ¬ BeginsWithEscape digits byte rest

pub record BeginsWith (text : List ℕ) (symbol : Symbol) (rest : List ℕ) : Type 0 where
  pub fits : SymbolFits symbol
  pub spelled : text ≡ symbol_text symbol ++ rest

abbrev pub BeginsWithNoSymbol : List ℕ → Type 0
BeginsWithNoSymbol text = (symbol : Symbol) (rest : List ℕ) → ¬ BeginsWith text symbol rest

pub record IsPattern (text : List ℕ) (pattern : List Symbol) : Type 0 where
  pub fits : RuleFits (LastName pattern)
  pub spelled : text ≡ flat_map symbol_text pattern

abbrev pub IsNoPattern : List ℕ → Type 0
IsNoPattern text = (pattern : List Symbol) → ¬ IsPattern text pattern

pub record IsRuleLine (line : Line) (rule : Rule) : Type 0 where
  pub fits : RuleFits rule
  pub spelled : line ≡ rule_line rule

abbrev pub IsNoRuleLine : Line → Type 0
IsNoRuleLine line = (rule : Rule) → ¬ IsRuleLine line rule

-- the path that a rule names: any but the root
pub record IsNamed (text : List ℕ) (path : Path) : Type 0 where
  pub spelled : IsPathText text path
  pub some : path ≢ []

abbrev pub IsNoNamed : List ℕ → Type 0
IsNoNamed text = (path : Path) → ¬ IsNamed text path

-- ---- lines of a text

abbrev pub HasNoLineFeed : List ℕ → Type 0
HasNoLineFeed bytes = AllByRecursion (λ b. b ≢ 10) bytes

pub record StartsWithLine (text : List ℕ) (line rest : List ℕ) : Type 0 where
  pub one : HasNoLineFeed line
  pub split : text ≡ line ++ 10 ∷ rest
