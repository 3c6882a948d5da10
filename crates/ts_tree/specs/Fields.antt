-- The lines of a row of a tree.
--     file_line p n      a file of n bytes
--     dir_line p         a directory
--     data_line bytes    the next bytes of a file
use Rattle.std.specs.Prelude.{◌≡◌, ◌≢◌, ℕ, ◌<◌, ◌^◌, List, [], ◌∷◌, ◌++◌, length, codes, decimal}
use Rattle.hex.specs.Hex.{encode_lower}
use Rattle.ts_name.specs.Paths.{Path, IsPath, path_text}
use Rattle.ts_model.specs.Texts.{Line, IsBytes, words}
use Rattle.ts_tree.specs.declared.field.Head.{Head}
use Rattle.ts_tree.specs.declared.field.Head.TheVariants as head

-- a path that a line may name
abbrev pub IsNamed : Path → Type 0
IsNamed p = IsPath p × (p ≢ [])

abbrev pub dir_line : Path → Line
dir_line p = words (codes "d" ∷ path_text p ∷ [])

abbrev pub file_line : Path → ℕ → Line
file_line p n = words (codes "f" ∷ path_text p ∷ decimal n ∷ [])

-- the line of at most 64 bytes of a file
abbrev pub data_line : List ℕ → Line
data_line bytes = words (codes "x" ∷ encode_lower bytes ∷ [])

abbrev pub head_line : Path → Head → Line
head_line p head.Dir = dir_line p
head_line p (head.File n) = file_line p n

abbrev pub HeadFits : Head → Type 0
HeadFits head.Dir = Unit {0}
HeadFits (head.File n) = n < 2 ^ 64

-- no path but the root's is spelled so
abbrev pub SpellsNoPath : List ℕ → Type 0
SpellsNoPath field = (p : Path) → IsNamed p → field ≢ path_text p

-- the line begins no row
abbrev pub IsNoHead : Line → Type 0
IsNoHead line = (p : Path) (h : Head) → IsNamed p → HeadFits h → line ≢ head_line p h

-- the digits tell no so many bytes
abbrev pub IsNoHex : List ℕ → ℕ → Type 0
IsNoHex digits count = (bytes : List ℕ) → IsBytes bytes → length bytes ≡ count → digits ≢ encode_lower bytes

-- the line tells no so many bytes
abbrev pub IsNoData : Line → ℕ → Type 0
IsNoData line count = (bytes : List ℕ) → IsBytes bytes → length bytes ≡ count → line ≢ data_line bytes

-- the line tells so many bytes, which were added
pub record AddsData (old new : List ℕ) (line : Line) (count : ℕ) : Type 0 where
  pub data_bytes : List ℕ
  pub lawful : IsBytes data_bytes
  pub size : length data_bytes ≡ count
  pub told : line ≡ data_line data_bytes
  pub added : new ≡ old ++ data_bytes
