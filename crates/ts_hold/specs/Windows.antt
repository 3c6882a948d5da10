-- Windows: a few bytes of a name that stand together.
--     number_of n bytes         the number of the last eight bytes, after bytes with the number n
--     window_key size n         the key of the last bytes that n is the number of, as many as the size says
--     HasSize sizes size        the size is one of these
--     IsMore old new            each of the old sizes is one of the new ones
--     IsWindowKey pattern ..    the key of a window that stands in the pattern, without a star
use Rattle.std.specs.Prelude.{◌≡◌, ℕ, ◌+◌, ◌*◌, ◌/◌, ◌%◌, ◌^◌, ◌≤◌, List, [], ◌∷◌, ◌++◌, length, map, IsTrue}
use Rattle.ts_name.specs.Paths.{Name}
use Rattle.ts_model.specs.declared.hold.Symbol.{Symbol}
use Rattle.ts_model.specs.declared.hold.Symbol.TheVariants.{Byte}
use Rattle.ts_hold.specs.Mixing.{mixed}
use Rattle.ts_hold.specs.declared.windows.Size.{Size}
use Rattle.ts_hold.specs.declared.windows.Size.TheVariants.{One, Two, Four, Eight}
use Rattle.ts_hold.specs.declared.windows.Sizes.{Sizes}

abbrev pub bytes_in : Size → ℕ
bytes_in One = 1
bytes_in Two = 2
bytes_in Four = 4
bytes_in Eight = 8

-- with one byte more
unfoldable pub shifted : ℕ → ℕ → ℕ
shifted number byte = (number * 256 % 2 ^ 64 + byte) % 2 ^ 64

abbrev pub number_of : ℕ → Name → ℕ
number_of number [] = number
number_of number (b ∷ bytes) = number_of (shifted number b) bytes

-- the number of the last bytes alone
abbrev pub low_bytes : Size → ℕ → ℕ
low_bytes size number = number % 256 ^ bytes_in size

unfoldable pub window_key : Size → ℕ → ℕ
window_key size number = let low = low_bytes size number in mixed (mixed (bytes_in size) (low / 2 ^ 32)) (low % 2 ^ 32)

abbrev pub HasSize : Sizes → Size → Type 0
HasSize sizes One = IsTrue sizes.one
HasSize sizes Two = IsTrue sizes.two
HasSize sizes Four = IsTrue sizes.four
HasSize sizes Eight = IsTrue sizes.eight

abbrev pub IsMore : Sizes → Sizes → Type 0
IsMore old new = (size : Size) → HasSize old size → HasSize new size

pub record IsWindowKey (pattern : List Symbol) (size : Size) (key : ℕ) : Type 0 where
  pub front : List Symbol
  pub bytes : Name
  pub rest : List Symbol
  pub pattern_is : pattern ≡ front ++ (map Byte bytes ++ rest)
  pub enough : bytes_in size ≤ length bytes
  pub key_is : key ≡ window_key size (number_of 0 bytes)
