-- What a text in its escaped form begins with, and where it is no such text.
use Rattle.std.specs.Prelude.{◌≢◌, ℕ, ◌/◌, ◌%◌, ◌<◌, List, [], ◌∷◌, ◌++◌, IsTrue}
use Rattle.std.specs.List.{AllByRecursion}
use Rattle.ts_name.specs.Paths.{is_escaped, upper_hex_digit, byte_text, name_text}

-- the two digits of an escaped byte
abbrev pub digits : ℕ → List ℕ
digits b = upper_hex_digit (b / 16) ∷ upper_hex_digit (b % 16) ∷ []

abbrev pub AreBytes : List ℕ → Type 0
AreBytes bytes = AllByRecursion (λ b. b < 256) bytes

-- the text doesn't begin with the digits of an escaped byte
abbrev pub HasNoDigits : List ℕ → Type 0
HasNoDigits text = (b : ℕ) (rest : List ℕ) → b < 256 → IsTrue (is_escaped b) → text ≢ digits b ++ rest

-- the text doesn't begin with a byte in its escaped form
abbrev pub HasNoByte : List ℕ → Type 0
HasNoByte text = (b : ℕ) (rest : List ℕ) → b < 256 → text ≢ byte_text b ++ rest

-- the text isn't the escaped form of any bytes
abbrev pub HasNoBytes : List ℕ → Type 0
HasNoBytes text = (bytes : List ℕ) → AreBytes bytes → text ≢ name_text bytes
