-- Names as people may see them: a path's text, or a name as it is, in which hidden characters are escaped.
--     hidden_length text    how many bytes the hidden character has that the text begins with, or 0
--     shown left text       the text with each byte of a hidden character as an escape; so many bytes of one are left at its start
use Rattle.std.specs.Prelude.{ℕ, zero, suc, ◌-◌, ◌/◌, ◌%◌, Bool, false, ◌&&◌, ◌||◌, ◌==◌, nat_le, nat_lt, if◌then◌else◌, List, [], ◌∷◌, ◌++◌, slice_index_or}
use Rattle.ts_name.specs.Paths.{upper_hex_digit}

abbrev pub within : ℕ → ℕ → ℕ → Bool
within low high b = nat_le low b && nat_le b high

-- a control character of one byte
abbrev pub is_short_control : List ℕ → Bool
is_short_control [] = false
is_short_control (b ∷ more) = nat_le b 31 || (b == 127)

-- a control character, U+0080 to U+009F
abbrev pub is_control : List ℕ → Bool
is_control text = (slice_index_or text 0 0 == 194) && within 128 159 (slice_index_or text 1 0)

-- U+200E, U+200F, U+202A to U+202E, or U+2066 to U+2069
abbrev pub is_direction : List ℕ → Bool
is_direction text = (slice_index_or text 0 0 == 226)
    && (((slice_index_or text 1 0 == 128) && (within 142 143 (slice_index_or text 2 0) || within 170 174 (slice_index_or text 2 0)))
    || ((slice_index_or text 1 0 == 129) && within 166 169 (slice_index_or text 2 0)))

abbrev pub hidden_length : List ℕ → ℕ
hidden_length text = if is_short_control text then 1 else if is_control text then 2 else if is_direction text then 3 else 0

abbrev pub byte_escape : ℕ → List ℕ
byte_escape b = 37 ∷ upper_hex_digit (b / 16) ∷ upper_hex_digit (b % 16) ∷ []

abbrev pub hidden_left : ℕ → List ℕ → ℕ
hidden_left left text = if nat_lt 0 left then left else hidden_length text

abbrev pub shown_byte : ℕ → ℕ → List ℕ
shown_byte zero b = b ∷ []
shown_byte (suc left) b = byte_escape b

abbrev pub shown : ℕ → List ℕ → List ℕ
shown left [] = []
shown left (b ∷ text) =
    let now = hidden_left left (b ∷ text) in
    shown_byte now b ++ shown (now - 1) text
