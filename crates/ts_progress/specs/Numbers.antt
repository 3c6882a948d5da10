-- Numbers as people read them.
--     grouped n          with a comma before each three digits, as 1,204
--     size_text n        bytes, as 950 B, 3.1 kB or 212 MB
--     duration_text s    seconds, as 12 s, 3 min or 5 h
use Rattle.std.specs.Prelude.{ℕ, ◌+◌, ◌/◌, ◌%◌, List, [], ◌∷◌, ◌++◌, if◌then◌else◌, codes, decimal, nat_lt}

-- a comma, and the three digits of a number below 1,000
abbrev pub three : ℕ → List ℕ
three n = 44 ∷ (48 + n / 100) ∷ (48 + n / 10 % 10) ∷ (48 + n % 10) ∷ []

abbrev pub thousands : ℕ → List ℕ
thousands n = if nat_lt n 1000 then decimal n else decimal (n / 1000) ++ three (n % 1000)

abbrev pub millions : ℕ → List ℕ
millions n = if nat_lt n 1000000 then thousands n else decimal (n / 1000000) ++ three (n / 1000 % 1000) ++ three (n % 1000)

-- from a million millions on the first group has more than three digits
abbrev pub grouped : ℕ → List ℕ
grouped n = if nat_lt n 1000000000 then millions n
    else decimal (n / 1000000000) ++ three (n / 1000000 % 1000) ++ three (n / 1000 % 1000) ++ three (n % 1000)

-- of so many tenths: with the last tenth where there are fewer than ten wholes
abbrev pub tenths_text : ℕ → List ℕ
tenths_text n = if nat_lt n 100 then decimal (n / 10) ++ 46 ∷ decimal (n % 10) else decimal (n / 10)

abbrev pub size_text : ℕ → List ℕ
size_text n =
    if nat_lt n 1000 then decimal n ++ codes " B"
    else if nat_lt n 1000000 then tenths_text (n / 100) ++ codes " kB"
    else if nat_lt n 1000000000 then tenths_text (n / 100000) ++ codes " MB"
    else if nat_lt n 1000000000000 then tenths_text (n / 100000000) ++ codes " GB"
    else tenths_text (n / 100000000000) ++ codes " TB"

abbrev pub duration_text : ℕ → List ℕ
duration_text s =
    if nat_lt s 60 then decimal s ++ codes " s"
    else if nat_lt s 3600 then decimal (s / 60) ++ codes " min"
    else decimal (s / 3600) ++ codes " h"
