-- What stands for a path that can't be synchronized, and names that stand for others, which aren't lawful.
--     is_stand_in stamp        a file with this stamp is a stand-in
--     IsCut text cut           the longest front of the text that has at most 255 bytes and is UTF-8
--     IsStandIn bytes name     the name by which what has these bytes as its name is reported
use Rattle.std.specs.Prelude.{◌≡◌, ◌⊎◌, ℕ, ◌<◌, ◌≤◌, Bool, ◌&&◌, List, [], ◌∷◌, ◌++◌, IsUtf8, codes, length, nat_eq, take}
use Rattle.std.specs.Str.{bytes_eq}
use Rattle.std.specs.Str.Lossy.{utf8_lossy}
use Rattle.sha2.specs.Sha256.{sha256}
use Rattle.ts_model.specs.declared.row.Stamp.{Stamp}
use Rattle.ts_name.specs.Paths.{IsName, Name}

-- its bytes
abbrev pub stand_in_text : List ℕ
stand_in_text = codes "twosync: what is here can't be synchronized" ++ 10 ∷ []

abbrev pub is_stand_in : Stamp → Bool
is_stand_in stamp = nat_eq stamp.size (length stand_in_text) && bytes_eq stamp.digest (sha256 stand_in_text)

pub record IsCut (text cut : List ℕ) : Type 0 where
  pub rest : List ℕ
  pub split : text ≡ cut ++ rest
  pub utf8 : IsUtf8 cut
  pub short : length cut ≤ 255
  pub longest : (n : ℕ) → length cut < n → n ≤ 255 → n ≤ length text → ¬ IsUtf8 (take n text)

-- U+FFFD
abbrev pub unknown_name : Name
unknown_name = 239 ∷ 191 ∷ 189 ∷ []

-- the bytes themselves where they are a lawful name
abbrev pub IsNameOr : List ℕ → Name → Name → Type 0
IsNameOr bytes other name = (IsName bytes × (name ≡ bytes)) ⊎ ((¬ IsName bytes) × (name ≡ other))

-- the bytes themselves where they are a lawful name, else the cut of their text where that is one, else U+FFFD
abbrev pub IsStandIn : List ℕ → Name → Type 0
IsStandIn bytes name =
    (IsName bytes × (name ≡ bytes)) ⊎ ((¬ IsName bytes) × ((cut : List ℕ) × IsCut (utf8_lossy bytes) cut × IsNameOr cut unknown_name name))
