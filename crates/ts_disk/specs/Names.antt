-- The names of the program's own files, and of directories.
--     HasNumber front name n            the name is this front and the number
--     HasNumberAfterOne x y name n      the same with one of two fronts
--     IsSpotOf name n                   the new or the old spot of entry n has this name
--     IsNumbered own stem place         the place is STEM-N in the directory
--     IfKept aside P                    P of the place of what is kept, if anything is
--     IsCutLast place front name        the place has its last slash between these two
--     StandsIn place dir                what has this place stands in this directory
--     IsNamedIn place name              what has this place has this name there
use Rattle.std.specs.Prelude.{◌≡◌, ◌⊎◌, ◌++◌, ◌∷◌, [], ℕ, List, Contains, codes, decimal, ⊤}
use Rattle.std.specs.String.{string_bytes}
use Rattle.ts_disk.specs.declared.leftover.Aside.{Aside}
use Rattle.ts_disk.specs.declared.leftover.Aside.TheVariants.{Cleared, Discarded, Kept}

abbrev pub HasNumber : List ℕ → List ℕ → ℕ → Type 0
HasNumber front name n = name ≡ front ++ decimal n

abbrev pub HasNumberAfterOne : List ℕ → List ℕ → List ℕ → ℕ → Type 0
HasNumberAfterOne x y name n = HasNumber x name n ⊎ HasNumber y name n

-- the new or the old spot of the entry of this number has this name
abbrev pub IsSpotOf : List ℕ → ℕ → Type 0
IsSpotOf name n = HasNumberAfterOne (codes "new-") (codes "old-") name n

-- the place in the program's own directory is called by this stem and a number
abbrev pub IsNumbered : List ℕ → List ℕ → List ℕ → Type 0
IsNumbered own stem place = (n : ℕ) × (place ≡ own ++ codes "/" ++ stem ++ codes "-" ++ decimal n)

-- P holds of the place at which something is kept, if anything is
abbrev pub IfKept : Aside → (List ℕ → Type 0) → Type 0
IfKept Cleared P = ⊤
IfKept Discarded P = ⊤
IfKept (Kept place) P = P (string_bytes place)

-- what comes before a slash, as a directory: where nothing does, the root
abbrev pub as_directory : List ℕ → List ℕ
as_directory [] = codes "/"
as_directory (b ∷ bs) = b ∷ bs

-- the place has its last slash between these two
abbrev pub IsCutLast : List ℕ → List ℕ → List ℕ → Type 0
IsCutLast place front name = (¬ Contains name 47) × (place ≡ front ++ 47 ∷ name)

-- the directory is what comes before the last slash of the place, and without a slash the one at hand
abbrev pub StandsIn : List ℕ → List ℕ → Type 0
StandsIn place dir = (¬ Contains place 47 × (dir ≡ codes ".")) ⊎ ((front : List ℕ) × (name : List ℕ) × IsCutLast place front name × (dir ≡ as_directory front))

-- the name is what comes after the last slash of the place, and without a slash the place itself
abbrev pub IsNamedIn : List ℕ → List ℕ → Type 0
IsNamedIn place name = (¬ Contains place 47 × (name ≡ place)) ⊎ ((front : List ℕ) × IsCutLast place front name)
