-- What has to be flushed for some paths.
--     IsAboveAt root path place     the path stands in the directory that has this place
use Rattle.std.specs.Prelude.{◌≡◌, ◌++◌, ◌∷◌, [], ℕ, List}
use Rattle.ts_name.specs.Paths.{Name, Path, place_text}

-- below a root the path's parent has this place
abbrev pub IsAboveAt : List ℕ → Path → List ℕ → Type 0
IsAboveAt root path place = (parent : Path) × (name : Name) × (path ≡ parent ++ name ∷ []) × (place ≡ root ++ place_text parent)
