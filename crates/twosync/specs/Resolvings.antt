-- Where places lead.
--     IsMoved found place beginning whole   this path is what was found at the beginning of a place, and behind that the rest of the place
use Rattle.std.specs.Prelude.{◌≡◌, ℕ, List}
use Rattle.std.specs.Path.{StripsPrefix, path_join}

abbrev pub IsMoved : (found place beginning whole : List ℕ) → Type 0
IsMoved found place beginning whole = (rest : List ℕ) × StripsPrefix place beginning rest × (whole ≡ path_join found rest)
