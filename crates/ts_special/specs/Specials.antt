-- Lists of paths, each once.
--     is_among paths p       the path is one of them
--     joined first second    the first paths, and then those of the second that aren't among them
use Rattle.std.specs.Prelude.{Bool, false, ◌||◌, if◌then◌else◌, List, [], ◌∷◌, ◌++◌}
use Rattle.ts_name.specs.Paths.{Path, same_path}

abbrev pub is_among : List Path → Path → Bool
is_among [] p = false
is_among (q ∷ paths) p = same_path q p || is_among paths p

-- those that aren't among the first
abbrev pub others : List Path → List Path → List Path
others first [] = []
others first (p ∷ second) = if is_among first p then others first second else p ∷ others first second

abbrev pub joined : List Path → List Path → List Path
joined first second = first ++ others first second
