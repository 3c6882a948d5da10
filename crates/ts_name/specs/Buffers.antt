-- How a path is kept in memory: one list of bytes, where each name is followed by a zero byte.
--     shared_bytes     the part of a buffer that a path has, and that its copies share
--     pieces, ended    the names that a separator ends, and back
--     HasNo            no separator among the bytes
--     IsWhole          the bytes end with a separator, or there are none
--     IsBuffer         the bytes that some lawful path is kept as
--     HoldsParent      the bytes that a path's parent is kept as
use Rattle.std.specs.Prelude.{◌≡◌, ◌≢◌, ℕ, ◌==◌, if◌then◌else◌, List, [], ◌∷◌, ◌++◌, drop, flat_map, take}
use Rattle.std.specs.List.{AllByRecursion}
use Rattle.std.specs.Arc.{arc_value}
use Rattle.ts_name.specs.declared.bytes.Share.{Share}
use Rattle.ts_name.specs.declared.bytes.Share.TheVariants.{Nothing, Part}
use Rattle.ts_name.specs.Paths.{Name, Path, IsPath}

-- so many bytes of a buffer from a start on, if there is one
abbrev pub shared_bytes : Share → List ℕ
shared_bytes Nothing = []
shared_bytes (Part long start buffer) = take long (drop start (arc_value buffer).items)

-- the names with a further byte at the head of the first
abbrev pub in_front : ℕ → Path → Path
in_front b [] = (b ∷ []) ∷ []
in_front b (name ∷ names) = (b ∷ name) ∷ names

-- the names that stand before each separator
abbrev pub pieces : ℕ → List ℕ → Path
pieces separator [] = []
pieces separator (b ∷ bs) = if b == separator then [] ∷ pieces separator bs else in_front b (pieces separator bs)

-- the separator after each name
abbrev pub ended : ℕ → Path → List ℕ
ended separator path = flat_map (λ name. name ++ separator ∷ []) path

abbrev pub HasNo : ℕ → List ℕ → Type 0
HasNo separator bytes = AllByRecursion (λ b. b ≢ separator) bytes

-- these bytes are names with a separator after each
pub record IsWhole (separator : ℕ) (bytes : List ℕ) : Type 0 where
  pub again : ended separator (pieces separator bytes) ≡ bytes

-- the bytes that a lawful path is kept as
pub record IsBuffer (bytes : List ℕ) : Type 0 where
  pub lawful : IsPath (pieces 0 bytes)
  pub whole : IsWhole 0 bytes

-- the path has a parent, and these bytes hold it
abbrev pub HoldsParent : List ℕ → Path → Type 0
HoldsParent bytes path = (parent : Path) × (name : Name) × (path ≡ parent ++ name ∷ []) × IsBuffer bytes × (pieces 0 bytes ≡ parent)
