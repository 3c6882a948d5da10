-- Keys, by which the rules are found that may name a path.
--     front_key, end_key   the key of bytes at the front of a name, and at its end
--     NameHasKey           the key of some front or end of the name, or of a window of it whose size is in use
--     IsKeyOf .. rule key  each path that the rule names has the key
--     AreKeys              a key for each rule, in order
--     IsFound              good rules, with their keys and the order of those of one path
use Rattle.std.specs.Prelude.{◌≡◌, ◌≢◌, ◌⊎◌, ℕ, ◌<◌, ◌≤◌, List, [], ◌∷◌, ◌++◌, length, map, sum_by, take, drop, slice_index, slice_index_or}
use Rattle.ts_name.specs.Paths.{Name, Path}
use Rattle.ts_model.specs.declared.hold.Symbol.{Symbol}
use Rattle.ts_model.specs.declared.hold.Symbol.TheVariants.{Byte}
use Rattle.ts_model.specs.declared.hold.Rule.{Rule}
use Rattle.ts_model.specs.declared.hold.Rule.TheVariants.{OnePath, LastName}
use Rattle.ts_model.specs.Holds.{Fits, RuleNames}
use Rattle.ts_model.specs.Texts.{IsRules}
use Rattle.ts_hold.specs.Mixing.{mixed}
use Rattle.ts_hold.specs.Orders.{IsOrder}
use Rattle.ts_hold.specs.Windows.{HasSize, bytes_in, number_of, window_key}
use Rattle.ts_hold.specs.declared.windows.Size.{Size}
use Rattle.ts_hold.specs.declared.windows.Sizes.{Sizes}

abbrev pub front_key : ℕ → Name → ℕ
front_key before [] = before
front_key before (b ∷ bytes) = front_key (mixed before b) bytes

abbrev pub end_key : Name → ℕ
end_key [] = 4294967296
end_key (b ∷ bytes) = mixed (end_key bytes) b

abbrev pub last_key : Path → ℕ
last_key [] = 1
last_key (name ∷ []) = front_key 1 name
last_key (name ∷ next ∷ names) = last_key (next ∷ names)

-- of its last name and its size
abbrev pub path_key : Path → ℕ
path_key path = mixed (last_key path) (sum_by length path)

-- the key of a window of the name, of one of these sizes
pub record HasWindow (sizes : Sizes) (name : Name) (key : ℕ) : Type 0 where
  pub size : Size
  pub used : HasSize sizes size
  pub end : ℕ
  pub within : (bytes_in size ≤ end) × (end ≤ length name)
  pub key_is : key ≡ window_key size (number_of 0 (take end name))

abbrev pub HasFront : Name → ℕ → Type 0
HasFront name key = (k : ℕ) × (k ≤ length name) × (key ≡ front_key 1 (take k name))

abbrev pub HasEnd : Name → ℕ → Type 0
HasEnd name key = (k : ℕ) × (k ≤ length name) × (key ≡ end_key (drop k name))

abbrev pub NameHasKey : Sizes → Name → ℕ → Type 0
NameHasKey sizes name key = HasFront name key ⊎ (HasEnd name key ⊎ HasWindow sizes name key)

-- each name that fits has the key
abbrev pub IsPatternKey : Sizes → List Symbol → ℕ → Type 0
IsPatternKey sizes pattern key = (name : Name) → Fits pattern name → NameHasKey sizes name key

-- each path that the rule names has the key, or its last name has
abbrev pub IsKeyOf : Sizes → Rule → ℕ → Type 0
IsKeyOf sizes (OnePath path) key = key ≡ path_key path
IsKeyOf sizes (LastName pattern) key = IsPatternKey sizes pattern key

pub record AreKeys (sizes : Sizes) (rules : List Rule) (keys : List ℕ) : Type 0 where
  pub count : length keys ≡ length rules
  pub each : (i : ℕ) (d : Rule) → i < length rules → IsKeyOf sizes (slice_index_or rules i d) (slice_index keys i)

-- good rules, with what they are found by
pub record IsFound (sizes : Sizes) (rules : List Rule) (keys order : List ℕ) : Type 0 where
  pub lawful : IsRules rules
  pub with_keys : AreKeys sizes rules keys
  pub in_order : IsOrder rules order

-- the key of bytes that each name that fits begins with
pub record IsFrontKey (pattern : List Symbol) (key : ℕ) (rest : List Symbol) : Type 0 where
  pub front : Name
  pub pattern_is : pattern ≡ map Byte front ++ rest
  pub key_is : key ≡ front_key 1 front

-- the key of bytes that each name that fits ends with
pub record IsEndKey (pattern : List Symbol) (key : ℕ) (rest : List Symbol) : Type 0 where
  pub end : Name
  pub pattern_is : pattern ≡ rest ++ map Byte end
  pub key_is : key ≡ end_key end

-- no rule of one path names this one
abbrev pub NoPathNames : List Rule → Path → Type 0
NoPathNames rules path = (i : ℕ) (d : Rule) → i < length rules → slice_index_or rules i d ≢ OnePath path

-- no rule with this key names the path
abbrev pub NoneNames : List Rule → List ℕ → ℕ → Path → Type 0
NoneNames rules keys key path = (i : ℕ) (d : Rule) → i < length rules → slice_index keys i ≡ key → ¬ RuleNames path (slice_index_or rules i d)

-- nor one with the key of a front of the name
abbrev pub NoFrontNames : List Rule → List ℕ → Name → Path → Type 0
NoFrontNames rules keys name path = (k : ℕ) → k ≤ length name → NoneNames rules keys (front_key 1 (take k name)) path

-- nor one with the key of an end of the name
abbrev pub NoEndNames : List Rule → List ℕ → Name → Path → Type 0
NoEndNames rules keys name path = (k : ℕ) → k ≤ length name → NoneNames rules keys (end_key (drop k name)) path

-- nor one with the key of a window that ends after so many bytes, which have this number
abbrev pub NoWindowNames : Sizes → List Rule → List ℕ → ℕ → ℕ → Path → Type 0
NoWindowNames sizes rules keys count number path = (size : Size) → HasSize sizes size → bytes_in size ≤ count → NoneNames rules keys (window_key size number) path

-- nor one with the key of any window of the name
abbrev pub NoMiddleNames : Sizes → List Rule → List ℕ → Name → Path → Type 0
NoMiddleNames sizes rules keys name path = (end : ℕ) → end ≤ length name → NoWindowNames sizes rules keys end (number_of 0 (take end name)) path
