-- The rules of one path in the order of their paths.
--     rule_order        how a rule stands to a path; one of names comes after each path
--     rule_at           the rule whose number stands at a place of the order
--     IsOrder           the numbers are of rules in order, and each rule of one path stands there, or one with the same path
--     IsThere, IsPlace  the place of a rule of the path; the place where one would go
use Rattle.std.specs.Prelude.{◌≡◌, ℕ, ◌<◌, ◌≤◌, List, [], length, slice_index, slice_index_or}
use Rattle.std.specs.declared.cmp.Ordering.{Ordering}
use Rattle.std.specs.declared.cmp.Ordering.TheVariants.{Less, Equal, Greater}
use Rattle.ts_name.specs.Paths.{Path, path_cmp}
use Rattle.ts_model.specs.declared.hold.Rule.{Rule}
use Rattle.ts_model.specs.declared.hold.Rule.TheVariants.{OnePath, LastName}

abbrev pub rule_order : Rule → Path → Ordering
rule_order (OnePath named) path = path_cmp named path
rule_order (LastName pattern) path = Greater

abbrev pub rule_at : List Rule → List ℕ → ℕ → Rule
rule_at rules order k = slice_index_or rules (slice_index order k) (LastName [])

pub record IsOrder (rules : List Rule) (order : List ℕ) : Type 0 where
  pub within : (k : ℕ) → k < length order → slice_index order k < length rules
  pub less : (j k : ℕ) (path : Path) → j < k → k < length order → rule_order (rule_at rules order k) path ≡ Less → rule_order (rule_at rules order j) path ≡ Less
  pub greater : (j k : ℕ) (path : Path) → j < k → k < length order → rule_order (rule_at rules order j) path ≡ Greater → rule_order (rule_at rules order k) path ≡ Greater
  pub whole : (i : ℕ) (path : Path) (d : Rule) → i < length rules → slice_index_or rules i d ≡ OnePath path → (k : ℕ) × (k < length order) × (rule_at rules order k ≡ OnePath path)

pub record IsThere (rules : List Rule) (order : List ℕ) (path : Path) (place : ℕ) : Type 0 where
  pub within : place < length order
  pub same : rule_order (rule_at rules order place) path ≡ Equal

pub record IsPlace (rules : List Rule) (order : List ℕ) (path : Path) (place : ℕ) : Type 0 where
  pub within : place ≤ length order
  pub less : (k : ℕ) → k < place → rule_order (rule_at rules order k) path ≡ Less
  pub greater : (k : ℕ) → place ≤ k → k < length order → rule_order (rule_at rules order k) path ≡ Greater

-- a rule of one path with its place, and one that stands there or is of names
abbrev pub NeedsPlace : List Rule → List ℕ → Rule → ℕ → Type 0
NeedsPlace rules order (OnePath path) place = IsPlace rules order path place
NeedsPlace rules order (LastName pattern) place = ⊥

abbrev pub NeedsNoPlace : List Rule → List ℕ → Rule → Type 0
NeedsNoPlace rules order (OnePath path) = (k : ℕ) × (k < length order) × (rule_at rules order k ≡ OnePath path)
NeedsNoPlace rules order (LastName pattern) = Unit {0}
