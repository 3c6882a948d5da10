-- Words for pieces: what they are of, and where their file stands in the source.
--     on_side a b from               a or b
--     IsPieceIn a b plan ..          a lawful piece, by the prints of the two replicas
--     IsStaged xs ys plan i place    action i is a piece of this entry, of the file in this row of the source, at this offset
--     IsAgain plan i                 an earlier action is a piece of the same entry, path and offset
use Rattle.std.specs.Prelude.{◌≡◌, ◌≢◌, ◌⊎◌, ◌↔◌, ℕ, ◌+◌, ◌<◌, ◌≤◌, List, [], length, map, AllPairs, Contains, Option, Some, None, MatchOption, slice_get}
use Rattle.std.specs.Ordering.{nat_cmp, ordering_then}
use Rattle.std.specs.declared.cmp.Ordering.{Ordering}
use Rattle.std.specs.BTreeMap.{is_at}
use Rattle.std.specs.List.Sorted.{IsStrictlySortedBy}
use Rattle.std.specs.Map.{keys_of, lookup}
use Rattle.ts_name.specs.Paths.{Path, IsAbove, IsBefore}
use Rattle.ts_model.specs.Trees.{Listing, IsListing, at}
use Rattle.ts_model.specs.Plans.{EntryIs, KindIs, Copies, Earlier, IsRange, entry_limit}
use Rattle.ts_check.specs.Places.{Never}
use Rattle.ts_model.specs.declared.row.Content.{Content}
use Rattle.ts_model.specs.declared.row.Content.TheVariants.{File}
use Rattle.ts_model.specs.declared.row.Row.{Row}
use Rattle.ts_model.specs.declared.row.Stamp.{Stamp}
use Rattle.ts_model.specs.declared.plan.Side.{Side}
use Rattle.ts_model.specs.declared.plan.Side.TheVariants as side
use Rattle.ts_model.specs.declared.plan.Entry.{Entry}
use Rattle.ts_model.specs.declared.plan.Kind.{Kind}
use Rattle.ts_model.specs.declared.plan.Kind.TheVariants.{Piece}
use Rattle.ts_model.specs.declared.plan.Plan.{Plan}

abbrev pub on_side : {A : Type 0} → A → A → Side → A
on_side a b side.First = a
on_side a b side.Second = b

-- the rows of the side that an entry is copied from
abbrev pub IsSourceOf : Listing Stamp → Listing Stamp → Plan → ℕ → Listing Stamp → Type 0
IsSourceOf xs ys plan e rows = (entry : Entry) × (from : Side) × Copies plan e entry from × (rows ≡ on_side xs ys from)

abbrev pub IsPieceIn : Listing Stamp → Listing Stamp → Plan → ℕ → ℕ → ℕ → Path → Type 0
IsPieceIn xs ys plan e offset len p =
    (entry : Entry) × (from : Side) × (stamp : Stamp)
    × Copies plan e entry from × IsAbove entry.path p × (at (on_side xs ys from) p ≡ File stamp) × IsRange stamp.size offset len

-- a piece that isn't lawful
abbrev pub IsUnlawful : Listing Stamp → Listing Stamp → Plan → ℕ → Type 0
IsUnlawful xs ys plan place = (e offset len : ℕ) × (p : Path) × KindIs plan place (Piece e offset len p) × (¬ IsPieceIn xs ys plan e offset len p)

-- this row is that of the path
abbrev pub IsRowOf : Listing Stamp → ℕ → Path → Type 0
IsRowOf rows k p = (row : Row Stamp) × (slice_get rows k ≡ Some row) × (row.path ≡ p)

-- an entry, a row of its source, and an offset
abbrev pub Place : Type 0
Place = ℕ × (ℕ × ℕ)

-- a piece of this entry, of the file in this row of its source, at this offset
abbrev pub IsPlaceOf : Listing Stamp → Listing Stamp → Plan → Kind → Place → Type 0
IsPlaceOf xs ys plan kind place = (len : ℕ) × (p : Path) × (rows : Listing Stamp)
    × (kind ≡ Piece place.0 place.1.1 len p) × IsSourceOf xs ys plan place.0 rows × IsRowOf rows place.1.0 p

-- the order of places
abbrev pub place_cmp : Place → Place → Ordering
place_cmp x y = ordering_then (nat_cmp x.0 y.0) (ordering_then (nat_cmp x.1.0 y.1.0) (nat_cmp x.1.1 y.1.1))

-- the number that stands at a place in a list of places and numbers
abbrev pub staged_at : List (Place × ℕ) → Place → Option ℕ
staged_at staged place = lookup (is_at (place_cmp place)) staged

-- each place is before those after it
abbrev pub AreInOrder : List (Place × ℕ) → Type 0
AreInOrder staged = IsStrictlySortedBy place_cmp (keys_of staged)

-- a place of action i stands beside its number, or it has none
abbrev pub IsPlacing : Listing Stamp → Listing Stamp → Plan → ℕ → Option (Place × ℕ) → Type 0
IsPlacing xs ys plan i found = MatchOption found ((kind : Kind) (place : Place) → KindIs plan i kind → ¬ IsPlaceOf xs ys plan kind place) (λ x. (x.1 ≡ i) × ((kind : Kind) × KindIs plan i kind × IsPlaceOf xs ys plan kind x.0))

-- the place of each action that has one, beside its number
pub record ArePlaces (xs ys : Listing Stamp) (plan : Plan) (staged : List (Place × ℕ)) : Type 0 where
  pub each : (place : Place) (i : ℕ) → Contains staged (place, i) → (kind : Kind) × KindIs plan i kind × IsPlaceOf xs ys plan kind place
  pub few : length staged ≤ length plan.actions
  pub all : (i : ℕ) → i < length plan.actions → ((place : Place) × Contains staged (place, i)) ⊎ ((kind : Kind) (place : Place) → KindIs plan i kind → ¬ IsPlaceOf xs ys plan kind place)

-- the same of the actions from one number on and before another
pub record ArePlacesBetween (xs ys : Listing Stamp) (plan : Plan) (from to : ℕ) (staged : List (Place × ℕ)) : Type 0 where
  pub each : (place : Place) (i : ℕ) → Contains staged (place, i) → (kind : Kind) × KindIs plan i kind × IsPlaceOf xs ys plan kind place
  pub few : from + length staged ≤ to
  pub all : (i : ℕ) → from ≤ i → i < to → ((place : Place) × Contains staged (place, i)) ⊎ ((kind : Kind) (place : Place) → KindIs plan i kind → ¬ IsPlaceOf xs ys plan kind place)

-- what stands at each place: the number of its piece among the first n actions
pub record IsStagedMap (xs ys : Listing Stamp) (plan : Plan) (n : ℕ) (staged : List (Place × ℕ)) : Type 0 where
  pub found : (place : Place) (i : ℕ) → staged_at staged place ≡ Some i → (i < n) × ((kind : Kind) × KindIs plan i kind × IsPlaceOf xs ys plan kind place)
  pub complete : (place : Place) (i : ℕ) (kind : Kind) → i < n → KindIs plan i kind → IsPlaceOf xs ys plan kind place → (j : ℕ) × (staged_at staged place ≡ Some j)
  pub each : (i e offset len : ℕ) (p : Path) → i < n → KindIs plan i (Piece e offset len p) → (place : Place) × (staged_at staged place ≡ Some i)

abbrev pub IsAgain : Plan → ℕ → Type 0
IsAgain plan i = (e offset len : ℕ) × (p : Path) × KindIs plan i (Piece e offset len p) × Earlier plan i (λ kind. (other : ℕ) × (kind ≡ Piece e offset other p))

-- a lawful piece of entry e is no action
abbrev pub LacksSome : Listing Stamp → Listing Stamp → Plan → ℕ → Type 0
LacksSome xs ys plan e = (offset len : ℕ) × (p : Path) × IsPieceIn xs ys plan e offset len p × ((i other : ℕ) → ¬ KindIs plan i (Piece e offset other p))

-- the size of a file, or none where this is no file
abbrev pub IsSizeOf : Content Stamp → Option ℕ → Type 0
IsSizeOf content found = MatchOption found ((stamp : Stamp) → content ≢ File stamp) (λ size. (stamp : Stamp) × (content ≡ File stamp) × (size ≡ stamp.size))

-- the place of each piece, where none stands again
abbrev pub IsMapOfAll : Listing Stamp → Listing Stamp → Plan → List (Place × ℕ) → Type 0
IsMapOfAll xs ys plan staged = IsStagedMap xs ys plan (length plan.actions) staged × Never (IsAgain plan)

-- not each lawful piece stands once
abbrev pub NotEachOnce : Listing Stamp → Listing Stamp → Plan → ℕ → Type 0
NotEachOnce xs ys plan place = IsAgain plan place ⊎ ((e : ℕ) × (place ≡ length plan.actions + e) × LacksSome xs ys plan e)

-- the same, in the order of the places, and no more than there are actions
abbrev pub IsListOfAll : Listing Stamp → Listing Stamp → Plan → List (Place × ℕ) → Type 0
IsListOfAll xs ys plan staged = IsMapOfAll xs ys plan staged × AreInOrder staged × (length staged ≤ length plan.actions)

-- the place of each piece, where each lawful one stands once
abbrev pub IsMapOfEach : Listing Stamp → Listing Stamp → Plan → List (Place × ℕ) → Type 0
IsMapOfEach xs ys plan staged = IsStagedMap xs ys plan (length plan.actions) staged × Never (NotEachOnce xs ys plan)

-- the same, in the order of the places, and no more than there are actions
abbrev pub IsListOfEach : Listing Stamp → Listing Stamp → Plan → List (Place × ℕ) → Type 0
IsListOfEach xs ys plan staged = IsMapOfEach xs ys plan staged × AreInOrder staged × (length staged ≤ length plan.actions)

-- each range of a file of this size has a piece of entry e, of the file in this row
abbrev pub HasAll : List (Place × ℕ) → ℕ → ℕ → ℕ → Type 0
HasAll staged e row size = (offset len : ℕ) → IsRange size offset len → (i : ℕ) × (staged_at staged (e, (row, offset)) ≡ Some i)

-- so has each file at or below a path
abbrev pub HasAllBelow : Path → Listing Stamp → List (Place × ℕ) → ℕ → Type 0
HasAllBelow top rows staged e = (k : ℕ) (row : Row Stamp) (stamp : Stamp) → slice_get rows k ≡ Some row → IsAbove top row.path → row.content ≡ File stamp → HasAll staged e k stamp.size

-- some range has none
abbrev pub LacksRange : List (Place × ℕ) → ℕ → ℕ → ℕ → Type 0
LacksRange staged e row size = (offset len : ℕ) × IsRange size offset len × (staged_at staged (e, (row, offset)) ≡ None)

-- in some file at or below a path
abbrev pub LacksBelow : Path → Listing Stamp → List (Place × ℕ) → ℕ → Type 0
LacksBelow top rows staged e = (k : ℕ) × (row : Row Stamp) × (stamp : Stamp)
    × (slice_get rows k ≡ Some row) × IsAbove top row.path × (row.content ≡ File stamp) × LacksRange staged e k stamp.size

-- no entry has the root as its path
abbrev pub HasNoRoot : Plan → Type 0
HasNoRoot plan = (e : ℕ) (entry : Entry) → EntryIs plan e entry → entry.path ≢ []

-- what a look for a piece that isn't staged rests on
pub record IsReady (xs ys : Listing Stamp) (plan : Plan) (staged : List (Place × ℕ)) : Type 0 where
  pub few : length plan.entries ≤ entry_limit
  pub first : IsListing xs
  pub second : IsListing ys
  pub places : HasNoRoot plan
  pub staged_are : IsStagedMap xs ys plan (length plan.actions) staged
  pub order : AreInOrder staged

-- ---- the pieces of each entry

-- each piece's number beside its entry
abbrev pub by_entry : List (Place × ℕ) → List (ℕ × ℕ)
by_entry entries = map (λ x. (x.0.0, x.1)) entries

-- action k is a piece of entry e
abbrev pub IsPieceFor : Plan → ℕ → ℕ → Type 0
IsPieceFor plan e k = (offset len : ℕ) × (p : Path) × KindIs plan k (Piece e offset len p)

-- the file of piece k comes before that of piece l, or it is the same and k's offset is less
pub record IsEarlierPiece (plan : Plan) (k l : ℕ) : Type 0 where
  pub one : (e offset len : ℕ) × (p : Path) × KindIs plan k (Piece e offset len p)
  pub other : (e offset len : ℕ) × (p : Path) × KindIs plan l (Piece e offset len p)
  pub earlier : IsBefore one.3 other.3 ⊎ ((one.3 ≡ other.3) × (one.1 < other.1))

-- the pieces of entry e, by path and then by offset, each once
pub record ArePieces (plan : Plan) (e : ℕ) (numbers : List ℕ) : Type 0 where
  pub each : (k : ℕ) → Contains numbers k ↔ IsPieceFor plan e k
  pub order : AllPairs (IsEarlierPiece plan) numbers

-- for each entry these are its pieces
pub record AreAllPieces (plan : Plan) (lists : List (List ℕ)) : Type 0 where
  pub size : length lists ≡ length plan.entries
  pub each : (e : ℕ) (numbers : List ℕ) → slice_get lists e ≡ Some numbers → ArePieces plan e numbers
  pub within : (e k : ℕ) → IsPieceFor plan e k → e < length plan.entries
