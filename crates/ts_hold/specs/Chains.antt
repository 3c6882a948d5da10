-- Chains of the numbers whose keys have the same slot, the last number first.
--     keys_of, earlier_of         what links have, one after the other
--     slot_of                     the chain that a key is in
--     IsEarlier keys limit s n    n is one more than the last number below the limit that is in the chain s, or 0 where there is none
--     AreLinked                   each number tells the one before it in its chain
--     IsChained                   and each chain begins at its last number
--     HasRoom                     each chain has a head now
--     HasNone, IsLast             no number in a range has the key; the last number below a limit that has it
use Rattle.std.specs.Prelude.{◌≡◌, ◌≢◌, ◌⊎◌, ℕ, ◌+◌, ◌/◌, ◌%◌, ◌<◌, ◌≤◌, List, length, map, slice_index}
use Rattle.ts_hold.specs.declared.index.Link.{Link}

abbrev pub keys_of : List Link → List ℕ
keys_of links = map (λ link. link.key) links

abbrev pub earlier_of : List Link → List ℕ
earlier_of links = map (λ link. link.earlier) links

unfoldable pub slot_of : ℕ → ℕ
slot_of key = (key / 4294967296) % 65536

-- a number of the chain is one less than this, or this is 0
abbrev pub IsOn : List ℕ → ℕ → ℕ → Type 0
IsOn keys chain next = (i : ℕ) → next ≡ i + 1 → slot_of (slice_index keys i) ≡ chain

pub record IsEarlier (keys : List ℕ) (limit : ℕ) (chain : ℕ) (next : ℕ) : Type 0 where
  pub within : next ≤ limit
  pub on : IsOn keys chain next
  pub none : (i : ℕ) → next ≤ i → i < limit → slot_of (slice_index keys i) ≢ chain

pub record AreLinked (earlier keys : List ℕ) : Type 0 where
  pub count : length earlier ≡ length keys
  pub each : (i : ℕ) → i < length keys → IsEarlier keys i (slot_of (slice_index keys i)) (slice_index earlier i)

pub record IsChained (heads earlier keys : List ℕ) : Type 0 where
  pub room : (length heads ≡ 65536) ⊎ ((length heads ≡ 0) × (length keys ≡ 0))
  pub few : length keys ≤ 4096
  pub linked : AreLinked earlier keys
  pub begun : (chain : ℕ) → chain < length heads → IsEarlier keys (length keys) chain (slice_index heads chain)

-- there is a head for each chain, and the chains are as before
pub record HasRoom (before after : List ℕ) : Type 0 where
  pub room : length after ≡ 65536
  pub same : (after ≡ before) ⊎ ((length before ≡ 0) × ((chain : ℕ) → slice_index after chain ≡ 0))

abbrev pub HasNone : List ℕ → ℕ → ℕ → ℕ → Type 0
HasNone keys key from limit = (i : ℕ) → from ≤ i → i < limit → slice_index keys i ≢ key

pub record IsLast (keys : List ℕ) (key : ℕ) (limit : ℕ) (found : ℕ) : Type 0 where
  pub below : found < limit
  pub has : slice_index keys found ≡ key
  pub after : HasNone keys key (found + 1) limit
