-- What is found of two replicas and an archive.
--     Found             the paths where something differs, and the topmost held paths
--     IsFoundOf s m     these are those of the snapshot
--     IsMarked s p m    what is said of a path is so
use Rattle.std.specs.Prelude.{◌≡◌, ◌≢◌, ◌↔◌, IsTrue, ℕ, ◌-◌, ◌<◌, List, length, slice_index_or, Contains}
use Rattle.ts_name.specs.Paths.{Path, IsAbove, IsBefore}
use Rattle.ts_model.specs.Sync.{Agree, IsChanged, IsHeldIn, Snapshot, TouchesHeld}
use Rattle.ts_model.specs.declared.plan.Side.TheVariants as side
use Rattle.ts_dirty.specs.declared.marks.Marked.{Marked}

-- each path comes before those after it
abbrev pub AreAscending : List Path → Type 0
AreAscending paths = (i j : ℕ) (d : Path) → i < j → j < length paths → IsBefore (slice_index_or paths i d) (slice_index_or paths j d)

-- no path is above one after it
abbrev pub AreTopmost : List Path → Type 0
AreTopmost paths = (i j : ℕ) (d : Path) → i < j → j < length paths → ¬ IsAbove (slice_index_or paths i d) (slice_index_or paths j d)

-- one of the paths is at p or below it
abbrev pub HasBelow : List Path → Path → Type 0
HasBelow paths p = (q : Path) × Contains paths q × IsAbove p q

-- one of the paths is at p or above it
abbrev pub HasAbove : List Path → Path → Type 0
HasAbove paths p = (q : Path) × Contains paths q × IsAbove q p

pub record Found : Type 0 where
  pub first : List Path
  pub second : List Path
  pub apart : List Path
  pub held : List Path

pub record IsFound (m : Found) : Type 0 where
  pub first : AreAscending m.first
  pub second : AreAscending m.second
  pub apart : AreAscending m.apart
  pub held : AreAscending m.held
  pub topmost : AreTopmost m.held

pub record IsFoundOf (s : Snapshot) (m : Found) : Type 0 where
  -- where the replicas aren't as the archive
  pub first : (p : Path) → Contains m.first p ↔ (s.first p ≢ s.archive p)
  pub second : (p : Path) → Contains m.second p ↔ (s.second p ≢ s.archive p)
  -- where they differ from one another
  pub apart : (p : Path) → Contains m.apart p ↔ (s.first p ≢ s.second p)
  -- held paths, one of them at or above each held path
  pub held : (p : Path) → Contains m.held p → IsHeldIn s p
  pub covered : (p : Path) → IsHeldIn s p → HasAbove m.held p

-- the last one of the paths is above p
abbrev pub LastIsAbove : List Path → Path → Type 0
LastIsAbove paths p = (last : Path) × (0 < length paths) × (last ≡ slice_index_or paths (length paths - 1) last) × IsAbove last p

-- what is said of a path is so
pub record IsMarked (s : Snapshot) (p : Path) (marked : Marked) : Type 0 where
  pub first : IsTrue marked.first ↔ IsChanged s side.First p
  pub second : IsTrue marked.second ↔ IsChanged s side.Second p
  pub agree : IsTrue marked.agree ↔ Agree s p
  pub touches_held : IsTrue marked.touches_held ↔ TouchesHeld s p
