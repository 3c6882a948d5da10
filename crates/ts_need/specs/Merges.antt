-- What the checker's pass over an archive and two replicas knows.
--     SomeUpto P p b             P holds somewhere at p or below it, and not after b
--     AreFoundUpto p b found     the differences are those at p and below it, up to b
--     HasSeen seen left          a walk has come to this path, and has this left
--     AreGathered p left found   the differences are those at p and below it, up to where the walk is
--     IsAt b left holder         the pass is behind b
--     IsReasoned b p after r     of what comes after b, up to this path, p alone may have a reason, and r is it
--     HasComeTo b holder seen left         the pass was behind b, and came to this path by its next step
--     HasReasoned b seen left reasoned     it is behind a path that isn't before this one, and has this one's reason
--     MeetsEntries               what a path and its reason are to the entries from a number on
use Rattle.std.specs.Borrow.{Bor}
use Rattle.std.specs.Option.{option_copied}
use Rattle.std.specs.Prelude.{◌≡◌, ◌≢◌, ◌⊎◌, ◌↔◌, ℕ, List, ◌∷◌, ◌++◌, IsTrue, Option, Some, None, IfSome, slice_get}
use Rattle.ts_name.specs.Paths.{Name, Path, IsAbove, IsBefore}
use Rattle.ts_model.specs.Trees.{IsListing, Listing, at}
use Rattle.ts_model.specs.Sync.{AreBothDirs, HasReason, IsHeldIn, listed_snapshot}
use Rattle.ts_model.specs.declared.hold.Rule.{Rule}
use Rattle.ts_model.specs.declared.plan.Entry.{Entry}
use Rattle.ts_model.specs.declared.plan.Reason.{Reason}
use Rattle.ts_model.specs.declared.row.Stamp.{Stamp}
use Rattle.ts_print.specs.Walks.{IsLeft, IsPresent, IsThere, IsWalkStep, Left}
use Rattle.ts_print.specs.declared.triples.Triple.{Triple}
use Rattle.ts_need.specs.Needs.{IsReasonOf}
use Rattle.ts_need.specs.declared.differences.Differences.{Differences}
use Rattle.ts_need.specs.declared.reasons.Reasoned.{Reasoned}
use Rattle.ts_need.specs.declared.rules.Meeting.{Meeting}
use Rattle.ts_need.specs.declared.rules.Meeting.TheVariants.{Wrong, Right, Lacking, Nothing}

abbrev pub SomeUpto : (Path → Type 0) → Path → Path → Type 0
SomeUpto P p b = (q : Path) × IsAbove p q × (¬ IsBefore b q) × P q

-- this path is above the other
abbrev pub IsAboveIn : Option Path → Path → Type 0
IsAboveIn None q = ⊥
IsAboveIn (Some h) q = IsAbove h q

-- these contents stand at the path, not nothing in all three, and what is left stands after it
pub record HasSeen (A F S : Listing Stamp) (seen : Triple) (left : Left) : Type 0 where
  pub is_left : IsLeft A F S seen.path.now left
  pub there : IsThere A F S seen.path.now seen.archive seen.first seen.second
  pub present : IsPresent A F S seen.path.now

module _ (A F S : Listing Stamp) (rules : List Rule) where
  pub record AreFoundUpto (p b : Path) (found : Differences) : Type 0 where
    pub first : IsTrue found.first ↔ SomeUpto (λ q. at F q ≢ at A q) p b
    pub second : IsTrue found.second ↔ SomeUpto (λ q. at S q ≢ at A q) p b
    pub apart : IsTrue found.apart ↔ SomeUpto (λ q. at F q ≢ at S q) p b
    pub named : IsTrue found.is_named ↔ SomeUpto (IsHeldIn (listed_snapshot A F S rules)) p b

  abbrev pub AreGathered : Path → Left → Differences → Type 0
  AreGathered p left found = (b : Path) × IsLeft A F S b left × IsAbove p b × AreFoundUpto p b found

  pub record IsAt (b : Path) (left : Left) (holder : Option Path) : Type 0 where
    -- what stands after b is left
    pub is_left : IsLeft A F S b left
    -- and stands below directories of both replicas alone, of all that the pass has seen
    pub open_dirs : (q : Path) (name : Name) (rest : Path) → ¬ IsBefore b q → IsBefore b (q ++ name ∷ rest) → IsPresent A F S (q ++ name ∷ rest) → AreBothDirs (at F) (at S) q
    -- the holder is held, and above whatever is left below a held path that the pass has seen
    pub held : IfSome holder (λ h. IsHeldIn (listed_snapshot A F S rules) h × (¬ IsBefore b h))
    pub covers : (h q : Path) → IsHeldIn (listed_snapshot A F S rules) h → ¬ IsBefore b h → IsBefore b q → IsPresent A F S q → IsAbove h q → IsAboveIn holder q

  pub record IsReasoned (b p after : Path) (found : Option Reason) : Type 0 where
    pub later : ¬ IsBefore after p
    pub reason : IsReasonOf (listed_snapshot A F S rules) p found
    pub alone : (q : Path) (r : Reason) → IsBefore b q → ¬ IsBefore after q → q ≢ p → ¬ HasReason (listed_snapshot A F S rules) q r

  -- of listings; the holder is the one that it had behind b
  pub record HasComeTo (b : Path) (holder : Option (Bor Path)) (seen : Triple) (left : Left) : Type 0 where
    pub archive : IsListing A
    pub first : IsListing F
    pub second : IsListing S
    pub before : Left
    pub behind : IsAt b before (option_copied holder)
    pub step : IsWalkStep seen.path.now seen.archive seen.first seen.second before left

  abbrev pub HasReasoned : Path → Triple → Left → Reasoned → Type 0
  HasReasoned b seen left reasoned = (after : Path) × IsAt after left (option_copied reasoned.holder) × IsReasoned b seen.path.now after reasoned.reason

-- the entry of this number, if there is one, comes after p
abbrev pub ComesAfter : List Entry → ℕ → Path → Type 0
ComesAfter entries next p = (entry : Entry) → slice_get entries next ≡ Some entry → IsBefore p entry.path

abbrev pub MeetsEntries : List Entry → ℕ → Path → Option Reason → Meeting → Type 0
-- the entry comes before p, or is p with another reason
MeetsEntries entries next p found Wrong = (entry : Entry) × (slice_get entries next ≡ Some entry) × (IsBefore entry.path p ⊎ ((entry.path ≡ p) × (found ≢ Some entry.reason)))
MeetsEntries entries next p found Right = (entry : Entry) × (slice_get entries next ≡ Some entry) × (entry.path ≡ p) × (found ≡ Some entry.reason)
MeetsEntries entries next p found Lacking = ComesAfter entries next p × (r : Reason) × (found ≡ Some r)
MeetsEntries entries next p found Nothing = ComesAfter entries next p × (found ≡ None)
