-- What a synchronizer owes: which paths are dirty, what the new pair of replicas is, and each path's reason.
--     Snapshot                  the archive, the prints of the two replicas, and the hold rules
--     IsChanged s side p        at or below p something is not as in the archive
--     IsDirty s side p          the same, or a held path is above p, below it or p itself
--     IsRelevant a b p          the root, or a path whose parent is a directory in both
--     Sync a b da db c d        the replicas a and b, dirty at these paths, may become c and d
--     HasReason s p r           why p needs attention
--     treatment r               what is done about an entry of this reason
use Rattle.std.specs.Prelude.{◌≡◌, ◌≢◌, ◌⊎◌, Bool, true, false, List, [], ◌∷◌, ◌++◌}
use Rattle.ts_name.specs.Paths.{Name, Path, IsAbove}
use Rattle.ts_model.specs.declared.row.Content.{Content}
use Rattle.ts_model.specs.declared.row.Content.TheVariants.{Dir}
use Rattle.ts_model.specs.Trees.{Tree, Print, sub, print_of, IsTree, Listing, at}
use Rattle.ts_model.specs.declared.row.Stamp.{Stamp}
use Rattle.ts_model.specs.Holds.{IsHeld}
use Rattle.ts_model.specs.declared.hold.Rule.{Rule}
use Rattle.ts_model.specs.declared.plan.Side.{Side}
use Rattle.ts_model.specs.declared.plan.Side.TheVariants as side
use Rattle.ts_model.specs.declared.plan.Reason.{Reason}
use Rattle.ts_model.specs.declared.plan.Reason.TheVariants as reason
use Rattle.ts_model.specs.declared.plan.Treatment.{Treatment}
use Rattle.ts_model.specs.declared.plan.Treatment.TheVariants.{Copied, Agreed, NewDirectory, Skipped}

pub record Snapshot : Type 0 where
  pub archive : Print
  pub first : Print
  pub second : Print
  pub rules : List Rule

-- the snapshot of three listed prints and the hold rules
abbrev pub listed_snapshot : Listing Stamp → Listing Stamp → Listing Stamp → List Rule → Snapshot
listed_snapshot archive first second rules = record { archive = at archive; first = at first; second = at second; rules = rules }

pub record IsSnapshot (s : Snapshot) : Type 0 where
  pub archive : IsTree s.archive
  pub first : IsTree s.first
  pub second : IsTree s.second

-- the snapshot's prints are those of these two trees
pub record AreReplicas (s : Snapshot) (a b : Tree) : Type 0 where
  pub first : print_of a ≡ s.first
  pub second : print_of b ≡ s.second

abbrev pub replica : Snapshot → Side → Print
replica s side.First = s.first
replica s side.Second = s.second

-- ---- dirty paths

abbrev pub IsHeldIn : Snapshot → Path → Type 0
IsHeldIn s p = IsHeld s.rules s.archive s.first s.second p

abbrev pub IsChanged : Snapshot → Side → Path → Type 0
IsChanged s on p = (rest : Path) × (sub (replica s on) p rest ≢ sub s.archive p rest)

abbrev pub TouchesHeld : Snapshot → Path → Type 0
TouchesHeld s p = (h : Path) × IsHeldIn s h × (IsAbove h p ⊎ IsAbove p h)

abbrev pub IsDirty : Snapshot → Side → Path → Type 0
IsDirty s on p = IsChanged s on p ⊎ TouchesHeld s p

-- ---- the new pair

abbrev pub AreBothDirs : {F : Type 0} → (Path → Content F) → (Path → Content F) → Path → Type 0
AreBothDirs a b p = (a p ≡ Dir) × (b p ≡ Dir)

abbrev pub IsBelowDirs : {F : Type 0} → (Path → Content F) → (Path → Content F) → Path → Type 0
IsBelowDirs a b p = (parent : Path) × (name : Name) × (p ≡ parent ++ name ∷ []) × AreBothDirs a b parent

abbrev pub IsRelevant : {F : Type 0} → (Path → Content F) → (Path → Content F) → Path → Type 0
IsRelevant a b p = (p ≡ []) ⊎ IsBelowDirs a b p

-- at p and below, c is x and d is y
abbrev pub Become : Tree → Tree → Path → Tree → Tree → Type 0
Become c d p x y = (sub c p ≡ sub x p) × (sub d p ≡ sub y p)

pub record Sync (a b : Tree) (dirty_a dirty_b : Path → Type 0) (c d : Tree) : Type 0 where
  pub roots : AreBothDirs c d []
  -- what changed on one side alone goes to the other, and what changed on neither stays
  pub second_wins : (p : Path) → IsRelevant a b p → ¬ dirty_a p → Become c d p b b
  pub first_wins : (p : Path) → IsRelevant a b p → ¬ dirty_b p → Become c d p a a
  -- a directory on both sides stays one
  pub directories : (p : Path) → IsRelevant a b p → AreBothDirs a b p → AreBothDirs c d p
  -- a conflict stays as it is
  pub conflicts : (p : Path) → IsRelevant a b p → dirty_a p → dirty_b p → ¬ AreBothDirs a b p → Become c d p a b

-- the pair that a snapshot asks for, of two trees whose prints it has
pub record Synced (s : Snapshot) (a b c d : Tree) : Type 0 where
  pub sync : Sync a b (IsDirty s side.First) (IsDirty s side.Second) c d

-- ---- reasons

abbrev pub Agree : Snapshot → Path → Type 0
Agree s p = sub s.first p ≡ sub s.second p

abbrev pub Because : Snapshot → Path → Reason → Type 0
Because s p reason.Dir = AreBothDirs s.first s.second p × (s.archive p ≢ Dir)
Because s p reason.Same = (¬ AreBothDirs s.first s.second p) × Agree s p × IsChanged s side.First p
Because s p reason.First = (¬ AreBothDirs s.first s.second p) × (¬ Agree s p) × IsDirty s side.First p × (¬ IsDirty s side.Second p)
Because s p reason.Second = (¬ AreBothDirs s.first s.second p) × (¬ Agree s p) × IsDirty s side.Second p × (¬ IsDirty s side.First p)
Because s p reason.Conflict = (¬ AreBothDirs s.first s.second p) × (¬ Agree s p) × IsChanged s side.First p × IsChanged s side.Second p
Because s p reason.Held = (¬ AreBothDirs s.first s.second p) × (¬ Agree s p) × IsDirty s side.First p × IsDirty s side.Second p
    × (¬ (IsChanged s side.First p × IsChanged s side.Second p))

-- a relevant path other than the root, and its reason
abbrev pub HasReason : Snapshot → Path → Reason → Type 0
HasReason s p r = IsBelowDirs s.first s.second p × Because s p r

-- ---- what is done about an entry

abbrev pub treatment : Reason → Treatment
treatment reason.Same = Agreed
treatment reason.First = Copied side.First
treatment reason.Second = Copied side.Second
treatment reason.Conflict = Skipped
treatment reason.Held = Skipped
treatment reason.Dir = NewDirectory

abbrev pub leaves_alone : Treatment → Bool
leaves_alone (Copied from) = false
leaves_alone Agreed = false
leaves_alone NewDirectory = false
leaves_alone Skipped = true

-- nothing is done about it
abbrev pub IsSkipped : Reason → Type 0
IsSkipped r = (r ≡ reason.Conflict) ⊎ (r ≡ reason.Held)

abbrev pub is_skipped : Reason → Bool
is_skipped r = leaves_alone (treatment r)
