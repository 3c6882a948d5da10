-- Going over an archive and two replicas in path order.
--     ArePlain rows               the rows ascend, and something is at each
--     IsStep p content old new    nothing stands before p, this content at p, and the rest is left
--     Left                        what a walk has not given yet
--     IsLeft a f s b left         that is what stands after b
--     Gives left items            the items that a walk gives to its end
--     AreMet a f s items          each path of the three, once, in path order, with what each of them has there
use Rattle.std.specs.Prelude.{◌≡◌, ◌≢◌, ◌⊎◌, ℕ, ◌+◌, ◌<◌, ◌≤◌, List, [], ◌∷◌, length, Contains, Option, Some, IfSome}
use Rattle.std.specs.List.{AllByRecursion}
use Rattle.ts_name.specs.Paths.{Path, IsAbove, IsBefore}
use Rattle.ts_model.specs.Trees.{Listing, listed, at, Ascend}
use Rattle.ts_model.specs.declared.row.Content.{Content}
use Rattle.ts_model.specs.declared.row.Content.TheVariants.{Absent}
use Rattle.ts_model.specs.declared.row.Stamp.{Stamp}

pub record ArePlain {F : Type 0} (rows : Listing F) : Type 0 where
  pub ascending : Ascend rows
  pub there : AllByRecursion (λ row. row.content ≢ Absent) rows

pub record IsStep {F : Type 0} (p : Path) (content : Content F) (old new : Listing F) : Type 0 where
  pub here : listed old p ≡ content
  pub before : (q : Path) → IsBefore q p → listed old q ≡ Absent
  pub later : (q : Path) → IsBefore p q → listed new q ≡ listed old q
  pub gone : (q : Path) → ¬ IsBefore p q → listed new q ≡ Absent
  pub no_more : length new ≤ length old
  pub less : content ≢ Absent → length new < length old

abbrev pub HasNoneBefore : {F : Type 0} → Listing F → Path → Type 0
HasNoneBefore rows p = (q : Path) → IsBefore q p → listed rows q ≡ Absent

-- p is the best path so far or the path of the first row, whichever comes first
pub record IsEarlier (p : Path) (best : Option Path) (rows : Listing Stamp) : Type 0 where
  pub none_before : HasNoneBefore rows p
  pub best_not_before : IfSome best (λ b. ¬ IsBefore b p)
  pub from : (best ≡ Some p) ⊎ (listed rows p ≢ Absent)

-- p is the least path of these rows
pub record IsLeastPath (p : Path) (archive first second : Listing Stamp) : Type 0 where
  pub in_archive : HasNoneBefore archive p
  pub in_first : HasNoneBefore first p
  pub in_second : HasNoneBefore second p
  pub some : (listed archive p ≢ Absent) ⊎ ((listed first p ≢ Absent) ⊎ (listed second p ≢ Absent))

-- what a walk over an archive and two replicas has not given yet
pub record Left : Type 0 where
  pub archive : Listing Stamp
  pub first : Listing Stamp
  pub second : Listing Stamp

abbrev pub left_count : Left → ℕ
left_count left = length left.archive + length left.first + length left.second

pub record ArePlainLeft (left : Left) : Type 0 where
  pub archive : ArePlain left.archive
  pub first : ArePlain left.first
  pub second : ArePlain left.second

-- p is the least path that is left, with these contents
pub record IsWalkStep (p : Path) (archive first second : Content Stamp) (old new : Left) : Type 0 where
  pub in_archive : IsStep p archive old.archive new.archive
  pub in_first : IsStep p first old.first new.first
  pub in_second : IsStep p second old.second new.second
  pub some : (archive ≢ Absent) ⊎ ((first ≢ Absent) ⊎ (second ≢ Absent))

-- nothing is left
abbrev pub HasEnded : Left → Type 0
HasEnded left = (left.archive ≡ []) × (left.first ≡ []) × (left.second ≡ [])

abbrev pub IsLeastOf : Path → Left → Type 0
IsLeastOf p left = IsLeastPath p left.archive left.first left.second

-- the least path that is left, if there is one, is neither the top nor below it
abbrev pub HasNoneFrom : Path → Left → Type 0
HasNoneFrom top left = HasEnded left ⊎ ((p : Path) × IsLeastOf p left × (¬ IsAbove top p))

-- ---- where a walk is

-- rest has what stands in whole after b, and nothing else
pub record IsRest {F : Type 0} (b : Path) (whole rest : Listing F) : Type 0 where
  pub later : (q : Path) → IsBefore b q → listed rest q ≡ at whole q
  pub gone : (q : Path) → ¬ IsBefore b q → listed rest q ≡ Absent

module _ (A F S : Listing Stamp) where
  -- what is left is what stands after b
  pub record IsLeft (b : Path) (left : Left) : Type 0 where
    pub archive : IsRest b A left.archive
    pub first : IsRest b F left.first
    pub second : IsRest b S left.second

  -- this stands at p
  pub record IsThere (p : Path) (x y z : Content Stamp) : Type 0 where
    pub archive : at A p ≡ x
    pub first : at F p ≡ y
    pub second : at S p ≡ z

  -- one of the three has something there
  abbrev pub IsPresent : Path → Type 0
  IsPresent p = (at A p ≢ Absent) ⊎ ((at F p ≢ Absent) ⊎ (at S p ≢ Absent))

-- ---- all that a walk gives

-- a path, and what the archive and the two replicas have there
pub record Met : Type 0 where
  pub path : Path
  pub archive : Content Stamp
  pub first : Content Stamp
  pub second : Content Stamp

-- step by step, until nothing is left
abbrev pub Gives : Left → List Met → Type 0
Gives left [] = HasEnded left
Gives left (m ∷ items) = (next : Left) × IsWalkStep m.path m.archive m.first m.second left next × Gives next items

-- each path comes before the next, and all come after p
abbrev pub AscendFrom : Path → List Met → Type 0
AscendFrom p [] = Unit {0}
AscendFrom p (m ∷ items) = IsBefore p m.path × AscendFrom m.path items

-- this is there, and it isn't nothing in all three
pub record IsMet (archive first second : Listing Stamp) (m : Met) : Type 0 where
  pub in_archive : at archive m.path ≡ m.archive
  pub in_first : at first m.path ≡ m.first
  pub in_second : at second m.path ≡ m.second
  pub some : (m.archive ≢ Absent) ⊎ ((m.first ≢ Absent) ⊎ (m.second ≢ Absent))

-- all paths but the root at which one of the three has something
pub record AreMet (archive first second : Listing Stamp) (items : List Met) : Type 0 where
  pub ascending : AscendFrom [] items
  pub each : (m : Met) → Contains items m → IsMet archive first second m
  pub all : (p : Path) → p ≢ [] → IsPresent archive first second p → (m : Met) × Contains items m × (m.path ≡ p)
