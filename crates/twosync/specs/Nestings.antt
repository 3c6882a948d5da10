-- Which places of a command lie where they mustn't.
--     IsBelow inner outer      a path has the components of another one, and then more
--     LiesInside inner outer   the same of two places that are known
--     IsOwn place              a `.twosync` is among the components of the place
--     Has places nesting       this is wrong with the places
--     all_nestings             all that can be wrong, in the order in which it is looked for
--     before nesting           what is looked for before this
--     AreNone places list      nothing in the list is wrong with the places
--     IsFirst places nesting   this is wrong, and nothing that is looked for before it
use Rattle.std.specs.Prelude.{◌≡◌, ℕ, List, [], ◌∷◌, ◌++◌, Contains, IsSomeAnd, Option, codes}
use Rattle.std.specs.List.{AllByRecursion}
use Rattle.std.specs.Path.{path_buf_bytes, path_components}
use Rattle.std.specs.declared.path.buf.PathBuf.{PathBuf}
use Rattle.twosync.specs.declared.nesting.Nesting.{Nesting}
use Rattle.twosync.specs.declared.nesting.Nesting.TheVariants.{FirstInOwn, SecondInOwn, ArchiveInOwn, FirstInSecond, SecondInFirst, ArchiveInFirst, ArchiveInSecond}
use Rattle.twosync.specs.declared.nesting.Places.{Places}

abbrev pub IsBelow : List ℕ → List ℕ → Type 0
IsBelow inner outer = (name : List ℕ) × (rest : List (List ℕ)) × (path_components inner ≡ path_components outer ++ name ∷ rest)

abbrev pub LiesInside : {A B : Type 0} → Option (PathBuf A) → Option (PathBuf B) → Type 0
LiesInside inner outer = IsSomeAnd inner (λ x. IsSomeAnd outer (λ y. IsBelow (path_buf_bytes x) (path_buf_bytes y)))

abbrev pub IsOwn : {A : Type 0} → Option (PathBuf A) → Type 0
IsOwn place = IsSomeAnd place (λ path. Contains (path_components (path_buf_bytes path)) (codes ".twosync"))

abbrev pub Has : Places → Nesting → Type 0
Has places FirstInOwn = IsOwn places.first
Has places SecondInOwn = IsOwn places.second
Has places ArchiveInOwn = IsOwn places.archive
Has places FirstInSecond = LiesInside places.first places.second
Has places SecondInFirst = LiesInside places.second places.first
Has places ArchiveInFirst = LiesInside places.archive places.first
Has places ArchiveInSecond = LiesInside places.archive places.second

abbrev pub all_nestings : List Nesting
all_nestings = FirstInOwn ∷ SecondInOwn ∷ ArchiveInOwn ∷ FirstInSecond ∷ SecondInFirst ∷ ArchiveInFirst ∷ ArchiveInSecond ∷ []

abbrev pub before : Nesting → List Nesting
before FirstInOwn = []
before SecondInOwn = FirstInOwn ∷ []
before ArchiveInOwn = FirstInOwn ∷ SecondInOwn ∷ []
before FirstInSecond = FirstInOwn ∷ SecondInOwn ∷ ArchiveInOwn ∷ []
before SecondInFirst = FirstInOwn ∷ SecondInOwn ∷ ArchiveInOwn ∷ FirstInSecond ∷ []
before ArchiveInFirst = FirstInOwn ∷ SecondInOwn ∷ ArchiveInOwn ∷ FirstInSecond ∷ SecondInFirst ∷ []
before ArchiveInSecond = FirstInOwn ∷ SecondInOwn ∷ ArchiveInOwn ∷ FirstInSecond ∷ SecondInFirst ∷ ArchiveInFirst ∷ []

abbrev pub AreNone : Places → List Nesting → Type 0
AreNone places list = AllByRecursion (λ nesting. ¬ Has places nesting) list

abbrev pub IsFirst : Places → Nesting → Type 0
IsFirst places nesting = Has places nesting × AreNone places (before nesting)
