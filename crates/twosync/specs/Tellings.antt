-- What is said of places that lie where they mustn't.
--     own_text noun name                   of a place that belongs to a `.twosync`
--     inside_text noun name outer advice   of a place inside another one, which has a noun and a name too
--     nesting_text pair nesting            of a pair with such places
use Rattle.std.specs.Prelude.{ℕ, List, [], ◌∷◌, codes}
use Rattle.ts_command.specs.declared.job.Pair.{Pair}
use Rattle.ts_explain.specs.Pieces.{said}
use Rattle.ts_preview.specs.Names.{shown}
use Rattle.twosync.specs.declared.nesting.Nesting.{Nesting}
use Rattle.twosync.specs.declared.nesting.Nesting.TheVariants.{FirstInOwn, SecondInOwn, ArchiveInOwn, FirstInSecond, SecondInFirst, ArchiveInFirst, ArchiveInSecond}

abbrev pub own_text : (noun name : List ℕ) → List ℕ
own_text noun name = said (codes "error: " ∷ noun ∷ shown 0 name
    ∷ codes " is part of a .twosync, which twosync keeps for itself: choose another place" ∷ [])

abbrev pub inside_text : (noun name outer_noun outer advice : List ℕ) → List ℕ
inside_text noun name outer_noun outer advice = said (codes "error: " ∷ noun ∷ shown 0 name
    ∷ codes " lies inside " ∷ outer_noun ∷ shown 0 outer ∷ codes ": " ∷ advice ∷ [])

abbrev pub first_noun : List ℕ
first_noun = codes "the first folder "

abbrev pub second_noun : List ℕ
second_noun = codes "the second folder "

abbrev pub archive_noun : List ℕ
archive_noun = codes "the archive "

abbrev pub folders_advice : List ℕ
folders_advice = codes "neither may contain the other"

abbrev pub archive_advice : List ℕ
archive_advice = codes "keep it outside both folders"

abbrev pub nesting_text : Pair → Nesting → List ℕ
nesting_text pair FirstInOwn = own_text first_noun pair.first.now
nesting_text pair SecondInOwn = own_text second_noun pair.second.now
nesting_text pair ArchiveInOwn = own_text archive_noun pair.archive.now
nesting_text pair FirstInSecond = inside_text first_noun pair.first.now second_noun pair.second.now folders_advice
nesting_text pair SecondInFirst = inside_text second_noun pair.second.now first_noun pair.first.now folders_advice
nesting_text pair ArchiveInFirst = inside_text archive_noun pair.archive.now first_noun pair.first.now archive_advice
nesting_text pair ArchiveInSecond = inside_text archive_noun pair.archive.now second_noun pair.second.now archive_advice
