-- Which archives a replica belongs to.
--     IsOf line digest                the archive of the line's pair may be the one with this digest
--     Knows known digest              the replica belongs to the archive with this digest, as far as it remembers
--     Says line pair before last      the line names the pair, whose archive may be the last one, or the one before, if there is one
--     RecentlySays known pair before last   one of the last 512 lines says so
--     IsNamedOf name digest line      the line names the pair so, or none, and its archive may be the one with this digest
--     IsBest lines name digest line   so it is, and its last archive is the one with this digest, where any line's is that is named so
--     IsCounterpart lines pair digest line   it is the best line for that archive that names the pair; or, where none does, names none
--     HasNoCounterpart lines pair before     no line is
--     IsLineFor line pair before last the line says this of the pair and no more: the archive before, where it is another than the last one
--     Adds old pair before last new   these lines, and then such a line
--     Becomes old pair before last noted new   the lines that there are once this was noted, by what was answered
--     Takes old is_taken new          where a line is taken it comes after these, which are fewer than 1,024; else they stay
--     IsOfAnother line pair           the line names another pair
--     KeepsOthers old pair noted new  each line of another pair is still there, but for the oldest, where it was answered to be forgotten
use Rattle.std.specs.Prelude.{◌≡◌, ◌≢◌, ◌⊎◌, ◌-◌, ◌+◌, ◌<◌, ◌≤◌, ◌++◌, ◌∷◌, [], ℕ, List, Option, Some, None, All, Any, Bool, Contains, IfSome, drop, false, length, slice_get, take, true}
use Rattle.ts_disk.specs.declared.known.KnownArchives.{KnownArchives}
use Rattle.ts_disk.specs.declared.known.Noted.{Noted}
use Rattle.ts_disk.specs.declared.known.Noted.TheVariants.{Already, Replaced, Added, Forgot}
use Rattle.ts_disk.specs.declared.known.PairArchive.{PairArchive}

abbrev pub IsOf : PairArchive → List ℕ → Type 0
IsOf line digest = (line.before ≡ Some digest) ⊎ (line.last ≡ digest)

abbrev pub Knows : KnownArchives → List ℕ → Type 0
Knows known digest = Any (λ line. IsOf line digest) known.pairs.items

-- ---- lines

abbrev pub Says : PairArchive → List ℕ → Option (List ℕ) → List ℕ → Type 0
Says line pair before last = (line.pair ≡ Some pair) × IsOf line last × IfSome before (IsOf line)

abbrev pub RecentlySays : KnownArchives → List ℕ → Option (List ℕ) → List ℕ → Type 0
RecentlySays known pair before last = Any (λ line. Says line pair before last) (drop (length known.pairs.items - 512) known.pairs.items)

abbrev pub IsNamedOf : Option (List ℕ) → List ℕ → PairArchive → Type 0
IsNamedOf name digest line = (line.pair ≡ name) × IsOf line digest

abbrev pub IsNamedLast : Option (List ℕ) → List ℕ → PairArchive → Type 0
IsNamedLast name digest line = (line.pair ≡ name) × (line.last ≡ digest)

abbrev pub IsBest : List PairArchive → Option (List ℕ) → List ℕ → PairArchive → Type 0
IsBest lines name digest line = IsNamedOf name digest line × ((line.last ≡ digest) ⊎ All (λ other. ¬ IsNamedLast name digest other) lines)

abbrev pub IsCounterpart : List PairArchive → List ℕ → List ℕ → PairArchive → Type 0
IsCounterpart lines pair digest line =
    IsBest lines (Some pair) digest line ⊎ (All (λ other. ¬ IsNamedOf (Some pair) digest other) lines × IsBest lines None digest line)

-- the line at this index is the one that an archive which comes after the one before is to have in its place
abbrev pub IsCounterpartAt : List PairArchive → List ℕ → Option (List ℕ) → ℕ → Type 0
IsCounterpartAt lines pair before at = IfSome (slice_get lines at) (λ line. (digest : List ℕ) × (before ≡ Some digest) × IsCounterpart lines pair digest line)

abbrev pub HasNoCounterpart : List PairArchive → List ℕ → Option (List ℕ) → Type 0
HasNoCounterpart lines pair before = IfSome before (λ digest. All (λ line. ¬ IsNamedOf (Some pair) digest line × ¬ IsNamedOf None digest line) lines)

-- ---- what is noted

abbrev pub IsLineFor : PairArchive → List ℕ → Option (List ℕ) → List ℕ → Type 0
IsLineFor line pair before last =
    (line.pair ≡ Some pair) × (line.last ≡ last) × (line.before ≢ Some last) × ((line.before ≡ before) ⊎ ((line.before ≡ None) × (before ≡ Some last)))

abbrev pub Adds : List PairArchive → List ℕ → Option (List ℕ) → List ℕ → List PairArchive → Type 0
Adds old pair before last new = (line : PairArchive) × IsLineFor line pair before last × (new ≡ old ++ line ∷ [])

-- what was said lately stays so; else the line is added in place of its counterpart, of none, or of the oldest one of 1,024
abbrev pub Becomes : List PairArchive → List ℕ → Option (List ℕ) → List ℕ → Noted → List PairArchive → Type 0
Becomes old pair before last Already new = new ≡ old
Becomes old pair before last Replaced new =
    (at : ℕ) × (at < length old) × IsCounterpartAt old pair before at × Adds (take at old ++ drop (at + 1) old) pair before last new
Becomes old pair before last Added new = HasNoCounterpart old pair before × (length old < 1024) × Adds old pair before last new
Becomes old pair before last Forgot new = HasNoCounterpart old pair before × (1024 ≤ length old) × Adds (drop 1 old) pair before last new

-- ---- what is read

abbrev pub Takes : List PairArchive → Bool → List PairArchive → Type 0
Takes old true new = (length old < 1024) × ((line : PairArchive) × (new ≡ old ++ line ∷ []))
Takes old false new = new ≡ old

-- ---- the other pairs

abbrev pub IsOfAnother : PairArchive → List ℕ → Type 0
IsOfAnother line pair = (other : List ℕ) × (line.pair ≡ Some other) × (other ≢ pair)

-- how many lines are forgotten
abbrev pub forgotten_lines : Noted → ℕ
forgotten_lines Already = 0
forgotten_lines Replaced = 0
forgotten_lines Added = 0
forgotten_lines Forgot = 1

abbrev pub KeepsOthers : List PairArchive → List ℕ → Noted → List PairArchive → Type 0
KeepsOthers old pair noted new = (line : PairArchive) → IsOfAnother line pair → Contains (drop (forgotten_lines noted) old) line → Contains new line
