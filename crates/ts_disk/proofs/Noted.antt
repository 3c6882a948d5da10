-- What a replica knows once a pair's archive is noted.
use Rattle.std.proofs.Common.{◌≡◌, ◌≢◌, ◌∙◌, ◌++◌, ◌∷◌, ◌+◌, ◌<◌, ◌≤◌, [], zero, suc, inl, inr, refl, ℕ, List, Option, Some, None, length, take, drop, get_or, sym, ap, subst, add-one, arith}
use Rattle.std.proofs.lemmas.List.Elements.{Contains-append_left}
use Rattle.std.proofs.lemmas.List.Quantifiers.{Any-push}
use Rattle.std.proofs.lemmas.Option.{slice_get-get_or}
use Rattle.std.specs.Prelude.{Any, Contains, IfSome}
use Rattle.ts_disk.specs.Known.{Adds, Becomes, HasNoCounterpart, IsCounterpart, IsCounterpartAt, IsLineFor, IsOf, IsOfAnother, KeepsOthers, Knows}
use Rattle.ts_disk.specs.declared.known.KnownArchives.{KnownArchives}
use Rattle.ts_disk.specs.declared.known.Noted.{Noted}
use Rattle.ts_disk.specs.declared.known.Noted.TheVariants.{Already, Replaced, Added, Forgot}
use Rattle.ts_disk.specs.declared.known.PairArchive.{PairArchive}

-- the archive of a line that was added is known
pub known_pushed : (known : KnownArchives) (lines : List PairArchive) (line : PairArchive) (digest : List ℕ)
    → known.pairs.items ≡ lines ++ line ∷ [] → IsOf line digest → Knows known digest
known_pushed known lines line digest pushed is =
    subst (Any (λ l. IsOf l digest)) (sym pushed) (Any-push (λ l. IsOf l digest) lines line is)

-- ---- what a list keeps where one of its elements is removed

contains_tail : {X : Type 0} (x : X) (xs : List X) (y : X) → Contains xs y → Contains (x ∷ xs) y
contains_tail x xs y h = (suc h.0, let less = h.1 in omega arith, h.2)

without : {X : Type 0} → ℕ → List X → List X
without at xs = take at xs ++ drop (suc at) xs

-- another element than the removed one stays
other_stays : {X : Type 0} (xs : List X) (at : ℕ) (x : X) → get_or xs at x ≢ x → Contains xs x → Contains (without at xs) x
unfolding without
other_stays {X} [] at x other has = let less = has.1 in absurd (omega arith)
other_stays {X} (first ∷ xs) zero x other has = go has.0 has.1 has.2
  where
    go : (k : ℕ) → k < length (first ∷ xs) → get_or (first ∷ xs) k x ≡ x → Contains xs x
    go zero less is = absurd (other is)
    go (suc k) less is = (k, omega arith, is)
other_stays {X} (first ∷ xs) (suc at) x other has = go (other_stays xs at x other) has.0 has.1 has.2
  where
    go : (Contains xs x → Contains (without at xs) x) → (k : ℕ) → k < length (first ∷ xs) → get_or (first ∷ xs) k x ≡ x → Contains (first ∷ without at xs) x
    go later zero less is = (zero, omega arith, is)
    go later (suc k) less is = contains_tail first (without at xs) x (later (k, omega arith, is))

stays : {X : Type 0} (xs ys : List X) (at : ℕ) (x : X) → ys ≡ take at xs ++ drop (at + 1) xs → get_or xs at x ≢ x → Contains xs x → Contains ys x
unfolding without
stays xs ys at x is other has = rw (is, add-one) (other_stays xs at x other has)

-- ---- what becomes of the lines

adds : (kept kept' new : List PairArchive) (pair : List ℕ) (before : Option (List ℕ)) (last : List ℕ) (line : PairArchive)
    → IsLineFor line pair before last → kept ≡ kept' → new ≡ kept ++ line ∷ [] → Adds kept' pair before last new
adds kept kept' new pair before last line is same pushed = (line, is, pushed ∙ ap (λ l. l ++ line ∷ []) same)

pub replaced : (old kept new : List PairArchive) (pair : List ℕ) (before : Option (List ℕ)) (last : List ℕ) (line : PairArchive) (at : ℕ) → at < length old
    → IsCounterpartAt old pair before at → IsLineFor line pair before last → kept ≡ take at old ++ drop (at + 1) old → new ≡ kept ++ line ∷ []
    → Becomes old pair before last Replaced new
replaced old kept new pair before last line at within is noted removed pushed = (at, within, is, adds kept _ new pair before last line noted removed pushed)

pub forgot : (old kept new : List PairArchive) (pair : List ℕ) (before : Option (List ℕ)) (last : List ℕ) (line : PairArchive) → 1024 ≤ length old
    → HasNoCounterpart old pair before → IsLineFor line pair before last → kept ≡ take 0 old ++ drop (0 + 1) old → new ≡ kept ++ line ∷ []
    → Becomes old pair before last Forgot new
forgot old kept new pair before last line full none noted removed pushed = (none, full, adds kept _ new pair before last line noted removed pushed)

-- ---- the other pairs

named_once : (line : PairArchive) (pair other : List ℕ) → line.pair ≡ Some other → other ≢ pair → line.pair ≡ Some pair → ⊥
named_once line pair other is differs same = differs cc

named_none : (line : PairArchive) (other : List ℕ) → line.pair ≡ Some other → line.pair ≡ None → ⊥
named_none line other is none = cc

-- the line of another pair is no counterpart
is_no_counterpart : (lines : List PairArchive) (pair digest : List ℕ) (line : PairArchive) → IsOfAnother line pair → IsCounterpart lines pair digest line → ⊥
is_no_counterpart lines pair digest line another (inl best) = named_once line pair another.0 another.1 another.2 best.0.0
is_no_counterpart lines pair digest line another (inr best) = named_none line another.0 another.1 best.1.0.0

pub others_kept : (old : List PairArchive) (pair : List ℕ) (before : Option (List ℕ)) (last : List ℕ) (noted : Noted) (new : List PairArchive)
    → Becomes old pair before last noted new → KeepsOthers old pair noted new
others_kept old pair before last Already new is line another there = subst (λ l. Contains l line) (sym is) there
others_kept old pair before last Replaced new (at, within, is, added) line another there =
    let kept = take at old ++ drop (at + 1) old in
    let found = subst (λ o. IfSome o (λ l. (digest : List ℕ) × (before ≡ Some digest) × IsCounterpart old pair digest l)) (slice_get-get_or old at line within) is in
    let differs : get_or old at line ≢ line = λ same. is_no_counterpart old pair found.0 line another (subst (IsCounterpart old pair found.0) same found.2) in
    subst (λ l. Contains l line) (sym added.2) (Contains-append_left kept (added.0 ∷ []) line (stays old kept at line refl differs there))
others_kept old pair before last Added new (none, room, added) line another there =
    subst (λ l. Contains l line) (sym added.2) (Contains-append_left old (added.0 ∷ []) line there)
others_kept old pair before last Forgot new (none, full, added) line another there =
    subst (λ l. Contains l line) (sym added.2) (Contains-append_left (drop 1 old) (added.0 ∷ []) line there)
