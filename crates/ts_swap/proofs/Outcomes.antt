-- What the calls of replacing and of recovery leave, one after another.
use Rattle.std.proofs.Common.{rules, ◌≡◌, ◌≢◌, ◌⊎◌, inl, inr, ℕ, Bool, true, false, List, [], ◌∷◌, ◌++◌, refl, sym, ◌∙◌, ap, subst, Option, Some, None, Result, Ok, Err}
use Rattle.std.proofs.lemmas.Bool.{false≢true}
use Rattle.std.specs.Prelude.{IfSome, IfOk, IsErr, MatchResult, is_ok}
use Rattle.ts_model.specs.Trees.{Listing}
use Rattle.ts_model.specs.Swap.{Spot, spot, Spots, Call, IsThere, Write, Rename, Remove, Target, New, Old, after_call, MayFail, MayStop, recovery}
use Rattle.ts_swap.specs.Leavings.{AtEachMoment, Counts, Grows, HasFailed, OnSpots, IsDuring, IsSetAside, IsPut, IsBack, IsAside}
use Rattle.ts_swap.specs.Leavings.{IsOriginal, IsReplaced, IsInSwap, KeepsOthers, Does, Leaves, Looks, MakesCalls, Recovers, Stumbles, Tells, removal}
use Rattle.ts_swap.proofs.Counting.{grown}
use Rattle.ts_swap.proofs.Moments.{stays, weakens}
use Rattle.ts_swap.proofs.Moving.{as_it_was}
use Rattle.ts_swap.proofs.Stops.{HasNoOld, IsSetting, IsPutting, Sweeps, sweep, put_back, during_first, during_call, putting, each}

-- of a call that failed nothing is said that is said where it ends well
pub not_ok : {A E : Type 0} (r : Result A E) (P : A → Type 0) → IsErr r → IfOk r P
not_ok (Ok x) P is = search (rules, is)
not_ok (Err e) P is = tt

pub failed_with : {A E : Type 0} (r : Result A E) (P : A → Type 0) (Q : Type 0) → IsErr r → Q → MatchResult r P (λ _. Q)
failed_with (Ok x) P Q is so = search (rules, is)
failed_with (Err e) P Q is so = so

-- nothing failed, so nothing is said
pub none_failed : {A : Type 0} → false ≡ true → A
none_failed is = absurd (false≢true is)

-- the same spots
pub same_spots : (o p : Option Spots) → OnSpots (λ s left. left ≡ s) o p → p ≡ o
same_spots None p is = is
same_spots (Some s) p (t, is, same) = is ∙ ap (λ (z : Spots). Some z) same

on_each : (A B : Spots → Spots → Type 0) (o p : Option Spots) → ((s t : Spots) → A s t → B s t) → OnSpots A o p → OnSpots B o p
on_each A B None p so on = on
on_each A B (Some s) p so (t, is, a) = (t, is, so s t a)

on_both : (A B C : Spots → Spots → Type 0) (o p q : Option Spots) → ((s t u : Spots) → A s t → B t u → C s u) → OnSpots A o p → OnSpots B p q → OnSpots C o q
on_both A B C None p q so a b = subst (λ (o : Option Spots). OnSpots B o q) a b
on_both A B C (Some s) p q so (t, is, a) b = let r = subst (λ (o : Option Spots). OnSpots B o q) is b in (r.0, r.1, so s t r.0 a r.2)

each_if : (Holds : Spots → Type 0) (P Q : Spots → Spots → Type 0) (o : Option Spots) (k m : List Spots) → ((s x : Spots) → Holds s → P s x → Q s x) → IfSome o Holds
    → AtEachMoment P o k m → AtEachMoment Q o k m
each_if Holds P Q None k m so holds at = tt
each_if Holds P Q (Some s) k m so holds at = weakens (P s) (Q s) k m (λ x. so s x holds) at

-- ---- writing

pub kept_others : (rows : Listing (List ℕ)) (o p e : Option Spots) → OnSpots (λ s left. MayFail s (Write rows) left) o p → OnSpots KeepsOthers p e → OnSpots KeepsOthers o e
kept_others rows o p e = on_both (λ s left. MayFail s (Write rows) left) KeepsOthers KeepsOthers o p e
    (λ s t u fails kept. (kept.0 ∙ ap (λ (z : Spots). z.target) fails.1, kept.1 ∙ ap (λ (z : Spots). z.old) fails.1))

-- ---- setting aside

pub nothing_aside : (had : Bool) (o : Option Spots) → had ≡ false → IfSome o (λ s. Tells had s.target) → IfSome o HasNoOld → OnSpots (IsSetAside false) o o
nothing_aside true o is told none = search (rules, is)
nothing_aside false None is told none = refl
nothing_aside false (Some s) is absent none = (
  s,
  refl,
  (
    ap (λ (z : Listing (List ℕ)). record { target = z; new = s.new; old = s.old }) absent
        ∙ ap (λ (z : Listing (List ℕ)). record { target = []; new = s.new; old = z }) (none ∙ sym absent),
    absent,
  ),
)

pub is_aside : (had : Bool) (o p : Option Spots) → had ≡ true → IfSome o (λ s. Tells had s.target) → OnSpots (λ s left. left ≡ after_call s (Rename Target Old)) o p
    → OnSpots (IsSetAside true) o p
is_aside false o p is told moved = search (rules, is)
is_aside true None p is told moved = moved
is_aside true (Some s) p is told (t, same, moved) = (t, same, (moved, told))

pub setting : (had : Bool) (o : Option Spots) (k m : List Spots) → had ≡ true → IfSome o (λ s. Tells had s.target) → AtEachMoment (λ s. MayStop s (Rename Target Old)) o k m
    → AtEachMoment IsSetting o k m
setting false o k m is told stops = search (rules, is)
setting true o k m is told stops = each_if (λ s. Tells true s.target) (λ s. MayStop s (Rename Target Old)) IsSetting o k m there told stops
  where
    there : (s x : Spots) → Tells true s.target → MayStop s (Rename Target Old) x → IsSetting s x
    there s x some (inl is) = inl is
    there s x some (inr (inl is)) = inr (is, some)
    there s x some (inr (inr is)) = inl is

pub lies_there : (had : Bool) (o : Option Spots) (at : Spot) → had ≡ true → IfSome o (λ s. Tells had (spot s at)) → IfSome o (λ s. IsThere s at)
lies_there had o at is told = subst (λ (b : Bool). IfSome o (λ s. Tells b (spot s at))) is told

-- ---- putting in place

pub nothing_put : (wanted : Bool) (o : Option Spots) → wanted ≡ false → IfSome o (λ s. s.target ≡ []) → IfSome o (λ s. Tells wanted s.new) → OnSpots IsPut o o
nothing_put true o is absent none = search (rules, is)
nothing_put false None is absent none = refl
nothing_put false (Some s) is absent none = (
  s,
  refl,
  ap (λ (z : Listing (List ℕ)). record { target = z; new = s.new; old = s.old }) (absent ∙ sym none)
      ∙ ap (λ (z : Listing (List ℕ)). record { target = s.new; new = z; old = s.old }) none,
)

-- what a call left that ended well, or that failed
pub of_ok : {A E : Type 0} (r : Result A E) (b : Bool) (P Q : Type 0) → b ≡ is_ok r → b ≡ true → MatchResult r (λ _. P) (λ _. Q) → P
of_ok (Ok x) b P Q value is so = so
of_ok (Err e) b P Q value is so = none_failed (sym value ∙ is)

pub of_err : {A E : Type 0} (r : Result A E) (b : Bool) (P Q : Type 0) → b ≡ is_ok r → b ≡ false → MatchResult r (λ _. P) (λ _. Q) → Q
of_err (Ok x) b P Q value is so = none_failed (sym is ∙ value)
of_err (Err e) b P Q value is so = so

-- the new tree couldn't be moved to the target, what was set aside is back there, and the new spot was cleared
pub is_back : (o p q e : Option Spots) → OnSpots (λ s left. left ≡ s) o p → OnSpots (λ s left. left ≡ after_call s (Rename Old Target)) p q → OnSpots KeepsOthers q e → OnSpots IsBack o e
is_back o p q e failed moved kept =
    on_both (λ s left. left ≡ after_call s (Rename Old Target)) KeepsOthers IsBack o q e
    (λ s t u is others. (others.0 ∙ ap (λ (z : Spots). z.target) is, others.1 ∙ ap (λ (z : Spots). z.old) is))
    (on_both (λ s left. left ≡ s) (λ s left. left ≡ after_call s (Rename Old Target)) (λ s left. left ≡ after_call s (Rename Old Target)) o p q
    (λ s t u same is. is ∙ ap (λ (z : Spots). after_call z (Rename Old Target)) same) failed moved) kept

-- nothing was set aside
pub was_nothing : (o p e : Option Spots) → IfSome o (λ s. s.target ≡ []) → IfSome o HasNoOld → OnSpots (λ s left. left ≡ s) o p → OnSpots KeepsOthers p e → OnSpots IsBack o e
was_nothing None p e absent none failed kept = subst (λ (o : Option Spots). OnSpots KeepsOthers o e) failed kept
was_nothing (Some s) p e absent none (t, is, same) kept =
    let r = subst (λ (o : Option Spots). OnSpots KeepsOthers o e) is kept in
    (r.0, r.1, (r.2.0 ∙ ap (λ (z : Spots). z.target) same ∙ absent ∙ sym none, r.2.1 ∙ ap (λ (z : Spots). z.old) same ∙ none))

-- it may have gone back
pub may_be_back : (o e : Option Spots) → OnSpots IsBack o e → OnSpots (λ s left. IsBack s left ⊎ (left ≡ s)) o e
may_be_back o e = on_each IsBack (λ s left. IsBack s left ⊎ (left ≡ s)) o e (λ s t back. inl back)

pub may_be_same : (o p q : Option Spots) → OnSpots (λ s left. left ≡ s) o p → OnSpots (λ s left. left ≡ s) p q → OnSpots (λ s left. IsBack s left ⊎ (left ≡ s)) o q
may_be_same o p q = on_both (λ s left. left ≡ s) (λ s left. left ≡ s) (λ s left. IsBack s left ⊎ (left ≡ s)) o p q (λ s t u same is. inr (is ∙ same))

pub put_stops : (o : Option Spots) (k m : List Spots) → AtEachMoment (λ s. MayStop s (Rename New Target)) o k m → AtEachMoment IsPutting o k m
put_stops o k m = each (λ s. MayStop s (Rename New Target)) IsPutting o k m putting

-- ---- moving in

on_both_if : (Holds : Spots → Type 0) (A B C : Spots → Spots → Type 0) (o p q : Option Spots) → ((s t u : Spots) → Holds s → A s t → B t u → C s u)
    → IfSome o Holds → OnSpots A o p → OnSpots B p q → OnSpots C o q
on_both_if Holds A B C None p q so holds a b = subst (λ (o : Option Spots). OnSpots B o q) a b
on_both_if Holds A B C (Some s) p q so holds (t, is, a) b = let r = subst (λ (o : Option Spots). OnSpots B o q) is b in (r.0, r.1, so s t r.0 holds a r.2)

-- the new tree couldn't be put in place
pub original_or_aside : (had wanted : Bool) (o p q : Option Spots) → wanted ≡ true → IfSome o (λ s. Tells wanted s.new) → OnSpots (IsSetAside had) o p
    → OnSpots (λ s left. IsBack s left ⊎ (left ≡ s)) p q → OnSpots (λ s left. IsOriginal s left ⊎ IsAside s.new s left) o q
original_or_aside had false o p q is new away back = none_failed is
original_or_aside had true o p q is new away back =
    on_both_if (λ s. s.new ≢ []) (IsSetAside had) (λ s left. IsBack s left ⊎ (left ≡ s)) (λ s left. IsOriginal s left ⊎ IsAside s.new s left) o p q (there had) new away back
  where
    there : (had : Bool) (s t u : Spots) → s.new ≢ [] → IsSetAside had s t → IsBack t u ⊎ (u ≡ t) → IsOriginal s u ⊎ IsAside s.new s u
    there had s t u some (aside, tells) (inl (target, old)) = inl (target ∙ ap (λ (z : Spots). z.old) aside, old)
    there true s t u some (aside, tells) (inr same) = inr (same ∙ aside, tells, some)
    there false s t u some (aside, absent) (inr same) = inl (ap (λ (z : Spots). z.target) (same ∙ aside) ∙ sym absent, ap (λ (z : Spots). z.old) (same ∙ aside) ∙ absent)

pub original_again : (had : Bool) (o p q : Option Spots) → OnSpots (IsSetAside had) o p → OnSpots IsBack p q → OnSpots IsOriginal o q
original_again had o p q = on_both (IsSetAside had) IsBack IsOriginal o p q (λ s t u away back. (back.0 ∙ ap (λ (z : Spots). z.old) away.0, back.1))

pub in_swap : (o q : Option Spots) → OnSpots (λ s left. IsOriginal s left ⊎ IsAside s.new s left) o q → OnSpots (λ s left. IsInSwap s.target s.new left) o q
in_swap o q = on_each (λ s left. IsOriginal s left ⊎ IsAside s.new s left) (λ s left. IsInSwap s.target s.new left) o q there
  where
    there : (s t : Spots) → IsOriginal s t ⊎ IsAside s.new s t → IsInSwap s.target s.new t
    there s t (inl original) = inl original
    there s t (inr (is, some, new)) = inr (inl (ap (λ (z : Spots). z.target) is, ap (λ (z : Spots). z.old) is, some, λ none. new (sym (ap (λ (z : Spots). z.new) is) ∙ none)))

-- it was
pub is_replaced : (had : Bool) (o p q : Option Spots) → OnSpots (IsSetAside had) o p → OnSpots IsPut p q → OnSpots (λ s left. IsReplaced s.new left) o q
is_replaced had o p q = on_both (IsSetAside had) IsPut (λ s left. IsReplaced s.new left) o p q
    (λ s t u away put. (ap (λ (z : Spots). z.target) put ∙ ap (λ (z : Spots). z.new) away.0, ap (λ (z : Spots). z.new) put))

pub still_replaced : {A E : Type 0} (r : Result A E) (o p q : Option Spots) → OnSpots (λ s left. IsReplaced s.new left) o p → Leaves (Remove Old) p q r
    → OnSpots (λ s left. IsReplaced s.new left) o q
still_replaced (Ok x) o p q put leaves = on_both (λ s left. IsReplaced s.new left) (λ s left. left ≡ after_call s (Remove Old)) (λ s left. IsReplaced s.new left) o p q
    (λ s t u replaced is. (ap (λ (z : Spots). z.target) is ∙ replaced.0, ap (λ (z : Spots). z.new) is ∙ replaced.1)) put leaves
still_replaced (Err e) o p q put leaves = on_both (λ s left. IsReplaced s.new left) (λ s left. MayFail s (Remove Old) left) (λ s left. IsReplaced s.new left) o p q
    (λ s t u replaced fails. (ap (λ (z : Spots). z.target) fails.1 ∙ replaced.0, ap (λ (z : Spots). z.new) fails.1 ∙ replaced.1)) put leaves

pub replaced_in_swap : (o q : Option Spots) → OnSpots (λ s left. IsReplaced s.new left) o q → OnSpots (λ s left. IsInSwap s.target s.new left) o q
replaced_in_swap o q = on_each (λ s left. IsReplaced s.new left) (λ s left. IsInSwap s.target s.new left) o q (λ s t replaced. inr (inr replaced))

-- the original couldn't be set aside
pub still_original : (o p q : Option Spots) → IfSome o HasNoOld → p ≡ o → OnSpots KeepsOthers p q → OnSpots IsOriginal o q
still_original None p q none same kept = subst (λ (o : Option Spots). OnSpots KeepsOthers o q) same kept
still_original (Some s) p q none same kept = let r = subst (λ (o : Option Spots). OnSpots KeepsOthers o q) same kept in (r.0, r.1, (r.2.0, r.2.1 ∙ none))

pub same_original : (o p : Option Spots) → IfSome o HasNoOld → p ≡ o → OnSpots IsOriginal o p
same_original None p none same = same
same_original (Some s) p none same = (s, same, (refl, none))

pub original_in_swap : (o q : Option Spots) → OnSpots IsOriginal o q → OnSpots (λ s left. IsInSwap s.target s.new left) o q
original_in_swap o q = on_each IsOriginal (λ s left. IsInSwap s.target s.new left) o q (λ s t original. inl original)

pub either_original : (o q : Option Spots) → OnSpots IsOriginal o q → OnSpots (λ s left. IsOriginal s left ⊎ IsAside s.new s left) o q
either_original o q = on_each IsOriginal (λ s left. IsOriginal s left ⊎ IsAside s.new s left) o q (λ s t original. inl original)

-- ---- recovery

-- the count of failures after a call that ended well and another
pub counts_then : {A E : Type 0} (r : Result A E) (b m a : ℕ) → m ≡ b → Counts m a r → MatchResult r (λ _. a ≡ b) (λ _. HasFailed b a)
counts_then (Ok x) b m a same counts = counts ∙ same
counts_then (Err e) b m a same counts = grown b a (subst (λ (k : ℕ). Grows k a) same counts)

pub counted_then : {A E : Type 0} (r : Result A E) (b m a : ℕ) → m ≡ b → MatchResult r (λ _. a ≡ m) (λ _. HasFailed m a) → MatchResult r (λ _. a ≡ b) (λ _. HasFailed b a)
counted_then (Ok x) b m a same counts = counts ∙ same
counted_then (Err e) b m a same counts = subst (λ (k : ℕ). HasFailed k a) same counts

does_then : (calls more : List Call) (s t u : Spots) → Does calls s t → Does more t u → Does (calls ++ more) s u
does_then [] more s t u first then = subst (λ (z : Spots). Does more z u) first then
does_then (call ∷ calls) more s t u first then = does_then calls more (after_call s call) t u first then

stumbles_at_rest : (at : Spot) (there : Bool) (s t : Spots) → t ≡ s → Stumbles (removal at there) s t
stumbles_at_rest at false s t is = is
stumbles_at_rest at true s t is = inl (spot s at, is ∙ as_it_was s at)

stumbles_first : (calls : List Call) (at : Spot) (there : Bool) (s t : Spots) → Stumbles calls s t → Stumbles (calls ++ removal at there) s t
stumbles_first [] at there s t is = stumbles_at_rest at there s t is
stumbles_first (call ∷ calls) at there s t (inl fails) = inl fails
stumbles_first (call ∷ calls) at there s t (inr later) = inr (stumbles_first calls at there (after_call s call) t later)

stumbles_then : (calls more : List Call) (s t u : Spots) → Does calls s t → Stumbles more t u → Stumbles (calls ++ more) s u
stumbles_then [] more s t u first then = subst (λ (z : Spots). Stumbles more z u) first then
stumbles_then (call ∷ calls) more s t u first then = inr (stumbles_then calls more (after_call s call) t u first then)

-- one spot, where something lies there
pub removal_ends : {A E : Type 0} (r : Result A E) (at : Spot) (there : Bool) (o p : Option Spots) → there ≡ true → Leaves (Remove at) o p r
    → MakesCalls (removal at there) o p r
removal_ends r at false o p is leaves = none_failed is
removal_ends (Ok x) at true o p is leaves = leaves
removal_ends (Err e) at true o p is leaves = on_each (λ s left. MayFail s (Remove at) left) (Stumbles (removal at true)) o p (λ s t fails. inl fails) leaves

-- and where nothing does
pub no_removal : (at : Spot) (there : Bool) (o : Option Spots) → there ≡ false → OnSpots (Does (removal at there)) o o
no_removal at true o is = none_failed (sym is)
no_removal at false None is = refl
no_removal at false (Some s) is = (s, refl, refl)

pub no_stop : (at : Spot) (there : Bool) (o : Option Spots) (k : List Spots) → there ≡ false → AtEachMoment (IsDuring (removal at there)) o k k
no_stop at true o k is = none_failed (sym is)
no_stop at false None k is = tt
no_stop at false (Some s) k is = stays (IsDuring [] s) k

-- where the original isn't to go back
pub sweep_stumbles : (target new old : Bool) (o p : Option Spots) → Sweeps target new old → OnSpots (Stumbles (removal New new)) o p → OnSpots (Stumbles (recovery target new old)) o p
sweep_stumbles target new old o p some first =
    subst (λ (calls : List Call). OnSpots (Stumbles calls) o p) (sym (sweep target new old some))
    (on_each (Stumbles (removal New new)) (Stumbles (removal New new ++ removal Old old)) o p (stumbles_first (removal New new) Old old) first)

pub sweep_ends : {A E : Type 0} (r : Result A E) (target new old : Bool) (o p q : Option Spots) → Sweeps target new old → OnSpots (Does (removal New new)) o p
    → MakesCalls (removal Old old) p q r → MakesCalls (recovery target new old) o q r
sweep_ends (Ok x) target new old o p q some first then =
    subst (λ (calls : List Call). OnSpots (Does calls) o q) (sym (sweep target new old some))
    (on_both (Does (removal New new)) (Does (removal Old old)) (Does (removal New new ++ removal Old old)) o p q (does_then (removal New new) (removal Old old)) first then)
sweep_ends (Err e) target new old o p q some first then =
    subst (λ (calls : List Call). OnSpots (Stumbles calls) o q) (sym (sweep target new old some))
    (on_both (Does (removal New new)) (Stumbles (removal Old old)) (Stumbles (removal New new ++ removal Old old)) o p q (stumbles_then (removal New new) (removal Old old)) first then)

-- where it is to
pub back_stumbles : (target new old : Bool) (o p : Option Spots) → target ≡ false → new ≡ true → old ≡ true → OnSpots (λ s left. left ≡ s) o p
    → OnSpots (Stumbles (recovery target new old)) o p
back_stumbles target new old o p absent there kept failed =
    subst (λ (calls : List Call). OnSpots (Stumbles calls) o p) (sym (put_back target new old absent there kept))
    (on_each (λ s left. left ≡ s) (Stumbles (Rename Old Target ∷ Remove New ∷ [])) o p (λ s t is. inl is) failed)

pub back_stops : (target new old : Bool) (o : Option Spots) (k m : List Spots) → target ≡ false → new ≡ true → old ≡ true → AtEachMoment (λ s. MayStop s (Rename Old Target)) o k m
    → AtEachMoment (IsDuring (recovery target new old)) o k m
back_stops target new old o k m absent there kept stops =
    subst (λ (calls : List Call). AtEachMoment (IsDuring calls) o k m) (sym (put_back target new old absent there kept))
    (during_first (Rename Old Target ∷ []) (Remove New ∷ []) o k m (during_call (Rename Old Target) o k m stops))

pub back_ends : {A E : Type 0} (r : Result A E) (target new old : Bool) (o p q : Option Spots) → target ≡ false → new ≡ true → old ≡ true
    → OnSpots (λ s left. left ≡ after_call s (Rename Old Target)) o p → Leaves (Remove New) p q r
    → MakesCalls (recovery target new old) o q r
back_ends (Ok x) target new old o p q absent there kept moved leaves =
    subst (λ (calls : List Call). OnSpots (Does calls) o q) (sym (put_back target new old absent there kept))
    (on_both (λ s left. left ≡ after_call s (Rename Old Target)) (λ s left. left ≡ after_call s (Remove New)) (Does (Rename Old Target ∷ Remove New ∷ [])) o p q
    (λ s t u is then. then ∙ ap (λ (z : Spots). after_call z (Remove New)) is) moved leaves)
back_ends (Err e) target new old o p q absent there kept moved leaves =
    subst (λ (calls : List Call). OnSpots (Stumbles calls) o q) (sym (put_back target new old absent there kept))
    (on_both (λ s left. left ≡ after_call s (Rename Old Target)) (λ s left. MayFail s (Remove New) left) (Stumbles (Rename Old Target ∷ Remove New ∷ [])) o p q
    (λ s t u is fails. inr (inl (subst (λ (z : Spots). MayFail z (Remove New) u) is fails))) moved leaves)

-- what recovery does by what it saw
pub looks_at : (target new old : Bool) (o : Option Spots) → IfSome o (λ s. Tells target s.target) → IfSome o (λ s. Tells new s.new) → IfSome o (λ s. Tells old s.old) → IfSome o (Looks target new old)
looks_at target new old None first second third = tt
looks_at target new old (Some s) first second third = (first, second, third)

pub by_sight : {A E : Type 0} (r : Result A E) (target new old : Bool) (o p : Option Spots) → IfSome o (Looks target new old)
    → MakesCalls (recovery target new old) o p r → Recovers o p r
by_sight (Ok x) target new old None p looks done = done
by_sight (Ok x) target new old (Some s) p looks (t, is, does) = (t, is, (target, new, old, looks, does))
by_sight (Err e) target new old None p looks done = done
by_sight (Err e) target new old (Some s) p looks (t, is, stumbles) = (t, is, inr (target, new, old, looks, stumbles))
