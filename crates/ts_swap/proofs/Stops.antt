-- What a stop leaves in replacing and in recovery.
use Rattle.std.proofs.Common.{rules, ◌≡◌, ◌≢◌, ◌⊎◌, inl, inr, ℕ, Bool, true, false, List, [], ◌∷◌, ◌++◌, refl, sym, ◌∙◌, ap, subst, Option, Some, None}
use Rattle.std.specs.Prelude.{IfSome}
use Rattle.ts_model.specs.Trees.{Listing}
use Rattle.ts_model.specs.Swap.{Spot, Spots, Call, Write, Rename, Remove, Target, New, Old, after_call, with_spot, MayFail, MayStop, recovery}
use Rattle.ts_swap.specs.Leavings.{AtEachMoment, OnSpots, KeepsOthers, IsSetAside, IsPut, IsBack, IsStopped, IsDuring, IsInSwap, StaysInSwap, Does, Looks, Tells, removal}
use Rattle.ts_swap.proofs.Moments.{stays, goes_on, weakens}

-- where nothing is passed
pub at_rest : (P : Spots → Spots → Type 0) (o : Option Spots) (m : List Spots) → AtEachMoment P o m m
at_rest P None m = tt
at_rest P (Some s) m = stays (P s) m

pub each : (P Q : Spots → Spots → Type 0) (o : Option Spots) (m n : List Spots) → ((s x : Spots) → P s x → Q s x) → AtEachMoment P o m n → AtEachMoment Q o m n
each P Q None m n so at = tt
each P Q (Some s) m n so at = weakens (P s) (Q s) m n (so s) at

-- where this holds of the spots, one stretch after another
pub then_if : (Holds : Spots → Type 0) (Says P Q R : Spots → Spots → Type 0) (o p : Option Spots) (k m n : List Spots) → ((s x : Spots) → Holds s → P s x → R s x)
    → ((s t x : Spots) → Holds s → Says s t → Q t x → R s x) → IfSome o Holds → OnSpots Says o p → AtEachMoment P o k m → AtEachMoment Q p m n → AtEachMoment R o k n
then_if Holds Says P Q R None p k m n first second holds on at next = tt
then_if Holds Says P Q R (Some s) p k m n first second holds (t, is, says) at next =
    goes_on (P s) (Q t) (R s) k m n (λ x. first s x holds) (λ x. second s t x holds says) at (subst (λ (o : Option Spots). AtEachMoment Q o m n) is next)

always : (o : Option Spots) → IfSome o (λ _. Unit {0})
always None = tt
always (Some s) = tt

pub then : (Says P Q R : Spots → Spots → Type 0) (o p : Option Spots) (k m n : List Spots) → ((s x : Spots) → P s x → R s x) → ((s t x : Spots) → Says s t → Q t x → R s x)
    → OnSpots Says o p → AtEachMoment P o k m → AtEachMoment Q p m n → AtEachMoment R o k n
then Says P Q R o p k m n first second = then_if (λ _. Unit {0}) Says P Q R o p k m n (λ s x _. first s x) (λ s t x _. second s t x) (always o)

-- what is said of two stretches
pub on_then : (A B : Spots → Spots → Type 0) (o p q : Option Spots) → OnSpots A o p → OnSpots B p q → OnSpots (λ s u. (t : Spots) × A s t × B t u) o q
on_then A B None p q none b = subst (λ (o : Option Spots). OnSpots B o q) none b
on_then A B (Some s) p q (t, is, a) b = let r = subst (λ (o : Option Spots). OnSpots B o q) is b in (r.0, r.1, (t, a, r.2))

-- ---- replacing

abbrev pub IsSetting : Spots → Spots → Type 0
IsSetting s left = (left ≡ s) ⊎ IsSetAside true s left

abbrev pub IsPutting : Spots → Spots → Type 0
IsPutting s left = (left ≡ s) ⊎ (IsPut s left ⊎ IsBack s left)

writing : (rows : Listing (List ℕ)) (s x : Spots) → MayStop s (Write rows) x → KeepsOthers s x
writing rows s x (inl is) = (ap (λ (z : Spots). z.target) is, ap (λ (z : Spots). z.old) is)
writing rows s x (inr (inl is)) = (ap (λ (z : Spots). z.target) is, ap (λ (z : Spots). z.old) is)
writing rows s x (inr (inr (rest, is))) = (ap (λ (z : Spots). z.target) is, ap (λ (z : Spots). z.old) is)

clearing : (s x : Spots) → MayStop s (Remove New) x → KeepsOthers s x
clearing s x (inl is) = (ap (λ (z : Spots). z.target) is, ap (λ (z : Spots). z.old) is)
clearing s x (inr (inl is)) = (ap (λ (z : Spots). z.target) is, ap (λ (z : Spots). z.old) is)
clearing s x (inr (inr (rest, is))) = (ap (λ (z : Spots). z.target) is, ap (λ (z : Spots). z.old) is)

others : (s t x : Spots) → KeepsOthers s t → KeepsOthers t x → KeepsOthers s x
others s t x (target, old) (same, too) = (same ∙ target, too ∙ old)

-- writing that failed, and clearing after it
pub written : (rows : Listing (List ℕ)) (o p : Option Spots) (k m n : List Spots) → OnSpots (λ s left. MayFail s (Write rows) left) o p
    → AtEachMoment (λ s. MayStop s (Write rows)) o k m → AtEachMoment KeepsOthers p m n → AtEachMoment KeepsOthers o k n
written rows o p k m n = then (λ s left. MayFail s (Write rows) left) (λ s. MayStop s (Write rows)) KeepsOthers KeepsOthers o p k m n (writing rows)
    (λ s t x failed. others s t x (writing rows s t (inr (inr failed))))

pub putting : (s x : Spots) → MayStop s (Rename New Target) x → IsPutting s x
putting s x (inl is) = inl is
putting s x (inr (inl is)) = inr (inl is)
putting s x (inr (inr is)) = inl is

going_back : (s x : Spots) → MayStop s (Rename Old Target) x → IsPutting s x
going_back s x (inl is) = inl is
going_back s x (inr (inl is)) = inr (inr (ap (λ (z : Spots). z.target) is, ap (λ (z : Spots). z.old) is))
going_back s x (inr (inr is)) = inl is

at_same : (s t x : Spots) → t ≡ s → IsPutting t x → IsPutting s x
at_same s t x is = subst (λ (z : Spots). IsPutting z x) is

-- where the new tree couldn't be moved to the target, and the original couldn't go back
pub stuck : (o p : Option Spots) (k m n : List Spots) → OnSpots (λ s left. left ≡ s) o p → AtEachMoment (λ s. MayStop s (Rename New Target)) o k m
    → AtEachMoment (λ s. MayStop s (Rename Old Target)) p m n → AtEachMoment IsPutting o k n
stuck o p k m n = then (λ s left. left ≡ s) (λ s. MayStop s (Rename New Target)) (λ s. MayStop s (Rename Old Target)) IsPutting o p k m n putting
    (λ s t x is stops. at_same s t x is (going_back t x stops))

-- where it could, and the new spot was cleared then
pub back : (o p q : Option Spots) (k m n l : List Spots) → OnSpots (λ s left. left ≡ s) o p → OnSpots (λ s left. left ≡ after_call s (Rename Old Target)) p q
    → AtEachMoment (λ s. MayStop s (Rename New Target)) o k m → AtEachMoment (λ s. MayStop s (Rename Old Target)) p m n → AtEachMoment KeepsOthers q n l → AtEachMoment IsPutting o k l
back o p q k m n l failed moved first second third =
    then (λ s left. left ≡ s) (λ s. MayStop s (Rename New Target)) IsPutting IsPutting o p k m l putting at_same failed first
    (then (λ s left. left ≡ after_call s (Rename Old Target)) (λ s. MayStop s (Rename Old Target)) KeepsOthers IsPutting p q m n l going_back there moved second third)
  where
    there : (s t x : Spots) → t ≡ after_call s (Rename Old Target) → KeepsOthers t x → IsPutting s x
    there s t x is (target, old) = inr (inr (target ∙ ap (λ (z : Spots). z.target) is, old ∙ ap (λ (z : Spots). z.old) is))

-- where there was nothing to go back, and the new spot was cleared
pub cleared : (o p : Option Spots) (k m n : List Spots) → IfSome o (λ s. (s.target ≡ []) × (s.old ≡ [])) → OnSpots (λ s left. left ≡ s) o p
    → AtEachMoment (λ s. MayStop s (Rename New Target)) o k m → AtEachMoment KeepsOthers p m n → AtEachMoment IsPutting o k n
cleared o p k m n = then_if (λ s. (s.target ≡ []) × (s.old ≡ [])) (λ s left. left ≡ s) (λ s. MayStop s (Rename New Target)) KeepsOthers IsPutting o p k m n (λ s x _. putting s x) there
  where
    there : (s t x : Spots) → (s.target ≡ []) × (s.old ≡ []) → t ≡ s → KeepsOthers t x → IsPutting s x
    there s t x (absent, none) is (target, old) =
        inr (inr (target ∙ ap (λ (z : Spots). z.target) is ∙ absent ∙ sym none, old ∙ ap (λ (z : Spots). z.old) is ∙ none))

pub both : (A B : Spots → Type 0) (o : Option Spots) → IfSome o A → IfSome o B → IfSome o (λ s. A s × B s)
both A B None a b = tt
both A B (Some s) a b = (a, b)

before : (tree : Listing (List ℕ)) (s x : Spots) → x.target ≡ s.target → x.old ≡ [] → IsStopped tree s x
before tree s x same none = (inl (same, none), λ between. absurd (between.2 (sym between.1 ∙ none)))

after : (tree : Listing (List ℕ)) (s x : Spots) → x.target ≡ tree → x.new ≡ [] → IsStopped tree s x
after tree s x is none = (inr (inr (is, none)), λ between. absurd (between.3 none))

aside : (tree : Listing (List ℕ)) (s x : Spots) → x ≡ record { target = []; new = tree; old = s.target } → s.target ≢ [] → IsStopped tree s x
aside [] s x is there = after [] s x (ap (λ (z : Spots). z.target) is) (ap (λ (z : Spots). z.new) is)
aside (row ∷ rows) s x is there = (
  inr (inl (ap (λ (z : Spots). z.target) is, ap (λ (z : Spots). z.old) is, there, λ none. filled (sym (ap (λ (z : Spots). z.new) is) ∙ none))),
  λ between. ap (λ (z : Spots). z.new) is,
)
  where
    filled : (row ∷ rows) ≢ []
    filled = search rules

abbrev pub HasNoOld : Spots → Type 0
HasNoOld s = s.old ≡ []

abbrev pub HasNew : Listing (List ℕ) → Spots → Spots → Type 0
HasNew tree s left = left ≡ with_spot s New tree

module _ (tree : Listing (List ℕ)) where
  begun : (s x : Spots) → HasNoOld s → KeepsOthers s x → IsStopped tree s x
  begun s x none (target, old) = before tree s x target (old ∙ none)

  pub started : (o : Option Spots) (k m : List Spots) → IfSome o HasNoOld → AtEachMoment KeepsOthers o k m → AtEachMoment (IsStopped tree) o k m
  started None k m none at = tt
  started (Some s) k m none at = weakens (KeepsOthers s) (IsStopped tree s) k m (λ x. begun s x none) at

  setting : (s t x : Spots) → HasNoOld s → HasNew tree s t → IsSetting t x → IsStopped tree s x
  setting s t x none is (inl same) = let e = same ∙ is in before tree s x (ap (λ (z : Spots). z.target) e) (ap (λ (z : Spots). z.old) e ∙ none)
  setting s t x none is (inr (away, there)) = aside tree s x (away ∙ ap (λ (z : Spots). record { target = []; new = z.new; old = z.target }) is) (subst (λ (z : Spots). z.target ≢ []) is there)

  pub set : (o p : Option Spots) (k m n : List Spots) → IfSome o HasNoOld → OnSpots (HasNew tree) o p
      → AtEachMoment KeepsOthers o k m → AtEachMoment IsSetting p m n → AtEachMoment (IsStopped tree) o k n
  set o p k m n = then_if HasNoOld (HasNew tree) KeepsOthers IsSetting (IsStopped tree) o p k m n begun setting

  -- where it couldn't be set aside, and the new spot was cleared
  pub given_up : (o p q : Option Spots) (k m n l : List Spots) → IfSome o HasNoOld → OnSpots (HasNew tree) o p → AtEachMoment KeepsOthers o k m → AtEachMoment IsSetting p m n
      → q ≡ p → AtEachMoment KeepsOthers q n l → AtEachMoment (IsStopped tree) o k l
  given_up o p q k m n l none wrote first second same third =
      then_if HasNoOld (HasNew tree) (IsStopped tree) KeepsOthers (IsStopped tree) o p k n l (λ s x _ so. so) there none wrote (set o p k m n none wrote first second)
      (subst (λ (z : Option Spots). AtEachMoment KeepsOthers z n l) same third)
    where
      there : (s t x : Spots) → HasNoOld s → HasNew tree s t → KeepsOthers t x → IsStopped tree s x
      there s t x none is (target, old) = before tree s x (target ∙ ap (λ (z : Spots). z.target) is) (old ∙ ap (λ (z : Spots). z.old) is ∙ none)

  -- the new tree was written, and what lay at the target was set aside
  abbrev pub IsReady : Bool → Spots → Spots → Type 0
  IsReady had s left = (t : Spots) × HasNew tree s t × IsSetAside had t left

  ready : (had : Bool) (s u : Spots) → IsReady had s u → u ≡ record { target = []; new = tree; old = s.target }
  ready had s u (t, is, (away, told)) = away ∙ ap (λ (z : Spots). record { target = []; new = z.new; old = z.target }) is

  was : (had : Bool) (s u : Spots) → IsReady had s u → Tells had s.target
  was had s u (t, is, (away, told)) = subst (λ (z : Spots). Tells had z.target) is told

  at_ready : (had : Bool) (s x : Spots) → HasNoOld s → x ≡ record { target = []; new = tree; old = s.target } → Tells had s.target → IsStopped tree s x
  at_ready true s x none is there = aside tree s x is there
  at_ready false s x none is absent = before tree s x (ap (λ (z : Spots). z.target) is ∙ sym absent) (ap (λ (z : Spots). z.old) is ∙ absent)

  placing : (had : Bool) (s u x : Spots) → HasNoOld s → IsReady had s u → IsPutting u x → IsStopped tree s x
  placing had s u x none is (inl same) = at_ready had s x none (same ∙ ready had s u is) (was had s u is)
  placing had s u x none is (inr (inl put)) = let e = ready had s u is in after tree s x (ap (λ (z : Spots). z.target) put ∙ ap (λ (z : Spots). z.new) e) (ap (λ (z : Spots). z.new) put)
  placing had s u x none is (inr (inr (target, old))) = before tree s x (target ∙ ap (λ (z : Spots). z.old) (ready had s u is)) old

  pub placed : (had : Bool) (o p q : Option Spots) (k m n l : List Spots) → IfSome o HasNoOld → OnSpots (HasNew tree) o p → OnSpots (IsSetAside had) p q
      → AtEachMoment KeepsOthers o k m → AtEachMoment IsSetting p m n → AtEachMoment IsPutting q n l → AtEachMoment (IsStopped tree) o k l
  placed had o p q k m n l none wrote away first second third =
      then_if HasNoOld (IsReady had) (IsStopped tree) IsPutting (IsStopped tree) o q k n l (λ s x _ so. so) (placing had) none
      (on_then (HasNew tree) (IsSetAside had) o p q wrote away) (set o p k m n none wrote first second) third

  abbrev pub IsDone : Bool → Spots → Spots → Type 0
  IsDone had s left = (u : Spots) × IsReady had s u × IsPut u left

  ending : (had : Bool) (s v x : Spots) → HasNoOld s → IsDone had s v → MayStop v (Remove Old) x → IsStopped tree s x
  ending had s v x none (u, is, put) stops =
      let e = ready had s u is in
      after tree s x (front stops ∙ ap (λ (z : Spots). z.target) put ∙ ap (λ (z : Spots). z.new) e) (fresh stops ∙ ap (λ (z : Spots). z.new) put)
    where
      front : MayStop v (Remove Old) x → x.target ≡ v.target
      front (inl same) = ap (λ (z : Spots). z.target) same
      front (inr (inl same)) = ap (λ (z : Spots). z.target) same
      front (inr (inr (rest, same))) = ap (λ (z : Spots). z.target) same

      fresh : MayStop v (Remove Old) x → x.new ≡ v.new
      fresh (inl same) = ap (λ (z : Spots). z.new) same
      fresh (inr (inl same)) = ap (λ (z : Spots). z.new) same
      fresh (inr (inr (rest, same))) = ap (λ (z : Spots). z.new) same

  pub ended : (had : Bool) (o p q r : Option Spots) (k m n l h : List Spots) → IfSome o HasNoOld → OnSpots (HasNew tree) o p → OnSpots (IsSetAside had) p q → OnSpots IsPut q r
      → AtEachMoment KeepsOthers o k m → AtEachMoment IsSetting p m n → AtEachMoment IsPutting q n l → AtEachMoment (λ s. MayStop s (Remove Old)) r l h → AtEachMoment (IsStopped tree) o k h
  ended had o p q r k m n l h none wrote away put first second third fourth =
      then_if HasNoOld (IsDone had) (IsStopped tree) (λ s. MayStop s (Remove Old)) (IsStopped tree) o r k l h (λ s x _ so. so) (ending had) none
      (on_then (IsReady had) IsPut o q r (on_then (HasNew tree) (IsSetAside had) o p q wrote away) put) (placed had o p q k m n l none wrote away first second third) fourth

-- the same where what lies at the new spot is moved in, and nothing is written before
pub set_in : (o : Option Spots) (k n : List Spots) → IfSome o HasNoOld → AtEachMoment IsSetting o k n → AtEachMoment (λ s. IsStopped s.new s) o k n
set_in None k n none stops = tt
set_in (Some s) k n none stops = set s.new (Some s) (Some s) k k n none (s, refl, refl) (stays (KeepsOthers s) k) stops

pub given_up_in : (o q : Option Spots) (k n l : List Spots) → IfSome o HasNoOld → AtEachMoment IsSetting o k n → q ≡ o → AtEachMoment KeepsOthers q n l
    → AtEachMoment (λ s. IsStopped s.new s) o k l
given_up_in None q k n l none first same second = tt
given_up_in (Some s) q k n l none first same second = given_up s.new (Some s) (Some s) q k k n l none (s, refl, refl) (stays (KeepsOthers s) k) first same second

pub placed_in : (had : Bool) (o q : Option Spots) (k n l : List Spots) → IfSome o HasNoOld → OnSpots (IsSetAside had) o q → AtEachMoment IsSetting o k n → AtEachMoment IsPutting q n l
    → AtEachMoment (λ s. IsStopped s.new s) o k l
placed_in had None q k n l none away first second = tt
placed_in had (Some s) q k n l none away first second = placed s.new had (Some s) (Some s) q k k n l none (s, refl, refl) away (stays (KeepsOthers s) k) first second

pub ended_in : (had : Bool) (o q r : Option Spots) (k n l h : List Spots) → IfSome o HasNoOld → OnSpots (IsSetAside had) o q → OnSpots IsPut q r
    → AtEachMoment IsSetting o k n → AtEachMoment IsPutting q n l → AtEachMoment (λ s. MayStop s (Remove Old)) r l h → AtEachMoment (λ s. IsStopped s.new s) o k h
ended_in had None q r k n l h none away put first second third = tt
ended_in had (Some s) q r k n l h none away put first second third =
    ended s.new had (Some s) (Some s) q r k k n l h none (s, refl, refl) away put (stays (KeepsOthers s) k) first second third

-- the tree was written, and then moved in
pub moved_in : (tree : Listing (List ℕ)) (o p : Option Spots) (k m n : List Spots) → IfSome o HasNoOld → OnSpots (HasNew tree) o p
    → AtEachMoment KeepsOthers o k m → AtEachMoment (λ s. IsStopped s.new s) p m n → AtEachMoment (IsStopped tree) o k n
moved_in tree o p k m n = then_if HasNoOld (HasNew tree) KeepsOthers (λ s. IsStopped s.new s) (IsStopped tree) o p k m n (begun tree) there
  where
    there : (s t x : Spots) → HasNoOld s → HasNew tree s t → IsStopped t.new t x → IsStopped tree s x
    there s t x none is = subst (λ (z : Spots). IsStopped z.new z x → IsStopped tree s x) (sym is) (λ so. so)

-- ---- recovery

at_start : (calls : List Call) (s : Spots) → IsDuring calls s s
at_start [] s = refl
at_start (call ∷ calls) s = inl (inl refl)

sooner : (calls more : List Call) (s x : Spots) → IsDuring calls s x → IsDuring (calls ++ more) s x
sooner [] more s x is = subst (λ (z : Spots). IsDuring more s z) (sym is) (at_start more s)
sooner (call ∷ calls) more s x (inl stops) = inl stops
sooner (call ∷ calls) more s x (inr later) = inr (sooner calls more (after_call s call) x later)

later : (calls more : List Call) (s t x : Spots) → Does calls s t → IsDuring more t x → IsDuring (calls ++ more) s x
later [] more s t x is during = subst (λ (z : Spots). IsDuring more z x) is during
later (call ∷ calls) more s t x is during = inr (later calls more (after_call s call) t x is during)

pub during_first : (calls more : List Call) (o : Option Spots) (k m : List Spots) → AtEachMoment (IsDuring calls) o k m → AtEachMoment (IsDuring (calls ++ more)) o k m
during_first calls more o k m = each (IsDuring calls) (IsDuring (calls ++ more)) o k m (sooner calls more)

pub during_then : (calls more : List Call) (o p : Option Spots) (k m n : List Spots) → OnSpots (Does calls) o p → AtEachMoment (IsDuring calls) o k m → AtEachMoment (IsDuring more) p m n
    → AtEachMoment (IsDuring (calls ++ more)) o k n
during_then calls more o p k m n = then (Does calls) (IsDuring calls) (IsDuring more) (IsDuring (calls ++ more)) o p k m n (sooner calls more) (later calls more)

pub during_call : (call : Call) (o : Option Spots) (k m : List Spots) → AtEachMoment (λ s. MayStop s call) o k m → AtEachMoment (IsDuring (call ∷ [])) o k m
during_call call o k m = each (λ s. MayStop s call) (IsDuring (call ∷ [])) o k m (λ s x stops. inl stops)

pub removing : (at : Spot) (there : Bool) (o : Option Spots) (k m : List Spots) → there ≡ true → AtEachMoment (λ s. MayStop s (Remove at)) o k m → AtEachMoment (IsDuring (removal at there)) o k m
removing at there o k m is stops = subst (λ (b : Bool). AtEachMoment (IsDuring (removal at b)) o k m) (sym is) (during_call (Remove at) o k m stops)

-- what recovery does where the original isn't to go back
abbrev pub Sweeps : Bool → Bool → Bool → Type 0
Sweeps target new old = ((target ≡ false) × (new ≡ true) × (old ≡ false)) ⊎ (((target ≡ false) × (new ≡ false)) ⊎ (target ≡ true))

pub sweep : (target new old : Bool) → Sweeps target new old → recovery target new old ≡ removal New new ++ removal Old old
sweep true true true some = refl
sweep true true false some = refl
sweep true false true some = refl
sweep true false false some = refl
sweep false true true (inl (is, there, absent)) = search (rules, absent)
sweep false true true (inr (inl (is, absent))) = search (rules, absent)
sweep false true true (inr (inr is)) = search (rules, is)
sweep false true false some = refl
sweep false false true some = refl
sweep false false false some = refl

pub swept_first : (target new old : Bool) (o : Option Spots) (k m : List Spots) → Sweeps target new old
    → AtEachMoment (IsDuring (removal New new)) o k m → AtEachMoment (IsDuring (recovery target new old)) o k m
swept_first target new old o k m some first =
    subst (λ (calls : List Call). AtEachMoment (IsDuring calls) o k m) (sym (sweep target new old some)) (during_first (removal New new) (removal Old old) o k m first)

pub swept : (target new old : Bool) (o p : Option Spots) (k m n : List Spots) → Sweeps target new old → OnSpots (Does (removal New new)) o p → AtEachMoment (IsDuring (removal New new)) o k m
    → AtEachMoment (IsDuring (removal Old old)) p m n → AtEachMoment (IsDuring (recovery target new old)) o k n
swept target new old o p k m n some does first second =
    subst (λ (calls : List Call). AtEachMoment (IsDuring calls) o k n) (sym (sweep target new old some)) (during_then (removal New new) (removal Old old) o p k m n does first second)

-- what it does where it is to
pub put_back : (target new old : Bool) → target ≡ false → new ≡ true → old ≡ true → recovery target new old ≡ Rename Old Target ∷ Remove New ∷ []
put_back true new old is there kept = search (rules, is)
put_back false false old is there kept = search (rules, there)
put_back false true false is there kept = search (rules, kept)
put_back false true true is there kept = refl

pub went_back : (target new old : Bool) (o p : Option Spots) (k m n : List Spots) → target ≡ false → new ≡ true → old ≡ true → OnSpots (λ s left. left ≡ after_call s (Rename Old Target)) o p
    → AtEachMoment (λ s. MayStop s (Rename Old Target)) o k m → AtEachMoment (λ s. MayStop s (Remove New)) p m n → AtEachMoment (IsDuring (recovery target new old)) o k n
went_back target new old o p k m n absent there kept does first second =
    subst (λ (calls : List Call). AtEachMoment (IsDuring calls) o k n) (sym (put_back target new old absent there kept))
    (during_then (Rename Old Target ∷ []) (Remove New ∷ []) o p k m n does (during_call (Rename Old Target) o k m first) (during_call (Remove New) p m n second))

module _ (original tree : Listing (List ℕ)) where
  same_stays : (s x : Spots) → x ≡ s → StaysInSwap original tree s x
  same_stays s x is so = subst (IsInSwap original tree) (sym is) so

  -- clearing the new spot, where the original isn't aside while nothing lies at the target
  new_stays : (s x : Spots) → s.new ≢ [] → (s.target ≡ [] → s.old ≡ []) → MayStop s (Remove New) x → StaysInSwap original tree s x
  new_stays s x there sound stops (inl (target, none)) = let kept = clearing s x stops in inl (kept.0 ∙ target, kept.1 ∙ none)
  new_stays s x there sound stops (inr (inl (absent, is, some, rest))) = absurd (some (sym is ∙ sound absent))
  new_stays s x there sound stops (inr (inr (target, none))) = absurd (there none)

  -- clearing the old spot, once nothing lies at the new one
  old_stays : (s x : Spots) → s.new ≡ [] → s.old ≢ [] → MayStop s (Remove Old) x → StaysInSwap original tree s x
  old_stays s x none there stops (inl (target, absent)) = absurd (there absent)
  old_stays s x none there stops (inr (inl (absent, is, some, rest))) = absurd (rest none)
  old_stays s x none there stops (inr (inr (target, new))) = inr (inr (front stops ∙ target, fresh stops ∙ new))
    where
      front : MayStop s (Remove Old) x → x.target ≡ s.target
      front (inl same) = ap (λ (z : Spots). z.target) same
      front (inr (inl same)) = ap (λ (z : Spots). z.target) same
      front (inr (inr (rest, same))) = ap (λ (z : Spots). z.target) same

      fresh : MayStop s (Remove Old) x → x.new ≡ s.new
      fresh (inl same) = ap (λ (z : Spots). z.new) same
      fresh (inr (inl same)) = ap (λ (z : Spots). z.new) same
      fresh (inr (inr (rest, same))) = ap (λ (z : Spots). z.new) same

  -- the original lies at the target again, and then the new spot is cleared
  back_stays : (s x : Spots) → s.new ≢ [] → s.old ≢ [] → IsDuring (Rename Old Target ∷ Remove New ∷ []) s x → StaysInSwap original tree s x
  back_stays s x there kept during (inl (target, none)) = absurd (kept none)
  back_stays s x there kept during (inr (inr (target, none))) = absurd (there none)
  back_stays s x there kept (inl (inl same)) (inr (inl between)) = same_stays s x same (inr (inl between))
  back_stays s x there kept (inl (inr (inr same))) (inr (inl between)) = same_stays s x same (inr (inl between))
  back_stays s x there kept (inl (inr (inl moved))) (inr (inl (absent, is, some, rest))) = inl (ap (λ (z : Spots). z.target) moved ∙ is, ap (λ (z : Spots). z.old) moved)
  back_stays s x there kept (inr (inl stops)) (inr (inl (absent, is, some, rest))) = let others = clearing (after_call s (Rename Old Target)) x stops in inl (others.0 ∙ is, others.1)
  back_stays s x there kept (inr (inr is_cleared)) (inr (inl (absent, is, some, rest))) = inl (ap (λ (z : Spots). z.target) is_cleared ∙ is, ap (λ (z : Spots). z.old) is_cleared)

  pub recovery_stays : (target new old : Bool) (s x : Spots) → Looks target new old s → IsDuring (recovery target new old) s x → StaysInSwap original tree s x
  recovery_stays true false false s x looks is = same_stays s x is
  recovery_stays false false false s x looks is = same_stays s x is
  recovery_stays true true false s x looks (inl stops) = new_stays s x looks.1 (λ _. looks.2) stops
  recovery_stays true true false s x looks (inr is) = new_stays s x looks.1 (λ _. looks.2) (inr (inl is))
  recovery_stays false true false s x looks (inl stops) = new_stays s x looks.1 (λ _. looks.2) stops
  recovery_stays false true false s x looks (inr is) = new_stays s x looks.1 (λ _. looks.2) (inr (inl is))
  recovery_stays true false true s x looks (inl stops) = old_stays s x looks.1 looks.2 stops
  recovery_stays true false true s x looks (inr is) = old_stays s x looks.1 looks.2 (inr (inl is))
  recovery_stays false false true s x looks (inl stops) = old_stays s x looks.1 looks.2 stops
  recovery_stays false false true s x looks (inr is) = old_stays s x looks.1 looks.2 (inr (inl is))
  recovery_stays false true true s x looks during = back_stays s x looks.1 looks.2 during
  recovery_stays true true true s x looks (inl stops) = new_stays s x looks.1 (λ absent. absurd (looks.0 absent)) stops
  recovery_stays true true true s x looks (inr during) = λ so. after_new during (new_stays s (after_call s (Remove New)) looks.1 (λ absent. absurd (looks.0 absent)) (inr (inl refl)) so)
    where
      after_new : IsDuring (Remove Old ∷ []) (after_call s (Remove New)) x → StaysInSwap original tree (after_call s (Remove New)) x
      after_new (inl stops) = old_stays (after_call s (Remove New)) x refl looks.2 stops
      after_new (inr is) = old_stays (after_call s (Remove New)) x refl looks.2 (inr (inl is))

  pub recovers : (target new old : Bool) (o : Option Spots) (k m : List Spots) → IfSome o (Looks target new old) → AtEachMoment (IsDuring (recovery target new old)) o k m
      → AtEachMoment (StaysInSwap original tree) o k m
  recovers target new old None k m looks during = tt
  recovers target new old (Some s) k m looks during = weakens (IsDuring (recovery target new old) s) (StaysInSwap original tree s) k m (λ x. recovery_stays target new old s x looks) during

pub nothing_kept : (had : Bool) (o : Option Spots) → had ≡ false → IfSome o (λ s. Tells had s.old) → IfSome o HasNoOld
nothing_kept had o is told = subst (λ (b : Bool). IfSome o (λ s. Tells b s.old)) is told
