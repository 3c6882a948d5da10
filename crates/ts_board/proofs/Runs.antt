-- What holds of legal runs, and what one step more does to the words.
use Rattle.std.proofs.Common.{◌≡◌, ◌≢◌, ◌⊎◌, ℕ, zero, suc, ◌+◌, ◌<◌, ◌≤◌, Bool, true, false, eqb, ◌&&◌, List, [], ◌∷◌, ◌++◌, length, sym, refl, ap, ◌∙◌, subst, inl, inr, ⊎_elim, arith, append_assoc, append-nil, eq-eqb, ne_eqb}
use mathlib.Core.Logic.{dite}
use native.Mathlib.Decide.{ℕ_discrete}
use Rattle.ts_model.specs.declared.step.Step.{Step}
use Rattle.ts_model.specs.declared.step.Step.TheVariants.{Claim, Take, Act, Done, Fail, Release}
use Rattle.ts_model.specs.declared.step.Work.{Work}
use Rattle.ts_model.specs.declared.step.Work.TheVariants.{Marked}
use Rattle.ts_model.specs.Runs.{takes}
use Rattle.ts_board.specs.declared.law.Terms.{Terms}
use Rattle.ts_board.specs.Terms.{preds}
use Rattle.ts_board.specs.Runs.{kind, actor, target, same, bit, times, taken, count, size, open_of, word_of, Allowed, IsLegalFrom, IsLegal, keep, steps_by, pick, change, work_after}

pub bump : (i k : ℕ) → ((i ≡ k) × (bit (eqb i k) ≡ 1)) ⊎ ((i ≢ k) × (bit (eqb i k) ≡ 0))
bump i k = dite (ℕ_discrete i k) (λ e. inl (e, ap bit (eq-eqb i k e))) (λ n. inr (n, ap bit (ne_eqb i k n)))

pub times_push : (x s : Step) (h : List Step) → times x (h ++ s ∷ []) ≡ times x h + bit (same x s)
times_push x s [] = omega arith
times_push x s (y ∷ ys) = omega (arith, times_push x s ys)

pub times_append : (x : Step) (a b : List Step) → times x (a ++ b) ≡ times x a + times x b
times_append x [] b = omega arith
times_append x (y ∷ ys) b = omega (arith, times_append x ys b)

pub taken_push : (k : ℕ) (s : Step) (h : List Step) → taken k (h ++ s ∷ []) ≡ taken k h + bit (takes k s)
taken_push k s [] = omega arith
taken_push k s (y ∷ ys) = omega (arith, taken_push k s ys)

pub taken_le : (k : ℕ) (s : Step) (h : List Step) → taken k h ≤ taken k (h ++ s ∷ [])
taken_le k s h = omega (arith, taken_push k s h)

-- the steps of an action
abbrev pub by_actor : ℕ → List Step → ℕ
by_actor i [] = 0
by_actor i (x ∷ xs) = bit (eqb (actor x) i) + by_actor i xs

pub by_push : (i : ℕ) (s : Step) (h : List Step) → by_actor i (h ++ s ∷ []) ≡ by_actor i h + bit (eqb (actor s) i)
by_push i s [] = omega arith
by_push i s (y ∷ ys) = omega (arith, by_push i s ys)

and_false : (b : Bool) → (b && false) ≡ false
and_false true = refl
and_false false = refl

-- steps of two actions are two
bit_apart : (x y : Step) → actor x ≢ actor y → bit (same x y) ≡ 0
bit_apart x y ne =
    ap (λ (b : Bool). bit (eqb (kind x) (kind y) && (eqb (target x) (target y) && b))) (ne_eqb (actor x) (actor y) ne)
    ∙ ap (λ (b : Bool). bit (eqb (kind x) (kind y) && b)) (and_false (eqb (target x) (target y)))
    ∙ ap bit (and_false (eqb (kind x) (kind y)))

-- the counts of an action after a step of another
pub times_else : (x y : Step) (h : List Step) → actor x ≢ actor y → times x (h ++ y ∷ []) ≡ times x h
times_else x y h ne = let t = times_push x y h in let z = bit_apart x y ne in omega arith

-- the counts of the action i after any step
record Pushed (x : Step) (i : ℕ) (h : List Step) : Type 0 where
  claims : times (Claim i) (h ++ x ∷ []) ≡ times (Claim i) h + bit (same (Claim i) x)
  acts : times (Act i Marked) (h ++ x ∷ []) ≡ times (Act i Marked) h + bit (same (Act i Marked) x)
  dones : times (Done i) (h ++ x ∷ []) ≡ times (Done i) h + bit (same (Done i) x)
  fails : times (Fail i) (h ++ x ∷ []) ≡ times (Fail i) h + bit (same (Fail i) x)
  takings : taken i (h ++ x ∷ []) ≡ taken i h + bit (takes i x)

pushed : (x : Step) (i : ℕ) (h : List Step) → Pushed x i h
pushed x i h = record { claims = times_push (Claim i) x h; acts = times_push (Act i Marked) x h; dones = times_push (Done i) x h; fails = times_push (Fail i) x h; takings = taken_push i x h }

-- the bit of a number against itself
bit_self : (i : ℕ) → bit (eqb i i) ≡ 1
bit_self i = ap bit (eq-eqb i i refl)

-- and against another
bit_differ : (i k : ℕ) → i ≢ k → bit (eqb i k) ≡ 0
bit_differ i k ne = ap bit (ne_eqb i k ne)

-- ---- legal runs

pub legal_push : (plan : Terms) (past xs : List Step) (s : Step) → IsLegalFrom plan past xs → Allowed plan (past ++ xs) s → IsLegalFrom plan past (xs ++ s ∷ [])
legal_push plan past [] s l a = (subst (λ h. Allowed plan h s) (append-nil past) a, tt)
legal_push plan past (x ∷ xs) s l a = (l.0, legal_push plan (past ++ x ∷ []) xs s l.1 (subst (λ h. Allowed plan h s) (sym (append_assoc past (x ∷ []) xs)) a))

pub legal_front : (plan : Terms) (past xs ys : List Step) → IsLegalFrom plan past (xs ++ ys) → IsLegalFrom plan past xs
legal_front plan past [] ys l = tt
legal_front plan past (x ∷ xs) ys l = (l.0, legal_front plan (past ++ x ∷ []) xs ys l.1)

pub legal_each : (plan : Terms) (P : List Step → Type 0) → ((h : List Step) (s : Step) → P h → Allowed plan h s → P (h ++ s ∷ [])) → (past xs : List Step) → P past → IsLegalFrom plan past xs → P (past ++ xs)
legal_each plan P go past [] p l = subst P (sym (append-nil past)) p
legal_each plan P go past (x ∷ xs) p l = subst P (append_assoc past (x ∷ []) xs) (legal_each plan P go (past ++ x ∷ []) xs (go past x p l.0) l.1)

-- ---- open predecessors

pub open_le : (ps : List ℕ) (h : List Step) (s : Step) (i : ℕ) → open_of ps (h ++ s ∷ []) i ≤ open_of ps h i
open_le [] h s i = omega arith
open_le (p ∷ ps) h s i = omega (arith, open_le ps h s i, times_push (Release p i) s h)

-- a step that is no release to i
pub open_still : (ps : List ℕ) (h : List Step) (s : Step) (i : ℕ) → ((p : ℕ) → bit (same (Release p i) s) ≡ 0) → open_of ps (h ++ s ∷ []) i ≡ open_of ps h i
open_still [] h s i away = refl
open_still (p ∷ ps) h s i away = omega (arith, open_still ps h s i away, times_push (Release p i) s h, away p)

pub bit_one : (b : Bool) → bit b ≤ 1
bit_one true = omega arith
bit_one false = omega arith

bit_release : (p k j : ℕ) → bit (same (Release p j) (Release k j)) ≡ bit (eqb p k)
bit_release p k j = ap (λ (b : Bool). bit (b && eqb p k)) (eq-eqb j j refl)

pub bit_other : (p k i j : ℕ) → i ≢ j → bit (same (Release p i) (Release k j)) ≡ 0
bit_other p k i j ne = ap (λ (b : Bool). bit (b && eqb p k)) (ne_eqb i j ne)

open_absent : (ps : List ℕ) (h : List Step) (k j : ℕ) → count k ps ≡ 0 → open_of ps (h ++ Release k j ∷ []) j ≡ open_of ps h j
open_absent [] h k j away = refl
open_absent (p ∷ ps) h k j away =
    ⊎_elim
    (λ (t : (p ≡ k) × (bit (eqb p k) ≡ 1)). let one : bit (eqb k p) ≡ 1 = ap bit (eq-eqb k p (sym t.0)) in absurd (omega arith))
    (λ (t : (p ≢ k) × (bit (eqb p k) ≡ 0)). let z = t.1 in omega (arith, open_absent ps h k j (omega arith), times_push (Release p j) (Release k j) h, bit_release p k j))
    (bump p k)

pub open_less : (ps : List ℕ) (h : List Step) (k j : ℕ) → count k ps ≡ 1 → times (Release k j) h ≡ 0 → open_of ps (h ++ Release k j ∷ []) j + 1 ≡ open_of ps h j
open_less [] h k j one away = absurd (omega arith)
open_less (p ∷ ps) h k j one away =
    ⊎_elim
    (λ (t : (p ≡ k) × (bit (eqb p k) ≡ 1)).
    let here : bit (eqb k p) ≡ 1 = ap bit (eq-eqb k p (sym t.0)) in
    let none : times (Release p j) h ≡ 0 = subst (λ (q : ℕ). times (Release q j) h ≡ 0) (sym t.0) away in
    let z = t.1 in
    omega (arith, open_absent ps h k j (omega arith), times_push (Release p j) (Release k j) h, bit_release p k j))
    (λ (t : (p ≢ k) × (bit (eqb p k) ≡ 0)).
    let off : bit (eqb k p) ≡ 0 = ap bit (ne_eqb k p (λ e. t.0 (sym e))) in
    let z = t.1 in
    omega (arith, open_less ps h k j (omega arith) away, times_push (Release p j) (Release k j) h, bit_release p k j))
    (bump p k)

-- ---- what a legal run says of one action

pub record Sound (plan : Terms) (h : List Step) (i : ℕ) : Type 0 where
  pub once : times (Claim i) h ≤ 1
  pub acts : times (Act i Marked) h + times (Fail i) h ≤ times (Claim i) h
  pub dones : times (Done i) h ≤ times (Act i Marked) h
  pub no_open : 0 < times (Claim i) h → open_of (preds plan.plan i) h i ≡ 0
  pub none : times (Claim i) h ≡ 0 → by_actor i h ≡ 0
  pub inside : 0 < times (Claim i) h → i < size plan
  pub freed : (j : ℕ) → times (Release i j) h ≤ times (Done i) h
  pub emptied : taken i h ≤ times (Done i) h

-- a step of another action, that takes nothing of i
sound_else : (plan : Terms) (h : List Step) (x : Step) (i : ℕ) → i ≢ actor x → bit (takes i x) ≡ 0 → Sound plan h i → Sound plan (h ++ x ∷ []) i
sound_else plan h x i ne untaken q =
    let c = times_else (Claim i) x h ne in let a = times_else (Act i Marked) x h ne in let d = times_else (Done i) x h ne in let e = times_else (Fail i) x h ne in
    let t = taken_push i x h in let o = open_le (preds plan.plan i) h x i in let b = by_push i x h in let w = q.emptied in
    let y : bit (eqb (actor x) i) ≡ 0 = bit_differ (actor x) i (λ s. ne (sym s)) in
    record { once = omega arith; acts = omega arith; dones = omega arith; no_open = λ n. (let g = q.no_open (omega arith) in omega arith); none = λ n. (let g = q.none (omega arith) in omega arith); inside = λ n. q.inside (omega arith); freed = λ j. (let g = q.freed j in let r = times_else (Release i j) x h ne in omega arith); emptied = omega arith }

-- so a step that takes nothing is looked at for its own action
sound_at : (plan : Terms) (h : List Step) (x : Step) (i : ℕ) → ((k : ℕ) → Sound plan h k) → bit (takes i x) ≡ 0 → Sound plan (h ++ x ∷ []) (actor x) → Sound plan (h ++ x ∷ []) i
sound_at plan h x i f untaken own = ⊎_elim
    (λ (t : (i ≡ actor x) × (bit (eqb i (actor x)) ≡ 1)). subst (λ (z : ℕ). Sound plan (h ++ x ∷ []) z) (sym t.0) own)
    (λ (t : (i ≢ actor x) × (bit (eqb i (actor x)) ≡ 0)). sound_else plan h x i t.0 untaken (f i))
    (bump i (actor x))

-- a release comes after the action is done
release_freed : (plan : Terms) (h : List Step) (i l j : ℕ) → Allowed plan h (Release i l) → times (Release i j) h ≤ times (Done i) h → times (Release i j) (h ++ Release i l ∷ []) ≤ times (Done i) (h ++ Release i l ∷ [])
release_freed plan h i l j al g =
    let r = times_push (Release i j) (Release i l) h in let d = times_push (Done i) (Release i l) h in let x = al.0 in let y = al.2 in
    ⊎_elim
    (λ (t : (j ≡ l) × (bit (eqb j l) ≡ 1)). let none_yet : times (Release i j) h ≡ 0 = subst (λ (z : ℕ). times (Release i z) h ≡ 0) (sym t.0) y in let one = bit_one (same (Release i j) (Release i l)) in omega arith)
    (λ (t : (j ≢ l) × (bit (eqb j l) ≡ 0)). let off : bit (same (Release i j) (Release i l)) ≡ 0 = ap (λ (b : Bool). bit (b && eqb i i)) (ne_eqb j l t.0) in omega arith)
    (bump j l)

take_none : (i k : ℕ) (h : List Step) → times (Claim i) h ≡ 0 → 0 < times (Claim k) h → by_actor i h ≡ 0 → by_actor i h + bit (eqb k i) ≡ by_actor i h
take_none i k h unclaimed claimed z = ⊎_elim
    (λ (t : (k ≡ i) × (bit (eqb k i) ≡ 1)). absurd (let e : times (Claim k) h ≡ 0 = subst (λ (x : ℕ). times (Claim x) h ≡ 0) (sym t.0) unclaimed in omega arith))
    (λ (t : (k ≢ i) × (bit (eqb k i) ≡ 0)). let y = t.1 in omega arith)
    (bump k i)

take_emptied : (i c k : ℕ) (h : List Step) → 0 < times (Done k) h → taken k h ≡ 0 → taken i h ≤ times (Done i) h → taken i (h ++ Take c k ∷ []) ≤ times (Done i) (h ++ Take c k ∷ [])
take_emptied i c k h done fresh w =
    let u = taken_push i (Take c k) h in let d = times_push (Done i) (Take c k) h in
    ⊎_elim
    (λ (t : (i ≡ k) × (bit (eqb i k) ≡ 1)). let z = t.1 in
    let done' : 0 < times (Done i) h = subst (λ (x : ℕ). 0 < times (Done x) h) (sym t.0) done in
    let fresh' : taken i h ≡ 0 = subst (λ (x : ℕ). taken x h ≡ 0) (sym t.0) fresh in omega arith)
    (λ (t : (i ≢ k) × (bit (eqb i k) ≡ 0)). let z = t.1 in omega arith)
    (bump i k)

sound_step : (plan : Terms) (h : List Step) (s : Step) (i : ℕ) → ((k : ℕ) → Sound plan h k) → Allowed plan h s → Sound plan (h ++ s ∷ []) i
sound_step plan h (Claim k) i f al =
    let q = f k in let p = pushed (Claim k) k h in let z = bit_self k in let o = open_le (preds plan.plan k) h (Claim k) k in let w = q.emptied in let l = al.0 in let x = al.1 in
    sound_at plan h (Claim k) i f refl
    record { once = omega arith; acts = omega arith; dones = omega arith; no_open = λ _. omega arith; none = λ n. omega arith; inside = λ _. l; freed = λ j. (let g = q.freed j in let r = times_push (Release k j) (Claim k) h in omega arith); emptied = omega arith }
sound_step plan h (Act k v) i f al =
    let q = f k in let p = pushed (Act k v) k h in let z = bit_self k in let o = open_le (preds plan.plan k) h (Act k v) k in let w = q.emptied in let x = al.0 in let x1 = al.1 in let x2 = al.2 in
    sound_at plan h (Act k v) i f refl
    record { once = omega arith; acts = omega arith; dones = omega arith; no_open = λ n. (let g = q.no_open (omega arith) in omega arith); none = λ n. absurd (omega arith); inside = λ n. q.inside (omega arith); freed = λ j. (let g = q.freed j in let r = times_push (Release k j) (Act k v) h in omega arith); emptied = omega arith }
sound_step plan h (Done k) i f al =
    let q = f k in let p = pushed (Done k) k h in let z = bit_self k in let o = open_le (preds plan.plan k) h (Done k) k in let w = q.emptied in let x = al.0 in let x1 = al.1 in
    sound_at plan h (Done k) i f refl
    record { once = omega arith; acts = omega arith; dones = omega arith; no_open = λ n. (let g = q.no_open (omega arith) in omega arith); none = λ n. absurd (omega arith); inside = λ n. q.inside (omega arith); freed = λ j. (let g = q.freed j in let r = times_push (Release k j) (Done k) h in omega arith); emptied = omega arith }
sound_step plan h (Fail k) i f al =
    let q = f k in let p = pushed (Fail k) k h in let z = bit_self k in let o = open_le (preds plan.plan k) h (Fail k) k in let w = q.emptied in let x = al.0 in let x1 = al.1 in let x2 = al.2 in
    sound_at plan h (Fail k) i f refl
    record { once = omega arith; acts = omega arith; dones = omega arith; no_open = λ n. (let g = q.no_open (omega arith) in omega arith); none = λ n. absurd (omega arith); inside = λ n. q.inside (omega arith); freed = λ j. (let g = q.freed j in let r = times_push (Release k j) (Fail k) h in omega arith); emptied = omega arith }
sound_step plan h (Release k l) i f al =
    let q = f k in let p = pushed (Release k l) k h in let z = bit_self k in let o = open_le (preds plan.plan k) h (Release k l) k in let w = q.emptied in let x = al.0 in
    sound_at plan h (Release k l) i f refl
    record { once = omega arith; acts = omega arith; dones = omega arith; no_open = λ n. (let g = q.no_open (omega arith) in omega arith); none = λ n. absurd (omega arith); inside = λ n. q.inside (omega arith); freed = λ j. release_freed plan h k l j al (q.freed j); emptied = omega arith }
sound_step plan h (Take k l) i f al =
    let q = f i in let p = pushed (Take k l) i h in let o = open_le (preds plan.plan i) h (Take k l) i in let b = by_push i (Take k l) h in let w = q.emptied in
    record {
      once = omega arith;
      acts = omega arith;
      dones = omega arith;
      no_open = λ n. (let g = q.no_open (omega arith) in omega arith);
      none = λ n. (let free : times (Claim i) h ≡ 0 = omega arith in b ∙ take_none i k h free al.0 (q.none free) ∙ q.none free);
      inside = λ n. q.inside (omega arith);
      freed = λ j. (let g = q.freed j in let r = times_push (Release i j) (Take k l) h in omega arith);
      emptied = take_emptied i k l h al.2 al.3 w;
    }

pub sound : (plan : Terms) (log : List Step) → IsLegal plan log → (i : ℕ) → Sound plan log i
sound plan log l = legal_each plan (λ h. (i : ℕ) → Sound plan h i) (λ h s f al i. sound_step plan h s i f al) [] log (λ i. record { once = omega arith; acts = omega arith; dones = omega arith; no_open = λ n. absurd (omega arith); none = λ _. refl; inside = λ n. absurd (omega arith); freed = λ j. omega arith; emptied = omega arith }) l

-- ---- words after one step more

pub word_start : (ps : List ℕ) (i : ℕ) → open_of ps [] i ≡ length ps
word_start [] i = refl
word_start (p ∷ ps) i = omega (arith, word_start ps i)

pub word_claim : (plan : Terms) (h : List Step) (i : ℕ) → word_of plan h i ≡ 0 → word_of plan (h ++ Claim i ∷ []) i ≡ 4294967296
word_claim plan h i z = let o = open_le (preds plan.plan i) h (Claim i) i in let p = pushed (Claim i) i h in let b = bit_self i in omega arith

pub word_done : (plan : Terms) (h : List Step) (i : ℕ) → word_of plan (h ++ Done i ∷ []) i ≡ word_of plan h i + 8589934592
word_done plan h i = let o = open_still (preds plan.plan i) h (Done i) i (λ p. refl) in let p = pushed (Done i) i h in let b = bit_self i in omega arith

pub word_fail : (plan : Terms) (h : List Step) (i : ℕ) → word_of plan (h ++ Fail i ∷ []) i ≡ word_of plan h i + 17179869184
word_fail plan h i = let o = open_still (preds plan.plan i) h (Fail i) i (λ p. refl) in let p = pushed (Fail i) i h in let b = bit_self i in omega arith

pub word_release : (plan : Terms) (h : List Step) (i j : ℕ) → count i (preds plan.plan j) ≡ 1 → times (Release i j) h ≡ 0 → word_of plan (h ++ Release i j ∷ []) j + 1 ≡ word_of plan h j
word_release plan h i j one away = let o = open_less (preds plan.plan j) h i j one away in let p = pushed (Release i j) j h in omega arith

pub word_take : (plan : Terms) (h : List Step) (c k : ℕ) → word_of plan (h ++ Take c k ∷ []) k ≡ word_of plan h k + 34359738368
word_take plan h c k = let o = open_still (preds plan.plan k) h (Take c k) k (λ p. refl) in let p = pushed (Take c k) k h in let b = bit_self k in omega arith

-- a step that neither releases nor sets a bit leaves the word
word_still : (plan : Terms) (h : List Step) (x : Step) (k : ℕ) → ((p : ℕ) → bit (same (Release p k) x) ≡ 0) → bit (same (Claim k) x) + (bit (same (Done k) x) + (bit (same (Fail k) x) + bit (takes k x))) ≡ 0
    → word_of plan (h ++ x ∷ []) k ≡ word_of plan h k
word_still plan h x k away unset = let o = open_still (preds plan.plan k) h x k away in let p = pushed x k h in omega arith

pub word_act : (plan : Terms) (h : List Step) (i : ℕ) (w : Work) (k : ℕ) → word_of plan (h ++ Act i w ∷ []) k ≡ word_of plan h k
word_act plan h i w k = word_still plan h (Act i w) k (λ p. refl) refl

pub word_else-claim : (plan : Terms) (h : List Step) (i k : ℕ) → k ≢ i → word_of plan (h ++ Claim i ∷ []) k ≡ word_of plan h k
word_else-claim plan h i k ne = word_still plan h (Claim i) k (λ p. refl) (let b = bit_differ k i ne in omega arith)

pub word_else-done : (plan : Terms) (h : List Step) (i k : ℕ) → k ≢ i → word_of plan (h ++ Done i ∷ []) k ≡ word_of plan h k
word_else-done plan h i k ne = word_still plan h (Done i) k (λ p. refl) (let b = bit_differ k i ne in omega arith)

pub word_else-fail : (plan : Terms) (h : List Step) (i k : ℕ) → k ≢ i → word_of plan (h ++ Fail i ∷ []) k ≡ word_of plan h k
word_else-fail plan h i k ne = word_still plan h (Fail i) k (λ p. refl) (let b = bit_differ k i ne in omega arith)

pub word_else-release : (plan : Terms) (h : List Step) (i j k : ℕ) → k ≢ j → word_of plan (h ++ Release i j ∷ []) k ≡ word_of plan h k
word_else-release plan h i j k ne = word_still plan h (Release i j) k (λ p. bit_other p i k j ne) refl

pub word_else-take : (plan : Terms) (h : List Step) (c k j : ℕ) → j ≢ k → word_of plan (h ++ Take c k ∷ []) j ≡ word_of plan h j
word_else-take plan h c k j ne = word_still plan h (Take c k) j (λ p. refl) (let b = bit_differ j k ne in omega arith)

-- ---- the steps of some actions

keep_append : (n : ℕ) (x : Step) (p q : List Step) → keep n x (p ++ q) ≡ keep n x p ++ q
keep_append zero x p q = refl
keep_append (suc n) x p q = refl

pub steps_by-append : (c : List ℕ) (a b : List Step) → steps_by c (a ++ b) ≡ steps_by c a ++ steps_by c b
steps_by-append c [] b = refl
steps_by-append c (x ∷ xs) b = ap (keep (count (actor x) c) x) (steps_by-append c xs b) ∙ keep_append (count (actor x) c) x (steps_by c xs) (steps_by c b)

pub steps_by-nobody : (xs : List Step) → steps_by [] xs ≡ []
steps_by-nobody [] = refl
steps_by-nobody (x ∷ xs) = steps_by-nobody xs

pub steps_by-other : (c : List ℕ) (x : Step) → count (actor x) c ≡ 0 → steps_by c (x ∷ []) ≡ []
steps_by-other c x e = ap (λ (n : ℕ). keep n x []) e

keep_some : (n : ℕ) (x : Step) (xs : List Step) → 0 < n → keep n x xs ≡ x ∷ xs
keep_some zero x xs h = absurd (omega arith)
keep_some (suc n) x xs h = refl

pub steps_by-own : (c : List ℕ) (x : Step) → 0 < count (actor x) c → steps_by c (x ∷ []) ≡ x ∷ []
steps_by-own c x h = keep_some (count (actor x) c) x [] h

pub steps_by-one_more : (i : ℕ) (c : List ℕ) (xs : List Step) → by_actor i xs ≡ 0 → steps_by (i ∷ c) xs ≡ steps_by c xs
steps_by-one_more i c [] h = refl
steps_by-one_more i c (x ∷ xs) h =
    let n : bit (eqb (actor x) i) + count (actor x) c ≡ count (actor x) c = omega arith in
    ap (λ (k : ℕ). keep k x (steps_by (i ∷ c) xs)) n ∙ ap (keep (count (actor x) c) x) (steps_by-one_more i c xs (omega arith))

times_keep : (c : List ℕ) (x y : Step) (ys : List Step) (n : ℕ) → count (actor y) c ≡ n → 0 < count (actor x) c → times x (keep n y ys) ≡ bit (same x y) + times x ys
times_keep c x y ys zero e h = let z = bit_apart x y (λ same. (let k : count (actor x) c ≡ 0 = ap (λ (a : ℕ). count a c) same ∙ e in omega arith)) in omega arith
times_keep c x y ys (suc n) e h = refl

-- a step of an action of these stands as often among their steps
pub times_by : (c : List ℕ) (x : Step) (xs : List Step) → 0 < count (actor x) c → times x (steps_by c xs) ≡ times x xs
times_by c x [] h = refl
times_by c x (y ∷ ys) h = times_keep c x y (steps_by c ys) (count (actor y) c) refl h ∙ ap (λ (n : ℕ). bit (same x y) + n) (times_by c x ys h)

times_left : (c : List ℕ) (x y : Step) (ys : List Step) (n : ℕ) → count (actor y) c ≡ n → count (actor x) c ≡ 0 → times x (keep n y ys) ≡ times x ys
times_left c x y ys zero e h = refl
times_left c x y ys (suc n) e h = let z = bit_apart x y (λ same. (let k : count (actor y) c ≡ 0 = ap (λ (a : ℕ). count a c) (sym same) ∙ h in omega arith)) in omega arith

pub times_by_none : (c : List ℕ) (x : Step) (xs : List Step) → count (actor x) c ≡ 0 → times x (steps_by c xs) ≡ 0
times_by_none c x [] h = refl
times_by_none c x (y ∷ ys) h = times_left c x y (steps_by c ys) (count (actor y) c) refl h ∙ times_by_none c x ys h

pub times_actor : (x : Step) (xs : List Step) → by_actor (actor x) xs ≡ 0 → times x xs ≡ 0
times_actor x [] h = refl
times_actor x (y ∷ ys) h = let z = bit_apart x y (λ e. (let b : bit (eqb (actor y) (actor x)) ≡ 1 = ap bit (eq-eqb (actor y) (actor x) (sym e)) in omega arith)) in omega (arith, times_actor x ys (omega arith))

-- ---- contents

pub content_push : (c : Work) (h : List Step) (x : Step) (i : ℕ) → work_after c (h ++ x ∷ []) i ≡ change x i (work_after c h i)
content_push c [] x i = refl
content_push c (y ∷ ys) x i = content_push (change y i c) ys x i

pub still : (x : Step) (i : ℕ) (c : Work) → bit (same (Act i Marked) x) ≡ 0 → change x i c ≡ c
still (Claim k) i c h = refl
still (Act k w) i c h = ⊎_elim
    (λ (t : (i ≡ k) × (bit (eqb i k) ≡ 1)). absurd (let z = t.1 in omega arith))
    (λ (t : (i ≢ k) × (bit (eqb i k) ≡ 0)). ap (λ (b : Bool). pick b w c) (ne_eqb k i (λ e. t.0 (sym e))))
    (bump i k)
still _ i c h = refl

pub content_unacted : (c : Work) (h : List Step) (i : ℕ) → times (Act i Marked) h ≡ 0 → work_after c h i ≡ c
content_unacted c [] i z = refl
content_unacted c (x ∷ xs) i z = ap (λ (d : Work). work_after d xs i) (still x i c (omega arith)) ∙ content_unacted c xs i (omega arith)

-- a step of another action
pub content_else : (c : Work) (h : List Step) (x : Step) (i : ℕ) → i ≢ actor x → work_after c (h ++ x ∷ []) i ≡ work_after c h i
content_else c h x i ne = content_push c h x i ∙ still x i (work_after c h i) (bit_apart (Act i Marked) x ne)

pub content_act : (c : Work) (h : List Step) (i : ℕ) (w : Work) → work_after c (h ++ Act i w ∷ []) i ≡ w
content_act c h i w = content_push c h (Act i w) i ∙ ap (λ (b : Bool). pick b w (work_after c h i)) (eq-eqb i i refl)
