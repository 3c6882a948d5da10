-- What is legal by counts is legal, and the words are those of the model.
use Rattle.std.proofs.Common.{◌≡◌, ◌≢◌, ◌⊎◌, ℕ, ◌+◌, ◌*◌, ◌^◌, ◌<◌, ◌≤◌, Bool, true, false, eqb, ◌&&◌, ◌||◌, List, [], ◌∷◌, ◌++◌, length, count_by, Option, Some, None, slice_get, sym, refl, ap, ◌∙◌, subst, inl, inr, ⊎_elim, arith, append_assoc, append-nil, eq-eqb, ne_eqb}
use Rattle.std.specs.List.{list_any}
use Rattle.std.proofs.lemmas.Bool.{true≢false}
use Rattle.ts_model.specs.Sync.{Snapshot}
use Rattle.ts_model.specs.Plans.{Waits}
use Rattle.ts_model.specs.Runs as model
use Rattle.ts_model.specs.Runs.{Has, HasNot, WordsAllow, LegalFrom, Legal, IsPieceOf, IsPending, open_count, pred_count, word_after, takes, acts, finishes, fails, releases, releases_to}
use Rattle.ts_model.specs.declared.plan.Action.{Action}
use Rattle.ts_model.specs.declared.plan.Plan.{Plan}
use Rattle.ts_model.specs.declared.step.Step.{Step}
use Rattle.ts_model.specs.declared.step.Step.TheVariants.{Claim, Take, Act, Done, Fail, Release}
use Rattle.ts_model.specs.declared.step.Work.{Work}
use Rattle.ts_model.specs.declared.step.Work.TheVariants.{Staged, Put, Marked}
use Rattle.ts_model.specs.declared.plan.Kind.TheVariants.{Piece}
use Rattle.ts_name.specs.Paths.{Path}
use Rattle.ts_model.specs.Trees.{at}
use Rattle.ts_laws.proofs.Steps.{does_of}
use Rattle.ts_laws.proofs.Lists.{weight, Contains-from_Among, Among, Among-push_cases}
use Rattle.ts_laws.proofs.Runs.{count_push}
use Rattle.ts_board.specs.declared.law.Terms.{Terms}
use Rattle.ts_board.specs.Terms.{IsLegalRun, Suits, IsOrderly, preds}
use Rattle.ts_board.specs.Runs.{same, bit, times, taken, count, size, open_of, word_of, work_after, Allowed, IsLegal}
use Rattle.ts_board.proofs.Runs.{bump, legal_each, legal_push, sound, open_still, open_less, bit_other, word_start, times_push, taken_push, content_push, content_act, still}
use Rattle.ts_name.proofs.Basics.{element_at}

-- ---- tests and counts

abbrev pub tally : (Step → Bool) → List Step → ℕ
tally f [] = 0
tally f (y ∷ ys) = bit (f y) + tally f ys

pub tally_any : (f : Step → Bool) (h : List Step) → ((list_any f h ≡ true) × (0 < tally f h)) ⊎ ((list_any f h ≡ false) × (tally f h ≡ 0))
tally_any f [] = inr (refl, refl)
tally_any f (y ∷ ys) = go (f y) refl (tally_any f ys)
  where
    go : (b : Bool) → f y ≡ b → ((list_any f ys ≡ true) × (0 < tally f ys)) ⊎ ((list_any f ys ≡ false) × (tally f ys ≡ 0))
        → ((list_any f (y ∷ ys) ≡ true) × (0 < tally f (y ∷ ys))) ⊎ ((list_any f (y ∷ ys) ≡ false) × (tally f (y ∷ ys) ≡ 0))
    go true e rest = let one : bit (f y) ≡ 1 = ap bit e in inl (ap (λ (b : Bool). b || list_any f ys) e, omega arith)
    go false e (inl t) = let x = t.1 in inl (ap (λ (b : Bool). b || list_any f ys) e ∙ t.0, omega arith)
    go false e (inr t) = let none : bit (f y) ≡ 0 = ap bit e in let x = t.1 in inr (ap (λ (b : Bool). b || list_any f ys) e ∙ t.0, omega arith)

pub some_tally : (f : Step → Bool) (h : List Step) → Has h f → 0 < tally f h
some_tally f h has = ⊎_elim (λ (t : (list_any f h ≡ true) × (0 < tally f h)). t.1) (λ (t : (list_any f h ≡ false) × (tally f h ≡ 0)). absurd (true≢false (sym has ∙ t.0))) (tally_any f h)

pub no_tally : (f : Step → Bool) (h : List Step) → HasNot h f → tally f h ≡ 0
no_tally f h has = ⊎_elim (λ (t : (list_any f h ≡ true) × (0 < tally f h)). absurd (true≢false (sym t.0 ∙ has))) (λ (t : (list_any f h ≡ false) × (tally f h ≡ 0)). t.1) (tally_any f h)

pub has_from : (f : Step → Bool) (h : List Step) → 0 < tally f h → Has h f
has_from f h some = ⊎_elim (λ (t : (list_any f h ≡ true) × (0 < tally f h)). t.0) (λ (t : (list_any f h ≡ false) × (tally f h ≡ 0)). absurd (let x = t.1 in omega arith)) (tally_any f h)

pub hasnot_from : (f : Step → Bool) (h : List Step) → tally f h ≡ 0 → HasNot h f
hasnot_from f h none = ⊎_elim (λ (t : (list_any f h ≡ true) × (0 < tally f h)). absurd (let x = t.1 in omega arith)) (λ (t : (list_any f h ≡ false) × (tally f h ≡ 0)). t.0) (tally_any f h)

tally_same : (x : Step) (f : Step → Bool) → ((y : Step) → bit (same x y) ≡ bit (f y)) → (h : List Step) → times x h ≡ tally f h
tally_same x f e [] = refl
tally_same x f e (y ∷ ys) = λ i. e y i + tally_same x f e ys i

pub claims_tally : (i : ℕ) (h : List Step) → times (Claim i) h ≡ tally (model.claims i) h
claims_tally i h = tally_same (Claim i) (model.claims i) at h
  where
    at : (y : Step) → bit (same (Claim i) y) ≡ bit (model.claims i y)
    at (Claim j) = refl
    at _ = refl

pub acts_tally : (i : ℕ) (h : List Step) → times (Act i Marked) h ≡ tally (acts i) h
acts_tally i h = tally_same (Act i Marked) (acts i) at h
  where
    at : (y : Step) → bit (same (Act i Marked) y) ≡ bit (acts i y)
    at (Claim j) = refl
    at _ = refl

pub finishes_tally : (i : ℕ) (h : List Step) → times (Done i) h ≡ tally (finishes i) h
finishes_tally i h = tally_same (Done i) (finishes i) at h
  where
    at : (y : Step) → bit (same (Done i) y) ≡ bit (finishes i y)
    at (Claim j) = refl
    at _ = refl

pub fails_tally : (i : ℕ) (h : List Step) → times (Fail i) h ≡ tally (fails i) h
fails_tally i h = tally_same (Fail i) (fails i) at h
  where
    at : (y : Step) → bit (same (Fail i) y) ≡ bit (fails i y)
    at (Claim j) = refl
    at _ = refl

and_turned : (a b : Bool) → (a && b) ≡ (b && a)
and_turned true true = refl
and_turned true false = refl
and_turned false true = refl
and_turned false false = refl

pub releases_tally : (i j : ℕ) (h : List Step) → times (Release i j) h ≡ tally (releases i j) h
releases_tally i j h = tally_same (Release i j) (releases i j) at h
  where
    at : (y : Step) → bit (same (Release i j) y) ≡ bit (releases i j y)
    at (Release k l) = ap bit (and_turned (eqb j l) (eqb i k))
    at _ = refl

pub taken_tally : (k : ℕ) (h : List Step) → taken k h ≡ tally (takes k) h
taken_tally k [] = refl
taken_tally k (y ∷ ys) = ap (λ (n : ℕ). bit (takes k y) + n) (taken_tally k ys)

-- ---- open predecessors

pred_count_same : (plan : Plan) (i : ℕ) → pred_count plan i ≡ length (preds plan i)
pred_count_same plan i = go (slice_get plan.actions i)
  where
    go : (o : Option Action) → elim o [ None ↦ 0 | Some a ↦ length a.preds ] ≡ length {A = ℕ} (elim o [ None ↦ [] | Some a ↦ a.preds ])
    go None = refl
    go (Some a) = refl

weight_bit : (b : Bool) → weight b ≡ bit b
weight_bit true = refl
weight_bit false = refl

abbrev pub Counted : Terms → List Step → Type 0
Counted t h = (j : ℕ) → count_by (releases_to j) h + open_of (preds t.plan j) h j ≡ length (preds t.plan j)

counted_quiet : (t : Terms) (h : List Step) (x : Step) (j : ℕ) → Counted t h → releases_to j x ≡ false → ((p : ℕ) → bit (same (Release p j) x) ≡ 0)
    → count_by (releases_to j) (h ++ x ∷ []) + open_of (preds t.plan j) (h ++ x ∷ []) j ≡ length (preds t.plan j)
counted_quiet t h x j c quiet away =
    let n = count_push (releases_to j) h x in let w : weight (releases_to j x) ≡ 0 = ap weight quiet in let o = open_still (preds t.plan j) h x j away in let b = c j in omega arith

counted_step : (t : Terms) (h : List Step) (x : Step) → Counted t h → Allowed t h x → Counted t (h ++ x ∷ [])
counted_step t h (Release i l) c al j = ⊎_elim
    (λ (e : (j ≡ l) × (bit (eqb j l) ≡ 1)).
    let one : weight (releases_to j (Release i l)) ≡ 1 = weight_bit (eqb j l) ∙ e.1 in
    let n = count_push (releases_to j) h (Release i l) in
    let al' : Allowed t h (Release i j) = subst (λ (z : ℕ). Allowed t h (Release i z)) (sym e.0) al in
    let o = subst (λ (z : ℕ). open_of (preds t.plan j) (h ++ Release i z ∷ []) j + 1 ≡ open_of (preds t.plan j) h j) e.0 (open_less (preds t.plan j) h i j al'.1 al'.2) in
    let b = c j in omega arith)
    (λ (e : (j ≢ l) × (bit (eqb j l) ≡ 0)). counted_quiet t h (Release i l) j c (ne_eqb j l e.0) (λ p. bit_other p i j l e.0))
    (bump j l)
counted_step t h x c al j = counted_quiet t h x j c refl (λ p. refl)

pub counted : (t : Terms) (log : List Step) → IsLegal t log → Counted t log
counted t log l = legal_each t (Counted t) (λ h x c al. counted_step t h x c al) [] log (λ j. (let w = word_start (preds t.plan j) j in omega arith)) l

pub open_same : (t : Terms) (log : List Step) → IsLegal t log → (i : ℕ) → open_count t.plan log i ≡ open_of (preds t.plan i) log i
open_same t log l i = let c = counted t log l i in let p = pred_count_same t.plan i in omega arith

-- ---- words

flag : (n k : ℕ) → 2 ^ n ≡ k → (f : Step → Bool) (h : List Step) → tally f h ≤ 1 → model.bit n (list_any f h) ≡ k * tally f h
flag n k e f h few = ⊎_elim
    (λ (t : (list_any f h ≡ true) × (0 < tally f h)). let one : tally f h ≡ 1 = (let x = t.1 in omega arith) in ap (model.bit n) t.0 ∙ e ∙ (let z : k ≡ k * 1 = omega arith in z) ∙ ap (λ (m : ℕ). k * m) (sym one))
    (λ (t : (list_any f h ≡ false) × (tally f h ≡ 0)). ap (model.bit n) t.0 ∙ (let z : 0 ≡ k * 0 = omega arith in z) ∙ ap (λ (m : ℕ). k * m) (sym t.1))
    (tally_any f h)

pub word_same : (t : Terms) (log : List Step) → IsLegal t log → (i : ℕ) → word_of t log i ≡ word_after t.plan log i
word_same t log l i =
    let q = sound t log l i in let o = open_same t log l i in
    let c = claims_tally i log in let d = finishes_tally i log in let f = fails_tally i log in let a = acts_tally i log in let k = taken_tally i log in
    let q0 = q.once in let q1 = q.acts in let q2 = q.dones in let q3 = q.emptied in
    let b0 = flag 32 4294967296 refl (model.claims i) log (omega arith) in
    let b1 = flag 33 8589934592 refl (finishes i) log (omega arith) in
    let b2 = flag 34 17179869184 refl (fails i) log (omega arith) in
    let b3 = flag 35 34359738368 refl (takes i) log (omega arith) in omega arith

-- ---- legal runs

model_push : (s : Snapshot) (plan : Plan) (past xs : List Step) (x : Step) → LegalFrom s plan past xs → WordsAllow plan (past ++ xs) x → model.Fits s plan x → LegalFrom s plan past (xs ++ x ∷ [])
model_push s plan past [] x l w f = (subst (λ (h : List Step). WordsAllow plan h x) (append-nil past) w, f, tt)
model_push s plan past (y ∷ ys) x l w f = (l.0, l.1, model_push s plan (past ++ y ∷ []) ys x l.2 (subst (λ (h : List Step). WordsAllow plan h x) (sym (append_assoc past (y ∷ []) ys)) w) f)

is_action : (t : Terms) (i : ℕ) → i < size t → model.IsAction t.plan i
is_action t i h = element_at t.plan.actions i h

among_counted : (i : ℕ) (js : List ℕ) → 0 < count i js → Among i js
among_counted i [] h = absurd (omega arith)
among_counted i (j ∷ js) h = ⊎_elim
    (λ (e : (i ≡ j) × (bit (eqb i j) ≡ 1)). inl (sym e.0))
    (λ (e : (i ≢ j) × (bit (eqb i j) ≡ 0)). let z = e.1 in inr (among_counted i js (omega arith)))
    (bump i j)

waits_counted : (plan : Plan) (i j : ℕ) → 0 < count i (preds plan j) → Waits plan j i
waits_counted plan i j h = go (slice_get plan.actions j) refl h
  where
    go : (o : Option Action) → slice_get plan.actions j ≡ o → 0 < count i (elim o [ None ↦ [] | Some a ↦ a.preds ]) → Waits plan j i
    go None e h = absurd (omega arith)
    go (Some a) e h = (a, e, Contains-from_Among a.preds i (among_counted i a.preds h))

-- claimed, and neither acted nor failed
pub pending_now : (h : List Step) (i : ℕ) → 0 < times (Claim i) h → times (Act i Marked) h ≡ 0 → times (Fail i) h ≡ 0 → IsPending h i
pending_now h i c a f = (has_from (model.claims i) h (let e = claims_tally i h in omega arith), hasnot_from (acts i) h (let e = acts_tally i h in omega arith), hasnot_from (fails i) h (let e = fails_tally i h in omega arith))

words_allow : (t : Terms) (h : List Step) (x : Step) → IsLegal t h → Allowed t h x → WordsAllow t.plan h x
words_allow t h (Claim i) l al =
    let w = al.1 in let none : times (Claim i) h ≡ 0 = omega arith in
    (is_action t i al.0, hasnot_from (model.claims i) h (let e = claims_tally i h in omega arith), (let e = open_same t h l i in omega arith))
words_allow t h (Take c k) l al =
    let claimed = al.0 in let done = al.2 in let fresh = al.3 in
    (has_from (model.claims c) h (let e = claims_tally c h in omega arith), al.1, has_from (finishes k) h (let e = finishes_tally k h in omega arith), hasnot_from (takes k) h (let e = taken_tally k h in omega arith))
words_allow t h (Act i w) l al =
    let c = al.0 in (pending_now h i (omega arith) al.1 al.2, λ k piece. has_from (takes k) h (let e = taken_tally k h in let g = al.3 k piece in omega arith))
words_allow t h (Done i) l al =
    let a = al.0 in let d = al.1 in (has_from (acts i) h (let e = acts_tally i h in omega arith), hasnot_from (finishes i) h (let e = finishes_tally i h in omega arith))
words_allow t h (Fail i) l al = let c = al.0 in pending_now h i (omega arith) al.1 al.2
words_allow t h (Release i j) l al =
    let d = al.0 in let o = al.1 in let r = al.2 in
    (has_from (finishes i) h (let e = finishes_tally i h in omega arith), waits_counted t.plan i j (omega arith), hasnot_from (releases i j) h (let e = releases_tally i j h in omega arith))

suits : (t : Terms) (h : List Step) (x : Step) → Allowed t h x → Suits t x
suits t h (Act i w) al s f = al.4 s f
suits t h _ al s f = tt

-- what is legal by counts is legal
pub legal_run : (t : Terms) (log : List Step) → IsLegal t log → IsLegalRun t log
legal_run t log l s f = (legal_each t (λ h. IsLegal t h × Legal s t.plan h)
    (λ h x p al. (legal_push t [] h x p.0 al, model_push s t.plan [] h x p.1 (words_allow t h x p.0 al) (suits t h x al s f))) [] log (tt, tt) l).1

-- ---- pieces

-- a piece is taken by its commit alone
pub taken_by : (t : Terms) → IsOrderly t.plan → (log : List Step) → IsLegal t log → (c k : ℕ) → IsPieceOf t.plan c k → taken k log ≡ times (Take c k) log
taken_by t ord log l c k piece = legal_each t (λ h. taken k h ≡ times (Take c k) h) next [] log refl l
  where
    push : (h : List Step) (x : Step) → bit (takes k x) ≡ bit (same (Take c k) x) → taken k h ≡ times (Take c k) h → taken k (h ++ x ∷ []) ≡ times (Take c k) (h ++ x ∷ [])
    push h x e p = omega (arith, taken_push k x h, times_push (Take c k) x h)

    next : (h : List Step) (x : Step) → taken k h ≡ times (Take c k) h → Allowed t h x → taken k (h ++ x ∷ []) ≡ times (Take c k) (h ++ x ∷ [])
    next h (Take d l) p al = push h (Take d l) (⊎_elim
        (λ (e : (k ≡ l) × (bit (eqb k l) ≡ 1)). let one : c ≡ d = ord.one_commit c d k piece (subst (λ (z : ℕ). IsPieceOf t.plan d z) (sym e.0) al.1) in ap (λ (b : Bool). bit b) (eq-eqb k l e.0) ∙ sym (λ i. bit (eq-eqb k l e.0 i && eq-eqb c d one i)))
        (λ (e : (k ≢ l) × (bit (eqb k l) ≡ 0)). e.1 ∙ sym (ap (λ (b : Bool). bit (b && eqb c d)) (ne_eqb k l e.0)))
        (bump k l)) p
    next h x p al = push h x refl p

-- a closed action has each predecessor released
pub closed_released : (ps : List ℕ) (h : List Step) (i p : ℕ) → open_of ps h i ≡ 0 → 0 < count p ps → 0 < times (Release p i) h
closed_released [] h i p z some = absurd (omega arith)
closed_released (q ∷ ps) h i p z some = ⊎_elim
    (λ (e : (p ≡ q) × (bit (eqb p q) ≡ 1)). subst (λ (x : ℕ). 0 < times (Release x i) h) (sym e.0) (omega arith))
    (λ (e : (p ≢ q) × (bit (eqb p q) ≡ 0)). let y = e.1 in closed_released ps h i p (omega arith) (omega arith))
    (bump p q)

-- ---- what an act left

act_counts : (i : ℕ) (w : Work) (h : List Step) → Among (Act i w) h → 0 < times (Act i Marked) h
act_counts i w [] m = absurd m
act_counts i w (y ∷ ys) (inl e) =
    let one : bit (same (Act i Marked) y) ≡ 1 = subst (λ (z : Step). bit (same (Act i Marked) z) ≡ 1) (sym e) (ap bit (eq-eqb i i refl)) in omega arith
act_counts i w (y ∷ ys) (inr m) = let rest = act_counts i w ys m in omega arith

pub act_found : (i : ℕ) (h : List Step) → 0 < times (Act i Marked) h → (w : Work) × Among (Act i w) h
act_found i [] some = absurd (omega arith)
act_found i (Act j w ∷ ys) some = ⊎_elim
    (λ (e : (i ≡ j) × (bit (eqb i j) ≡ 1)). (w, inl (ap (λ (z : ℕ). Act z w) (sym e.0))))
    (λ (e : (i ≢ j) × (bit (eqb i j) ≡ 0)). let z = e.1 in let f = act_found i ys (omega arith) in (f.0, inr f.1))
    (bump i j)
act_found i (_ ∷ ys) some = let f = act_found i ys (omega arith) in (f.0, inr f.1)

-- after an act no other step changes what it left
no_other_act : (t : Terms) (h : List Step) (x : Step) (i : ℕ) → 0 < times (Act i Marked) h → Allowed t h x → bit (same (Act i Marked) x) ≡ 0
no_other_act t h (Act j w) i some al = ⊎_elim
    (λ (e : (i ≡ j) × (bit (eqb i j) ≡ 1)). absurd (let z : times (Act i Marked) h ≡ 0 = subst (λ (x : ℕ). times (Act x Marked) h ≡ 0) (sym e.0) al.1 in omega arith))
    (λ (e : (i ≢ j) × (bit (eqb i j) ≡ 0)). e.1)
    (bump i j)
no_other_act t h _ i some al = refl

pub act_left : (t : Terms) (log : List Step) → IsLegal t log → (c : Work) (i : ℕ) (w : Work) → Among (Act i w) log → work_after c log i ≡ w
act_left t log l c i w m = legal_each t (λ h. (w : Work) → Among (Act i w) h → work_after c h i ≡ w) next [] log (λ w m. absurd m) l w m
  where
    next : (h : List Step) (x : Step) → ((w : Work) → Among (Act i w) h → work_after c h i ≡ w) → Allowed t h x → (w : Work) → Among (Act i w) (h ++ x ∷ []) → work_after c (h ++ x ∷ []) i ≡ w
    next h x p al w m = ⊎_elim
        (λ (a : Among (Act i w) h). content_push c h x i ∙ still x i (work_after c h i) (no_other_act t h x i (act_counts i w h a) al) ∙ p w a)
        (λ (e : x ≡ Act i w). subst (λ (z : Step). work_after c (h ++ z ∷ []) i ≡ w) (sym e) (content_act c h i w))
        (Among-push_cases (Act i w) h x m)

pub suits_of : (t : Terms) (log : List Step) → IsLegal t log → (x : Step) → Among x log → Suits t x
suits_of t log l x m = legal_each t (λ h. (x : Step) → Among x h → Suits t x) next [] log (λ x m. absurd m) l x m
  where
    next : (h : List Step) (y : Step) → ((x : Step) → Among x h → Suits t x) → Allowed t h y → (x : Step) → Among x (h ++ y ∷ []) → Suits t x
    next h y p al x m = ⊎_elim (λ (a : Among x h). p x a) (λ (e : y ≡ x). subst (Suits t) e (suits t h y al)) (Among-push_cases x h y m)

-- a snapshot with these prints
abbrev pub some_snapshot : Terms → Snapshot
some_snapshot t = record { archive = at t.first; first = at t.first; second = at t.second; rules = [] }

staged_work : (t : Terms) (e offset size : ℕ) (p : Path) (w : Work) → model.Does (some_snapshot t) t.plan (Piece e offset size p) w → (bytes : List ℕ) × (w ≡ Staged bytes)
staged_work t e offset size p (Staged bytes) d = (bytes, refl)
staged_work t e offset size p (Put rows) d = absurd d
staged_work t e offset size p Marked d = absurd d

-- a done piece has staged some bytes
pub piece_left : (t : Terms) (log : List Step) → IsLegal t log → (c : Work) (i k : ℕ) → IsPieceOf t.plan i k → 0 < times (Done k) log
    → (bytes : List ℕ) × Among (Act k (Staged bytes)) log × (work_after c log k ≡ Staged bytes)
piece_left t log l c i k piece done =
    let q = sound t log l k in let d = q.dones in
    let found = act_found k log (omega arith) in
    let does = does_of (some_snapshot t) t.plan k (Piece piece.entry piece.offset piece.size piece.path) found.0 (suits_of t log l (Act k found.0) found.1 (some_snapshot t) (refl, refl)) piece.piece in
    let is = staged_work t piece.entry piece.offset piece.size piece.path found.0 does in
    (is.0, subst (λ (w : Work). Among (Act k w) log) is.1 found.1, act_left t log l c k found.0 found.1 ∙ is.1)

-- who has taken nothing has no step that takes
and_le : (a b : Bool) → bit (a && b) ≤ bit a
and_le true true = omega arith
and_le true false = omega arith
and_le false b = omega arith

pub times_taken : (c k : ℕ) (h : List Step) → times (Take c k) h ≤ taken k h
times_taken c k [] = omega arith
times_taken c k (y ∷ ys) = omega (arith, at y, times_taken c k ys)
  where
    at : (y : Step) → bit (same (Take c k) y) ≤ bit (takes k y)
    at (Claim i) = omega arith
    at (Act i w) = omega arith
    at (Done i) = omega arith
    at (Fail i) = omega arith
    at (Release i j) = omega arith
    at (Take d l) = and_le (eqb k l) (eqb c d)
