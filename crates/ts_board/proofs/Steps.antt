-- One step more keeps the rule.
use Rattle.std.proofs.Common.{◌≡◌, ◌≢◌, ℕ, zero, suc, ◌+◌, ◌-◌, ◌^◌, ◌<◌, ◌≤◌, Bool, eqb, List, [], ◌∷◌, ◌++◌, length, get_or, set, sym, refl, ap, ◌∙◌, subst, ⊎_elim, inl, inr, arith, append_assoc, append-nil, eq-eqb, ne_eqb, length-set, get_or-set_same, get_or-set_other, set-set, mod-eq_of_lt, ◌%◌, bit_or}
use native.Mathlib.Nat.{add-mod_right}
use Rattle.std.specs.Prelude.{slice_index, Option}
use Rattle.std.specs.Prelude as prelude
use mathlib.Core.Option as maybe
use mathlib.Core.Logic.{dite}
use native.Mathlib.Decide.{ℕ_discrete}
use mathlib.Core.Option.{none, some, some-injective, some-ne-none}
use lib.ListN.{get_elem?}
use prog.Atomic.{either}
use Rattle.atomic_table.specs.Table.{State, Act as Deed, step, keeps, takes, gives, Valid, carried_after, stepped, Allows}
use Rattle.atomic_table.proofs.Lists.{at_set, set_here, set_else, exchanged}
use Rattle.ts_model.specs.Plans.{AscendBelow, Waits}
use Rattle.ts_model.specs.Runs as model
use Rattle.ts_model.specs.Runs.{Run, Has, HasNot, IsPending, IsPieceOf, WordsAllow, word_after, open_count}
use Rattle.ts_model.specs.declared.plan.Plan.{Plan}
use Rattle.ts_model.specs.declared.plan.Action.{Action}
use Rattle.ts_model.specs.declared.step.Step.{Step}
use Rattle.ts_model.specs.declared.step.Step.TheVariants.{Claim, Take, Act, Done, Fail, Release}
use Rattle.ts_model.specs.declared.step.Work.{Work}
use Rattle.ts_model.specs.declared.step.Work.TheVariants.{Staged, Marked}
use Rattle.ts_laws.proofs.Lists.{Among, Among-left, Among-from_Contains, Contains-from_Among}
use Rattle.ts_board.specs.declared.law.Terms.{Terms}
use Rattle.ts_board.specs.declared.law.Slot.{Slot}
use Rattle.ts_board.specs.declared.law.Slot.TheVariants.{Empty}
use Rattle.ts_board.specs.declared.law.Sight.{Sight}
use Rattle.ts_board.specs.declared.law.View.{View}
use Rattle.ts_board.specs.Terms.{IsLegalRun, Suits, IsOrderly, preds, opening_work}
use Rattle.ts_board.specs.Runs.{actor, same, bit, times, taken, count, size, open_of, word_of, Allowed, IsLegal, keep, steps_by, work_after}
use Rattle.ts_board.specs.Kept.{sight, nothing, total, claimed, share, Behind, Fits, Keeps, Kept, moved, mine, Seat, Looks, looks, Makes, claims, gives_back, fetches, does, fails, releases, takes_out, carrying, carries, SlotOk, Shelf, bare}
use Rattle.ts_board.proofs.Runs.{bump, taken_le, taken_push, times_push, legal_push, sound, word_claim, word_else-claim, word_act, word_done, word_else-done, word_fail, word_else-fail, word_release, word_else-release, word_take, word_else-take, open_less, steps_by-append, steps_by-nobody, steps_by-other, steps_by-own, steps_by-one_more, times_by, times_by_none, times_else, content_unacted, content_else, content_act, content_push}
use Rattle.ts_board.proofs.Model.{legal_run, word_same, open_same, claims_tally, acts_tally, finishes_tally, fails_tally, releases_tally, taken_tally, some_tally, no_tally, pending_now, taken_by, closed_released, piece_left, times_taken}
use Rattle.ts_board.proofs.Totals.{total_set, total_same, total_at, total_two}

abbrev pub Board : Type 0
Board = State (Unit {0}) View

-- the table with these words, and with this view of one pass
abbrev pub table : Board → List ℕ → ℕ → View → Board
table s ws id w = record { words = ws; homes = s.homes; views = set s.views id w }

pub set_self : (l : List ℕ) (i : ℕ) → set l i (get_or l i 0) ≡ l
set_self [] i = refl
set_self (x ∷ xs) zero = refl
set_self (x ∷ xs) (suc i) = ap (λ (l : List ℕ). x ∷ l) (set_self xs i)

pub behind_nothing : (log : Run) → Behind log nothing
behind_nothing log = (log, refl, steps_by-nobody log)

behind_all : (log : Run) (claims : List ℕ) → Behind log (sight log claims)
behind_all log claims = ([], sym (append-nil log), refl)

-- a step of another
pub behind_more : (log : Run) (x : Step) (s : Sight) → Behind log s → count (actor x) s.claims ≡ 0 → Behind (log ++ x ∷ []) s
behind_more log x s b z = (
  b.0 ++ x ∷ [],
  ap (λ (l : Run). l ++ x ∷ []) b.1 ∙ append_assoc s.seen b.0 (x ∷ []),
  steps_by-append s.claims b.0 (x ∷ []) ∙ (λ k. b.2 k ++ steps_by-other s.claims x z k),
)

fits_more : (depth : ℕ) (log : Run) (x : Step) (u : View) → Fits depth log u → count (actor x) u.sight.claims ≡ 0 → Fits depth (log ++ x ∷ []) u
fits_more depth log x u f z =
    let l = f.within (actor x) in
    record {
      behind = behind_more log x u.sight f.behind z;
      left = behind_more log x u.left f.left (omega arith);
      right = behind_more log x u.right f.right (omega arith);
      within = f.within;
      idle = f.idle;
      deep = f.deep;
    }

-- the pass that makes the step, and has then seen all
fits_own : (depth : ℕ) (log : Run) (v : View) (claims : List ℕ) → v.cut ≤ depth → (v.part ≡ 0 → (i : ℕ) → count i claims ≡ 0) → Fits depth log (moved v log claims)
fits_own depth log v claims d z = record {
  behind = behind_all log claims;
  left = behind_nothing log;
  right = behind_nothing log;
  within = λ i. omega arith;
  idle = z;
  deep = d;
}

pub each_set : (P : View → Type 0) (views : List View) (id : ℕ) (w : View) → P w → ((j : ℕ) (u : View) → j ≢ id → get_elem? views j ≡ some u → P u) → (j : ℕ) (u : View) → get_elem? (set views id w) j ≡ some u → P u
each_set P views id w here else j u at =
    ⊎_elim
    (λ (t : (j ≡ id) × (w ≡ u)). subst P t.1 here)
    (λ (t : (j ≢ id) × (get_elem? views j ≡ some u)). else j u t.0 t.1)
    (at_set views id j w u at)

-- a pass that has the claims and the share that it had
pub reseen : (plan : Terms) (log : Run) (depth : ℕ) (s : Board) (r : Keeps plan log depth s) (id : ℕ) (v w : View) → get_elem? s.views id ≡ some v → Fits depth log w → w.sight.claims ≡ v.sight.claims → share depth w ≡ share depth v
    → Keeps plan log depth (table s s.words id w)
reseen plan log depth s r id v w at fits same_claims same_share = record {
  orderly = r.orderly;
  legal = r.legal;
  words = r.words;
  wide = r.wide;
  each_pass = each_set (Fits depth log) s.views id w fits (λ j u ne to. r.each_pass j u to);
  each_claim = λ i. total_same (claimed i) s.views id v w at (ap (count i) same_claims) ∙ r.each_claim i;
  whole = total_same (share depth) s.views id v w at same_share ∙ r.whole;
}

-- a pass sees all
pub sees : (plan : Terms) (log : Run) (depth : ℕ) (s : Board) (r : Keeps plan log depth s) (id : ℕ) (v : View) → get_elem? s.views id ≡ some v → Keeps plan log depth (table s s.words id (moved v log v.sight.claims))
sees plan log depth s r id v at =
    let f = r.each_pass id v at in reseen plan log depth s r id v (moved v log v.sight.claims) at (fits_own depth log v v.sight.claims f.deep f.idle) refl refl

-- a pass makes a step
pub makes : (plan : Terms) (log : Run) (depth : ℕ) (s : Board) (r : Keeps plan log depth s) (id : ℕ) (v : View) (x : Step) (claims ws : List ℕ) → get_elem? s.views id ≡ some v → 0 < v.part → Allowed plan log x
    → length ws ≡ length s.words → ((k : ℕ) → k < length s.words → slice_index ws k ≡ word_of plan (log ++ x ∷ []) k)
    → ((j : ℕ) (u : View) → j ≢ id → get_elem? s.views j ≡ some u → count (actor x) u.sight.claims ≡ 0)
    → ((i : ℕ) → count i claims + times (Claim i) log ≡ count i v.sight.claims + times (Claim i) (log ++ x ∷ []))
    → Keeps plan (log ++ x ∷ []) depth (table s ws id (moved v (log ++ x ∷ []) claims))
makes plan log depth s r id v x claims ws at part al long words others grows =
    let after : Run = log ++ x ∷ [] in
    let w = moved v after claims in
    let f = r.each_pass id v at in
    record {
      orderly = r.orderly;
      legal = legal_push plan [] log x r.legal al;
      words = λ k h. words k (subst (λ (n : ℕ). k < n) long h);
      wide = subst (λ (n : ℕ). size plan ≤ n) (sym long) r.wide;
      each_pass = each_set (Fits depth after) s.views id w (fits_own depth after v claims f.deep (λ z. absurd (omega arith))) (λ j u ne to. fits_more depth log x u (r.each_pass j u to) (others j u ne to));
      each_claim = λ i. (let t = total_set (claimed i) s.views id v w at in let c = r.each_claim i in let g = grows i in omega arith);
      whole = total_same (share depth) s.views id v w at refl ∙ r.whole;
    }

-- the pass that claimed an action makes another step of it
pub makes_own : (plan : Terms) (log : Run) (depth : ℕ) (s : Board) (r : Keeps plan log depth s) (id : ℕ) (v : View) (x : Step) (ws : List ℕ) → get_elem? s.views id ≡ some v → 0 < v.part → Allowed plan log x
    → length ws ≡ length s.words → ((k : ℕ) → k < length s.words → slice_index ws k ≡ word_of plan (log ++ x ∷ []) k)
    → 0 < count (actor x) v.sight.claims → ((i : ℕ) → bit (same (Claim i) x) ≡ 0)
    → Keeps plan (log ++ x ∷ []) depth (table s ws id (moved v (log ++ x ∷ []) v.sight.claims))
makes_own plan log depth s r id v x ws at part al long words own bare =
    makes plan log depth s r id v x v.sight.claims ws at part al long words
    (λ j u ne to. (let t = total_two (claimed (actor x)) s.views id j v u ne at to in let c = r.each_claim (actor x) in let o = (sound plan log r.legal (actor x)).once in omega arith))
    (λ i. (let t = times_push (Claim i) x log in let z = bare i in omega arith))

-- what a pass then knows of its own steps
pub mine_seen : (log : Run) (v : View) → Behind log v.sight → mine (moved v log v.sight.claims) ≡ mine v
mine_seen log v b = ap (steps_by v.sight.claims) b.1 ∙ steps_by-append v.sight.claims v.sight.seen b.0 ∙ (λ k. steps_by v.sight.claims v.sight.seen ++ b.2 k) ∙ append-nil (steps_by v.sight.claims v.sight.seen)

pub mine_more : (v : View) (log : Run) (claims : List ℕ) (x : Step) (own : Run) → steps_by claims log ≡ own → 0 < count (actor x) claims → mine (moved v (log ++ x ∷ []) claims) ≡ own ++ x ∷ []
mine_more v log claims x own e h = steps_by-append claims log (x ∷ []) ∙ (λ k. e k ++ steps_by-own claims x h k)

-- what a call made, by what the pass then sees
pub carried_makes : (t : Terms) (v w u : View) (own : Run) (claims : List ℕ) → v.terms ≡ t → u.sight ≡ w.sight → Makes v own claims w
    → (between : Run) × (u.sight.seen ≡ (v.sight.seen ++ between) ++ own) × (mine u ≡ mine v ++ own) × IsLegalRun t u.sight.seen
carried_makes t v w u own claims named e m =
    subst (λ (s : Sight). (between : Run) × (s.seen ≡ (v.sight.seen ++ between) ++ own) × (steps_by s.claims s.seen ≡ mine v ++ own) × IsLegalRun t s.seen) (sym e)
    (m.0, ap (λ (x : View). x.sight.seen) m.1, m.2, subst (λ (x : Terms). IsLegalRun x w.sight.seen) named m.3)

-- a step of an action that the pass claimed stands in the history as often as among the pass's own
pub known : (log : Run) (v : View) (x : Step) → Behind log v.sight → 0 < count (actor x) v.sight.claims → times x log ≡ times x (mine v)
known log v x b h = sym (times_by v.sight.claims x log h) ∙ ap (times x) (mine_seen log v b)

-- who has a step of an action has claimed it
pub has_claimed : (v : View) (x : Step) → 0 < times x (mine v) → 0 < count (actor x) v.sight.claims
has_claimed v x h =
    dite (ℕ_discrete (count (actor x) v.sight.claims) 0)
    (λ z. absurd (let n = times_by_none v.sight.claims x v.sight.seen z in omega arith))
    (λ ne. omega arith)

words_set : (plan : Terms) (log : Run) (ws : List ℕ) (i n : ℕ) (x : Step) → ((k : ℕ) → k < length ws → slice_index ws k ≡ word_of plan log k) → n ≡ word_of plan (log ++ x ∷ []) i → ((k : ℕ) → k ≢ i → word_of plan (log ++ x ∷ []) k ≡ word_of plan log k)
    → (k : ℕ) → k < length ws → slice_index (set ws i n) k ≡ word_of plan (log ++ x ∷ []) k
words_set plan log ws i n x old here else k h =
    dite (ℕ_discrete k i)
    (λ e. subst (λ (z : ℕ). slice_index (set ws i n) z ≡ word_of plan (log ++ x ∷ []) z) (sym e) (get_or-set_same ws i n 0 (subst (λ (z : ℕ). z < length ws) e h) ∙ here))
    (λ ne. get_or-set_other ws i k n 0 ne ∙ old k h ∙ sym (else k ne))

-- claimed, and nothing else was done with it
abbrev pub IsHeld : Run → ℕ → Type 0
IsHeld own i = (times (Claim i) own ≡ 1) × (times (Act i Marked) own ≡ 0) × (times (Done i) own ≡ 0) × (times (Fail i) own ≡ 0) × (taken i own ≡ 0)

new_held : (plan : Terms) (log : Run) (i : ℕ) (c : List ℕ) → IsLegal plan log → times (Claim i) log ≡ 0 → 0 < count i c → IsPending (steps_by c (log ++ Claim i ∷ [])) i
new_held plan log i c l fresh own =
    let q = sound plan log l i in let a = q.acts in let d = q.dones in
    let after : Run = log ++ Claim i ∷ [] in
    let self : bit (eqb i i) ≡ 1 = ap bit (eq-eqb i i refl) in
    let t0 = times_by c (Claim i) after own in let t1 = times_by c (Act i Marked) after own in let t2 = times_by c (Fail i) after own in
    let p0 = times_push (Claim i) (Claim i) log in let p1 = times_push (Act i Marked) (Claim i) log in let p2 = times_push (Fail i) (Claim i) log in
    pending_now (steps_by c after) i (omega arith) (omega arith) (omega arith)

pub set_there : (views : List View) (id : ℕ) (v w : View) → get_elem? views id ≡ some v → get_elem? (set views id w) id ≡ some w
set_there [] id v w at = absurd (some-ne-none v (sym at))
set_there (u ∷ us) zero v w at = refl
set_there (u ∷ us) (suc id) v w at = set_there us id v w at

-- The held action: of the history as of the pass's own steps
pub held_there : (plan : Terms) (log : Run) (v : View) (i : ℕ) → IsLegal plan log → Behind log v.sight → IsPending (mine v) i → (0 < count i v.sight.claims) × IsHeld log i
held_there plan log v i l b h =
    let some = some_tally (model.claims i) (mine v) h.0 in let t0 = claims_tally i (mine v) in
    let own : 0 < count i v.sight.claims = has_claimed v (Claim i) (omega arith) in
    let q = sound plan log l i in let q0 = q.once in let q1 = q.acts in let q2 = q.dones in let q3 = q.emptied in
    let n1 = no_tally (model.acts i) (mine v) h.1 in let t1 = acts_tally i (mine v) in
    let n2 = no_tally (model.fails i) (mine v) h.2 in let t2 = fails_tally i (mine v) in
    let k0 = known log v (Claim i) b own in let k1 = known log v (Act i Marked) b own in let k2 = known log v (Fail i) b own in
    (own, (omega arith, omega arith, omega arith, omega arith, omega arith))

-- the word of a held action
pub held_word : (plan : Terms) (log : Run) (i : ℕ) → IsLegal plan log → IsHeld log i → (word_of plan log i ≡ 4294967296) × (i < size plan)
held_word plan log i l h =
    let q = sound plan log l i in let c = h.0 in let d = h.2 in let f = h.3 in let t = h.4 in let o = q.no_open (omega arith) in
    (omega arith, q.inside (omega arith))

-- what the pass has taken was taken
taken_keep : (k n : ℕ) (x : Step) (xs : Run) → taken k (keep n x xs) ≤ bit (model.takes k x) + taken k xs
taken_keep k zero x xs = omega arith
taken_keep k (suc n) x xs = omega arith

taken_steps : (k : ℕ) (c : List ℕ) (xs : Run) → taken k (steps_by c xs) ≤ taken k xs
taken_steps k c [] = omega arith
taken_steps k c (x ∷ xs) = omega (arith, taken_keep k (count (actor x) c) x (steps_by c xs), taken_steps k c xs)

pub taken_mine : (k : ℕ) (log : Run) (v : View) → Behind log v.sight → taken k (mine v) ≤ taken k log
taken_mine k log v b = let e = ap (taken k) (mine_seen log v b) in let le = taken_steps k v.sight.claims log in omega arith

-- a last step that takes
pub taken_last : (own new : Run) (c k : ℕ) → new ≡ own ++ Take c k ∷ [] → 0 < taken k new
taken_last own new c k e = let self : bit (eqb k k) ≡ 1 = ap bit (eq-eqb k k refl) in let t = taken_push k (Take c k) own in let n = ap (taken k) e in omega arith

-- a predecessor counts once
above : (n x i : ℕ) (ys : List ℕ) → AscendBelow n (x ∷ ys) → i ≤ x → count i ys ≡ 0
above n x i [] a h = refl
above n x i (y ∷ ys) a h =
    let less = a.0 in let off : bit (eqb i y) ≡ 0 = ap bit (ne_eqb i y (λ e. absurd (omega arith))) in let rest = above n y i ys a.1 (omega arith) in omega arith

pub count_one : (n i : ℕ) (xs : List ℕ) → AscendBelow n xs → Among i xs → count i xs ≡ 1
count_one n i [] a m = absurd m
count_one n i (x ∷ []) a (inl e) = ap (λ (b : Bool). bit b + 0) (eq-eqb i x (sym e))
count_one n i (x ∷ []) a (inr m) = absurd m
count_one n i (x ∷ y ∷ ys) a (inl e) = let one : bit (eqb i x) ≡ 1 = ap bit (eq-eqb i x (sym e)) in let less = a.0 in let none_more = above n x i (y ∷ ys) a (omega arith) in omega arith
count_one n i (x ∷ y ∷ ys) a (inr m) =
    let rest = count_one n i (y ∷ ys) a.1 m in
    ⊎_elim
    (λ (t : (i ≡ x) × (bit (eqb i x) ≡ 1)). let same = t.0 in let none_more = above n x i (y ∷ ys) a (omega arith) in absurd (omega arith))
    (λ (t : (i ≢ x) × (bit (eqb i x) ≡ 0)). let z = t.1 in omega arith)
    (bump i x)

pub waits_once : (plan : Plan) → IsOrderly plan → (i j : ℕ) → Waits plan j i → count i (preds plan j) ≡ 1
waits_once plan ord i j w =
    subst (λ (js : List ℕ). count i js ≡ 1) (sym (ap (λ (o : Option Action). elim o [ prelude.None ↦ [] | prelude.Some a ↦ a.preds ]) w.1))
    (count_one j i w.0.preds (ord.ascending j w.0 w.1) (Among-from_Contains w.0.preds i w.2))

less_one : (n m : ℕ) → m + 1 ≡ n → n < 18446744073709551616 → (n + (18446744073709551616 - 1)) % 18446744073709551616 ≡ m
less_one n m e h =
    let a : n + (18446744073709551616 - 1) ≡ m + 18446744073709551616 = omega arith in
    ap (λ (z : ℕ). z % 18446744073709551616) a ∙ add-mod_right m 18446744073709551616 ∙ mod-eq_of_lt (let g : m < 18446744073709551616 = omega arith in g)

-- ---- slots

-- what a pass carries changes nothing but that
pub recarry : (plan : Terms) (log : Run) (depth : ℕ) (s : Board) (r : Keeps plan log depth s) (id : ℕ) (w : View) (k : ℕ) → get_elem? s.views id ≡ some w → Keeps plan log depth (table s s.words id (carrying k w))
recarry plan log depth s r id w k at =
    let f = r.each_pass id w at in
    reseen plan log depth s r id w (carrying k w) at record { behind = f.behind; left = f.left; right = f.right; within = f.within; idle = f.idle; deep = f.deep } refl refl

pub recarry_new : (plan : Terms) (log : Run) (depth : ℕ) (s : Board) (ws : List ℕ) (id : ℕ) (v w : View) (k : ℕ) → get_elem? s.views id ≡ some v → Keeps plan log depth (table s ws id w) → Keeps plan log depth (table s ws id (carrying k w))
recarry_new plan log depth s ws id v w k at r =
    subst (λ (views : List View). Keeps plan log depth (record { words = ws; homes = s.homes; views = views })) (set-set s.views id w (carrying k w))
    (recarry plan log depth (table s ws id w) r id w k (set_there s.views id v w at))

module _ {S : Type 0} (content : Slot S → Work) (good : Terms → ℕ → Slot S → Type 0) where
  abbrev St : Type 0
  St = State (Slot S) View

  -- a step that leaves the slot alone
  slot_still : (fine : Slot S → Type 0) (first : Work) (log log' : Run) (m m' i : ℕ) (h h' : maybe.Option (maybe.Option (Slot S))) → SlotOk content fine first log m i h → times (Claim i) log' ≡ times (Claim i) log → times (Done i) log' ≡ times (Done i) log → times (Fail i) log' ≡ times (Fail i) log → taken i log ≤ taken i log'
      → work_after first log' i ≡ work_after first log i → m' ≡ m → h' ≡ h → SlotOk content fine first log' m' i h'
  slot_still fine first log log' m m' i h h' o c d f tk e k same = record {
    rests = λ z u. (let g = o.rests (omega arith) (omega arith) in (g.0, same ∙ g.1, g.2 ∙ sym e, g.3));
    away = λ z idle. same ∙ o.away (omega arith) (omega arith);
  }

  -- a step of another action, or none
  slot_else : (fine : Slot S → Type 0) (first : Work) (log : Run) (x : Step) (m m' i : ℕ) (h h' : maybe.Option (maybe.Option (Slot S))) → SlotOk content fine first log m i h → i ≢ actor x → m' ≡ m → h' ≡ h → SlotOk content fine first (log ++ x ∷ []) m' i h'
  slot_else fine first log x m m' i h h' o ne k same = slot_still fine first log (log ++ x ∷ []) m m' i h h' o (times_else (Claim i) x log ne) (times_else (Done i) x log ne) (times_else (Fail i) x log ne) (taken_le i x log) (content_else first log x i ne) k same

  pub same_slot : (fine : Slot S → Type 0) (first : Work) (log : Run) (m m' i : ℕ) (h h' : maybe.Option (maybe.Option (Slot S))) → SlotOk content fine first log m i h → m' ≡ m → h' ≡ h → SlotOk content fine first log m' i h'
  same_slot fine first log m m' i h h' o k same = slot_still fine first log log m m' i h h' o refl refl refl (omega arith) refl k same

  shelf_with : (plan : Terms) (log log' : Run) (s : St) (ws : List ℕ) (hs : List (maybe.Option (Slot S))) (id : ℕ) (v w : View) → get_elem? s.views id ≡ some v → Shelf content good plan log s → length hs ≡ length s.homes
      → ((i : ℕ) → taken i log ≤ taken i log')
      → ((i : ℕ) → i < length s.homes → SlotOk content (good plan i) (opening_work plan i) log (total (carries i) s.views) i (get_elem? s.homes i) → SlotOk content (good plan i) (opening_work plan i) log' (total (carries i) (set s.views id w)) i (get_elem? hs i))
      → ((i : ℕ) → w.carry ≡ suc i → 0 < count i w.sight.claims + taken i log') → Shelf content good plan log' (record { words = ws; homes = hs; views = set s.views id w })
  shelf_with plan log log' s ws hs id v w at r long grows slots carry = record {
    each_slot = λ i h. slots i (subst (λ (n : ℕ). i < n) long h) (r.each_slot i (subst (λ (n : ℕ). i < n) long h));
    each_carry = each_set (λ (u : View). (i : ℕ) → u.carry ≡ suc i → 0 < count i u.sight.claims + taken i log') s.views id w carry (λ j u ne to i z. (let h = r.each_carry j u to i z in let g = grows i in omega arith));
    deep = subst (λ (n : ℕ). size plan ≤ n) (sym long) r.deep;
  }

  -- how many carry a slot, after a pass's view changed
  pub carry_same : (s : St) (id : ℕ) (v w : View) (i : ℕ) → get_elem? s.views id ≡ some v → carries i w ≡ carries i v → total (carries i) (set s.views id w) ≡ total (carries i) s.views
  carry_same s id v w i at e = total_same (carries i) s.views id v w at e

  pub carries_none : (v : View) (i : ℕ) → v.carry ≡ 0 → carries i v ≡ 0
  carries_none v i e = ap bit (ne_eqb v.carry (suc i) (λ h. (let z : 0 ≡ suc i = sym e ∙ h in absurd (omega arith))))

  carries_one : (v : View) (i : ℕ) → v.carry ≡ suc i → carries i v ≡ 1
  carries_one v i e = ap bit (eq-eqb v.carry (suc i) e)

  carries_else : (v : View) (i k : ℕ) → v.carry ≡ suc k → i ≢ k → carries i v ≡ 0
  carries_else v i k e ne = ap bit (ne_eqb v.carry (suc i) (λ h. ne (let z : suc k ≡ suc i = sym e ∙ h in omega arith)))

  total_zero : (f : View → ℕ) (views : List View) → ((j : ℕ) (u : View) → get_elem? views j ≡ some u → f u ≡ 0) → total f views ≡ 0
  total_zero f [] z = refl
  total_zero f (u ∷ us) z = let e = z zero u refl in omega (arith, total_zero f us (λ j w on. z (suc j) w on))

  -- of a slot whose action a pass has claimed, which carries nothing, no pass has it
  nobody_has : (plan : Terms) (log : Run) (depth : ℕ) (s : St) (r : Keeps plan log depth (bare s)) (h : Shelf content good plan log s) (id : ℕ) (v : View) (i : ℕ) → get_elem? s.views id ≡ some v → v.carry ≡ 0 → 0 < count i v.sight.claims → taken i log ≡ 0 → total (carries i) s.views ≡ 0
  nobody_has plan log depth s r h id v i at idle own fresh = total_zero (carries i) s.views (λ j u to.
      dite (ℕ_discrete j id)
      (λ e. (let same : v ≡ u = some-injective v u (sym at ∙ ap (get_elem? s.views) (sym e) ∙ to) in sym (ap (carries i) same) ∙ carries_none v i idle))
      (λ ne. dite (ℕ_discrete u.carry (suc i))
      (λ has. absurd (let c = h.each_carry j u to i has in let t = total_two (claimed i) s.views id j v u ne at to in let k = r.each_claim i in let o = (sound plan log r.legal i).once in omega arith))
      (λ other. ap bit (ne_eqb u.carry (suc i) other))))

  module _ (plan : Terms) where
    abbrev Holds : St → Type 0
    Holds = Kept content good plan

    abbrev Goes : St → ℕ → ℕ → Seat S → (ℕ → Seat S → Type 0) → ℕ → Type 0
    Goes s i id me then n = (w : View) × (a : Deed (Slot S)) × Valid s.homes me.1 a × Holds (stepped s i n id me.1 w a) × then (slice_index s.words i) (w, carried_after me.1 a)

    -- ---- a look

    stays : (s : St) (r : Holds s) (id : ℕ) (me : Seat S) (i : ℕ) → me.0.terms ≡ plan → i < size plan → get_elem? s.views id ≡ some me.0
        → Holds (stepped s i (slice_index s.words i) id me.1 (moved me.0 r.log me.0.sight.claims) keeps) × Looks me.0 i (slice_index s.words i) (moved me.0 r.log me.0.sight.claims)
    stays s r id me i named inside at =
        let v = me.0 in let k = r.keeps in let f = k.each_pass id v at in let w = moved v r.log v.sight.claims in let wide = k.wide in (
          subst (λ (ws : List ℕ). Holds (record { words = ws; homes = s.homes; views = set s.views id w })) (sym (set_self s.words i)) record {
            log = r.log;
            depth = r.depth;
            keeps = sees plan r.log r.depth (bare s) k id v at;
            settled = r.settled;
            shelf = shelf_with plan r.log r.log s s.words s.homes id v w at r.shelf refl (λ x. omega arith) (λ j h o. same_slot (good plan j) (opening_work plan j) r.log (total (carries j) s.views) (total (carries j) (set s.views id w)) j (get_elem? s.homes j) (get_elem? s.homes j) o (carry_same s id v w j at refl) refl) (r.shelf.each_carry id v at);
          },
          (refl, (f.behind.0, f.behind.1), mine_seen r.log v f.behind, subst (λ (p : Terms). IsLegalRun p r.log) (sym named) (legal_run plan r.log k.legal), k.words i (omega arith) ∙ word_same plan r.log k.legal i ∙ ap (λ (p : Terms). word_after p.plan r.log i) (sym named)),
        )

    pub looking : (slots id : ℕ) (me : Seat S) (i : ℕ) → me.0.terms ≡ plan → i < size plan → Allows Holds slots id me i (λ n. n) (looks (step slots i 0 0 none) me)
    looking slots id me i named inside s r deep at small =
        let g = stays s r id me i named inside at in (moved me.0 r.log me.0.sight.claims, keeps, tt, g.0, (refl, g.1))

    -- ---- a claim

    pub claiming : (slots id : ℕ) (me : Seat S) (i : ℕ) → me.0.terms ≡ plan → i < size plan → i < slots → 0 < me.0.part → me.0.carry ≡ 0
        → Allows Holds slots id me i (λ n. either (eqb n 0) 4294967296 n) (claims content good (step slots i 0 4294967296 none) me)
    claiming slots id me i named inside within part empty s r deep at small =
        let n : ℕ = slice_index s.words i in
        let v = me.0 in let k = r.keeps in let log = r.log in let f = k.each_pass id v at in let wide = k.wide in let c : List ℕ = i ∷ v.sight.claims in
        let is : n ≡ word_of plan log i = k.words i (omega arith) in
        let self : bit (eqb i i) ≡ 1 = ap bit (eq-eqb i i refl) in
        exchanged n 0 4294967296 (Goes s i id me (claims content good (step slots i 0 4294967296 none) me))
        (λ (hit : n ≡ 0).
        let zero_word : word_of plan log i ≡ 0 = sym is ∙ hit in
        let fresh : times (Claim i) log ≡ 0 = omega arith in
        let q = sound plan log k.legal i in let qa = q.acts in let qd = q.dones in
        let own : steps_by c log ≡ mine v = steps_by-one_more i v.sight.claims log (q.none fresh) ∙ mine_seen log v f.behind in
        let after : Run = log ++ Claim i ∷ [] in
        let w0 = moved v after c in let w = carrying (suc i) w0 in
        let kept = makes plan log r.depth (bare s) k id v (Claim i) c (set s.words i 4294967296) at part (inside, zero_word) (length-set s.words i 4294967296)
        (words_set plan log s.words i 4294967296 (Claim i) k.words (sym (word_claim plan log i zero_word)) (λ j ne. word_else-claim plan log i j ne))
        (λ j u ne to. (let t = total_at (claimed i) s.views j u to in let e = k.each_claim i in omega arith))
        (λ j. (let t = times_push (Claim j) (Claim i) log in omega arith)) in
        let i_there : i < length s.homes = omega arith in
        let lies = (r.shelf.each_slot i i_there).rests (omega arith) (omega arith) in let y : Slot S = lies.0 in
        let held = new_held plan log i c k.legal fresh (omega arith) in
        let views : List View = set s.views id w in
        let has : total (carries i) views ≢ 0 = λ z. (let t = total_at (carries i) views id w (set_there s.views id v w at) in let o = carries_one w i refl in absurd (omega arith)) in (
          w,
          takes i y,
          lies.1,
          record {
            log = after;
            depth = r.depth;
            keeps = recarry_new plan after r.depth (bare s) (set s.words i 4294967296) id v w0 (suc i) at kept;
            settled = λ j. (let a = times_push (Act j Marked) (Claim i) log in let d = times_push (Done j) (Claim i) log in let z = r.settled j in omega arith);
            shelf = shelf_with plan log after s (set s.words i 4294967296) (set s.homes i none) id v w at r.shelf (length-set s.homes i none) (λ x. taken_le x (Claim i) log)
                (λ j h o. dite (ℕ_discrete j i)
                (λ e. subst (λ (z : ℕ). SlotOk content (good plan z) (opening_work plan z) after (total (carries z) views) z (get_elem? (set s.homes i none) z)) (sym e) record {
                  rests = λ z _. absurd (let a = times_push (Claim i) (Claim i) log in let d = times_push (Done i) (Claim i) log in let g = times_push (Fail i) (Claim i) log in omega arith);
                  away = λ _ z. absurd (has z);
                })
                (λ ne. slot_else (good plan j) (opening_work plan j) log (Claim i) (total (carries j) s.views) (total (carries j) views) j (get_elem? s.homes j) (get_elem? (set s.homes i none) j) o ne
                (carry_same s id v w j at (carries_else w j i refl ne ∙ sym (carries_none v j empty))) (set_else s.homes i j none ne)))
                (λ j e. (let same : j ≡ i = omega arith in let h : 0 < count j c = subst (λ (z : ℕ). 0 < count z c) (sym same) (omega arith) in omega arith));
          },
          (
            (λ _. (
              w0,
              refl,
              (
                f.behind.0,
                ap (λ (l : Run). moved v (l ++ Claim i ∷ []) c) f.behind.1,
                mine_more v log c (Claim i) (mine v) own (omega arith),
                subst (λ (p : Terms). IsLegalRun p after) (sym named) (legal_run plan after kept.legal),
              ),
              held,
              (y, refl, lies.2 ∙ content_unacted (opening_work plan i) log i (omega arith) ∙ ap (λ (p : Terms). opening_work p i) (sym named), subst (λ (p : Terms). good p i y) (sym named) lies.3),
            )),
            λ miss. absurd (miss hit),
          ),
        ))
        (λ (miss : n ≢ 0). let g = stays s r id me i named inside at in (moved v log v.sight.claims, keeps, tt, g.0, ((λ hit. absurd (miss hit)), λ _. (refl, g.1))))

    -- ---- the slot goes home empty, and is fetched again

    -- a slot whose action isn't at rest goes home empty
    giving : (slots id : ℕ) (v : View) (i : ℕ) → i < size plan → v.carry ≡ suc i → ((s : St) (r : Holds s) → get_elem? s.views id ≡ some v → times (Claim i) r.log ≡ times (Done i) r.log + times (Fail i) r.log → taken i r.log ≡ 0 → ⊥)
        → Allows Holds slots id (v, (i, Empty) ∷ []) i (λ n. n) (gives_back (step slots i 0 0 none) (v, (i, Empty) ∷ []))
    giving slots id v i inside has busy s r deep at small =
        let k = r.keeps in let log = r.log in let w = carrying 0 v in
        let hs : List (maybe.Option (Slot S)) = set s.homes i (some Empty) in let views : List View = set s.views id w in (
          w,
          gives,
          tt,
          subst (λ (ws : List ℕ). Holds (record { words = ws; homes = hs; views = views })) (sym (set_self s.words i)) record {
            log = log;
            depth = r.depth;
            keeps = recarry plan log r.depth (bare s) k id v 0 at;
            settled = r.settled;
            shelf = shelf_with plan log log s s.words hs id v w at r.shelf (length-set s.homes i (some Empty)) (λ x. omega arith)
                (λ j h o. dite (ℕ_discrete j i)
                (λ same. subst (λ (z : ℕ). SlotOk content (good plan z) (opening_work plan z) log (total (carries z) views) z (get_elem? hs z)) (sym same) record {
                  rests = λ z u. absurd (busy s r at z u);
                  away = λ _ _. set_here s.homes i (some Empty) (subst (λ (z : ℕ). z < length s.homes) same h);
                })
                (λ ne. same_slot (good plan j) (opening_work plan j) log (total (carries j) s.views) (total (carries j) views) j (get_elem? s.homes j) (get_elem? hs j) o
                (carry_same s id v w j at (carries_none w j refl ∙ sym (carries_else v j i has ne))) (set_else s.homes i j (some Empty) ne)))
                (λ j z. absurd (omega arith));
          },
          (refl, refl),
        )

    pub giving_held : (slots id : ℕ) (v : View) (i : ℕ) → i < size plan → v.carry ≡ suc i → IsPending (mine v) i → Allows Holds slots id (v, (i, Empty) ∷ []) i (λ n. n) (gives_back (step slots i 0 0 none) (v, (i, Empty) ∷ []))
    giving_held slots id v i inside has held = giving slots id v i inside has (λ s r at z u.
        let k = r.keeps in let there = held_there plan r.log v i k.legal (k.each_pass id v at).behind held in let c = there.1.0 in let d = there.1.2 in let e = there.1.3 in omega arith)

    pub giving_taken : (slots id : ℕ) (v : View) (i : ℕ) → i < size plan → v.carry ≡ suc i → 0 < taken i (mine v) → Allows Holds slots id (v, (i, Empty) ∷ []) i (λ n. n) (gives_back (step slots i 0 0 none) (v, (i, Empty) ∷ []))
    giving_taken slots id v i inside has out = giving slots id v i inside has (λ s r at z u. let le = taken_mine i r.log v (r.keeps.each_pass id v at).behind in omega arith)

    pub fetching : (slots id : ℕ) (me : Seat S) (i : ℕ) → i < size plan → i < slots → me.0.carry ≡ 0 → IsPending (mine me.0) i → Allows Holds slots id me i (λ n. n) (fetches (step slots i 0 0 none) me)
    fetching slots id me i inside within empty held s r deep at small =
        let v = me.0 in let k = r.keeps in let log = r.log in let f = k.each_pass id v at in let w = carrying (suc i) v in
        let there = held_there plan log v i k.legal f.behind held in let c = there.1.0 in let d = there.1.2 in let e = there.1.3 in
        let hs : List (maybe.Option (Slot S)) = set s.homes i none in let views : List View = set s.views id w in
        let i_there : i < length s.homes = omega arith in
        let lies : get_elem? s.homes i ≡ some (some Empty) = (r.shelf.each_slot i i_there).away (omega arith) (nobody_has plan log r.depth s k r.shelf id v i at empty there.0 there.1.4) in
        let taken : total (carries i) views ≢ 0 = λ z. (let t = total_at (carries i) views id w (set_there s.views id v w at) in let o = carries_one w i refl in absurd (omega arith)) in (
          w,
          takes i Empty,
          lies,
          subst (λ (ws : List ℕ). Holds (record { words = ws; homes = hs; views = views })) (sym (set_self s.words i)) record {
            log = log;
            depth = r.depth;
            keeps = recarry plan log r.depth (bare s) k id v (suc i) at;
            settled = r.settled;
            shelf = shelf_with plan log log s s.words hs id v w at r.shelf (length-set s.homes i none) (λ x. omega arith)
                (λ j h o. dite (ℕ_discrete j i)
                (λ same. subst (λ (z : ℕ). SlotOk content (good plan z) (opening_work plan z) log (total (carries z) views) z (get_elem? hs z)) (sym same) record {
                  rests = λ z _. absurd (omega arith);
                  away = λ _ z. absurd (taken z);
                })
                (λ ne. same_slot (good plan j) (opening_work plan j) log (total (carries j) s.views) (total (carries j) views) j (get_elem? s.homes j) (get_elem? hs j) o
                (carry_same s id v w j at (carries_else w j i refl ne ∙ sym (carries_none v j empty))) (set_else s.homes i j none ne)))
                (λ j z. (let same : j ≡ i = omega arith in let g = subst (λ (x : ℕ). 0 < count x v.sight.claims) (sym same) there.0 in omega arith));
          },
          (refl, refl),
        )

    -- ---- done and fail

    pub doing : (slots id : ℕ) (v : View) (i : ℕ) (y : Slot S) → v.terms ≡ plan → 0 < v.part → v.carry ≡ suc i → IsPending (mine v) i → ((p : ℕ) → IsPieceOf plan.plan i p → Has (mine v) (model.takes p)) → Suits plan (Act i (content y)) → good plan i y
        → Allows Holds slots id (v, (i, y) ∷ []) i (λ n. bit_or n 8589934592) (does content (step slots i 8589934592 0 none) (v, (i, y) ∷ []))
    doing slots id v i y named part has held pieces fits sound_slot s r deep at small =
        let n : ℕ = slice_index s.words i in
        let k = r.keeps in let log = r.log in let f = k.each_pass id v at in let wide = k.wide in let c : List ℕ = v.sight.claims in let left : Work = content y in
        let there = held_there plan log v i k.legal f.behind held in let hw = held_word plan log i k.legal there.1 in
        let is : n ≡ 4294967296 = k.words i (let l = hw.1 in omega arith) ∙ hw.0 in
        let self : bit (eqb i i) ≡ 1 = ap bit (eq-eqb i i refl) in
        let all_taken : (p : ℕ) → IsPieceOf plan.plan i p → 0 < taken p log = λ p piece. (let t = some_tally (model.takes p) (mine v) (pieces p piece) in let u = taken_tally p (mine v) in let le = taken_mine p log v f.behind in omega arith) in
        let mid : Run = log ++ Act i left ∷ [] in let v1 = moved v mid c in let s1 = table (bare s) s.words id v1 in
        let k1 = makes_own plan log r.depth (bare s) k id v (Act i left) s.words at part (there.1.0, there.1.1, there.1.3, all_taken, fits) refl (λ j h. k.words j h ∙ sym (word_act plan log i left j)) there.0 (λ j. refl) in
        let acted : times (Act i Marked) mid ≡ 1 = (let t = times_push (Act i Marked) (Act i left) log in let z = there.1.1 in omega arith) in
        let undone : times (Done i) mid ≡ 0 = (let t = times_push (Done i) (Act i left) log in let z = there.1.2 in omega arith) in
        let last : Run = mid ++ Done i ∷ [] in let v2 = moved v last c in let w = carrying 0 v2 in let ws : List ℕ = set s.words i 12884901888 in
        let number : 12884901888 ≡ word_of plan last i = sym (word_done plan mid i ∙ ap (λ (m : ℕ). m + 8589934592) (word_act plan log i left i ∙ hw.0)) in
        let k2 = makes_own plan mid r.depth s1 k1 id v1 (Done i) ws (set_there s.views id v v1 at) part (acted, undone) (length-set s.words i 12884901888)
        (words_set plan mid s.words i 12884901888 (Done i) k1.words number (λ j ne. word_else-done plan mid i j ne)) there.0 (λ j. refl) in
        let k3 : Keeps plan last r.depth (table (bare s) ws id v2) = subst (λ (views : List View). Keeps plan last r.depth (record { words = ws; homes = []; views = views })) (set-set s.views id v1 v2) k2 in
        let long : last ≡ (v.sight.seen ++ f.behind.0) ++ Act i left ∷ Done i ∷ [] = append_assoc log (Act i left ∷ []) (Done i ∷ []) ∙ ap (λ (l : Run). l ++ Act i left ∷ Done i ∷ []) f.behind.1 in
        let hs : List (maybe.Option (Slot S)) = set s.homes i (some y) in let views : List View = set s.views id w in
        let c1 = there.1.0 in let d1 = there.1.2 in let f1 = there.1.3 in
        let shelf = shelf_with plan log last s ws hs id v w at r.shelf (length-set s.homes i (some y)) (λ x. (let g1 = taken_le x (Act i left) log in let g2 = taken_le x (Done i) mid in omega arith))
        (λ j h o. dite (ℕ_discrete j i)
        (λ same. subst (λ (z : ℕ). SlotOk content (good plan z) (opening_work plan z) last (total (carries z) views) z (get_elem? hs z)) (sym same) record {
          rests = λ _ _. (y, set_here s.homes i (some y) (subst (λ (z : ℕ). z < length s.homes) same h), sym (content_push (opening_work plan i) mid (Done i) i ∙ content_act (opening_work plan i) log i left), sound_slot);
          away = λ z _. absurd (
              let a = times_push (Claim i) (Act i left) log in let b = times_push (Done i) (Act i left) log in let g = times_push (Fail i) (Act i left) log in
              let a2 = times_push (Claim i) (Done i) mid in let b2 = times_push (Done i) (Done i) mid in let g2 = times_push (Fail i) (Done i) mid in omega arith);
        })
        (λ ne. slot_else (good plan j) (opening_work plan j) mid (Done i) (total (carries j) s.views) (total (carries j) views) j (get_elem? s.homes j) (get_elem? hs j)
        (slot_else (good plan j) (opening_work plan j) log (Act i left) (total (carries j) s.views) (total (carries j) s.views) j (get_elem? s.homes j) (get_elem? s.homes j) o ne refl refl) ne
        (carry_same s id v w j at (carries_none w j refl ∙ sym (carries_else v j i has ne))) (set_else s.homes i j (some y) ne)))
        (λ j z. absurd (omega arith)) in (
          w,
          gives,
          tt,
          subst (λ (m : ℕ). Holds (record { words = set s.words i m; homes = hs; views = views })) (sym (ap (λ (m : ℕ). bit_or m 8589934592) is)) record { log = last; depth = r.depth; keeps = recarry_new plan last r.depth (bare s) ws id v v2 0 at k3; shelf = shelf; settled = λ j. (let a = times_push (Act j Marked) (Act i left) log in let d = times_push (Done j) (Act i left) log in let a2 = times_push (Act j Marked) (Done i) mid in let d2 = times_push (Done j) (Done i) mid in let z = r.settled j in omega arith) },
          (
            refl,
            (
              v2,
              refl,
              (
                f.behind.0,
                ap (λ (l : Run). moved v l c) long,
                mine_more v mid c (Done i) (mine v ++ Act i left ∷ []) (mine_more v log c (Act i left) (mine v) (mine_seen log v f.behind) there.0) there.0 ∙ append_assoc (mine v) (Act i left ∷ []) (Done i ∷ []),
                subst (λ (p : Terms). IsLegalRun p last) (sym named) (legal_run plan last k3.legal),
              ),
            ),
          ),
        )

    -- one step of the pass that claimed the action, at which the word of k becomes m
    own_step : (s : St) (r : Holds s) (id : ℕ) (v : View) (x : Step) (k m : ℕ) → v.terms ≡ plan → get_elem? s.views id ≡ some v → 0 < v.part → 0 < count (actor x) v.sight.claims → ((i : ℕ) → bit (same (Claim i) x) ≡ 0)
        → Allowed plan r.log x → m ≡ word_of plan (r.log ++ x ∷ []) k → ((j : ℕ) → j ≢ k → word_of plan (r.log ++ x ∷ []) j ≡ word_of plan r.log j)
        → Keeps plan (r.log ++ x ∷ []) r.depth (table (bare s) (set s.words k m) id (moved v (r.log ++ x ∷ []) v.sight.claims)) × Makes v (x ∷ []) v.sight.claims (moved v (r.log ++ x ∷ []) v.sight.claims)
    own_step s r id v x k m named at part own plain al here else =
        let q = r.keeps in let log = r.log in let f = q.each_pass id v at in let c : List ℕ = v.sight.claims in
        let kept = makes_own plan log r.depth (bare s) q id v x (set s.words k m) at part al (length-set s.words k m) (words_set plan log s.words k m x q.words here else) own plain in (
          kept,
          (
            f.behind.0,
            ap (λ (l : Run). moved v (l ++ x ∷ []) c) f.behind.1,
            mine_more v log c x (mine v) (mine_seen log v f.behind) own,
            subst (λ (p : Terms). IsLegalRun p (log ++ x ∷ [])) (sym named) (legal_run plan (log ++ x ∷ []) kept.legal),
          ),
        )

    pub failing : (slots id : ℕ) (v : View) (i : ℕ) (y : Slot S) → v.terms ≡ plan → 0 < v.part → v.carry ≡ suc i → IsPending (mine v) i → content y ≡ opening_work v.terms i → good plan i y
        → Allows Holds slots id (v, (i, y) ∷ []) i (λ n. bit_or n 17179869184) (fails (step slots i 17179869184 0 none) (v, (i, y) ∷ []))
    failing slots id v i y named part has held unchanged sound_slot s r deep at small =
        let n : ℕ = slice_index s.words i in
        let k = r.keeps in let log = r.log in let f = k.each_pass id v at in let wide = k.wide in
        let there = held_there plan log v i k.legal f.behind held in let hw = held_word plan log i k.legal there.1 in
        let is : n ≡ 4294967296 = k.words i (let l = hw.1 in omega arith) ∙ hw.0 in
        let after : Run = log ++ Fail i ∷ [] in let self : bit (eqb i i) ≡ 1 = ap bit (eq-eqb i i refl) in
        let number : 21474836480 ≡ word_of plan after i = sym (word_fail plan log i ∙ ap (λ (m : ℕ). m + 17179869184) hw.0) in
        let g = own_step s r id v (Fail i) i 21474836480 named at part there.0 (λ j. refl) (there.1.0, there.1.1, there.1.3) number (λ j ne. word_else-fail plan log i j ne) in
        let w0 = moved v after v.sight.claims in let w = carrying 0 w0 in let ws : List ℕ = set s.words i 21474836480 in
        let hs : List (maybe.Option (Slot S)) = set s.homes i (some y) in let views : List View = set s.views id w in
        let c1 = there.1.0 in let d1 = there.1.2 in let f1 = there.1.3 in
        let shelf = shelf_with plan log after s ws hs id v w at r.shelf (length-set s.homes i (some y)) (λ x. taken_le x (Fail i) log)
        (λ j h o. dite (ℕ_discrete j i)
        (λ same. subst (λ (z : ℕ). SlotOk content (good plan z) (opening_work plan z) after (total (carries z) views) z (get_elem? hs z)) (sym same) record {
          rests = λ _ _. (
            y,
            set_here s.homes i (some y) (subst (λ (z : ℕ). z < length s.homes) same h),
            unchanged ∙ ap (λ (p : Terms). opening_work p i) named ∙ sym (content_push (opening_work plan i) log (Fail i) i ∙ content_unacted (opening_work plan i) log i there.1.1),
            sound_slot,
          );
          away = λ z _. absurd (let a = times_push (Claim i) (Fail i) log in let b = times_push (Done i) (Fail i) log in let e = times_push (Fail i) (Fail i) log in omega arith);
        })
        (λ ne. slot_else (good plan j) (opening_work plan j) log (Fail i) (total (carries j) s.views) (total (carries j) views) j (get_elem? s.homes j) (get_elem? hs j) o ne
        (carry_same s id v w j at (carries_none w j refl ∙ sym (carries_else v j i has ne))) (set_else s.homes i j (some y) ne)))
        (λ j z. absurd (omega arith)) in (
          w,
          gives,
          tt,
          subst (λ (m : ℕ). Holds (record { words = set s.words i m; homes = hs; views = views })) (sym (ap (λ (m : ℕ). bit_or m 17179869184) is)) record { log = after; depth = r.depth; keeps = recarry_new plan after r.depth (bare s) ws id v w0 0 at g.0; shelf = shelf; settled = λ j. (let a = times_push (Act j Marked) (Fail i) log in let d = times_push (Done j) (Fail i) log in let z = r.settled j in omega arith) },
          (refl, (w0, refl, g.1)),
        )

    -- ---- a release

    pub releasing : (slots id : ℕ) (me : Seat S) (i j : ℕ) → me.0.terms ≡ plan → j < size plan → 0 < me.0.part → WordsAllow plan.plan (mine me.0) (Release i j)
        → Allows Holds slots id me j (λ n. (n + (2 ^ 64 - 1)) % 2 ^ 64) (releases i (step slots j 1 0 none) me)
    releasing slots id me i j named inside part may s r deep at small =
        let n : ℕ = slice_index s.words j in
        let v = me.0 in let k = r.keeps in let log = r.log in let f = k.each_pass id v at in let wide = k.wide in
        let m0 = some_tally (model.finishes i) (mine v) may.0 in let m1 = finishes_tally i (mine v) in
        let m2 = no_tally (model.releases i j) (mine v) may.2 in let m3 = releases_tally i j (mine v) in
        let own : 0 < count i v.sight.claims = has_claimed v (Done i) (omega arith) in
        let qi = sound plan log k.legal i in let i0 = qi.once in let i1 = qi.acts in let i2 = qi.dones in
        let k0 = known log v (Done i) f.behind own in let k1 = known log v (Release i j) f.behind own in
        let al : Allowed plan log (Release i j) = (omega arith, waits_once plan.plan k.orderly i j may.1, omega arith) in
        let after : Run = log ++ Release i j ∷ [] in
        let less = word_release plan log i j al.1 al.2 in
        let fewer = open_less (preds plan.plan j) log i j al.1 al.2 in
        let is : n ≡ word_of plan log j = k.words j (omega arith) in
        let down : (n + (18446744073709551616 - 1)) % 18446744073709551616 ≡ word_of plan after j = less_one n (word_of plan after j) (less ∙ sym is) small in
        let q = sound plan log k.legal j in
        let idle : times (Claim j) log ≡ 0 = dite (ℕ_discrete (times (Claim j) log) 0) (λ z. z) (λ ne. absurd (let o = q.no_open (omega arith) in omega arith)) in
        let found : n ≡ open_of (preds plan.plan j) after j + 1 = (let a = q.acts in let d = q.dones in let e = q.emptied in omega arith) in
        let g = own_step s r id v (Release i j) j (word_of plan after j) named at part own (λ m. refl) al refl (λ m ne. word_else-release plan log i j m ne) in
        let w = moved v after v.sight.claims in
        let counted : (x : ℕ) → times (Claim x) after ≡ times (Claim x) log = λ x. (let t = times_push (Claim x) (Release i j) log in omega arith) in
        let ended : (x : ℕ) → times (Done x) after ≡ times (Done x) log = λ x. (let t = times_push (Done x) (Release i j) log in omega arith) in
        let failed : (x : ℕ) → times (Fail x) after ≡ times (Fail x) log = λ x. (let t = times_push (Fail x) (Release i j) log in omega arith) in
        let shelf = shelf_with plan log after s (set s.words j (word_of plan after j)) s.homes id v w at r.shelf refl (λ x. taken_le x (Release i j) log)
        (λ x h o. slot_still (good plan x) (opening_work plan x) log after (total (carries x) s.views) (total (carries x) (set s.views id w)) x (get_elem? s.homes x) (get_elem? s.homes x) o (counted x) (ended x) (failed x) (taken_le x (Release i j) log)
        (content_push (opening_work plan x) log (Release i j) x) (carry_same s id v w x at refl) refl)
        (λ x z. (let h = r.shelf.each_carry id v at x z in let le = taken_le x (Release i j) log in omega arith)) in
        let told : n ≡ open_count plan.plan after j + 1 = (let o = open_same plan after g.0.legal j in omega arith) in (
          w,
          keeps,
          tt,
          subst (λ (m : ℕ). Holds (record { words = set s.words j m; homes = s.homes; views = set s.views id w })) (sym down) record { log = after; depth = r.depth; keeps = g.0; shelf = shelf; settled = λ x. (let a = times_push (Act x Marked) (Release i j) log in let d = times_push (Done x) (Release i j) log in let z = r.settled x in omega arith) },
          (refl, g.1, subst (λ (p : Terms). n ≡ open_count p.plan after j + 1) (sym named) told),
        )

    -- ---- a take

    pub taking : (slots id : ℕ) (me : Seat S) (c k : ℕ) → me.0.terms ≡ plan → k < slots → 0 < me.0.part → me.0.carry ≡ 0 → Has (mine me.0) (model.claims c) → IsPieceOf plan.plan c k → HasNot (mine me.0) (model.takes k)
        → Allows Holds slots id me k (λ n. bit_or n 34359738368) (takes_out content c (step slots k 34359738368 0 none) me)
    taking slots id me c k named within part empty has piece untaken s r deep at small =
        let n : ℕ = slice_index s.words k in
        let v = me.0 in let kp = r.keeps in let log = r.log in let f = kp.each_pass id v at in let wide = kp.wide in
        let m0 = some_tally (model.claims c) (mine v) has in let m1 = claims_tally c (mine v) in
        let own : 0 < count c v.sight.claims = has_claimed v (Claim c) (omega arith) in
        let k0 = known log v (Claim c) f.behind own in let k1 = known log v (Take c k) f.behind own in
        let qc = sound plan log kp.legal c in let qk = sound plan log kp.legal k in
        let once = waits_once plan.plan kp.orderly k c (kp.orderly.waits c k piece) in
        let freed = closed_released (preds plan.plan c) log c k (qc.no_open (omega arith)) (omega arith) in
        let after_done = qk.freed c in let done : 0 < times (Done k) log = omega arith in
        let q0 = qk.once in let q1 = qk.acts in let q2 = qk.dones in let q3 = qk.no_open (omega arith) in let inside = qk.inside (omega arith) in
        let u0 = taken_by plan kp.orderly log kp.legal c k piece in let u1 = times_taken c k (mine v) in let u2 = no_tally (model.takes k) (mine v) untaken in let u3 = taken_tally k (mine v) in
        let fresh : taken k log ≡ 0 = omega arith in
        let al : Allowed plan log (Take c k) = (omega arith, piece, done, fresh) in
        let before : word_of plan log k ≡ 12884901888 = omega arith in
        let is : n ≡ 12884901888 = kp.words k (omega arith) ∙ before in
        let after : Run = log ++ Take c k ∷ [] in let self : bit (eqb k k) ≡ 1 = ap bit (eq-eqb k k refl) in
        let number : 47244640256 ≡ word_of plan after k = sym (word_take plan log c k ∙ ap (λ (m : ℕ). m + 34359738368) before) in
        let g = own_step s r id v (Take c k) k 47244640256 named at part own (λ j. refl) al number (λ j ne. word_else-take plan log c k j ne) in
        let w0 = moved v after v.sight.claims in let w = carrying (suc k) w0 in let ws : List ℕ = set s.words k 47244640256 in
        let hs : List (maybe.Option (Slot S)) = set s.homes k none in let views : List View = set s.views id w in
        let k_there : k < length s.homes = omega arith in
        let lies = (r.shelf.each_slot k k_there).rests (omega arith) fresh in let y : Slot S = lies.0 in
        let left = piece_left plan log kp.legal (opening_work plan k) c k piece done in
        let out : 0 < taken k after = (let t = taken_push k (Take c k) log in omega arith) in
        let counted : (x : ℕ) → times (Claim x) after ≡ times (Claim x) log = λ x. (let t = times_push (Claim x) (Take c k) log in omega arith) in
        let ended : (x : ℕ) → times (Done x) after ≡ times (Done x) log = λ x. (let t = times_push (Done x) (Take c k) log in omega arith) in
        let failed : (x : ℕ) → times (Fail x) after ≡ times (Fail x) log = λ x. (let t = times_push (Fail x) (Take c k) log in omega arith) in
        let shelf = shelf_with plan log after s ws hs id v w at r.shelf (length-set s.homes k none) (λ x. taken_le x (Take c k) log)
        (λ j h o. dite (ℕ_discrete j k)
        (λ same. subst (λ (z : ℕ). SlotOk content (good plan z) (opening_work plan z) after (total (carries z) views) z (get_elem? hs z)) (sym same) record {
          rests = λ _ u. absurd (omega arith);
          away = λ z _. absurd (let a = counted k in let b = ended k in let e = failed k in omega arith);
        })
        (λ ne. slot_still (good plan j) (opening_work plan j) log after (total (carries j) s.views) (total (carries j) views) j (get_elem? s.homes j) (get_elem? hs j) o (counted j) (ended j) (failed j) (taken_le j (Take c k) log)
        (content_push (opening_work plan j) log (Take c k) j) (carry_same s id v w j at (carries_else w j k refl ne ∙ sym (carries_none v j empty))) (set_else s.homes k j none ne)))
        (λ j e. (let same : j ≡ k = omega arith in let h : 0 < taken j after = subst (λ (z : ℕ). 0 < taken z after) (sym same) out in omega arith)) in (
          w,
          takes k y,
          lies.1,
          subst (λ (m : ℕ). Holds (record { words = set s.words k m; homes = hs; views = views })) (sym (ap (λ (m : ℕ). bit_or m 34359738368) is)) record { log = after; depth = r.depth; keeps = recarry_new plan after r.depth (bare s) ws id v w0 (suc k) at g.0; shelf = shelf; settled = λ j. (let a = times_push (Act j Marked) (Take c k) log in let d = times_push (Done j) (Take c k) log in let z = r.settled j in omega arith) },
          (w0, refl, g.1, (y, left.0, refl, lies.2 ∙ left.2, Contains-from_Among after (Act k (Staged left.0)) (Among-left (Act k (Staged left.0)) log (Take c k ∷ []) left.1))),
        )
