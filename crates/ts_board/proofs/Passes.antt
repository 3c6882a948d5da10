-- Passes are cut and joined, and the board is opened and closed.
use Rattle.std.proofs.Common.{◌≡◌, ◌≢◌, ◌⊎◌, ℕ, zero, suc, ◌+◌, ◌-◌, ◌*◌, ◌^◌, ◌<◌, ◌≤◌, Bool, true, false, cond, eqb, leb, List, [], ◌∷◌, ◌++◌, map, length, set, sym, refl, ap, ◌∙◌, subst, inl, inr, ⊎_elim, arith, append-nil, mul_assoc, mul_comm, add-mul, mul-add, suc-mul, zero-mul, pow-add, pow_pos, leb-true, leb-false, ◌==◌, eqb-true, eq-eqb, length-append}
use Rattle.std.proofs.lemmas.Bool.{false≢true}
use Rattle.std.specs.Prelude.{slice_index, slice_index_or, slice_get, Option, Some, None}
use mathlib.Core.Logic.{dite}
use native.Mathlib.Decide.{ℕ_discrete}
use mathlib.Core.Option.{none, some, some-injective, some-ne-none}
use lib.ListN.{get_elem?}
use Rattle.atomic_table.specs.Table.{step, keeps, Allows, Splits, Joins, opening, Final, Seen}
use Rattle.atomic_table.proofs.Lists.{at_snoc, set_else, set_again}
use Rattle.ts_model.specs.Runs as model
use Rattle.ts_model.specs.Runs.{Run, Has}
use Rattle.ts_model.specs.Trees.{Listing}
use Rattle.ts_model.specs.declared.plan.Action.{Action}
use Rattle.ts_model.specs.declared.step.Step.{Step}
use Rattle.ts_model.specs.declared.step.Step.TheVariants.{Claim, Act, Done, Fail}
use Rattle.ts_model.specs.declared.step.Work.{Work}
use Rattle.ts_model.specs.declared.step.Work.TheVariants.{Marked}
use Rattle.ts_laws.proofs.Lists.{Among-from_Contains}
use Rattle.ts_board.specs.declared.law.Terms.{Terms}
use Rattle.ts_board.specs.declared.law.Slot.{Slot}
use Rattle.ts_board.specs.declared.law.Slot.TheVariants.{Empty, Place, Committed, Bytes}
use Rattle.ts_board.specs.declared.law.Sight.{Sight}
use Rattle.ts_board.specs.declared.law.View.{View}
use Rattle.ts_board.specs.Terms.{IsOrderly, preds, opening_work, opening_words, first_words, IsUntouched, IsToldIn, told_in, work_in}
use Rattle.ts_board.specs.Runs.{actor, bit, times, taken, count, size, keep, steps_by, IsLegal, work_after}
use Rattle.ts_board.specs.Kept.{newcomer, total, claimed, share, Behind, Fits, Keeps, Kept, mine, Seat, carries, bare, longer, nobody, first_half, second_half, joined, Met, meets, IsMerged, IsWhole, EndsAt, SitedEnds, Rests}
use Rattle.ts_board.proofs.Runs.{by_actor, sound, word_start, steps_by-append, steps_by-nobody, content_unacted}
use Rattle.ts_board.proofs.Totals.{total_set, total_at, total_two, total_push}
use Rattle.ts_board.proofs.Model.{legal_run, word_same, claims_tally, acts_tally, finishes_tally, fails_tally, taken_tally, some_tally, no_tally, has_from, act_left}
use Rattle.ts_board.proofs.Steps.{Board, set_self, behind_nothing, each_set, same_slot, carry_same, carries_none}

-- ---- parts

product : (p q d : ℕ) → p * (q * d) ≡ d * (p * q)
product p q d = sym (mul_assoc p q d) ∙ mul_comm (p * q) d

pub share_scale : (depth d : ℕ) (v : View) → v.cut ≤ depth → share (depth + d) v ≡ 2 ^ d * share depth v
share_scale depth d v h =
    let e : depth + d - v.cut ≡ (depth - v.cut) + d = omega arith in
    ap (λ (k : ℕ). v.part * 2 ^ k) e ∙ ap (λ (k : ℕ). v.part * k) (pow-add 2 (depth - v.cut) d) ∙ product v.part (2 ^ (depth - v.cut)) (2 ^ d)

pub total_scale : (depth d : ℕ) (views : List View) → ((j : ℕ) (u : View) → get_elem? views j ≡ some u → u.cut ≤ depth) → total (share (depth + d)) views ≡ 2 ^ d * total (share depth) views
total_scale depth d [] h = sym (mul_comm (2 ^ d) 0 ∙ zero-mul (2 ^ d))
total_scale depth d (u ∷ us) h =
    (λ k. share_scale depth d u (h zero u refl) k + total_scale depth d us (λ j w at. h (suc j) w at) k) ∙ sym (mul-add (2 ^ d) (share depth u) (total (share depth) us))

fits_deeper : (depth d : ℕ) (log : Run) (v : View) → Fits depth log v → Fits (depth + d) log v
fits_deeper depth d log v f = record { behind = f.behind; left = f.left; right = f.right; within = f.within; idle = f.idle; deep = (let h = f.deep in omega arith) }

-- ---- a cut

pub cuts : {S : Type 0} (content : Slot S → Work) (good : Terms → ℕ → Slot S → Type 0) (plan : Terms) (id : ℕ) (v : View) → v.carry ≡ 0 → Splits (Kept content good plan) id v (first_half v) (second_half v)
cuts content good plan id v empty s r at =
    let k = r.keeps in let log = r.log in let depth = r.depth in let f = k.each_pass id v at in
    let one = first_half v in let two = second_half v in
    let deep = f.deep in
    let P : View → Type 0 = Fits (depth + 1) log in
    let fits_one : P one = record { behind = f.behind; left = behind_nothing log; right = behind_nothing log; within = λ i. omega arith; idle = f.idle; deep = omega arith } in
    let fits_two : P two = record { behind = (f.behind.0, f.behind.1, steps_by-nobody f.behind.0); left = behind_nothing log; right = behind_nothing log; within = λ i. omega arith; idle = λ _ i. refl; deep = omega arith } in
    let each : (j : ℕ) (u : View) → get_elem? (set s.views id one) j ≡ some u → P u = each_set P s.views id one fits_one (λ j u ne to. fits_deeper depth 1 log u (k.each_pass j u to)) in
    let e : depth + 1 - (v.cut + 1) ≡ depth - v.cut = omega arith in
    let half : share (depth + 1) one ≡ share depth v = ap (λ (n : ℕ). v.part * 2 ^ n) e in
    let all : total (share (depth + 1)) s.views ≡ 2 ^ 1 * total (share depth) s.views = total_scale depth 1 s.views (λ j u to. (k.each_pass j u to).deep) in
    let old : share (depth + 1) v ≡ 2 ^ 1 * share depth v = share_scale depth 1 v deep in
    let up : 2 ^ (depth + 1) ≡ 2 ^ depth * 2 ^ 1 = pow-add 2 depth 1 in
    record {
      log = log;
      settled = r.settled;
      depth = depth + 1;
      keeps = record {
        orderly = k.orderly;
        legal = k.legal;
        words = k.words;
        wide = k.wide;
        each_pass = λ j u to. ⊎_elim (λ (t : get_elem? (set s.views id one) j ≡ some u). each j u t) (λ (t : two ≡ u). subst P t fits_two) (at_snoc (set s.views id one) two u j to);
        each_claim = λ i. (let t = total_set (claimed i) s.views id v one at in let p = total_push (claimed i) (set s.views id one) two in let c = k.each_claim i in omega arith);
        whole = (let t = total_set (share (depth + 1)) s.views id v one at in let p = total_push (share (depth + 1)) (set s.views id one) two in let c = k.whole in omega arith);
      };
      shelf = record {
        each_slot = λ i h. same_slot content good (good plan i) (opening_work plan i) log (total (carries i) s.views) (total (carries i) (set s.views id one ++ two ∷ [])) i (get_elem? s.homes i) (get_elem? s.homes i) (r.shelf.each_slot i h)
            (total_push (carries i) (set s.views id one) two ∙ (let c = carry_same content good s id v one i at (carries_none content good one i refl ∙ sym (carries_none content good v i empty)) in let z = carries_none content good two i refl in omega arith)) refl;
        each_carry = λ j u to. ⊎_elim
            (λ (t : get_elem? (set s.views id one) j ≡ some u). each_set (λ (x : View). (i : ℕ) → x.carry ≡ suc i → 0 < count i x.sight.claims + taken i log) s.views id one (λ i z. absurd (omega arith)) (λ k w ne on. r.shelf.each_carry k w on) j u t)
            (λ (t : two ≡ u). subst (λ (x : View). (i : ℕ) → x.carry ≡ suc i → 0 < count i x.sight.claims + taken i log) t (λ i z. absurd (omega arith)))
            (at_snoc (set s.views id one) two u j to);
        deep = r.shelf.deep;
      };
    }

-- ---- lists

-- of two beginnings of one list the shorter begins the longer
overlap : (a b c d : Run) → a ++ b ≡ c ++ d → length a ≤ length c → (m : Run) × (c ≡ a ++ m) × (b ≡ m ++ d)
overlap [] b c d e h = (c, refl, e)
overlap (x ∷ a) b [] d e h = absurd (omega arith)
overlap (x ∷ a) b (y ∷ c) d e h =
    let heads : x ≡ y = cc in
    let tails : a ++ b ≡ c ++ d = cc in
    let t = overlap a b c d tails (omega arith) in
    (t.0, (λ k. sym heads k ∷ t.1 k), t.2)

nil_left : (xs ys : Run) → xs ++ ys ≡ [] → xs ≡ []
nil_left [] ys e = refl
nil_left (x ∷ xs) ys e = absurd (cc)

nil_right : (xs ys : Run) → xs ++ ys ≡ [] → ys ≡ []
nil_right [] ys e = e
nil_right (x ∷ xs) ys e = absurd (cc)

pub count_append : (i : ℕ) (a b : List ℕ) → count i (a ++ b) ≡ count i a + count i b
count_append i [] b = omega arith
count_append i (x ∷ a) b = omega (arith, count_append i a b)

keep_nil : (n : ℕ) (x : Step) (xs : Run) → keep n x xs ≡ [] → (n ≡ 0) × (xs ≡ [])
keep_nil zero x xs e = (refl, e)
keep_nil (suc n) x xs e = absurd (cc)

steps_by-both : (a b : List ℕ) (xs : Run) → steps_by a xs ≡ [] → steps_by b xs ≡ [] → steps_by (a ++ b) xs ≡ []
steps_by-both a b [] p q = refl
steps_by-both a b (x ∷ xs) p q =
    let l = keep_nil (count (actor x) a) x (steps_by a xs) p in let r = keep_nil (count (actor x) b) x (steps_by b xs) q in
    let z : count (actor x) (a ++ b) ≡ 0 = (let u = l.0 in let w = r.0 in omega (arith, count_append (actor x) a b)) in
    ap (λ (n : ℕ). keep n x (steps_by (a ++ b) xs)) z ∙ steps_by-both a b xs l.1 r.1

-- a beginning that is longer than what a pass has seen
behind_longer : (log rest : Run) (s : Sight) (seen : Run) → Behind log s → log ≡ seen ++ rest → length s.seen ≤ length seen → Behind seen s × (steps_by s.claims rest ≡ [])
behind_longer log rest s seen b e h =
    let o = overlap s.seen b.0 seen rest (sym b.1 ∙ e) h in
    let parts : steps_by s.claims o.0 ++ steps_by s.claims rest ≡ [] = sym (steps_by-append s.claims o.0 rest) ∙ sym (ap (steps_by s.claims) o.2) ∙ b.2 in
    ((o.0, o.1, nil_left (steps_by s.claims o.0) (steps_by s.claims rest) parts), nil_right (steps_by s.claims o.0) (steps_by s.claims rest) parts)

-- ---- a join

pub longer_left : (xs ys : Run) → length xs ≤ length (longer xs ys)
longer_left xs ys = by (leb (length xs) (length ys)) refl
  where
    by : (b : Bool) → leb (length xs) (length ys) ≡ b → length xs ≤ length (cond b ys xs)
    by true e = leb-true (length xs) (length ys) e
    by false e = omega arith

pub longer_right : (xs ys : Run) → length ys ≤ length (longer xs ys)
longer_right xs ys = by (leb (length xs) (length ys)) refl
  where
    by : (b : Bool) → leb (length xs) (length ys) ≡ b → length ys ≤ length (cond b ys xs)
    by true e = omega arith
    by false e = (let h = leb-false (length xs) (length ys) e in omega arith)

pub longer_one : (xs ys : Run) → (longer xs ys ≡ xs) ⊎ (longer xs ys ≡ ys)
longer_one xs ys = by (leb (length xs) (length ys))
  where
    by : (b : Bool) → (cond b ys xs ≡ xs) ⊎ (cond b ys xs ≡ ys)
    by true = inr refl
    by false = inl refl

behind_joined : (log : Run) (v w : View) → Behind log v.sight → Behind log w.sight → Behind log (joined v w).sight
behind_joined log v w b c =
    let seen : Run = longer v.sight.seen w.sight.seen in
    let rest : (rest : Run) × (log ≡ seen ++ rest) = ⊎_elim
    (λ (t : seen ≡ v.sight.seen). (b.0, b.1 ∙ ap (λ (l : Run). l ++ b.0) (sym t)))
    (λ (t : seen ≡ w.sight.seen). (c.0, c.1 ∙ ap (λ (l : Run). l ++ c.0) (sym t)))
    (longer_one v.sight.seen w.sight.seen) in (
      rest.0,
      rest.1,
      steps_by-both v.sight.claims w.sight.claims rest.0
          (behind_longer log rest.0 v.sight seen b rest.1 (longer_left v.sight.seen w.sight.seen)).1
          (behind_longer log rest.0 w.sight seen c rest.1 (longer_right v.sight.seen w.sight.seen)).1,
    )

no_product : (p k : ℕ) → p * 2 ^ k ≡ 0 → p ≡ 0
no_product zero k e = refl
no_product (suc p) k e = absurd (let h = pow_pos k in let q = suc-mul p (2 ^ k) in omega arith)

-- the parts of two passes, put together
joined_share : (a b c d n : ℕ) → (a * 2 ^ d + b * 2 ^ c) * 2 ^ n ≡ a * 2 ^ (d + n) + b * 2 ^ (c + n)
joined_share a b c d n =
    add-mul (a * 2 ^ d) (b * 2 ^ c) (2 ^ n)
    ∙ (λ k. mul_assoc a (2 ^ d) (2 ^ n) k + mul_assoc b (2 ^ c) (2 ^ n) k)
    ∙ (λ k. a * sym (pow-add 2 d n) k + b * sym (pow-add 2 c n) k)

pub joins : {S : Type 0} (content : Slot S → Work) (good : Terms → ℕ → Slot S → Type 0) (plan : Terms) (id : ℕ) (v : View) (other : ℕ) (w : View) → v.carry ≡ 0 → w.carry ≡ 0 → Joins (Kept content good plan) id v other w (joined v w) nobody
joins content good plan id v other w empty empty' s r at apart to =
    let k = r.keeps in let log = r.log in let depth = r.depth in let d : ℕ = v.cut + w.cut in
    let both = joined v w in
    let views1 : List View = set s.views id both in
    let there : get_elem? s.views other ≡ some w = sym (set_else s.views id other both apart) ∙ to in
    let f = k.each_pass id v at in let g = k.each_pass other w there in
    let P : View → Type 0 = Fits (depth + d) log in
    let fits_both : P both = record {
      behind = behind_joined log v w f.behind g.behind;
      left = f.behind;
      right = g.behind;
      within = λ i. omega (arith, count_append i v.sight.claims w.sight.claims);
      idle = λ z i. (
          let x : v.part ≡ 0 = no_product v.part w.cut (omega arith) in
          let y : w.part ≡ 0 = no_product w.part v.cut (omega arith) in
          let p = f.idle x i in let q = g.idle y i in omega (arith, count_append i v.sight.claims w.sight.claims));
      deep = omega arith;
    } in
    let fits_nobody : P nobody = record { behind = behind_nothing log; left = behind_nothing log; right = behind_nothing log; within = λ i. omega arith; idle = λ _ i. refl; deep = omega arith } in
    let each : (j : ℕ) (u : View) → get_elem? views1 j ≡ some u → P u = each_set P s.views id both fits_both (λ j u ne on. fits_deeper depth d log u (k.each_pass j u on)) in
    let F : View → ℕ = share (depth + d) in
    let e0 : depth + d - d ≡ depth = omega arith in
    let e1 : depth + d - v.cut ≡ w.cut + depth = omega arith in
    let e2 : depth + d - w.cut ≡ v.cut + depth = omega arith in
    let sum : F both ≡ F v + F w =
    ap (λ (n : ℕ). (v.part * 2 ^ w.cut + w.part * 2 ^ v.cut) * 2 ^ n) e0 ∙ joined_share v.part w.part v.cut w.cut depth ∙ (λ i. v.part * 2 ^ (sym e1 i) + w.part * 2 ^ (sym e2 i)) in
    let gone : F nobody ≡ 0 = zero-mul (2 ^ (depth + d - 0)) in
    let all : total F s.views ≡ 2 ^ (depth + d) =
    total_scale depth d s.views (λ j u on. (k.each_pass j u on).deep) ∙ ap (λ (n : ℕ). 2 ^ d * n) k.whole ∙ mul_comm (2 ^ d) (2 ^ depth) ∙ sym (pow-add 2 depth d) in
    record {
      log = log;
      settled = r.settled;
      depth = depth + d;
      keeps = record {
        orderly = k.orderly;
        legal = k.legal;
        words = k.words;
        wide = k.wide;
        each_pass = each_set P views1 other nobody fits_nobody (λ j u ne on. each j u on);
        each_claim = λ i. (
            let t = total_set (claimed i) s.views id v both at in let u = total_set (claimed i) views1 other w nobody to in let c = k.each_claim i in
            omega (arith, count_append i v.sight.claims w.sight.claims));
        whole = (let t = total_set F s.views id v both at in let u = total_set F views1 other w nobody to in omega arith);
      };
      shelf = record {
        each_slot = λ i h. same_slot content good (good plan i) (opening_work plan i) log (total (carries i) s.views) (total (carries i) (set views1 other nobody)) i (get_elem? s.homes i) (get_elem? s.homes i) (r.shelf.each_slot i h)
            (let t = total_set (carries i) s.views id v both at in let u = total_set (carries i) views1 other w nobody to in
            let a = carries_none content good v i empty in let b = carries_none content good w i empty' in let c = carries_none content good both i refl in let d = carries_none content good nobody i refl in omega arith) refl;
        each_carry = each_set (λ (x : View). (i : ℕ) → x.carry ≡ suc i → 0 < count i x.sight.claims + taken i log) views1 other nobody (λ i z. absurd (omega arith))
            (λ k x ne on. each_set (λ (y : View). (i : ℕ) → y.carry ≡ suc i → 0 < count i y.sight.claims + taken i log) s.views id both (λ i z. absurd (omega arith)) (λ k' x' ne' on'. r.shelf.each_carry k' x' on') k x on);
        deep = r.shelf.deep;
      };
    }

pub meeting : {S : Type 0} (content : Slot S → Work) (good : Terms → ℕ → Slot S → Type 0) (plan : Terms) (slots id : ℕ) (me : Seat S) (i : ℕ) → length me.0.left.seen ≤ length me.0.sight.seen → length me.0.right.seen ≤ length me.0.sight.seen → Allows (Kept content good plan) slots id me i (λ n. n) (meets (step slots i 0 0 none) me)
meeting content good plan slots id me i one two s r deep at small =
    let v = me.0 in let k = r.keeps in let f = k.each_pass id v at in
    let b = f.behind in (
      v,
      keeps,
      tt,
      subst (λ (t : List ℕ × List View). Kept content good plan (record { words = t.0; homes = s.homes; views = t.1 })) (λ j. (sym (set_self s.words i) j, sym (set_again s.views id v at) j)) r,
      (
        refl,
        (
          (behind_longer r.log b.0 v.left v.sight.seen f.left b.1 one).0,
          (behind_longer r.log b.0 v.right v.sight.seen f.right b.1 two).0,
          λ j. (let t = total_at (claimed j) s.views id v at in let c = k.each_claim j in let o = (sound plan r.log k.legal j).once in omega arith),
        ),
      ),
    )

-- ---- whose the steps are then

steps_behind : (seen : Run) (s : Sight) → Behind seen s → steps_by s.claims seen ≡ steps_by s.claims s.seen
steps_behind seen s b = ap (steps_by s.claims) b.1 ∙ steps_by-append s.claims s.seen b.0 ∙ (λ k. steps_by s.claims s.seen ++ b.2 k) ∙ append-nil (steps_by s.claims s.seen)

-- the steps of actions of which none is of both lists
merged : (a b : List ℕ) (xs : Run) → ((i : ℕ) → count i a + count i b ≤ 1) → IsMerged (steps_by a xs) (steps_by b xs) (steps_by (a ++ b) xs)
merged a b [] few = (refl, refl)
merged a b (x ∷ xs) few = go (count (actor x) a) (count (actor x) b) (count (actor x) (a ++ b)) (few (actor x)) (count_append (actor x) a b) (merged a b xs few)
  where
    go : (p q n : ℕ) → p + q ≤ 1 → n ≡ p + q → IsMerged (steps_by a xs) (steps_by b xs) (steps_by (a ++ b) xs) → IsMerged (keep p x (steps_by a xs)) (keep q x (steps_by b xs)) (keep n x (steps_by (a ++ b) xs))
    go zero zero zero h e m = m
    go zero zero (suc n) h e m = absurd (omega arith)
    go (suc p) zero zero h e m = absurd (omega arith)
    go (suc p) zero (suc n) h e m = inl (steps_by a xs, refl, m)
    go zero (suc q) zero h e m = absurd (omega arith)
    go zero (suc q) (suc n) h e m = inr (steps_by b xs, refl, m)
    go (suc p) (suc q) n h e m = absurd (omega arith)

pub of_both : (v w : View) → Met (joined v w) → IsMerged (mine v) (mine w) (mine (joined v w))
of_both v w m =
    let seen : Run = longer v.sight.seen w.sight.seen in let a : List ℕ = v.sight.claims in let b : List ℕ = w.sight.claims in
    subst (λ (t : Run × Run). IsMerged t.0 t.1 (steps_by (a ++ b) seen)) (λ k. (steps_behind seen v.sight m.0 k, steps_behind seen w.sight m.1 k))
    (merged a b seen (λ i. (let few = m.2 i in let sum = count_append i a b in omega arith)))

-- ---- the start and the end

map_long : {A : Type 0} (xs : List A) → length (map some xs) ≡ length xs
map_long [] = refl
map_long (x ∷ xs) = ap suc (map_long xs)

shown : {S : Type 0} (xs : List (Slot S)) (i : ℕ) → i < length (map some xs) → (y : Slot S) × (get_elem? (map some xs) i ≡ some (some y)) × (y ≡ slice_index_or xs i Empty) × (i < length xs)
shown [] i h = absurd (omega arith)
shown (x ∷ xs) zero h = (x, refl, refl, omega arith)
shown (x ∷ xs) (suc i) h = let t = shown xs i (omega arith) in let l = t.3 in (t.0, t.1, t.2, omega arith)

pub opens : {S : Type 0} (content : Slot S → Work) (good : Terms → ℕ → Slot S → Type 0) (plan : Terms) (ws : List ℕ) (xs : List (Slot S)) → IsOrderly plan.plan → ((i : ℕ) → i < length xs → content (slice_index_or xs i Empty) ≡ Marked) → ((i : ℕ) → i < length xs → good plan i (slice_index_or xs i Empty)) → size plan ≤ length xs → size plan ≤ length ws → ((i : ℕ) → i < length ws → slice_index ws i ≡ length (preds plan.plan i)) → Kept content good plan (opening ws xs (newcomer plan))
opens {S} content good plan ws xs orderly blank fine many wide words = record {
  log = [];
  depth = 0;
  settled = λ i. refl;
  keeps = record {
    orderly = orderly;
    legal = tt;
    words = λ i h. (let e = words i h in omega (arith, word_start (preds plan.plan i) i));
    wide = wide;
    each_pass = one;
    each_claim = λ i. refl;
    whole = refl;
  };
  shelf = record {
    each_slot = λ i h. record {
      rests = λ _ _. (let t = shown xs i h in (t.0, t.1, ap content t.2 ∙ blank i t.3, subst (good plan i) (sym t.2) (fine i t.3)));
      away = λ z _. absurd (omega arith);
    };
    each_carry = two;
    deep = (let l = map_long xs in omega arith);
  };
}
  where
    one : (id : ℕ) (v : View) → get_elem? (newcomer plan ∷ []) id ≡ some v → Fits 0 [] v
    one zero v e = subst (Fits 0 []) (some-injective _ _ e) record { behind = ([], refl, refl); left = ([], refl, refl); right = ([], refl, refl); within = λ i. omega arith; idle = λ _ i. refl; deep = omega arith }
    one (suc id) v e = absurd (some-ne-none v (sym e))

    two : (id : ℕ) (v : View) → get_elem? (newcomer plan ∷ []) id ≡ some v → (i : ℕ) → v.carry ≡ suc i → 0 < count i v.sight.claims + taken i []
    two zero v e i c = (let z : 0 ≡ v.carry = ap (λ (u : View). u.carry) (some-injective _ _ e) in absurd (omega arith))
    two (suc id) v e i c = absurd (some-ne-none v (sym e))

total_only : (f : View → ℕ) (views : List View) (id : ℕ) (v : View) → get_elem? views id ≡ some v → ((j : ℕ) (u : View) → j ≢ id → get_elem? views j ≡ some u → f u ≡ 0) → total f views ≡ f v
total_only f [] id v at z = absurd (some-ne-none v (sym at))
total_only f (u ∷ us) zero v at z = let e : f u ≡ f v = ap f (some-injective u v at) in omega (arith, total_zero f us (λ j w on. z (suc j) w (λ h. absurd (omega arith)) on))
  where
    total_zero : (f : View → ℕ) (views : List View) → ((j : ℕ) (u : View) → get_elem? views j ≡ some u → f u ≡ 0) → total f views ≡ 0
    total_zero f [] z = refl
    total_zero f (u ∷ us) z = let e = z zero u refl in omega (arith, total_zero f us (λ j w on. z (suc j) w on))
total_only f (u ∷ us) (suc id) v at z = let e = z zero u (λ h. absurd (omega arith)) refl in omega (arith, total_only f us id v at (λ j w ne on. z (suc j) w (λ h. ne (omega arith)) on))

keep_pos : (n : ℕ) (x : Step) (xs : Run) → 0 < n → keep n x xs ≡ x ∷ xs
keep_pos zero x xs h = absurd (omega arith)
keep_pos (suc n) x xs h = refl

steps_by-all : (c : List ℕ) (xs : Run) → ((i : ℕ) → 0 < by_actor i xs → 0 < count i c) → steps_by c xs ≡ xs
steps_by-all c [] h = refl
steps_by-all c (x ∷ xs) h =
    let here : bit (eqb (actor x) (actor x)) ≡ 1 = ap bit (eq-eqb (actor x) (actor x) refl) in
    keep_pos (count (actor x) c) x (steps_by c xs) (h (actor x) (omega arith)) ∙ ap (λ (l : Run). x ∷ l) (steps_by-all c xs (λ i p. h i (omega arith)))

-- in a settled run each action that acted is done
settled_has : (log : Run) → ((i : ℕ) → times (Act i Marked) log ≡ times (Done i) log) → (i : ℕ) → Has log (model.acts i) → Has log (model.finishes i)
settled_has log settled i h =
    let some = some_tally (model.acts i) log h in let a = acts_tally i log in let d = finishes_tally i log in let e = settled i in
    has_from (model.finishes i) log (omega arith)

pub ends : (plan : Terms) (log : Run) (depth : ℕ) (s : Board) (k : Keeps plan log depth s) → ((i : ℕ) → times (Act i Marked) log ≡ times (Done i) log)
    → (id : ℕ) (v : View) → get_elem? s.views id ≡ some v → EndsAt plan v s.words log
ends plan log depth s k settled id v at =
    let f = k.each_pass id v at in let b = f.behind in (
      record {
        legal = legal_run plan log k.legal;
        settled = settled_has log settled;
        words_are = λ i h. (let wide = k.wide in k.words i (omega arith) ∙ word_same plan log k.legal i);
      },
      (b.0, b.1),
      λ (w : IsWhole v).
          let deep = f.deep in
          let e : v.cut + (depth - v.cut) ≡ depth = omega arith in
          let full : share depth v ≡ 2 ^ depth = ap (λ (p : ℕ). p * 2 ^ (depth - v.cut)) w ∙ sym (pow-add 2 v.cut (depth - v.cut)) ∙ ap (λ (n : ℕ). 2 ^ n) e in
          let others : (i j : ℕ) (u : View) → j ≢ id → get_elem? s.views j ≡ some u → claimed i u ≡ 0 = λ i j u ne on. (
          let t = total_two (share depth) s.views id j v u ne at on in let c = k.whole in
          let z : u.part ≡ 0 = no_product u.part (depth - u.cut) (omega arith) in (k.each_pass j u on).idle z i) in
          let own : (i : ℕ) → claimed i v ≡ times (Claim i) log = λ i. sym (total_only (claimed i) s.views id v at (others i)) ∙ k.each_claim i in
          let all : steps_by v.sight.claims log ≡ log = steps_by-all v.sight.claims log (λ i p. dite (ℕ_discrete (times (Claim i) log) 0)
          (λ z. absurd (let n = (sound plan log k.legal i).none z in omega arith)) (λ ne. (let o = own i in omega arith))) in
          let split : steps_by v.sight.claims v.sight.seen ≡ v.sight.seen ++ b.0 =
          sym (append-nil (steps_by v.sight.claims v.sight.seen)) ∙ (λ i. steps_by v.sight.claims v.sight.seen ++ sym b.2 i) ∙ sym (steps_by-append v.sight.claims v.sight.seen b.0) ∙ sym (ap (steps_by v.sight.claims) b.1) ∙ all ∙ b.1 in
          let most : length (steps_by v.sight.claims v.sight.seen) ≤ length v.sight.seen = shorter v.sight.claims v.sight.seen in
          let none_left : b.0 ≡ [] = empty b.0 (let t : length (steps_by v.sight.claims v.sight.seen) ≡ length (v.sight.seen ++ b.0) = ap length split in omega (arith, length-append v.sight.seen b.0)) in
          (b.1 ∙ (λ i. v.sight.seen ++ none_left i) ∙ append-nil v.sight.seen, split ∙ (λ i. v.sight.seen ++ none_left i) ∙ append-nil v.sight.seen),
    )
  where
    empty : (xs : Run) → length xs ≤ 0 → xs ≡ []
    empty [] h = refl
    empty (x ∷ xs) h = absurd (omega arith)

    kept_length : (n : ℕ) (x : Step) (xs : Run) → length (keep n x xs) ≤ 1 + length xs
    kept_length zero x xs = omega arith
    kept_length (suc n) x xs = omega arith

    shorter : (c : List ℕ) (xs : Run) → length (steps_by c xs) ≤ length xs
    shorter c [] = omega arith
    shorter c (x ∷ xs) = omega (arith, kept_length (count (actor x) c) x (steps_by c xs), shorter c xs)

pub meeting_joined : {S : Type 0} (content : Slot S → Work) (good : Terms → ℕ → Slot S → Type 0) (plan : Terms) (slots id : ℕ) (me : Seat S) (i : ℕ) (v w : View) → me.0 ≡ joined v w → Allows (Kept content good plan) slots id me i (λ n. n) (meets (step slots i 0 0 none) me)
meeting_joined content good plan slots id me i v w e = meeting content good plan slots id me i
    (subst (λ (u : View). length u.left.seen ≤ length u.sight.seen) (sym e) (longer_left v.sight.seen w.sight.seen))
    (subst (λ (u : View). length u.right.seen ≤ length u.sight.seen) (sym e) (longer_right v.sight.seen w.sight.seen))

pub joined_both : (v w m : View) → m ≡ joined v w → Met m → IsMerged (mine v) (mine w) (mine m)
joined_both v w m e met = subst (λ (u : View). Met u → IsMerged (mine v) (mine w) (mine u)) (sym e) (of_both v w) met

-- ---- the words at the start

at_start : (actions : List Action) (i : ℕ) → slice_index (opening_words actions) i ≡ length {A = ℕ} (elim (slice_get actions i) [ None ↦ [] | Some a ↦ a.preds ])
at_start [] i = refl
at_start (a ∷ rest) zero = refl
at_start (a ∷ rest) (suc i) = at_start rest i

pub long_as : (actions : List Action) → length (opening_words actions) ≡ length actions
long_as [] = refl
long_as (a ∷ rest) = ap suc (long_as rest)

zeros : (i : ℕ) → slice_index (0 ∷ []) i ≡ 0
zeros zero = refl
zeros (suc i) = refl

first_right : (actions : List Action) (i : ℕ) → slice_index (first_words actions) i ≡ slice_index (opening_words actions) i
first_right [] i = zeros i
first_right (action ∷ actions) i = refl

pub first_positive : (actions : List Action) → 0 < length (first_words actions)
first_positive [] = omega arith
first_positive (action ∷ actions) = let h = long_as (action ∷ actions) in omega arith

pub first_none : (actions : List Action) → true ≡ (length actions == 0) → first_words actions ≡ 0 ∷ []
first_none [] e = refl
first_none (action ∷ actions) e = let z = eqb-true (length (action ∷ actions)) 0 (sym e) in absurd (omega arith)

pub first_some : (actions : List Action) → false ≡ (length actions == 0) → first_words actions ≡ opening_words actions
first_some [] e = absurd (false≢true e)
first_some (action ∷ actions) e = refl

pub first_wide : (actions : List Action) (ws : List ℕ) → ws ≡ first_words actions → (length actions ≤ length ws) × (0 < length actions → length ws ≡ length actions)
first_wide [] ws e = (omega arith, λ p. absurd (omega arith))
first_wide (action ∷ actions) ws e =
    let h = long_as (action ∷ actions) in let l : length ws ≡ length (opening_words (action ∷ actions)) = ap length e in (omega arith, λ p. omega arith)

pub opens_any : {S : Type 0} (content : Slot S → Work) (good : Terms → ℕ → Slot S → Type 0) (plan : Terms) (ws : List ℕ) (xs : List (Slot S)) → IsOrderly plan.plan → ((i : ℕ) → i < length xs → content (slice_index_or xs i Empty) ≡ Marked) → ((i : ℕ) → i < length xs → good plan i (slice_index_or xs i Empty)) → size plan ≤ length xs → ws ≡ first_words plan.plan.actions → Kept content good plan (opening ws xs (newcomer plan))
opens_any content good plan ws xs orderly blank fine many f = opens content good plan ws xs orderly blank fine many (first_wide plan.plan.actions ws f).0
    (λ i _. ap (λ (l : List ℕ). slice_index l i) f ∙ first_right plan.plan.actions i ∙ at_start plan.plan.actions i)

-- ---- the end

pub found_there : (l : List ℕ) (i n : ℕ) → get_elem? l i ≡ some n → n ≡ slice_index l i
found_there [] i n e = absurd (some-ne-none n (sym e))
found_there (x ∷ xs) zero n e = sym (some-injective x n e)
found_there (x ∷ xs) (suc i) n e = found_there xs i n e

pub slot_found : {A : Type 0} (l : List A) (i : ℕ) (d y : A) → get_elem? l i ≡ some y → slice_index_or l i d ≡ y
slot_found [] i d y e = absurd (some-ne-none y (sym e))
slot_found (x ∷ xs) zero d y e = some-injective x y e
slot_found (x ∷ xs) (suc i) d y e = slot_found xs i d y e

rested : {S : Type 0} (content : Slot S → Work) (fine : Slot S → Type 0) (plan : Terms) (log : Run) → IsLegal plan log → (i : ℕ) (slot : Slot S)
    → (times (Claim i) log ≡ times (Done i) log + times (Fail i) log → taken i log ≡ 0 → (content slot ≡ work_after (opening_work plan i) log i) × fine slot) → Rests content fine plan log i slot
rested content fine plan log l i slot at_rest =
    let q = sound plan log l i in let q0 = q.once in let q1 = q.acts in let q2 = q.dones in let q3 = q.emptied in
    let c = claims_tally i log in let f = fails_tally i log in let d = finishes_tally i log in let t = taken_tally i log in
    record {
      unclaimed = λ h. (let z = no_tally (model.claims i) log h in let r = at_rest (omega arith) (omega arith) in (r.0 ∙ content_unacted (opening_work plan i) log i (omega arith), r.1));
      failed = λ h. (let z = some_tally (model.fails i) log h in let r = at_rest (omega arith) (omega arith) in (r.0 ∙ content_unacted (opening_work plan i) log i (omega arith), r.1));
      done = λ work has h u. (let z = some_tally (model.finishes i) log h in let y = no_tally (model.takes i) log u in let r = at_rest (omega arith) (omega arith) in
          (r.0 ∙ act_left plan log l (opening_work plan i) i work (Among-from_Contains log (Act i work) has), r.1));
    }

pub final_ends : {S : Type 0} (content : Slot S → Work) (good : Terms → ℕ → Slot S → Type 0) (plan : Terms) (id : ℕ) (v : View) (ws : List ℕ) (xs : List (Slot S)) → Final (Seen (Kept content good plan) id v) ws xs → SitedEnds content good plan v ws xs
final_ends content good plan id v ws xs f =
    let s = f.0 in let r = f.1.0 in let long : length s.homes ≡ length xs = f.3 in (
      r.log,
      subst (λ (w : List ℕ). EndsAt plan v w r.log) f.2 (ends plan r.log r.depth (bare s) r.keeps r.settled id v f.1.1),
      λ i h. rested content (good plan i) plan r.log r.keeps.legal i (slice_index_or xs i Empty)
          (λ e u. (let many = r.shelf.deep in let g = (r.shelf.each_slot i (omega arith)).rests e u in let at = slot_found xs i Empty g.0 (f.4 i g.0 g.1) in (ap content at ∙ g.2, subst (good plan i) (sym at) g.3))),
    )

-- ---- sites at the start

pub told_start : {S : Type 0} (content : S → Option (Listing (List ℕ))) (xs : List (Slot S)) → ((i : ℕ) → IsUntouched (slice_index_or xs i Empty)) → (i : ℕ) → i < length xs
    → IsToldIn content (slice_index_or (map (told_in content) xs) i None) (slice_index_or xs i Empty)
told_start content [] fresh i h = absurd (omega arith)
told_start {S} content (x ∷ xs) fresh zero h = here x (fresh 0)
  where
    here : (x : Slot S) → IsUntouched x → IsToldIn content (told_in content x) x
    here Empty u = refl
    here (Place site) u = refl
    here (Committed site staged) u = absurd u
    here (Bytes bytes) u = absurd u
told_start content (x ∷ xs) fresh (suc i) h = told_start content xs (λ j. fresh (suc j)) i (omega arith)

pub blank_start : {S : Type 0} (slot : Slot S) → IsUntouched slot → work_in slot ≡ Marked
blank_start Empty u = refl
blank_start (Place site) u = refl
blank_start (Committed site staged) u = absurd u
blank_start (Bytes bytes) u = absurd u
