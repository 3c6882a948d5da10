-- What became of each entry, action by action.
use Rattle.std.proofs.Common.{◌≡◌, ℕ, zero, suc, ◌+◌, ◌<◌, ◌≤◌, Bool, true, false, ◌&&◌, ◌||◌, cond, eqb, List, [], ◌∷◌, ◌++◌, length, get_or, map, set, take, refl, sym, ap, ap₂, ◌∙◌, subst, arith, add-one}
use Rattle.std.proofs.Math.Bool.{or-false}
use Rattle.std.proofs.Math.Seq.{take-suc}
use Rattle.std.proofs.lemmas.Bool.{eq-eqb, ne_eqb}
use Rattle.std.proofs.lemmas.List.{length-take-le}
use Rattle.ts_model.specs.Sync.{is_skipped}
use Rattle.ts_model.specs.declared.plan.Entry.{Entry}
use Rattle.ts_model.specs.declared.plan.Action.{Action}
use Rattle.ts_report.specs.declared.results.Ending.{Ending}
use Rattle.ts_report.specs.declared.fate.Fate.{Fate}
use Rattle.ts_report.specs.Fates.{fate, first_fate, has_failed, next_fate, settled, was_done}
use Rattle.ts_report.specs.Reports.{entry_of, fails, fate_in, fates_from, is_mark, marks, some_action, step_from}

-- no action was looked at
pub none_yet : (how : ℕ → Ending) (k : ℕ) (entries : List Entry) → map (λ entry. first_fate entry.reason) entries ≡ fates_from how [] k entries
none_yet how k [] = refl
none_yet how k (entry ∷ entries) = ap (λ z. first_fate entry.reason ∷ z) (none_yet how (k + 1) entries)

or_assoc : (a b c : Bool) → (a || (b || c)) ≡ ((a || b) || c)
or_assoc true b c = refl
or_assoc false b c = refl

-- one action more
some_more : (test : ℕ → Action → Bool) (i : ℕ) (xs : List Action) (x : Action) → some_action test i (xs ++ x ∷ []) ≡ (some_action test i xs || test (i + length xs) x)
some_more test i [] x = let same : i + 0 ≡ i = omega arith in or-false (test i x) ∙ ap (λ n. test n x) (sym same)
some_more test i (y ∷ ys) x =
    let same : i + 1 + length ys ≡ i + suc (length ys) = omega arith in
    ap (λ z. test i y || z) (some_more test (i + 1) ys x ∙ ap (λ n. some_action test (i + 1) ys || test n x) same)
    ∙ or_assoc (test i y) (some_action test (i + 1) ys) (test (i + suc (length ys)) x)

-- an action of the entry's own
settles : (skipped done failed more fails_now : Bool) → fate skipped (done || more) (failed || fails_now) ≡ settled (fate skipped done failed) more fails_now
settles true done failed more fails_now = refl
settles false true failed more fails_now = refl
settles false false true more fails_now = refl
settles false false false more fails_now = refl

-- an action of this entry's own or of another's
step_one : (own mark : Bool) (ends : Ending) (skipped done failed : Bool)
    → fate skipped (done || (own && (mark && was_done ends))) (failed || (own && has_failed ends)) ≡ cond own (next_fate (fate skipped done failed) mark ends) (fate skipped done failed)
step_one true mark ends skipped done failed = settles skipped done failed (mark && was_done ends) (has_failed ends)
step_one false mark ends skipped done failed = ap₂ (λ x y. fate skipped x y) (or-false done) (or-false failed)

fate_step : (how : ℕ → Ending) (xs : List Action) (x : Action) (k : ℕ) (entry : Entry)
    → fate_in how (xs ++ x ∷ []) k entry ≡ cond (eqb (entry_of x.kind) k) (next_fate (fate_in how xs k entry) (is_mark x.kind) (how (length xs))) (fate_in how xs k entry)
fate_step how xs x k entry =
    ap₂ (λ done failed. fate (is_skipped entry.reason) done failed) (some_more (marks how k) 0 xs x) (some_more (fails how k) 0 xs x)
    ∙ subst (λ n. fate (is_skipped entry.reason) (some_action (marks how k) 0 xs || marks how k n x) (some_action (fails how k) 0 xs || fails how k n x)
    ≡ cond (eqb (entry_of x.kind) k) (next_fate (fate_in how xs k entry) (is_mark x.kind) (how (length xs))) (fate_in how xs k entry))
    (let same : length xs ≡ 0 + length xs = omega arith in same)
    (step_one (eqb (entry_of x.kind) k) (is_mark x.kind) (how (length xs)) (is_skipped entry.reason) (some_action (marks how k) 0 xs) (some_action (fails how k) 0 xs))

fates_more : (how : ℕ → Ending) (xs : List Action) (x : Action) (k : ℕ) (entries : List Entry)
    → fates_from how (xs ++ x ∷ []) k entries ≡ step_from (entry_of x.kind) (is_mark x.kind) (how (length xs)) k (fates_from how xs k entries)
fates_more how xs x k [] = refl
fates_more how xs x k (entry ∷ entries) = ap₂ (λ f fs. f ∷ fs) (fate_step how xs x k entry) (fates_more how xs x (k + 1) entries)

-- the fates after the first i + 1 actions
pub fates_next : (how : ℕ → Ending) (actions : List Action) (i : ℕ) (x : Action) (entries : List Entry) → i < length actions → x ≡ get_or actions i x
    → fates_from how (take (i + 1) actions) 0 entries ≡ step_from (entry_of x.kind) (is_mark x.kind) (how i) 0 (fates_from how (take i actions) 0 entries)
fates_next how actions i x entries within is =
    let upto : length (take i actions) ≡ i = omega (arith, length-take-le i actions (omega arith)) in
    let more : take (i + 1) actions ≡ take i actions ++ x ∷ [] = rw add-one (take-suc actions i x within ∙ ap (λ (z : Action). take i actions ++ z ∷ []) (sym is)) in
    ap (λ z. fates_from how z 0 entries) more
    ∙ fates_more how (take i actions) x 0 entries
    ∙ ap (λ n. step_from (entry_of x.kind) (is_mark x.kind) (how n) 0 (fates_from how (take i actions) 0 entries)) upto

pub fates_length : (how : ℕ → Ending) (actions : List Action) (k : ℕ) (entries : List Entry) → length (fates_from how actions k entries) ≡ length entries
fates_length how actions k [] = refl
fates_length how actions k (entry ∷ entries) = ap suc (fates_length how actions (k + 1) entries)

-- an entry that the plan hasn't
pub step_beyond : (e : ℕ) (mark : Bool) (ends : Ending) (k : ℕ) (all : List Fate) → k + length all ≤ e → step_from e mark ends k all ≡ all
step_beyond e mark ends k [] past = refl
step_beyond e mark ends k (f ∷ fs) past =
    let other : eqb e k ≡ false = ne_eqb e k (λ same. omega arith) in
    rw other (ap (λ z. f ∷ z) (step_beyond e mark ends (k + 1) fs (omega arith)))

-- an entry before those
step_before : (e : ℕ) (mark : Bool) (ends : Ending) (k : ℕ) (all : List Fate) → e < k → step_from e mark ends k all ≡ all
step_before e mark ends k [] before = refl
step_before e mark ends k (f ∷ fs) before =
    let other : eqb e k ≡ false = ne_eqb e k (λ same. omega arith) in
    rw other (ap (λ z. f ∷ z) (step_before e mark ends (k + 1) fs (omega arith)))

-- the entry at place i of those
step_at : (i : ℕ) (mark : Bool) (ends : Ending) (k : ℕ) (all : List Fate) (d : Fate) → i < length all → step_from (k + i) mark ends k all ≡ set all i (next_fate (get_or all i d) mark ends)
step_at i mark ends k [] d within = absurd (omega arith)
step_at zero mark ends k (f ∷ fs) d within =
    let here : k + 0 ≡ k = omega arith in
    subst (λ n. step_from n mark ends k (f ∷ fs) ≡ next_fate f mark ends ∷ fs) (sym here)
    (rw (eq-eqb k k refl) (ap (λ z. next_fate f mark ends ∷ z) (step_before k mark ends (k + 1) fs (omega arith))))
step_at (suc i) mark ends k (f ∷ fs) d within =
    let other : eqb (k + suc i) k ≡ false = ne_eqb (k + suc i) k (λ same. omega arith) in
    let same : k + suc i ≡ k + 1 + i = omega arith in
    rw other (ap (λ z. f ∷ z) (ap (λ n. step_from n mark ends (k + 1) fs) same ∙ step_at i mark ends (k + 1) fs d (omega arith)))

pub step_here : (e : ℕ) (mark : Bool) (ends : Ending) (all : List Fate) (d : Fate) → e < length all → step_from e mark ends 0 all ≡ set all e (next_fate (get_or all e d) mark ends)
step_here e mark ends all d within =
    let same : e ≡ 0 + e = omega arith in
    ap (λ n. step_from n mark ends 0 all) same ∙ step_at e mark ends 0 all d within
