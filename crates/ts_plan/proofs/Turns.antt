-- What one line does to a reader, and what its end tells.
use Rattle.std.proofs.Common.{◌≡◌, ◌≢◌, ℕ, ◌^◌, ◌<◌, ◌==◌, ◌&&◌, Bool, true, false, cond, List, [], ◌∷◌, ◌++◌, length, map, flat_map, codes, decimal, Option, Some, None, option_to_list, option_and_then, Result, Ok, Err, refl, sym, ap, ◌∙◌, subst, arith, append_assoc, append-nil, length-append, eqb-true}
use Rattle.std.specs.List.{AllByRecursion}
use Rattle.std.proofs.lemmas.Bool.{and_parts}
use Rattle.std.proofs.lemmas.List.{map-append}
use Rattle.std.proofs.lemmas.List.Concat.{flat_map-append}
use Rattle.std.proofs.lemmas.List.Sums.{sum_by-append}
use Rattle.ts_model.specs.Plans.{WithinLimits}
use Rattle.ts_model.specs.Texts.{Line, words, entry_line, kind_line, pred_line, action_lines, plan_lines, PathFits, KindFits, IsPlan}
use Rattle.ts_model.specs.declared.plan.Entry.{Entry}
use Rattle.ts_model.specs.declared.plan.Kind.{Kind}
use Rattle.ts_model.specs.declared.plan.Action.{Action}
use Rattle.ts_model.specs.declared.plan.Plan.{Plan}
use Rattle.ts_name.proofs.Utf8.{all_append, all_parts}
use Rattle.ts_plan.specs.PlanLines.{line_text, LineFits, ReadsLine}
use Rattle.ts_plan.specs.Progress.{Progress, all_actions, plan_of, start, body_lines, fed_in, fed, step, step_in}
use Rattle.ts_plan.specs.Reading.{IsLarge, IsProgress, Begins, Takes, ReadsNext, IsBegun}
use Rattle.ts_plan.specs.declared.fault.PlanFault.{PlanFault}
use Rattle.ts_plan.specs.declared.fault.PlanFault.TheVariants.{OutOfMemory, Failed, NotCanonical, PastLimit}
use Rattle.ts_plan.specs.declared.progress.Part.{Part}
use Rattle.ts_plan.specs.declared.progress.Part.TheVariants.{Start, Body, Ended}
use Rattle.ts_plan.specs.declared.line.PlanLine.{PlanLine}
use Rattle.ts_plan.specs.declared.line.PlanLine.TheVariants as line
use Rattle.ts_plan.proofs.Same.{one_line}
use Rattle.ts_plan.proofs.Grammar.{Lines, run, steps, plan_steps, large, completed, next_line, not_begun, one_spelling, run_steps, plan_spelled, fed_spelled, steps_fit, plan_fits}

some_one : {A : Type 0} (x y : A) → Some x ≡ Some y → x ≡ y
some_one x y e = cc

none_some : {A : Type 0} (x : A) → ◌≡◌ {A = Option A} None (Some x) → ⊥
none_some x e = cc

-- ---- the lines read grow by one

entry_read : (es : List Entry) (e : Entry) (all : List Action) → all ≡ [] → body_lines (es ++ e ∷ []) all ≡ body_lines es all ++ entry_line e ∷ []
entry_read es e all none =
    let here = map-append entry_line es (e ∷ []) in
    ap (λ z. body_lines (es ++ e ∷ []) z) none
    ∙ ap (λ z. codes "twosync-plan 1" ∷ z) (append-nil (map entry_line (es ++ e ∷ [])) ∙ here ∙ ap (λ z. z ++ entry_line e ∷ []) (sym (append-nil (map entry_line es))))
    ∙ ap (λ z. body_lines es z ++ entry_line e ∷ []) (sym none)

action_read : (es : List Entry) (all : List Action) (kind : Kind) → body_lines es (all ++ record { kind = kind; preds = [] } ∷ []) ≡ body_lines es all ++ kind_line kind ∷ []
action_read es all kind =
    let added : Action = record { kind = kind; preds = [] } in
    ap (λ z. codes "twosync-plan 1" ∷ z) (ap (λ z. map entry_line es ++ z) (flat_map-append action_lines all (added ∷ [])) ∙ sym (append_assoc (map entry_line es) (flat_map action_lines all) (kind_line kind ∷ [])))

pred_read : (es : List Entry) (acts : List Action) (a : Action) (j : ℕ)
    → body_lines es (acts ++ record { kind = a.kind; preds = a.preds ++ j ∷ [] } ∷ []) ≡ body_lines es (acts ++ a ∷ []) ++ pred_line j ∷ []
pred_read es acts a j =
    let longer : Action = record { kind = a.kind; preds = a.preds ++ j ∷ [] } in
    let one : action_lines longer ++ [] ≡ (action_lines a ++ []) ++ pred_line j ∷ [] =
    append-nil (action_lines longer) ∙ ap (λ z. kind_line a.kind ∷ z) (map-append pred_line a.preds (j ∷ [])) ∙ ap (λ z. z ++ pred_line j ∷ []) (sym (append-nil (action_lines a))) in
    ap (λ z. codes "twosync-plan 1" ∷ z)
    (ap (λ z. map entry_line es ++ z) (flat_map-append action_lines acts (longer ∷ []) ∙ ap (λ z. flat_map action_lines acts ++ z) one ∙ sym (append_assoc (flat_map action_lines acts) (action_lines a ++ []) (pred_line j ∷ [])) ∙ ap (λ z. z ++ pred_line j ∷ []) (sym (flat_map-append action_lines acts (a ∷ []))))
    ∙ sym (append_assoc (map entry_line es) (flat_map action_lines (acts ++ a ∷ [])) (pred_line j ∷ [])))

counted : (m n k l : ℕ) (f q : Progress) → cond ((m == k) && (n == l)) (Some f) None ≡ Some q → (m ≡ k) × (n ≡ l) × (f ≡ q)
counted m n k l f q = go ((m == k) && (n == l)) refl
  where
    go : (b : Bool) → ((m == k) && (n == l)) ≡ b → cond b (Some f) None ≡ Some q → (m ≡ k) × (n ≡ l) × (f ≡ q)
    go true h e = let parts = and_parts (m == k) (n == l) h in (eqb-true m k parts.0, eqb-true n l parts.1, some_one f q e)
    go false h e = absurd (none_some q e)

read_in : (part : Part) (es : List Entry) (acts : List Action) (last : Option Action) (l : PlanLine) (q : Progress) → (last ≡ None → acts ≡ []) → (part ≡ Start → (es ≡ []) × (last ≡ None))
    → step_in part es acts last l ≡ Some q → fed q ≡ fed_in part es (acts ++ option_to_list last) ++ line_text l ∷ []
read_in Start es acts last line.Header q first none e =
    let empty = none refl in
    ap fed (sym (some_one _ q e)) ∙ (λ i. body_lines (empty.0 i) ((first empty.1) i ++ option_to_list (empty.1 i)))
read_in Start es acts last (line.Entry x) q first none e = absurd (none_some q e)
read_in Start es acts last (line.Action kind) q first none e = absurd (none_some q e)
read_in Start es acts last (line.Pred j) q first none e = absurd (none_some q e)
read_in Start es acts last (line.End m n) q first none e = absurd (none_some q e)
read_in Body es acts last line.Header q first none e = absurd (none_some q e)
read_in Body es acts None (line.Entry x) q first none e = ap fed (sym (some_one _ q e)) ∙ entry_read es x (acts ++ []) (append-nil acts ∙ first refl)
read_in Body es acts (Some a) (line.Entry x) q first none e = absurd (none_some q e)
read_in Body es acts last (line.Action kind) q first none e = ap fed (sym (some_one _ q e)) ∙ action_read es (acts ++ option_to_list last) kind
read_in Body es acts None (line.Pred j) q first none e = absurd (none_some q e)
read_in Body es acts (Some a) (line.Pred j) q first none e = ap fed (sym (some_one _ q e)) ∙ pred_read es acts a j
read_in Body es acts last (line.End m n) q first none e =
    let all = acts ++ option_to_list last in
    let f : Progress = record { part = Ended; entries = es; actions = acts; last = last } in
    let is = counted m n (length es) (length all) f q e in
    ap fed (sym is.2) ∙ (λ i. body_lines es all ++ words (codes "end" ∷ decimal ((sym is.0) i) ∷ decimal ((sym is.1) i) ∷ []) ∷ [])
read_in Ended es acts last l q first none e = absurd (none_some q e)

-- ---- no line makes a plan shorter

within_in : (part : Part) (es : List Entry) (acts : List Action) (last : Option Action) (l : PlanLine) (q : Progress)
    → step_in part es acts last l ≡ Some q → WithinLimits (plan_of q) → WithinLimits (record { entries = es; actions = acts ++ option_to_list last })
within_in Start es acts last line.Header q e within = subst (λ z. WithinLimits (plan_of z)) (sym (some_one _ q e)) within
within_in Start es acts last (line.Entry x) q e within = absurd (none_some q e)
within_in Start es acts last (line.Action kind) q e within = absurd (none_some q e)
within_in Start es acts last (line.Pred j) q e within = absurd (none_some q e)
within_in Start es acts last (line.End m n) q e within = absurd (none_some q e)
within_in Body es acts last line.Header q e within = absurd (none_some q e)
within_in Body es acts None (line.Entry x) q e within =
    let now : WithinLimits (record { entries = es ++ x ∷ []; actions = acts ++ [] }) = subst (λ z. WithinLimits (plan_of z)) (sym (some_one _ q e)) within in
    record { entries = omega (arith, now.entries, length-append es (x ∷ [])); actions = now.actions; preds = now.preds }
within_in Body es acts (Some a) (line.Entry x) q e within = absurd (none_some q e)
within_in Body es acts last (line.Action kind) q e within =
    let all = acts ++ option_to_list last in
    let added : Action = record { kind = kind; preds = [] } in
    let now : WithinLimits (record { entries = es; actions = all ++ added ∷ [] }) = subst (λ z. WithinLimits (plan_of z)) (sym (some_one _ q e)) within in
    record { entries = now.entries; actions = omega (arith, now.actions, length-append all (added ∷ [])); preds = omega (arith, now.preds, sum_by-append (λ (x : Action). length x.preds) all (added ∷ [])) }
within_in Body es acts None (line.Pred j) q e within = absurd (none_some q e)
within_in Body es acts (Some a) (line.Pred j) q e within =
    let longer : Action = record { kind = a.kind; preds = a.preds ++ j ∷ [] } in
    let now : WithinLimits (record { entries = es; actions = acts ++ longer ∷ [] }) = subst (λ z. WithinLimits (plan_of z)) (sym (some_one _ q e)) within in
    record {
      entries = now.entries;
      actions = omega (arith, now.actions, length-append acts (longer ∷ []), length-append acts (a ∷ []));
      preds = omega (arith, now.preds, sum_by-append (λ (x : Action). length x.preds) acts (longer ∷ []), sum_by-append (λ (x : Action). length x.preds) acts (a ∷ []), length-append a.preds (j ∷ []));
    }
within_in Body es acts last (line.End m n) q e within =
    let f : Progress = record { part = Ended; entries = es; actions = acts; last = last } in
    let is = counted m n (length es) (length (acts ++ option_to_list last)) f q e in
    subst (λ z. WithinLimits (plan_of z)) (sym is.2) within
within_in Ended es acts last l q e within = absurd (none_some q e)

led : (o : Option Progress) (ls : Lines) (f : Progress) → option_and_then (λ q. run q ls) o ≡ Some f → (q : Progress) × (o ≡ Some q) × (run q ls ≡ Some f)
led None ls f e = absurd (none_some f e)
led (Some q) ls f e = (q, refl, e)

run_within : (p : Progress) (ls : Lines) (f : Progress) → run p ls ≡ Some f → WithinLimits (plan_of f) → WithinLimits (plan_of p)
run_within p [] f e within = subst (λ z. WithinLimits (plan_of z)) (sym (some_one p f e)) within
run_within p (l ∷ ls) f e within =
    let next = led (step p l) ls f e in
    within_in p.part p.entries p.actions p.last l next.0 next.1 (run_within next.0 ls f next.2 within)

-- ---- what is led to is a plan, limits aside

large_in : (part : Part) (es : List Entry) (acts : List Action) (last : Option Action) (l : PlanLine) (q : Progress)
    → step_in part es acts last l ≡ Some q → LineFits l → IsPlan (record { entries = es; actions = acts ++ option_to_list last }) → IsLarge (plan_of q)
large_in Start es acts last line.Header q e fits is = subst (λ z. IsLarge (plan_of z)) (some_one _ q e) (large _ is)
large_in Start es acts last (line.Entry x) q e fits is = absurd (none_some q e)
large_in Start es acts last (line.Action kind) q e fits is = absurd (none_some q e)
large_in Start es acts last (line.Pred j) q e fits is = absurd (none_some q e)
large_in Start es acts last (line.End m n) q e fits is = absurd (none_some q e)
large_in Body es acts last line.Header q e fits is = absurd (none_some q e)
large_in Body es acts None (line.Entry x) q e fits is = subst (λ z. IsLarge (plan_of z)) (some_one _ q e) (record {
  counts = (omega (arith, is.limits.entries, length-append es (x ∷ [])), omega (arith, is.limits.actions));
  entries = all_append (λ (y : Entry). PathFits y.path) es (x ∷ []) is.entries (fits, tt);
  kinds = is.kinds;
  preds = is.preds;
})
large_in Body es acts (Some a) (line.Entry x) q e fits is = absurd (none_some q e)
large_in Body es acts last (line.Action kind) q e fits is =
    let all = acts ++ option_to_list last in
    let added : Action = record { kind = kind; preds = [] } in
    subst (λ z. IsLarge (plan_of z)) (some_one _ q e) (record {
      counts = (omega (arith, is.limits.entries), omega (arith, is.limits.actions, length-append all (added ∷ [])));
      entries = is.entries;
      kinds = all_append (λ (x : Action). KindFits x.kind) all (added ∷ []) is.kinds (fits, tt);
      preds = all_append (λ (x : Action). AllByRecursion (λ y. y < 2 ^ 32) x.preds) all (added ∷ []) is.preds (tt, tt);
    })
large_in Body es acts None (line.Pred j) q e fits is = absurd (none_some q e)
large_in Body es acts (Some a) (line.Pred j) q e fits is =
    let longer : Action = record { kind = a.kind; preds = a.preds ++ j ∷ [] } in
    let kinds = all_parts (λ (x : Action). KindFits x.kind) acts (a ∷ []) is.kinds in
    let numbers = all_parts (λ (x : Action). AllByRecursion (λ y. y < 2 ^ 32) x.preds) acts (a ∷ []) is.preds in
    subst (λ z. IsLarge (plan_of z)) (some_one _ q e) (record {
      counts = (omega (arith, is.limits.entries), omega (arith, is.limits.actions, length-append acts (longer ∷ []), length-append acts (a ∷ [])));
      entries = is.entries;
      kinds = all_append (λ (x : Action). KindFits x.kind) acts (longer ∷ []) kinds.0 kinds.1;
      preds = all_append (λ (x : Action). AllByRecursion (λ y. y < 2 ^ 32) x.preds) acts (longer ∷ []) numbers.0 (all_append (λ y. y < 2 ^ 32) a.preds (j ∷ []) numbers.1.0 (fits, tt), tt);
    })
large_in Body es acts last (line.End m n) q e fits is =
    let f : Progress = record { part = Ended; entries = es; actions = acts; last = last } in
    let to = counted m n (length es) (length (acts ++ option_to_list last)) f q e in
    subst (λ z. IsLarge (plan_of z)) to.2 (large _ is)
large_in Ended es acts last l q e fits is = absurd (none_some q e)

-- a plan's lines begin with those read of it
begins_in : (part : Part) (es : List Entry) (acts : List Action) → Begins (record { entries = es; actions = acts }) (fed_in part es acts)
begins_in Start es acts = (plan_lines (record { entries = es; actions = acts }), refl)
begins_in Body es acts = (words (codes "end" ∷ decimal (length es) ∷ decimal (length acts) ∷ []) ∷ [], refl)
begins_in Ended es acts = ([], sym (append-nil (plan_lines (record { entries = es; actions = acts }))))

-- ---- the reader

-- what was read is the beginning of a plan
pub begun : (p : Progress) → IsProgress p → IsBegun p
begun p is = (plan_of p, is.plan, begins_in p.part p.entries (all_actions p))

pub begun_start : IsBegun start
begun_start = (
  plan_of start,
  record { limits = record { entries = omega arith; actions = omega arith; preds = omega arith }; entries = tt; kinds = tt; preds = tt },
  begins_in Start [] [],
)

-- a line that can't be read
pub line_refused : (p : Progress) (one : Line) (f : PlanFault) → IsProgress p → ReadsLine one (Err f) → ReadsNext p one (Err f) p
line_refused p one OutOfMemory is h = refl
line_refused p one Failed is h = h
line_refused p one NotCanonical is h = (refl, not_begun p one is (λ l fits same. absurd (h l fits same)))
line_refused p one PastLimit is h = absurd h

-- a line that was read
pub line_taken : (p : Progress) (one : Line) (l : PlanLine) (r : Result (Unit {0}) PlanFault) (new : Progress) → IsProgress p → LineFits l → one ≡ line_text l → Takes p l r new → ReadsNext p one r new
line_taken p one l (Ok x) new is fits same h = read_in p.part p.entries p.actions p.last l new is.first is.none h ∙ ap (λ z. fed p ++ z ∷ []) (sym same)
line_taken p one l (Err OutOfMemory) new is fits same h = h
line_taken p one l (Err Failed) new is fits same h = h
line_taken p one l (Err NotCanonical) new is fits same h =
    (h.0, not_begun p one is (λ m fits_m same_m. subst (λ z. step p z ≡ None) (one_line l m fits fits_m (sym same ∙ same_m)) h.1))
line_taken p one l (Err PastLimit) new is fits same h =
    let next = h.1.0 in
    let read = read_in p.part p.entries p.actions p.last l next is.first is.none h.1.1 ∙ ap (λ z. fed p ++ z ∷ []) (sym same) in (
      h.0,
      λ q is_q begins.
          let found = next_line p one q is (large q is_q) begins in
          let done = completed q in
          let same_line = one_line l found.0 fits found.2 (sym same ∙ found.3) in
          let led_to : run next found.1 ≡ Some done.0 = ap (option_and_then (λ x. run x found.1)) (sym h.1.1 ∙ ap (step p) same_line) ∙ sym found.4 ∙ done.1 in
          h.1.2 (run_within next found.1 done.0 led_to (subst (λ z. WithinLimits z) (sym done.3) is_q.limits)),
      (plan_of next, large_in p.part p.entries p.actions p.last l next h.1.1 fits is.plan, subst (λ z. Begins (plan_of next) z) read (begins_in next.part next.entries (all_actions next))),
    )

-- a plan isn't read before its last line
pub not_ended : (p : Progress) → IsProgress p → p.part ≢ Ended → (q : Plan) → IsLarge q → plan_lines q ≢ fed p
not_ended p is going q is_q e =
    let spelled = plan_spelled q ∙ e ∙ sym (fed_spelled p.part p.entries (all_actions p)) in
    let same = one_spelling (plan_steps q) (steps p) (plan_fits q is_q) (steps_fit p.part (plan_of p) (large (plan_of p) is.plan)) spelled in
    let done = completed q in
    let here : Some done.0 ≡ Some p = sym done.1 ∙ ap (run start) (same ∙ sym (append-nil (steps p))) ∙ run_steps p [] is in
    going (sym (ap (λ z. z.part) (some_one done.0 p here)) ∙ done.2)
