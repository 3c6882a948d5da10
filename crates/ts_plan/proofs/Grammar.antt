-- The lines of a plan lead from the start to its end, and no others do.
use Rattle.std.proofs.Common.{◌≡◌, ℕ, ◌^◌, ◌<◌, ◌==◌, ◌&&◌, Bool, true, cond, List, [], ◌∷◌, ◌++◌, length, map, flat_map, codes, decimal, Option, Some, None, option_to_list, option_and_then, refl, sym, ap, ap₂, ◌∙◌, arith, append_assoc, append-nil, eq-eqb}
use Rattle.std.specs.List.{AllByRecursion}
use Rattle.std.proofs.lemmas.List.{map-append}
use Rattle.ts_model.specs.Texts.{Line, words, entry_line, kind_line, pred_line, action_lines, plan_lines, PathFits, KindFits, IsPlan}
use Rattle.ts_model.specs.declared.plan.Entry.{Entry}
use Rattle.ts_model.specs.declared.plan.Kind.{Kind}
use Rattle.ts_model.specs.declared.plan.Action.{Action}
use Rattle.ts_model.specs.declared.plan.Plan.{Plan}
use Rattle.ts_name.proofs.Spelling.{cons_parts}
use Rattle.ts_name.proofs.Utf8.{all_append}
use Rattle.ts_plan.specs.PlanLines.{line_text, LineFits}
use Rattle.ts_plan.specs.Progress.{Progress, all_actions, plan_of, start, body_lines, fed_in, fed, step, step_in}
use Rattle.ts_plan.specs.Reading.{IsLarge, IsProgress, Begins}
use Rattle.ts_plan.specs.declared.progress.Part.{Part}
use Rattle.ts_plan.specs.declared.progress.Part.TheVariants.{Start, Body, Ended}
use Rattle.ts_plan.specs.declared.line.PlanLine.{PlanLine}
use Rattle.ts_plan.specs.declared.line.PlanLine.TheVariants as line
use Rattle.ts_plan.proofs.Same.{one_line}

-- ---- the lines of a plan

abbrev pub Lines : Type 0
Lines = List PlanLine

abbrev pub pred_steps : List ℕ → Lines
pred_steps js = map (λ j. line.Pred j) js

abbrev pub action_steps : Action → Lines
action_steps a = line.Action a.kind ∷ pred_steps a.preds

abbrev pub actions_steps : List Action → Lines
actions_steps [] = []
actions_steps (a ∷ acts) = action_steps a ++ actions_steps acts

abbrev pub entry_steps : List Entry → Lines
entry_steps es = map (λ e. line.Entry e) es

abbrev pub body_steps : List Entry → List Action → Lines
body_steps es acts = line.Header ∷ (entry_steps es ++ actions_steps acts)

abbrev pub plan_steps : Plan → Lines
plan_steps q = body_steps q.entries q.actions ++ line.End (length q.entries) (length q.actions) ∷ []

entries_spelled : (es : List Entry) → map line_text (entry_steps es) ≡ map entry_line es
entries_spelled [] = refl
entries_spelled (e ∷ es) = ap (λ z. entry_line e ∷ z) (entries_spelled es)

preds_spelled : (js : List ℕ) → map line_text (pred_steps js) ≡ map pred_line js
preds_spelled [] = refl
preds_spelled (j ∷ js) = ap (λ z. pred_line j ∷ z) (preds_spelled js)

actions_spelled : (acts : List Action) → map line_text (actions_steps acts) ≡ flat_map action_lines acts
actions_spelled [] = refl
actions_spelled (a ∷ acts) =
    map-append line_text (action_steps a) (actions_steps acts) ∙ ap₂ ◌++◌ (ap (λ z. kind_line a.kind ∷ z) (preds_spelled a.preds)) (actions_spelled acts)

body_spelled : (es : List Entry) (acts : List Action) → map line_text (body_steps es acts) ≡ body_lines es acts
body_spelled es acts = ap (λ z. codes "twosync-plan 1" ∷ z) (map-append line_text (entry_steps es) (actions_steps acts) ∙ ap₂ ◌++◌ (entries_spelled es) (actions_spelled acts))

pub plan_spelled : (q : Plan) → map line_text (plan_steps q) ≡ plan_lines q
plan_spelled q = map-append line_text (body_steps q.entries q.actions) (line.End (length q.entries) (length q.actions) ∷ [])
    ∙ ap (λ z. z ++ words (codes "end" ∷ decimal (length q.entries) ∷ decimal (length q.actions) ∷ []) ∷ []) (body_spelled q.entries q.actions)

-- ---- they are lawful

abbrev pub AllFit : Lines → Type 0
AllFit ls = AllByRecursion LineFits ls

entries_fit : (es : List Entry) → AllByRecursion (λ e. PathFits e.path) es → AllFit (entry_steps es)
entries_fit [] fits = tt
entries_fit (e ∷ es) fits = (fits.0, entries_fit es fits.1)

preds_fit : (js : List ℕ) → AllByRecursion (λ j. j < 2 ^ 32) js → AllFit (pred_steps js)
preds_fit [] fits = tt
preds_fit (j ∷ js) fits = (fits.0, preds_fit js fits.1)

actions_fit : (acts : List Action) → AllByRecursion (λ a. KindFits a.kind) acts → AllByRecursion (λ a. AllByRecursion (λ j. j < 2 ^ 32) a.preds) acts → AllFit (actions_steps acts)
actions_fit [] kinds preds = tt
actions_fit (a ∷ acts) kinds preds = all_append LineFits (action_steps a) (actions_steps acts) (kinds.0, preds_fit a.preds preds.0) (actions_fit acts kinds.1 preds.1)

body_fits : (q : Plan) → IsLarge q → AllFit (body_steps q.entries q.actions)
body_fits q is = (tt, all_append LineFits (entry_steps q.entries) (actions_steps q.actions) (entries_fit q.entries is.entries) (actions_fit q.actions is.kinds is.preds))

pub plan_fits : (q : Plan) → IsLarge q → AllFit (plan_steps q)
plan_fits q is = all_append LineFits (body_steps q.entries q.actions) (line.End (length q.entries) (length q.actions) ∷ []) (body_fits q is) (is.counts, tt)

-- a plan within the limits is one
pub large : (q : Plan) → IsPlan q → IsLarge q
large q is = record {
  counts = (omega (arith, is.limits.entries), omega (arith, is.limits.actions));
  entries = is.entries;
  kinds = is.kinds;
  preds = is.preds;
}

-- ---- one list of lines has one spelling

-- lines that begin as others do, and go on with one more
begun : (xs ys : Lines) (one : Line) (rest : List Line) → AllFit xs → AllFit ys → map line_text xs ≡ map line_text ys ++ one ∷ rest
    → (l : PlanLine) × (more : Lines) × (xs ≡ ys ++ l ∷ more) × LineFits l × (one ≡ line_text l)
begun [] [] one rest fits_x fits_y e = absurd cc
begun [] (y ∷ ys) one rest fits_x fits_y e = absurd cc
begun (x ∷ xs) [] one rest fits_x fits_y e = (x, xs, refl, fits_x.0, sym (cons_parts (line_text x) one (map line_text xs) rest e).0)
begun (x ∷ xs) (y ∷ ys) one rest fits_x fits_y e =
    let parts = cons_parts (line_text x) (line_text y) (map line_text xs) (map line_text ys ++ one ∷ rest) e in
    let more = begun xs ys one rest fits_x.1 fits_y.1 parts.1 in
    (more.0, more.1, ap₂ ◌∷◌ (one_line x y fits_x.0 fits_y.0 parts.0) more.2, more.3, more.4)

pub one_spelling : (xs ys : Lines) → AllFit xs → AllFit ys → map line_text xs ≡ map line_text ys → xs ≡ ys
one_spelling [] [] fits_x fits_y e = refl
one_spelling [] (y ∷ ys) fits_x fits_y e = absurd cc
one_spelling (x ∷ xs) [] fits_x fits_y e = absurd cc
one_spelling (x ∷ xs) (y ∷ ys) fits_x fits_y e =
    let parts = cons_parts (line_text x) (line_text y) (map line_text xs) (map line_text ys) e in
    ap₂ ◌∷◌ (one_line x y fits_x.0 fits_y.0 parts.0) (one_spelling xs ys fits_x.1 fits_y.1 parts.1)

-- ---- where lines lead

abbrev pub run : Progress → Lines → Option Progress
run p [] = Some p
run p (l ∷ ls) = option_and_then (λ q. run q ls) (step p l)

abbrev body : List Entry → List Action → Option Action → Progress
body es acts last = record { part = Body; entries = es; actions = acts; last = last }

run_entries : (es xs : List Entry) (rest : Lines) → run (body es [] None) (entry_steps xs ++ rest) ≡ run (body (es ++ xs) [] None) rest
run_entries es [] rest = ap (λ z. run (body z [] None) rest) (sym (append-nil es))
run_entries es (x ∷ xs) rest = run_entries (es ++ x ∷ []) xs rest ∙ ap (λ z. run (body z [] None) rest) (append_assoc es (x ∷ []) xs)

run_preds : (es : List Entry) (acts : List Action) (kind : Kind) (ps js : List ℕ) (rest : Lines)
    → run (body es acts (Some (record { kind = kind; preds = ps }))) (pred_steps js ++ rest) ≡ run (body es acts (Some (record { kind = kind; preds = ps ++ js }))) rest
run_preds es acts kind ps [] rest = ap (λ z. run (body es acts (Some (record { kind = kind; preds = z }))) rest) (sym (append-nil ps))
run_preds es acts kind ps (j ∷ js) rest =
    run_preds es acts kind (ps ++ j ∷ []) js rest ∙ ap (λ z. run (body es acts (Some (record { kind = kind; preds = z }))) rest) (append_assoc ps (j ∷ []) js)

-- where actions lead
abbrev after : List Entry → List Action → Option Action → List Action → Progress
after es acts last [] = body es acts last
after es acts last (x ∷ xs) = after es (acts ++ option_to_list last) (Some x) xs

run_actions : (es : List Entry) (acts : List Action) (last : Option Action) (xs : List Action) (rest : Lines)
    → run (body es acts last) (actions_steps xs ++ rest) ≡ run (after es acts last xs) rest
run_actions es acts last [] rest = refl
run_actions es acts last (x ∷ xs) rest =
    ap (run (body es acts last)) (append_assoc (action_steps x) (actions_steps xs) rest)
    ∙ run_preds es (acts ++ option_to_list last) x.kind [] x.preds (actions_steps xs ++ rest)
    ∙ run_actions es (acts ++ option_to_list last) (Some x) xs rest

run_body : (es : List Entry) (xs : List Action) (rest : Lines) → run start (body_steps es xs ++ rest) ≡ run (after es [] None xs) rest
run_body es xs rest =
    ap (run (body [] [] None)) (append_assoc (entry_steps es) (actions_steps xs) rest) ∙ run_entries [] es (actions_steps xs ++ rest) ∙ run_actions es [] None xs rest

after_part : (es : List Entry) (acts : List Action) (last : Option Action) (xs : List Action) → (after es acts last xs).part ≡ Body
after_part es acts last [] = refl
after_part es acts last (x ∷ xs) = after_part es (acts ++ option_to_list last) (Some x) xs

after_entries : (es : List Entry) (acts : List Action) (last : Option Action) (xs : List Action) → (after es acts last xs).entries ≡ es
after_entries es acts last [] = refl
after_entries es acts last (x ∷ xs) = after_entries es (acts ++ option_to_list last) (Some x) xs

after_actions : (es : List Entry) (acts : List Action) (last : Option Action) (xs : List Action) → all_actions (after es acts last xs) ≡ (acts ++ option_to_list last) ++ xs
after_actions es acts last [] = sym (append-nil (acts ++ option_to_list last))
after_actions es acts last (x ∷ xs) = after_actions es (acts ++ option_to_list last) (Some x) xs ∙ append_assoc (acts ++ option_to_list last) (x ∷ []) xs

after_last : (es : List Entry) (acts : List Action) (last : Option Action) (xs : List Action) (x : Action)
    → after es acts last (xs ++ x ∷ []) ≡ body es ((acts ++ option_to_list last) ++ xs) (Some x)
after_last es acts last [] x = ap (λ z. body es z (Some x)) (sym (append-nil (acts ++ option_to_list last)))
after_last es acts last (y ∷ xs) x =
    after_last es (acts ++ option_to_list last) (Some y) xs x ∙ ap (λ z. body es z (Some x)) (append_assoc (acts ++ option_to_list last) (y ∷ []) xs)

-- where the actions of a reader lead
reached : (es : List Entry) (acts : List Action) (last : Option Action) → (last ≡ None → acts ≡ []) → after es [] None (acts ++ option_to_list last) ≡ body es acts last
reached es acts None first = let none = first refl in ap (λ z. after es [] None z) (append-nil acts ∙ none) ∙ ap (λ z. body es z None) (sym none)
reached es acts (Some x) first = after_last es [] None acts x

abbrev ended : Progress → Progress
ended p = record { part = Ended; entries = p.entries; actions = p.actions; last = p.last }

and_true : (x y : Bool) → x ≡ true → y ≡ true → (x && y) ≡ true
and_true x y e f = ap₂ ◌&&◌ e f

step_end : (p : Progress) (m n : ℕ) → p.part ≡ Body → m ≡ length p.entries → n ≡ length (all_actions p) → step p (line.End m n) ≡ Some (ended p)
step_end p m n is_body es acts =
    ap (λ x. step_in x p.entries p.actions p.last (line.End m n)) is_body
    ∙ ap (λ b. cond b (Some (ended p)) None) (and_true (m == length p.entries) (n == length (all_actions p)) (eq-eqb m (length p.entries) es) (eq-eqb n (length (all_actions p)) acts))

-- a plan's lines lead to its end
pub completed : (q : Plan) → (f : Progress) × (run start (plan_steps q) ≡ Some f) × (f.part ≡ Ended) × (plan_of f ≡ q)
completed q =
    let p = after q.entries [] None q.actions in
    let es = after_entries q.entries [] None q.actions in
    let acts = after_actions q.entries [] None q.actions in (
      ended p,
      run_body q.entries q.actions (line.End (length q.entries) (length q.actions) ∷ [])
          ∙ ap (option_and_then (λ x. run x [])) (step_end p (length q.entries) (length q.actions) (after_part q.entries [] None q.actions) (sym (ap length es)) (sym (ap length acts))),
      refl,
      λ i. record { entries = es i; actions = acts i },
    )

-- ---- the lines that a reader has read

abbrev pub steps_in : Part → List Entry → List Action → Lines
steps_in Start es acts = []
steps_in Body es acts = body_steps es acts
steps_in Ended es acts = body_steps es acts ++ line.End (length es) (length acts) ∷ []

abbrev pub steps : Progress → Lines
steps p = steps_in p.part p.entries (all_actions p)

pub fed_spelled : (part : Part) (es : List Entry) (acts : List Action) → map line_text (steps_in part es acts) ≡ fed_in part es acts
fed_spelled Start es acts = refl
fed_spelled Body es acts = body_spelled es acts
fed_spelled Ended es acts = plan_spelled (record { entries = es; actions = acts })

pub steps_fit : (part : Part) (q : Plan) → IsLarge q → AllFit (steps_in part q.entries q.actions)
steps_fit Start q is = tt
steps_fit Body q is = body_fits q is
steps_fit Ended q is = plan_fits q is

run_steps_in : (part : Part) (es : List Entry) (acts : List Action) (last : Option Action) (rest : Lines) → (last ≡ None → acts ≡ []) → (part ≡ Start → (es ≡ []) × (last ≡ None))
    → run start (steps_in part es (acts ++ option_to_list last) ++ rest) ≡ run (record { part = part; entries = es; actions = acts; last = last }) rest
run_steps_in Start es acts last rest first none =
    let empty = none refl in
    λ i. run (record { part = Start; entries = (sym empty.0) i; actions = (sym (first empty.1)) i; last = (sym empty.1) i }) rest
run_steps_in Body es acts last rest first none = run_body es (acts ++ option_to_list last) rest ∙ ap (λ p. run p rest) (reached es acts last first)
run_steps_in Ended es acts last rest first none =
    let all = acts ++ option_to_list last in
    ap (run start) (append_assoc (body_steps es all) (line.End (length es) (length all) ∷ []) rest)
    ∙ run_body es all (line.End (length es) (length all) ∷ rest)
    ∙ ap (λ p. run p (line.End (length es) (length all) ∷ rest)) (reached es acts last first)
    ∙ ap (option_and_then (λ p. run p rest)) (step_end (body es acts last) (length es) (length all) refl refl refl)

pub run_steps : (p : Progress) (rest : Lines) → IsProgress p → run start (steps p ++ rest) ≡ run p rest
run_steps p rest is = run_steps_in p.part p.entries p.actions p.last rest is.first is.none

-- a plan that begins so has one more of its lines here
pub next_line : (p : Progress) (one : Line) (q : Plan) → IsProgress p → IsLarge q → Begins q (fed p ++ one ∷ [])
    → (l : PlanLine) × (more : Lines) × LineFits l × (one ≡ line_text l) × (run start (plan_steps q) ≡ run p (l ∷ more))
next_line p one q is is_q begins =
    let spelled = plan_spelled q ∙ begins.1 ∙ append_assoc (fed p) (one ∷ []) begins.0 ∙ ap (λ z. z ++ one ∷ begins.0) (sym (fed_spelled p.part p.entries (all_actions p))) in
    let found = begun (plan_steps q) (steps p) one begins.0 (plan_fits q is_q) (steps_fit p.part (plan_of p) (large (plan_of p) is.plan)) spelled in
    (found.0, found.1, found.3, found.4, ap (run start) found.2 ∙ run_steps p (found.0 ∷ found.1) is)

-- where no line leads on, no plan begins so
pub not_begun : (p : Progress) (one : Line) → IsProgress p → ((l : PlanLine) → LineFits l → one ≡ line_text l → step p l ≡ None) → (q : Plan) → IsLarge q → ¬ Begins q (fed p ++ one ∷ [])
not_begun p one is refused q is_q begins =
    let next = next_line p one q is is_q begins in
    let none : run p (next.0 ∷ next.1) ≡ None = ap (option_and_then (λ x. run x next.1)) (refused next.0 next.2 next.3) in
    let done = completed q in
    some_no_none done.0 (sym done.1 ∙ next.4 ∙ none)
  where
    some_no_none : (f : Progress) → ◌≡◌ {A = Option Progress} (Some f) None → ⊥
    some_no_none f e = cc
