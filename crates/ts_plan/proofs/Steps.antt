-- Lines that lead past a limit.
use Rattle.std.proofs.Common.{◌≡◌, ℕ, ◌+◌, ◌<◌, ◌≤◌, List, [], ◌∷◌, ◌++◌, length, Option, Some, None, option_to_list, is_some, true, false, ◌^◌, sum_by, refl, sym, ap, ap₂, ◌∙◌, subst, arith, length-append}
use Rattle.std.proofs.lemmas.List.Sums.{sum_by-append}
use Rattle.ts_model.specs.Plans.{WithinLimits}
use Rattle.ts_model.specs.declared.plan.Entry.{Entry}
use Rattle.ts_model.specs.declared.plan.Kind.{Kind}
use Rattle.ts_model.specs.declared.plan.Action.{Action}
use Rattle.std.specs.List.{AllByRecursion}
use Rattle.ts_model.specs.Texts.{KindFits}
use Rattle.ts_name.proofs.Utf8.{all_append, all_parts}
use Rattle.ts_plan.specs.Reading.{IsProgress}
use Rattle.ts_plan.specs.Progress.{Progress, all_actions, plan_of, step, step_in}
use Rattle.ts_plan.specs.declared.progress.Part.TheVariants.{Start, Body}
use Rattle.ts_plan.specs.declared.line.PlanLine.{PlanLine}
use Rattle.ts_plan.specs.declared.line.PlanLine.TheVariants as line

-- a line leads on, past a limit
abbrev pub LeadsPast : Progress → PlanLine → Type 0
LeadsPast p l = (next : Progress) × (step p l ≡ Some next) × (¬ WithinLimits (plan_of next))

pub past_entry : (p : Progress) (e : Entry) → p.part ≡ Body → p.last ≡ None → 1048576 ≤ length p.entries → LeadsPast p (line.Entry e)
past_entry p e body none full = (
  record { part = Body; entries = p.entries ++ e ∷ []; actions = p.actions; last = None },
  ap₂ (λ x y. step_in x p.entries p.actions y (line.Entry e)) body none,
  λ within. omega (arith, within.entries, length-append p.entries (e ∷ []), full),
)

pub past_action : (p : Progress) (kind : Kind) → p.part ≡ Body → 1048576 ≤ length (all_actions p) → LeadsPast p (line.Action kind)
past_action p kind body full =
    let added : Action = record { kind = kind; preds = [] } in (
      record { part = Body; entries = p.entries; actions = all_actions p; last = Some added },
      ap (λ x. step_in x p.entries p.actions p.last (line.Action kind)) body,
      λ within. omega (arith, within.actions, length-append (all_actions p) (added ∷ []), full),
    )

pub past_pred : (p : Progress) (a : Action) (j : ℕ) → p.part ≡ Body → p.last ≡ Some a → 4194304 ≤ sum_by (λ x. length x.preds) (all_actions p) → LeadsPast p (line.Pred j)
past_pred p a j body last full =
    let longer : Action = record { kind = a.kind; preds = a.preds ++ j ∷ [] } in
    let before : 4194304 ≤ sum_by (λ x. length x.preds) (p.actions ++ a ∷ []) = subst (λ o. 4194304 ≤ sum_by (λ x. length x.preds) (p.actions ++ option_to_list o)) last full in (
      record { part = Body; entries = p.entries; actions = p.actions; last = Some longer },
      ap₂ (λ x y. step_in x p.entries p.actions y (line.Pred j)) body last,
      λ within. omega (arith, within.preds, before, sum_by-append (λ (x : Action). length x.preds) p.actions (longer ∷ []), sum_by-append (λ (x : Action). length x.preds) p.actions (a ∷ []), length-append a.preds (j ∷ [])),
    )

-- no action is open
pub none_open : (o : Option Action) → is_some o ≡ false → o ≡ None
none_open None e = refl
none_open (Some a) e = absurd cc

-- an action is open
pub some_open : (o : Option Action) → is_some o ≡ true → (a : Action) × (o ≡ Some a)
some_open None e = absurd cc
some_open (Some a) e = (a, refl)

-- the last action with one predecessor more
pub pred_progress : (p : Progress) (a : Action) (preds : List ℕ) (j n : ℕ) → IsProgress p → p.part ≡ Body → p.last ≡ Some a → preds ≡ a.preds ++ j ∷ [] → j < 2 ^ 32
    → n ≡ sum_by (λ x. length x.preds) (all_actions p) → n < 4194304
    → IsProgress (record { part = p.part; entries = p.entries; actions = p.actions; last = Some (record { kind = a.kind; preds = preds }) })
    × (n + 1 ≡ sum_by (λ x. length x.preds) (p.actions ++ record { kind = a.kind; preds = preds } ∷ []))
pred_progress p a preds j n is body last grown small count few =
    let longer : Action = record { kind = a.kind; preds = preds } in
    let same : all_actions p ≡ p.actions ++ a ∷ [] = ap (λ o. p.actions ++ option_to_list o) last in
    let size : length preds ≡ length a.preds + 1 = ap length grown ∙ length-append a.preds (j ∷ []) in
    let before = count ∙ ap (sum_by (λ (x : Action). length x.preds)) same ∙ sum_by-append (λ (x : Action). length x.preds) p.actions (a ∷ []) in
    let after : n + 1 ≡ sum_by (λ x. length x.preds) (p.actions ++ longer ∷ []) = omega (arith, before, size, sum_by-append (λ (x : Action). length x.preds) p.actions (longer ∷ [])) in
    let kinds = all_parts (λ (x : Action). KindFits x.kind) p.actions (a ∷ []) (subst (λ l. AllByRecursion (λ (x : Action). KindFits x.kind) l) same is.plan.kinds) in
    let numbers = all_parts (λ (x : Action). AllByRecursion (λ y. y < 2 ^ 32) x.preds) p.actions (a ∷ []) (subst (λ l. AllByRecursion (λ (x : Action). AllByRecursion (λ y. y < 2 ^ 32) x.preds) l) same is.plan.preds) in
    let more = subst (λ l. AllByRecursion (λ y. y < 2 ^ 32) l) (sym grown) (all_append (λ y. y < 2 ^ 32) a.preds (j ∷ []) numbers.1.0 (small, tt)) in (
      record {
        plan = record {
          limits = record {
            entries = is.plan.limits.entries;
            actions = omega (arith, is.plan.limits.actions, ap length same, length-append p.actions (a ∷ []), length-append p.actions (longer ∷ []));
            preds = omega (arith, sym after, few);
          };
          entries = is.plan.entries;
          kinds = all_append (λ (x : Action). KindFits x.kind) p.actions (longer ∷ []) kinds.0 kinds.1;
          preds = all_append (λ (x : Action). AllByRecursion (λ y. y < 2 ^ 32) x.preds) p.actions (longer ∷ []) numbers.0 (more, tt);
        };
        first = λ e. absurd cc;
        none = λ e. absurd (body_no_start (sym body ∙ e));
      },
      after,
    )
  where
    body_no_start : Body ≡ Start → ⊥
    body_no_start e = cc
