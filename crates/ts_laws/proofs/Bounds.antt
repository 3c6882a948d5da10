-- What a valid plan keeps within: its number of actions, and its entries' places.
use Rattle.std.proofs.Common.{◌≡◌, ℕ, ◌<◌, ◌≤◌, Bool, true, false, leb, leb-true, leb-false, length, inl, ⊎_elim, refl, arith}
use Rattle.std.proofs.lemmas.Bool.{cases_lt}
use Rattle.std.proofs.lemmas.Option.{slice_get_within}
use Rattle.ts_model.specs.Sync.{Snapshot}
use Rattle.ts_model.specs.Plans.{KindIs, Valid}
use Rattle.ts_model.specs.declared.plan.Kind.TheVariants.{Commit}
use Rattle.ts_model.specs.declared.plan.Plan.{Plan}
use Rattle.ts_model.specs.declared.plan.PlanRule.TheVariants.{Limits, OneCommit}

-- a valid plan has few actions
pub few_actions : (s : Snapshot) (plan : Plan) → Valid s plan → length plan.actions ≤ 1048576
few_actions s plan valid = go (leb (length plan.actions) 1048576) refl
  where
    go : (few : Bool) → leb (length plan.actions) 1048576 ≡ few → length plan.actions ≤ 1048576
    go true e = leb-true (length plan.actions) 1048576 e
    go false e = absurd (valid Limits 0 (refl, λ w. (let most = w.actions in let many = leb-false (length plan.actions) 1048576 e in absurd (omega arith))))

-- each of its commits is for one of its entries
pub entry_within : (s : Snapshot) (plan : Plan) → Valid s plan → (i e : ℕ) → KindIs plan i (Commit e) → e < length plan.entries
entry_within s plan valid i e kind = ⊎_elim
    (λ (h : e < length plan.entries). h)
    (λ (far : length plan.entries ≤ e). absurd (valid OneCommit i (inl (e, kind, inl (λ c. (let within = slice_get_within plan.entries e c.0 c.2.0 in absurd (omega arith)))))))
    (cases_lt e (length plan.entries))
