use Rattle.std.proofs.Common.{◌≡◌, List, ◌<◌, ℕ, take, length, get_or, sym, subst}
use Rattle.std.proofs.lemmas.List.{take_all}
use Rattle.ts_model.specs.Plans.{Waits}
use Rattle.ts_model.specs.Runs.{Run, Has, HasNot, finishes, releases}
use Rattle.ts_model.specs.declared.plan.Plan.{Plan}
use Rattle.ts_board.specs.Calls.{mine}
use Rattle.ts_exec.proofs.Rows.{are_releases, ascend_within, contains_at, not_released_yet, released_among, releases_for}
use Rattle.ts_exec.proofs.shared.Shared.release_all.Goals as goal
use Rattle.ts_laws.proofs.Cuts.{any_in_longer, none_in_both}

pub release-requires-clause-action : goal.release-requires-clause-action
release-requires-clause-action g c κs within =
    let j = c.args.self.now in let js = c.successors-successors.result.now in
    subst (λ (z : Plan). get_or js c.loop-j.j-index 0 < length z.actions) (sym j.plan) (ascend_within (length j.checked.now.plan.actions) js c.successors-successors.ensures.ascending c.loop-j.j-index 0 c.loop-j-test.true)

pub release-requires-clause-may : goal.release-requires-clause-may
release-requires-clause-may g c κs within =
    let j = c.args.self.now in let js = c.successors-successors.result.now in let n = c.loop-j.j-index in let i = c.args.i in let own = mine c.args.pass.now in
    let k = get_or js n 0 in let inv = c.loop-j.invariant in
    let h : n < length js = c.loop-j-test.true in (
      subst (λ (z : Run). Has z (finishes i)) (sym inv.steps) (any_in_longer (finishes i) own (releases_for i (take n js)) c.requires.done),
      subst (λ (z : Plan). Waits z k i) (sym j.plan) ((c.successors-successors.ensures.waiting k).0 (contains_at js n 0 h)),
      subst (λ (z : Run). HasNot z (releases i k)) (sym inv.steps)
          (none_in_both (releases i k) own (releases_for i (take n js)) (c.requires.fresh k) (not_released_yet (length j.checked.now.plan.actions) i n 0 js c.successors-successors.ensures.ascending h)),
    )

pub returns-clause-steps : goal.returns-clause-steps
returns-clause-steps g c =
    let js = c.successors-successors.result.now in let n = c.loop-j.j-index in let i = c.args.i in
    let whole : take n js ≡ js = take_all n js c.loop-j-test.false in (
      releases_for i (take n js),
      c.loop-j.invariant.steps,
      are_releases i (take n js),
      (λ k waits. subst (λ (z : List ℕ). Has (releases_for i z) (releases i k)) (sym whole) (released_among i k js ((c.successors-successors.ensures.waiting k).1 waits))),
    )
