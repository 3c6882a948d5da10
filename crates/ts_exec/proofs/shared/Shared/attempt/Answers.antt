use Rattle.std.proofs.Common.{◌≡◌, ◌≢◌, ◌<◌, ◌++◌, ◌∷◌, [], ℕ, Some, length, refl, sym, ap, ◌∙◌, subst, inl, inr, append-nil}
use Rattle.ts_model.specs.Runs.{Run, Has, HasNot, IsPending, IsPieceOf, claims, finishes, releases, word_after}
use Rattle.ts_model.specs.declared.plan.Plan.{Plan}
use Rattle.ts_model.specs.declared.step.Step.TheVariants.{Claim, Act, Done, Fail}
use Rattle.ts_model.specs.declared.step.Work.{Work}
use Rattle.ts_board.specs.Calls.{mine, seen, terms_of, work_of}
use Rattle.ts_board.specs.Runs.{StartsWith}
use Rattle.ts_board.specs.Terms.{IsSited}
use Rattle.ts_exec.specs.Failures.{IsTold, MayFail}
use Rattle.ts_exec.specs.Tidy.{AreTakes}
use Rattle.ts_exec.specs.Sharing.{setting_of}
use Rattle.ts_exec.proofs.Claims.{not_released, not_taken}
use Rattle.ts_exec.proofs.Stores.{stays_from, stays_same}
use Rattle.ts_exec.proofs.Reading.{may_later, starts_after, starts_through, told_done, told_failed}
use Rattle.ts_exec.proofs.Steps.{has_right, takes_none}
use Rattle.ts_exec.proofs.Tries.{block, claim_here, done_here_last, ending, steps_done, steps_failed, try_done, try_failed, try_none}
use Rattle.ts_exec.proofs.shared.Shared.attempt.Goals as goal
use Rattle.ts_laws.proofs.Cuts.{none_in_both}

pub returns-in_err-held-clause-steps : goal.returns-in_err-held-clause-steps
returns-in_err-held-clause-steps g c = ([], c.in_err-held.ensures.lost.0.1 ∙ sym (append-nil (mine c.args.pass.now)), try_none c.args.self.now.checked.now.plan c.args.i c.from_residual.result, tt)

pub act-requires-clause-site : goal.act-requires-clause-site
act-requires-clause-site g c κs within =
    let j = c.args.self.now in let held = c.in_ok-held.held in
    subst (λ (z : ℕ). IsSited j.checked.now.plan z held.slot) (sym c.in_ok-held.ensures.won.0) (subst (λ (z : Plan). IsSited z c.args.i held.slot) j.plan c.in_ok-held.ensures.site)

pub act-requires-clause-untaken : goal.act-requires-clause-untaken
act-requires-clause-untaken g c κs within = λ k piece.
    let j = c.args.self.now in let won = c.in_ok-held.ensures.won in
    not_taken (terms_of g.S.Site.content j.board.now) j.checked.now (j.plan, j.first_print, j.second_print) j.valid c.args.pass.now c.claim.new.pass c.args.i won.1 c.requires.tidy k
    (subst (λ (z : ℕ). IsPieceOf j.checked.now.plan z k) won.0 piece)

pub release_all-requires-clause-fresh : goal.release_all-requires-clause-fresh
release_all-requires-clause-fresh g c κs within = λ k.
    let j = c.args.self.now in let won = c.in_ok-held.ensures.won in let i = c.args.i in let own = mine c.args.pass.now in
    let steps = c.act.ensures.steps in let more = steps.0 in let plan = j.checked.now.plan in
    let a = c.act.new.held.action in let w = work_of c.act.new.held in
    let before : HasNot own (releases i k) = not_released (terms_of g.S.Site.content j.board.now) j.checked.now (j.plan, j.first_print, j.second_print) j.valid c.args.pass.now c.claim.new.pass i won.1 k in
    let claimed : HasNot (mine c.claim.new.pass) (releases i k) = subst (λ (z : Run). HasNot z (releases i k)) (sym won.1.2) (none_in_both (releases i k) own (Claim i ∷ []) before refl) in
    let acted : HasNot (mine c.act.new.pass) (releases i k) = subst (λ (z : Run). HasNot z (releases i k)) (sym steps.1) (none_in_both (releases i k) (mine c.claim.new.pass) more claimed (takes_none (releases i k) plan c.in_ok-held.held.action (λ l. refl) more steps.2)) in
    subst (λ (z : Run). HasNot z (releases i k)) (sym c.done.ensures.done.2) (none_in_both (releases i k) (mine c.act.new.pass) (Act a w ∷ Done a ∷ []) acted refl)

pub returns-in-Ok-clause-steps : goal.returns-in-Ok-clause-steps
returns-in-Ok-clause-steps g c =
    let j = c.args.self.now in let won = c.in_ok-held.ensures.won in let i = c.args.i in let own = mine c.args.pass.now in let plan = j.checked.now.plan in
    let x = setting_of g.S.Site g.F.Folder g.G.Stop g.P.Stage j in
    let acted = seen c.act.new.pass in let done_seen = seen c.done.new.pass in let freed_seen = seen c.release_all.new.pass in let last_seen = seen c.keep_up.new.pass in let makes = c.done.ensures.done in
    let freed : StartsWith freed_seen acted = starts_through acted done_seen freed_seen (starts_after acted makes.0 (Act c.act.new.held.action (work_of c.act.new.held) ∷ Done c.act.new.held.action ∷ []) done_seen makes.1) c.release_all.ensures.seen in
    let later : StartsWith last_seen acted = starts_through acted freed_seen last_seen freed c.keep_up.ensures.looked.0 in
    let steps = c.act.ensures.steps in let more = steps.0 in let last = c.release_all.ensures.steps in let rest = last.0 in
    let a = c.act.new.held.action in let w : Work = work_of c.act.new.held in
    let same : a ≡ i = c.act.ensures.action ∙ won.0 in
    let takes_of : AreTakes plan i more = subst (λ (z : ℕ). AreTakes plan z more) won.0 steps.2 in
    let done : mine c.done.new.pass ≡ ((own ++ Claim i ∷ []) ++ more) ++ Act i w ∷ Done i ∷ [] =
    c.done.ensures.done.2 ∙ ap (λ (z : Run). z ++ Act a w ∷ Done a ∷ []) (steps.1 ∙ ap (λ (z : Run). z ++ more) won.1.2) ∙ ap (λ (z : ℕ). ((own ++ Claim i ∷ []) ++ more) ++ Act z w ∷ Done z ∷ []) same in (
      block i more (ending plan i more takes_of w rest last.2 last.3),
      c.keep_up.ensures.looked.1 ∙ last.1 ∙ ap (λ (z : Run). z ++ rest) done ∙ steps_done own more rest i w,
      try_done plan i more takes_of w rest last.2 last.3,
      told_done x acted last_seen plan i more rest w later takes_of last.2 (subst (λ (z : ℕ). IsTold x acted z w) won.0 c.in-Ok.ensures.told),
    )

pub returns-in-Err-clause-steps : goal.returns-in-Err-clause-steps
returns-in-Err-clause-steps g c =
    let j = c.args.self.now in let won = c.in_ok-held.ensures.won in let i = c.args.i in let own = mine c.args.pass.now in let plan = j.checked.now.plan in
    let x = setting_of g.S.Site g.F.Folder g.G.Stop g.P.Stage j in
    let steps = c.act.ensures.steps in let more = steps.0 in
    let a = c.act.new.held.action in
    let same : a ≡ i = c.act.ensures.action ∙ won.0 in
    let takes_of : AreTakes plan i more = subst (λ (z : ℕ). AreTakes plan z more) won.0 steps.2 in (
      block i more (Fail i ∷ []),
      c.keep_up-in-Err.ensures.looked.1 ∙ c.fail.ensures.failed.2 ∙ ap (λ (z : Run). z ++ Fail a ∷ []) (steps.1 ∙ ap (λ (z : Run). z ++ more) won.1.2) ∙ ap (λ (z : ℕ). ((own ++ Claim i ∷ []) ++ more) ++ Fail z ∷ []) same ∙ steps_failed own more i,
      try_failed plan i more takes_of (Some c.in-Err.fault) refl,
      told_failed x (seen c.keep_up-in-Err.new.pass) plan i more takes_of,
    )

pub returns-in-Err-clause-tried : goal.returns-in-Err-clause-tried
returns-in-Err-clause-tried g c =
    let won = c.in_ok-held.ensures.won in let i = c.args.i in let own = mine c.args.pass.now in let plan = c.args.self.now.checked.now.plan in
    let steps = c.act.ensures.steps in let more = steps.0 in let a = c.act.new.held.action in
    let same : a ≡ i = c.act.ensures.action ∙ won.0 in
    let takes_of : AreTakes plan i more = subst (λ (z : ℕ). AreTakes plan z more) won.0 steps.2 in
    let all : mine c.keep_up-in-Err.new.pass ≡ own ++ block i more (Fail i ∷ []) =
    c.keep_up-in-Err.ensures.looked.1 ∙ c.fail.ensures.failed.2 ∙ ap (λ (z : Run). z ++ Fail a ∷ []) (steps.1 ∙ ap (λ (z : Run). z ++ more) won.1.2) ∙ ap (λ (z : ℕ). ((own ++ Claim i ∷ []) ++ more) ++ Fail z ∷ []) same ∙ steps_failed own more i in
    inl (subst (λ (z : Run). Has z (claims i)) (sym all) (has_right (claims i) own (block i more (Fail i ∷ [])) (claim_here plan i more takes_of (Fail i ∷ []))))

pub returns-in-Err-clause-fault : goal.returns-in-Err-clause-fault
returns-in-Err-clause-fault g c =
    let j = c.args.self.now in let won = c.in_ok-held.ensures.won in let before = seen c.act.new.pass in let then = seen c.fail.new.pass in let failed = c.fail.ensures.failed in
    let x = setting_of g.S.Site g.F.Folder g.G.Stop g.P.Stage j in
    let last = seen c.keep_up-in-Err.new.pass in
    may_later x before last (starts_through before then last (starts_after before failed.0 (Fail c.act.new.held.action ∷ []) then failed.1) c.keep_up-in-Err.ensures.looked.0) c.args.i c.in-Err.fault
    (subst (λ (z : ℕ). MayFail x before z c.in-Err.fault) won.0 c.in-Err.ensures.fault)

-- ---- what was kept

pub returns-in_err-held-clause-kept : goal.returns-in_err-held-clause-kept
returns-in_err-held-clause-kept g c =
    stays_same c.args.self.now.checked.now (seen c.args.pass.now) (seen c.claim.new.pass) c.in_err-held.ensures.lost.0.0 (g.K.Keeper.kept c.args.keeping.now.keeper)

pub returns-in-Ok-clause-kept : goal.returns-in-Ok-clause-kept
returns-in-Ok-clause-kept g c =
    let won = c.in_ok-held.ensures.won in let makes = c.done.ensures.done in
    let first = seen c.args.pass.now in let claimed = seen c.claim.new.pass in let acted = seen c.act.new.pass in let done_seen = seen c.done.new.pass in let freed = seen c.release_all.new.pass in
    let a = starts_after first won.1.0 (Claim c.args.i ∷ []) claimed won.1.1 in
    let b = starts_through first claimed acted a c.act.ensures.seen in
    let d = starts_through first acted done_seen b (starts_after acted makes.0 (Act c.act.new.held.action (work_of c.act.new.held) ∷ Done c.act.new.held.action ∷ []) done_seen makes.1) in
    let e = starts_through first done_seen freed d c.release_all.ensures.seen in
    stays_from c.args.self.now.checked.now first freed e (seen c.keep_up.new.pass) (g.K.Keeper.kept c.args.keeping.now.keeper) (g.K.Keeper.kept c.keep_up.new.keeping.keeper) c.keep_up.ensures.kept

pub returns-in-Err-clause-kept : goal.returns-in-Err-clause-kept
returns-in-Err-clause-kept g c =
    let won = c.in_ok-held.ensures.won in let failed = c.fail.ensures.failed in
    let first = seen c.args.pass.now in let claimed = seen c.claim.new.pass in let acted = seen c.act.new.pass in let then = seen c.fail.new.pass in
    let a = starts_after first won.1.0 (Claim c.args.i ∷ []) claimed won.1.1 in
    let b = starts_through first claimed acted a c.act.ensures.seen in
    let d = starts_through first acted then b (starts_after acted failed.0 (Fail c.act.new.held.action ∷ []) then failed.1) in
    stays_from c.args.self.now.checked.now first then d (seen c.keep_up-in-Err.new.pass) (g.K.Keeper.kept c.args.keeping.now.keeper) (g.K.Keeper.kept c.keep_up-in-Err.new.keeping.keeper) c.keep_up-in-Err.ensures.kept

-- ---- what the calls ask for

pub claim-requires-clause-pass : goal.claim-requires-clause-pass
claim-requires-clause-pass g c κs within = c.requires.pass

pub claim-requires-clause-action : goal.claim-requires-clause-action
claim-requires-clause-action g c κs within = subst (λ (z : Plan). c.args.i < length z.actions) (sym c.args.self.now.plan) c.requires.action

pub act-requires-clause-pass : goal.act-requires-clause-pass
act-requires-clause-pass g c κs within = c.claim.ensures.pass.0

pub act-requires-clause-action : goal.act-requires-clause-action
act-requires-clause-action g c κs within = subst (λ (z : ℕ). z < length c.args.self.now.checked.now.plan.actions) (sym c.in_ok-held.ensures.won.0) c.requires.action

pub act-requires-clause-held : goal.act-requires-clause-held
act-requires-clause-held g c κs within = subst (λ (z : ℕ). IsPending (mine c.claim.new.pass) z) (sym c.in_ok-held.ensures.won.0) c.in_ok-held.ensures.won.2

pub act-requires-clause-fresh : goal.act-requires-clause-fresh
act-requires-clause-fresh g c κs within = c.in_ok-held.ensures.fresh

pub done-requires-clause-pass : goal.done-requires-clause-pass
done-requires-clause-pass g c κs within = c.act.ensures.pass.0

pub done-requires-clause-action : goal.done-requires-clause-action
done-requires-clause-action g c κs within =
    let j = c.args.self.now in
    let here : c.act.new.held.action < length j.checked.now.plan.actions =
    subst (λ (z : ℕ). z < length j.checked.now.plan.actions) (sym (c.act.ensures.action ∙ c.in_ok-held.ensures.won.0)) c.requires.action in
    subst (λ (z : Plan). c.act.new.held.action < length z.actions) (sym j.plan) here

pub done-requires-clause-acted : goal.done-requires-clause-acted
done-requires-clause-acted g c κs within = c.in-Ok.ensures.ok

pub release_all-requires-clause-pass : goal.release_all-requires-clause-pass
release_all-requires-clause-pass g c κs within = c.done.ensures.pass.0

pub release_all-requires-clause-done : goal.release_all-requires-clause-done
release_all-requires-clause-done g c κs within =
    let a = c.act.new.held.action in let w = work_of c.act.new.held in
    subst (λ (z : Run). Has z (finishes c.args.i)) (sym c.done.ensures.done.2) (done_here_last (mine c.act.new.pass) c.args.i a w (c.act.ensures.action ∙ c.in_ok-held.ensures.won.0))

pub keep_up-requires-clause-pass : goal.keep_up-requires-clause-pass
keep_up-requires-clause-pass g c κs within = c.release_all.ensures.pass.0

pub fail-requires-clause-pass : goal.fail-requires-clause-pass
fail-requires-clause-pass g c κs within = c.act.ensures.pass.0

pub fail-requires-clause-action : goal.fail-requires-clause-action
fail-requires-clause-action g c κs within =
    let j = c.args.self.now in
    let here : c.act.new.held.action < length j.checked.now.plan.actions =
    subst (λ (z : ℕ). z < length j.checked.now.plan.actions) (sym (c.act.ensures.action ∙ c.in_ok-held.ensures.won.0)) c.requires.action in
    subst (λ (z : Plan). c.act.new.held.action < length z.actions) (sym j.plan) here

pub fail-requires-clause-held : goal.fail-requires-clause-held
fail-requires-clause-held g c κs within = c.in-Err.ensures.err.0

pub fail-requires-clause-fresh : goal.fail-requires-clause-fresh
fail-requires-clause-fresh g c κs within = c.in-Err.ensures.err.1

pub keep_up-requires-in-Err-clause-pass : goal.keep_up-requires-in-Err-clause-pass
keep_up-requires-in-Err-clause-pass g c κs within = c.fail.ensures.pass.0

-- ---- what the passes have in the end

pub returns-in_err-held-clause-pass : goal.returns-in_err-held-clause-pass
returns-in_err-held-clause-pass g c = c.claim.ensures.pass

pub returns-in_err-held-clause-seen : goal.returns-in_err-held-clause-seen
returns-in_err-held-clause-seen g c = c.in_err-held.ensures.lost.0.0

pub returns-in_err-held-clause-tried : goal.returns-in_err-held-clause-tried
returns-in_err-held-clause-tried g c =
    let lost = c.in_err-held.ensures.lost in
    inr (lost.0.1, subst (λ (z : Plan). word_after z (seen c.claim.new.pass) c.args.i ≢ 0) c.args.self.now.plan lost.1)

pub returns-in-Ok-clause-pass : goal.returns-in-Ok-clause-pass
returns-in-Ok-clause-pass g c =
    let a = c.claim.ensures.pass.1 in let b = c.act.ensures.pass.1 in let d = c.done.ensures.pass.1 in let e = c.release_all.ensures.pass.1 in let f = c.keep_up.ensures.pass.1 in
    (c.keep_up.ensures.pass.0, (f.0 ∙ e.0 ∙ d.0 ∙ b.0 ∙ a.0, f.1 ∙ e.1 ∙ d.1 ∙ b.1 ∙ a.1))

pub returns-in-Err-clause-pass : goal.returns-in-Err-clause-pass
returns-in-Err-clause-pass g c =
    let a = c.claim.ensures.pass.1 in let b = c.act.ensures.pass.1 in let d = c.fail.ensures.pass.1 in let f = c.keep_up-in-Err.ensures.pass.1 in
    (c.keep_up-in-Err.ensures.pass.0, (f.0 ∙ d.0 ∙ b.0 ∙ a.0, f.1 ∙ d.1 ∙ b.1 ∙ a.1))

pub returns-in-Ok-clause-seen : goal.returns-in-Ok-clause-seen
returns-in-Ok-clause-seen g c =
    let won = c.in_ok-held.ensures.won in let makes = c.done.ensures.done in
    let first = seen c.args.pass.now in let claimed = seen c.claim.new.pass in let acted = seen c.act.new.pass in let done_seen = seen c.done.new.pass in let freed = seen c.release_all.new.pass in
    let a = starts_after first won.1.0 (Claim c.args.i ∷ []) claimed won.1.1 in
    let b = starts_through first claimed acted a c.act.ensures.seen in
    let d = starts_through first acted done_seen b (starts_after acted makes.0 (Act c.act.new.held.action (work_of c.act.new.held) ∷ Done c.act.new.held.action ∷ []) done_seen makes.1) in
    let e = starts_through first done_seen freed d c.release_all.ensures.seen in
    starts_through first freed (seen c.keep_up.new.pass) e c.keep_up.ensures.looked.0

pub returns-in-Err-clause-seen : goal.returns-in-Err-clause-seen
returns-in-Err-clause-seen g c =
    let won = c.in_ok-held.ensures.won in let failed = c.fail.ensures.failed in
    let first = seen c.args.pass.now in let claimed = seen c.claim.new.pass in let acted = seen c.act.new.pass in let then = seen c.fail.new.pass in
    let a = starts_after first won.1.0 (Claim c.args.i ∷ []) claimed won.1.1 in
    let b = starts_through first claimed acted a c.act.ensures.seen in
    let d = starts_through first acted then b (starts_after acted failed.0 (Fail c.act.new.held.action ∷ []) then failed.1) in
    starts_through first then (seen c.keep_up-in-Err.new.pass) d c.keep_up-in-Err.ensures.looked.0

pub returns-in-Ok-clause-tried : goal.returns-in-Ok-clause-tried
returns-in-Ok-clause-tried g c =
    let won = c.in_ok-held.ensures.won in let i = c.args.i in let own = mine c.args.pass.now in let plan = c.args.self.now.checked.now.plan in
    let steps = c.act.ensures.steps in let more = steps.0 in let last = c.release_all.ensures.steps in let rest = last.0 in
    let a = c.act.new.held.action in let w : Work = work_of c.act.new.held in
    let same : a ≡ i = c.act.ensures.action ∙ won.0 in
    let takes_of : AreTakes plan i more = subst (λ (z : ℕ). AreTakes plan z more) won.0 steps.2 in
    let done : mine c.done.new.pass ≡ ((own ++ Claim i ∷ []) ++ more) ++ Act i w ∷ Done i ∷ [] =
    c.done.ensures.done.2 ∙ ap (λ (z : Run). z ++ Act a w ∷ Done a ∷ []) (steps.1 ∙ ap (λ (z : Run). z ++ more) won.1.2) ∙ ap (λ (z : ℕ). ((own ++ Claim i ∷ []) ++ more) ++ Act z w ∷ Done z ∷ []) same in
    let all : mine c.keep_up.new.pass ≡ own ++ block i more (Act i w ∷ Done i ∷ rest) = c.keep_up.ensures.looked.1 ∙ last.1 ∙ ap (λ (z : Run). z ++ rest) done ∙ steps_done own more rest i w in
    inl (subst (λ (z : Run). Has z (claims i)) (sym all) (has_right (claims i) own (block i more (Act i w ∷ Done i ∷ rest)) (claim_here plan i more takes_of (Act i w ∷ Done i ∷ rest))))

pub returns-in-Ok-clause-fault : goal.returns-in-Ok-clause-fault
returns-in-Ok-clause-fault g c = tt
