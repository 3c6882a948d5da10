use Rattle.std.proofs.Common.{◌≡◌, ℕ, ◌<◌, length, get_or, ap, sym, refl, ◌∙◌, subst, arith}
use Rattle.std.proofs.lemmas.List.{get_or_default}
use Rattle.std.proofs.lemmas.Option.{get_or_from_slice_get, slice_get_within}
use Rattle.ts_model.specs.Runs.{IsPieceOf}
use Rattle.ts_model.specs.declared.plan.Plan.{Plan}
use Rattle.ts_model.specs.Sync.{listed_snapshot}
use Rattle.ts_check.specs.Checkup.{Checkup}
use Rattle.ts_check.proofs.Checking.{no_commit, its_commit, if_none}
use Rattle.ts_check.proofs.Scans.{item_at}
use Rattle.ts_check.proofs.checked.Checked.commit_of.Goals as goal
use Rattle.ts_check.proofs.checked.Checked.commit_of.Goals.{then-e-len-via-then-e-len, then-e-len-via-else-e-len+then-index}
use Rattle.ts_laws.proofs.Bounds.{few_actions}

pub returns-in_err-e-clause-none : goal.returns-in_err-e-clause-none
returns-in_err-e-clause-none c =
    if_none c.from_residual.result ((i : ℕ) → ¬ IsPieceOf c.args.self.now.plan i c.args.k) (
    subst (λ (p : Plan). (i : ℕ) → ¬ IsPieceOf p i c.args.k) (ap (λ (k : Checkup). k.plan) c.self.view_is)
    (λ i h. c.in_err-e.ensures.none h.entry (h.offset, h.size, h.path, h.piece)))

pub returns-then-e-len-clause-none : goal.returns-then-e-len-clause-none
returns-then-e-len-clause-none c =
    let plan = c.self.inside.plan.now in
    let commits = c.self.inside.commits in
    let e = c.in_ok-e.field-0 in
    subst (λ (p : Plan). (i : ℕ) → ¬ IsPieceOf p i c.args.k) (ap (λ (k : Checkup). k.plan) c.self.view_is)
    (no_commit plan commits.items c.args.k e c.self.invariant.commits_are (few_actions (listed_snapshot c.self.inside.archive.now c.self.inside.first.now c.self.inside.second.now c.self.inside.holds.now) plan c.self.invariant.valid) c.in_ok-e.ensures.some (λ i is. elim c.then-e-len.branch [
      | then-e-len-via-then-e-len w ↦ absurd (let within = slice_get_within commits.items e i is in let ok = commits.ok.0 in let l = c.len.ensures in let g = w.if-e-len.true in omega arith)
      | then-e-len-via-else-e-len+then-index w ↦ sym (get_or_from_slice_get commits.items e i w.index.result.now is) ∙ sym w.index.ensures ∙ w.if-index.true
    ]))

pub returns-clause-commit : goal.returns-clause-commit
returns-clause-commit c =
    let plan = c.self.inside.plan.now in
    let commits = c.self.inside.commits in
    let e = c.in_ok-e.field-0 in
    let less : e < length commits.items = (let ok = commits.ok.0 in let l = c.len.ensures in let g = c.if-e-len.false in omega arith) in
    let first : c.index.result.now ≡ get_or commits.items e 0 = c.index.ensures ∙ get_or_default commits.items e c.index.result.now 0 less in
    let second : c.index-2.result.now ≡ get_or commits.items e 0 = c.index-2.ensures ∙ get_or_default commits.items e c.index-2.result.now 0 less in
    subst (λ (p : Plan). IsPieceOf p c.index-2.result.now c.args.k) (ap (λ (k : Checkup). k.plan) c.self.view_is)
    (its_commit plan commits.items c.args.k e c.index-2.result.now c.self.invariant.commits_are c.in_ok-e.ensures.some (item_at commits.items commits.items e c.index-2.result.now refl less c.index-2.ensures)
    (λ is. c.if-index.false (first ∙ sym second ∙ is)))
