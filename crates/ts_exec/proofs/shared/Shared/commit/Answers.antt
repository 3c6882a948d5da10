use Rattle.std.proofs.Common.{◌≡◌, ℕ, true, None, sym, ap, ◌∙◌, subst}
use Rattle.std.specs.Prelude.{slice_index_or}
use Rattle.ts_model.specs.Trees.{at, listed, sub}
use Rattle.ts_model.specs.Runs.{Run, IsPending, IsPieceOf}
use Rattle.ts_model.specs.declared.plan.Kind.TheVariants.{Commit}
use Rattle.ts_model.specs.declared.plan.Plan.{Plan}
use Rattle.ts_check.specs.Checkup.{IsSourcePart, IsTargetPart}
use Rattle.ts_board.specs.Calls.{mine, seen, terms_of}
use Rattle.ts_board.specs.Terms.{IsTold, content_of, is_place}
use Rattle.ts_board.specs.declared.board.Held.{Held}
use Rattle.ts_exec.specs.Acts.{MayGoOn}
use Rattle.ts_exec.specs.Faults.{of_site}
use Rattle.ts_exec.specs.Failures.{CommitFails, MayFail}
use Rattle.ts_exec.specs.Sharing.{setting_of}
use Rattle.ts_exec.specs.declared.fault.ActFault.{ActFault}
use Rattle.ts_exec.proofs.Failing.{commit_fails, exit_maps, may_break, on_err, pending_takes, put_staged, refuses_staged, told_place}
use Rattle.ts_exec.proofs.shared.Shared.commit.Goals as goal

pub returns-in_err-take_all-clause-err : goal.returns-in_err-take_all-clause-err
returns-in_err-take_all-clause-err g c =
    let j = c.args.self.now in let content = g.S.Site.content in let t = terms_of g.S.Site.content j.board.now in
    let a = c.args.held.now.action in let own = mine c.args.pass.now in let now = mine c.take_all.new.pass in
    let steps = c.take_all.ensures.steps in
    let pending : IsPending now a = subst (λ (z : Run). IsPending z a) (sym steps.1) (pending_takes j.checked.now.plan own steps.0 a c.requires.held steps.2) in
    on_err c.from_residual.result (MayGoOn content t now c.take_all.new.held)
    (subst (λ (h : Held g.row.S.Denot). MayGoOn content t now h) (sym c.take_all.ensures.held) (pending, c.requires.fresh))

pub returns-in_err-take_all-clause-fault : goal.returns-in_err-take_all-clause-fault
returns-in_err-take_all-clause-fault g c =
    let j = c.args.self.now in let a = c.args.held.now.action in
    let x = setting_of g.S.Site g.F.Folder g.G.Stop g.P.Stage j in
    exit_maps c.from_residual.result (λ f. f ≡ c.in_err-take_all.field-0.0) (MayFail x (seen c.take_all.new.pass) a) c.from_residual.ensures.1
    (λ f same. (Commit c.requires.commit.0, c.requires.commit.1, subst (λ (z : ActFault). CommitFails x (seen c.take_all.new.pass) a z) (sym (same ∙ c.in_err-take_all.ensures.fault)) tt))

pub commit-requires-clause-site : goal.commit-requires-clause-site
commit-requires-clause-site g c κs within =
    subst (λ (h : Held g.row.S.Denot). is_place h.slot ≡ true) (sym c.take_all.ensures.held) (c.requires.site.0 c.requires.commit.0 c.requires.commit.1)

pub returns-in_err-commit-clause-err : goal.returns-in_err-commit-clause-err
returns-in_err-commit-clause-err g c =
    let j = c.args.self.now in let content = g.S.Site.content in let t = terms_of g.S.Site.content j.board.now in
    let a = c.args.held.now.action in let own = mine c.args.pass.now in let now = mine c.take_all.new.pass in
    let steps = c.take_all.ensures.steps in
    let same : c.commit.new.self.action ≡ a = c.commit.ensures.action ∙ ap (λ (h : Held g.row.S.Denot). h.action) c.take_all.ensures.held in
    let pending : IsPending now a = subst (λ (z : Run). IsPending z a) (sym steps.1) (pending_takes j.checked.now.plan own steps.0 a c.requires.held steps.2) in
    let told : IsTold content t c.take_all.new.held.action c.take_all.new.held.slot = subst (λ (h : Held g.row.S.Denot). IsTold content t h.action h.slot) (sym c.take_all.ensures.held) c.requires.fresh.2 in
    on_err c.from_residual-in_err-commit.result (MayGoOn content t now c.commit.new.self)
    (subst (λ (z : ℕ). IsPending now z) (sym same) pending, (c.in_err-commit.ensures.err.0, c.in_err-commit.ensures.err.1, c.commit.ensures.told t told))

pub returns-in_err-commit-clause-fault : goal.returns-in_err-commit-clause-fault
returns-in_err-commit-clause-fault g c =
    let j = c.args.self.now in let content = g.S.Site.content in let t = terms_of g.S.Site.content j.board.now in
    let a = c.args.held.now.action in let held = c.take_all.new.held in let k = j.checked.now in
    let x = setting_of g.S.Site g.F.Folder g.G.Stop g.P.Stage j in
    let same : held.action ≡ a = ap (λ (h : Held g.row.S.Denot). h.action) c.take_all.ensures.held in
    let placed : is_place held.slot ≡ true = subst (λ (h : Held g.row.S.Denot). is_place h.slot ≡ true) (sym c.take_all.ensures.held) (c.requires.site.0 c.requires.commit.0 c.requires.commit.1) in
    let told : IsTold content t a held.slot = subst (λ (h : Held g.row.S.Denot). IsTold content t a h.slot) (sym c.take_all.ensures.held) c.requires.fresh.2 in
    let begun = c.in-Ok.ensures.begun in let r = seen c.take_all.new.pass in
    let of : IsSourcePart k a begun.0 = subst (λ (z : ℕ). IsSourcePart k z begun.0) c.action.ensures begun.1 in
    exit_maps c.from_residual-in_err-commit.result (λ f. f ≡ of_site c.in_err-commit.field-0.0) (MayFail x r a) c.from_residual-in_err-commit.ensures.1
    (λ f is. (
      Commit c.requires.commit.0,
      c.requires.commit.1,
      subst (λ (z : ActFault). CommitFails x r a z) (sym is)
          (commit_fails x r a c.commit.result c.in_err-commit.field-0.0 c.in_err-commit.was
          (λ h. may_break g.S.Site.failures held.slot c.commit.new.self.slot placed c.in_err-commit.ensures.err.2 (c.commit.ensures.device h))
          (λ h. (let d = c.commit.ensures.changed h in (content_of content held.slot, told_place content (slice_index_or t.told a None) held.slot told placed, (d.0, subst (λ (z : ℕ). IsTargetPart k z d.0) same d.1, d.2))))
          (λ h sited. (
          let none = refuses_staged content (slice_index_or t.told a None) held.slot told placed sited.0 sited.1 c.take_all.new.staged _ c.commit.ensures.misfit h in (
            c.take_all.new.staged,
            begun.0,
            of,
            c.take_all.ensures.wanted ∙ ap (λ z. z.wanted) begun.2,
            none,
            λ told read. none (c.in_ok-take_all.ensures.whole begun.0 of begun.2 told read).0,
          )))),
    ))

pub returns-clause-ok : goal.returns-clause-ok
returns-clause-ok g c =
    let j = c.args.self.now in let content = g.S.Site.content in let t = terms_of g.S.Site.content j.board.now in
    let a = c.args.held.now.action in let own = mine c.args.pass.now in let now = mine c.take_all.new.pass in
    let steps = c.take_all.ensures.steps in
    let same : c.commit.new.self.action ≡ a = c.commit.ensures.action ∙ ap (λ (h : Held g.row.S.Denot). h.action) c.take_all.ensures.held in
    let pending : IsPending now a = subst (λ (z : Run). IsPending z a) (sym steps.1) (pending_takes j.checked.now.plan own steps.0 a c.requires.held steps.2) in
    let told : IsTold content t c.take_all.new.held.action c.take_all.new.held.slot = subst (λ (h : Held g.row.S.Denot). IsTold content t h.action h.slot) (sym c.take_all.ensures.held) c.requires.fresh.2 in (
      c.in_ok-commit.ensures.acted,
      (
        subst (λ (z : ℕ). IsPending now z) (sym same) pending,
        (λ k piece. c.in_ok-take_all.ensures.all k (subst (λ (z : ℕ). IsPieceOf j.checked.now.plan z k) same (subst (λ (z : Plan). IsPieceOf z c.commit.new.self.action k) j.plan piece))),
      ),
      c.in_ok-commit.ensures.suits t (j.plan, j.first_print, j.second_print),
      c.commit.ensures.told t told,
    )

pub returns-clause-told : goal.returns-clause-told
returns-clause-told g c =
    let k = c.args.self.now.checked.now in let begun = c.in-Ok.ensures.begun in
    let content = g.S.Site.content in let t = terms_of g.S.Site.content c.args.self.now.board.now in let a = c.args.held.now.action in let slot = c.take_all.new.held.slot in
    let placed : is_place slot ≡ true = subst (λ (h : Held g.row.S.Denot). is_place h.slot ≡ true) (sym c.take_all.ensures.held) (c.requires.site.0 c.requires.commit.0 c.requires.commit.1) in
    let told_slot : IsTold content t a slot = subst (λ (h : Held g.row.S.Denot). IsTold content t a h.slot) (sym c.take_all.ensures.held) c.requires.fresh.2 in
    let puts = c.in_ok-commit.ensures.put in
    let of : IsSourcePart k c.args.held.now.action begun.0 = subst (λ (z : ℕ). IsSourcePart k z begun.0) c.action.ensures begun.1 in (
      Commit of.of_commit.0,
      of.of_commit.1,
      (
        puts.put.made,
        of.entry,
        of.from,
        of.of_commit.2,
        puts.work,
        λ sited told read.
            ap (λ z. listed z.made) (put_staged content (slice_index_or t.told a None) slot told_slot placed sited.0 sited.1 c.take_all.new.staged puts.put puts.fits)
            ∙ (c.in_ok-take_all.ensures.whole begun.0 of begun.2 told read).1 ∙ ap (sub (at told.0)) of.top,
      ),
    )
