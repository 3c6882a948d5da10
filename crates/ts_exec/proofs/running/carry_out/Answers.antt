use Rattle.std.proofs.Common.{◌∙◌, List, Option, ap, refl, sym, subst}
use Rattle.std.specs.Mem.Slots.{slots_items}
use Rattle.ts_model.specs.Runs.{Run}
use Rattle.ts_board.specs.Calls.{mine, seen, terms_of}
use Rattle.ts_board.specs.Checks.{terms_for}
use Rattle.ts_board.specs.declared.board.Closed.{Closed}
use Rattle.ts_board.specs.declared.law.Terms.{Terms}
use Rattle.ts_exec.specs.Failures.{or_jammed, or_stopped, setting_until, setting_with}
use Rattle.ts_exec.specs.Outcomes.{IsOutcome}
use Rattle.ts_exec.specs.Stores.{IsKept}
use Rattle.ts_exec.specs.Tidy.{Noted}
use Rattle.ts_exec.specs.declared.fault.ActFault.{ActFault}
use Rattle.ts_exec.specs.declared.outcome.ActionResult.{ActionResult}
use Rattle.ts_exec.proofs.Ending.{end, kept_outcome}
use Rattle.ts_exec.proofs.Stores.{nothing_kept}
use Rattle.ts_exec.proofs.Misfits.{misfits_untold, only_memory_ran_out}
use Rattle.ts_exec.proofs.running.carry_out.Goals as goal

pub results_of-results-requires-clause-end : goal.results_of-results-requires-clause-end
results_of-results-requires-clause-end g c κs within = (
  c.close-closed.ensures.ends.0,
  end g.S.Site.content g.S.Site.failures g.F.Folder.tells g.F.Folder.lets c.args.checked.now c.plan-plan.ensures.valid c.args.first.now c.args.second.now
      (terms_of g.S.Site.content c.in-Ok-deal_and_open.opened.0) (terms_for g.S.Site.content c.args.checked.now c.args.sites.items) (c.in-Ok-deal_and_open.ensures.board ∙ ap (terms_for g.S.Site.content c.args.checked.now) c.in-Ok.ensures.sites) (refl, refl, refl)
      c.work_and_sweep-pass.result.0 (slots_items c.close-closed.result.row.words) (slots_items c.close-closed.result.row.slots) c.as_slice-2.result.now
      c.close-closed.ensures.ends c.work_and_sweep-pass.ensures.pass.1 (g.P.Stage.fails c.args.stage.now) (g.G.Stop.stops c.args.gate.now) c.work_and_sweep-pass.ensures.tidy (subst (λ (f : List (Option ActFault)). Noted (or_jammed (g.P.Stage.fails c.args.stage.now) (or_stopped (g.G.Stop.stops c.args.gate.now) (setting_with g.S.Site.failures g.F.Folder.tells g.F.Folder.lets c.args.checked.now c.args.first.now c.args.second.now (terms_of g.S.Site.content c.in-Ok-deal_and_open.opened.0).told))) (mine c.work_and_sweep-pass.result.0) (seen c.work_and_sweep-pass.result.0) f) (sym c.as_slice-2.ensures.value) c.work_and_sweep-pass.ensures.noted) c.work_and_sweep-pass.ensures.swept,
)

pub returns-clause-outcome : goal.returns-clause-outcome
returns-clause-outcome g c =
    let opened : Terms = terms_for g.S.Site.content c.args.checked.now c.args.sites.items in
    let ends = c.close-closed.ensures.ends in
    let is_end = end g.S.Site.content g.S.Site.failures g.F.Folder.tells g.F.Folder.lets c.args.checked.now c.plan-plan.ensures.valid c.args.first.now c.args.second.now
    (terms_of g.S.Site.content c.in-Ok-deal_and_open.opened.0) opened (c.in-Ok-deal_and_open.ensures.board ∙ ap (terms_for g.S.Site.content c.args.checked.now) c.in-Ok.ensures.sites) (refl, refl, refl)
    c.work_and_sweep-pass.result.0 (slots_items c.close-closed.result.row.words) (slots_items c.close-closed.result.row.slots) c.as_slice-2.result.now
    c.close-closed.ensures.ends c.work_and_sweep-pass.ensures.pass.1 (g.P.Stage.fails c.args.stage.now) (g.G.Stop.stops c.args.gate.now) c.work_and_sweep-pass.ensures.tidy (subst (λ (f : List (Option ActFault)). Noted (or_jammed (g.P.Stage.fails c.args.stage.now) (or_stopped (g.G.Stop.stops c.args.gate.now) (setting_with g.S.Site.failures g.F.Folder.tells g.F.Folder.lets c.args.checked.now c.args.first.now c.args.second.now (terms_of g.S.Site.content c.in-Ok-deal_and_open.opened.0).told))) (mine c.work_and_sweep-pass.result.0) (seen c.work_and_sweep-pass.result.0) f) (sym c.as_slice-2.ensures.value) c.work_and_sweep-pass.ensures.noted) c.work_and_sweep-pass.ensures.swept in
    let k = c.args.checked.now in let before = g.K.Keeper.kept c.args.keeping.keeper in let after = g.K.Keeper.kept c.work_and_sweep-pass.result.2 in
    let begun : IsKept k before (seen c.in-Ok-deal_and_open.opened.1) before = subst (λ (r : Run). IsKept k before r before) (sym c.in-Ok-deal_and_open.ensures.nothing.0) (nothing_kept k before) in
    let made = kept_outcome g.S.Site.content g.S.Site.failures g.F.Folder.tells g.F.Folder.lets c.args.checked.now c.plan-plan.ensures.valid c.args.first.now c.args.second.now
    (terms_of g.S.Site.content c.in-Ok-deal_and_open.opened.0) opened (c.in-Ok-deal_and_open.ensures.board ∙ ap (terms_for g.S.Site.content c.args.checked.now) c.in-Ok.ensures.sites) (refl, refl, refl)
    c.work_and_sweep-pass.result.0 (slots_items c.close-closed.result.row.words) (slots_items c.close-closed.result.row.slots) c.as_slice-2.result.now
    c.close-closed.ensures.ends c.work_and_sweep-pass.ensures.pass.1 (g.P.Stage.fails c.args.stage.now) (g.G.Stop.stops c.args.gate.now) c.work_and_sweep-pass.ensures.tidy (subst (λ (f : List (Option ActFault)). Noted (or_jammed (g.P.Stage.fails c.args.stage.now) (or_stopped (g.G.Stop.stops c.args.gate.now) (setting_with g.S.Site.failures g.F.Folder.tells g.F.Folder.lets c.args.checked.now c.args.first.now c.args.second.now (terms_of g.S.Site.content c.in-Ok-deal_and_open.opened.0).told))) (mine c.work_and_sweep-pass.result.0) (seen c.work_and_sweep-pass.result.0) f) (sym c.as_slice-2.ensures.value) c.work_and_sweep-pass.ensures.noted) c.work_and_sweep-pass.ensures.swept c.results_of-results.result.items c.results_of-results.ensures.count (c.results_of-results.ensures.each ends.0 is_end)
    before after (c.work_and_sweep-pass.ensures.kept before begun) in
    let x = or_jammed (g.P.Stage.fails c.args.stage.now) (setting_until g.S.Site g.F.Folder g.G.Stop c.args.checked.now c.args.first.now c.args.second.now c.args.sites.items c.args.gate.now) in
    subst
    (λ (o : List ActionResult). (of : IsOutcome g.S.Site.content x opened o (slots_items c.new.result.closed.row.words) (slots_items c.new.result.closed.row.slots)) × IsKept k before of.run after)
    (sym c.new.ensures.results)
    (subst
    (λ (z : Closed g.row.S.Denot g.S.Site). (of : IsOutcome g.S.Site.content x opened c.results_of-results.result.items (slots_items z.row.words) (slots_items z.row.slots)) × IsKept k before of.run after)
    (sym c.new.ensures.closed)
    made)

pub returns-clause-misfits : goal.returns-clause-misfits
returns-clause-misfits g c =
    let opened : Terms = terms_for g.S.Site.content c.args.checked.now c.args.sites.items in
    misfits_untold g.S.Site.content (or_jammed (g.P.Stage.fails c.args.stage.now) (setting_until g.S.Site g.F.Folder g.G.Stop c.args.checked.now c.args.first.now c.args.second.now c.args.sites.items c.args.gate.now)) c.plan-plan.ensures.valid opened
    c.new.result.results.items (slots_items c.new.result.closed.row.words) (slots_items c.new.result.closed.row.slots) (returns-clause-outcome g c).0

pub returns-clause-steady : goal.returns-clause-steady
returns-clause-steady g c = λ steady.
    let opened : Terms = terms_for g.S.Site.content c.args.checked.now c.args.sites.items in
    only_memory_ran_out g.S.Site.content (or_jammed (g.P.Stage.fails c.args.stage.now) (setting_until g.S.Site g.F.Folder g.G.Stop c.args.checked.now c.args.first.now c.args.second.now c.args.sites.items c.args.gate.now)) c.plan-plan.ensures.valid opened
    c.new.result.results.items (slots_items c.new.result.closed.row.words) (slots_items c.new.result.closed.row.slots) (returns-clause-outcome g c).0
    (record { tells = steady.tells; sited = steady.sited; readable = steady.readable; unchanged = steady.unchanged; unbroken = steady.unbroken; unjammed = steady.unjammed })
