use Rattle.std.proofs.Common.{◌∙◌, ◌&&◌, not, refl, sym}
use Rattle.std.proofs.lemmas.Bool.{false≢true}
use Rattle.std.specs.Option.{option_copied}
use Rattle.ts_print.proofs.Walks.{step_left, step_there}
use Rattle.ts_need.proofs.Found.{names_held, step_present}
use Rattle.ts_need.proofs.Standing.{after_dirs, after_edge, dirs_reasoned, edge_reasoned}
use Rattle.ts_need.proofs.reasons.find_reason.Goals as goal

pub returns-then-are_dirs-clause-found : goal.returns-then-are_dirs-clause-found
returns-then-are_dirs-clause-found c = λ A F S b come.
    let here = come.behind in
    let step = come.step in
    let p = c.args.seen.now.path.now in
    let rules = c.args.holds.now in
    let dirs = c.are_dirs.ensures.0 c.if-are_dirs.true in
    let held = names_held A F S rules p (step_present A F S b p _ _ _ come.before c.args.walk.now here.is_left step) in (
      p,
      after_dirs A F S rules come.archive come.first come.second b p (option_copied c.args.holder) _ _ _ come.before c.args.walk.now here step
          c.is_below-is_below_holder.result c.holds-is_named.result (not c.is_below-is_below_holder.result && c.holds-is_named.result) (option_copied c.next_holder.result)
          dirs c.is_below-is_below_holder.ensures (λ h. held.0 (c.holds-is_named.ensures.0 h), λ h. c.holds-is_named.ensures.1 (held.1 h)) refl c.next_holder.ensures,
      dirs_reasoned A F S rules come.archive come.first come.second b p (option_copied c.args.holder) _ _ _ come.before c.args.walk.now here step
          c.reason_of_dirs.result dirs c.reason_of_dirs.ensures.old c.reason_of_dirs.ensures.new,
    )

pub returns-clause-found : goal.returns-clause-found
returns-clause-found c = λ A F S b come.
    let here = come.behind in
    let step = come.step in
    let p = c.args.seen.now.path.now in
    let rules = c.args.holds.now in
    let found = c.gather-found.ensures.found A F S (record {
      is_left = step_left A F S b p _ _ _ come.before c.args.walk.now here.is_left step;
      there = step_there A F S b p _ _ _ come.before c.args.walk.now here.is_left step;
      present = step_present A F S b p _ _ _ come.before c.args.walk.now here.is_left step;
    }) in (
      found.0,
      after_edge A F S rules come.archive come.first come.second b p (option_copied c.args.holder) _ _ _ come.before c.args.walk.now here step found.0
          c.gather-found.new.walk c.gather-found.result (λ dirs. false≢true (sym c.if-are_dirs.false ∙ c.are_dirs.ensures.1 dirs)) found.1 c.gather-found.ensures.passed found.2 found.3,
      edge_reasoned A F S rules come.archive come.first come.second b p (option_copied c.args.holder) _ _ _ come.before c.args.walk.now here step found.0
          c.gather-found.new.walk c.gather-found.result (λ dirs. false≢true (sym c.if-are_dirs.false ∙ c.are_dirs.ensures.1 dirs)) found.1 c.gather-found.ensures.passed found.2 found.3
          c.is_below-is_below_holder.result c.reason_of_edge.result c.is_below-is_below_holder.ensures c.reason_of_edge.ensures,
    )
