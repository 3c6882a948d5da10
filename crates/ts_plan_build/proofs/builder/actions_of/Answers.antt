use Rattle.std.proofs.Common.{◌≡◌, ◌-◌, ◌<◌, ℕ, List, MatchOption, length, Some, slice_get, arith, refl, ap, ◌∙◌, subst}
use Rattle.std.proofs.lemmas.List.{take_all}
use Rattle.std.proofs.lemmas.Option.{slice_get_read}
use Rattle.ts_plan_build.specs.declared.builder.NewDir.{NewDir}
use Rattle.std.proofs.lemmas.Result.{err_from_is_err_and}
use Rattle.ts_plan_build.specs.Built.{IsBuilt}
use Rattle.ts_plan_build.specs.Planned.{planned_actions}
use Rattle.ts_plan_build.proofs.Dirs.{built_turn}
use Rattle.ts_plan_build.proofs.Past.{counted_more, past_in_entries}
use Rattle.ts_plan_build.proofs.builder.actions_of.Goals as goal

pub loop-number-preserved : goal.loop-number-preserved
loop-number-preserved c =
    let at : c.len-mark.result ≡ length c.loop-number.actions.items = omega (arith, c.len-mark.ensures, c.loop-number.actions.ok) in
    let turn = built_turn c.args.first.now c.args.second.now c.args.entries.now c.requires.ascending c.loop-number.actions.items c.add_entry.new.actions.items c.loop-number.number c.len-mark.result
    c.index-entries-number.result c.nearest-above.result c.loop-number.dirs.items c.leave.new.dirs.items c.keep.new.dirs.items
    c.loop-number.invariant.built c.loop-number.invariant.dirs (slice_get_read c.args.entries.now (length c.args.entries.now) c.loop-number.number c.index-entries-number.result refl c.loop-number-test.true c.index-entries-number.is)
    c.leave.ensures
    (subst (λ (z : List NewDir). MatchOption c.nearest-above.result (length z ≡ 0) (λ m. (d : NewDir) × (0 < length z) × (slice_get z (length z - 1) ≡ Some d) × (d.mark ≡ m))) c.as_slice.ensures.value c.nearest-above.ensures)
    at c.in_ok-add_entry.ensures.added c.in_ok-keep.ensures in
    let counted = counted_more c.args.first.now c.args.second.now c.args.entries.now c.index-entries-number.result c.loop-number.number c.nearest-above.result c.loop-number.actions.items c.add_entry.new.actions.items
    c.loop-number.invariant.counted c.loop-number-test.true c.index-entries-number.is c.in_ok-add_entry.ensures.added in
    record { limit = c.in_ok-add_entry.ensures.limit; counted = counted; built = turn.0; dirs = turn.1 }

pub returns-in_err-add_entry-clause-past : goal.returns-in_err-add_entry-clause-past
returns-in_err-add_entry-clause-past c =
    let p = err_from_is_err_and c.from_residual-in_err-add_entry.result c.from_residual-in_err-add_entry.ensures.1 in
    rw (p.1, p.2) (λ e. past_in_entries 1048576 c.args.first.now c.args.second.now c.args.entries.now c.index-entries-number.result c.loop-number.number c.loop-number.actions.items
    c.loop-number.invariant.counted c.loop-number-test.true c.index-entries-number.is (c.in_err-add_entry.ensures.past e))

pub returns-clause-built : goal.returns-clause-built
returns-clause-built c =
    let all : c.loop-number.number ≡ length c.args.entries.now = omega (arith, c.loop-number-test.false, c.loop-number.auto.number-end) in
    rw c.shrink_to_fit.ensures.items
    (subst (λ (k : ℕ). IsBuilt c.args.first.now c.args.second.now c.args.entries.now c.loop-number.actions.items k) all c.loop-number.invariant.built)

pub returns-clause-limit : goal.returns-clause-limit
returns-clause-limit c = rw c.shrink_to_fit.ensures.items c.loop-number.invariant.limit

pub returns-clause-count : goal.returns-clause-count
returns-clause-count c =
    rw c.shrink_to_fit.ensures.items
    (c.loop-number.invariant.counted ∙ ap (planned_actions c.args.first.now c.args.second.now) (take_all c.loop-number.number c.args.entries.now c.loop-number-test.false))
