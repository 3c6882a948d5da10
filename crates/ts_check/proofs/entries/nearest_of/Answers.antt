use Rattle.std.proofs.Common.{sym, ◌∙◌, arith}
use Rattle.std.proofs.lemmas.Bool.{false≢true}
use Rattle.std.proofs.lemmas.Option.{slice_get-get_or}
use Rattle.ts_check.proofs.Nearests.{IsNearestOf-first, begin_here, begin_up, step_up, candidate_within, going_up, IsNearestOf-none, IsNearestOf-found}
use Rattle.ts_check.proofs.entries.nearest_of.Goals as goal
use Rattle.ts_check.proofs.entries.nearest_of.Goals.{then-is_dir, else-is_dir}

pub returns-then-i-eq0 : goal.returns-then-i-eq0
returns-then-i-eq0 c = rw c.if-i-eq0.true (IsNearestOf-first c.args.entries.now c.requires.ascending)

pub loop-at-init : goal.loop-at-init
loop-at-init c =
    let entries = c.args.entries.now in
    elim c.if-is_dir.branch [
      | then-is_dir w ↦ rw w.at-is (begin_here entries c.requires.ascending c.args.i (omega arith) (c.is_dir.ensures.0 w.if-is_dir.true))
      | else-is_dir w ↦ rw w.at-is (begin_up entries c.requires.ascending c.args.i _ (omega arith) c.requires.within (λ dir. false≢true (sym w.if-is_dir.false ∙ c.is_dir.ensures.1 dir))
          (c.requires.known.1 _ _ (slice_get-get_or c.args.nearest.now _ 0 (let e = c.requires.known.0 in omega arith))))
    ]

pub loop-at-smaller : goal.loop-at-smaller
loop-at-smaller c =
    let h = candidate_within c.args.entries.now c.requires.ascending c.args.i c.loop-at.at c.loop-at-test.true c.loop-at.invariant in
    going_up c.args.entries.now c.requires.ascending c.loop-at.at _ (let few = c.requires.few in let g = c.requires.within in omega arith)
    (c.requires.known.1 c.loop-at.at _ (slice_get-get_or c.args.nearest.now c.loop-at.at 0 (omega (arith, c.requires.known.0))))

pub loop-at-preserved : goal.loop-at-preserved
loop-at-preserved c =
    let h = candidate_within c.args.entries.now c.requires.ascending c.args.i c.loop-at.at c.loop-at-test.true c.loop-at.invariant in
    step_up c.args.entries.now c.requires.ascending c.args.i c.loop-at.at _ c.requires.few c.requires.within c.loop-at-test.true c.loop-at.invariant
    (λ above. false≢true (sym c.if-not-is_entry_above.true ∙ c.is_entry_above.ensures.1 above))
    (c.requires.known.1 c.loop-at.at _ (slice_get-get_or c.args.nearest.now c.loop-at.at 0 (omega (arith, c.requires.known.0))))

pub returns-else-not-is_entry_above : goal.returns-else-not-is_entry_above
returns-else-not-is_entry_above c =
    let found = c.is_entry_above.ensures.0 c.if-not-is_entry_above.false in
    IsNearestOf-found c.args.entries.now c.requires.ascending c.args.i c.loop-at.at found.1 found.0 c.requires.few c.loop-at.invariant found.3 found.2 found.4

pub returns-after-loop-at : goal.returns-after-loop-at
returns-after-loop-at c = IsNearestOf-none c.args.entries.now c.requires.ascending c.args.i c.loop-at.at c.requires.few c.loop-at.invariant c.loop-at-test.false
