use Rattle.std.proofs.Common.{ℕ, sym, ap, ◌∙◌, subst, min}
use Rattle.std.proofs.lemmas.Result.{err_from_is_err_and}
use Rattle.std.specs.Io.KnownBytes.{Appends}
use Rattle.ts_text.specs.Sources.{AppendsFront}
use Rattle.ts_check.specs.Checkup.{snapshot_of}
use Rattle.ts_laws.specs.Carried.{copied, marked_all}
use Rattle.ts_model.specs.Plans.{Valid}
use Rattle.ts_model.specs.Texts.{text}
use Rattle.ts_model.specs.Trees.{at}
use Rattle.ts_model.specs.Trial.{result_lines, skipped_count}
use Rattle.ts_model.specs.declared.plan.Side.TheVariants as side
use Rattle.ts_bundle.specs.Bundles.{values}
use Rattle.ts_trial.specs.Answers.{AnswersBundle}
use Rattle.ts_trial.proofs.Answering.{nothing_written, same_text, settled}
use Rattle.ts_trial.proofs.trials.settle.Goals as goal

-- Nothing went out yet.
pub returns-in_err-carried-clause-answered : goal.returns-in_err-carried-clause-answered
returns-in_err-carried-clause-answered g c =
    let p = err_from_is_err_and c.from_residual.result c.from_residual.ensures.1 in
    rw p.1 (λ apart. nothing_written {E = ℕ} (values c.args.bundle.now) (g.W.Sink.holds c.args.writer.now) c.requires.bundle apart 0)

-- A beginning of the result went out.
pub returns-in_err-write_carried-clause-answered : goal.returns-in_err-write_carried-clause-answered
returns-in_err-write_carried-clause-answered g c =
    let p = err_from_is_err_and c.from_residual-in_err-write_carried.result c.from_residual-in_err-write_carried.ensures.1 in
    let o = c.in_ok-carried.carried in
    let e = c.in_ok-carried.ensures in
    let b = c.args.bundle.now in
    let k = c.args.checked.now in
    rw p.1 (λ apart. (
      _,
      _,
      settled (values b) c.requires.bundle apart k.first k.second c.requires.first c.requires.second (subst (λ z. Valid (snapshot_of z) z.plan) c.requires.same c.plan-plan.ensures.valid)
          o.first o.second o.archive e.lawful.0 e.lawful.1 e.lawful.2
          (e.first ∙ ap (λ z. copied side.Second (at b.second) (at b.first) z.plan.entries) c.requires.same)
          (e.second ∙ ap (λ z. copied side.First (at b.first) (at b.second) z.plan.entries) c.requires.same)
          (e.archive ∙ ap (λ z. marked_all (snapshot_of z) (at z.archive) z.plan.entries) c.requires.same),
      subst (λ t. AppendsFront (g.W.Sink.holds c.args.writer.now) (g.W.Sink.holds c.write_carried.new.writer) t)
          (same_text c.rows.result.now o.first c.rows-2.result.now o.second c.rows-3.result.now o.archive c.as_slice-entries.result.now b.plan.entries
          c.rows.ensures.rows c.rows-2.ensures.rows c.rows-3.ensures.rows c.as_slice-entries.ensures)
          c.in_err-write_carried.ensures.written,
    ))

-- The result went out.
pub returns-clause-answered : goal.returns-clause-answered
returns-clause-answered g c =
    let o = c.in_ok-carried.carried in
    let e = c.in_ok-carried.ensures in
    let b = c.args.bundle.now in
    let k = c.args.checked.now in
    λ apart. (
      text (result_lines o.first o.second o.archive b.plan.entries),
      subst (λ n. AnswersBundle (values b) (text (result_lines o.first o.second o.archive b.plan.entries)) n) (sym (c.exit_status.ensures ∙ ap (λ z. min 1 (skipped_count z)) c.as_slice-entries.ensures))
          (settled (values b) c.requires.bundle apart k.first k.second c.requires.first c.requires.second (subst (λ z. Valid (snapshot_of z) z.plan) c.requires.same c.plan-plan.ensures.valid)
          o.first o.second o.archive e.lawful.0 e.lawful.1 e.lawful.2
          (e.first ∙ ap (λ z. copied side.Second (at b.second) (at b.first) z.plan.entries) c.requires.same)
          (e.second ∙ ap (λ z. copied side.First (at b.first) (at b.second) z.plan.entries) c.requires.same)
          (e.archive ∙ ap (λ z. marked_all (snapshot_of z) (at z.archive) z.plan.entries) c.requires.same)),
      subst (λ t. Appends (g.W.Sink.holds c.args.writer.now) (g.W.Sink.holds c.write_carried.new.writer) t)
          (same_text c.rows.result.now o.first c.rows-2.result.now o.second c.rows-3.result.now o.archive c.as_slice-entries.result.now b.plan.entries
          c.rows.ensures.rows c.rows-2.ensures.rows c.rows-3.ensures.rows c.as_slice-entries.ensures)
          c.in_ok-write_carried.ensures.written,
    )
