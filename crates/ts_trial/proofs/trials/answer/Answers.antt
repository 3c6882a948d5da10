use Rattle.std.proofs.Common.{ℕ, ◌∷◌, [], ap, ◌∙◌}
use Rattle.std.proofs.lemmas.Result.{err_from_is_err_and}
use Rattle.ts_check.specs.Checkup.{Checkup}
use Rattle.ts_model.specs.Sync.{listed_snapshot}
use Rattle.ts_model.specs.Texts.{text}
use Rattle.ts_model.specs.Trees.{at}
use Rattle.ts_bundle.specs.Bundles.{values}
use Rattle.ts_trial.specs.Answers.{AnswersBundle, refusal}
use Rattle.ts_trial.proofs.Answering.{nothing_written, one_written, refused, told_broken}
use Rattle.ts_trial.proofs.trials.answer.Goals as goal

-- Nothing went out yet.
pub returns-in_err-first-clause-answered : goal.returns-in_err-first-clause-answered
returns-in_err-first-clause-answered g c =
    let p = err_from_is_err_and c.from_residual.result c.from_residual.ensures.1 in
    rw p.1 (λ apart. nothing_written {E = ℕ} (values c.args.bundle.now) (g.W.Sink.holds c.args.writer.now) c.requires.bundle apart 0)

pub returns-in_err-second-clause-answered : goal.returns-in_err-second-clause-answered
returns-in_err-second-clause-answered g c =
    let p = err_from_is_err_and c.from_residual-in_err-second.result c.from_residual-in_err-second.ensures.1 in
    rw p.1 (λ apart. nothing_written {E = ℕ} (values c.args.bundle.now) (g.W.Sink.holds c.args.writer.now) c.requires.bundle apart 0)

-- The plan was refused.
pub returns-in-Err-Broken-clause-answered : goal.returns-in-Err-Broken-clause-answered
returns-in-Err-Broken-clause-answered g c = λ apart.
    one_written (AnswersBundle (values c.args.bundle.now)) (g.W.Sink.holds c.args.writer.now) (g.W.Sink.holds c.refuse_plan.new.writer) (text (refusal c.in-Err-Broken.rule c.in-Err-Broken.place ∷ [])) 3 c.refuse_plan.result
    (refused (values c.args.bundle.now) c.in_ok-first.first c.in_ok-second.second c.in-Err-Broken.rule c.in-Err-Broken.place c.in_ok-first.ensures.print c.in_ok-second.ensures.print
    (told_broken (listed_snapshot c.args.bundle.now.archive c.in_ok-first.first c.in_ok-second.second c.args.bundle.now.holds) c.args.bundle.now.plan c.check.result c.in-Err-Broken.field-0 c.in-Err-Broken.rule c.in-Err-Broken.place
    c.check.ensures.told c.in-Err-Broken.is c.in-Err-Broken.field-0-is))
    c.refuse_plan.ensures.written c.refuse_plan.ensures.status

pub returns-clause-answered : goal.returns-clause-answered
returns-clause-answered g c = λ apart. nothing_written {E = ℕ} (values c.args.bundle.now) (g.W.Sink.holds c.args.writer.now) c.requires.bundle apart 0

-- What was checked has the prints that were taken.
pub settle-requires-clause-first : goal.settle-requires-clause-first
settle-requires-clause-first g c κs within = ap (λ (k : Checkup). at k.first) c.in-Ok.ensures.checked ∙ c.in_ok-first.ensures.print

pub settle-requires-clause-second : goal.settle-requires-clause-second
settle-requires-clause-second g c κs within = ap (λ (k : Checkup). at k.second) c.in-Ok.ensures.checked ∙ c.in_ok-second.ensures.print
