use Rattle.std.proofs.Common.{ℕ}
use Rattle.ts_trial.proofs.Answering.{told_nothing}
use Rattle.ts_perform.proofs.performing.answer_bundle.Goals as goal

pub returns-clause-answered : goal.returns-clause-answered
returns-clause-answered g c = told_nothing {E = ℕ} (g.I.Source.holds c.args.input) (g.O.Sink.holds c.args.out.now) 0
