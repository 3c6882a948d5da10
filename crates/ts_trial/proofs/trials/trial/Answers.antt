use Rattle.std.proofs.Common.{ℕ}
use Rattle.ts_trial.proofs.Answering.{told_bundle, told_malformed, told_nothing}
use Rattle.ts_trial.proofs.trials.trial.Goals as goal

pub returns-in-Ok-clause-answered : goal.returns-in-Ok-clause-answered
returns-in-Ok-clause-answered g c =
    told_bundle c.args.reader.now.left (g.W.Sink.holds c.args.writer.now) _ c.in-Ok.bundle c.answer.result c.in-Ok.ensures.found c.answer.ensures.answered

pub returns-in-Err-Malformed-clause-answered : goal.returns-in-Err-Malformed-clause-answered
returns-in-Err-Malformed-clause-answered g c =
    told_malformed c.args.reader.now c.decode.new.lines (g.W.Sink.holds c.args.writer.now) (g.W.Sink.holds c.refuse.new.writer) c.in-Err-Malformed.field-0 c.refuse.result c.in-Err-Malformed.field-0-is
    c.in-Err-Malformed.ensures.refused c.refuse.ensures.written c.refuse.ensures.status

pub returns-in-Err-OutOfMemory-clause-answered : goal.returns-in-Err-OutOfMemory-clause-answered
returns-in-Err-OutOfMemory-clause-answered g c = told_nothing {E = ℕ} c.args.reader.now.left (g.W.Sink.holds c.args.writer.now) 0

pub returns-in-Err-Failed-clause-answered : goal.returns-in-Err-Failed-clause-answered
returns-in-Err-Failed-clause-answered g c = told_nothing {E = ℕ} c.args.reader.now.left (g.W.Sink.holds c.args.writer.now) 0
