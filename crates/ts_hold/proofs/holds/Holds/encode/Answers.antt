use Rattle.std.proofs.Common.{map, ◌∙◌, subst, arith}
use Rattle.std.proofs.lemmas.List.{take_all}
use Rattle.std.proofs.lemmas.Result.{err_from_is_err_and}
use Rattle.std.specs.Io.KnownBytes.{Appends}
use Rattle.ts_text.specs.Sources.{AppendsFront}
use Rattle.ts_model.specs.Texts.{text, rule_line}
use Rattle.ts_hold.proofs.Writing.{stopped_within, written_more}
use Rattle.ts_hold.proofs.holds.Holds.encode.Goals as goal

pub returns-in_err-write_rule-clause-written : goal.returns-in_err-write_rule-clause-written
returns-in_err-write_rule-clause-written g c =
    let p = err_from_is_err_and c.from_residual.result c.from_residual.ensures.1 in
    rw (p.1) (subst (λ z. AppendsFront (g.W.Sink.holds c.args.sink.now) (g.W.Sink.holds c.write_rule.new.sink) (text (map rule_line z))) c.rules-rules.ensures.rules
    (stopped_within _ _ _ c.rules-rules.result.now c.loop-rule.rule-index c.rule-item.result (omega arith) c.rule-item.is c.loop-rule.invariant.written c.in_err-write_rule.ensures.written))

pub loop-rule-preserved : goal.loop-rule-preserved
loop-rule-preserved g c = record {
  written =
      written_more (g.W.Sink.holds c.args.sink.now) (g.W.Sink.holds c.loop-rule.sink) (g.W.Sink.holds c.write_rule.new.sink) c.rules-rules.result.now c.loop-rule.rule-index c.rule-item.result
      c.loop-rule-test.true c.rule-item.is c.loop-rule.invariant.written c.in_ok-write_rule.ensures.written;
  failures = c.in_ok-write_rule.ensures.failures ∙ c.loop-rule.invariant.failures;
}

pub returns-clause-written : goal.returns-clause-written
returns-clause-written g c =
    subst (λ z. Appends (g.W.Sink.holds c.args.sink.now) (g.W.Sink.holds c.loop-rule.sink) (text (map rule_line z)))
    (take_all c.loop-rule.rule-index c.rules-rules.result.now c.loop-rule-test.false ∙ c.rules-rules.ensures.rules) c.loop-rule.invariant.written
