use Rattle.std.proofs.Common.{sym, ◌∙◌, eqb-true}
use Rattle.std.proofs.lemmas.Bool.{eqb-false}
use Rattle.std.proofs.lemmas.Result.{err_from_is_err_and}
use Rattle.ts_hold.specs.Rules.{TellsBadLine}
use Rattle.ts_hold.proofs.RuleLines.{one_rules, only_memory, refused_line, unended_line, whole_text}
use Rattle.ts_hold.proofs.holds.Holds.parse.Goals as goal

pub returns-in_default-clause-bad : goal.returns-in_default-clause-bad
returns-in_default-clause-bad c = unended_line _ c.next.reader _ _ c.next.invariant.read c.next.invariant.lawful (eqb-false _ 0 (sym c.next-test.ensures)) c.in_default.ensures c.fault.ensures

pub returns-in_default-clause-only : goal.returns-in_default-clause-only
returns-in_default-clause-only c rules is = only_memory _ _ rules (returns-in_default-clause-bad c) is

line_tells : (c : goal.After-drop-reader-in_err-line) → TellsBadLine c.args.text.now c.in_err-line.field-0.0
line_tells c = refused_line _ c.next.reader _ _ _ _ c.next.invariant.read c.next.invariant.lawful (eqb-false _ 0 (sym c.next-test.ensures)) c.in-Some.ensures c.in_err-line.ensures.bad

pub returns-in_err-line-clause-bad : goal.returns-in_err-line-clause-bad
returns-in_err-line-clause-bad c =
    let p = err_from_is_err_and c.from_residual.result c.from_residual.ensures.1 in
    rw (p.1, p.2) (line_tells c)

pub returns-in_err-line-clause-only : goal.returns-in_err-line-clause-only
returns-in_err-line-clause-only c rules is =
    let p = err_from_is_err_and c.from_residual.result c.from_residual.ensures.1 in
    rw (p.1, p.2) (only_memory _ _ rules (line_tells c) is)

pub returns-clause-only : goal.returns-clause-only
returns-clause-only c rules is =
    c.finish.ensures ∙ one_rules _ c.next.reader rules (whole_text _ c.next.reader _ c.next.invariant.read c.next.invariant.lawful (eqb-true _ 0 (sym c.next-test.ensures))) is
