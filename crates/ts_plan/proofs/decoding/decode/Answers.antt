use Rattle.std.proofs.Common.{◌∷◌, [], ◌++◌, Ok, Err, sym, ap, ◌∙◌, subst}
use Rattle.ts_text.specs.Lines.{Answers}
use Rattle.ts_plan.specs.Progress.{fed}
use Rattle.ts_plan.specs.Decoding.{Decodes}
use Rattle.ts_plan.proofs.Sources.{given_more, given_none, finished, text_refused, line_refused}
use Rattle.ts_plan.proofs.Turns.{begun_start}
use Rattle.ts_plan.proofs.decoding.decode.Goals as goal

pub returns-in-Ok-false : goal.returns-in-Ok-false
returns-in-Ok-false g c =
    let loop = c.loop-reader in
    let ended = subst (λ b. Answers loop.lines (Ok b) c.advance.new.self) c.in-Ok-false.field-0-test c.in-Ok-false.ensures.answers in
    finished c.args.lines.now loop.lines c.advance.new.self loop.reader c.finish.result loop.invariant.given loop.invariant.begun ended.kept ended.ended c.finish.ensures

pub returns-in-Err : goal.returns-in-Err
returns-in-Err g c =
    let loop = c.loop-reader in
    subst (λ f. Decodes c.args.lines.now (Err f) c.advance.new.self) (sym c.from.ensures)
    (text_refused c.args.lines.now loop.lines c.advance.new.self loop.reader c.in-Err.fault loop.invariant.given loop.invariant.begun c.in-Err.ensures.answers)

pub returns-in-Err-taken : goal.returns-in-Err-taken
returns-in-Err-taken g c =
    let loop = c.loop-reader in
    let read = fed loop.reader in
    let gives = subst (λ b. Answers loop.lines (Ok b) c.advance.new.self) c.in-Ok-true.field-0-test c.in-Ok-true.ensures.answers in
    let given = given_more c.args.lines.now loop.lines c.advance.new.self read (read ++ c.line.result.now ∷ []) loop.invariant.given gives (ap (λ z. read ++ z ∷ []) c.line.ensures) in
    line_refused c.args.lines.now c.advance.new.self loop.reader c.line-taken.new.self c.line.result.now c.in-Err-taken.fault given loop.invariant.begun c.in-Err-taken.ensures.reads

pub loop-reader-init : goal.loop-reader-init
loop-reader-init g c = rw c.new-reader.ensures (record { given = given_none c.args.lines.now; begun = begun_start })

pub loop-reader-preserved : goal.loop-reader-preserved
loop-reader-preserved g c =
    let loop = c.loop-reader in
    let read = fed loop.reader in
    let gives = subst (λ b. Answers loop.lines (Ok b) c.advance.new.self) c.in-Ok-true.field-0-test c.in-Ok-true.ensures.answers in
    record {
      given = given_more c.args.lines.now loop.lines c.advance.new.self read (fed c.line-taken.new.self) loop.invariant.given gives (c.in_default.ensures.reads ∙ ap (λ z. read ++ z ∷ []) c.line.ensures);
      begun = c.line-taken.ensures.begun;
    }
