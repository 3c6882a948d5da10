use Rattle.std.proofs.Common.{◌≡◌, ◌∙◌, ap, map, subst, sym, inl, inr, true, List, Option}
use Rattle.std.proofs.lemmas.Result.{IfErr-weaker, IfOk-weaker}
use Rattle.clap.specs.Words.{App, Row, Text, kind_of, takes}
use Rattle.clap.specs.declared.error.kind.ErrorKind.TheVariants as kind
use Rattle.ts_command.specs.CommandLine.{command_line}
use Rattle.ts_command.specs.Readings.{Gives}
use Rattle.ts_command.proofs.Lines.{reads_words}
use Rattle.ts_command.proofs.reading.command.Goals as goal

pub returns-in-Ok-clause-asked : goal.returns-in-Ok-clause-asked
returns-in-Ok-clause-asked g c =
    let reads = reads_words (map g.S.AsStr.text c.args.words.now) _ c.in-Ok.matches c.in_ok-line.ensures c.in-Ok.ensures.matches in
    IfOk-weaker c.given.result _ _ (λ command h. let P : Option (Text × List Row) → Type 0 = λ r. Gives r command in inl (subst P reads h)) c.given.ensures.asked

pub returns-in-Ok-clause-usage : goal.returns-in-Ok-clause-usage
returns-in-Ok-clause-usage g c =
    let reads = reads_words (map g.S.AsStr.text c.args.words.now) _ c.in-Ok.matches c.in_ok-line.ensures c.in-Ok.ensures.matches in
    IfErr-weaker c.given.result _ _
    (λ e h other. inr (λ command gives. let P : Option (Text × List Row) → Type 0 = λ r. Gives r command in h other command (subst P (sym reads) gives)))
    c.given.ensures.usage

pub returns-in-Err-clause-asked : goal.returns-in-Err-clause-asked
returns-in-Err-clause-asked g c =
    let words = map g.S.AsStr.text c.args.words.now in
    let passes : takes command_line words ≡ true → kind_of c.in-Err.message ≡ kind.OutOfMemory =
    λ taken. c.in-Err.ensures.passes (ap (λ (a : App). takes a words) c.in_ok-line.ensures ∙ taken) in
    IfOk-weaker c.tell.result _ _ (λ command h. inr h) (c.tell.ensures.asked words passes)

pub returns-in-Err-clause-usage : goal.returns-in-Err-clause-usage
returns-in-Err-clause-usage g c =
    let words = map g.S.AsStr.text c.args.words.now in
    let passes : takes command_line words ≡ true → kind_of c.in-Err.message ≡ kind.OutOfMemory =
    λ taken. c.in-Err.ensures.passes (ap (λ (a : App). takes a words) c.in_ok-line.ensures ∙ taken) in
    IfErr-weaker c.tell.result _ _ (λ e h other. inl (h other)) (c.tell.ensures.usage words passes)
