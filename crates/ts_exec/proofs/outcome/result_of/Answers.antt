use Rattle.std.proofs.Common.{◌≡◌, Option, Some, None, sym, ◌∙◌}
use Rattle.std.specs.Mem.Slots.{slots_items}
use Rattle.std.proofs.lemmas.Option.{slice_get_within}
use Rattle.ts_exec.specs.declared.fault.ActFault.{ActFault}
use Rattle.ts_exec.proofs.Closing.{done_is, failed_is, never_claimed, not_done_is, not_failed_is}
use Rattle.ts_exec.proofs.outcome.result_of.Goals as goal

pub returns-then-word-ne0 : goal.returns-then-word-ne0
returns-then-word-ne0 g c = λ run end.
    let plan = c.args.checked.now.plan in let i = c.args.i in let words = slots_items c.args.closed.now.row.words in
    done_is plan run words i (end.has.words_are i c.requires.action) (end.has.small i) c.word-word.result c.word-word.ensures c.if-word-ne0.true

pub returns-in-Some : goal.returns-in-Some
returns-in-Some g c = λ run end.
    let plan = c.args.checked.now.plan in let i = c.args.i in let words = slots_items c.args.closed.now.row.words in let w = c.word-word.result in let is = c.word-word.ensures in (
      never_claimed plan run i end.tidy (not_done_is plan run words i (end.has.words_are i c.requires.action) (end.has.small i) w is c.if-word-ne0.false) (not_failed_is plan run words i (end.has.words_are i c.requires.action) (end.has.small i) w is c.if-word-eq0.true),
      c.in-Some.ensures.some run end.has,
    )

pub returns-in-None : goal.returns-in-None
returns-in-None g c = λ run end.
    let plan = c.args.checked.now.plan in let i = c.args.i in let words = slots_items c.args.closed.now.row.words in let w = c.word-word.result in let is = c.word-word.ensures in (
      never_claimed plan run i end.tidy (not_done_is plan run words i (end.has.words_are i c.requires.action) (end.has.small i) w is c.if-word-ne0.false) (not_failed_is plan run words i (end.has.words_are i c.requires.action) (end.has.small i) w is c.if-word-eq0.true),
      c.in-None.ensures.none run end.has,
    )

pub fault_at-requires : goal.fault_at-requires
fault_at-requires g c =
    let plan = c.args.checked.now.plan in let i = c.args.i in let words = slots_items c.args.closed.now.row.words in
    let run = c.requires.end.0 in let end = c.requires.end.1 in
    let noted = end.noted i (failed_is plan run words i (end.has.words_are i c.requires.action) (end.has.small i) c.word-word.result c.word-word.ensures c.if-word-eq0.false) in
    slice_get_within c.args.faults.now i (Some noted.0) noted.1

pub unreachable-requires : goal.unreachable-requires
unreachable-requires g c =
    let plan = c.args.checked.now.plan in let i = c.args.i in let words = slots_items c.args.closed.now.row.words in
    let run = c.requires.end.0 in let end = c.requires.end.1 in
    let noted = end.noted i (failed_is plan run words i (end.has.words_are i c.requires.action) (end.has.small i) c.word-word.result c.word-word.ensures c.if-word-eq0.false) in
    let some : Option (Option ActFault) = Some (Some noted.0) in let none : Option (Option ActFault) = Some None in
    let both : some ≡ none = sym noted.1 ∙ c.in-None-fault_at.ensures in cc

pub returns : goal.returns
returns g c = λ run end.
    let plan = c.args.checked.now.plan in let i = c.args.i in let words = slots_items c.args.closed.now.row.words in
    (failed_is plan run words i (end.has.words_are i c.requires.action) (end.has.small i) c.word-word.result c.word-word.ensures c.if-word-eq0.false, c.in-Some-fault_at.ensures)
