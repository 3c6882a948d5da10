use Rattle.std.proofs.Common.{Err, ap, ◌∙◌}
use Rattle.ts_model.specs.Trees.{at}
use Rattle.ts_board.specs.Edits.{marks}
use Rattle.ts_board.proofs.Edits.{edits_leave, edits_order, edits_paths, edits_places}
use Rattle.ts_board.specs.Archives.{picked}
use Rattle.ts_board.proofs.archive.add_marks.Goals as goal

pub splice-requires-clause-places : goal.splice-requires-clause-places
splice-requires-clause-places c =
    edits_places (marks (at c.args.first.now) (at c.args.second.now)) (picked c.args.entries.now c.args.flags.now) (at c.args.print.now) c.in_ok-edits.edits.items c.requires.follow c.in_ok-edits.ensures

pub splice-requires-clause-order : goal.splice-requires-clause-order
splice-requires-clause-order c =
    edits_order (marks (at c.args.first.now) (at c.args.second.now)) (picked c.args.entries.now c.args.flags.now) (at c.args.print.now) c.in_ok-edits.edits.items c.requires.follow c.in_ok-edits.ensures

pub unreachable-requires : goal.unreachable-requires
unreachable-requires c =
    c.splice.ensures.too_long (c.in-Err-TooLong.is ∙ ap Err c.in-Err-TooLong.field-0-is)
    (edits_paths (marks (at c.args.first.now) (at c.args.second.now)) (picked c.args.entries.now c.args.flags.now) c.in_ok-edits.edits.items c.in_ok-edits.ensures)

pub returns-in-Ok : goal.returns-in-Ok
returns-in-Ok c =
    c.in-Ok.ensures.ok ∙ edits_leave (marks (at c.args.first.now) (at c.args.second.now)) (picked c.args.entries.now c.args.flags.now) (at c.args.print.now) c.in_ok-edits.edits.items c.in_ok-edits.ensures
