use Rattle.std.proofs.Common.{length, sym, ap, ◌∙◌, subst}
use Rattle.ts_model.specs.Trees.{at}
use Rattle.ts_table.specs.Splices.{ArePaths, grafted}
use Rattle.ts_table.specs.Splits.{edits_of, without}
use Rattle.ts_board.specs.Edits.{copies}
use Rattle.ts_board.proofs.Edits.{edits_leave, edits_paths, left_copied}
use Rattle.ts_through.specs.Parts.{paths_from}
use Rattle.ts_through.proofs.Parts.{parts_count, parts_edits}
use Rattle.ts_through.proofs.join.joined.Goals as goal

pub join-requires : goal.join-requires
join-requires c =
    parts_count c.args.from (at c.args.source.now) c.args.entries.now c.in_ok-back.back.items c.in_ok-back.ensures.parts ∙ ap length (sym c.requires.paths)

pub returns-in-Ok-clause-tree : goal.returns-in-Ok-clause-tree
returns-in-Ok-clause-tree c = λ t is.
    let r = c.args.from in let origin = at c.args.source.now in let entries = c.args.entries.now in let back = c.in_ok-back.back.items in
    c.in-Ok.ensures.whole t (is ∙ ap (λ paths. without t paths) (sym c.requires.paths))
    ∙ ap (λ paths. grafted t (edits_of paths back)) c.requires.paths
    ∙ edits_leave (copies r origin) entries t (edits_of (paths_from r entries) back) (parts_edits r origin entries back c.in_ok-back.ensures.parts)
    ∙ left_copied r origin entries t

pub unreachable-requires : goal.unreachable-requires
unreachable-requires c =
    let r = c.args.from in let origin = at c.args.source.now in let entries = c.args.entries.now in let back = c.in_ok-back.back.items in
    c.in-Err-default-default-TooLong.ensures.too_long c.in-Err-default-default-TooLong.field-0-2-is
    (subst (λ paths. ArePaths (edits_of paths back)) (sym c.requires.paths)
    (edits_paths (copies r origin) entries (edits_of (paths_from r entries) back) (parts_edits r origin entries back c.in_ok-back.ensures.parts)))
