use Rattle.std.proofs.Common.{sym, ◌∙◌}
use Rattle.ts_stage.proofs.Assembling.{no_file, row_says}
use Rattle.ts_stage.proofs.staged.size_at.Goals as goal

pub returns-in-File-clause-file : goal.returns-in-File-clause-file
returns-in-File-clause-file c =
    let row = c.index-rows-index.result in
    let says = row_says c.args.rows.now c.in_ok-index.index row c.args.path.now c.requires c.in_ok-index.ensures.place c.index-rows-index.is (c.in_ok-index.ensures.path row) in
    (_, sym says ∙ c.in-File.is, sym c.size.ensures)

pub returns-in-Absent-clause-none : goal.returns-in-Absent-clause-none
returns-in-Absent-clause-none c had e =
    let row = c.index-rows-index.result in
    let says = row_says c.args.rows.now c.in_ok-index.index row c.args.path.now c.requires c.in_ok-index.ensures.place c.index-rows-index.is (c.in_ok-index.ensures.path row) in
    no_file row.content had c.in-Absent.is (says ∙ e)

pub returns-in-Absent-2-clause-none : goal.returns-in-Absent-2-clause-none
returns-in-Absent-2-clause-none c had e =
    let row = c.index-rows-index.result in
    let says = row_says c.args.rows.now c.in_ok-index.index row c.args.path.now c.requires c.in_ok-index.ensures.place c.index-rows-index.is (c.in_ok-index.ensures.path row) in
    no_file row.content had c.in-Absent.is (says ∙ e)
