use Rattle.std.proofs.Common.{◌≡◌, ◌-◌, ◌∷◌, [], ◌++◌, min, Some, length, ◌∙◌, arith}
use Rattle.std.proofs.lemmas.Result.{err_from_is_err_and, IfOk-weaker}
use Rattle.ts_model.specs.Texts.{tree_lines, tree_row_lines}
use Rattle.ts_model.specs.declared.row.Content.TheVariants.{File}
use Rattle.ts_tree.specs.Fields.{IsNoData}
use Rattle.ts_tree.specs.Readers.{BeginsNoTree, open_lines}
use Rattle.ts_tree.proofs.Readers.{no_data, file_ends, file_goes_on}
use Rattle.ts_tree.proofs.Refusals.{refuses_weaker}
use Rattle.ts_tree.proofs.reader.go_on.Goals as goal

-- No tree has another line there.
pub returns-in_err-read_data-clause-refused : goal.returns-in_err-read_data-clause-refused
returns-in_err-read_data-clause-refused c =
    let p = err_from_is_err_and c.from_residual.result c.from_residual.ensures.1 in
    let f = c.args.file in
    let count : c.min-count.result ≡ min 64 (f.size - length f.bytes.items) = omega arith in
    rw (p.1, p.2) (refuses_weaker (IsNoData c.args.line.now c.min-count.result) (BeginsNoTree ((tree_lines c.args.tree ++ open_lines (Some f)) ++ c.args.line.now ∷ [])) c.in_err-read_data.field-0.0
    (no_data c.args.tree f c.args.line.now c.min-count.result c.requires.tree c.requires.open count) c.in_err-read_data.ensures.refused)

-- A full line, with more to come.
pub returns-then-left-clause-taken : goal.returns-then-left-clause-taken
returns-then-left-clause-taken c =
    let f = c.args.file in
    let count : c.min-count.result ≡ 64 = omega arith in
    file_goes_on c.args.tree f c.read_data.new.bytes.items c.args.line.now c.requires.open (rw count at c.in_ok-read_data.ensures.found)

-- The last line.
pub returns-clause-taken : goal.returns-clause-taken
returns-clause-taken c =
    let f = c.args.file in
    let all = file_ends c.args.tree f c.read_data.new.bytes.items c.args.line.now c.min-count.result c.requires.open c.in_ok-read_data.ensures.found (omega arith) (omega (arith, c.requires.open.less)) in
    IfOk-weaker c.with_file.result (λ reader. reader ≡ tree_lines c.args.tree ++ tree_row_lines f.path (File c.read_data.new.bytes.items))
    (λ reader. reader ≡ (tree_lines c.args.tree ++ open_lines (Some f)) ++ c.args.line.now ∷ []) (λ reader e. e ∙ all) c.with_file.ensures.taken
