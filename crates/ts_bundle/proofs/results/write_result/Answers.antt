use Rattle.std.proofs.Common.{◌∷◌, [], ◌++◌, codes, map, sym, subst, append_assoc}
use Rattle.std.proofs.lemmas.Result.{err_from_is_err_and}
use Rattle.ts_text.specs.Sources.{Writes}
use Rattle.ts_model.specs.Texts.{text, tree_lines, print_lines}
use Rattle.ts_model.specs.Trial.{report_line, total_line}
use Rattle.ts_tree.proofs.Writing.{begun_first, writes_after, begun_after, sent_more}
use Rattle.ts_bundle.proofs.results.write_result.Goals as goal

pub returns-in_err-write_tree-clause-written : goal.returns-in_err-write_tree-clause-written
returns-in_err-write_tree-clause-written g c =
    let p = err_from_is_err_and c.from_residual.result c.from_residual.ensures.1 in
    let old = g.W.Sink.holds c.args.sink.now in
    let first = codes "first" ∷ tree_lines c.args.first.now in
    let second = codes "second" ∷ tree_lines c.args.second.now in
    let archive = codes "archive" ∷ print_lines c.args.archive.now in
    let entries = codes "report" ∷ map report_line c.args.entries.now in
    let total = total_line c.args.entries.now ∷ [] in
    let new = g.W.Sink.holds c.write_tree.new.sink in
    rw p.1 (begun_first old new (((first ++ second) ++ archive) ++ entries) total (begun_first old new ((first ++ second) ++ archive) entries
    (begun_first old new (first ++ second) archive (begun_first old new first second c.in_err-write_tree.ensures.written))))

pub returns-in_err-write_tree-2-clause-written : goal.returns-in_err-write_tree-2-clause-written
returns-in_err-write_tree-2-clause-written g c =
    let p = err_from_is_err_and c.from_residual-in_err-write_tree-2.result c.from_residual-in_err-write_tree-2.ensures.1 in
    let old = g.W.Sink.holds c.args.sink.now in
    let first = codes "first" ∷ tree_lines c.args.first.now in
    let second = codes "second" ∷ tree_lines c.args.second.now in
    let archive = codes "archive" ∷ print_lines c.args.archive.now in
    let entries = codes "report" ∷ map report_line c.args.entries.now in
    let total = total_line c.args.entries.now ∷ [] in
    let new = g.W.Sink.holds c.write_tree-2.new.sink in
    rw p.1 (begun_first old new (((first ++ second) ++ archive) ++ entries) total (begun_first old new ((first ++ second) ++ archive) entries
    (begun_first old new (first ++ second) archive (begun_after old (g.W.Sink.holds c.write_tree.new.sink) new first second c.in_ok-write_tree.ensures.written c.in_err-write_tree-2.ensures.written))))

pub returns-in_err-write_print-clause-written : goal.returns-in_err-write_print-clause-written
returns-in_err-write_print-clause-written g c =
    let p = err_from_is_err_and c.from_residual-in_err-write_print.result c.from_residual-in_err-write_print.ensures.1 in
    let old = g.W.Sink.holds c.args.sink.now in
    let first = codes "first" ∷ tree_lines c.args.first.now in
    let second = codes "second" ∷ tree_lines c.args.second.now in
    let archive = codes "archive" ∷ print_lines c.args.archive.now in
    let entries = codes "report" ∷ map report_line c.args.entries.now in
    let total = total_line c.args.entries.now ∷ [] in
    let new = g.W.Sink.holds c.write_print.new.sink in
    rw p.1 (begun_first old new (((first ++ second) ++ archive) ++ entries) total (begun_first old new ((first ++ second) ++ archive) entries
    (begun_after old (g.W.Sink.holds c.write_tree-2.new.sink) new (first ++ second) archive (sent_more old (g.W.Sink.holds c.write_tree.new.sink) (g.W.Sink.holds c.write_tree-2.new.sink) first second c.in_ok-write_tree.ensures.written c.in_ok-write_tree-2.ensures.written) c.in_err-write_print.ensures.written)))

pub returns-clause-written : goal.returns-clause-written
returns-clause-written g c =
    let old = g.W.Sink.holds c.args.sink.now in
    let first = codes "first" ∷ tree_lines c.args.first.now in
    let second = codes "second" ∷ tree_lines c.args.second.now in
    let archive = codes "archive" ∷ print_lines c.args.archive.now in
    let entries = codes "report" ∷ map report_line c.args.entries.now in
    let total = total_line c.args.entries.now ∷ [] in
    let middle = g.W.Sink.holds c.write_tree-2.new.sink in
    let mid = g.W.Sink.holds c.write_print.new.sink in
    let new = g.W.Sink.holds c.write_report.new.sink in
    let both = sent_more old (g.W.Sink.holds c.write_tree.new.sink) (g.W.Sink.holds c.write_tree-2.new.sink) first second c.in_ok-write_tree.ensures.written c.in_ok-write_tree-2.ensures.written in
    let before = sent_more old middle mid (first ++ second) archive both c.in_ok-write_print.ensures.written in
    subst (λ z. Writes old new (text z) c.write_report.result) (sym (append_assoc ((first ++ second) ++ archive) entries total))
    (writes_after old mid new ((first ++ second) ++ archive) (entries ++ total) c.write_report.result before c.write_report.ensures.written)
