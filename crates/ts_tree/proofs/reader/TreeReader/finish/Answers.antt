use Rattle.std.proofs.Common.{◌++◌, refl, sym, ap, ◌∙◌}
use Rattle.ts_model.specs.Texts.{tree_lines}
use Rattle.ts_tree.specs.Readers.{open_lines}
use Rattle.ts_tree.proofs.Readers.{no_end}
use Rattle.ts_tree.proofs.reader.TreeReader.finish.Goals as goal

-- A file that isn't whole ends no tree.
pub returns-in-Some-clause-refused : goal.returns-in-Some-clause-refused
returns-in-Some-clause-refused c =
    let r = c.self.inside in
    let fits = rw c.in-Some.is at c.self.invariant.1 in
    (refl, λ rows is e. no_end r.tree c.in-Some.field-0 c.self.invariant.0 fits rows is (e ∙ sym c.self.view_is ∙ ap (λ f. tree_lines r.tree ++ open_lines f) c.in-Some.is))
