use Rattle.std.proofs.Common.{Contains}
use Rattle.std.specs.Path.{path_buf_bytes, path_components}
use Rattle.std.specs.Path.Iter.{path_iter_remaining}
use Rattle.twosync.proofs.nesting.has_component.Given as goal

abbrev pub invariant-loop-component : goal.invariant-loop-component
invariant-loop-component l =
    (goal.iterator-loop-component).can_next l.component-iterator ×
    (goal.iterator-loop-component).is_finite l.component-iterator ×
    (Contains (path_components (path_buf_bytes l.path)) l.name → Contains (path_iter_remaining l.component-iterator) l.name) ×
    (Contains (path_iter_remaining l.component-iterator) l.name → Contains (path_components (path_buf_bytes l.path)) l.name)
