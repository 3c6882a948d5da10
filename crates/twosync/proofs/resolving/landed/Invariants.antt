-- Each beginning of the place has the first components of the place.
use Rattle.std.proofs.Common.{IfSome}
use Rattle.std.specs.Path.{PathStartsWith, path_bytes}
use Rattle.std.specs.Path.Iter.{ancestors_next}
use Rattle.twosync.proofs.resolving.landed.Given as goal

abbrev pub invariant-loop-beginning : goal.invariant-loop-beginning
invariant-loop-beginning g l =
    (goal.iterator-loop-beginning g).can_next l.beginning-iterator ×
    (goal.iterator-loop-beginning g).is_finite l.beginning-iterator ×
    IfSome (ancestors_next l.beginning-iterator) (PathStartsWith (path_bytes l.place))
