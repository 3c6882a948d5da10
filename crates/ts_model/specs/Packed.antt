-- What a plan lends of an action.
use Rattle.ts_model.specs.declared.packed.KindRef.{KindRef}
use Rattle.ts_model.specs.declared.packed.KindRef.TheVariants as lent
use Rattle.ts_model.specs.declared.plan.Kind.{Kind}
use Rattle.ts_model.specs.declared.plan.Kind.TheVariants.{Piece, Commit, Mark}

-- the kind that is lent
abbrev pub kind_lent : KindRef → Kind
kind_lent (lent.Piece entry offset length path) = Piece entry offset length path.now
kind_lent (lent.Commit entry) = Commit entry
kind_lent (lent.Mark entry) = Mark entry
