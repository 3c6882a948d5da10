-- What is lent of a kind says which kind it is.
use Rattle.std.proofs.Common.{◌≢◌, ℕ, refl, Bor}
use Rattle.ts_name.specs.Paths.{Path}
use Rattle.ts_name.specs.declared.paths.Path as declared
use Rattle.ts_model.specs.Packed.{kind_lent}
use Rattle.ts_model.specs.declared.packed.KindRef.{KindRef}
use Rattle.ts_model.specs.declared.packed.KindRef.TheVariants as lent
use Rattle.ts_model.specs.declared.plan.Kind.{Kind}
use Rattle.ts_model.specs.declared.plan.Kind.TheVariants.{Piece, Commit, Mark}

-- what isn't lent as a commit is none
pub lent_no_commit : (seen : KindRef) → ((e : ℕ) → seen ≢ lent.Commit e) → (e : ℕ) → kind_lent seen ≢ Commit e
lent_no_commit (lent.Piece entry offset length path) none e is = cc
lent_no_commit (lent.Commit entry) none e is = absurd (none entry refl)
lent_no_commit (lent.Mark entry) none e is = cc

-- what isn't lent as a mark is none
pub lent_no_mark : (seen : KindRef) → ((e : ℕ) → seen ≢ lent.Mark e) → (e : ℕ) → kind_lent seen ≢ Mark e
lent_no_mark (lent.Piece entry offset length path) none e is = cc
lent_no_mark (lent.Commit entry) none e is = cc
lent_no_mark (lent.Mark entry) none e is = absurd (none entry refl)

-- what isn't lent as a piece is none
pub lent_no_piece : (seen : KindRef) → ((e offset len : ℕ) (p : Bor declared.Path) → seen ≢ lent.Piece e offset len p) → (e offset len : ℕ) (p : Path) → kind_lent seen ≢ Piece e offset len p
lent_no_piece (lent.Piece entry offset length path) none e o l p is = absurd (none entry offset length path refl)
lent_no_piece (lent.Commit entry) none e o l p is = cc
lent_no_piece (lent.Mark entry) none e o l p is = cc
