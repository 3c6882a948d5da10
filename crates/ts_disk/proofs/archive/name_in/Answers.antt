use Rattle.std.proofs.Common.{inl, inr, refl}
use Rattle.ts_disk.proofs.Above.{around_slash, no_slash}
use Rattle.ts_disk.proofs.archive.name_in.Goals as goal

pub returns-in-Some : goal.returns-in-Some
returns-in-Some c = inr (c.in-Some.field-0-0.now, around_slash c.args.place.now c.in-Some.field-0-0.now c.in-Some.name.now c.in-Some.ensures.cases)

pub returns-in-None : goal.returns-in-None
returns-in-None c = inl (no_slash c.args.place.now c.in-None.ensures.cases, refl)
