use Rattle.std.proofs.Common.{sym, ap, inl, inr, refl}
use Rattle.ts_disk.proofs.Above.{around_slash, directory_is, no_slash}
use Rattle.ts_disk.proofs.Parts.{emptied, filled}
use Rattle.ts_disk.specs.Names.{as_directory}
use Rattle.ts_disk.proofs.archive.above.Goals as goal

pub returns-in-Some : goal.returns-in-Some
returns-in-Some c =
    let cut = around_slash c.args.place.now c.in-Some.above.now c.in-Some.field-0-1.now c.in-Some.ensures.cases in
    let none = emptied c.in-Some.above.now c.is_empty.result c.is_empty.ensures c.if-is_empty.true in
    inr (c.in-Some.above.now, c.in-Some.field-0-1.now, cut, ap as_directory (sym none))

pub returns-in-Some-2 : goal.returns-in-Some-2
returns-in-Some-2 c =
    let cut = around_slash c.args.place.now c.in-Some.above.now c.in-Some.field-0-1.now c.in-Some.ensures.cases in
    let some = filled c.in-Some.above.now c.is_empty.result c.is_empty.ensures c.if-is_empty.false in
    inr (c.in-Some.above.now, c.in-Some.field-0-1.now, cut, directory_is c.in-Some.above.now some)

pub returns-in-None : goal.returns-in-None
returns-in-None c = inl (no_slash c.args.place.now c.in-None.ensures.cases, refl)
