use Rattle.std.proofs.Common.{◌∷◌, drop}
use Rattle.ts_table.specs.Splits.{AreSeparate}
use Rattle.ts_table.proofs.frame.are_separate.Given as goal

abbrev pub invariant-loop-path : goal.invariant-loop-path
invariant-loop-path l = record {
  there : AreSeparate l.paths → AreSeparate (l.last ∷ drop l.path-index l.rest);
  back : AreSeparate (l.last ∷ drop l.path-index l.rest) → AreSeparate l.paths;
}
