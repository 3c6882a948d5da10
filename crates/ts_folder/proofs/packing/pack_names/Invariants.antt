use Rattle.std.proofs.Common.{◌≡◌}
use Rattle.ts_folder.proofs.packing.pack_names.Given as goal

abbrev pub invariant-loop-child-2 : goal.invariant-loop-child-2
invariant-loop-child-2 l = l.names ≡ l.fn.names
