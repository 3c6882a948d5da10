use Rattle.std.proofs.Common.{◌≤◌, length}
use Rattle.ts_folder.proofs.disk.read_from.Given as goal

abbrev pub invariant-loop : goal.invariant-loop
invariant-loop g l = l.count ≤ length l.buffer
