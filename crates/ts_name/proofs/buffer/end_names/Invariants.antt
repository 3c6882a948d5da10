use Rattle.std.proofs.Common.{◌≡◌, ◌==◌, ◌++◌, take, drop, map, if◌then◌else◌}
use Rattle.ts_name.proofs.buffer.end_names.Given as goal

abbrev pub invariant-loop-b : goal.invariant-loop-b
invariant-loop-b l =
    l.b-items ≡ map (λ b. if b == 47 then 0 else b) (take l.b-index l.fn.bytes.items) ++ drop l.b-index l.fn.bytes.items
