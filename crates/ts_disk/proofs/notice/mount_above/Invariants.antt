use Rattle.std.proofs.Common.{◌≢◌, [], IfSome}
use Rattle.ts_name.specs.Paths.{IsAbove}
use Rattle.ts_disk.proofs.notice.mount_above.Given as goal

-- the place at hand is above the path, and so is what was found
abbrev pub invariant-loop : goal.invariant-loop
invariant-loop g l = IsAbove l.at l.path × IfSome l.found (λ top. IsAbove top l.path) × IfSome l.found (λ top. top ≢ [])
