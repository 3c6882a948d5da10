use Rattle.std.proofs.Common.{◌≡◌, take}
use Rattle.ts_hold.specs.Keys.{front_key}
use Rattle.ts_hold.proofs.keys.bytes_key.Given as goal

abbrev pub invariant-loop-byte : goal.invariant-loop-byte
invariant-loop-byte l = l.key ≡ front_key 1 (take l.byte-index l.name)
