use Rattle.std.proofs.Common.{◌≡◌, ◌++◌, take, flat_map}
use Rattle.ts_preview.specs.Json.{json_byte}
use Rattle.ts_preview.proofs.json.push_string.Given as goal

abbrev pub invariant-loop-byte : goal.invariant-loop-byte
invariant-loop-byte l = l.line.items ≡ l.fn.line.items ++ flat_map json_byte (take l.byte-index l.text)
