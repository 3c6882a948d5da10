use Rattle.std.proofs.Common.{arith}
use Rattle.ts_preview.specs.Json.{json_byte}
use Rattle.ts_preview.proofs.Appended.{byte_last, byte_more}
use Rattle.ts_preview.proofs.json.push_string.Goals as goal

pub loop-byte-preserved : goal.loop-byte-preserved
loop-byte-preserved c =
    byte_more json_byte c.args.text.now c.loop-byte.byte-index c.args.line.now.items c.loop-byte.line.items c.push_byte.new.line.items
    c.loop-byte-test.true c.loop-byte.invariant c.in_ok-push_byte.ensures

pub returns : goal.returns
returns c =
    let past = c.loop-byte-test.false in
    byte_last json_byte c.args.text.now c.loop-byte.byte-index c.args.line.now.items c.loop-byte.line.items (omega arith) c.loop-byte.invariant
