use Rattle.std.proofs.Common.{sym, subst}
use Rattle.ts_name.proofs.Escapes.{ReadSoFar, ReadSoFar-none, ReadSoFar-more, ReadSoFar-stuck, ReadSoFar-all, shorter_byte, nothing, something}
use Rattle.ts_name.proofs.escape.unescaped.Goals as goal

pub loop-rest-init : goal.loop-rest-init
loop-rest-init c = subst (λ z. ReadSoFar c.args.text.now c.args.text.now z) (sym c.in_ok-bytes.ensures.items) (ReadSoFar-none c.args.text.now)

pub loop-rest-smaller : goal.loop-rest-smaller
loop-rest-smaller c = shorter_byte c.in-Some.b _ _ c.in-Some.ensures.1

pub returns-in_default : goal.returns-in_default
returns-in_default c = ReadSoFar-stuck _ _ _ c.loop-rest.invariant (something _ _ c.is_empty.ensures c.loop-rest-test.true) c.in_default.ensures

pub loop-rest-preserved : goal.loop-rest-preserved
loop-rest-preserved c = subst (λ z. ReadSoFar c.args.text.now c.in-Some.after.now z) (sym c.in_ok-push.ensures.items) (ReadSoFar-more _ _ _ _ c.in-Some.b c.loop-rest.invariant c.in-Some.ensures.0 c.in-Some.ensures.1)

pub returns : goal.returns
returns c = ReadSoFar-all _ _ _ c.loop-rest.invariant (nothing _ _ c.is_empty.ensures c.loop-rest-test.false)
