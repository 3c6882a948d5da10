use Rattle.std.proofs.Common.{◌≡◌, ◌<◌, length, ap, sym, ◌∙◌, subst, arith, length-append}
use Rattle.std.specs.Io.KnownBytes.{Keeps, prepend_known}
use Rattle.std.proofs.KnownBytes.{Keeps-trans}
use Rattle.ts_text.proofs.Search.{FreeBelow, line_found, none_found, none_in_full, none_at_end, kept_when_read, free_front}
use Rattle.ts_text.proofs.lines.find_line.Goals as goal

pub returns-in-Some-clause-found : goal.returns-in-Some-clause-found
returns-in-Some-clause-found g c =
    let loop = c.loop-length in
    line_found loop.window c.bytes-bytes.result.now loop.seen c.in-Some.length c.bytes-bytes.ensures.value loop.invariant.0 c.bytes-bytes.ensures.bound loop.invariant.1 c.in-Some.ensures.found

pub returns-then-seen-eq-CAPACITY-clause-found : goal.returns-then-seen-eq-CAPACITY-clause-found
returns-then-seen-eq-CAPACITY-clause-found g c =
    let loop = c.loop-length in
    let free = none_found loop.window c.bytes-bytes.result.now loop.seen c.bytes-bytes.ensures.value loop.invariant.0 loop.invariant.1 c.in_default.ensures.none in
    none_in_full loop.window _ (sym (ap length c.bytes-bytes.ensures.value) ∙ c.if-seen-eq-CAPACITY.true) free

pub returns-else-seen-eq0-clause-found : goal.returns-else-seen-eq0-clause-found
returns-else-seen-eq0-clause-found g c =
    let loop = c.loop-length in
    let gains = c.in_ok-fill.ensures.gains in
    let free = none_found loop.window c.bytes-bytes.result.now loop.seen c.bytes-bytes.ensures.value loop.invariant.0 loop.invariant.1 c.in_default.ensures.none in
    let size : length c.fill.new.self ≡ length loop.window = ap length gains.appended ∙ omega (arith, length-append loop.window gains.bytes, gains.count, c.if-branch-eq0.true) in
    let whole : FreeBelow (length c.fill.new.self) c.fill.new.self = λ k small e. free_front loop.window gains.bytes c.fill.new.self gains.appended free k (omega (arith, small, size)) e in
    let some : 0 < length c.fill.new.self = omega (arith, size, ap length c.bytes-bytes.ensures.value, c.if-seen-eq0.false) in
    none_at_end c.fill.new.self _ some (c.in_ok-fill.ensures.end c.if-branch-eq0.true) whole

pub loop-length-preserved : goal.loop-length-preserved
loop-length-preserved g c =
    let loop = c.loop-length in
    let gains = c.in_ok-fill.ensures.gains in
    let size = ap length c.bytes-bytes.ensures.value in
    let free = none_found loop.window c.bytes-bytes.result.now loop.seen c.bytes-bytes.ensures.value loop.invariant.0 loop.invariant.1 c.in_default.ensures.none in
    let more = kept_when_read loop.window gains.bytes (g.S.Source.holds loop.source) (g.S.Source.holds c.fill.new.source) gains.given in (
      omega (arith, size, ap length gains.appended, length-append loop.window gains.bytes),
      λ k small e. free_front loop.window gains.bytes c.fill.new.self gains.appended free k (omega (arith, small, size)) e,
      Keeps-trans _ _ _ loop.invariant.2 (subst (λ l. Keeps (prepend_known loop.window (g.S.Source.holds loop.source)) (prepend_known l (g.S.Source.holds c.fill.new.source))) (sym gains.appended) more),
      c.in_ok-fill.ensures.counted ∙ loop.invariant.3,
    )
