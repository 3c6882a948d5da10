use Rattle.std.proofs.Common.{◌++◌, take, drop, ap, sym, ◌∙◌, append_assoc, take-append-drop}
use Rattle.std.proofs.KnownBytes.{Appends-trans}
use Rattle.ts_text.proofs.Search.{rest_is}
use Rattle.ts_text.proofs.write.write_all.Goals as goal

pub loop-rest-preserved : goal.loop-rest-preserved
loop-rest-preserved g c =
    let loop = c.loop-rest in
    let rest = loop.rest.now in
    let count = c.in_ok-count.count in
    let front = loop.invariant.0 in (
      front ++ take count rest,
      loop.invariant.1 ∙ ap (λ l. front ++ l) (sym (take-append-drop count rest)) ∙ sym (append_assoc front (take count rest) (drop count rest)) ∙ ap (λ l. (front ++ take count rest) ++ l) (sym (rest_is rest count)),
      Appends-trans _ _ _ front (take count rest) loop.invariant.2 c.in_ok-count.ensures.bytes,
      c.in_ok-count.ensures.counted ∙ loop.invariant.3,
    )
