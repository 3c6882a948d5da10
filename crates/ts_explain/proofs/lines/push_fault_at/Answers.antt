use Rattle.std.proofs.Common.{◌∷◌, ◌++◌, [], codes, decimal, ap, ap₂, ◌∙◌}
use Rattle.ts_explain.proofs.FaultLines.{with_path}
use Rattle.ts_explain.proofs.lines.push_fault_at.Goals as goal

pub returns : goal.returns
returns c =
    let numbered = (rw c.from.ensures at c.in_ok-push_decimal.ensures.ok) ∙ ap (λ z. z ++ decimal c.args.number) c.in_ok-extend_from_slice.ensures.items in
    let spaced = c.in_ok-push.ensures.items ∙ ap (λ z. z ++ 32 ∷ []) numbered in
    c.in_ok-extend_from_slice-2.ensures.items ∙ ap₂ (λ z w. z ++ w) spaced c.as_bytes.ensures.value
    ∙ with_path c.args.line.now.items (codes "twosync: fault ") (decimal c.args.number) c.args.place.now
