use Rattle.ts_hold.proofs.Fitting.{earliest, latest, skip_one}
use Rattle.ts_hold.proofs.pattern.some_end_fits.Goals as goal

pub next-preserved-in-AtStar : goal.next-preserved-in-AtStar
next-preserved-in-AtStar c =
    (λ h. c.next.invariant.0 (latest _ _ _ _ c.in-AtStar.ensures h), λ h. earliest _ _ _ _ c.in-AtStar.ensures (c.next.invariant.1 h))

pub next-preserved : goal.next-preserved
next-preserved c =
    let skip = skip_one c.next.symbols.now c.next.bytes.now c.in-Some.field-0-0.now c.in-Some.left.now c.in-Apart.ensures c.in-Some.ensures.cases.0 in
    (λ h. c.next.invariant.0 (skip.0 h), λ h. skip.1 (c.next.invariant.1 h))
