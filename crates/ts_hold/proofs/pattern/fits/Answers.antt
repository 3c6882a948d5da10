use Rattle.ts_hold.proofs.Fitting.{fits_whole, fits_rest}
use Rattle.ts_hold.proofs.pattern.fits.Goals as goal

pub returns-in-AtStar : goal.returns-in-AtStar
returns-in-AtStar c =
    (λ h. fits_whole _ _ _ _ c.in-AtStar.ensures (c.some_end_fits.ensures.0 h), λ h. c.some_end_fits.ensures.1 (fits_rest _ _ _ _ c.in-AtStar.ensures h))
