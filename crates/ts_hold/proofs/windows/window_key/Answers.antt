use Rattle.std.proofs.Common.{◌≡◌, ◌/◌, sym, ap, ◌∙◌}
use Rattle.ts_hold.specs.Mixing.{mixed}
use Rattle.ts_hold.specs.Windows.{bytes_in, low_bytes}
use Rattle.ts_hold.proofs.Between.{key_is, whole}
use Rattle.ts_hold.proofs.windows.window_key.Goals as goal
use Rattle.ts_hold.proofs.windows.window_key.Goals.{in-One, in-Two, in-Four, in-Eight}

pub returns : goal.returns
returns c = key_is c.args.size c.args.number c.match-size.low c.mixed-key.result _ low_is first_is c.mixed.ensures
  where
    first_is : c.mixed-key.result ≡ mixed (bytes_in c.args.size) (c.match-size.low / 4294967296)
    first_is = c.mixed-key.ensures ∙ ap (λ z. mixed z (c.match-size.low / 4294967296)) c.bytes.ensures

    low_is : c.match-size.low ≡ low_bytes c.args.size c.args.number
    low_is = elim c.match-size.branch [
      | in-One w ↦ w.low-is ∙ sym (ap (λ z. low_bytes z c.args.number) w.in-One.is)
      | in-Two w ↦ w.low-is ∙ sym (ap (λ z. low_bytes z c.args.number) w.in-Two.is)
      | in-Four w ↦ w.low-is ∙ sym (ap (λ z. low_bytes z c.args.number) w.in-Four.is)
      | in-Eight w ↦ w.low-is ∙ whole c.args.number c.ranges.number.fits ∙ sym (ap (λ z. low_bytes z c.args.number) w.in-Eight.is)
    ]
