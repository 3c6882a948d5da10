use Rattle.std.proofs.Common.{◌≡◌, ◌∙◌, ◌-◌, length, sym, arith}
use Rattle.std.proofs.lemmas.Slice.Eq.{bytes_eq-Decides}
use Rattle.std.specs.String.{string_bytes}
use Rattle.ts_disk.proofs.flushing.ends_with.Goals as goal

pub returns-in-len1-up : goal.returns-in-len1-up
returns-in-len1-up c = λ same.
    let bytes : string_bytes c.last-item.result ≡ c.args.place.now = sym c.as_str.ensures.value ∙ (bytes_eq-Decides c.as_str.result.now c.args.place.now).0 (sym c.eq.ensures ∙ same) in
    (length c.args.places.now - 1, c.last-item.result, omega (arith, c.in-len1-up.len_at_least), sym c.last-item.is, bytes)
