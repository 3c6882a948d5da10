use Rattle.std.proofs.Common.{◌≡◌, ◌-◌, length, take, ap, ap₂}
use Rattle.ts_name.proofs.Buffers.{Holds, Holds-parent}
use Rattle.ts_name.proofs.paths.Path.parent_bytes.Goals as goal

pub returns : goal.returns
returns c =
    let self : Holds c.self.inside.bytes c.args.self.now = record { buffer = c.self.invariant; path_is = c.self.view_is } in
    let long : length c.as_slice-bytes.result.now ≡ length c.self.inside.bytes = ap length c.as_slice-bytes.ensures in
    let found = c.in_ok-name.ensures in
    let h = Holds-parent _ _ _ _ c.in_ok-name.name.now self found.1 (ap₂ (λ n z. take (n - length c.in_ok-name.name.now - 1) z) long c.as_slice-bytes.ensures) in
    (found.0, c.in_ok-name.name.now, found.1, h.buffer, h.path_is)
