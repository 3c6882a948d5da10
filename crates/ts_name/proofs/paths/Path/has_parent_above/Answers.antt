use Rattle.ts_name.proofs.Buffers.{Holds, Holds-same}
use Rattle.ts_name.proofs.Prefixes.{parent_above}
use Rattle.ts_name.proofs.paths.Path.has_parent_above.Goals as goal

pub returns-in-Some : goal.returns-in-Some
returns-in-Some c =
    let other : Holds c.other.inside.bytes c.args.other.now = record { buffer = c.other.invariant; path_is = c.other.view_is } in
    parent_above _ _ _ _ c.in-Some.ensures (Holds-same c.as_slice.ensures other) _ c.starts_with.ensures.value
