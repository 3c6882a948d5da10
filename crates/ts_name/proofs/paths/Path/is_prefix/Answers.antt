use Rattle.ts_name.proofs.Buffers.{Holds, Holds-same, prefix_answer}
use Rattle.ts_name.proofs.paths.Path.is_prefix.Goals as goal

pub returns : goal.returns
returns c =
    let self : Holds c.self.inside.bytes c.args.self.now = record { buffer = c.self.invariant; path_is = c.self.view_is } in
    let other : Holds c.other.inside.bytes c.args.other.now = record { buffer = c.other.invariant; path_is = c.other.view_is } in
    prefix_answer _ _ _ _ (Holds-same c.as_slice-2.ensures self) (Holds-same c.as_slice.ensures other) _ c.starts_with.ensures.value
