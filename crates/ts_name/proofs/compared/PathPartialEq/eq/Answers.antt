use Rattle.std.proofs.Common.{◌∙◌}
use Rattle.ts_name.proofs.Buffers.{Holds, Holds-same}
use Rattle.ts_name.proofs.Order.{same_held}
use Rattle.ts_name.proofs.compared.PathPartialEq.eq.Goals as goal

pub returns-clause-value : goal.returns-clause-value
returns-clause-value c =
    let self : Holds c.self.inside.bytes c.args.self.now = record { buffer = c.self.invariant; path_is = c.self.view_is } in
    let other : Holds c.other.inside.bytes c.args.other.now = record { buffer = c.other.invariant; path_is = c.other.view_is } in
    c.eq.ensures ∙ same_held _ _ _ _ (Holds-same c.as_slice.ensures self) (Holds-same c.as_slice-2.ensures other)
