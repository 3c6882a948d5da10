use Rattle.ts_name.proofs.Buffers.{Holds, LastSoFar-none, LastSoFar-more, LastSoFar-all, shorter}
use Rattle.ts_name.proofs.paths.Path.last.Goals as goal

pub loop-name-init : goal.loop-name-init
loop-name-init c =
    let self : Holds c.self.inside.bytes c.args.self.now = record { buffer = c.self.invariant; path_is = c.self.view_is } in
    LastSoFar-none self c.as_slice-rest.ensures

pub loop-name-smaller : goal.loop-name-smaller
loop-name-smaller c = let found = c.in-Some.ensures in shorter _ _ _ found.0

pub loop-name-preserved : goal.loop-name-preserved
loop-name-preserved c =
    let found = c.in-Some.ensures in LastSoFar-more _ _ _ c.in-Some.name _ c.loop-name.invariant found.0 found.1

pub returns : goal.returns
returns c = LastSoFar-all _ _ _ c.loop-name.invariant c.in_default.ensures
