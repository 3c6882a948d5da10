use Rattle.ts_special.proofs.Halving.{tells_there}
use Rattle.ts_special.proofs.specials.Specials.contains.Goals as goal

pub returns : goal.returns
returns c =
    tells_there c.args.self.now c.self.inside.paths.items c.deref.result.now c.args.path.now c.binary_search.result c.is_ok.result
    c.self.view_is c.deref.ensures.value c.is_ok.ensures.value c.self.invariant c.binary_search.ensures.bound c.binary_search.ensures.position
