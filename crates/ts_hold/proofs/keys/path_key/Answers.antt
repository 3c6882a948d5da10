use Rattle.std.proofs.Common.{◌∙◌, ap}
use Rattle.ts_hold.specs.Mixing.{mixed}
use Rattle.ts_hold.proofs.Lookups.{key_of_path, no_last, some_last}
use Rattle.ts_hold.proofs.keys.path_key.Goals as goal
use Rattle.ts_hold.proofs.keys.path_key.Goals.{in-Some, in-None}

pub returns : goal.returns
returns c =
    key_of_path c.args.path.now c.match-last.last _ (elim c.match-last.branch [
      | in-Some w ↦ w.last-is ∙ some_last _ w.in-Some.ensures.0 _ _ w.in-Some.ensures.1 w.bytes_key-last.ensures
      | in-None w ↦ w.last-is ∙ no_last _ w.in-None.ensures
    ]) (c.mixed.ensures ∙ ap (λ z. mixed c.match-last.last z) c.size.ensures.size)
