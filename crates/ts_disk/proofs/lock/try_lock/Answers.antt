use Rattle.std.proofs.Common.{◌++◌, ap, ◌∙◌, append_assoc}
use Rattle.std.specs.Prelude.{codes}
use Rattle.ts_disk.proofs.lock.try_lock.Goals as goal

pub returns-clause-place : goal.returns-clause-place
returns-clause-place g c =
    c.in_ok-place.ensures.ok ∙ ap (λ own. own ++ codes "/lock") c.in_ok-own.ensures ∙ append_assoc c.args.root.now (codes "/.twosync") (codes "/lock")
