use Rattle.std.proofs.Common.{◌++◌, ap, ◌∙◌, append_assoc}
use Rattle.std.specs.Prelude.{codes}
use Rattle.ts_disk.proofs.plan_file.plan_place.Goals as goal

pub returns : goal.returns
returns c = c.in_ok-place.ensures.ok ∙ ap (λ own. own ++ codes "/plan") c.in_ok-own.ensures ∙ append_assoc c.args.root.now (codes "/.twosync") (codes "/plan")
