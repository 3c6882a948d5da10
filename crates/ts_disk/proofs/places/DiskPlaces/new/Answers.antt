use Rattle.std.proofs.Common.{◌++◌, sym, ap, ◌∙◌, append_assoc}
use Rattle.std.specs.Prelude.{codes}
use Rattle.std.specs.Fmt.{decimal}
use Rattle.ts_disk.proofs.places.DiskPlaces.new.Goals as goal

pub returns-clause-new : goal.returns-clause-new
returns-clause-new g c =
    c.in_ok-at_new.ensures.ok ∙ ap (λ own. own ++ (codes "/new-" ++ decimal c.args.entry)) c.in_ok-own.ensures ∙ append_assoc c.args.root.now (codes "/.twosync") (codes "/new-" ++ decimal c.args.entry) ∙ sym (append_assoc c.args.root.now (codes "/.twosync/new-") (decimal c.args.entry))

pub returns-clause-old : goal.returns-clause-old
returns-clause-old g c =
    c.in_ok-at_old.ensures.ok ∙ ap (λ own. own ++ (codes "/old-" ++ decimal c.args.entry)) c.in_ok-own.ensures ∙ append_assoc c.args.root.now (codes "/.twosync") (codes "/old-" ++ decimal c.args.entry) ∙ sym (append_assoc c.args.root.now (codes "/.twosync/old-") (decimal c.args.entry))
