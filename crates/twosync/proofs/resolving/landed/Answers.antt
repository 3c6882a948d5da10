use Rattle.std.proofs.Common.{◌≡◌, ℕ, List, ◌++◌, Option, None, Some, IfSome, sym, ap, subst, ◌∙◌, append_assoc}
use Rattle.std.proofs.lemmas.Paths.{starts_with_parent}
use Rattle.std.specs.Path.{PathStartsWith, path_bytes, path_parent}
use Rattle.twosync.proofs.resolving.landed.Goals as goal

-- the parent of a beginning is one
parent_begins : (place path : List ℕ) (next : Option (List ℕ)) → PathStartsWith place path → next ≡ path_parent path → IfSome next (PathStartsWith place)
parent_begins place path None h e = tt
parent_begins place path (Some parent) h e =
    let up = starts_with_parent path parent (sym e) in (up.0 ++ h.0, h.1 ∙ ap (λ l. l ++ h.0) up.1 ∙ append_assoc _ up.0 h.0)

pub loop-beginning-preserved : goal.loop-beginning-preserved
loop-beginning-preserved g c =
    let steps = c.in-Some.ensures.steps in
    let begins = subst (λ next. IfSome next (PathStartsWith (path_bytes c.args.place))) (sym steps.0) c.loop-beginning.invariant.2 in
    (tt, tt, parent_begins _ (path_bytes c.in-Some.beginning) _ begins steps.1)
