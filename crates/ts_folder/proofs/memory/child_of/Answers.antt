use Rattle.std.proofs.Common.{rules, sym, ap, ap₂, ◌∙◌, ◌≡◌, ◌∷◌, ◌++◌, [], Some, Err, refl}
use Rattle.ts_name.proofs.Prefixes.{same_last}
use Rattle.ts_folder.proofs.Children.{child_here, child_none, last_lawful}
use Rattle.ts_folder.proofs.memory.child_of.Goals as goal

pub returns-then-not-is_parent_of-clause-ok : goal.returns-then-not-is_parent_of-clause-ok
returns-then-not-is_parent_of-clause-ok c = sym (child_none c.args.path.now c.args.row.now (λ name e. search rules))

pub unreachable-requires : goal.unreachable-requires
unreachable-requires c = c.in-Err-BadName.ensures.bad_name.0 (ap Err c.in-Err-BadName.field-0-is) (last_lawful c.in-Some.ensures.0 c.in-Some.name.now c.args.row.now.path c.depth.ensures.lawful c.in-Some.ensures.1)

pub returns-in-Ok-clause-ok : goal.returns-in-Ok-clause-ok
returns-in-Ok-clause-ok c =
    let here = c.if-not-is_parent_of.ensures.0 refl in
    let name = c.in-Some.name.now in
    let same : here.0 ≡ name = same_last c.args.path.now c.in-Some.ensures.0 here.0 name (sym here.1 ∙ c.in-Some.ensures.1) in
    let path : c.args.row.now.path ≡ c.args.path.now ++ name ∷ [] = here.1 ∙ ap (λ n. c.args.path.now ++ n ∷ []) same in
    ap₂ (λ n k. Some (n, k)) c.in-Ok.ensures.ok.0 c.kind_of-kind.ensures ∙ sym (child_here c.args.path.now name c.args.row.now path)
