use Rattle.std.proofs.Common.{◌≡◌, ◌∙◌, Some, ap, ap₂, count_by, subst, sym}
use Rattle.ts_model.specs.Plans.{other, source}
use Rattle.ts_model.specs.Trees.{at}
use Rattle.ts_table.specs.Tables.{rows_below}
use Rattle.ts_preview.specs.Changes.{IsChange}
use Rattle.ts_preview.specs.Outlooks.{IsCopyFrom, is_lost, print_on}
use Rattle.ts_preview.proofs.outlook.copy.Goals as goal

pub returns-in-Some : goal.returns-in-Some
returns-in-Some c =
    let first = c.args.first.now in let second = c.args.second.now in let path = c.args.path.now in
    let from = c.in-Some.from in let change = c.change_between.result in let target = c.print_on-target.result.now in
    let is : source c.args.reason ≡ Some from = sym c.source.ensures ∙ c.in-Some.is in
    let source_is : c.print_on-source.result.now ≡ print_on from first second = c.print_on-source.ensures in
    let target_is : target ≡ print_on (other from) first second = c.print_on-target.ensures ∙ ap (λ s. print_on s first second) c.other.ensures in
    let changes = subst (λ t. IsChange (at t) (at (print_on from first second)) path change) target_is
    (subst (λ s. IsChange (at target) (at s) path change) source_is c.change_between.ensures) in
    let loses = c.count_lost.ensures ∙ ap₂ (λ s rows. count_by (is_lost (at s)) rows) source_is (c.sub.ensures ∙ ap (rows_below path) target_is) in
    subst (λ s. IsCopyFrom s first second path change c.count_lost.result) (sym is) (changes, loses)
