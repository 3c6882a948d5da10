use Rattle.std.proofs.Common.{◌≡◌, ◌≢◌, [], ◌+◌, length, IfSome, ap, sym, ◌∙◌, inl}
use Rattle.std.proofs.lemmas.Bool.{false≢true}
use Rattle.std.proofs.lemmas.Result.{IfErr-weaker, IfOk-weaker}
use Rattle.std.specs.List.{AllByRecursion}
use Rattle.ts_model.specs.Trees.{at}
use Rattle.ts_model.specs.declared.row.Stamp.{Stamp}
use Rattle.ts_folder.specs.declared.folder.Call.TheVariants as call
use Rattle.ts_site.specs.declared.fault.SiteFault.TheVariants.{Misfit}
use Rattle.ts_table.specs.Tables.{root_row}
use Rattle.ts_scan.proofs.Walks.{exit_tells}
use Rattle.ts_disk.specs.Compared.{Has, HasPart, MayEnd, Troubles}
use Rattle.ts_disk.proofs.Compared.{AreLent, lent_count}
use Rattle.ts_disk.proofs.Ends.{ends_fit, ends_weaker, lets_some}
use Rattle.ts_disk.proofs.Parts.{emptied, filled, nothing_differs, nothing_same, root_differs, root_same, rows_differ, rows_same_there}
use Rattle.ts_disk.proofs.compare.compare.Goals as goal

-- ---- the root

pub returns-in_err-compare_children-clause-fault : goal.returns-in_err-compare_children-clause-fault
returns-in_err-compare_children-clause-fault g c =
    let told = g.F.Folder.tells c.args.folder.now in
    let lets = g.F.Folder.lets c.args.folder.now in
    let part = c.args.before.now in
    let rows = c.rows-rows.result.now in
    let lent : AreLent part rows = record { same = c.rows-rows.ensures.rows; ascending = c.rows-rows.ensures.order; each = c.rows-rows.ensures.each; lawful = c.rows-rows.ensures.lawful } in
    let root = sym c.top.ensures ∙ c.is_root.ensures.0 c.if-is_root.true in
    let top = c.top-then-is_root.result.now in
    exit_tells c.from_residual.result c.in_err-compare_children.field-0.0 (MayEnd (Troubles lets) (IfSome told (λ tree. ¬ HasPart (at tree) part))) c.from_residual.ensures.1
    (ends_weaker (lets call.List top) (Troubles lets) _ _ c.in_err-compare_children.field-0.0 (lets_some lets call.List top)
    (root_differs told part rows top lent c.top-then-is_root.ensures root) c.in_err-compare_children.ensures.fault)

pub returns-then-is_root-clause-same : goal.returns-then-is_root-clause-same
returns-then-is_root-clause-same g c =
    let told = g.F.Folder.tells c.args.folder.now in
    let part = c.args.before.now in
    let rows = c.rows-rows.result.now in
    let lent : AreLent part rows = record { same = c.rows-rows.ensures.rows; ascending = c.rows-rows.ensures.order; each = c.rows-rows.ensures.each; lawful = c.rows-rows.ensures.lawful } in
    let root = sym c.top.ensures ∙ c.is_root.ensures.0 c.if-is_root.true in
    let top = c.top-then-is_root.result.now in
    IfOk-weaker c.compare_all.result (λ _. IfSome told (λ tree. AllByRecursion (Has (at tree) rows) rows)) (λ _. IfSome told (λ tree. HasPart (at tree) part))
    (λ _ all. root_same told part rows top lent c.top-then-is_root.ensures root c.compare_children.ensures.lawful c.in_ok-compare_children.ensures.same all) c.compare_all.ensures.same

pub returns-then-is_root-clause-looks : goal.returns-then-is_root-clause-looks
returns-then-is_root-clause-looks g c =
    let part = c.args.before.now in
    let rows = c.rows-rows.result.now in
    let lent : AreLent part rows = record { same = c.rows-rows.ensures.rows; ascending = c.rows-rows.ensures.order; each = c.rows-rows.ensures.each; lawful = c.rows-rows.ensures.lawful } in
    IfOk-weaker c.compare_all.result (λ looks. length looks.items ≡ length rows) (λ looks. length part.rows ≡ length (root_row {F = Stamp} part.top) + length looks.items)
    (λ looks e. lent_count part rows lent ∙ ap (λ n. length (root_row {F = Stamp} part.top) + n) (sym e)) c.compare_all.ensures.looks

pub returns-then-is_root-clause-fault : goal.returns-then-is_root-clause-fault
returns-then-is_root-clause-fault g c =
    let told = g.F.Folder.tells c.args.folder.now in
    let troubles = Troubles (g.F.Folder.lets c.args.folder.now) in
    let part = c.args.before.now in
    let rows = c.rows-rows.result.now in
    let lent : AreLent part rows = record { same = c.rows-rows.ensures.rows; ascending = c.rows-rows.ensures.order; each = c.rows-rows.ensures.each; lawful = c.rows-rows.ensures.lawful } in
    IfErr-weaker c.compare_all.result (MayEnd troubles (IfSome told (λ tree. ¬ AllByRecursion (Has (at tree) rows) rows))) (MayEnd troubles (IfSome told (λ tree. ¬ HasPart (at tree) part)))
    (λ e h. ends_weaker troubles troubles _ _ e (λ t k. k) (rows_differ told part rows lent) h) c.compare_all.ensures.fault

pub returns-then-is_root-clause-misfit : goal.returns-then-is_root-clause-misfit
returns-then-is_root-clause-misfit g c =
    let told = g.F.Folder.tells c.args.folder.now in
    let troubles = Troubles (g.F.Folder.lets c.args.folder.now) in
    let rows = c.rows-rows.result.now in
    let differs = IfSome told (λ tree. ¬ AllByRecursion (Has (at tree) rows) rows) in
    IfErr-weaker c.compare_all.result (MayEnd troubles differs) (λ e. e ≢ Misfit) (ends_fit troubles differs) c.compare_all.ensures.fault

-- ---- nothing

pub returns-then-branch-clause-same : goal.returns-then-branch-clause-same
returns-then-branch-clause-same g c =
    let told = g.F.Folder.tells c.args.folder.now in
    let part = c.args.before.now in
    let rows = c.rows-rows.result.now in
    let lent : AreLent part rows = record { same = c.rows-rows.ensures.rows; ascending = c.rows-rows.ensures.order; each = c.rows-rows.ensures.each; lawful = c.rows-rows.ensures.lawful } in
    let below_root : part.top ≢ [] = λ e. false≢true (sym c.if-is_root.false ∙ c.is_root.ensures.1 (c.top.ensures ∙ e)) in
    let none = emptied rows c.is_empty.result c.is_empty.ensures c.if-is_empty.true in
    nothing_same told part rows c.top-then-is_empty.result.now c.in_ok-is_absent.field-0 lent
    c.top-then-is_empty.ensures below_root none c.if-branch.true c.is_absent.ensures.lawful c.in_ok-is_absent.ensures.answer

pub returns-else-branch-clause-fault : goal.returns-else-branch-clause-fault
returns-else-branch-clause-fault g c =
    let told = g.F.Folder.tells c.args.folder.now in
    let part = c.args.before.now in
    let rows = c.rows-rows.result.now in
    let lent : AreLent part rows = record { same = c.rows-rows.ensures.rows; ascending = c.rows-rows.ensures.order; each = c.rows-rows.ensures.each; lawful = c.rows-rows.ensures.lawful } in
    let below_root : part.top ≢ [] = λ e. false≢true (sym c.if-is_root.false ∙ c.is_root.ensures.1 (c.top.ensures ∙ e)) in
    let none = emptied rows c.is_empty.result c.is_empty.ensures c.if-is_empty.true in
    inl (nothing_differs told part rows c.top-then-is_empty.result.now c.in_ok-is_absent.field-0 lent
    c.top-then-is_empty.ensures below_root none c.if-branch.false c.in_ok-is_absent.ensures.answer)

-- ---- rows

pub returns-clause-same : goal.returns-clause-same
returns-clause-same g c =
    let told = g.F.Folder.tells c.args.folder.now in
    let part = c.args.before.now in
    let rows = c.rows-rows.result.now in
    let lent : AreLent part rows = record { same = c.rows-rows.ensures.rows; ascending = c.rows-rows.ensures.order; each = c.rows-rows.ensures.each; lawful = c.rows-rows.ensures.lawful } in
    let below_root : part.top ≢ [] = λ e. false≢true (sym c.if-is_root.false ∙ c.is_root.ensures.1 (c.top.ensures ∙ e)) in
    let some = filled rows c.is_empty.result c.is_empty.ensures c.if-is_empty.false in
    rows_same_there told part rows c.compare_all-2.result lent below_root some c.compare_all-2.ensures.lawful c.compare_all-2.ensures.same

pub returns-clause-looks : goal.returns-clause-looks
returns-clause-looks g c =
    let part = c.args.before.now in
    let rows = c.rows-rows.result.now in
    let lent : AreLent part rows = record { same = c.rows-rows.ensures.rows; ascending = c.rows-rows.ensures.order; each = c.rows-rows.ensures.each; lawful = c.rows-rows.ensures.lawful } in
    IfOk-weaker c.compare_all-2.result (λ looks. length looks.items ≡ length rows) (λ looks. length part.rows ≡ length (root_row {F = Stamp} part.top) + length looks.items)
    (λ looks e. lent_count part rows lent ∙ ap (λ n. length (root_row {F = Stamp} part.top) + n) (sym e)) c.compare_all-2.ensures.looks

pub returns-clause-fault : goal.returns-clause-fault
returns-clause-fault g c =
    let told = g.F.Folder.tells c.args.folder.now in
    let troubles = Troubles (g.F.Folder.lets c.args.folder.now) in
    let part = c.args.before.now in
    let rows = c.rows-rows.result.now in
    let lent : AreLent part rows = record { same = c.rows-rows.ensures.rows; ascending = c.rows-rows.ensures.order; each = c.rows-rows.ensures.each; lawful = c.rows-rows.ensures.lawful } in
    IfErr-weaker c.compare_all-2.result (MayEnd troubles (IfSome told (λ tree. ¬ AllByRecursion (Has (at tree) rows) rows))) (MayEnd troubles (IfSome told (λ tree. ¬ HasPart (at tree) part)))
    (λ e h. ends_weaker troubles troubles _ _ e (λ t k. k) (rows_differ told part rows lent) h) c.compare_all-2.ensures.fault

pub returns-clause-misfit : goal.returns-clause-misfit
returns-clause-misfit g c =
    let told = g.F.Folder.tells c.args.folder.now in
    let troubles = Troubles (g.F.Folder.lets c.args.folder.now) in
    let rows = c.rows-rows.result.now in
    let differs = IfSome told (λ tree. ¬ AllByRecursion (Has (at tree) rows) rows) in
    IfErr-weaker c.compare_all-2.result (MayEnd troubles differs) (λ e. e ≢ Misfit) (ends_fit troubles differs) c.compare_all-2.ensures.fault
