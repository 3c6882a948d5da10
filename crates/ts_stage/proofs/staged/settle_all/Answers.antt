use Rattle.std.proofs.Common.{◌≡◌, ◌<◌, length, get_or, true, sym, ap, ◌∙◌, subst, arith}
use Rattle.std.proofs.Math.ListN.{set}
use Rattle.std.proofs.lemmas.List.{get_or-set_same, length-set, set-get_or, take-set-le}
use Rattle.ts_model.specs.Trees.{Listing}
use Rattle.ts_model.specs.declared.row.Row.{Row}
use Rattle.ts_model.specs.declared.row.Stamp.{Stamp}
use Rattle.ts_print.specs.Prints.{stamped_row, stamped_rows}
use Rattle.ts_stage.specs.Stagings.{Staging, all_held, is_held, told_row, told_rows}
use Rattle.ts_stage.proofs.Telling.{held_at, stamps_at, stamps_more}
use Rattle.ts_stage.proofs.staged.settle_all.Goals as goal

pub returns-then-not-settle_row-clause-held : goal.returns-then-not-settle_row-clause-held
returns-then-not-settle_row-clause-held c all =
    let rows = c.loop-index.rows.items in let i = c.loop-index.index in let row = c.index_mut.result.now in let inv = c.loop-index.invariant in
    let equal = c.if-len-stamps.false in let count = c.len.ensures in let test = c.loop-index-test.true in let same_length = inv.0 in
    let under : i < length rows = omega arith in
    let held : is_held row.content ≡ true = ap (λ (r : Row Staging). is_held r.content) c.index_mut.ensures.value ∙ held_at rows i row under (ap all_held (inv.2 all) ∙ all) in
    ap (set rows i) (c.settle_row.ensures.held held ∙ c.index_mut.ensures.value) ∙ set-get_or rows i row ∙ inv.2 all

pub returns-then-not-settle_row-clause-refused : goal.returns-then-not-settle_row-clause-refused
returns-then-not-settle_row-clause-refused c all same =
    let rows = c.loop-index.rows.items in let i = c.loop-index.index in let row = c.index_mut.result.now in let inv = c.loop-index.invariant in let stamp = c.index-stamps-index.result in
    let equal = c.if-len-stamps.false in let count = c.len.ensures in let test = c.loop-index-test.true in let same_length = inv.0 in
    let under : i < length rows = omega arith in
    let held : is_held row.content ≡ true = ap (λ (r : Row Staging). is_held r.content) c.index_mut.ensures.value ∙ held_at rows i row under (ap all_held (inv.2 all) ∙ all) in
    let old : stamped_rows (told_rows rows) ≡ c.args.stamps.now = ap (λ z. stamped_rows (told_rows z)) (inv.2 all) ∙ same in
    c.if-not-settle_row.ensures.refused held
    (ap (λ (r : Row Staging). stamped_row (told_row r)) c.index_mut.ensures.value ∙ sym (stamps_at rows i row stamp under) ∙ ap (λ (z : Listing Stamp). get_or z i stamp) old ∙ sym c.index-stamps-index.is)

pub loop-index-preserved : goal.loop-index-preserved
loop-index-preserved c =
    let rows = c.loop-index.rows.items in let i = c.loop-index.index in let row = c.index_mut.result.now in let inv = c.loop-index.invariant in let stamp = c.index-stamps-index.result in
    let new = c.settle_row.new.row in
    let equal = c.if-len-stamps.false in let count = c.len.ensures in let test = c.loop-index-test.true in let same_length = inv.0 in
    let under : i < length rows = omega arith in
    let long : length (set rows i new) ≡ length rows = length-set rows i new in (
      long ∙ inv.0,
      stamps_more (set rows i new) c.args.stamps.now i new stamp (subst (λ n. i < n) (sym long) under) c.loop-index-test.true
          (ap (λ z. stamped_rows (told_rows z)) (take-set-le i rows i new (omega arith)) ∙ inv.1)
          (ap (λ (r : Row Staging). stamped_row (told_row r)) (get_or-set_same rows i new new under) ∙ c.settle_row.ensures.fits c.if-not-settle_row.false ∙ c.index-stamps-index.is),
      λ all. (let held : is_held row.content ≡ true = ap (λ (r : Row Staging). is_held r.content) c.index_mut.ensures.value ∙ held_at rows i row under (ap all_held (inv.2 all) ∙ all) in
          ap (set rows i) (c.settle_row.ensures.held held ∙ c.index_mut.ensures.value) ∙ set-get_or rows i row ∙ inv.2 all),
    )
