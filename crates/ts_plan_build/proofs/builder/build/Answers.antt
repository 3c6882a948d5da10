use Rattle.std.proofs.Common.{◌≤◌, length, arith}
use Rattle.ts_plan_build.proofs.Fits.{fits_parts}
use Rattle.ts_plan_build.proofs.Rules.{valid_parts}
use Rattle.ts_plan_build.proofs.builder.build.Goals as goal

pub returns-clause-valid : goal.returns-clause-valid
returns-clause-valid c = λ rules found.
    let few : length c.args.entries.items ≤ 1048576 = omega (arith, c.len.ensures, c.if-len-gt-ENTRY_LIMIT.false, c.args.entries.ok) in
    valid_parts c.args.archive.now c.args.first.now c.args.second.now rules c.args.entries.items c.new.result c.as_slice.result.now c.in_ok-actions.actions.items c.new-2.result
    c.new.ensures c.new-2.ensures c.as_slice.ensures.value c.rows-first.ensures.listing c.rows-second.ensures.listing found c.in_ok-actions.ensures.built few c.in_ok-actions.ensures.limit

pub returns-clause-fits : goal.returns-clause-fits
returns-clause-fits c = λ rules found.
    let few : length c.args.entries.items ≤ 1048576 = omega (arith, c.len.ensures, c.if-len-gt-ENTRY_LIMIT.false, c.args.entries.ok) in
    fits_parts c.args.archive.now c.args.first.now c.args.second.now rules c.args.entries.items c.new.result c.as_slice.result.now c.in_ok-actions.actions.items c.new-2.result
    c.new.ensures c.new-2.ensures c.as_slice.ensures.value c.rows-archive.ensures.listing c.rows-first.ensures.listing c.rows-second.ensures.listing found c.in_ok-actions.ensures.built few c.in_ok-actions.ensures.limit
