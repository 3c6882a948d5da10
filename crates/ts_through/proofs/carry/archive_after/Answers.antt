use Rattle.std.proofs.Common.{subst}
use Rattle.std.specs.Mem.Slots.{slots_items}
use Rattle.ts_model.specs.Trees.{IsListing, Listing}
use Rattle.ts_model.specs.declared.row.Stamp.{Stamp}
use Rattle.ts_through.proofs.Archive.{all_marks_left}
use Rattle.ts_through.proofs.carry.archive_after.Goals as goal

pub returns-clause-archive : goal.returns-clause-archive
returns-clause-archive c =
    let ended = c.requires.ended in
    all_marks_left c.args.checked.now (slots_items c.args.outcome.now.closed.row.words) c.plan-plan.ensures.valid c.requires.done c.in-Ok.archive
    (subst (λ (rows : Listing Stamp). IsListing rows) c.archive.ensures c.rows-archive.ensures.listing) (subst (λ (rows : Listing Stamp). IsListing rows) c.first.ensures c.rows-first.ensures.listing)
    (subst (λ (rows : Listing Stamp). IsListing rows) c.second.ensures c.rows-second.ensures.listing) ended.0 ended.1 ended.2 ended.3 c.in-Ok.ensures
