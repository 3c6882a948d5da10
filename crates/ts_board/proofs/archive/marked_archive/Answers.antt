use Rattle.std.proofs.Common.{◌∙◌, subst}
use Rattle.ts_model.specs.Trees.{Listing, IsListing}
use Rattle.ts_model.specs.declared.row.Stamp.{Stamp}
use Rattle.ts_board.specs.Archives.{ArchiveOf, LeftArchive}
use Rattle.ts_board.proofs.Archives.{of_part, part_is, if_ok}
use Rattle.ts_board.proofs.archive.marked_archive.Goals as goal

pub flagged_archive-requires : goal.flagged_archive-requires
flagged_archive-requires c =
    let words = c.requires.made.0 in let made = c.requires.made.1 in let e = made.ended in (
      e.1,
      of_part c.args.checked.now words c.args.flags.now
          (subst (λ (rows : Listing Stamp). IsListing rows) c.archive.ensures c.rows-archive.ensures.listing)
          (subst (λ (rows : Listing Stamp). IsListing rows) c.first.ensures c.rows-first.ensures.listing)
          (subst (λ (rows : Listing Stamp). IsListing rows) c.second.ensures c.rows-second.ensures.listing)
          c.plan-plan.ensures.valid c.requires.count made.marked e.0 e.1 e.2 e.3,
    )

pub returns : goal.returns
returns c words made =
    let k = c.args.checked.now in let flags = c.args.flags.now in
    if_ok (ArchiveOf k flags) (λ (rows : Listing Stamp). LeftArchive k words rows) c.flagged_archive.result
    (λ rows is t run from left a b. is ∙ part_is k words flags
    (subst (λ (rows : Listing Stamp). IsListing rows) c.archive.ensures c.rows-archive.ensures.listing)
    (subst (λ (rows : Listing Stamp). IsListing rows) c.first.ensures c.rows-first.ensures.listing)
    (subst (λ (rows : Listing Stamp). IsListing rows) c.second.ensures c.rows-second.ensures.listing)
    c.plan-plan.ensures.valid c.requires.count made.marked t run from left a b)
    c.flagged_archive.ensures
