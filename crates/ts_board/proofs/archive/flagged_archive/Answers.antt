use Rattle.std.proofs.Common.{◌≡◌, ap, ◌∙◌, subst}
use Rattle.ts_model.specs.Trees.{Listing, IsListing, at}
use Rattle.ts_model.specs.declared.row.Stamp.{Stamp}
use Rattle.ts_model.specs.declared.plan.Plan.{Plan}
use Rattle.ts_board.specs.Edits.{left_by, marks}
use Rattle.ts_board.specs.Archives.{ArchiveOf, picked}
use Rattle.ts_board.proofs.Archives.{follow_from, leave_from, if_ok}
use Rattle.ts_board.proofs.archive.flagged_archive.Goals as goal

pub with_marks-requires-clause-follow : goal.with_marks-requires-clause-follow
with_marks-requires-clause-follow c =
    follow_from c.args.checked.now c.args.flags.now
    (subst (λ (rows : Listing Stamp). IsListing rows) c.archive-archive.ensures c.rows-archive.ensures.listing)
    (subst (λ (rows : Listing Stamp). IsListing rows) c.first-first.ensures c.rows-first.ensures.listing)
    (subst (λ (rows : Listing Stamp). IsListing rows) c.second-second.ensures c.rows-second.ensures.listing)
    c.plan-plan.ensures.valid c.requires.0 c.requires.1
    c.archive-archive.result.now c.first-first.result.now c.second-second.result.now c.as_slice-entries.result.now
    c.archive-archive.ensures c.first-first.ensures c.second-second.ensures (c.as_slice-entries.ensures ∙ ap (λ (p : Plan). p.entries) c.plan-plan.ensures.plan)

pub returns : goal.returns
returns c =
    if_ok
    (λ (rows : Listing Stamp). at rows ≡ left_by (marks (at c.first-first.result.now) (at c.second-second.result.now)) (at c.archive-archive.result.now) (picked c.as_slice-entries.result.now c.args.flags.now))
    (ArchiveOf c.args.checked.now c.args.flags.now) c.with_marks.result
    (λ rows is. is ∙ leave_from c.args.checked.now c.args.flags.now
    (subst (λ (rows : Listing Stamp). IsListing rows) c.archive-archive.ensures c.rows-archive.ensures.listing)
    (subst (λ (rows : Listing Stamp). IsListing rows) c.first-first.ensures c.rows-first.ensures.listing)
    (subst (λ (rows : Listing Stamp). IsListing rows) c.second-second.ensures c.rows-second.ensures.listing)
    c.plan-plan.ensures.valid c.requires.0 c.requires.1
    c.archive-archive.result.now c.first-first.result.now c.second-second.result.now c.as_slice-entries.result.now
    c.archive-archive.ensures c.first-first.ensures c.second-second.ensures (c.as_slice-entries.ensures ∙ ap (λ (p : Plan). p.entries) c.plan-plan.ensures.plan))
    c.with_marks.ensures
