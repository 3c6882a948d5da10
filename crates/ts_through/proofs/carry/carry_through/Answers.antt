use Rattle.std.proofs.Common.{◌≡◌, ◌<◌, ℕ, length, sym, ap, ◌∙◌, subst}
use Rattle.ts_model.specs.Plans.{KindIs}
use Rattle.ts_model.specs.Trees.{IsListing, Listing, at}
use Rattle.ts_model.specs.declared.plan.Kind.TheVariants.{Commit}
use Rattle.ts_model.specs.declared.plan.Plan.{Plan}
use Rattle.ts_model.specs.declared.row.Stamp.{Stamp}
use Rattle.ts_table.specs.Splits.{MaySplit}
use Rattle.ts_laws.specs.Carried.{copied}
use Rattle.ts_board.proofs.Edits.{are_replicas}
use Rattle.ts_check.specs.Checkup.{snapshot_of}
use Rattle.std.specs.Mem.Slots.{slots_items}
use Rattle.ts_model.specs.declared.plan.Side.TheVariants as side
use Rattle.ts_through.specs.Parts.{AreLaid, ArePlaced, paths_from}
use Rattle.ts_through.proofs.Held.{laid, still_laid}
use Rattle.ts_laws.proofs.Bounds.{entry_within}
use Rattle.ts_laws.proofs.Plans.{one_commit}
use Rattle.ts_through.proofs.Parts.{first_may_split, second_may_split}
use Rattle.ts_through.proofs.Placing.{targets_placed}
use Rattle.ts_through.proofs.carry.carry_through.Goals as goal
use Rattle.ts_laws.proofs.Listings.{listed_lawful}

pub cut-requires-clause-apart : goal.cut-requires-clause-apart
cut-requires-clause-apart g c =
    let k = c.args.checked.now in
    let lawful = listed_lawful k.archive k.first k.second k.rules (subst (λ (rows : Listing Stamp). IsListing rows) c.archive.ensures c.rows-archive.ensures.listing)
    (subst (λ (rows : Listing Stamp). IsListing rows) c.first.ensures c.rows-first.ensures.listing) (subst (λ (rows : Listing Stamp). IsListing rows) c.second.ensures c.rows-second.ensures.listing) in
    subst (λ entries. MaySplit (at c.args.first.now) (paths_from side.Second entries)) (sym (c.as_slice-entries.ensures ∙ ap (λ (p : Plan). p.entries) c.plan-plan.ensures.plan))
    (first_may_split (snapshot_of k) k.plan (at c.args.first.now) (at c.args.second.now) c.plan-plan.ensures.valid lawful (are_replicas k.archive k.first k.second k.rules c.args.first.now c.args.second.now c.requires.first c.requires.second))

pub cut-requires-2-clause-apart : goal.cut-requires-2-clause-apart
cut-requires-2-clause-apart g c =
    let k = c.args.checked.now in
    let lawful = listed_lawful k.archive k.first k.second k.rules (subst (λ (rows : Listing Stamp). IsListing rows) c.archive.ensures c.rows-archive.ensures.listing)
    (subst (λ (rows : Listing Stamp). IsListing rows) c.first.ensures c.rows-first.ensures.listing) (subst (λ (rows : Listing Stamp). IsListing rows) c.second.ensures c.rows-second.ensures.listing) in
    subst (λ entries. MaySplit (at c.args.second.now) (paths_from side.First entries)) (sym (c.as_slice-entries.ensures ∙ ap (λ (p : Plan). p.entries) c.plan-plan.ensures.plan))
    (second_may_split (snapshot_of k) k.plan (at c.args.first.now) (at c.args.second.now) c.plan-plan.ensures.valid lawful (are_replicas k.archive k.first k.second k.rules c.args.first.now c.args.second.now c.requires.first c.requires.second))

pub sites-requires-clause-within : goal.sites-requires-clause-within
sites-requires-clause-within g c =
    subst (λ (p : Plan). (i e : ℕ) → KindIs p i (Commit e) → e < length p.entries) (sym c.plan-plan.ensures.plan)
    (entry_within (snapshot_of c.args.checked.now) c.args.checked.now.plan c.plan-plan.ensures.valid)

pub sites-requires-clause-one : goal.sites-requires-clause-one
sites-requires-clause-one g c =
    subst (λ (p : Plan). (i j e : ℕ) → KindIs p i (Commit e) → KindIs p j (Commit e) → i ≡ j) (sym c.plan-plan.ensures.plan)
    (one_commit (snapshot_of c.args.checked.now) c.args.checked.now.plan c.plan-plan.ensures.valid)

pub ran-requires-clause-targets : goal.ran-requires-clause-targets
ran-requires-clause-targets g c =
    let k = c.args.checked.now in let parts = c.cut-2.new.parts.items in let sites = c.in_ok-sites.sites.items in
    let same : c.as_slice-entries.result.now ≡ k.plan.entries = c.as_slice-entries.ensures ∙ ap (λ (p : Plan). p.entries) c.plan-plan.ensures.plan in
    λ _ _. targets_placed k.plan c.args.first.now c.args.second.now parts sites
    (subst (λ entries. AreLaid side.Second (at c.args.first.now) entries parts) same
    (still_laid side.Second side.First (λ same. cc) (at c.args.first.now) c.as_slice-entries.result.now c.cut.new.parts.items parts c.in_ok-first_frame.ensures.laid c.in_ok-second_frame.ensures.others))
    (subst (λ entries. AreLaid side.First (at c.args.second.now) entries parts) same c.in_ok-second_frame.ensures.laid)
    (subst (λ (p : Plan). ArePlaced p parts sites) c.plan-plan.ensures.plan c.in_ok-sites.ensures.laid)

pub take_parts-requires-clause-within : goal.take_parts-requires-clause-within
take_parts-requires-clause-within g c = entry_within (snapshot_of c.args.checked.now) c.args.checked.now.plan c.plan-plan.ensures.valid

pub returns-clause-first : goal.returns-clause-first
returns-clause-first g c =
    c.in_ok-joined.ensures.tree (at c.args.first.now) c.in_ok-first_frame.ensures.rows
    ∙ ap (λ entries. copied side.Second (at c.args.second.now) (at c.args.first.now) entries) (c.as_slice-entries.ensures ∙ ap (λ (p : Plan). p.entries) c.plan-plan.ensures.plan)

pub returns-clause-second : goal.returns-clause-second
returns-clause-second g c =
    c.in_ok-joined-2.ensures.tree (at c.args.second.now) c.in_ok-second_frame.ensures.rows
    ∙ ap (λ entries. copied side.First (at c.args.first.now) (at c.args.second.now) entries) (c.as_slice-entries.ensures ∙ ap (λ (p : Plan). p.entries) c.plan-plan.ensures.plan)

pub joined-requires-clause-laid : goal.joined-requires-clause-laid
joined-requires-clause-laid g c =
    let k = c.args.checked.now in
    subst (λ entries. AreLaid side.Second (at c.args.second.now) entries c.take_parts.new.parts.items) (sym (c.as_slice-entries.ensures ∙ ap (λ (p : Plan). p.entries) c.plan-plan.ensures.plan))
    (laid (snapshot_of k) k.plan c.plan-plan.ensures.valid c.args.first.now c.args.second.now (slots_items c.in_ok-outcome.outcome.closed.row.slots) c.take_parts.new.parts.items
    c.in_ok-outcome.ensures.held c.take_parts.ensures.parts side.Second)

pub joined-requires-2-clause-laid : goal.joined-requires-2-clause-laid
joined-requires-2-clause-laid g c =
    let k = c.args.checked.now in
    still_laid side.First side.Second (λ same. cc) (at c.args.first.now) c.as_slice-entries.result.now c.take_parts.new.parts.items c.joined.new.parts.items
    (subst (λ entries. AreLaid side.First (at c.args.first.now) entries c.take_parts.new.parts.items) (sym (c.as_slice-entries.ensures ∙ ap (λ (p : Plan). p.entries) c.plan-plan.ensures.plan))
    (laid (snapshot_of k) k.plan c.plan-plan.ensures.valid c.args.first.now c.args.second.now (slots_items c.in_ok-outcome.outcome.closed.row.slots) c.take_parts.new.parts.items
    c.in_ok-outcome.ensures.held c.take_parts.ensures.parts side.First))
    c.in_ok-joined.ensures.others
