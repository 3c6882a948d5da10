use Rattle.std.proofs.Common.{◌≡◌, ◌∙◌, ℕ, ◌-◌, min, cond, refl, subst}
use Rattle.ts_model.specs.Sync.{listed_snapshot}
use Rattle.ts_recon.proofs.Gathered.{reasoned_start, reasoned_step, reasoned_end}
use Rattle.ts_recon.proofs.recon.reasons.Goals as goal

pub loop-seen-init : goal.loop-seen-init
loop-seen-init c = λ rules found. reasoned_start c.args.archive.now c.args.first.now c.args.second.now rules
    c.walk3-seen-items.ensures.listings.0 c.walk3-seen-items.ensures.listings.1 c.walk3-seen-items.ensures.listings.2 _ 0 _
    (c.into_iter-seen-iterator.ensures.into_iter_gives ∙ c.walk3-seen-items.ensures.all) refl c.new-entries.ensures.items

pub loop-seen-preserved : goal.loop-seen-preserved
loop-seen-preserved c = λ rules found. reasoned_step c.args.archive.now c.args.first.now c.args.second.now rules
    c.walk3-seen-items.ensures.listings.0 c.walk3-seen-items.ensures.listings.1 c.walk3-seen-items.ensures.listings.2
    c.loop-seen.seen-iterator c.next.new.self c.loop-seen.shared c.shared_after-shared.result c.loop-seen.entries.items c.add.new.entries.items
    c.in-Some.seen.path.now c.in-Some.seen.archive c.in-Some.seen.first c.in-Some.seen.second c.reason_at.result c.is_shared.result
    (c.loop-seen.invariant rules found) c.in-Some.ensures.steps
    (c.reason_at.ensures (listed_snapshot c.args.archive.now c.args.first.now c.args.second.now rules) found) c.in_ok-add.ensures
    c.is_shared.ensures
    (subst (λ (n : ℕ). c.shared_after-shared.result ≡ cond c.is_shared.result n (min c.loop-seen.shared (n - 1))) c.depth.ensures.depth c.shared_after-shared.ensures)

pub returns : goal.returns
returns c = λ rules found. reasoned_end c.args.archive.now c.args.first.now c.args.second.now rules
    c.walk3-seen-items.ensures.listings.0 c.walk3-seen-items.ensures.listings.1 c.walk3-seen-items.ensures.listings.2
    c.loop-seen.seen-iterator _ _ (c.loop-seen.invariant rules found) c.in-None.ensures.steps
