use Rattle.std.proofs.Common.{◌↔◌, ◌∙◌, List, IsTrue, refl, sym, subst}
use Rattle.ts_name.specs.Paths.{Path}
use Rattle.ts_dirty.specs.Found.{Found, IsFoundOf, LastIsAbove}
use Rattle.ts_model.specs.Sync.{listed_snapshot}
use Rattle.ts_dirty.proofs.Upto.{walked_start, walked_step, walked_end}
use Rattle.ts_dirty.proofs.detection.detect.Goals as goal

pub loop-seen-init : goal.loop-seen-init
loop-seen-init c = walked_start c.args.archive.now c.args.first.now c.args.second.now c.args.holds.now _ _ _ _ _ _ _ _
    refl refl refl c.walk3-seen-items.ensures.listings.0 c.walk3-seen-items.ensures.listings.1 c.walk3-seen-items.ensures.listings.2 c.rules-rules.ensures.lawful
    (c.into_iter-seen-iterator.ensures.into_iter_gives ∙ c.walk3-seen-items.ensures.all)
    c.new-changed_first.ensures.items c.new-changed_second.ensures.items c.new-apart.ensures.items c.new-held.ensures.items

pub loop-seen-preserved : goal.loop-seen-preserved
loop-seen-preserved c = walked_step c.args.archive.now c.args.first.now c.args.second.now c.args.holds.now
    c.loop-seen.seen-iterator c.next.new.self c.in-Some.seen.path.now c.in-Some.seen.archive c.in-Some.seen.first c.in-Some.seen.second
    c.loop-seen.changed_first.items c.loop-seen.changed_second.items c.loop-seen.apart.items c.loop-seen.held.items
    c.note.new.paths.items c.note-in-loop-seen.new.paths.items c.note-in-loop-seen-2.new.paths.items c.note-in-loop-seen-3.new.paths.items
    c.differ.result c.differ-in-loop-seen.result c.differ-in-loop-seen-2.result c.is_held-is_named.result c.last_is_above-is_covered.result c.and_not.result
    c.loop-seen.invariant c.in-Some.ensures.steps
    c.differ.ensures c.in_ok-note.ensures
    c.differ-in-loop-seen.ensures c.in_ok-note-2.ensures
    c.differ-in-loop-seen-2.ensures c.in_ok-note-3.ensures
    c.is_held-is_named.ensures
    (subst (λ (ps : List Path). IsTrue c.last_is_above-is_covered.result ↔ LastIsAbove ps c.in-Some.seen.path.now) c.as_slice.ensures.value c.last_is_above-is_covered.ensures)
    c.and_not.ensures c.in_ok-note-4.ensures

pub returns : goal.returns
returns c = subst (λ (m : Found). IsFoundOf (listed_snapshot c.args.archive.now c.args.first.now c.args.second.now c.args.holds.now) m) (sym c.new.ensures)
    (walked_end c.args.archive.now c.args.first.now c.args.second.now c.args.holds.now c.loop-seen.seen-iterator _ _ _ _ c.loop-seen.invariant c.in-None.ensures.steps)
