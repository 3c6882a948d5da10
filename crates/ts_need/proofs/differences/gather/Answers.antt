use Rattle.std.proofs.Common.{arith}
use Rattle.ts_name.proofs.Prefixes.{above_itself}
use Rattle.ts_print.proofs.Walks.{step_left}
use Rattle.ts_need.proofs.Found.{Add, AreNone, found_begins, found_goes, step_shorter}
use Rattle.ts_need.proofs.differences.gather.Goals as goal

pub loop-next-init : goal.loop-next-init
loop-next-init c = (
  λ A F S here.
      let none : AreNone c.none.result = record { first = c.none.ensures.first; second = c.none.ensures.second; apart = c.none.ensures.apart; named = c.none.ensures.named } in
      let add : Add c.args.holds.now c.args.seen.now.path.now c.args.seen.now.archive c.args.seen.now.first c.args.seen.now.second c.none.result c.with-found.result = record { first = c.with-found.ensures.first; second = c.with-found.ensures.second; apart = c.with-found.ensures.apart; named = c.with-found.ensures.named } in (
        c.args.seen.now.path.now,
        here.is_left,
        above_itself c.args.seen.now.path.now,
        found_begins A F S c.args.holds.now c.args.seen.now.path.now c.args.seen.now.archive c.args.seen.now.first c.args.seen.now.second c.none.result
            c.with-found.result here.there here.present none add,
      ),
  omega arith,
)

pub loop-next-preserved : goal.loop-next-preserved
loop-next-preserved c = (
  λ A F S here.
      let so_far = c.loop-next.invariant.0 A F S here in
      let q = c.in-Some.next.path.now in
      let add : Add c.args.holds.now c.in-Some.next.path.now c.in-Some.next.archive c.in-Some.next.first c.in-Some.next.second c.loop-next.found c.with-found-in-Some.result = record { first = c.with-found-in-Some.ensures.first; second = c.with-found-in-Some.ensures.second; apart = c.with-found-in-Some.ensures.apart; named = c.with-found-in-Some.ensures.named } in (
        q,
        step_left A F S so_far.0 q c.in-Some.next.archive c.in-Some.next.first c.in-Some.next.second c.loop-next.walk c.next_from.new.self so_far.1 c.in-Some.ensures.step,
        c.in-Some.ensures.ended,
        found_goes A F S c.args.holds.now c.args.seen.now.path.now so_far.0 q c.in-Some.next.archive c.in-Some.next.first c.in-Some.next.second c.loop-next.walk c.next_from.new.self
            c.loop-next.found c.with-found-in-Some.result so_far.1 c.in-Some.ensures.step c.in-Some.ensures.ended so_far.3 add,
      ),
  let a = c.in-Some.ensures.step.in_archive.no_more in
      let f = c.in-Some.ensures.step.in_first.no_more in
      let s = c.in-Some.ensures.step.in_second.no_more in
      let old = c.loop-next.invariant.1 in
      omega arith,
)

pub loop-next-smaller : goal.loop-next-smaller
loop-next-smaller c = step_shorter c.in-Some.next.path.now c.in-Some.next.archive c.in-Some.next.first c.in-Some.next.second c.loop-next.walk c.next_from.new.self c.in-Some.ensures.step

pub returns-clause-found : goal.returns-clause-found
returns-clause-found c = rw c.in_default.ensures.step c.loop-next.invariant.0

pub returns-clause-passed : goal.returns-clause-passed
returns-clause-passed c = rw c.in_default.ensures.step c.in_default.ensures.ended

pub returns-clause-shorter : goal.returns-clause-shorter
returns-clause-shorter c = rw c.in_default.ensures.step c.loop-next.invariant.1
