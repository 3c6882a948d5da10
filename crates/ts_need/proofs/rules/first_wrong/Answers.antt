use Rattle.std.proofs.Common.{ℕ, ◌+◌, [], Option, refl, subst, arith}
use Rattle.ts_model.specs.Sync.{listed_snapshot}
use Rattle.ts_need.specs.Needs.{IsFirst}
use Rattle.ts_model.specs.Plans.{Lacks}
use Rattle.ts_print.proofs.Walks.{step_forward}
use Rattle.ts_need.proofs.Entries.{all_lacking, all_right, answer_lacking, answer_wrong, checked_start, lacks_next, none_next, right_next, wrong_last, wrong_next}
use Rattle.ts_need.proofs.Standing.{at_start}
use Rattle.ts_need.proofs.rules.first_wrong.Goals as goal

pub loop-next-init : goal.loop-next-init
loop-next-init c =
    let lists = c.walk3-walk.ensures.listings in (
      [],
      at_start c.args.archive.now c.args.first.now c.args.second.now c.args.holds.now lists.0 lists.1 lists.2 c.walk3-walk.result _ c.rules-rules.ensures.lawful c.walk3-walk.ensures.all refl,
      checked_start c.args.archive.now c.args.first.now c.args.second.now c.args.holds.now lists.0 lists.1 lists.2 c.args.entries.now c.requires 0 _ refl refl,
    )

pub returns-in-Wrong-clause-answer : goal.returns-in-Wrong-clause-answer
returns-in-Wrong-clause-answer c =
    let A = c.args.archive.now in
    let F = c.args.first.now in
    let S = c.args.second.now in
    let rules = c.args.holds.now in
    let lists = c.walk3-walk.ensures.listings in
    let (b, here, checked) = c.loop-next.invariant in
    let found = c.find_reason-reasoned.ensures.found A F S b
    (record { archive = lists.0; first = lists.1; second = lists.2; before = c.loop-next.walk; behind = here; step = c.in-Some.ensures.steps }) in
    let less = step_forward A F S b c.in-Some.seen.path.now _ _ _ c.loop-next.walk c.next.new.self here.is_left c.in-Some.ensures.steps in
    let wrong = c.in-Wrong.ensures in
    answer_wrong (listed_snapshot A F S rules) c.args.entries.now c.broken.result c.loop-next.next c.broken.ensures
    (wrong_next A F S rules lists.0 lists.1 lists.2 c.args.entries.now c.requires b c.in-Some.seen.path.now found.0 c.find_reason-reasoned.result.reason c.loop-next.next c.loop-next.lacking checked less found.2 wrong.0 wrong.1 wrong.2)

pub loop-next-preserved-in-Right : goal.loop-next-preserved-in-Right
loop-next-preserved-in-Right c =
    let A = c.args.archive.now in
    let F = c.args.first.now in
    let S = c.args.second.now in
    let rules = c.args.holds.now in
    let lists = c.walk3-walk.ensures.listings in
    let (b, here, checked) = c.loop-next.invariant in
    let found = c.find_reason-reasoned.ensures.found A F S b
    (record { archive = lists.0; first = lists.1; second = lists.2; before = c.loop-next.walk; behind = here; step = c.in-Some.ensures.steps }) in
    let less = step_forward A F S b c.in-Some.seen.path.now _ _ _ c.loop-next.walk c.next.new.self here.is_left c.in-Some.ensures.steps in
    let right = c.in-Right.ensures in
    (found.0, found.1, right_next A F S rules lists.0 lists.1 lists.2 c.args.entries.now c.requires b c.in-Some.seen.path.now found.0 c.find_reason-reasoned.result.reason c.loop-next.next c.loop-next.lacking checked less found.2 (c.loop-next.next + 1) right.0 refl right.1 right.2 right.3)

pub loop-next-preserved-in-Lacking : goal.loop-next-preserved-in-Lacking
loop-next-preserved-in-Lacking c =
    let A = c.args.archive.now in
    let F = c.args.first.now in
    let S = c.args.second.now in
    let rules = c.args.holds.now in
    let lists = c.walk3-walk.ensures.listings in
    let (b, here, checked) = c.loop-next.invariant in
    let found = c.find_reason-reasoned.ensures.found A F S b
    (record { archive = lists.0; first = lists.1; second = lists.2; before = c.loop-next.walk; behind = here; step = c.in-Some.ensures.steps }) in
    let less = step_forward A F S b c.in-Some.seen.path.now _ _ _ c.loop-next.walk c.next.new.self here.is_left c.in-Some.ensures.steps in
    let lacks = c.in-Lacking.ensures in
    (found.0, found.1, lacks_next A F S rules lists.0 lists.1 lists.2 c.args.entries.now c.requires b c.in-Some.seen.path.now found.0 c.find_reason-reasoned.result.reason c.loop-next.next c.loop-next.lacking checked less found.2 c.or-lacking.result lacks.1 c.or-lacking.ensures lacks.0 lacks.2)

pub loop-next-preserved : goal.loop-next-preserved
loop-next-preserved c =
    let A = c.args.archive.now in
    let F = c.args.first.now in
    let S = c.args.second.now in
    let rules = c.args.holds.now in
    let lists = c.walk3-walk.ensures.listings in
    let (b, here, checked) = c.loop-next.invariant in
    let found = c.find_reason-reasoned.ensures.found A F S b
    (record { archive = lists.0; first = lists.1; second = lists.2; before = c.loop-next.walk; behind = here; step = c.in-Some.ensures.steps }) in
    let less = step_forward A F S b c.in-Some.seen.path.now _ _ _ c.loop-next.walk c.next.new.self here.is_left c.in-Some.ensures.steps in
    (found.0, found.1, none_next A F S rules lists.0 lists.1 lists.2 c.args.entries.now c.requires b c.in-Some.seen.path.now found.0 c.find_reason-reasoned.result.reason c.loop-next.next c.loop-next.lacking checked less found.2 c.in-Nothing.ensures.1)

pub returns-then-next-entries-clause-answer : goal.returns-then-next-entries-clause-answer
returns-then-next-entries-clause-answer c =
    let A = c.args.archive.now in
    let F = c.args.first.now in
    let S = c.args.second.now in
    let rules = c.args.holds.now in
    let lists = c.walk3-walk.ensures.listings in
    let (b, here, checked) = c.loop-next.invariant in
    answer_wrong (listed_snapshot A F S rules) c.args.entries.now c.broken-then-next-entries.result c.loop-next.next c.broken-then-next-entries.ensures
    (wrong_last A F S rules lists.0 lists.1 lists.2 c.args.entries.now c.requires b c.loop-next.walk c.loop-next.next c.loop-next.lacking checked here.is_left c.in_default.ensures.steps (let less = c.if-next-entries.true in omega arith))

pub returns-in-Some-lacking-clause-answer : goal.returns-in-Some-lacking-clause-answer
returns-in-Some-lacking-clause-answer c =
    let A = c.args.archive.now in
    let F = c.args.first.now in
    let S = c.args.second.now in
    let rules = c.args.holds.now in
    let lists = c.walk3-walk.ensures.listings in
    let (b, here, checked) = c.loop-next.invariant in
    answer_lacking (listed_snapshot A F S rules) c.args.entries.now c.broken-in-Some-lacking.result c.in-Some-lacking.place c.broken-in-Some-lacking.ensures
    (all_right A F S rules lists.0 lists.1 lists.2 c.args.entries.now c.requires b c.loop-next.walk c.loop-next.next c.loop-next.lacking checked here.is_left c.in_default.ensures.steps c.if-next-entries.false)
    (subst (λ (o : Option ℕ). IsFirst (Lacks (listed_snapshot A F S rules) c.args.entries.now) o) c.in-Some-lacking.is (all_lacking A F S rules lists.0 lists.1 lists.2 c.args.entries.now c.requires b c.loop-next.walk c.loop-next.next c.loop-next.lacking checked here.is_left c.in_default.ensures.steps))

pub returns-in-None-clause-answer : goal.returns-in-None-clause-answer
returns-in-None-clause-answer c =
    let A = c.args.archive.now in
    let F = c.args.first.now in
    let S = c.args.second.now in
    let rules = c.args.holds.now in
    let lists = c.walk3-walk.ensures.listings in
    let (b, here, checked) = c.loop-next.invariant in (
      all_right A F S rules lists.0 lists.1 lists.2 c.args.entries.now c.requires b c.loop-next.walk c.loop-next.next c.loop-next.lacking checked here.is_left c.in_default.ensures.steps c.if-next-entries.false,
      subst (λ (o : Option ℕ). IsFirst (Lacks (listed_snapshot A F S rules) c.args.entries.now) o) c.in-None.is (all_lacking A F S rules lists.0 lists.1 lists.2 c.args.entries.now c.requires b c.loop-next.walk c.loop-next.next c.loop-next.lacking checked here.is_left c.in_default.ensures.steps),
    )
