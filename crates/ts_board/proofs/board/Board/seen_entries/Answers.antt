use Rattle.std.proofs.Common.{◌≡◌, ℕ, ◌+◌, ◌-◌, false, length, replicate, refl, ap, ◌∙◌, subst, arith}
use Rattle.ts_model.specs.declared.plan.Plan.{Plan}
use Rattle.ts_board.specs.Calls.{seen, terms_of}
use Rattle.ts_board.proofs.Checkpoints.{no_look, more_looks, AreSeenFrom, none_seen, read_action, passed_over, has_flag, flag_set, seen_part, seen_done}
use Rattle.ts_board.proofs.board.Board.seen_entries.Goals as goal

pub loop-i-init : goal.loop-i-init
loop-i-init g c = let k = c.args.checked.now in record {
  pass = c.requires.pass;
  part = (refl, refl);
  looked = no_look (terms_of g.S.Site.content c.args.self.now) c.args.pass.now;
  within = let count = c.action_count-i.ensures.count in omega arith;
  seen = none_seen k.plan (seen c.args.pass.now) (seen c.args.pass.now) c.action_count-i.result c.in_ok-flags.flags.items c.action_count-i.ensures.count
      (c.in_ok-flags.ensures.items_if_clones_equal (λ y same. same) ∙ ap (λ n. replicate n false) (ap length (c.as_slice.ensures ∙ ap (λ (p : Plan). p.entries) c.plan-plan.ensures.plan)));
}

pub index_mut-requires : goal.index_mut-requires
index_mut-requires g c =
    let k = c.args.checked.now in let t = terms_of g.S.Site.content c.args.self.now in let i = c.loop-i.i - 1 in let before = c.loop-i.invariant in let first = c.loop-i-test.true in
    let next : c.loop-i.i ≡ i + 1 = omega arith in
    let is = read_action k.plan c.as_slice-actions.result.now i c.loop-i.i c.index-actions-i.result (c.as_slice-actions.ensures ∙ ap (λ (p : Plan). p.actions) c.plan-plan.ensures.plan) next before.within c.index-actions-i.is in
    let room = has_flag t k c.requires.checked c.plan-plan.ensures.valid i c.index-actions-i.result is c.loop-i.i (seen c.args.pass.now) (seen c.loop-i.pass) (seen c.seen_mark.new.pass) c.loop-i.flags.items next before.seen
    before.looked.0 c.seen_mark.ensures.looked.0 c.in-Some.entry c.in-Some.ensures.some.0 in
    omega (arith, room, c.loop-i.flags.ok)

pub loop-i-preserved-in-Some : goal.loop-i-preserved-in-Some
loop-i-preserved-in-Some g c =
    let k = c.args.checked.now in let t = terms_of g.S.Site.content c.args.self.now in let i = c.loop-i.i - 1 in let before = c.loop-i.invariant in let first = c.loop-i-test.true in
    let next : c.loop-i.i ≡ i + 1 = omega arith in
    let is = read_action k.plan c.as_slice-actions.result.now i c.loop-i.i c.index-actions-i.result (c.as_slice-actions.ensures ∙ ap (λ (p : Plan). p.actions) c.plan-plan.ensures.plan) next before.within c.index-actions-i.is in
    record {
      pass = c.seen_mark.ensures.pass.0;
      part = (c.seen_mark.ensures.pass.1.0 ∙ before.part.0, c.seen_mark.ensures.pass.1.1 ∙ before.part.1);
      looked = more_looks t c.args.pass.now c.loop-i.pass c.seen_mark.new.pass before.looked c.seen_mark.ensures.looked;
      within = let inside = before.within in omega arith;
      seen = flag_set t k c.requires.checked c.plan-plan.ensures.valid i c.index-actions-i.result is c.loop-i.i (seen c.args.pass.now) (seen c.loop-i.pass) (seen c.seen_mark.new.pass) c.loop-i.flags.items next before.seen
          before.looked.0 c.seen_mark.ensures.looked.0 c.in-Some.entry _ c.in-Some.ensures.some.0 (c.seen_mark.ensures.sees c.in-Some.entry c.in-Some.ensures.some.0).2 c.in-Some.ensures.some.1 refl;
    }

pub loop-i-preserved : goal.loop-i-preserved
loop-i-preserved g c =
    let k = c.args.checked.now in let t = terms_of g.S.Site.content c.args.self.now in let i = c.loop-i.i - 1 in let before = c.loop-i.invariant in let first = c.loop-i-test.true in
    let next : c.loop-i.i ≡ i + 1 = omega arith in
    let is = read_action k.plan c.as_slice-actions.result.now i c.loop-i.i c.index-actions-i.result (c.as_slice-actions.ensures ∙ ap (λ (p : Plan). p.actions) c.plan-plan.ensures.plan) next before.within c.index-actions-i.is in
    record {
      pass = c.seen_mark.ensures.pass.0;
      part = (c.seen_mark.ensures.pass.1.0 ∙ before.part.0, c.seen_mark.ensures.pass.1.1 ∙ before.part.1);
      looked = more_looks t c.args.pass.now c.loop-i.pass c.seen_mark.new.pass before.looked c.seen_mark.ensures.looked;
      within = let inside = before.within in omega arith;
      seen = passed_over t k c.requires.checked c.plan-plan.ensures.valid i c.index-actions-i.result is c.loop-i.i (seen c.args.pass.now) (seen c.loop-i.pass) (seen c.seen_mark.new.pass) c.loop-i.flags.items next before.seen
          before.looked.0 c.seen_mark.ensures.looked.0 (λ e at. (c.seen_mark.ensures.sees e at).2) c.in_default.ensures.none;
    }

pub returns-clause-closed : goal.returns-clause-closed
returns-clause-closed g c =
    let last = c.loop-i-test.false in let first : c.loop-i.i ≡ 0 = omega arith in
    seen_part c.args.checked.now c.plan-plan.ensures.valid (seen c.args.pass.now) (seen c.loop-i.pass) c.loop-i.flags.items
    (subst (λ (n : ℕ). AreSeenFrom c.args.checked.now.plan n (seen c.args.pass.now) (seen c.loop-i.pass) c.loop-i.flags.items) first c.loop-i.invariant.seen)

pub returns-clause-done : goal.returns-clause-done
returns-clause-done g c =
    let last = c.loop-i-test.false in let first : c.loop-i.i ≡ 0 = omega arith in
    seen_done c.args.checked.now c.plan-plan.ensures.valid (seen c.args.pass.now) (seen c.loop-i.pass) c.loop-i.flags.items
    (subst (λ (n : ℕ). AreSeenFrom c.args.checked.now.plan n (seen c.args.pass.now) (seen c.loop-i.pass) c.loop-i.flags.items) first c.loop-i.invariant.seen)
