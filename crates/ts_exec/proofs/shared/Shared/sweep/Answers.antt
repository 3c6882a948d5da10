use Rattle.std.proofs.Common.{sym, subst, ◌∙◌, inl, arith}
use Rattle.ts_model.specs.Runs.{Run}
use Rattle.ts_check.specs.Checkup.{snapshot_of}
use Rattle.ts_board.specs.Calls.{mine, seen}
use Rattle.ts_exec.specs.Tidy.{IsTidy}
use Rattle.ts_exec.proofs.Stores.{stays_through}
use Rattle.ts_exec.proofs.Noting.{swept_more}
use Rattle.ts_exec.proofs.Steps.{own_seen}
use Rattle.ts_exec.proofs.Tries.{tidy_append}
use Rattle.ts_exec.proofs.shared.Shared.sweep.Goals as goal

pub loop-i-preserved : goal.loop-i-preserved
loop-i-preserved g c =
    let k = c.args.self.now.checked.now in let inv = c.loop-i.invariant in let s = c.sweep_one.ensures.steps in let own = mine c.loop-i.pass in
    let q = c.sweep_one.new.pass in
    let tidy : IsTidy k.plan (mine q) = subst (λ (z : Run). IsTidy k.plan z) (sym s.1) (tidy_append k.plan own s.0 inv.tidy s.2) in
    let part = c.sweep_one.ensures.pass.1 in record {
      pass = c.sweep_one.ensures.pass.0;
      part = (part.0 ∙ inv.part.0, part.1 ∙ inv.part.1);
      tidy = tidy;
      room = c.sweep_one.ensures.room;
      noted = c.sweep_one.ensures.noted;
      swept = swept_more (snapshot_of k) k.plan c.args.self.now.valid c.loop-i.i own (seen c.loop-i.pass) (mine q) (seen q) s.0 tidy s.1 c.sweep_one.ensures.seen s.3
          (λ t h. own_seen t q.seat.me.0.sight.claims q.seat.me.0.sight.seen h) c.sweep_one.ensures.tried inv.swept;
      kept = stays_through k (seen c.args.pass.now) (seen c.loop-i.pass) (seen q) (g.K.Keeper.kept c.args.keeping.now.keeper) (g.K.Keeper.kept c.loop-i.keeping.keeper) (g.K.Keeper.kept c.sweep_one.new.keeping.keeper)
          inv.kept c.sweep_one.ensures.kept;
    }

pub returns-clause-swept : goal.returns-clause-swept
returns-clause-swept g c = inl (λ j less.
    let past = c.loop-i-test.false in let count = c.action_count-i-end.ensures.count in
    c.loop-i.invariant.swept j (omega arith))
