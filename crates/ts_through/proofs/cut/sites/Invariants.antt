use Rattle.std.proofs.Common.{◌≡◌, ◌+◌, ◌<◌, ◌≤◌, ℕ, drop, length, slice_get, take}
use Rattle.ts_board.specs.Terms.{commit_count}
use Rattle.ts_model.specs.Plans.{KindIs}
use Rattle.ts_model.specs.declared.plan.Kind.TheVariants.{Commit}
use Rattle.ts_through.proofs.cut.sites.Given as goal

abbrev pub invariant-loop-action : goal.invariant-loop-action
invariant-loop-action l = record {
  rest : length l.sites.items + commit_count (drop l.action-index l.plan.actions) ≡ commit_count l.plan.actions;
  count : length l.parts.items ≡ length l.plan.entries;
  -- the sites so far have the parts of their entries, and the parts of the commits to come are there
  laid : (c e : ℕ) → c < l.action-index → KindIs l.plan c (Commit e) → slice_get l.sites.items (commit_count (take c l.plan.actions)) ≡ slice_get l.fn.parts.items e;
  kept : (c e : ℕ) → l.action-index ≤ c → KindIs l.plan c (Commit e) → slice_get l.parts.items e ≡ slice_get l.fn.parts.items e;
}
