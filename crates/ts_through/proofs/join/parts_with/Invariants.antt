use Rattle.std.proofs.Common.{◌≡◌, ◌≤◌, ℕ, Some, length, slice_get}
use Rattle.ts_model.specs.Trees.{at}
use Rattle.ts_model.specs.declared.plan.Entry.{Entry}
use Rattle.ts_through.proofs.Parts.{AreSoFar}
use Rattle.ts_through.proofs.join.parts_with.Given as goal
use Rattle.ts_model.specs.Plans.{source}

abbrev pub invariant-loop-index : goal.invariant-loop-index
invariant-loop-index l = record {
  parts : AreSoFar l.from (at l.source) l.entries l.index l.back.items;
  -- the parts of other entries, and of those to come, are as they were
  kept : (e : ℕ) (entry : Entry) → slice_get l.entries e ≡ Some entry → (source entry.reason ≡ Some l.from → l.index ≤ e) → slice_get l.parts.items e ≡ slice_get l.fn.parts.items e;
  count : length l.parts.items ≡ length l.entries;
}
