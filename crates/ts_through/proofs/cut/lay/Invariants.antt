use Rattle.std.proofs.Common.{◌≡◌, ◌≢◌, ℕ, Some, length, slice_get}
use Rattle.std.specs.Vec.Iter.{into_iter_items, into_iter_len}
use Rattle.ts_model.specs.Trees.{Tree}
use Rattle.ts_model.specs.declared.plan.Entry.{Entry}
use Rattle.ts_table.specs.Splits.{ArePartsAt}
use Rattle.ts_through.specs.Parts.{paths_from}
use Rattle.ts_through.proofs.Laying.{AreLaying}
use Rattle.ts_through.proofs.cut.lay.Given as goal
use Rattle.ts_model.specs.Plans.{source}

abbrev pub invariant-loop-index : goal.invariant-loop-index
invariant-loop-index l = record {
  laid : (t : Tree) → ArePartsAt t (paths_from l.from l.entries) l.fn.taken.items → AreLaying l.index l.from t l.entries (into_iter_items l.rest) l.parts.items;
  others : (e : ℕ) (entry : Entry) → slice_get l.entries e ≡ Some entry → source entry.reason ≢ Some l.from → slice_get l.parts.items e ≡ slice_get l.fn.parts.items e;
  count : length l.parts.items ≡ length l.entries;
  left : into_iter_len l.rest ≡ length (into_iter_items l.rest);
}
