use Rattle.std.proofs.Common.{◌≡◌, ◌<◌, ◌≤◌, List, ℕ, Some, length, slice_get}
use Rattle.std.specs.Prelude.{slice_index_or}
use Rattle.std.specs.Mem.Slots.{slots_items, slots_len}
use Rattle.ts_board.specs.Terms.{site_in}
use Rattle.ts_board.specs.declared.law.Slot.TheVariants.{Empty}
use Rattle.ts_model.specs.Plans.{KindIs}
use Rattle.ts_model.specs.Trees.{Listing}
use Rattle.ts_model.specs.declared.plan.Kind.TheVariants.{Commit}
use Rattle.ts_through.proofs.put.take_parts.Given as goal

abbrev pub invariant-loop-index : goal.invariant-loop-index
invariant-loop-index l = record {
  same : l.actions ≡ l.checked.plan.actions;
  count : length l.parts.items ≡ length l.checked.plan.entries;
  slots : length l.checked.plan.actions ≤ slots_len l.outcome.closed.row.slots;
  -- the sites of the actions to come are there
  kept : (c : ℕ) → l.index ≤ c → slice_index_or (slots_items l.outcome.closed.row.slots) c Empty ≡ slice_index_or (slots_items l.fn.outcome.closed.row.slots) c Empty;
  -- what those so far had is in their parts
  taken : (c e : ℕ) (rows : Listing (List ℕ)) → c < l.index → KindIs l.checked.plan c (Commit e) → site_in (slice_index_or (slots_items l.fn.outcome.closed.row.slots) c Empty) ≡ Some rows → slice_get l.parts.items e ≡ Some rows;
}
