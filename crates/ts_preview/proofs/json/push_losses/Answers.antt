use Rattle.std.proofs.Common.{append_assoc}
use Rattle.ts_preview.proofs.json.push_losses.Goals as goal

-- Field after field.
pub returns : goal.returns
returns c =
    rw (
      c.in_ok-extend_from_slice.ensures.items,
      c.in_ok-push_field-2.ensures,
      c.in_ok-push_field.ensures,
    ) (simp append_assoc)
