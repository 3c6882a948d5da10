use Rattle.std.proofs.Common.{append_assoc}
use Rattle.ts_preview.proofs.json.push_rest.Goals as goal

-- Field after field.
pub returns : goal.returns
returns c =
    rw (
      c.in_ok-push_field-3.ensures,
      c.in_ok-push_field-2.ensures,
      c.in_ok-push_field.ensures,
    ) (simp append_assoc)
