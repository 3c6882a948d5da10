use Rattle.std.proofs.Common.{codes, append_assoc}
use Rattle.ts_preview.proofs.Appended.{last_piece}
use Rattle.ts_preview.proofs.json.push_state.Goals as goal

-- Field after field.
pub returns : goal.returns
returns c =
    last_piece c.extend_from_slice.result _ c.push_field-2.new.line.items (codes "}") _ c.extend_from_slice.ensures.items (rw (
      c.in_ok-push_field-2.ensures,
      c.in_ok-push_field.ensures,
      c.in_ok-push_text.ensures,
      c.word.ensures,
    ) (simp append_assoc))
