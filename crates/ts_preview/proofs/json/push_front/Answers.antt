use Rattle.std.proofs.Common.{append_assoc}
use Rattle.ts_preview.proofs.Appended.{last_pieces}
use Rattle.ts_preview.proofs.json.push_front.Goals as goal

-- Piece after piece.
pub returns : goal.returns
returns c =
    last_pieces c.push_text-2.result _ _ _ c.push_text-2.ensures (rw (
      c.target_text.ensures,
      c.in_ok-push_text.ensures,
      c.reason_word.ensures,
      c.in_ok-push_path.ensures,
      c.in_ok-extend_from_slice.ensures.items,
    ) (simp append_assoc))
