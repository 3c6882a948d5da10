use Rattle.std.proofs.Common.{◌≡◌, ◌∷◌, [], ◌++◌, ℕ, List, Result, Ok, Err, is_ok, if◌then◌else◌, codes, decimal, ap, ◌∙◌, append_assoc}
use Rattle.std.specs.Prelude.{OnOk}
use Rattle.ts_name.specs.Paths.{Path, path_text}
use Rattle.ts_model.specs.Texts.{kind_line}
use Rattle.ts_model.specs.declared.plan.Kind.{Kind}
use Rattle.ts_model.specs.declared.plan.Kind.TheVariants.{Piece}
use Rattle.ts_plan.proofs.encoding.fill_kind.Goals as goal

-- a piece's line, field after field
piece_spelled : {A E : Type 0} (r : Result A E) (k : Kind) (e offset size wide : ℕ) (p : Path) (l₀ l₁ l₂ l₃ l₄ l₅ new : List ℕ) → l₀ ≡ [] → l₁ ≡ l₀ ++ codes "piece"
    → wide ≡ e → l₂ ≡ l₁ ++ 32 ∷ decimal wide → l₃ ≡ l₂ ++ 32 ∷ decimal offset → l₄ ≡ l₃ ++ 32 ∷ decimal size → l₅ ≡ l₄ ++ 32 ∷ []
    → new ≡ (if is_ok r then l₅ ++ path_text p else l₅) → Piece e offset size p ≡ k → OnOk r (new ≡ kind_line k)
piece_spelled (Err f) k e offset size wide p l₀ l₁ l₂ l₃ l₄ l₅ new none word same entry from to space path is = tt
piece_spelled (Ok x) k e offset size wide p l₀ l₁ l₂ l₃ l₄ l₅ new none word same entry from to space path is =
    let whole : l₅ ++ path_text p ≡ kind_line (Piece e offset size p) = rw (space, to, from, entry, same, word, none) (simp append_assoc) in
    path ∙ whole ∙ ap kind_line is

pub returns-in_ok-push-in-Piece : goal.returns-in_ok-push-in-Piece
returns-in_ok-push-in-Piece c =
    piece_spelled c.write_text.result c.args.action.now.kind c.in-Piece.entry c.in-Piece.offset c.in-Piece.length c.from.result c.in-Piece.path.now
    c.clear.new.self.items c.extend_from_slice.new.self.items c.push_number.new.line.items c.push_number-in-Piece.new.line.items c.push_number-in-Piece-2.new.line.items
    c.push.new.self.items c.write_text.new.out.items
    c.clear.ensures.items c.in_ok-extend_from_slice-in-Piece.ensures.items c.from.ensures
    c.in_ok-push_number-in-Piece.ensures c.in_ok-push_number-in-Piece-2.ensures c.in_ok-push_number-in-Piece-3.ensures
    c.in_ok-push-in-Piece.ensures.items c.write_text.ensures (rw c.in-Piece.is at c.kind.ensures)
