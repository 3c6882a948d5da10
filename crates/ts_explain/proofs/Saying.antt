-- Sentences, one piece more.
use Rattle.std.proofs.Common.{◌≡◌, ◌∙◌, ℕ, ◌+◌, ◌<◌, List, ◌++◌, length, map, get_or, drop, ap, sym, append_assoc, add-one, drop-cons, refl}
use Rattle.ts_explain.specs.Pieces.{piece_text, said}
use Rattle.ts_explain.specs.declared.pieces.Piece.{Piece}

said_step : (pieces : List Piece) (i : ℕ) (piece : Piece) → i < length pieces
    → said (map piece_text (drop i pieces)) ≡ piece_text (get_or pieces i piece) ++ said (map piece_text (drop (i + 1) pieces))
said_step pieces i piece within = rw (add-one, drop-cons pieces i piece within) refl

pub said_more : (pieces : List Piece) (i : ℕ) (piece : Piece) (line new start : List ℕ) → i < length pieces → piece ≡ get_or pieces i piece
    → new ≡ line ++ piece_text piece → line ++ said (map piece_text (drop i pieces)) ≡ start → new ++ said (map piece_text (drop (i + 1) pieces)) ≡ start
said_more pieces i piece line new start within is new_is before =
    ap (λ z. z ++ said (map piece_text (drop (i + 1) pieces))) (new_is ∙ ap (λ (p : Piece). line ++ piece_text p) is)
    ∙ append_assoc line (piece_text (get_or pieces i piece)) (said (map piece_text (drop (i + 1) pieces)))
    ∙ ap (λ z. line ++ z) (sym (said_step pieces i piece within))
    ∙ before
