-- Sentences, piece after piece.
--     piece_text piece     its text; names and paths are shown with their hidden characters escaped
--     reason_text hint cause     how a sentence ends that says why something failed: with the cause, or a hint where that is unknown
--     said texts           one after another
use Rattle.std.specs.Prelude.{ℕ, if◌then◌else◌, List, [], ◌∷◌, ◌++◌, codes, decimal}
use Rattle.ts_cause.specs.Causes.{cause_text, is_known}
use Rattle.ts_cause.specs.declared.cause.Cause.{Cause}
use Rattle.ts_name.specs.Paths.{path_text}
use Rattle.ts_preview.specs.Names.{shown}
use Rattle.ts_explain.specs.declared.pieces.Piece.{Piece}
use Rattle.ts_explain.specs.declared.pieces.Piece.TheVariants as piece

abbrev pub reason_text : List ℕ → Cause → List ℕ
reason_text hint cause = if is_known cause then codes ": " ++ cause_text cause ++ codes "." else hint

abbrev pub piece_text : Piece → List ℕ
piece_text (piece.Words words) = words.now
piece_text (piece.Name name) = shown 0 name.now
piece_text (piece.Below path) = shown 0 (path_text path.now)
piece_text (piece.Number n) = decimal n
piece_text (piece.Reason hint cause) = reason_text hint.now cause

abbrev pub said : List (List ℕ) → List ℕ
said [] = []
said (text ∷ texts) = text ++ said texts
