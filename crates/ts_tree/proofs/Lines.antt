-- Texts as lines of bounded length.
--     StandsFirst rest    some line of a text stands first in these bytes
use Rattle.std.proofs.Common.{◌≡◌, ◌≢◌, ℕ, List, [], ◌∷◌, ◌++◌, refl}
use Rattle.std.specs.List.{AllByRecursion}
use Rattle.ts_model.specs.Texts.{Line, text}
use Rattle.ts_model.proofs.Lines.{LinesFollow, text_cons}
use Rattle.ts_model.proofs.Lines as model_lines
use Rattle.ts_text.specs.Lines.{IsLine}

abbrev pub AreTextLines : List Line → Type 0
AreTextLines lines = AllByRecursion IsLine lines

-- a text is of one list of lines
pub one_text : (xs ys : List Line) → AreTextLines xs → AreTextLines ys → text xs ≡ text ys → xs ≡ ys
one_text xs ys are_x are_y e = model_lines.one_text IsLine (λ x is. is.one) xs ys are_x are_y e

-- what begins with the text of lines has these lines first
pub text_front : (xs ys : List Line) (rest : List ℕ) → AreTextLines xs → AreTextLines ys → text xs ≡ text ys ++ rest → LinesFollow xs ys rest
text_front xs ys rest are_x are_y e = model_lines.text_front IsLine (λ x is. is.one) xs ys rest are_x are_y e

-- some line of a text stands first in the bytes
pub record StandsFirst (bytes : List ℕ) : Type 0 where
  pub line : Line
  pub rest : List ℕ
  pub lawful : IsLine line
  pub spelled : bytes ≡ line ++ 10 ∷ rest

-- lines have a line first
pub stands_first : (xs : List Line) → AreTextLines xs → text xs ≢ [] → StandsFirst (text xs)
stands_first [] are some = absurd (some refl)
stands_first (x ∷ xs) are some = record { line = x; rest = text xs; lawful = are.0; spelled = text_cons x xs }
