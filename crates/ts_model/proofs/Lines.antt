-- Texts as lines: where a text begins with lines, its lines do.
--     Fronts xs ys u v         the text of xs and u are the same bytes as that of ys and v, so one begins with the other
--     LinesFollow xs ys rest   xs are ys and lines that this rest spells
use Rattle.std.proofs.Common.{◌≡◌, ◌≢◌, ℕ, List, [], ◌∷◌, ◌++◌, refl, sym, ap, ap₂, ◌∙◌, append_assoc}
use Rattle.std.specs.List.{AllByRecursion}
use Rattle.std.proofs.lemmas.List.{append-nil}
use Rattle.std.proofs.lemmas.List.Concat.{flat_map-append}
use Rattle.ts_name.specs.Buffers.{HasNo}
use Rattle.ts_name.proofs.Spelling.{cut_at}
use Rattle.ts_model.specs.Texts.{Line, text}

-- the text of lines one after the other
pub text_append : (xs ys : List Line) → text (xs ++ ys) ≡ text xs ++ text ys
text_append xs ys = flat_map-append (λ l. l ++ 10 ∷ []) xs ys

-- the first line and what follows it
pub text_cons : (x : Line) (xs : List Line) → text (x ∷ xs) ≡ x ++ 10 ∷ text xs
text_cons x xs = append_assoc x (10 ∷ []) (text xs)

-- one more line
pub text_push : (xs : List Line) (x : Line) → text (xs ++ x ∷ []) ≡ text xs ++ (x ++ 10 ∷ [])
text_push xs x = text_append xs (x ∷ []) ∙ ap (λ z. text xs ++ z) (text_cons x [])

-- one more line, and what stands behind it
pub text_push_rest : (xs : List Line) (x : Line) (rest : List ℕ) → text (xs ++ x ∷ []) ++ rest ≡ text xs ++ (x ++ 10 ∷ rest)
text_push_rest xs x rest =
    ap (λ z. z ++ rest) (text_push xs x) ∙ append_assoc (text xs) (x ++ 10 ∷ []) rest ∙ ap (λ z. text xs ++ z) (append_assoc x (10 ∷ []) rest)

-- a line is not nothing
pub no_text : (x rest : List ℕ) → x ++ 10 ∷ rest ≢ []
no_text [] rest e = cc
no_text (b ∷ x) rest e = cc

-- no bytes are of no lines
pub no_lines : (xs : List Line) → text xs ≡ [] → xs ≡ []
no_lines [] e = refl
no_lines (x ∷ xs) e = absurd (no_text x (text xs) (sym (text_cons x xs) ∙ e))

-- ---- lines in front of bytes. No line has a line feed

-- of two fronts of the same bytes one begins with the other
pub data Fronts (xs ys : List Line) (u v : List ℕ) : Type 0 where
  longer : (more : List Line) → xs ≡ ys ++ more → v ≡ text more ++ u → Fronts xs ys u v
  shorter : (m : Line) (more : List Line) → ys ≡ xs ++ m ∷ more → u ≡ m ++ 10 ∷ (text more ++ v) → Fronts xs ys u v

pub fronts : (P : Line → Type 0) → ((x : Line) → P x → HasNo 10 x) → (xs ys : List Line) (u v : List ℕ) → AllByRecursion P xs → AllByRecursion P ys → text xs ++ u ≡ text ys ++ v → Fronts xs ys u v
fronts P one xs [] u v are_x are_y e = longer xs refl (sym e)
fronts P one [] (y ∷ ys) u v are_x are_y e = shorter y ys refl (e ∙ ap (λ z. z ++ v) (text_cons y ys) ∙ append_assoc y (10 ∷ text ys) v)
fronts P one (x ∷ xs) (y ∷ ys) u v are_x are_y e =
    let cut = cut_at 10 x y (text xs ++ u) (text ys ++ v) (one x are_x.0) (one y are_y.0)
    (sym (append_assoc x (10 ∷ text xs) u) ∙ ap (λ z. z ++ u) (sym (text_cons x xs)) ∙ e ∙ ap (λ z. z ++ v) (text_cons y ys) ∙ append_assoc y (10 ∷ text ys) v) in
    go cut.0 (fronts P one xs ys u v are_x.1 are_y.1 cut.1)
  where
    go : x ≡ y → Fronts xs ys u v → Fronts (x ∷ xs) (y ∷ ys) u v
    go same (longer more e left) = longer more (ap₂ ◌∷◌ same e) left
    go same (shorter m more e left) = shorter m more (ap₂ ◌∷◌ (sym same) e) left

-- lines go on after these, and what they go on with is this text's
pub record LinesFollow (xs ys : List Line) (rest : List ℕ) : Type 0 where
  pub more : List Line
  pub lines : xs ≡ ys ++ more
  pub spelled : text more ≡ rest

-- what begins with the text of lines has these lines first
pub text_front : (P : Line → Type 0) → ((x : Line) → P x → HasNo 10 x) → (xs ys : List Line) (rest : List ℕ) → AllByRecursion P xs → AllByRecursion P ys → text xs ≡ text ys ++ rest → LinesFollow xs ys rest
text_front P one xs ys rest are_x are_y e = go (fronts P one xs ys [] rest are_x are_y (append-nil (text xs) ∙ e))
  where
    go : Fronts xs ys [] rest → LinesFollow xs ys rest
    go (longer more lines left) = record { more = more; lines = lines; spelled = sym (left ∙ append-nil (text more)) }
    go (shorter m more lines left) = absurd (no_text m (text more ++ rest) (sym left))

-- a text is of one list of lines
pub one_text : (P : Line → Type 0) → ((x : Line) → P x → HasNo 10 x) → (xs ys : List Line) → AllByRecursion P xs → AllByRecursion P ys → text xs ≡ text ys → xs ≡ ys
one_text P one xs ys are_x are_y e =
    let found = text_front P one xs ys [] are_x are_y (e ∙ sym (append-nil (text ys))) in
    found.lines ∙ ap (λ z. ys ++ z) (no_lines found.more found.spelled) ∙ append-nil ys
