-- What was appended to a line.
use Rattle.std.proofs.Common.{◌≡◌, ℕ, ◌+◌, ◌<◌, ◌≤◌, List, [], ◌∷◌, ◌++◌, length, get_or, take, flat_map, Result, Ok, Err, is_ok}
use Rattle.std.proofs.Common.{if◌then◌else◌, sym, ap, ◌∙◌, append_assoc, append-nil}
use Rattle.std.specs.Prelude.{OnOk}
use Rattle.std.proofs.lemmas.List.{take_all, take_more}
use Rattle.std.proofs.lemmas.List.Concat.{flat_map-append}

-- the last piece, and the pieces before it
pub last_piece : {A E : Type 0} (r : Result A E) (new old piece whole : List ℕ) → new ≡ (if is_ok r then old ++ piece else old) → old ++ piece ≡ whole → OnOk r (new ≡ whole)
last_piece (Ok x) new old piece whole appended is = appended ∙ is
last_piece (Err e) new old piece whole appended is = tt

-- the same, where the last call says what it appended
pub last_pieces : {A E : Type 0} (r : Result A E) (new longer whole : List ℕ) → OnOk r (new ≡ longer) → longer ≡ whole → OnOk r (new ≡ whole)
last_pieces (Ok x) new longer whole appended is = appended ∙ is
last_pieces (Err e) new longer whole appended is = tt

-- five pieces, one after another
pub five_pieces : (old l₁ l₂ l₃ l₄ a b c d e : List ℕ) → l₁ ≡ old ++ a → l₂ ≡ l₁ ++ b → l₃ ≡ l₂ ++ c → l₄ ≡ l₃ ++ d → l₄ ++ e ≡ old ++ (a ++ b ++ c ++ d ++ e)
five_pieces old l₁ l₂ l₃ l₄ a b c d e one two three four = rw (four, three, two, one) (simp append_assoc)

-- what one byte more appends
pub byte_more : (f : ℕ → List ℕ) (text : List ℕ) (i : ℕ) (old now new : List ℕ) → i < length text → now ≡ old ++ flat_map f (take i text)
    → new ≡ now ++ f (get_or text i 0) → new ≡ old ++ flat_map f (take (i + 1) text)
byte_more f text i old now new small so_far appended =
    let more : flat_map f (take (i + 1) text) ≡ flat_map f (take i text) ++ f (get_or text i 0) =
    ap (flat_map f) (take_more text i 0 small) ∙ flat_map-append f (take i text) (get_or text i 0 ∷ [])
    ∙ ap (λ z. flat_map f (take i text) ++ z) (append-nil (f (get_or text i 0))) in
    appended ∙ ap (λ z. z ++ f (get_or text i 0)) so_far ∙ append_assoc old (flat_map f (take i text)) (f (get_or text i 0))
    ∙ ap (λ z. old ++ z) (sym more)

-- and what all bytes do
pub byte_last : (f : ℕ → List ℕ) (text : List ℕ) (i : ℕ) (old now : List ℕ) → length text ≤ i → now ≡ old ++ flat_map f (take i text) → now ≡ old ++ flat_map f text
byte_last f text i old now all so_far = so_far ∙ ap (λ z. old ++ flat_map f z) (take_all i text all)
