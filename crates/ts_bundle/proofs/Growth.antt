-- The lines that were taken, and one more.
use Rattle.std.proofs.Common.{◌≡◌, ◌≢◌, Bool, true, false, eqb, List, [], ◌∷◌, ◌++◌, sym, ap, ◌∙◌, append_assoc}
use Rattle.std.specs.Cmp.Lexicographic.{pointwise}
use Rattle.std.proofs.lemmas.Bool.{false≢true}
use Rattle.std.proofs.lemmas.Bool.Decides.{Decides-eqb}
use Rattle.std.proofs.lemmas.Slice.Eq.{slice_eq-Decides}
use Rattle.ts_model.specs.Texts.{Line}

-- a part grows by a line
pub grown : (front : List Line) (t : Line) (r : List Line) (l : Line) (next : List Line) → next ≡ r ++ l ∷ [] → front ++ t ∷ next ≡ (front ++ t ∷ r) ++ l ∷ []
grown front t r l next e = ap (λ z. front ++ t ∷ z) e ∙ sym (append_assoc front (t ∷ r) (l ∷ []))

-- what `==` says where it holds
pub same_line : (line text title : Line) (r : Bool) → r ≡ pointwise eqb line text → text ≡ title → r ≡ true → line ≡ title
same_line line text title r is same holds = (slice_eq-Decides Decides-eqb line text r is).0 holds ∙ same

-- and where it fails
pub other_line : (line text title : Line) (r : Bool) → r ≡ pointwise eqb line text → text ≡ title → r ≡ false → line ≢ title
other_line line text title r is same fails e = false≢true (sym fails ∙ (slice_eq-Decides Decides-eqb line text r is).1 (e ∙ sym same))
