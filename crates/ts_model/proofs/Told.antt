-- Items that are told by lines, one after the other: their lines are of one list of items.
--     Tells lines_of all_of Fits    all_of tells each item's lines, and lines that begin with a lawful item's are of that item
use Rattle.std.proofs.Common.{◌≡◌, ◌≢◌, List, [], ◌∷◌, ◌++◌, map, refl, sym, ap, ap₂, ◌∙◌, append_assoc}
use Rattle.std.specs.List.{AllByRecursion}
use Rattle.ts_name.proofs.Spelling.{cons_parts}

pub record Tells {X L : Type 0} (lines_of : X → List L) (all_of : List X → List L) (Fits : X → Type 0) : Type 0 where
  pub none : all_of [] ≡ []
  pub more : (x : X) (xs : List X) → all_of (x ∷ xs) ≡ lines_of x ++ all_of xs
  pub one : (x y : X) (u v : List L) → Fits x → Fits y → lines_of x ++ u ≡ lines_of y ++ v → (x ≡ y) × (u ≡ v)

-- items of one line each
pub tells_map : {X L : Type 0} (line_of : X → L) (Fits : X → Type 0) → ((x y : X) → Fits x → Fits y → line_of x ≡ line_of y → x ≡ y) → Tells (λ x. line_of x ∷ []) (map line_of) Fits
tells_map line_of Fits one = record {
  none = refl;
  more = λ x xs. refl;
  one = λ x y u v fits_x fits_y e. let parts = cons_parts (line_of x) (line_of y) u v e in (one x y fits_x fits_y parts.0, parts.1);
}

-- no lawful item's lines stand first
abbrev pub BeginsNone : {X L : Type 0} → (X → List L) → (X → Type 0) → List L → Type 0
BeginsNone {X} {L} lines_of Fits u = (x : X) (rest : List L) → Fits x → u ≢ lines_of x ++ rest

-- items up to lines that begin with none
pub items_before : {X L : Type 0} (lines_of : X → List L) (all_of : List X → List L) (Fits : X → Type 0) → Tells lines_of all_of Fits
    → (xs ys : List X) (u v : List L) → AllByRecursion Fits xs → AllByRecursion Fits ys → BeginsNone lines_of Fits u → BeginsNone lines_of Fits v
    → all_of xs ++ u ≡ all_of ys ++ v → (xs ≡ ys) × (u ≡ v)
items_before {X} {L} lines_of all_of Fits tells xs ys u v fit_x fit_y no_u no_v e = go xs ys fit_x fit_y e
  where
    nothing : (w : List L) → all_of [] ++ w ≡ w
    nothing w = ap (λ z. z ++ w) tells.none

    first : (x : X) (xs : List X) (w : List L) → all_of (x ∷ xs) ++ w ≡ lines_of x ++ (all_of xs ++ w)
    first x xs w = ap (λ z. z ++ w) (tells.more x xs) ∙ append_assoc (lines_of x) (all_of xs) w

    go : (xs ys : List X) → AllByRecursion Fits xs → AllByRecursion Fits ys → all_of xs ++ u ≡ all_of ys ++ v → (xs ≡ ys) × (u ≡ v)
    go [] [] fit_x fit_y e = (refl, sym (nothing u) ∙ e ∙ nothing v)
    go [] (y ∷ ys) fit_x fit_y e = absurd (no_u y (all_of ys ++ v) fit_y.0 (sym (nothing u) ∙ e ∙ first y ys v))
    go (x ∷ xs) [] fit_x fit_y e = absurd (no_v x (all_of xs ++ u) fit_x.0 (sym (nothing v) ∙ sym e ∙ first x xs u))
    go (x ∷ xs) (y ∷ ys) fit_x fit_y e =
        let item = tells.one x y (all_of xs ++ u) (all_of ys ++ v) fit_x.0 fit_y.0 (sym (first x xs u) ∙ e ∙ first y ys v) in
        let rest = go xs ys fit_x.1 fit_y.1 item.1 in
        (ap₂ ◌∷◌ item.0 rest.0, rest.1)
