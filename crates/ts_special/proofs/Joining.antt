-- Paths that are taken one after another.
use Rattle.std.proofs.Common.{◌≡◌, ◌<◌, ◌≤◌, ◌+◌, ℕ, suc, Bool, true, false, if◌then◌else◌, List, [], ◌∷◌, ◌++◌, Bor, add-one, ap, append_assoc, append-nil, drop, get_or, length, map, subst, sym, ◌∙◌}
use Rattle.std.proofs.lemmas.List.{drop_all, map-append}
use Rattle.std.proofs.Math.Seq.{drop-cons}
use Rattle.ts_name.specs.Paths.{Path}
use Rattle.ts_special.specs.Specials.{is_among, others}

abbrev pub told : List (Bor Path) → List Path
told paths = map (λ path. path.now) paths

-- the next path, and those after it
from_here : (paths : List Path) (i : ℕ) (p : Path) → i < length paths → p ≡ get_or paths i p → drop i paths ≡ p ∷ drop (i + 1) paths
from_here paths i p within is =
    subst (λ n. drop i paths ≡ p ∷ drop n paths) (sym (add-one i)) (drop-cons paths i p within ∙ ap (λ (q : Path). q ∷ drop (suc i) paths) (sym is))

one_more : (had : List (Bor Path)) (path : Bor Path) (rest : List Path) → told (had ++ path ∷ []) ++ rest ≡ told had ++ path.now ∷ rest
one_more had path rest = ap (λ l. l ++ rest) (map-append (λ (b : Bor Path). b.now) had (path ∷ [])) ∙ append_assoc (told had) (path.now ∷ []) rest

-- one path was taken
pub taken : (had : List (Bor Path)) (path : Bor Path) (paths all : List Path) (i : ℕ) → i < length paths → path.now ≡ get_or paths i path.now
    → told had ++ drop i paths ≡ all → told (had ++ path ∷ []) ++ drop (i + 1) paths ≡ all
taken had path paths all i within is before =
    one_more had path (drop (i + 1) paths) ∙ ap (λ l. told had ++ l) (sym (from_here paths i path.now within is)) ∙ before

-- none is left
pub all_taken : (had : List (Bor Path)) (paths all : List Path) (i : ℕ) → length paths ≤ i → told had ++ drop i paths ≡ all → told had ≡ all
all_taken had paths all i past before = sym (append-nil (told had)) ∙ ap (λ l. told had ++ l) (sym (drop_all i paths past)) ∙ before

-- one that isn't among the first was taken
pub other_taken : (had : List (Bor Path)) (path : Bor Path) (first paths all : List Path) (i : ℕ) → i < length paths → path.now ≡ get_or paths i path.now
    → is_among first path.now ≡ false → told had ++ others first (drop i paths) ≡ all → told (had ++ path ∷ []) ++ others first (drop (i + 1) paths) ≡ all
other_taken had path first paths all i within is other before =
    one_more had path (others first (drop (i + 1) paths))
    ∙ ap (λ (b : Bool). told had ++ (if b then others first (drop (i + 1) paths) else path.now ∷ others first (drop (i + 1) paths))) (sym other)
    ∙ ap (λ l. told had ++ others first l) (sym (from_here paths i path.now within is)) ∙ before

-- one that is among them was passed
pub passed : (had : List (Bor Path)) (path : Path) (first paths all : List Path) (i : ℕ) → i < length paths → path ≡ get_or paths i path
    → is_among first path ≡ true → told had ++ others first (drop i paths) ≡ all → told had ++ others first (drop (i + 1) paths) ≡ all
passed had path first paths all i within is among before =
    ap (λ (b : Bool). told had ++ (if b then others first (drop (i + 1) paths) else path ∷ others first (drop (i + 1) paths))) (sym among)
    ∙ ap (λ l. told had ++ others first l) (sym (from_here paths i path within is)) ∙ before

pub all_passed : (had : List (Bor Path)) (first paths all : List Path) (i : ℕ) → length paths ≤ i → told had ++ others first (drop i paths) ≡ all → told had ≡ all
all_passed had first paths all i past before = sym (append-nil (told had)) ∙ ap (λ l. told had ++ others first l) (sym (drop_all i paths past)) ∙ before
