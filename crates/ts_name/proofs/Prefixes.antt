-- Paths above one another, and what is left below one.
use Rattle.std.proofs.Common.{◌≡◌, ◌≢◌, ◌⊎◌, ◌↔◌, IsTrue, inl, inr, ⊎_elim, ap₂, subst, append_assoc, append-nil, ℕ, Bool, true, false, cond, eqb, List, [], ◌∷◌, ◌++◌, length, length-append, Option, Some, None, refl, sym, ap, ◌∙◌, arith}
use Rattle.std.proofs.lemmas.Bool.{cond-true, false≢true}
use Rattle.std.proofs.lemmas.List.{append_cancel_left}
use Rattle.ts_name.specs.Paths.{Name, Path, IsAbove, same_name, below, IsName, IsPath}
use Rattle.std.specs.List.{starts_with}
use Rattle.ts_name.specs.Buffers.{pieces, ended, HoldsParent}
use Rattle.ts_name.specs.Laws.{same_name_equal, same_name_itself}
use Rattle.ts_name.proofs.Buffers.{Holds, above_from_bytes, bytes_from_above, prefix_answer}
use Rattle.std.proofs.lemmas.List.Sums.{sum_by-append}
use Rattle.ts_name.proofs.Utf8.{all_parts}

-- what follows a path is left below it
pub below_append : (p rest : Path) → below p (p ++ rest) ≡ Some rest
below_append [] rest = refl
below_append (x ∷ xs) rest = cond-true _ _ _ (same_name_itself x) ∙ below_append xs rest

-- and only that is
pub below_gives : (p q rest : Path) → below p q ≡ Some rest → q ≡ p ++ rest
below_gives [] q rest h = cc
below_gives (x ∷ xs) [] rest h = cc
below_gives (x ∷ xs) (y ∷ ys) rest h = go (same_name x y) refl h (below_gives xs ys rest)
  where
    go : (b : Bool) → same_name x y ≡ b → cond b (below xs ys) None ≡ Some rest → (below xs ys ≡ Some rest → ys ≡ xs ++ rest) → y ∷ ys ≡ x ∷ (xs ++ rest)
    go true e g more = let same = same_name_equal x y e in let rest_is = more g in cc
    go false e g more = cc

-- nothing is left where the path does not begin so
pub below_none : (p q : Path) → ¬ IsAbove p q → below p q ≡ None
below_none p q n = go (below p q) refl
  where
    go : (o : Option Path) → below p q ≡ o → o ≡ None
    go None e = refl
    go (Some rest) e = absurd (n (rest, below_gives p q rest e))

-- and only there
pub not_above : (p q : Path) → below p q ≡ None → ¬ IsAbove p q
not_above p q e h = let f = below_append p h.0 in let g : below p (p ++ h.0) ≡ None = ap (below p) (sym h.1) ∙ e in cc

-- whether a path is above another
pub decide_above : (p q : Path) → Dec (IsAbove p q)
decide_above p q = go (below p q) refl
  where
    go : (o : Option Path) → below p q ≡ o → Dec (IsAbove p q)
    go None e = no (not_above p q e)
    go (Some rest) e = yes (rest, below_gives p q rest e)

-- a path is above itself
pub above_itself : (p : Path) → IsAbove p p
above_itself p = ([], sym (append-nil p))

-- and above what that is above
pub above_trans : (p q r : Path) → IsAbove p q → IsAbove q r → IsAbove p r
above_trans p q r (x, e) (y, f) = (x ++ y, f ∙ ap (λ z. z ++ y) e ∙ append_assoc p x y)

-- no path is strictly below itself
pub not_below_itself : (p : Path) (name : Name) (rest : Path) → p ≢ p ++ name ∷ rest
not_below_itself p name rest e =
    let f : [] ≡ name ∷ rest = append_cancel_left p [] (name ∷ rest) (append-nil p ∙ e) in cc

-- the root is strictly below no path
pub root_not_below : (p : Path) (name : Name) (rest : Path) → [] ≢ p ++ name ∷ rest
root_not_below [] name rest e = cc
root_not_below (n ∷ p) name rest e = cc

-- paths above one another are equal
pub above_turned : (p q : Path) → IsAbove p q → IsAbove q p → p ≡ q
above_turned p q ([], e) h = sym (append-nil p) ∙ sym e
above_turned p q (name ∷ x, e) (y, f) =
    absurd (not_below_itself p name (x ++ y) (f ∙ ap (λ z. z ++ y) e ∙ append_assoc p (name ∷ x) y))

-- two paths above a third are above one another
pub above_either : (p q r : Path) → IsAbove p r → IsAbove q r → IsAbove p q ⊎ IsAbove q p
above_either [] q r h k = inl (q, refl)
above_either (n ∷ p) [] r h k = inr (n ∷ p, refl)
above_either (n ∷ p) (m ∷ q) r (x, e) (y, f) =
    let same : n ∷ (p ++ x) ≡ m ∷ (q ++ y) = sym e ∙ f in
    let first : n ≡ m = cc in
    let rest : p ++ x ≡ q ++ y = cc in
    ⊎_elim (λ (z, g). inl (z, ap₂ ◌∷◌ (sym first) g)) (λ (z, g). inr (z, ap₂ ◌∷◌ first g)) (above_either p q (p ++ x) (x, refl) (y, rest))

-- ---- two paths

-- no path is below both
pub record AreApart (p q : Path) : Type 0 where
  pub never : (x y : Path) → p ++ x ≢ q ++ y

-- p is above q or q itself; or strictly below q; or neither
pub data Compared (p q : Path) : Type 0 where
  above : (rest : Path) → q ≡ p ++ rest → Compared p q
  under : (name : Name) (rest : Path) → p ≡ q ++ name ∷ rest → Compared p q
  beside : AreApart p q → Compared p q

-- two paths are above, under or beside one another
pub compared : (p q : Path) → Compared p q
compared [] q = above q refl
compared (x ∷ xs) [] = under x xs refl
compared (x ∷ xs) (y ∷ ys) = joined (same_name x y) refl (compared xs ys)
  where
    joined : (b : Bool) → same_name x y ≡ b → Compared xs ys → Compared (x ∷ xs) (y ∷ ys)
    joined false n c = beside (record { never = λ u v e. let f : x ≡ y = cc in false≢true (sym n ∙ ap (same_name x) (sym f) ∙ same_name_itself x) })
    joined true e (above rest f) = let g = same_name_equal x y e in above rest cc
    joined true e (under name rest f) = let g = same_name_equal x y e in under name rest cc
    joined true e (beside h) = beside (record { never = λ u v f. h.never u v cc })

-- ---- parents

-- what stands strictly above a path is above its parent
pub above_parent : (p : Path) (name : Name) (rest parent : Path) (last : Name) → p ++ name ∷ rest ≡ parent ++ last ∷ [] → IsAbove p parent
above_parent [] name rest parent last e = (parent, refl)
above_parent (n ∷ p) name rest [] last e = absurd (ends p e)
  where
    ends : (p : Path) → n ∷ (p ++ name ∷ rest) ≡ last ∷ [] → ⊥
    ends [] f = cc
    ends (m ∷ q) f = cc
above_parent (n ∷ p) name rest (m ∷ parent) last e =
    let found = above_parent p name rest parent last cc in (found.0, (let more = found.1 in cc))

-- a path is the root, or it has a parent and a last name
pub last_name : (p : Path) → (p ≡ []) ⊎ ((parent : Path) × (name : Name) × (p ≡ parent ++ name ∷ []))
last_name [] = inl refl
last_name (n ∷ p) = elim (last_name p) [
  | inl e ↦ inr ([], n, ap (λ z. n ∷ z) e)
  | inr h ↦ inr (n ∷ h.0, h.1, ap (λ z. n ∷ z) h.2)
]

-- a path with a last name is not the root
pub snoc_not_empty : (p : Path) (name : Name) → p ++ name ∷ [] ≢ []
snoc_not_empty [] name e = cc
snoc_not_empty (n ∷ p) name e = cc

-- one path has one parent
pub same_parent : (p q : Path) (m n : Name) → p ++ m ∷ [] ≡ q ++ n ∷ [] → p ≡ q
same_parent [] [] m n e = refl
same_parent [] (y ∷ q) m n e = absurd (snoc_not_empty q n (let f : q ++ n ∷ [] ≡ [] = cc in f))
same_parent (x ∷ p) [] m n e = absurd (snoc_not_empty p m (let f : p ++ m ∷ [] ≡ [] = cc in f))
same_parent (x ∷ p) (y ∷ q) m n e = let f = same_parent p q m n cc in cc

-- and one last name
pub same_last : (p q : Path) (m n : Name) → p ++ m ∷ [] ≡ q ++ n ∷ [] → m ≡ n
same_last p q m n e =
    let parents = same_parent p q m n e in
    let f : m ∷ [] ≡ n ∷ [] = append_cancel_left p (m ∷ []) (n ∷ []) (e ∙ ap (λ z. z ++ n ∷ []) (sym parents)) in cc

-- ---- by the bytes that hold the paths

pub below_by_bytes : (b d : List ℕ) (p q : Path) → Holds b p → Holds d q → (rest : List ℕ) → d ≡ b ++ rest → Some (pieces 0 rest) ≡ below p q
below_by_bytes b d p q h k rest e =
    let is = (above_from_bytes b d p q h k rest e).1 in
    sym (ap (below p) is ∙ below_append p (pieces 0 rest))

pub none_by_bytes : (b d : List ℕ) (p q : Path) → Holds b p → Holds d q → ((rest : List ℕ) → d ≢ b ++ rest) → None ≡ below p q
none_by_bytes b d p q h k n =
    sym (below_none p q (λ (rest, e). n (ended 0 rest) (bytes_from_above b d p q h k rest e)))

-- a test of the parent's bytes tells whether the parent is above
pub parent_above : (bytes d : List ℕ) (p q : Path) → HoldsParent bytes p → Holds d q → (r : Bool) → r ≡ starts_with eqb d bytes → IsTrue r ↔ ((parent : Path) × (name : Name) × (p ≡ parent ++ name ∷ []) × IsAbove parent q)
parent_above bytes d p q (parent, name, e, buffer, is) h r f =
    let answer = prefix_answer bytes d parent q (record { buffer = buffer; path_is = is }) h r f in
    (λ t. (parent, name, e, answer.0 t), λ (other, last, g, over). answer.1 (subst (λ z. IsAbove z q) (same_parent other parent last name (sym g ∙ e)) over))

-- ---- lawful paths

-- what is left of a path below another one is a path
pub rest_is_path : (p rest : Path) → IsPath (p ++ rest) → IsPath rest
rest_is_path p rest is = record {
  names = (all_parts IsName p rest is.names).1;
  depth = omega (arith, length-append p rest, is.depth);
  size = omega (arith, sum_by-append length p rest, is.size);
}
