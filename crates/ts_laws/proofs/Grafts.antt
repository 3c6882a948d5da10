-- What a graft leaves, and what leads to what is there in a tree.
use Rattle.std.proofs.Common.{◌≡◌, ◌≢◌, [], ◌∷◌, ◌++◌, Option, Some, None, sym, refl, ap, ◌∙◌, append_assoc}
use Rattle.ts_name.specs.Paths.{Name, Path, below}
use Rattle.ts_name.proofs.Prefixes.{AreApart, below_append, below_gives, not_below_itself}
use Rattle.ts_model.specs.Trees.{IsTree}
use Rattle.ts_model.specs.Runs.{graft}
use Rattle.ts_model.specs.declared.row.Content.{Content}
use Rattle.ts_model.specs.declared.row.Content.TheVariants.{Absent, Dir}
use Rattle.ts_laws.proofs.Basics.{stable}

-- ---- grafts

-- at and below its path a graft is its content
pub graft_at : {F : Type 0} (t : Path → Content F) (p : Path) (content : Path → Content F) (rest : Path) → graft t p content (p ++ rest) ≡ content rest
graft_at t p content rest = go (below p (p ++ rest)) (below_append p rest)
  where
    go : (o : Option Path) → o ≡ Some rest → elim o [ None ↦ t (p ++ rest) | Some more ↦ content more ] ≡ content rest
    go None e = cc
    go (Some more) e = let f : more ≡ rest = cc in ap content f

-- elsewhere it changes nothing
pub graft_off : {F : Type 0} (t : Path → Content F) (p : Path) (content : Path → Content F) (q : Path) → ((rest : Path) → q ≢ p ++ rest) → graft t p content q ≡ t q
graft_off t p content q off = go (below p q) refl
  where
    go : (o : Option Path) → below p q ≡ o → elim o [ None ↦ t q | Some rest ↦ content rest ] ≡ t q
    go None e = refl
    go (Some rest) e = absurd (off rest (below_gives p q rest e))

-- apart from p a graft at p changes nothing
pub graft_apart : {F : Type 0} (t : Path → Content F) (p : Path) (content : Path → Content F) (q rest : Path) → AreApart p q → graft t p content (q ++ rest) ≡ t (q ++ rest)
graft_apart t p content q rest h = graft_off t p content (q ++ rest) (λ x e. h.never x rest (sym e))

-- nor does it strictly above p
pub graft_above : {F : Type 0} (t : Path → Content F) (p : Path) (content : Path → Content F) (q : Path) (name : Name) (rest : Path) → p ≡ q ++ name ∷ rest → graft t p content q ≡ t q
graft_above t p content q name rest e =
    graft_off t p content q (λ x f. not_below_itself q name (rest ++ x) (f ∙ ap (λ z. z ++ x) e ∙ append_assoc q (name ∷ rest) x))

-- ---- trees

-- whatever is strictly above something is a directory
abbrev pub IsRooted : {F : Type 0} → (Path → Content F) → Type 0
IsRooted t = (p : Path) (name : Name) (rest : Path) → t (p ++ name ∷ rest) ≢ Absent → t p ≡ Dir

-- in a tree directories lead to whatever is there
pub IsRooted-from_tree : {F : Type 0} {t : Path → Content F} → IsTree t → IsRooted t
IsRooted-from_tree {t = t} h p name [] there = h.parents p name there
IsRooted-from_tree {t = t} h p name (next ∷ rest) there =
    h.parents p name (λ e.
    let below_dir = IsRooted-from_tree h (p ++ name ∷ []) next rest (λ f. there (ap t (sym (append_assoc p (name ∷ []) (next ∷ rest))) ∙ f)) in cc)

-- below what is no directory there is nothing
pub nothing_below : {F : Type 0} {t : Path → Content F} → ((x y : Content F) → Dec (x ≡ y)) → IsRooted t → (p : Path) (name : Name) (rest : Path) → t p ≢ Dir → t (p ++ name ∷ rest) ≡ Absent
nothing_below d h p name rest no_dir = stable (d _ _) (λ there. no_dir (h p name rest there))
