-- Where a title stands among lines.
use Rattle.std.proofs.Common.{◌≡◌, ◌≢◌, ℕ, ◌+◌, ◌/◌, zero, suc, List, [], ◌∷◌, ◌++◌, length, map, drop, codes, get_or, sym, ap, ap₂, arith}
use Rattle.ts_name.specs.Paths.{Path}
use Rattle.ts_model.specs.Trees.{Listing}
use Rattle.ts_model.specs.Texts.{Line, data_lines, tree_row_lines, tree_lines, print_row_lines, print_lines, rule_line}
use Rattle.ts_model.specs.declared.row.Content.{Content}
use Rattle.ts_model.specs.declared.row.Content.TheVariants.{Absent, Dir, File}
use Rattle.ts_model.specs.declared.row.Stamp.{Stamp}
use Rattle.ts_model.specs.declared.hold.Rule.{Rule}
use Rattle.ts_model.specs.declared.hold.Rule.TheVariants.{OnePath, LastName}
use Rattle.ts_name.proofs.Spelling.{cons_parts}
use Rattle.ts_name.proofs.Utf8.{all_append}
use Rattle.ts_bundle.specs.Parts.{Without}

-- a line that isn't the title, behind lines that aren't, stands before the title
pub before_title : (t l : Line) (xs ys r s : List Line) → Without t ys → l ≢ t → xs ++ t ∷ r ≡ ys ++ l ∷ s → (more : List Line) × (xs ≡ ys ++ l ∷ more)
before_title t l [] [] r s are other e = absurd (other (sym (cons_parts t l r s e).0))
before_title t l [] (y ∷ ys) r s are other e = absurd (are.0 (sym (cons_parts t y r (ys ++ l ∷ s) e).0))
before_title t l (x ∷ xs) [] r s are other e = (xs, ap (λ z. z ∷ xs) (cons_parts x l (xs ++ t ∷ r) s e).0)
before_title t l (x ∷ xs) (y ∷ ys) r s are other e =
    let p = cons_parts x y (xs ++ t ∷ r) (ys ++ l ∷ s) e in
    let q = before_title t l xs ys r s are.1 other p.1 in
    (q.0, ap₂ ◌∷◌ p.0 q.1)

-- a title has no space behind its first byte, as a body's lines have
abbrev pub IsTitle : Line → Type 0
IsTitle t = get_or t 1 0 ≢ 32

data_without : (t : Line) → IsTitle t → (n : ℕ) (bytes : List ℕ) → Without t (data_lines n bytes)
data_without t is zero bytes = tt
data_without t is (suc n) bytes = ((λ e. is (sym (ap (λ l. get_or l 1 0) e))), data_without t is n (drop 64 bytes))

tree_row_without : (t : Line) → IsTitle t → (p : Path) (x : Content (List ℕ)) → Without t (tree_row_lines p x)
tree_row_without t is p Absent = tt
tree_row_without t is p Dir = ((λ e. is (sym (ap (λ l. get_or l 1 0) e))), tt)
tree_row_without t is p (File bytes) = ((λ e. is (sym (ap (λ l. get_or l 1 0) e))), data_without t is ((length bytes + 63) / 64) bytes)

pub tree_without : (t : Line) → IsTitle t → (rows : Listing (List ℕ)) → Without t (tree_lines rows)
tree_without t is [] = tt
tree_without t is (row ∷ rows) = all_append (λ l. l ≢ t) (tree_row_lines row.path row.content) (tree_lines rows) (tree_row_without t is row.path row.content) (tree_without t is rows)

print_row_without : (t : Line) → IsTitle t → (p : Path) (x : Content Stamp) → Without t (print_row_lines p x)
print_row_without t is p Absent = tt
print_row_without t is p Dir = ((λ e. is (sym (ap (λ l. get_or l 1 0) e))), tt)
print_row_without t is p (File stamp) = ((λ e. is (sym (ap (λ l. get_or l 1 0) e))), tt)

pub print_without : (t : Line) → IsTitle t → (rows : Listing Stamp) → Without t (print_lines rows)
print_without t is [] = tt
print_without t is (row ∷ rows) = all_append (λ l. l ≢ t) (print_row_lines row.path row.content) (print_lines rows) (print_row_without t is row.path row.content) (print_without t is rows)

-- `path` and `name` differ from `plan` in their second letter
pub rules_without : (rules : List Rule) → Without (codes "plan") (map rule_line rules)
rules_without [] = tt
rules_without (OnePath path ∷ rules) = ((λ e. let k : ◌≡◌ {A = ℕ} 97 108 = ap (λ l. get_or l 1 0) e in omega arith), rules_without rules)
rules_without (LastName pattern ∷ rules) = ((λ e. let k : ◌≡◌ {A = ℕ} 97 108 = ap (λ l. get_or l 1 0) e in omega arith), rules_without rules)

pub first_title : IsTitle (codes "first")
first_title e = let k : ◌≡◌ {A = ℕ} 105 32 = e in omega arith

pub second_title : IsTitle (codes "second")
second_title e = let k : ◌≡◌ {A = ℕ} 101 32 = e in omega arith

pub holds_title : IsTitle (codes "holds")
holds_title e = let k : ◌≡◌ {A = ℕ} 111 32 = e in omega arith
