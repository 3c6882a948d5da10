-- The text of hold rules.
use Rattle.std.proofs.Common.{◌≡◌, ◌≢◌, ℕ, List, [], ◌∷◌, ◌++◌, map, flat_map, codes, refl, sym, ap, ap₂, subst, arith}
use Rattle.std.specs.List.{AllByRecursion}
use Rattle.ts_name.specs.Paths.{path_text}
use Rattle.ts_model.specs.declared.hold.Symbol.{Symbol}
use Rattle.ts_model.specs.declared.hold.Symbol.TheVariants.{Byte}
use Rattle.ts_model.specs.declared.hold.Rule.{Rule}
use Rattle.ts_model.specs.declared.hold.Rule.TheVariants.{OnePath, LastName}
use Rattle.ts_model.specs.Texts.{words, symbol_text, rule_line, SymbolFits, RuleFits}
use Rattle.ts_model.proofs.Told.{items_before, tells_map}
use Rattle.ts_name.proofs.Spelling.{IsClean, clean_append, clean_from_test, clean_path, cons_parts, escape_clean, one_path, plain_clean}
use Rattle.ts_model.proofs.Spelling.{SymbolSpelled, a_star, byte_as_it_is, byte_in_digits, one_pattern, spelled_symbol}
use Rattle.ts_text_laws.proofs.Words.{first_byte, AreLines, IsLine, Words, other_length}

-- ---- hold rules

-- a symbol's text is clean
clean_symbol : (x : Symbol) → SymbolFits x → IsClean (symbol_text x)
clean_symbol x fits = go (symbol_text x) (spelled_symbol x)
  where
    go : (l : List ℕ) → SymbolSpelled x l → IsClean l
    go l (a_star is_x is) = subst (λ z. IsClean z) (sym is) (omega arith, tt)
    go l (byte_in_digits b is_x how is) = subst (λ z. IsClean z) (sym is) (escape_clean b)
    go l (byte_as_it_is b is_x differ plain is) =
        let byte_fits : SymbolFits (Byte b) = subst (λ z. SymbolFits z) is_x fits in subst (λ z. IsClean z) (sym is) (plain_clean b byte_fits.1 plain, tt)

-- and so is a pattern's
clean_pattern : (xs : List Symbol) → AllByRecursion SymbolFits xs → IsClean (flat_map symbol_text xs)
clean_pattern [] fits = tt
clean_pattern (x ∷ xs) fits = clean_append (symbol_text x) (flat_map symbol_text xs) (clean_symbol x fits.0) (clean_pattern xs fits.1)

-- a rule's line in words
unfoldable pub rule_words : Rule → Words
rule_words (OnePath path) = codes "path" ∷ path_text path ∷ []
rule_words (LastName pattern) = codes "name" ∷ flat_map symbol_text pattern ∷ []

-- the words spell the lines
pub rules_spelled : (rules : List Rule) → map rule_line rules ≡ map words (map rule_words rules)
unfolding rule_words
rules_spelled [] = refl
rules_spelled (rule ∷ rules) = ap₂ ◌∷◌ (one rule) (rules_spelled rules)
  where
    one : (rule : Rule) → rule_line rule ≡ words (rule_words rule)
    one (OnePath path) = refl
    one (LastName pattern) = refl

-- each line is one
rule_is_line : (rule : Rule) → RuleFits rule → IsLine (rule_words rule)
unfolding rule_words
rule_is_line (OnePath path) fits = (clean_from_test (codes "path") refl, clean_path path fits.0)
rule_is_line (LastName pattern) fits = (clean_from_test (codes "name") refl, clean_pattern pattern fits.2)

-- and so are all
pub rules_are_lines : (rules : List Rule) → AllByRecursion RuleFits rules → AreLines (map rule_words rules)
rules_are_lines [] fits = tt
rules_are_lines (rule ∷ rules) fits = (rule_is_line rule fits.0, rules_are_lines rules fits.1)

-- a line is of one rule
pub one_rule : (x y : Rule) → RuleFits x → RuleFits y → rule_words x ≡ rule_words y → x ≡ y
unfolding rule_words
one_rule (OnePath p) (OnePath q) fits_x fits_y e =
    let word = cons_parts (codes "path") (codes "path") (path_text p ∷ []) (path_text q ∷ []) e in
    ap OnePath (one_path p q fits_x.0 fits_y.0 (cons_parts (path_text p) (path_text q) [] [] word.1).0)
one_rule (LastName p) (LastName q) fits_x fits_y e =
    let word = cons_parts (codes "name") (codes "name") (flat_map symbol_text p ∷ []) (flat_map symbol_text q ∷ []) e in
    ap LastName (one_pattern p q (cons_parts (flat_map symbol_text p) (flat_map symbol_text q) [] [] word.1).0)
one_rule (OnePath p) (LastName q) fits_x fits_y e = absurd (let k : ◌≡◌ {A = ℕ} 112 110 = ap first_byte e in omega arith)
one_rule (LastName p) (OnePath q) fits_x fits_y e = absurd (let k : ◌≡◌ {A = ℕ} 110 112 = ap first_byte e in omega arith)

-- a line of one word is of none
no_rule_first : (x : Rule) (w : List ℕ) → w ∷ [] ≢ rule_words x
unfolding rule_words
no_rule_first (OnePath p) w e = other_length (w ∷ []) (codes "path" ∷ path_text p ∷ []) (λ k. omega arith) e
no_rule_first (LastName p) w e = other_length (w ∷ []) (codes "name" ∷ flat_map symbol_text p ∷ []) (λ k. omega arith) e

-- rules up to a line of one word
pub one_rules : (xs ys : List Rule) (w : List ℕ) (u v : List Words) → AllByRecursion RuleFits xs → AllByRecursion RuleFits ys
    → map rule_words xs ++ (w ∷ []) ∷ u ≡ map rule_words ys ++ (w ∷ []) ∷ v → (xs ≡ ys) × (u ≡ v)
one_rules xs ys w u v fits_x fits_y e =
    let found = items_before (λ x. rule_words x ∷ []) (map rule_words) RuleFits (tells_map rule_words RuleFits one_rule) xs ys ((w ∷ []) ∷ u) ((w ∷ []) ∷ v) fits_x fits_y
    (λ x rest fits h. no_rule_first x w (cons_parts (w ∷ []) (rule_words x) u rest h).0)
    (λ x rest fits h. no_rule_first x w (cons_parts (w ∷ []) (rule_words x) v rest h).0) e in
    (found.0, (cons_parts (w ∷ []) (w ∷ []) u v found.1).1)
