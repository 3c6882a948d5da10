-- Whether lines are those of hold rules.
use Rattle.std.proofs.Common.{◌≡◌, ◌≢◌, ◌⊎◌, ℕ, suc, true, false, List, [], ◌∷◌, ◌++◌, length, drop, map, flat_map, codes, refl, sym, ap, ap₂, ◌∙◌, subst, inl, inr, arith}
use Rattle.std.specs.List.{AllByRecursion}
use Rattle.std.proofs.lemmas.Bool.{true≢false, false_from_ne_true}
use Rattle.std.proofs.Math.Decide.{map_dec}
use Rattle.ts_name.specs.Paths.{Path, IsPath, is_escaped, path_text}
use Rattle.ts_model.specs.Texts.{symbol_text, SymbolFits, StarsApart, RuleFits, IsRules}
use Rattle.ts_model.specs.declared.hold.Symbol.{Symbol}
use Rattle.ts_model.specs.declared.hold.Symbol.TheVariants.{Star, Byte}
use Rattle.ts_model.specs.declared.hold.Rule.{Rule}
use Rattle.ts_model.specs.declared.hold.Rule.TheVariants.{OnePath, LastName}
use Rattle.ts_laws.proofs.Basics.{Dec-both, Dec-either, Dec-not}
use Rattle.ts_laws.proofs.Search.{decide_less, decide_at_most, decide_each, decide_true}
use Rattle.ts_name.proofs.Spelling.{cons_parts, escape, one_path}
use Rattle.ts_text_laws.proofs.Words.{Words, first_byte}
use Rattle.ts_model.proofs.Spelling.{SymbolSpelled, a_star, byte_in_digits, byte_as_it_is, spelled_symbol, one_pattern}
use Rattle.ts_text_laws.proofs.RuleTexts.{one_rule, rule_words}
use Rattle.ts_text_laws.proofs.ReadWords.{decide_keyed, decide_path, decide_is_path, by_three, EscapeOf, decide_escape}
use Rattle.ts_text_laws.proofs.ReadTrees.{AreItems, decide_items}
use Rattle.ts_model.proofs.Deciding.{same_names, same_number}

-- ---- patterns

-- a byte that is written by an escape
abbrev IsEscapedSymbol : ℕ → Type 0
IsEscapedSymbol b = ((b ≡ 42) ⊎ (is_escaped b ≡ true)) × SymbolFits (Byte b)

-- and one that is written as it is
abbrev IsPlainSymbol : ℕ → Type 0
IsPlainSymbol b = (b ≢ 42) × (is_escaped b ≡ false) × SymbolFits (Byte b)

-- the text is symbols'
HasSymbols : List ℕ → Type 0
HasSymbols text = (xs : List Symbol) × AllByRecursion SymbolFits xs × (text ≡ flat_map symbol_text xs)

-- how the text of symbols begins
data SymbolBegins (c : ℕ) (text : List ℕ) : Type 0 where
  star_first : c ≡ 42 → HasSymbols text → SymbolBegins c text
  escape_first : (b : ℕ) → EscapeOf IsEscapedSymbol (c ∷ text) b → HasSymbols (drop 2 text) → SymbolBegins c text
  byte_first : IsPlainSymbol c → HasSymbols text → SymbolBegins c text

-- each does so
symbol_begins : (c : ℕ) (text : List ℕ) → HasSymbols (c ∷ text) → SymbolBegins c text
unfolding HasSymbols
symbol_begins c text ([], fits, e) = absurd cc
symbol_begins c text (x ∷ xs, fits, e) = go (symbol_text x) (spelled_symbol x) e
  where
    go : (l : List ℕ) → SymbolSpelled x l → c ∷ text ≡ l ++ flat_map symbol_text xs → SymbolBegins c text
    go l (a_star is_x is) g =
        let h : c ∷ text ≡ 42 ∷ flat_map symbol_text xs = g ∙ ap (λ z. z ++ flat_map symbol_text xs) is in
        star_first (cc) (xs, fits.1, cc)
    go l (byte_in_digits b is_x how is) g =
        let h : c ∷ text ≡ escape b ++ flat_map symbol_text xs = g ∙ ap (λ z. z ++ flat_map symbol_text xs) is in
        let rest : drop 3 (c ∷ text) ≡ flat_map symbol_text xs = ap (drop 3) h in
        escape_first b ((how, subst SymbolFits is_x fits.0), h ∙ ap (λ z. escape b ++ z) (sym rest)) (xs, fits.1, rest)
    go l (byte_as_it_is b is_x differ plain is) g =
        let h : c ∷ text ≡ b ∷ flat_map symbol_text xs = g ∙ ap (λ z. z ++ flat_map symbol_text xs) is in
        let same : b ≡ c = cc in
        byte_first (subst IsPlainSymbol same (differ, plain, subst SymbolFits is_x fits.0)) (xs, fits.1, cc)

-- the text of a byte that is written by an escape
escaped_symbol : (b : ℕ) → (b ≡ 42) ⊎ (is_escaped b ≡ true) → symbol_text (Byte b) ≡ escape b
escaped_symbol b how = go (symbol_text (Byte b)) (spelled_symbol (Byte b)) how
  where
    go : (l : List ℕ) → SymbolSpelled (Byte b) l → (b ≡ 42) ⊎ (is_escaped b ≡ true) → l ≡ escape b
    go l (a_star is_x is) how = absurd cc
    go l (byte_in_digits d is_x other is) how = is ∙ ap escape (let f : d ≡ b = cc in f)
    go l (byte_as_it_is d is_x differ plain is) (inl e) = absurd (differ (let f : d ≡ b = cc in f ∙ e))
    go l (byte_as_it_is d is_x differ plain is) (inr e) = absurd (true≢false (sym e ∙ ap is_escaped (let f : b ≡ d = cc in f) ∙ plain))

-- and of one that is written as it is
plain_symbol : (b : ℕ) → b ≢ 42 → is_escaped b ≡ false → symbol_text (Byte b) ≡ b ∷ []
plain_symbol b differ plain = go (symbol_text (Byte b)) (spelled_symbol (Byte b))
  where
    go : (l : List ℕ) → SymbolSpelled (Byte b) l → l ≡ b ∷ []
    go l (a_star is_x is) = absurd cc
    go l (byte_in_digits d is_x (inl e) is) = absurd (differ (let f : b ≡ d = cc in f ∙ e))
    go l (byte_in_digits d is_x (inr e) is) = absurd (true≢false (sym e ∙ ap is_escaped (let f : d ≡ b = cc in f) ∙ plain))
    go l (byte_as_it_is d is_x other_differ other_plain is) = is ∙ ap (λ z. z ∷ []) (let f : d ≡ b = cc in f)

-- whether a byte fits
decide_byte_fits : (b : ℕ) → Dec (SymbolFits (Byte b))
decide_byte_fits b = map_dec (λ h. (h.0, h.1.0, h.1.1)) (λ h. (h.0, (h.1, h.2))) (Dec-both (decide_less b 256) (Dec-both (Dec-not (same_number b 0)) (Dec-not (same_number b 47))))

-- whether a text is symbols, from whether the text after its first byte or escape is
one_more_symbol : (c : ℕ) (text : List ℕ) → Dec (HasSymbols text) → Dec (HasSymbols (drop 2 text)) → Dec (HasSymbols (c ∷ text))
unfolding HasSymbols
one_more_symbol c text more far = go (same_number c 42) (same_number c 37) (decide_true (is_escaped c)) (decide_byte_fits c)
    (decide_escape IsEscapedSymbol (λ b. Dec-both (Dec-either (same_number b 42) (decide_true (is_escaped b))) (decide_byte_fits b)) (λ b h. h.1.0) (c ∷ text)) more far
  where
    Symbols : List ℕ → Type 0
    Symbols t = (xs : List Symbol) × AllByRecursion SymbolFits xs × (t ≡ flat_map symbol_text xs)

    first_is_37 : (b : ℕ) → EscapeOf IsEscapedSymbol (c ∷ text) b → c ≡ 37
    first_is_37 b h = let e = h.1 in cc

    escaped_37 : is_escaped 37 ≡ true
    escaped_37 = refl

    go : Dec (c ≡ 42) → Dec (c ≡ 37) → Dec (is_escaped c ≡ true) → Dec (SymbolFits (Byte c)) → Dec ((b : ℕ) × EscapeOf IsEscapedSymbol (c ∷ text) b) → Dec (Symbols text) → Dec (Symbols (drop 2 text))
        → Dec (Symbols (c ∷ text))
    go (yes star) digits escaped fits found (yes h) far = yes (Star ∷ h.0, (tt, h.1), ap₂ ◌∷◌ star h.2)
    go (yes star) digits escaped fits found (no n) far = no (λ h. elim (symbol_begins c text h) [
      | star_first f m ↦ n m
      | escape_first b f m ↦ (let at = first_is_37 b f in omega (arith, star))
      | byte_first f m ↦ f.0 star
    ])
    go (no n) (yes digits) escaped fits (no none) more far = no (λ h. elim (symbol_begins c text h) [
      | star_first f m ↦ n f
      | escape_first b f m ↦ none (b, f)
      | byte_first f m ↦ true≢false (sym escaped_37 ∙ ap is_escaped (sym digits) ∙ f.1)
    ])
    go (no n) (yes digits) escaped fits (yes found) more (yes h) =
        yes (Byte found.0 ∷ h.0, (found.1.0.1, h.1), found.1.1 ∙ ap₂ ◌++◌ (sym (escaped_symbol found.0 found.1.0.0)) h.2)
    go (no n) (yes digits) escaped fits (yes found) more (no k) = no (λ h. elim (symbol_begins c text h) [
      | star_first f m ↦ n f
      | escape_first b f m ↦ k m
      | byte_first f m ↦ true≢false (sym escaped_37 ∙ ap is_escaped (sym digits) ∙ f.1)
    ])
    go (no n) (no k) (yes escaped) fits found more far = no (λ h. elim (symbol_begins c text h) [
      | star_first f m ↦ n f
      | escape_first b f m ↦ k (first_is_37 b f)
      | byte_first f m ↦ true≢false (sym escaped ∙ f.1)
    ])
    go (no n) (no k) (no plain) (no bad) found more far = no (λ h. elim (symbol_begins c text h) [
      | star_first f m ↦ n f
      | escape_first b f m ↦ k (first_is_37 b f)
      | byte_first f m ↦ bad f.2
    ])
    go (no n) (no k) (no plain) (yes fits) found (yes h) far =
        yes (Byte c ∷ h.0, (fits, h.1), ap₂ ◌++◌ (sym (plain_symbol c n (false_from_ne_true _ plain))) h.2)
    go (no n) (no k) (no plain) (yes fits) found (no m) far = no (λ h. elim (symbol_begins c text h) [
      | star_first f o ↦ n f
      | escape_first b f o ↦ k (first_is_37 b f)
      | byte_first f o ↦ m o
    ])

-- whether a text is symbols
decide_symbols : (text : List ℕ) → Dec ((xs : List Symbol) × AllByRecursion SymbolFits xs × (text ≡ flat_map symbol_text xs))
unfolding HasSymbols
decide_symbols text = by_three (λ t. Dec (HasSymbols t)) (yes ([], tt, refl)) one_more_symbol text

-- whether no two stars are side by side
decide_stars : (xs : List Symbol) → Dec (StarsApart xs)
decide_stars [] = yes tt
decide_stars (Star ∷ []) = yes tt
decide_stars (Star ∷ Star ∷ xs) = no (λ h. h)
decide_stars (Star ∷ Byte b ∷ xs) = decide_stars (Byte b ∷ xs)
decide_stars (Byte b ∷ xs) = decide_stars xs

-- whether a rule fits
decide_rule_fits : (rule : Rule) → Dec (RuleFits rule)
decide_rule_fits (OnePath path) = Dec-both (decide_is_path path) (Dec-not (same_names path []))
decide_rule_fits (LastName pattern) = map_dec (λ h. (h.0, h.1.0, h.1.1.0, h.1.1.1)) (λ h. (h.0, (h.1, (h.2, h.3))))
    (Dec-both (decide_less 0 (length pattern)) (Dec-both (decide_at_most (length pattern) 255) (Dec-both (decide_each SymbolFits decide_symbol_fits pattern) (decide_stars pattern))))
  where
    decide_symbol_fits : (x : Symbol) → Dec (SymbolFits x)
    decide_symbol_fits Star = yes tt
    decide_symbol_fits (Byte b) = decide_byte_fits b

-- ---- rules

-- whether a line is a path rule's
decide_path_line : (line : Words) → Dec ((p : Path) × IsPath p × (line ≡ codes "path" ∷ path_text p ∷ []))
decide_path_line = decide_keyed IsPath path_text decide_path (codes "path")

-- whether a line is a name rule's
decide_name_line : (line : Words) → Dec ((xs : List Symbol) × AllByRecursion SymbolFits xs × (line ≡ codes "name" ∷ flat_map symbol_text xs ∷ []))
decide_name_line = decide_keyed (AllByRecursion SymbolFits) (flat_map symbol_text) decide_symbols (codes "name")

-- whether a line is a rule's
decide_rule_line : (line : Words) → Dec ((rule : Rule) × RuleFits rule × (line ≡ rule_words rule))
unfolding rule_words
decide_rule_line line = go (decide_path_line line) (decide_name_line line)
  where
    PathLine : Type 0
    PathLine = (p : Path) × IsPath p × (line ≡ codes "path" ∷ path_text p ∷ [])

    NameLine : Type 0
    NameLine = (xs : List Symbol) × AllByRecursion SymbolFits xs × (line ≡ codes "name" ∷ flat_map symbol_text xs ∷ [])

    RuleLine : Type 0
    RuleLine = (rule : Rule) × RuleFits rule × (line ≡ rule_words rule)

    neither : ¬ PathLine → ¬ NameLine → (rule : Rule) → RuleFits rule → line ≢ rule_words rule
    neither n m (OnePath path) fits e = n (path, fits.0, e)
    neither n m (LastName pattern) fits e = m (pattern, fits.2, e)

    -- the rule of the line, if it fits
    with_rule : (rule : Rule) → line ≡ rule_words rule → ((other : Rule) → RuleFits other → line ≡ rule_words other → other ≡ rule) → Dec (RuleFits rule) → Dec RuleLine
    with_rule rule e only (yes fits) = yes (rule, fits, e)
    with_rule rule e only (no n) = no (λ h. n (subst RuleFits (only h.0 h.1 h.2) h.1))

    only_path : (p : Path) → IsPath p → line ≡ codes "path" ∷ path_text p ∷ [] → (other : Rule) → RuleFits other → line ≡ rule_words other → other ≡ OnePath p
    only_path p is e (OnePath q) fits f = ap OnePath (one_path q p fits.0 is (let words : path_text q ≡ path_text p = cc in words))
    only_path p is e (LastName pattern) fits f = absurd (let k : ◌≡◌ {A = ℕ} 112 110 = ap first_byte (sym e ∙ f) in omega arith)

    only_name : (xs : List Symbol) → line ≡ codes "name" ∷ flat_map symbol_text xs ∷ [] → (other : Rule) → RuleFits other → line ≡ rule_words other → other ≡ LastName xs
    only_name xs e (LastName pattern) fits f = ap LastName (one_pattern pattern xs (let words : flat_map symbol_text pattern ≡ flat_map symbol_text xs = cc in words))
    only_name xs e (OnePath q) fits f = absurd (let k : ◌≡◌ {A = ℕ} 110 112 = ap first_byte (sym e ∙ f) in omega arith)

    go : Dec PathLine → Dec NameLine → Dec RuleLine
    go (yes h) name = with_rule (OnePath h.0) h.2 (only_path h.0 h.1 h.2) (decide_rule_fits (OnePath h.0))
    go (no n) (yes h) = with_rule (LastName h.0) h.2 (only_name h.0 h.2) (decide_rule_fits (LastName h.0))
    go (no n) (no m) = no (λ h. neither n m h.0 h.1 h.2)

-- whether lines are of rules, and then others with a decided fact
pub decide_rule_lines : (Q : List Rule → List Words → Type 0) → ((rules : List Rule) (rest : List Words) → Dec (Q rules rest)) → (lines : List Words) → Dec (AreItems RuleFits (map rule_words) Q lines)
decide_rule_lines Q d lines = decide_items RuleFits (λ rule. rule_words rule ∷ []) (map rule_words)
    (record { nothing = refl; one_more = λ rule rules. refl; first = first; one = one; some = λ rule fits. omega arith }) (suc (length lines)) Q d lines (omega arith)
  where
    first : (lines : List Words) → Dec ((rule : Rule) × (rest : List Words) × RuleFits rule × (lines ≡ (rule_words rule ∷ []) ++ rest))
    first [] = no (λ h. let e = h.3 in cc)
    first (line ∷ more) = map_dec
        (λ h. (h.0, more, h.1, ap (λ z. z ∷ more) h.2))
        (λ h. (h.0, h.2, (cons_parts line (rule_words h.0) more h.1 h.3).0))
        (decide_rule_line line)

    one : (x y : Rule) (u v : List Words) → RuleFits x → RuleFits y → (rule_words x ∷ []) ++ u ≡ (rule_words y ∷ []) ++ v → (x ≡ y) × (u ≡ v)
    one x y u v fits_x fits_y e = let parts = cons_parts (rule_words x) (rule_words y) u v e in (one_rule x y fits_x fits_y parts.0, parts.1)

-- whether rules are lawful
pub decide_rules : (rules : List Rule) → Dec (IsRules rules)
decide_rules rules = map_dec
    (λ h. record { each = h.0; count = h.1 })
    (λ (h : IsRules rules). (h.each, h.count))
    (Dec-both (decide_each RuleFits decide_rule_fits rules) (decide_at_most (length rules) 4096))
