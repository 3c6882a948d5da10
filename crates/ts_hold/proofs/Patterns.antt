-- Why a text is no pattern's: no symbol stands where one should, there are too many, or they aren't lawful.
--     HasRead text xs rest    symbols that were read of it, and what follows them
use Rattle.std.proofs.Common.{◌≡◌, ◌≢◌, ◌⊎◌, ℕ, ◌/◌, ◌%◌, ◌<◌, true, List, [], ◌∷◌, ◌++◌, flat_map, length, sym, ap, ◌∙◌, subst, arith, length-append}
use Rattle.std.specs.List.{AllByRecursion}
use Rattle.std.proofs.lemmas.List.{append-nil}
use Rattle.ts_name.specs.Paths.{is_escaped, upper_hex_digit}
use Rattle.ts_name.proofs.Spelling.{cons_parts, not_37}
use Rattle.ts_name.proofs.Utf8.{all_parts}
use Rattle.ts_model.specs.declared.hold.Symbol.{Symbol}
use Rattle.ts_model.specs.declared.hold.Symbol.TheVariants.{Star, Byte}
use Rattle.ts_model.specs.Texts.{symbol_text, SymbolFits, StarsApart}
use Rattle.ts_model.proofs.Spelling.{SymbolSpelled, a_star, byte_as_it_is, byte_in_digits, read_symbols, some_symbol, spelled_symbol}
use Rattle.ts_hold.specs.Lines.{BeginsWithNoEscape, BeginsWithNoSymbol, IsPattern, IsNoPattern}

-- after a `%` that no digits follow stands no symbol
pub no_escape : (text rest : List ℕ) → text ≡ 37 ∷ rest → BeginsWithNoEscape rest → BeginsWithNoSymbol text
no_escape text rest is none symbol after begins = go (symbol_text symbol) (spelled_symbol symbol) begins.fits (sym is ∙ begins.spelled)
  where
    in_rest : (b : ℕ) → symbol ≡ Byte b → SymbolFits symbol → (b ≡ 42) ⊎ (is_escaped b ≡ true) → rest ≡ upper_hex_digit (b / 16) ∷ upper_hex_digit (b % 16) ∷ after → ⊥
    in_rest b is_symbol fits how e = none b after (record { is_byte = (fits_byte symbol is_symbol fits); in_digits = how; spelled = e })
      where
        fits_byte : (x : Symbol) → x ≡ Byte b → SymbolFits x → b < 256
        fits_byte Star e fits = absurd cc
        fits_byte (Byte c) e fits = let same : c ≡ b = cc in omega (arith, fits.0)

    go : (l : List ℕ) → SymbolSpelled symbol l → SymbolFits symbol → 37 ∷ rest ≡ l ++ after → ⊥
    go l (a_star is_x is_l) fits e = let same = (cons_parts 37 42 rest after (e ∙ ap (λ z. z ++ after) is_l)).0 in omega arith
    go l (byte_in_digits b is_x how is_l) fits e =
        in_rest b is_x fits how (cons_parts 37 37 rest (upper_hex_digit (b / 16) ∷ upper_hex_digit (b % 16) ∷ after) (e ∙ ap (λ z. z ++ after) is_l)).1
    go l (byte_as_it_is b is_x differ plain is_l) fits e = not_37 b (cons_parts 37 b rest after (e ∙ ap (λ z. z ++ after) is_l)).0 plain

-- symbols that were read, and what follows them in the text
abbrev pub HasRead : List ℕ → List Symbol → List ℕ → Type 0
HasRead text xs rest = text ≡ flat_map symbol_text xs ++ rest

-- what follows spells the rest of the pattern
the_rest : (text : List ℕ) (xs : List Symbol) (rest : List ℕ) (pattern : List Symbol) → HasRead text xs rest → IsPattern text pattern → (more : List Symbol) × (pattern ≡ xs ++ more) × (rest ≡ flat_map symbol_text more)
the_rest text xs rest pattern has is = read_symbols xs rest pattern (sym has ∙ is.spelled)

-- no symbol follows, but something does
pub no_symbol_follows : (text : List ℕ) (xs : List Symbol) (rest : List ℕ) → HasRead text xs rest → length rest ≢ 0 → BeginsWithNoSymbol rest → IsNoPattern text
no_symbol_follows text xs rest has some none pattern is = let r = the_rest text xs rest pattern has is in go r.0 r.1 r.2
  where
    go : (more : List Symbol) → pattern ≡ xs ++ more → rest ≡ flat_map symbol_text more → ⊥
    go [] whole e = some (ap length e)
    go (m ∷ more) whole e =
        let all = all_parts SymbolFits xs (m ∷ more) (subst (λ z. AllByRecursion SymbolFits z) whole is.fits.2) in
        none m (flat_map symbol_text more) (record { fits = all.1.0; spelled = e })

-- a symbol follows as many as there may be
pub too_many_symbols : (text : List ℕ) (xs : List Symbol) (rest : List ℕ) → HasRead text xs rest → length rest ≢ 0 → length xs ≡ 255 → IsNoPattern text
too_many_symbols text xs rest has some full pattern is = let r = the_rest text xs rest pattern has is in go r.0 r.1 r.2
  where
    go : (more : List Symbol) → pattern ≡ xs ++ more → rest ≡ flat_map symbol_text more → ⊥
    go [] whole e = some (ap length e)
    go (m ∷ more) whole e = omega (arith, is.fits.1, ap length whole, length-append xs (m ∷ more))

-- what was read is all, and it isn't lawful
pub unlawful_symbols : (text : List ℕ) (xs : List Symbol) (rest : List ℕ) → HasRead text xs rest → length rest ≡ 0 → (0 < length xs → ¬ StarsApart xs) → IsNoPattern text
unlawful_symbols text xs rest has none wrong pattern is = let r = the_rest text xs rest pattern has is in go r.0 r.1 r.2
  where
    go : (more : List Symbol) → pattern ≡ xs ++ more → rest ≡ flat_map symbol_text more → ⊥
    go [] whole e =
        let same : pattern ≡ xs = whole ∙ append-nil xs in
        wrong (omega (arith, is.fits.0, ap length same)) (subst (λ z. StarsApart z) same is.fits.3)
    go (m ∷ more) whole e = empty rest none e
      where
        empty : (rest : List ℕ) → length rest ≡ 0 → rest ≡ flat_map symbol_text (m ∷ more) → ⊥
        empty [] zero e = some_symbol m (flat_map symbol_text more) e
        empty (b ∷ rest) zero e = omega arith
