-- How bytes, symbols, patterns and reasons are spelled: each has one text.
--     SymbolSpelled x text    the text is the symbol's
use Rattle.std.proofs.Common.{◌≡◌, ◌≢◌, ◌⊎◌, ℕ, zero, suc, ◌+◌, ◌*◌, ◌/◌, ◌%◌, ◌<◌, Bool, true, false, ◌==◌, if◌then◌else◌, Option, Some, List, [], ◌∷◌, ◌++◌, length, get_or, take, drop, flat_map, codes, slice_index, refl, sym, ap, ap₂, ◌∙◌, subst, inl, inr, append_assoc, arith, eqb-true, take-append-drop}
use Rattle.std.proofs.lemmas.Bool.{true≢false}
use Rattle.std.proofs.lemmas.List.{append-nil}
use Rattle.hex.specs.Hex.{encode_with, encode_lower, lower_digits, hex_digit_value}
use Rattle.hex.proofs.HexLemmas.{length-encode_with}
use Rattle.ts_name.specs.Paths.{is_escaped, byte_text}
use Rattle.ts_name.proofs.Utf8.{all_parts}
use Rattle.ts_name.proofs.Spelling.{IsClean, Spelled, as_it_is, clean_from_test, cons_parts, escape, escape_one, in_digits, not_37, spelled_byte}
use Rattle.ts_model.specs.Texts.{IsBytes, reason_text, symbol_text}
use Rattle.ts_model.specs.declared.hold.Symbol.{Symbol}
use Rattle.ts_model.specs.declared.hold.Symbol.TheVariants.{Star, Byte}
use Rattle.ts_model.specs.declared.plan.Reason.{Reason}
use Rattle.ts_model.specs.declared.plan.Reason.TheVariants as reason

-- ---- bytes in hex

-- parts of bytes are bytes
pub bytes_parts : (n : ℕ) (x : List ℕ) → IsBytes x → IsBytes (take n x) × IsBytes (drop n x)
bytes_parts n x bytes = all_parts (λ b. b < 256) (take n x) (drop n x) (subst (λ z. IsBytes z) (sym (take-append-drop n x)) bytes)

-- a digit tells its number, and is clean
digit_back : (n : ℕ) → n < 16 → (hex_digit_value (slice_index lower_digits n) ≡ Some n) × (32 < slice_index lower_digits n)
digit_back zero h = (refl, omega arith)
digit_back (suc zero) h = (refl, omega arith)
digit_back (suc (suc zero)) h = (refl, omega arith)
digit_back (suc (suc (suc zero))) h = (refl, omega arith)
digit_back (suc (suc (suc (suc zero)))) h = (refl, omega arith)
digit_back (suc (suc (suc (suc (suc zero))))) h = (refl, omega arith)
digit_back (suc (suc (suc (suc (suc (suc zero)))))) h = (refl, omega arith)
digit_back (suc (suc (suc (suc (suc (suc (suc zero))))))) h = (refl, omega arith)
digit_back (suc (suc (suc (suc (suc (suc (suc (suc zero)))))))) h = (refl, omega arith)
digit_back (suc (suc (suc (suc (suc (suc (suc (suc (suc zero))))))))) h = (refl, omega arith)
digit_back (suc (suc (suc (suc (suc (suc (suc (suc (suc (suc zero)))))))))) h = (refl, omega arith)
digit_back (suc (suc (suc (suc (suc (suc (suc (suc (suc (suc (suc zero))))))))))) h = (refl, omega arith)
digit_back (suc (suc (suc (suc (suc (suc (suc (suc (suc (suc (suc (suc zero)))))))))))) h = (refl, omega arith)
digit_back (suc (suc (suc (suc (suc (suc (suc (suc (suc (suc (suc (suc (suc zero))))))))))))) h = (refl, omega arith)
digit_back (suc (suc (suc (suc (suc (suc (suc (suc (suc (suc (suc (suc (suc (suc zero)))))))))))))) h = (refl, omega arith)
digit_back (suc (suc (suc (suc (suc (suc (suc (suc (suc (suc (suc (suc (suc (suc (suc zero))))))))))))))) h = (refl, omega arith)
digit_back (suc (suc (suc (suc (suc (suc (suc (suc (suc (suc (suc (suc (suc (suc (suc (suc n)))))))))))))))) h = absurd (omega arith)

-- so it is of one number
digit_one : (m n : ℕ) → m < 16 → n < 16 → slice_index lower_digits m ≡ slice_index lower_digits n → m ≡ n
digit_one m n small_m small_n e =
    let f : ◌≡◌ {A = Option ℕ} (Some m) (Some n) = sym (digit_back m small_m).0 ∙ ap hex_digit_value e ∙ (digit_back n small_n).0 in cc

-- digits are of one list of bytes
pub one_hex : (x y : List ℕ) → IsBytes x → IsBytes y → encode_lower x ≡ encode_lower y → x ≡ y
unfolding encode_with
one_hex [] [] bytes_x bytes_y e = refl
one_hex [] (c ∷ y) bytes_x bytes_y e = absurd cc
one_hex (b ∷ x) [] bytes_x bytes_y e = absurd cc
one_hex (b ∷ x) (c ∷ y) bytes_x bytes_y e =
    let high : slice_index lower_digits (b / 16) ≡ slice_index lower_digits (c / 16) = cc in
    let low : slice_index lower_digits (b % 16) ≡ slice_index lower_digits (c % 16) = cc in
    let rest : encode_lower x ≡ encode_lower y = cc in
    let small_b : b < 256 = bytes_x.0 in
    let small_c : c < 256 = bytes_y.0 in
    let same_high = digit_one (b / 16) (c / 16) (omega arith) (omega arith) high in
    let same_low = digit_one (b % 16) (c % 16) (omega arith) (omega arith) low in
    ap₂ ◌∷◌ (omega (arith, same_high, same_low)) (one_hex x y bytes_x.1 bytes_y.1 rest)

-- and are clean
pub clean_hex : (x : List ℕ) → IsBytes x → IsClean (encode_lower x)
unfolding encode_with
clean_hex [] bytes = tt
clean_hex (b ∷ x) bytes =
    let small : b < 256 = bytes.0 in
    ((digit_back (b / 16) (omega arith)).1, ((digit_back (b % 16) (omega arith)).1, clean_hex x bytes.1))

-- and two for each byte
pub length_hex : (x : List ℕ) → length (encode_lower x) ≡ 2 * length x
length_hex x = length-encode_with lower_digits x

-- ---- symbols and patterns

-- how a symbol is spelled
pub data SymbolSpelled (x : Symbol) (l : List ℕ) : Type 0 where
  a_star : x ≡ Star → l ≡ 42 ∷ [] → SymbolSpelled x l
  byte_in_digits : (b : ℕ) → x ≡ Byte b → (b ≡ 42) ⊎ (is_escaped b ≡ true) → l ≡ escape b → SymbolSpelled x l
  byte_as_it_is : (b : ℕ) → x ≡ Byte b → b ≢ 42 → is_escaped b ≡ false → l ≡ b ∷ [] → SymbolSpelled x l

-- each symbol has one of these spellings
pub spelled_symbol : (x : Symbol) → SymbolSpelled x (symbol_text x)
spelled_symbol Star = a_star refl refl
spelled_symbol (Byte b) = go (b == 42) refl
  where
    by_byte : b ≢ 42 → (l : List ℕ) → Spelled b l → SymbolSpelled (Byte b) l
    by_byte differ l (in_digits e is) = byte_in_digits b refl (inr e) is
    by_byte differ l (as_it_is e is) = byte_as_it_is b refl differ e is

    go : (t : Bool) → (b == 42) ≡ t → SymbolSpelled (Byte b) (if t then codes "%2A" else byte_text b)
    go true e = let same : b ≡ 42 = eqb-true b 42 e in byte_in_digits b refl (inl same) (ap escape (sym same))
    go false e = by_byte (λ same. true≢false (ap (λ z. z == 42) (sym same) ∙ e)) (byte_text b) (spelled_byte b)

-- a text begins with the spelling of one symbol
pub one_symbol : (x y : Symbol) (u v : List ℕ) → symbol_text x ++ u ≡ symbol_text y ++ v → (x ≡ y) × (u ≡ v)
one_symbol x y u v e = go (symbol_text x) (symbol_text y) (spelled_symbol x) (spelled_symbol y) e
  where
    first : (b c : ℕ) (k l p q : List ℕ) → p ≡ b ∷ k → q ≡ c ∷ l → p ++ u ≡ q ++ v → (b ≡ c) × (k ++ u ≡ l ++ v)
    first b c k l p q is_p is_q h = cons_parts b c (k ++ u) (l ++ v) (ap (λ z. z ++ u) (sym is_p) ∙ h ∙ ap (λ z. z ++ v) is_q)

    go : (p q : List ℕ) → SymbolSpelled x p → SymbolSpelled y q → p ++ u ≡ q ++ v → (x ≡ y) × (u ≡ v)
    go p q (a_star is_x is_p) (a_star is_y is_q) h = (is_x ∙ sym is_y, (first 42 42 [] [] p q is_p is_q h).1)
    go p q (a_star is_x is_p) (byte_in_digits c is_y how is_q) h = absurd (let same = (first 42 37 [] _ p q is_p is_q h).0 in omega arith)
    go p q (a_star is_x is_p) (byte_as_it_is c is_y differ plain is_q) h = absurd (differ (sym (first 42 c [] [] p q is_p is_q h).0))
    go p q (byte_in_digits b is_x how is_p) (a_star is_y is_q) h = absurd (let same = (first 37 42 _ [] p q is_p is_q h).0 in omega arith)
    go p q (byte_as_it_is b is_x differ plain is_p) (a_star is_y is_q) h = absurd (differ (first b 42 [] [] p q is_p is_q h).0)
    go p q (byte_in_digits b is_x how is_p) (byte_in_digits c is_y how_y is_q) h =
        let same = escape_one b c u v (ap (λ z. z ++ u) (sym is_p) ∙ h ∙ ap (λ z. z ++ v) is_q) in (is_x ∙ ap Byte same.0 ∙ sym is_y, same.1)
    go p q (byte_as_it_is b is_x differ plain is_p) (byte_as_it_is c is_y differ_y plain_y is_q) h =
        let same = first b c [] [] p q is_p is_q h in (is_x ∙ ap Byte same.0 ∙ sym is_y, same.1)
    go p q (byte_in_digits b is_x how is_p) (byte_as_it_is c is_y differ plain is_q) h = absurd (not_37 c (first 37 c _ [] p q is_p is_q h).0 plain)
    go p q (byte_as_it_is b is_x differ plain is_p) (byte_in_digits c is_y how is_q) h = absurd (not_37 b (sym (first b 37 [] _ p q is_p is_q h).0) plain)

-- which is never empty
pub some_symbol : (x : Symbol) (u : List ℕ) → [] ≢ symbol_text x ++ u
some_symbol x u e = go (symbol_text x) (spelled_symbol x) e
  where
    not_nothing : (b : ℕ) (k p : List ℕ) → p ≡ b ∷ k → [] ≢ p ++ u
    not_nothing b k p is h = let f : [] ≡ b ∷ (k ++ u) = h ∙ ap (λ z. z ++ u) is in cc

    go : (p : List ℕ) → SymbolSpelled x p → [] ≡ p ++ u → ⊥
    go p (a_star is_x is) h = not_nothing 42 [] p is h
    go p (byte_in_digits b is_x how is) h = not_nothing 37 _ p is h
    go p (byte_as_it_is b is_x differ plain is) h = not_nothing b [] p is h

-- symbols that were read begin each pattern of the text
pub read_symbols : (xs : List Symbol) (rest : List ℕ) (ys : List Symbol) → flat_map symbol_text xs ++ rest ≡ flat_map symbol_text ys → (more : List Symbol) × (ys ≡ xs ++ more) × (rest ≡ flat_map symbol_text more)
read_symbols [] rest ys e = (ys, refl, e)
read_symbols (x ∷ xs) rest [] e = absurd (some_symbol x (flat_map symbol_text xs ++ rest) (sym e ∙ append_assoc (symbol_text x) (flat_map symbol_text xs) rest))
read_symbols (x ∷ xs) rest (y ∷ ys) e =
    let first = one_symbol x y (flat_map symbol_text xs ++ rest) (flat_map symbol_text ys) (sym (append_assoc (symbol_text x) (flat_map symbol_text xs) rest) ∙ e) in
    let later = read_symbols xs rest ys first.1 in
    (later.0, ap₂ ◌∷◌ (sym first.0) later.1, later.2)

-- a text is of one pattern
pub one_pattern : (xs ys : List Symbol) → flat_map symbol_text xs ≡ flat_map symbol_text ys → xs ≡ ys
one_pattern xs ys e = let r = read_symbols xs [] ys (append-nil (flat_map symbol_text xs) ∙ e) in sym (r.1 ∙ go r.0 r.2)
  where
    go : (more : List Symbol) → [] ≡ flat_map symbol_text more → xs ++ more ≡ xs
    go [] e = append-nil xs
    go (m ∷ more) e = absurd (some_symbol m (flat_map symbol_text more) e)

-- ---- reasons

-- what a reason's text has to tell it by
reason_key : List ℕ → ℕ
reason_key text = 10 * length text + get_or text 0 0

-- the reason that it tells
reason_of_key : ℕ → Reason
reason_of_key n = if n == 155 then reason.Same else if n == 152 then reason.First else if n == 175 then reason.Second
    else if n == 179 then reason.Conflict else if n == 144 then reason.Held else reason.Dir

-- and it tells each
reason_back : (r : Reason) → reason_of_key (reason_key (reason_text r)) ≡ r
unfolding reason_of_key reason_key
reason_back reason.Same = refl
reason_back reason.First = refl
reason_back reason.Second = refl
reason_back reason.Conflict = refl
reason_back reason.Held = refl
reason_back reason.Dir = refl

-- so a text is of one reason
pub one_reason_text : (r q : Reason) → reason_text r ≡ reason_text q → r ≡ q
one_reason_text r q e = sym (reason_back r) ∙ ap (λ z. reason_of_key (reason_key z)) e ∙ reason_back q

-- and is clean
pub clean_reason : (r : Reason) → IsClean (reason_text r)
clean_reason reason.Same = clean_from_test (codes "same") refl
clean_reason reason.First = clean_from_test (codes "first") refl
clean_reason reason.Second = clean_from_test (codes "second") refl
clean_reason reason.Conflict = clean_from_test (codes "conflict") refl
clean_reason reason.Held = clean_from_test (codes "held") refl
clean_reason reason.Dir = clean_from_test (codes "dir") refl
