-- How words, numbers, names and paths are spelled: where a text is cut, and that each of them has one text.
--     IsClean word      no byte up to 32
--     escape b          a byte in two digits, behind `%`
--     Spelled b text    the text is the byte's
use Rattle.std.proofs.Common.{◌≡◌, ◌≢◌, ℕ, ◌+◌, ◌/◌, ◌%◌, ◌^◌, ◌<◌, ◌≤◌, Bool, true, false, ◌&&◌, nat_le, nat_lt, if◌then◌else◌, List, [], ◌∷◌, ◌++◌, length, decimal, refl, sym, ap, ap₂, ◌∙◌, subst, inl, inr, append_assoc, arith}
use Rattle.std.specs.List.{AllByRecursion}
use Rattle.std.specs.Str.Parse.{AllDigits}
use Rattle.std.proofs.lemmas.Bool.{cases_lt, or_parts, and_parts, and_from, le-leb, ltb-true, ltb-false, true≢false}
use Rattle.std.proofs.lemmas.Fmt.{decimal_is_IsNumeral, length-decimal-le}
use Rattle.std.proofs.lemmas.Str.Parse.{tells_digits}
use Rattle.ts_name.specs.Paths.{Name, Path, IsPath, is_escaped, upper_hex_digit, byte_text, name_text, path_text}
use Rattle.ts_name.specs.Escapes.{digits}
use Rattle.ts_name.specs.Buffers.{HasNo}
use Rattle.ts_name.proofs.Buffers.{AreFree, free_from_names, slash_free_from_names}
use Rattle.ts_name.proofs.Utf8.{all_append}

-- ---- cutting a list

-- the parts of equal lists
pub cons_parts : {A : Type 0} (x y : A) (xs ys : List A) → x ∷ xs ≡ y ∷ ys → (x ≡ y) × (xs ≡ ys)
cons_parts x y xs ys e = (cc, cc)

-- what stands before the first such element, and what after it
pub cut_at : {A : Type 0} (c : A) (x y u v : List A) → AllByRecursion (λ b. b ≢ c) x → AllByRecursion (λ b. b ≢ c) y → x ++ c ∷ u ≡ y ++ c ∷ v → (x ≡ y) × (u ≡ v)
cut_at c [] [] u v no_x no_y e = (refl, (cons_parts c c u v e).1)
cut_at c [] (b ∷ y) u v no_x no_y e = absurd (no_y.0 (sym (cons_parts c b u (y ++ c ∷ v) e).0))
cut_at c (b ∷ x) [] u v no_x no_y e = absurd (no_x.0 (cons_parts b c (x ++ c ∷ u) v e).0)
cut_at c (b ∷ x) (d ∷ y) u v no_x no_y e =
    let first = cons_parts b d (x ++ c ∷ u) (y ++ c ∷ v) e in
    let more = cut_at c x y u v no_x.1 no_y.1 first.1 in
    (ap₂ ◌∷◌ first.0 more.0, more.1)

-- without it there is no place to cut
pub no_cut : {A : Type 0} (c : A) (word x u : List A) → AllByRecursion (λ b. b ≢ c) word → word ≢ x ++ c ∷ u
no_cut c [] [] u none e = cc
no_cut c [] (b ∷ x) u none e = cc
no_cut c (d ∷ word) [] u none e = none.0 (cons_parts d c word u e).0
no_cut c (d ∷ word) (b ∷ x) u none e = no_cut c word x u none.1 (cons_parts d b word (x ++ c ∷ u) e).1

-- ---- clean words

-- each byte is above a space
abbrev pub IsClean : List ℕ → Type 0
IsClean word = AllByRecursion (λ b. 32 < b) word

-- a test for them
abbrev pub is_clean : List ℕ → Bool
is_clean [] = true
is_clean (b ∷ x) = nat_lt 32 b && is_clean x

-- that tells them
pub clean_from_test : (x : List ℕ) → is_clean x ≡ true → IsClean x
clean_from_test [] e = tt
clean_from_test (b ∷ x) e = let parts = and_parts (nat_lt 32 b) (is_clean x) e in (ltb-true 32 b parts.0, clean_from_test x parts.1)

-- clean words in a row are clean
pub clean_append : (x y : List ℕ) → IsClean x → IsClean y → IsClean (x ++ y)
clean_append x y clean_x clean_y = all_append (λ b. 32 < b) x y clean_x clean_y

-- no small byte occurs
clean_without : (c : ℕ) → c ≤ 32 → (x : List ℕ) → IsClean x → HasNo c x
clean_without c small [] clean = tt
clean_without c small (b ∷ x) clean = (λ e. omega (arith, clean.0), clean_without c small x clean.1)

-- so there is no space
pub no_space : (x : List ℕ) → IsClean x → HasNo 32 x
no_space x clean = clean_without 32 (omega arith) x clean

-- and no line feed
pub no_feed : (x : List ℕ) → IsClean x → HasNo 10 x
no_feed x clean = clean_without 10 (omega arith) x clean

-- ---- numbers

-- a number is clean
pub clean_decimal : (n : ℕ) → n < 2 ^ 64 → IsClean (decimal n)
clean_decimal n small = go (decimal n) (decimal_is_IsNumeral n small).0.1
  where
    go : (ds : List ℕ) → AllDigits 10 ds → IsClean ds
    go [] all = tt
    go (d ∷ ds) all = let parts = tells_digits.parts d ds all in (omega (arith, parts.0.0), go ds parts.1)

-- and far shorter than a line may be
pub length_number : (n : ℕ) → n < 2 ^ 64 → length (decimal n) ≤ 20
length_number n small = length-decimal-le 20 n (omega arith) (omega arith) small

-- ---- bytes of names

-- a digit is of one number
pub same_digit : (m n : ℕ) → upper_hex_digit m ≡ upper_hex_digit n → m ≡ n
same_digit m n e = go (nat_lt m 10) (nat_lt n 10) refl refl e
  where
    go : (x y : Bool) → nat_lt m 10 ≡ x → nat_lt n 10 ≡ y → (if x then 48 + m else 55 + m) ≡ (if y then 48 + n else 55 + n) → m ≡ n
    go true true h k f = omega arith
    go false false h k f = omega arith
    go true false h k f = absurd (omega (arith, ltb-true m 10 h, ltb-false n 10 k))
    go false true h k f = absurd (omega (arith, ltb-true n 10 k, ltb-false m 10 h))

-- and clean
clean_digit : (n : ℕ) → 32 < upper_hex_digit n
clean_digit n = go (nat_lt n 10)
  where
    go : (x : Bool) → 32 < (if x then 48 + n else 55 + n)
    go true = omega arith
    go false = omega arith

-- a byte in two digits
abbrev pub escape : ℕ → List ℕ
escape b = 37 ∷ digits b

-- a text begins with one escape
pub escape_one : (b c : ℕ) (u v : List ℕ) → escape b ++ u ≡ escape c ++ v → (b ≡ c) × (u ≡ v)
escape_one b c u v e =
    let high : upper_hex_digit (b / 16) ≡ upper_hex_digit (c / 16) = cc in
    let low : upper_hex_digit (b % 16) ≡ upper_hex_digit (c % 16) = cc in
    let same_high = same_digit (b / 16) (c / 16) high in
    let same_low = same_digit (b % 16) (c % 16) low in
    (omega (arith, same_high, same_low), cc)

-- which is clean
pub escape_clean : (b : ℕ) → IsClean (escape b)
escape_clean b = (omega arith, (clean_digit (b / 16), (clean_digit (b % 16), tt)))

-- how a byte is spelled
pub data Spelled (b : ℕ) (spelled : List ℕ) : Type 0 where
  in_digits : is_escaped b ≡ true → spelled ≡ escape b → Spelled b spelled
  as_it_is : is_escaped b ≡ false → spelled ≡ b ∷ [] → Spelled b spelled

-- each byte has one of the two spellings
pub spelled_byte : (b : ℕ) → Spelled b (byte_text b)
spelled_byte b = go (is_escaped b) refl
  where
    go : (x : Bool) → is_escaped b ≡ x → Spelled b (if x then escape b else b ∷ [])
    go true e = in_digits e refl
    go false e = as_it_is e refl

-- a byte that isn't escaped is clean
pub plain_clean : (b : ℕ) → b ≢ 0 → is_escaped b ≡ false → 32 < b
plain_clean b some e = elim (cases_lt 32 b) [
  | inl less ↦ less
  | inr small ↦ absurd (true≢false (sym (and_from (nat_le 1 b) (nat_le b 32) (le-leb 1 b (omega arith)) (le-leb b 32 small)) ∙ (or_parts (nat_le 1 b && nat_le b 32) _ e).0))
]

-- a byte's text is clean
byte_clean : (b : ℕ) → b ≢ 0 → IsClean (byte_text b)
byte_clean b some = go (byte_text b) (spelled_byte b)
  where
    go : (x : List ℕ) → Spelled b x → IsClean x
    go x (in_digits e is) = subst (λ z. IsClean z) (sym is) (escape_clean b)
    go x (as_it_is e is) = subst (λ z. IsClean z) (sym is) (plain_clean b some e, tt)

-- 37, with which an escape begins, is always in digits
pub not_37 : (c : ℕ) → 37 ≡ c → ¬ (is_escaped c ≡ false)
not_37 c same f = true≢false (ap is_escaped same ∙ f)

-- a text begins with the spelling of one byte
pub byte_one : (b c : ℕ) (u v : List ℕ) → byte_text b ++ u ≡ byte_text c ++ v → (b ≡ c) × (u ≡ v)
byte_one b c u v e = go (byte_text b) (byte_text c) (spelled_byte b) (spelled_byte c) e
  where
    go : (x y : List ℕ) → Spelled b x → Spelled c y → x ++ u ≡ y ++ v → (b ≡ c) × (u ≡ v)
    go x y (in_digits e is) (in_digits f is_y) h = escape_one b c u v (ap (λ z. z ++ u) (sym is) ∙ h ∙ ap (λ z. z ++ v) is_y)
    go x y (as_it_is e is) (as_it_is f is_y) h =
        let k : b ∷ u ≡ c ∷ v = ap (λ z. z ++ u) (sym is) ∙ h ∙ ap (λ z. z ++ v) is_y in (cc, cc)
    go x y (in_digits e is) (as_it_is f is_y) h =
        let k : 37 ∷ upper_hex_digit (b / 16) ∷ upper_hex_digit (b % 16) ∷ u ≡ c ∷ v = ap (λ z. z ++ u) (sym is) ∙ h ∙ ap (λ z. z ++ v) is_y in
        let at : 37 ≡ c = cc in absurd (not_37 c at f)
    go x y (as_it_is e is) (in_digits f is_y) h =
        let k : b ∷ u ≡ 37 ∷ upper_hex_digit (c / 16) ∷ upper_hex_digit (c % 16) ∷ v = ap (λ z. z ++ u) (sym is) ∙ h ∙ ap (λ z. z ++ v) is_y in
        let at : 37 ≡ b = cc in absurd (not_37 b at e)

-- ---- paths

-- after a name comes nothing or a slash
first_is_slash : (path : Path) (d : ℕ) (u : List ℕ) → d ≢ 47 → path_text path ≢ d ∷ u
first_is_slash [] d u differ e = cc
first_is_slash (name ∷ path) d u differ e =
    let k : 47 ∷ (name_text name ++ path_text path) ≡ d ∷ u = e in
    let same : 47 ≡ d = cc in differ (sym same)

-- and no byte of a name is spelled like that
not_spelled : (c : ℕ) → c ≢ 47 → (path : Path) (u : List ℕ) → path_text path ≢ byte_text c ++ u
not_spelled c free path u e = go (byte_text c) (spelled_byte c) e
  where
    go : (x : List ℕ) → Spelled c x → path_text path ≡ x ++ u → ⊥
    go x (in_digits f is) h = first_is_slash path 37 (upper_hex_digit (c / 16) ∷ upper_hex_digit (c % 16) ∷ u) (λ k. omega arith) (h ∙ ap (λ z. z ++ u) is)
    go x (as_it_is f is) h = first_is_slash path c u free (h ∙ ap (λ z. z ++ u) is)

-- a text begins with one name
pub one_name : (x y : Name) (p q : Path) → HasNo 47 x → HasNo 47 y → name_text x ++ path_text p ≡ name_text y ++ path_text q → (x ≡ y) × (path_text p ≡ path_text q)
one_name [] [] p q free_x free_y e = (refl, e)
one_name [] (c ∷ y) p q free_x free_y e = absurd (not_spelled c free_y.0 p (name_text y ++ path_text q) (e ∙ append_assoc (byte_text c) (name_text y) (path_text q)))
one_name (b ∷ x) [] p q free_x free_y e = absurd (not_spelled b free_x.0 q (name_text x ++ path_text p) (sym e ∙ append_assoc (byte_text b) (name_text x) (path_text p)))
one_name (b ∷ x) (c ∷ y) p q free_x free_y e =
    let first = byte_one b c (name_text x ++ path_text p) (name_text y ++ path_text q)
    (sym (append_assoc (byte_text b) (name_text x) (path_text p)) ∙ e ∙ append_assoc (byte_text c) (name_text y) (path_text q)) in
    let rest = one_name x y p q free_x.1 free_y.1 first.1 in
    (ap₂ ◌∷◌ first.0 rest.0, rest.1)

-- a text is of one list of names without slashes
pub one_path_text : (p q : Path) → AreFree 47 p → AreFree 47 q → path_text p ≡ path_text q → p ≡ q
one_path_text [] [] free_p free_q e = refl
one_path_text [] (y ∷ q) free_p free_q e = absurd (let k : [] ≡ 47 ∷ (name_text y ++ path_text q) = e in cc)
one_path_text (x ∷ p) [] free_p free_q e = absurd (let k : 47 ∷ (name_text x ++ path_text p) ≡ [] = e in cc)
one_path_text (x ∷ p) (y ∷ q) free_p free_q e =
    let k : 47 ∷ (name_text x ++ path_text p) ≡ 47 ∷ (name_text y ++ path_text q) = e in
    let first = one_name x y p q free_p.0 free_q.0 cc in
    ap₂ ◌∷◌ first.0 (one_path_text p q free_p.1 free_q.1 first.1)

-- so lawful paths with one text are equal
pub one_path : (p q : Path) → IsPath p → IsPath q → path_text p ≡ path_text q → p ≡ q
one_path p q is_p is_q e = one_path_text p q (slash_free_from_names p is_p.names) (slash_free_from_names q is_q.names) e

-- the text of a name without a zero byte is clean
clean_name : (x : Name) → HasNo 0 x → IsClean (name_text x)
clean_name [] free = tt
clean_name (b ∷ x) free = clean_append (byte_text b) (name_text x) (byte_clean b free.0) (clean_name x free.1)

-- and so is that of such names
clean_names : (p : Path) → AreFree 0 p → IsClean (path_text p)
clean_names [] free = tt
clean_names (x ∷ p) free = (omega arith, clean_append (name_text x) (path_text p) (clean_name x free.0) (clean_names p free.1))

-- the text of a path is clean
pub clean_path : (p : Path) → IsPath p → IsClean (path_text p)
clean_path p is = clean_names p (free_from_names p is.names)
