-- Whether a text is lines of words, and whether a word spells a number, bytes, or a path.
use Rattle.std.proofs.Common.{◌≡◌, ◌≢◌, ◌⊎◌, ℕ, ◌/◌, ◌%◌, ◌<◌, ◌≤◌, true, false, ◌&&◌, ◌==◌, nat_le, List, [], ◌∷◌, ◌++◌, length, drop, sum_by, codes, decimal, slice_index, refl, sym, ap, ap₂, ◌∙◌, subst, inl, inr, append_assoc, arith, eqb-true}
use Rattle.std.specs.Str.{IsUtf8, is_utf8}
use Rattle.std.proofs.lemmas.Bool.{true≢false, cases_Bool, or_cases, and_parts, leb-true}
use Rattle.std.proofs.lemmas.Str.{IsUtf8-from_is_utf8, is_utf8-from_IsUtf8}
use Rattle.std.proofs.Math.Decide.{map_dec}
use Rattle.hex.specs.Hex.{encode_with, encode_lower, lower_digits}
use Rattle.ts_name.specs.Paths.{Name, Path, IsName, IsPath, is_escaped, byte_text, name_text, path_text}
use Rattle.ts_name.specs.Buffers.{HasNo}
use Rattle.ts_name.proofs.Buffers.{AreFree, slash_free_from_names}
use Rattle.ts_model.specs.Texts.{words, IsBytes, PathFits}
use Rattle.ts_laws.proofs.Basics.{Dec-both, Dec-not}
use Rattle.ts_laws.proofs.Search.{decide_less, decide_at_most, decide_number, decide_each, decide_empty, decide_true}
use Rattle.ts_model.proofs.Spelling.{one_hex}
use Rattle.ts_model.proofs.Lines.{no_text}
use Rattle.ts_name.proofs.Spelling.{Spelled, in_digits, as_it_is, escape, spelled_byte, one_name, one_path, one_path_text}
use Rattle.ts_text_laws.proofs.Words.{Words, AreLines, spell}
use Rattle.ts_model.proofs.Deciding.{same_list, same_names, same_number}

-- ---- lines

-- the text is these lines'
abbrev pub AreLinesOf : List ℕ → List Words → Type 0
AreLinesOf bytes lines = AreLines lines × (bytes ≡ spell lines)

-- how a text of lines begins: its first line ends, or a word of it goes on
pub data Begins (x : ℕ) (xs : List ℕ) : Type 0 where
  line_ends : x ≡ 10 → (lines : List Words) → AreLinesOf xs lines → Begins x xs
  line_goes_on : 32 ≤ x → (line : Words) (lines : List Words) → AreLinesOf xs (line ∷ lines) → Begins x xs

-- each does so
begins : (x : ℕ) (xs : List ℕ) (lines : List Words) → AreLinesOf (x ∷ xs) lines → Begins x xs
begins x xs [] (are, e) = absurd cc
begins x xs ([] ∷ lines) (are, e) = absurd are.0
begins x xs (([] ∷ []) ∷ lines) (are, e) = line_ends (cc) lines (are.1, cc)
begins x xs (((y ∷ w) ∷ []) ∷ lines) (are, e) =
    let same : x ≡ y = cc in
    line_goes_on (omega (arith, same, are.0.0)) (w ∷ []) lines ((are.0.1, are.1), cc)
begins x xs (([] ∷ v ∷ ws) ∷ lines) (are, e) =
    let same : x ≡ 32 = cc in
    line_goes_on (omega (arith, same)) (v ∷ ws) lines ((are.0.1, are.1), cc)
begins x xs (((y ∷ w) ∷ v ∷ ws) ∷ lines) (are, e) =
    let same : x ≡ y = cc in
    line_goes_on (omega (arith, same, are.0.0.0)) (w ∷ v ∷ ws) lines (((are.0.0.1, are.0.1), are.1), cc)

-- whether a text is lines', from whether the text after its first byte is
one_byte_more : (x : ℕ) (xs : List ℕ) → Dec ((lines : List Words) × AreLinesOf xs lines) → Dec ((lines : List Words) × AreLinesOf (x ∷ xs) lines)
one_byte_more x xs (no n) = no (λ h. elim (begins x xs h.0 h.1) [ line_ends e lines are ↦ n (lines, are) | line_goes_on e line lines are ↦ n (line ∷ lines, are) ])
one_byte_more x xs (yes (lines, (are, e))) = by_byte (same_number x 10) (same_number x 32) (decide_less 32 x) lines are e
  where
    no_end : (lines : List Words) (line : Words) (more : List Words) → spell [] ≡ spell (line ∷ more) → ⊥
    no_end lines line more f = no_text (words line) (spell more) (sym f)

    -- the first line's first word has one byte more
    longer : 32 < x → (lines : List Words) → AreLines lines → xs ≡ spell lines → Dec ((lines : List Words) × AreLinesOf (x ∷ xs) lines)
    longer large [] are e = no (λ h. elim (begins x xs h.0 h.1) [
      | line_ends same more is ↦ omega (arith, large)
      | line_goes_on above line more is ↦ no_end [] line more (sym e ∙ is.1)
    ])
    longer large ([] ∷ lines) are e = absurd are.0
    longer large ((w ∷ []) ∷ lines) are e = yes (((x ∷ w) ∷ []) ∷ lines, (((large, are.0), are.1), ap (λ z. x ∷ z) e))
    longer large ((w ∷ v ∷ ws) ∷ lines) are e = yes (((x ∷ w) ∷ v ∷ ws) ∷ lines, ((((large, are.0.0), are.0.1), are.1), ap (λ z. x ∷ z) e))

    -- the first line has one word more
    wider : x ≡ 32 → (lines : List Words) → AreLines lines → xs ≡ spell lines → Dec ((lines : List Words) × AreLinesOf (x ∷ xs) lines)
    wider space [] are e = no (λ h. elim (begins x xs h.0 h.1) [
      | line_ends same more is ↦ omega (arith, space, same)
      | line_goes_on above line more is ↦ no_end [] line more (sym e ∙ is.1)
    ])
    wider space ([] ∷ lines) are e = absurd are.0
    wider space ((w ∷ ws) ∷ lines) are e = yes (([] ∷ w ∷ ws) ∷ lines, (((tt, are.0), are.1), ap₂ ◌∷◌ space e))

    by_byte : Dec (x ≡ 10) → Dec (x ≡ 32) → Dec (32 < x) → (lines : List Words) → AreLines lines → xs ≡ spell lines → Dec ((lines : List Words) × AreLinesOf (x ∷ xs) lines)
    by_byte (yes same) space large lines are e = yes (([] ∷ []) ∷ lines, ((tt, are), ap₂ ◌∷◌ same e))
    by_byte (no n) (yes space) large lines are e = wider space lines are e
    by_byte (no n) (no m) (yes large) lines are e = longer large lines are e
    by_byte (no n) (no m) (no k) lines are e = no (λ h. elim (begins x xs h.0 h.1) [
      | line_ends same more is ↦ n same
      | line_goes_on above line more is ↦ k (omega (arith, m, above))
    ])

-- whether a text is lines of words
pub decide_lines : (bytes : List ℕ) → Dec ((lines : List Words) × AreLinesOf bytes lines)
decide_lines [] = yes ([], (tt, refl))
decide_lines (x ∷ xs) = one_byte_more x xs (decide_lines xs)

-- ---- parts of a line

-- the line is a word with one fact, and more words with another
abbrev pub BeginsWith : (List ℕ → Type 0) → (Words → Type 0) → Words → Type 0
BeginsWith P R line = (w : List ℕ) × (more : Words) × (line ≡ w ∷ more) × P w × R more

-- whether it is
pub decide_begins : (P : List ℕ → Type 0) (R : Words → Type 0) → ((w : List ℕ) → Dec (P w)) → ((more : Words) → Dec (R more)) → (line : Words) → Dec (BeginsWith P R line)
decide_begins P R p r [] = no (λ h. let e = h.2 in cc)
decide_begins P R p r (w ∷ more) = map_dec
    (λ h. (w, more, refl, h.0, h.1))
    (λ h. (let e : h.0 ≡ w = (let f = h.2 in cc) in subst P e h.3, (let e : h.1 ≡ more = (let f = h.2 in cc) in subst R e h.4)))
    (Dec-both (p w) (r more))

-- whether a word is this one
pub decide_word : (w v : List ℕ) → Dec (w ≡ v)
decide_word = same_list same_number

-- whether a line is a key and a word that spells something
pub decide_keyed : {A : Type 0} (Is : A → Type 0) (spelled : A → List ℕ) → ((w : List ℕ) → Dec ((x : A) × Is x × (w ≡ spelled x))) → (key : List ℕ) (line : Words)
    → Dec ((x : A) × Is x × (line ≡ key ∷ spelled x ∷ []))
decide_keyed {A} Is spelled d key line = map_dec
    (λ h. let second = h.4 in (second.3.0, second.3.1, (let a = h.2 in let b = h.3 in let c = second.2 in let d = second.3.2 in let e = second.4 in cc)))
    (λ h. (key, spelled h.0 ∷ [], h.2, refl, (spelled h.0, [], refl, (h.0, h.1, refl), refl)))
    (decide_begins (λ w. w ≡ key) (BeginsWith IsSpelled (λ more. more ≡ [])) (λ w. decide_word w key) (decide_begins IsSpelled (λ more. more ≡ []) d decide_empty) line)
  where
    IsSpelled : List ℕ → Type 0
    IsSpelled w = (x : A) × Is x × (w ≡ spelled x)

-- ---- numbers and bytes

-- whether a word spells a number below a bound
pub decide_decimal : (bound : ℕ) (word : List ℕ) → Dec ((n : ℕ) × (n < bound) × (word ≡ decimal n))
decide_decimal bound word = decide_number (λ n. word ≡ decimal n) (λ n. decide_word word (decimal n)) bound

-- whether a word spells bytes in digits
pub decide_hex : (word : List ℕ) → Dec ((bytes : List ℕ) × IsBytes bytes × (word ≡ encode_lower bytes))
unfolding encode_with
decide_hex [] = yes ([], tt, refl)
decide_hex (c ∷ []) = no (λ h. go h.0 h.2)
  where
    go : (bytes : List ℕ) → c ∷ [] ≢ encode_lower bytes
    go [] e = cc
    go (b ∷ bytes) e = cc
decide_hex (c ∷ d ∷ word) = go (decide_number (λ b. (c ≡ slice_index lower_digits (b / 16)) × (d ≡ slice_index lower_digits (b % 16)))
    (λ b. Dec-both (same_number c (slice_index lower_digits (b / 16))) (same_number d (slice_index lower_digits (b % 16)))) 256) (decide_hex word)
  where
    Digits : ℕ → Type 0
    Digits b = (c ≡ slice_index lower_digits (b / 16)) × (d ≡ slice_index lower_digits (b % 16))

    first : (bytes : List ℕ) → IsBytes bytes → c ∷ d ∷ word ≡ encode_lower bytes
        → ((b : ℕ) × (b < 256) × Digits b) × ((bytes : List ℕ) × IsBytes bytes × (word ≡ encode_lower bytes))
    first [] are e = absurd cc
    first (b ∷ bytes) are e = ((b, are.0, (cc, cc)), (bytes, are.1, cc))

    go : Dec ((b : ℕ) × (b < 256) × Digits b) → Dec ((bytes : List ℕ) × IsBytes bytes × (word ≡ encode_lower bytes)) → Dec ((bytes : List ℕ) × IsBytes bytes × (c ∷ d ∷ word ≡ encode_lower bytes))
    go (no n) more = no (λ h. n (first h.0 h.1 h.2).0)
    go (yes b) (no n) = no (λ h. n (first h.0 h.1 h.2).1)
    go (yes (b, less, digits)) (yes (bytes, are, e)) = yes (b ∷ bytes, (less, are), (let high = digits.0 in let low = digits.1 in cc))

-- whether a word spells bytes with a decided fact
pub decide_bytes : (P : List ℕ → Type 0) → ((bytes : List ℕ) → Dec (P bytes)) → (word : List ℕ) → Dec ((bytes : List ℕ) × (IsBytes bytes × P bytes) × (word ≡ encode_lower bytes))
decide_bytes P d word = elim (decide_hex word) [
  | no n ↦ no (λ h. n (h.0, h.1.0, h.2))
  | yes found ↦ elim (d found.0) [
    | yes h ↦ yes (found.0, (found.1, h), found.2)
    | no n ↦ no (λ h. n (subst P (one_hex h.0 found.0 h.1.0 found.1 (sym h.2 ∙ found.2)) h.1.1))
  ]
]

-- ---- bytes that may be escaped

-- what holds of the text after a byte and of that after an escape is carried over a text
pub by_three : (P : List ℕ → Type 0) → P [] → ((c : ℕ) (text : List ℕ) → P text → P (drop 2 text) → P (c ∷ text)) → (text : List ℕ) → P text
by_three P base step [] = base
by_three P base step (c ∷ []) = step c [] base base
by_three P base step (c ∷ h ∷ []) = step c (h ∷ []) (by_three P base step (h ∷ [])) base
by_three P base step (c ∷ h ∷ l ∷ text) = step c (h ∷ l ∷ text) (by_three P base step (h ∷ l ∷ text)) (by_three P base step text)

-- a text begins with the escape of a byte with this fact
abbrev pub EscapeOf : (ℕ → Type 0) → List ℕ → ℕ → Type 0
EscapeOf P text b = P b × (text ≡ escape b ++ drop 3 text)

-- whether it does
pub decide_escape : (P : ℕ → Type 0) → ((b : ℕ) → Dec (P b)) → ((b : ℕ) → P b → b < 256) → (text : List ℕ) → Dec ((b : ℕ) × EscapeOf P text b)
decide_escape P d small text = map_dec
    (λ h. (h.0, (h.2.0, h.2.1)))
    (λ h. (h.0, small h.0 h.1.0, (h.1.0, h.1.1)))
    (decide_number (λ b. P b × (text ≡ escape b ++ drop 3 text)) (λ b. Dec-both (d b) (decide_word text (escape b ++ drop 3 text))) 256)

-- ---- paths

-- a byte that is escaped, and no slash
abbrev IsEscapedByte : ℕ → Type 0
IsEscapedByte b = (is_escaped b ≡ true) × (b ≢ 47)

-- escaped bytes are small
escaped_small : (b : ℕ) → is_escaped b ≡ true → b < 256
escaped_small b e = elim (or_cases (nat_le 1 b && nat_le b 32) _ e) [
  | inl low ↦ (let le = leb-true b 32 (and_parts (nat_le 1 b) (nat_le b 32) low).1 in omega (arith, le))
  | inr high ↦ elim (or_cases (b == 127) (b == 37) high) [
    | inl f ↦ (let same = eqb-true b 127 f in omega (arith, same))
    | inr f ↦ (let same = eqb-true b 37 f in omega (arith, same))
  ]
]

-- whether a byte is one
decide_escaped_byte : (b : ℕ) → Dec (IsEscapedByte b)
decide_escaped_byte b = Dec-both (decide_true (is_escaped b)) (Dec-not (same_number b 47))

-- the text is the rest of a name and more names
abbrev AreNamesOf : List ℕ → Name → Path → Type 0
AreNamesOf text name path = HasNo 47 name × AreFree 47 path × (text ≡ name_text name ++ path_text path)

-- there are such
HasNames : List ℕ → Type 0
HasNames text = (name : Name) × (path : Path) × AreNamesOf text name path

-- how such a text begins
data NameBegins (c : ℕ) (text : List ℕ) : Type 0 where
  next_name : c ≡ 47 → HasNames text → NameBegins c text
  an_escape : (b : ℕ) → EscapeOf IsEscapedByte (c ∷ text) b → HasNames (drop 2 text) → NameBegins c text
  a_byte : is_escaped c ≡ false → c ≢ 47 → HasNames text → NameBegins c text

-- each does so
name_begins : (c : ℕ) (text : List ℕ) → HasNames (c ∷ text) → NameBegins c text
unfolding HasNames
name_begins c text ([], [], (none, free, e)) = absurd cc
name_begins c text ([], name ∷ path, (none, free, e)) = next_name (cc) (name, path, (free.0, free.1, cc))
name_begins c text (b ∷ name, path, (none, free, e)) = go (byte_text b) (spelled_byte b) (e ∙ append_assoc (byte_text b) (name_text name) (path_text path))
  where
    go : (x : List ℕ) → Spelled b x → c ∷ text ≡ x ++ (name_text name ++ path_text path) → NameBegins c text
    go x (as_it_is f is) g =
        let h : c ∷ text ≡ b ∷ (name_text name ++ path_text path) = g ∙ ap (λ z. z ++ (name_text name ++ path_text path)) is in
        let same : b ≡ c = cc in
        a_byte (ap is_escaped (sym same) ∙ f) (subst (λ z. z ≢ 47) same none.0) (name, path, (none.1, free, cc))
    go x (in_digits f is) g =
        let h : c ∷ text ≡ escape b ++ (name_text name ++ path_text path) = g ∙ ap (λ z. z ++ (name_text name ++ path_text path)) is in
        let rest : drop 3 (c ∷ text) ≡ name_text name ++ path_text path = ap (drop 3) h in
        an_escape b ((f, none.0), h ∙ ap (λ z. escape b ++ z) (sym rest)) (name, path, (none.1, free, rest))

-- a byte's own text
plain_text : (c : ℕ) → is_escaped c ≡ false → byte_text c ≡ c ∷ []
plain_text c e = go (byte_text c) (spelled_byte c)
  where
    go : (x : List ℕ) → Spelled c x → x ≡ c ∷ []
    go x (as_it_is f is) = is
    go x (in_digits f is) = absurd (true≢false (sym f ∙ e))

-- and an escaped one's
escaped_text : (c : ℕ) → is_escaped c ≡ true → byte_text c ≡ escape c
escaped_text c e = go (byte_text c) (spelled_byte c)
  where
    go : (x : List ℕ) → Spelled c x → x ≡ escape c
    go x (as_it_is f is) = absurd (true≢false (sym e ∙ f))
    go x (in_digits f is) = is

-- whether a text is names, from whether the text after its first byte or escape is
one_more_name : (c : ℕ) (text : List ℕ) → Dec (HasNames text) → Dec (HasNames (drop 2 text)) → Dec (HasNames (c ∷ text))
unfolding HasNames
one_more_name c text more far = go (same_number c 47) (cases_Bool (is_escaped c)) (decide_escape IsEscapedByte decide_escaped_byte (λ b h. escaped_small b h.0) (c ∷ text)) more far
  where
    Names : List ℕ → Type 0
    Names t = (name : Name) × (path : Path) × AreNamesOf t name path

    Slash : Type 0
    Slash = Dec (c ≡ 47)

    -- an escape's first byte is 37
    first_is_37 : (b : ℕ) → EscapeOf IsEscapedByte (c ∷ text) b → c ≡ 37
    first_is_37 b h = let e = h.1 in cc

    escaped_37 : is_escaped 37 ≡ true
    escaped_37 = refl

    not_plain : (b : ℕ) → EscapeOf IsEscapedByte (c ∷ text) b → is_escaped c ≡ false → ⊥
    not_plain b h e = true≢false (sym escaped_37 ∙ ap is_escaped (sym (first_is_37 b h)) ∙ e)

    with_escape : (b : ℕ) → EscapeOf IsEscapedByte (c ∷ text) b → Names (drop 2 text) → Names (c ∷ text)
    with_escape b h (name, path, (none, free, e)) = (
      b ∷ name,
      path,
      (
        (h.0.1, none),
        free,
        h.1 ∙ ap₂ ◌++◌ (sym (escaped_text b h.0.0)) e ∙ sym (append_assoc (byte_text b) (name_text name) (path_text path)),
      ),
    )

    with_byte : is_escaped c ≡ false → c ≢ 47 → Names text → Names (c ∷ text)
    with_byte f ok (name, path, (none, free, e)) = (
      c ∷ name,
      path,
      (
        (ok, none),
        free,
        ap₂ ◌++◌ (sym (plain_text c f)) e ∙ sym (append_assoc (byte_text c) (name_text name) (path_text path)),
      ),
    )

    with_slash : c ≡ 47 → Names text → Names (c ∷ text)
    with_slash same (name, path, (none, free, e)) = ([], name ∷ path, (tt, (none, free), ap₂ ◌∷◌ same e))

    go : Slash → (is_escaped c ≡ true) ⊎ (is_escaped c ≡ false) → Dec ((b : ℕ) × EscapeOf IsEscapedByte (c ∷ text) b) → Dec (Names text) → Dec (Names (drop 2 text)) → Dec (Names (c ∷ text))
    go (yes same) escaped found (yes h) far = yes (with_slash same h)
    go (yes same) escaped found (no n) far = no (λ h. elim (name_begins c text h) [
      | next_name f m ↦ n m
      | an_escape b f m ↦ (let at = first_is_37 b f in omega (arith, same))
      | a_byte f ok m ↦ ok same
    ])
    go (no slash) (inl escaped) (no none) more far = no (λ h. elim (name_begins c text h) [
      | next_name f m ↦ slash f
      | an_escape b f m ↦ none (b, f)
      | a_byte f ok m ↦ true≢false (sym escaped ∙ f)
    ])
    go (no slash) (inl escaped) (yes found) more (yes h) = yes (with_escape found.0 found.1 h)
    go (no slash) (inl escaped) (yes found) more (no n) = no (λ h. elim (name_begins c text h) [
      | next_name f m ↦ slash f
      | an_escape b f m ↦ n m
      | a_byte f ok m ↦ true≢false (sym escaped ∙ f)
    ])
    go (no slash) (inr plain) found (yes h) far = yes (with_byte plain slash h)
    go (no slash) (inr plain) found (no n) far = no (λ h. elim (name_begins c text h) [
      | next_name f m ↦ slash f
      | an_escape b f m ↦ not_plain b f plain
      | a_byte f ok m ↦ n m
    ])

-- whether a text is the rest of a name and more names
decide_names : (text : List ℕ) → Dec (HasNames text)
unfolding HasNames
decide_names text = by_three (λ t. Dec (HasNames t)) (yes ([], [], (tt, tt, refl))) one_more_name text

-- whether bytes are a name
pub decide_is_name : (name : Name) → Dec (IsName name)
decide_is_name name = map_dec
    (λ h. record { utf8 = h.0; some = h.1.0; short = h.1.1.0; plain = h.1.1.1.0; not_here = h.1.1.1.1.0; not_parent = h.1.1.1.1.1.0; not_reserved = h.1.1.1.1.1.1 })
    (λ (h : IsName name). (h.utf8, (h.some, (h.short, (h.plain, (h.not_here, (h.not_parent, h.not_reserved)))))))
    (Dec-both utf8 (Dec-both (decide_less 0 (length name)) (Dec-both (decide_at_most (length name) 255)
    (Dec-both (decide_each (λ b. (b ≢ 47) × (b ≢ 0)) (λ b. Dec-both (Dec-not (same_number b 47)) (Dec-not (same_number b 0))) name)
    (Dec-both (Dec-not (decide_word name (codes "."))) (Dec-both (Dec-not (decide_word name (codes ".."))) (Dec-not (decide_word name (codes ".twosync")))))))))
  where
    utf8 : Dec (IsUtf8 name)
    utf8 = elim (cases_Bool (is_utf8 name)) [
      | inl e ↦ yes (IsUtf8-from_is_utf8 name e)
      | inr e ↦ no (λ h. true≢false (sym (is_utf8-from_IsUtf8 name h) ∙ e))
    ]

-- whether names are a path
pub decide_is_path : (path : Path) → Dec (IsPath path)
decide_is_path path = map_dec
    (λ h. record { names = h.0; depth = h.1.0; size = h.1.1 })
    (λ (h : IsPath path). (h.names, (h.depth, h.size)))
    (Dec-both (decide_each IsName decide_is_name path) (Dec-both (decide_at_most (length path) 64) (decide_at_most (sum_by length path) 4096)))

-- whether a word spells a path
pub decide_path : (word : List ℕ) → Dec ((path : Path) × IsPath path × (word ≡ path_text path))
unfolding HasNames
decide_path word = go (decide_names word)
  where
    go : Dec ((name : Name) × (path : Path) × AreNamesOf word name path) → Dec ((path : Path) × IsPath path × (word ≡ path_text path))
    go (no n) = no (λ h. n ([], h.0, (tt, slash_free_from_names h.0 h.1.names, h.2)))
    go (yes (b ∷ name, path, (none, free, e))) = no (λ h.
        let same = (one_name [] (b ∷ name) h.0 path tt none (sym h.2 ∙ e)).0 in cc)
    go (yes ([], path, (none, free, e))) = elim (decide_is_path path) [
      | yes is ↦ yes (path, is, e)
      | no n ↦ no (λ h. n (subst IsPath (one_path_text h.0 path (slash_free_from_names h.0 h.1.names) free (sym h.2 ∙ e)) h.1))
    ]

-- whether a word spells a path that isn't the root
pub decide_fit_path : (word : List ℕ) → Dec ((path : Path) × PathFits path × (word ≡ path_text path))
decide_fit_path word = elim (decide_path word) [
  | no n ↦ no (λ h. n (h.0, h.1.0, h.2))
  | yes found ↦ elim (same_names found.0 []) [
    | yes root ↦ no (λ h. h.1.1 (one_path h.0 found.0 h.1.0 found.1 (sym h.2 ∙ found.2) ∙ root))
    | no n ↦ yes (found.0, (found.1, n), found.2)
  ]
]
