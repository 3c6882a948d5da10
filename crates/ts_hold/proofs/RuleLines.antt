-- A text of rules begins with the line of at most one rule: so it is that of one list of rules, and has no bad line.
use Rattle.std.proofs.Common.{◌≡◌, ◌≢◌, ◌⊎◌, ℕ, ◌≤◌, Bool, true, false, if◌then◌else◌, List, [], ◌∷◌, ◌++◌, map, flat_map, length, refl, sym, ap, ap₂, ◌∙◌, subst, inl, inr, append_assoc, arith, length-append}
use Rattle.std.specs.List.{AllByRecursion}
use Rattle.std.proofs.lemmas.Bool.{true≢false}
use Rattle.std.proofs.lemmas.List.{append-nil}
use Rattle.ts_name.specs.Paths.{Path, is_escaped, byte_text, name_text, path_text}
use Rattle.ts_name.proofs.Spelling.{cut_at, escape, escape_clean, no_cut, no_feed, one_path}
use Rattle.ts_name.proofs.Utf8.{all_append, all_parts}
use Rattle.ts_model.specs.declared.hold.Symbol.{Symbol}
use Rattle.ts_model.specs.declared.hold.Rule.{Rule}
use Rattle.ts_model.specs.declared.hold.Rule.TheVariants.{OnePath, LastName}
use Rattle.ts_model.specs.Texts.{text, symbol_text, rule_line, RuleFits, IsRules, IsRulesText, IsBadLine}
use Rattle.ts_model.proofs.Lines.{no_text, text_cons}
use Rattle.ts_model.proofs.Spelling.{SymbolSpelled, a_star, byte_as_it_is, byte_in_digits, one_pattern, spelled_symbol}
use Rattle.ts_hold.specs.Lines.{HasNoLineFeed, IsNoNamed, StartsWithLine}
use Rattle.ts_hold.specs.declared.faults.HoldFault.{HoldFault}
use Rattle.ts_hold.specs.declared.faults.HoldFault.TheVariants.{OutOfMemory, BadRule}
use Rattle.ts_hold.specs.Rules.{RefusesLine, TellsBadLine, TellsNextLine}

-- ---- no line feed in a rule's line

no_feed_map : {A : Type 0} (f : A → List ℕ) → ((x : A) → HasNoLineFeed (f x)) → (xs : List A) → HasNoLineFeed (flat_map f xs)
no_feed_map f each [] = tt
no_feed_map f each (x ∷ xs) = all_append (λ b. b ≢ 10) (f x) (flat_map f xs) (each x) (no_feed_map f each xs)

-- it is written in digits
plain_no_feed : (b : ℕ) → is_escaped b ≡ false → b ≢ 10
plain_no_feed b plain same = true≢false (ap is_escaped (sym same) ∙ plain)

byte_no_feed : (b : ℕ) → HasNoLineFeed (byte_text b)
byte_no_feed b = go (is_escaped b) refl
  where
    go : (x : Bool) → is_escaped b ≡ x → HasNoLineFeed (if x then escape b else b ∷ [])
    go true e = no_feed (escape b) (escape_clean b)
    go false e = (plain_no_feed b e, tt)

symbol_no_feed : (x : Symbol) → HasNoLineFeed (symbol_text x)
symbol_no_feed x = go (symbol_text x) (spelled_symbol x)
  where
    go : (l : List ℕ) → SymbolSpelled x l → HasNoLineFeed l
    go l (a_star is_x is) = subst (λ z. HasNoLineFeed z) (sym is) ((λ e. omega arith), tt)
    go l (byte_in_digits b is_x how is) = subst (λ z. HasNoLineFeed z) (sym is) (no_feed (escape b) (escape_clean b))
    go l (byte_as_it_is b is_x differ plain is) = subst (λ z. HasNoLineFeed z) (sym is) (plain_no_feed b plain, tt)

path_no_feed : (p : Path) → HasNoLineFeed (path_text p)
path_no_feed p = no_feed_map (λ name. 47 ∷ name_text name) (λ name. ((λ e. omega arith), no_feed_map byte_text byte_no_feed name)) p

-- a rule's line is one line
pub rule_no_feed : (rule : Rule) → HasNoLineFeed (rule_line rule)
rule_no_feed (OnePath path) = ((λ e. omega arith), ((λ e. omega arith), ((λ e. omega arith), ((λ e. omega arith), ((λ e. omega arith), path_no_feed path)))))
rule_no_feed (LastName pattern) = ((λ e. omega arith), ((λ e. omega arith), ((λ e. omega arith), ((λ e. omega arith), ((λ e. omega arith), no_feed_map symbol_text symbol_no_feed pattern)))))

-- ---- one line

-- a line in front of a text
line_first : (line rest : List ℕ) → text (line ∷ []) ++ rest ≡ line ++ 10 ∷ rest
line_first line rest = append_assoc (line ++ 10 ∷ []) [] rest ∙ append_assoc line (10 ∷ []) rest

-- ---- the root

-- no text but the empty one spells the root, and the empty one nothing else
pub nothing_named : (bytes : List ℕ) → length bytes ≡ 0 → IsNoNamed bytes
nothing_named bytes none path named = go path named.some (empty bytes none) named.spelled.1
  where
    empty : (bytes : List ℕ) → length bytes ≡ 0 → bytes ≡ []
    empty [] e = refl
    empty (b ∷ bytes) e = absurd (omega arith)

    go : (path : Path) → path ≢ [] → bytes ≡ [] → bytes ≡ path_text path → ⊥
    go [] some is e = some refl
    go (name ∷ path) some is e = let f : [] ≡ 47 ∷ (name_text name ++ path_text path) = sym is ∙ e in cc

-- ---- one rule

-- the bytes after the five of a rule's word and its space
after_word : (a b c d e f g h i j : ℕ) (u v : List ℕ) → a ∷ b ∷ c ∷ d ∷ e ∷ u ≡ f ∷ g ∷ h ∷ i ∷ j ∷ v → (a ≡ f) × (u ≡ v)
after_word a b c d e f g h i j u v is = (cc, cc)

-- a line is of one rule
one_rule : (x y : Rule) → RuleFits x → RuleFits y → rule_line x ≡ rule_line y → x ≡ y
one_rule (OnePath p) (OnePath q) fits_x fits_y e = ap OnePath (one_path p q fits_x.0 fits_y.0 (after_word 112 97 116 104 32 112 97 116 104 32 (path_text p) (path_text q) e).1)
one_rule (LastName p) (LastName q) fits_x fits_y e =
    ap LastName (one_pattern p q (after_word 110 97 109 101 32 110 97 109 101 32 (flat_map symbol_text p) (flat_map symbol_text q) e).1)
one_rule (OnePath p) (LastName q) fits_x fits_y e = absurd (let same = (after_word 112 97 116 104 32 110 97 109 101 32 (path_text p) (flat_map symbol_text q) e).0 in omega arith)
one_rule (LastName p) (OnePath q) fits_x fits_y e = absurd (let same = (after_word 110 97 109 101 32 112 97 116 104 32 (flat_map symbol_text p) (path_text q) e).0 in omega arith)

-- ---- rules

abbrev AllFit : List Rule → Type 0
AllFit rules = AllByRecursion RuleFits rules

-- the lines of rules, and what follows
abbrev HasRules : List ℕ → List Rule → List ℕ → Type 0
HasRules bytes rules rest = bytes ≡ text (map rule_line rules) ++ rest

-- the first of some rules
rules_first : (x : Rule) (xs : List Rule) (rest : List ℕ) → text (map rule_line (x ∷ xs)) ++ rest ≡ rule_line x ++ 10 ∷ (text (map rule_line xs) ++ rest)
rules_first x xs rest = ap (λ z. z ++ rest) (text_cons (rule_line x) (map rule_line xs)) ∙ append_assoc (rule_line x) (10 ∷ text (map rule_line xs)) rest

-- rules that were read begin all rules of the text
pub read_rules : (xs : List Rule) (rest : List ℕ) (ys : List Rule) → AllFit xs → AllFit ys → text (map rule_line xs) ++ rest ≡ text (map rule_line ys) → (more : List Rule) × (ys ≡ xs ++ more) × (rest ≡ text (map rule_line more))
read_rules [] rest ys fit_x fit_y e = (ys, refl, e)
read_rules (x ∷ xs) rest [] fit_x fit_y e = absurd (no_text (rule_line x) (text (map rule_line xs) ++ rest) (sym (rules_first x xs rest) ∙ e))
read_rules (x ∷ xs) rest (y ∷ ys) fit_x fit_y e =
    let cut = cut_at 10 (rule_line x) (rule_line y) (text (map rule_line xs) ++ rest) (text (map rule_line ys)) (rule_no_feed x) (rule_no_feed y)
    (sym (rules_first x xs rest) ∙ e ∙ text_cons (rule_line y) (map rule_line ys)) in
    let later = read_rules xs rest ys fit_x.1 fit_y.1 cut.1 in
    (later.0, ap₂ ◌∷◌ (sym (one_rule x y fit_x.0 fit_y.0 cut.0)) later.1, later.2)

-- a text is of one list of rules
pub one_rules : (bytes : List ℕ) (xs ys : List Rule) → IsRulesText bytes xs → IsRulesText bytes ys → xs ≡ ys
one_rules bytes xs ys is_x is_y =
    let r = read_rules xs [] ys is_x.rules_fit.each is_y.rules_fit.each (append-nil (text (map rule_line xs)) ∙ sym is_x.spelled ∙ is_y.spelled) in sym (r.1 ∙ go r.0 r.2)
  where
    go : (more : List Rule) → [] ≡ text (map rule_line more) → xs ++ more ≡ xs
    go [] e = append-nil xs
    go (m ∷ more) e = absurd (no_text (rule_line m) (text (map rule_line more)) (sym (e ∙ text_cons (rule_line m) (map rule_line more))))

-- and has no bad line
pub no_bad_line : (bytes : List ℕ) (n : ℕ) (rules : List Rule) → IsBadLine bytes n → ¬ IsRulesText bytes rules
no_bad_line bytes n rules bad is =
    let r = read_rules bad.before bad.rest rules bad.good is.rules_fit.each (sym bad.split ∙ is.spelled) in
    go r.0 r.1 r.2 (subst (λ z. AllFit z) r.1 is.rules_fit.each)
  where
    go : (more : List Rule) → rules ≡ bad.before ++ more → bad.rest ≡ text (map rule_line more) → AllFit (bad.before ++ more) → ⊥
    go [] whole e fit = bad.more e
    go (m ∷ more) whole e fit = elim bad.bad [
      | inl full ↦ omega (arith, is.rules_fit.count, ap length whole, length-append bad.before (m ∷ more))
      | inr none ↦ none m (text (map rule_line more)) (all_parts RuleFits bad.before (m ∷ more) fit).1.0 (e ∙ text_cons (rule_line m) (map rule_line more) ∙ sym (line_first (rule_line m) (text (map rule_line more))))
    ]

-- of two lists of rules in front of a text one begins the other
either_first : (xs : List Rule) (u : List ℕ) (ys : List Rule) (v : List ℕ) → AllFit xs → AllFit ys → text (map rule_line xs) ++ u ≡ text (map rule_line ys) ++ v
    → ((more : List Rule) × (ys ≡ xs ++ more) × (u ≡ text (map rule_line more) ++ v)) ⊎ ((more : List Rule) × (xs ≡ ys ++ more) × (v ≡ text (map rule_line more) ++ u))
either_first [] u ys v fit_x fit_y e = inl (ys, refl, e)
either_first (x ∷ xs) u [] v fit_x fit_y e = inr (x ∷ xs, refl, sym e)
either_first (x ∷ xs) u (y ∷ ys) v fit_x fit_y e =
    let cut = cut_at 10 (rule_line x) (rule_line y) (text (map rule_line xs) ++ u) (text (map rule_line ys) ++ v) (rule_no_feed x) (rule_no_feed y) (sym (rules_first x xs u) ∙ e ∙ rules_first y ys v) in
    let same = one_rule x y fit_x.0 fit_y.0 cut.0 in
    elim (either_first xs u ys v fit_x.1 fit_y.1 cut.1) [
      | inl l ↦ inl (l.0, ap₂ ◌∷◌ (sym same) l.1, l.2)
      | inr l ↦ inr (l.0, ap₂ ◌∷◌ same l.1, l.2)
    ]

-- a bad line isn't after more rules
no_more : (bytes : List ℕ) (m : ℕ) (bad : IsBadLine bytes m) (more : List Rule) (v : List ℕ) → length (bad.before ++ more) ≤ 4096 → AllFit (bad.before ++ more) → bad.rest ≡ text (map rule_line more) ++ v
    → length (bad.before ++ more) ≡ length bad.before
no_more bytes m bad [] v few fit e = ap length (append-nil bad.before)
no_more bytes m bad (r ∷ more) v few fit e = absurd (elim bad.bad [
  | inl full ↦ omega (arith, length-append bad.before (r ∷ more))
  | inr none ↦ none r (text (map rule_line more) ++ v) (all_parts RuleFits bad.before (r ∷ more) fit).1.0 (e ∙ rules_first r more v ∙ sym (line_first (rule_line r) (text (map rule_line more) ++ v)))
])

-- a text has one bad line
pub one_bad_line : (bytes : List ℕ) (m n : ℕ) → IsBadLine bytes m → IsBadLine bytes n → m ≡ n
one_bad_line bytes m n bad_m bad_n = elim (either_first bad_m.before bad_m.rest bad_n.before bad_n.rest bad_m.good bad_n.good (sym bad_m.split ∙ bad_n.split)) [
  | inl l ↦
      let same = no_more bytes m bad_m l.0 bad_n.rest (subst (λ z. length z ≤ 4096) l.1 bad_n.few) (subst (λ z. AllFit z) l.1 bad_n.good) l.2 in
      omega (arith, bad_m.number, bad_n.number, same, ap length l.1)
  | inr l ↦
      let same = no_more bytes n bad_n l.0 bad_m.rest (subst (λ z. length z ≤ 4096) l.1 bad_m.few) (subst (λ z. AllFit z) l.1 bad_m.good) l.2 in
      omega (arith, bad_m.number, bad_n.number, same, ap length l.1)
]

-- ---- what the reader tells

some_rest : (rest : List ℕ) → length rest ≢ 0 → rest ≢ []
some_rest rest some e = some (ap length e)

-- what follows the rules has no line feed
pub unended_line : (bytes : List ℕ) (rules : List Rule) (rest : List ℕ) (fault : HoldFault) → HasRules bytes rules rest → IsRules rules → length rest ≢ 0 → HasNoLineFeed rest
    → TellsNextLine rules fault → TellsBadLine bytes fault
unended_line bytes rules rest OutOfMemory has lawful some lacks tells = tt
unended_line bytes rules rest (BadRule n) has lawful some lacks tells = record {
  before = rules;
  rest = rest;
  good = lawful.each;
  number = tells;
  few = lawful.count;
  split = has;
  more = some_rest rest some;
  bad = inr (λ rule end fits is. no_cut 10 rest (rule_line rule) end lacks (is ∙ line_first (rule_line rule) end));
}

-- the line after the rules was refused
pub refused_line : (bytes : List ℕ) (rules : List Rule) (rest line after : List ℕ) (fault : HoldFault) → HasRules bytes rules rest → IsRules rules → length rest ≢ 0 → StartsWithLine rest line after
    → RefusesLine rules line fault → TellsBadLine bytes fault
refused_line bytes rules rest line after OutOfMemory has lawful some starts refuses = tt
refused_line bytes rules rest line after (BadRule n) has lawful some starts refuses = record {
  before = rules;
  rest = rest;
  good = lawful.each;
  number = refuses.0;
  few = lawful.count;
  split = has;
  more = some_rest rest some;
  bad = elim refuses.1 [
    | inl full ↦ inl full
    | inr none ↦ inr (λ rule end fits is.
        let cut = cut_at 10 line (rule_line rule) after end starts.one (rule_no_feed rule) (sym starts.split ∙ is ∙ line_first (rule_line rule) end) in
        none rule (record { fits = fits; spelled = cut.0 }))
  ];
}

-- nothing follows the rules
pub whole_text : (bytes : List ℕ) (rules : List Rule) (rest : List ℕ) → HasRules bytes rules rest → IsRules rules → length rest ≡ 0 → IsRulesText bytes rules
whole_text bytes rules [] has lawful none = record { rules_fit = lawful; spelled = has ∙ append-nil (text (map rule_line rules)) }
whole_text bytes rules (b ∷ rest) has lawful none = absurd (omega arith)

-- a text of rules is refused only because memory ran out
pub only_memory : (bytes : List ℕ) (fault : HoldFault) (rules : List Rule) → TellsBadLine bytes fault → IsRulesText bytes rules → fault ≡ OutOfMemory
only_memory bytes OutOfMemory rules tells is = refl
only_memory bytes (BadRule n) rules tells is = absurd (no_bad_line bytes n rules tells is)
