-- Keys of rules: each path that a rule names has the rule's key, so that no path is missed.
use Rattle.std.proofs.Common.{◌≡◌, ◌≢◌, ◌⊎◌, Bool, true, false, Result, Ok, Err, ℕ, ◌+◌, ◌<◌, ◌≤◌, List, [], ◌∷◌, ◌++◌, Option, Some, None}
use Rattle.std.proofs.Common.{length, map, take, drop, get_or, sum_by, below_more, refl, sym, ap, ◌∙◌, subst, inl, inr, append_assoc, arith, length-append}
use Rattle.std.specs.Prelude.{if◌then◌else◌, IsOk, MatchOption, OnErr, OnOk}
use Rattle.std.specs.Option.{option_to_list}
use Rattle.std.specs.Result.{MatchResult, is_err, is_ok}
use Rattle.std.specs.Bool.{MatchBool}
use Rattle.std.proofs.lemmas.Bool.{cases_lt, false≢true}
use Rattle.std.specs.List.{insert}
use Rattle.std.proofs.lemmas.List.{take_at, take_more, drop_at, length_push, get_or_push, get_or_append_left, get_or_default, same_from_push}
use Rattle.ts_name.specs.Paths.{Name, Path}
use Rattle.ts_model.specs.declared.hold.Symbol.{Symbol}
use Rattle.ts_model.specs.declared.hold.Symbol.TheVariants.{Star, Byte}
use Rattle.ts_model.specs.declared.hold.Rule.{Rule}
use Rattle.ts_model.specs.declared.hold.Rule.TheVariants.{OnePath, LastName}
use Rattle.ts_model.specs.Holds.{Fits, Names, RuleNames}
use Rattle.ts_model.specs.Texts.{IsRules, RuleFits}
use Rattle.ts_name.proofs.Utf8.{all_append}
use Rattle.ts_hold.specs.Mixing.{mixed}
use Rattle.ts_hold.specs.Keys.{front_key, end_key, last_key, path_key, NameHasKey, IsKeyOf, AreKeys, IsFrontKey, IsEndKey, IsPatternKey, NoneNames, NoPathNames}
use Rattle.ts_hold.specs.Windows.{IsMore}
use Rattle.ts_hold.specs.declared.windows.Sizes.{Sizes}
use Rattle.ts_hold.specs.Orders.{IsOrder, IsThere, IsPlace, NeedsPlace, NeedsNoPlace, rule_at}
use Rattle.ts_hold.proofs.Fitting.{begins}
use Rattle.ts_hold.proofs.Orders.{none_there, order_kept, order_more, there_names}

-- ---- one byte more

pub front_key_push : (before : ℕ) (bytes : Name) (b : ℕ) → front_key before (bytes ++ b ∷ []) ≡ mixed (front_key before bytes) b
front_key_push before [] b = refl
front_key_push before (x ∷ bytes) b = front_key_push (mixed before x) bytes b

pub map_push_byte : (front : Name) (b : ℕ) → map Byte (front ++ b ∷ []) ≡ map Byte front ++ Byte b ∷ []
map_push_byte [] b = refl
map_push_byte (x ∷ front) b = ap (λ z. Byte x ∷ z) (map_push_byte front b)

pub front_more : (pattern : List Symbol) (key b new : ℕ) (symbol : Symbol) (rest after : List Symbol) → IsFrontKey pattern key rest
    → rest ≡ symbol ∷ after → symbol ≡ Byte b → new ≡ mixed key b → IsFrontKey pattern new after
front_more pattern key b new symbol rest after found is is_byte more = record {
  front = found.front ++ b ∷ [];
  pattern_is = found.pattern_is ∙ ap (λ z. map Byte found.front ++ z) (is ∙ ap (λ z. z ∷ after) is_byte)
      ∙ sym (ap (λ z. z ++ after) (map_push_byte found.front b) ∙ append_assoc (map Byte found.front) (Byte b ∷ []) after);
  key_is = more ∙ ap (λ z. mixed z b) found.key_is ∙ sym (front_key_push 1 found.front b);
}

-- the key of the bytes so far
pub front_key_more : (name : Name) (i key b new : ℕ) → i < length name → key ≡ front_key 1 (take i name) → b ≡ get_or name i 0 → new ≡ mixed key b → new ≡ front_key 1 (take (i + 1) name)
front_key_more name i key b new inside is is_byte more =
    more ∙ ap (λ z. mixed z b) is ∙ sym (front_key_push 1 (take i name) b) ∙ ap (λ z. front_key 1 (take i name ++ z ∷ [])) is_byte ∙ ap (front_key 1) (sym (take_more name i 0 inside))

pub end_more : (pattern : List Symbol) (key b new : ℕ) (symbol : Symbol) (rest before : List Symbol) → IsEndKey pattern key rest
    → rest ≡ before ++ symbol ∷ [] → symbol ≡ Byte b → new ≡ mixed key b → IsEndKey pattern new before
end_more pattern key b new symbol rest before found is is_byte more = record {
  end = b ∷ found.end;
  pattern_is = found.pattern_is ∙ ap (λ z. z ++ map Byte found.end) (is ∙ ap (λ z. before ++ z ∷ []) is_byte) ∙ append_assoc before (Byte b ∷ []) (map Byte found.end);
  key_is = more ∙ ap (λ z. mixed z b) found.key_is;
}

-- ---- names that fit a pattern

pub has_front : (sizes : Sizes) (pattern : List Symbol) (key : ℕ) (rest : List Symbol) → IsFrontKey pattern key rest → IsPatternKey sizes pattern key
has_front sizes pattern key rest found name fits = go (begins found.front rest name (subst (λ z. Fits z name) found.pattern_is fits))
  where
    go : (left : Name) × (name ≡ found.front ++ left) × Fits rest left → NameHasKey sizes name key
    go (left, is, _) = inl (
      length found.front,
      omega (arith, ap length is, length-append found.front left),
      found.key_is ∙ ap (front_key 1) (sym (ap (take (length found.front)) is ∙ take_at found.front left (length found.front) refl)),
    )

-- a name that fits bytes is these bytes
fits_bytes : (end name : Name) → Fits (map Byte end) name → name ≡ end
fits_bytes [] [] fits = refl
fits_bytes [] (x ∷ name) fits = absurd fits
fits_bytes (b ∷ end) [] fits = absurd fits
fits_bytes (b ∷ end) (x ∷ name) fits = let same : b ≡ x = fits.0 in let e = fits_bytes end name fits.1 in cc

-- and one that fits what ends with bytes ends with them
ends : (front : List Symbol) (end name : Name) → Fits (front ++ map Byte end) name → (left : Name) × (name ≡ left ++ end)
ends [] end name fits = ([], fits_bytes end name fits)
ends (Byte b ∷ front) end [] fits = absurd fits
ends (Byte b ∷ front) end (x ∷ name) fits = let more = ends front end name fits.1 in (x ∷ more.0, ap (λ z. x ∷ z) more.1)
ends (Star ∷ front) end name fits =
    let more = ends front end fits.1 fits.3 in
    (fits.0 ++ more.0, fits.2 ∙ ap (λ z. fits.0 ++ z) more.1 ∙ sym (append_assoc fits.0 more.0 end))

pub has_end : (sizes : Sizes) (pattern : List Symbol) (key : ℕ) (rest : List Symbol) → IsEndKey pattern key rest → IsPatternKey sizes pattern key
has_end sizes pattern key rest found name fits = go (ends rest found.end name (subst (λ z. Fits z name) found.pattern_is fits))
  where
    go : (left : Name) × (name ≡ left ++ found.end) → NameHasKey sizes name key
    go (left, is) = inr (inl (
      length left,
      omega (arith, ap length is, length-append left found.end),
      found.key_is ∙ ap end_key (sym (ap (drop (length left)) is ∙ drop_at left found.end (length left) refl)),
    ))

-- ---- paths

-- the key of a path's last name
last_key_is : (parent : Path) (name : Name) → last_key (parent ++ name ∷ []) ≡ front_key 1 name
last_key_is [] name = refl
last_key_is (x ∷ []) name = refl
last_key_is (x ∷ y ∷ parent) name = last_key_is (y ∷ parent) name

pub no_last : (path : Path) → path ≡ [] → 1 ≡ last_key path
no_last path is = sym (ap last_key is)

pub some_last : (path parent : Path) (name : Name) (key : ℕ) → path ≡ parent ++ name ∷ [] → key ≡ front_key 1 name → key ≡ last_key path
some_last path parent name key is is_key = is_key ∙ sym (ap last_key is ∙ last_key_is parent name)

pub key_of_path : (path : Path) (last key : ℕ) → last ≡ last_key path → key ≡ mixed last (sum_by length path) → key ≡ path_key path
key_of_path path last key is_last is_key = cc

-- ---- rules

-- a key stays one where more sizes are in use
pub still_key : (old new : Sizes) → IsMore old new → (rule : Rule) (key : ℕ) → IsKeyOf old rule key → IsKeyOf new rule key
still_key old new more (OnePath path) key is = is
still_key old new more (LastName pattern) key is = λ name fits. go name (is name fits)
  where
    go : (name : Name) → NameHasKey old name key → NameHasKey new name key
    go name (inl front) = inl front
    go name (inr (inl end)) = inr (inl end)
    go name (inr (inr w)) = inr (inr (record { size = w.size; used = more w.size w.used; end = w.end; within = w.within; key_is = w.key_is }))

-- one rule more
pub keys_push : (old new : Sizes) (rules : List Rule) (keys : List ℕ) (rule : Rule) (key : ℕ) → IsMore old new → AreKeys old rules keys → IsKeyOf new rule key → AreKeys new (rules ++ rule ∷ []) (keys ++ key ∷ [])
keys_push old new rules keys rule key more are is = record {
  count = omega (arith, are.count, length_push rules rule, length_push keys key);
  each = λ i d inside. go i d inside (cases_lt i (length rules));
}
  where
    go : (i : ℕ) (d : Rule) → i < length (rules ++ rule ∷ []) → (i < length rules) ⊎ (length rules ≤ i) → IsKeyOf new (get_or (rules ++ rule ∷ []) i d) (get_or (keys ++ key ∷ []) i 0)
    go i d inside (inl before) =
        let there : i < length keys = omega (arith, are.count) in
        let e : get_or (rules ++ rule ∷ []) i d ≡ get_or rules i d = get_or_append_left rules (rule ∷ []) d i before in
        let f : get_or (keys ++ key ∷ []) i 0 ≡ get_or keys i 0 = get_or_append_left keys (key ∷ []) 0 i there in
        subst (λ z. IsKeyOf new z (get_or (keys ++ key ∷ []) i 0)) (sym e) (subst (λ z. IsKeyOf new (get_or rules i d) z) (sym f) (still_key old new more (get_or rules i d) (get_or keys i 0) (are.each i d before)))
    go i d inside (inr after) =
        let e : get_or (rules ++ rule ∷ []) i d ≡ rule = get_or_push rules rule d i (omega (arith, length_push rules rule)) in
        let f : get_or (keys ++ key ∷ []) i 0 ≡ key = get_or_push keys key 0 i (omega (arith, are.count, length_push rules rule)) in
        subst (λ z. IsKeyOf new z (get_or (keys ++ key ∷ []) i 0)) (sym e) (subst (λ z. IsKeyOf new rule z) (sym f) is)

-- ---- a rule more, and back

pub rules_push : (rules : List Rule) (rule : Rule) → IsRules rules → RuleFits rule → length rules ≢ 4096 → IsRules (rules ++ rule ∷ [])
rules_push rules rule are fits few = record { each = all_append RuleFits rules (rule ∷ []) are.each (fits, tt); count = omega (arith, are.count, length_push rules rule) }

-- the rule that was added last was taken off again
pub popped : (rules pushed left : List Rule) (rule : Rule) (last : Option Rule) (n m : ℕ) → pushed ≡ rules ++ rule ∷ [] → pushed ≡ left ++ option_to_list last → length pushed ≡ n
    → MatchOption last ((n ≡ 0) × (m ≡ 0)) (λ _. m + 1 ≡ n) → left ≡ rules
popped rules pushed left rule None n m was split is_n found = absurd (omega (arith, found.0, ap length was, length_push rules rule))
popped rules pushed left rule (Some x) n m was split is_n found = (same_from_push left rules x rule (sym split ∙ was)).0

pub on_err : {T E : Type 0} (r : Result T E) (P : Type 0) → true ≡ is_err r → OnErr r P → P
on_err (Ok x) P is told = absurd (false≢true (sym is))
on_err (Err e) P is told = told

pub on_ok : {T E : Type 0} (r : Result T E) (P : Type 0) → false ≡ is_err r → OnOk r P → P
on_ok (Ok x) P is told = told
on_ok (Err e) P is told = absurd (false≢true is)

-- ---- rules of one path

-- what a search in their order tells
pub found_in_order : (rules : List Rule) (order : List ℕ) (path : Path) (place : Result ℕ ℕ) (found : Bool) → IsOrder rules order → found ≡ is_ok place
    → MatchResult place (IsThere rules order path) (IsPlace rules order path) → MatchBool found (Names rules path) (NoPathNames rules path)
found_in_order rules order path (Ok k) found ordered is there =
    let same = there_names rules order path k there in
    subst (λ z. MatchBool z (Names rules path) (NoPathNames rules path)) (sym is)
    (get_or order k 0, OnePath path, ordered.within k there.within, get_or_default rules (get_or order k 0) (OnePath path) (LastName []) (ordered.within k there.within) ∙ same, refl)
found_in_order rules order path (Err k) found ordered is at =
    subst (λ z. MatchBool z (Names rules path) (NoPathNames rules path)) (sym is) (none_there rules order path k ordered at)

-- ---- the rules with one key

-- what no look at later numbers has found, where this is the number that comes next
abbrev pub NoneLater : List Rule → List ℕ → ℕ → Path → Option ℕ → Type 0
NoneLater rules keys key path None = NoneNames rules keys key path
NoneLater rules keys key path (Some n) =
    (n < length keys) × (get_or keys n 0 ≡ key) × ((i : ℕ) (d : Rule) → n < i → i < length rules → get_or keys i 0 ≡ key → ¬ RuleNames path (get_or rules i d))

-- how many numbers are left
abbrev pub left : Option ℕ → ℕ
left None = 0
left (Some n) = n + 1

-- ---- the fronts and the ends of a name

-- no rule with the key of a shorter front names the path
pub record NoneShorter (rules : List Rule) (keys : List ℕ) (name : Name) (path : Path) (key i : ℕ) : Type 0 where
  pub key_is : key ≡ front_key 1 (take i name)
  pub none : (k : ℕ) → k < i → NoneNames rules keys (front_key 1 (take k name)) path

pub none_shorter : (rules : List Rule) (keys : List ℕ) (name : Name) (path : Path) (key i b new : ℕ) → NoneShorter rules keys name path key i → i < length name
    → b ≡ get_or name i 0 → new ≡ mixed key b → NoneNames rules keys key path → NoneShorter rules keys name path new (i + 1)
none_shorter rules keys name path key i b new was inside is_byte more none = record {
  key_is = front_key_more name i key b new inside was.key_is is_byte more;
  none = below_more (λ k. NoneNames rules keys (front_key 1 (take k name)) path) i was.none (subst (λ z. NoneNames rules keys z path) was.key_is none);
}

-- no rule with the key of a shorter end names the path
pub record NoneNearer (rules : List Rule) (keys : List ℕ) (name : Name) (path : Path) (key : ℕ) (rest : Name) : Type 0 where
  pub done : Name
  pub name_is : name ≡ rest ++ done
  pub key_is : key ≡ end_key done
  pub none : (k : ℕ) → length rest < k → k ≤ length name → NoneNames rules keys (end_key (drop k name)) path

-- ---- the order with a rule more

pub order_with_none : (rules : List Rule) (order : List ℕ) (rule : Rule) → IsOrder rules order → NeedsNoPlace rules order rule → IsOrder (rules ++ rule ∷ []) order
order_with_none rules order (OnePath new) ordered there =
    order_kept rules order (OnePath new) ordered (λ path same. let e : new ≡ path = cc in subst (λ z. (k : ℕ) × (k < length order) × (rule_at rules order k ≡ OnePath z)) e there)
order_with_none rules order (LastName pattern) ordered there = order_kept rules order (LastName pattern) ordered (λ path same. absurd cc)

pub order_with : (rules : List Rule) (order : List ℕ) (rule : Rule) (place : ℕ) → IsOrder rules order → NeedsPlace rules order rule place
    → IsOrder (rules ++ rule ∷ []) (insert order place (length rules))
order_with rules order (OnePath new) place ordered at = order_more rules order (OnePath new) new place ordered refl at
order_with rules order (LastName pattern) place ordered at = absurd at

-- what was put in where there was room
pub inserted : {T E : Type 0} (r : Result T E) (with without now : List ℕ) → IsOk r → now ≡ (if is_ok r then with else without) → now ≡ with
inserted (Ok x) with without now ok is = is
inserted (Err e) with without now ok is = absurd (false≢true ok)
