-- Windows: a name that fits a pattern has the bytes that stand in it.
use Rattle.std.proofs.Common.{◌≡◌, ℕ, ◌+◌, ◌-◌, ◌%◌, ◌^◌, ◌<◌, ◌≤◌, List, [], ◌∷◌, ◌++◌, length, map, take, drop, refl, sym, ap, ◌∙◌, subst, inr, append_assoc, arith, length-append, take-append-drop, get_or, below_more, suc, zero, ◌/◌}
use Rattle.std.proofs.lemmas.List.{append-nil, take_at, take_more, length-drop}
use Rattle.ts_name.specs.Paths.{Name, Path}
use Rattle.ts_model.specs.Holds.{Fits}
use Rattle.ts_model.specs.declared.hold.Symbol.{Symbol}
use Rattle.ts_model.specs.declared.hold.Symbol.TheVariants.{Star, Byte}
use Rattle.ts_model.specs.declared.hold.Rule.{Rule}
use Rattle.ts_hold.specs.Mixing.{mixed}
use Rattle.ts_hold.specs.Windows.{HasSize, IsWindowKey, bytes_in, low_bytes, number_of, shifted, window_key}
use Rattle.ts_hold.specs.Keys.{IsPatternKey, NameHasKey, NoWindowNames}
use Rattle.ts_hold.specs.declared.windows.Size.{Size}
use Rattle.ts_hold.specs.declared.windows.Size.TheVariants.{One, Two, Four, Eight}
use Rattle.ts_hold.specs.declared.windows.Sizes.{Sizes}
use Rattle.ts_hold.proofs.Fitting.{begins}
use Rattle.ts_hold.proofs.Lookups.{map_push_byte}

-- ---- the number of the last bytes

pub number_append : (n : ℕ) (front bytes : Name) → number_of n (front ++ bytes) ≡ number_of (number_of n front) bytes
number_append n [] bytes = refl
number_append n (b ∷ front) bytes = number_append (shifted n b) front bytes

-- One byte more, and one more of the lowest bytes doesn't depend on what came before.
step : (j : ℕ) (x y b : ℕ) → j < 8 → x % 256 ^ j ≡ y % 256 ^ j → shifted x b % 256 ^ (j + 1) ≡ shifted y b % 256 ^ (j + 1)
unfolding shifted
step zero x y b few same = omega arith
step (suc zero) x y b few same = omega (arith, same)
step (suc (suc zero)) x y b few same = omega (arith, same)
step (suc (suc (suc zero))) x y b few same = omega (arith, same)
step (suc (suc (suc (suc zero)))) x y b few same = omega (arith, same)
step (suc (suc (suc (suc (suc zero))))) x y b few same = omega (arith, same)
step (suc (suc (suc (suc (suc (suc zero)))))) x y b few same = omega (arith, same)
step (suc (suc (suc (suc (suc (suc (suc zero))))))) x y b few same = omega (arith, same)
step (suc (suc (suc (suc (suc (suc (suc (suc j)))))))) x y b few same = absurd (omega (arith, few))

same_low : (j : ℕ) (bytes : Name) (x y : ℕ) → j + length bytes ≤ 8 → x % 256 ^ j ≡ y % 256 ^ j
    → number_of x bytes % 256 ^ (j + length bytes) ≡ number_of y bytes % 256 ^ (j + length bytes)
same_low j [] x y few same = subst (λ k. x % 256 ^ k ≡ y % 256 ^ k) (let e : j ≡ j + 0 = omega arith in e) same
same_low j (b ∷ bytes) x y few same =
    subst (λ k. number_of x (b ∷ bytes) % 256 ^ k ≡ number_of y (b ∷ bytes) % 256 ^ k) (let e : j + 1 + length bytes ≡ j + length (b ∷ bytes) = omega arith in e)
    (same_low (j + 1) bytes (shifted x b) (shifted y b) (omega (arith, few)) (step j x y b (omega (arith, few)) same))

-- as many bytes as the size says have their lowest bytes for themselves
alone : (size : Size) (front bytes : Name) → bytes_in size ≤ length bytes → low_bytes size (number_of 0 (front ++ bytes)) ≡ low_bytes size (number_of 0 bytes)
alone size front bytes enough =
    let n : ℕ = length bytes - bytes_in size in
    let last : Name = drop n bytes in
    let split : bytes ≡ take n bytes ++ last = sym (take-append-drop n bytes) in
    let few : bytes_in size ≤ 8 = most size in
    let long : length last ≡ bytes_in size = omega (arith, ap length split, length-append (take n bytes) last, length-drop n bytes) in
    let same : (x y : ℕ) → low_bytes size (number_of x last) ≡ low_bytes size (number_of y last) = λ x y.
    subst (λ k. number_of x last % 256 ^ k ≡ number_of y last % 256 ^ k) (let e : 0 + length last ≡ bytes_in size = omega (arith, long) in e) (same_low 0 last x y (omega (arith, few, long)) (none x y)) in
    ap (low_bytes size) (number_append 0 front bytes ∙ ap (number_of (number_of 0 front)) split ∙ number_append (number_of 0 front) (take n bytes) last)
    ∙ same (number_of (number_of 0 front) (take n bytes)) (number_of 0 (take n bytes))
    ∙ sym (ap (low_bytes size) (ap (number_of 0) split ∙ number_append 0 (take n bytes) last))
  where
    most : (size : Size) → bytes_in size ≤ 8
    most One = omega arith
    most Two = omega arith
    most Four = omega arith
    most Eight = omega arith

    none : (x y : ℕ) → x % 256 ^ 0 ≡ y % 256 ^ 0
    none x y = omega arith

pub same_key : (size : Size) (m n : ℕ) → low_bytes size m ≡ low_bytes size n → window_key size m ≡ window_key size n
unfolding window_key
same_key size m n same = ap (λ low. mixed (mixed (bytes_in size) (low / 2 ^ 32)) (low % 2 ^ 32)) same

-- ---- what a pattern has between two stars

-- Of the first symbols, those after the last star are so many bytes, with this number.
pub record HasRun (pattern : List Symbol) (i run number : ℕ) : Type 0 where
  pub front : List Symbol
  pub bytes : Name
  pub so_far : take i pattern ≡ front ++ map Byte bytes
  pub count : run ≡ length bytes
  pub short : run ≤ i
  pub number_is : number ≡ number_of 0 bytes

pub no_run : (pattern : List Symbol) (i : ℕ) → HasRun pattern i 0 0
no_run pattern i = record { front = take i pattern; bytes = []; so_far = sym (append-nil (take i pattern)); count = refl; short = omega arith; number_is = refl }

pub run_more : (pattern : List Symbol) (i run number b new : ℕ) (d : Symbol) → HasRun pattern i run number → i < length pattern
    → get_or pattern i d ≡ Byte b → new ≡ shifted number b → HasRun pattern (i + 1) (run + 1) new
run_more pattern i run number b new d has inside is more = record {
  front = has.front;
  bytes = has.bytes ++ b ∷ [];
  so_far = take_more pattern i d inside ∙ ap (λ z. z ++ get_or pattern i d ∷ []) has.so_far ∙ append_assoc has.front (map Byte has.bytes) (get_or pattern i d ∷ [])
      ∙ ap (λ z. has.front ++ (map Byte has.bytes ++ z ∷ [])) is ∙ ap (λ z. has.front ++ z) (sym (map_push_byte has.bytes b));
  count = omega (arith, has.count, length-append has.bytes (b ∷ []));
  short = omega (arith, has.short);
  number_is = more ∙ ap (λ z. shifted z b) has.number_is ∙ sym (number_append 0 has.bytes (b ∷ []));
}

-- a run that is long enough has a window's key
pub run_key : (pattern : List Symbol) (i run number key : ℕ) (size : Size) → HasRun pattern i run number → bytes_in size ≤ run → key ≡ window_key size number → IsWindowKey pattern size key
run_key pattern i run number key size has enough is = record {
  front = has.front;
  bytes = has.bytes;
  rest = drop i pattern;
  pattern_is = sym (take-append-drop i pattern) ∙ ap (λ z. z ++ drop i pattern) has.so_far ∙ append_assoc has.front (map Byte has.bytes) (drop i pattern);
  enough = omega (arith, enough, has.count);
  key_is = is ∙ ap (window_key size) has.number_is;
}

-- a name that fits has these bytes
middle : (front : List Symbol) (bytes : Name) (rest : List Symbol) (name : Name) → Fits (front ++ (map Byte bytes ++ rest)) name → (before : Name) × (after : Name) × (name ≡ before ++ (bytes ++ after))
middle [] bytes rest name fits = let found = begins bytes rest name fits in ([], found.0, found.1)
middle (Byte b ∷ front) bytes rest [] fits = absurd fits
middle (Byte b ∷ front) bytes rest (x ∷ name) fits = let more = middle front bytes rest name fits.1 in (x ∷ more.0, more.1, ap (λ z. x ∷ z) more.2)
middle (Star ∷ front) bytes rest name fits =
    let more = middle front bytes rest fits.1 fits.3 in
    (fits.0 ++ more.0, more.1, fits.2 ∙ ap (λ z. fits.0 ++ z) more.2 ∙ sym (append_assoc fits.0 more.0 (bytes ++ more.1)))

pub has_window : (sizes : Sizes) (pattern : List Symbol) (size : Size) (key : ℕ) → HasSize sizes size → IsWindowKey pattern size key → IsPatternKey sizes pattern key
has_window sizes pattern size key used found name fits = go (middle found.front found.bytes found.rest name (subst (λ z. Fits z name) found.pattern_is fits))
  where
    go : (before : Name) × (after : Name) × (name ≡ before ++ (found.bytes ++ after)) → NameHasKey sizes name key
    go (before, after, is) =
        let split : name ≡ (before ++ found.bytes) ++ after = is ∙ sym (append_assoc before found.bytes after) in
        let count : length (before ++ found.bytes) ≡ length before + length found.bytes = length-append before found.bytes in
        let taken : take (length (before ++ found.bytes)) name ≡ before ++ found.bytes = ap (take (length (before ++ found.bytes))) split ∙ take_at (before ++ found.bytes) after (length (before ++ found.bytes)) refl in
        inr (inr (record {
          size = size;
          used = used;
          end = length (before ++ found.bytes);
          within = (omega (arith, count, found.enough), omega (arith, ap length split, length-append (before ++ found.bytes) after));
          key_is = found.key_is ∙ sym (ap (λ z. window_key size (number_of 0 z)) taken ∙ same_key size (number_of 0 (before ++ found.bytes)) (number_of 0 found.bytes) (alone size before found.bytes found.enough));
        }))

-- ---- what the code makes

pub key_is : (size : Size) (number low first key : ℕ) → low ≡ low_bytes size number → first ≡ mixed (bytes_in size) (low / 2 ^ 32) → key ≡ mixed first (low % 2 ^ 32) → key ≡ window_key size number
unfolding window_key
key_is size number low first key is is_first is_key =
    is_key ∙ ap (λ z. mixed z (low % 2 ^ 32)) is_first ∙ ap (λ z. mixed (mixed (bytes_in size) (z / 2 ^ 32)) (z % 2 ^ 32)) is

-- eight bytes are the whole number
pub whole : (number : ℕ) → number < 2 ^ 64 → number ≡ low_bytes Eight number
whole number few = omega (arith, few)

-- ---- the windows of a name

-- no rule with the key of a window that ends within the first bytes names the path
pub record NoneSoFar (sizes : Sizes) (rules : List Rule) (keys : List ℕ) (name : Name) (path : Path) (number count i : ℕ) : Type 0 where
  pub number_is : number ≡ number_of 0 (take i name)
  pub count_is : count ≡ i
  pub none : (end : ℕ) → end < i + 1 → NoWindowNames sizes rules keys end (number_of 0 (take end name)) path

pub none_yet : (sizes : Sizes) (rules : List Rule) (keys : List ℕ) (name : Name) (path : Path) → NoneSoFar sizes rules keys name path 0 0 0
none_yet sizes rules keys name path = record { number_is = refl; count_is = refl; none = λ end few size used enough. absurd (omega (arith, few, enough, some size)) }
  where
    some : (size : Size) → 0 < bytes_in size
    some One = omega arith
    some Two = omega arith
    some Four = omega arith
    some Eight = omega arith

pub none_more : (sizes : Sizes) (rules : List Rule) (keys : List ℕ) (name : Name) (path : Path) (number count i b new : ℕ) → NoneSoFar sizes rules keys name path number count i
    → i < length name → b ≡ get_or name i 0 → new ≡ shifted number b → NoWindowNames sizes rules keys (count + 1) new path → NoneSoFar sizes rules keys name path new (count + 1) (i + 1)
none_more sizes rules keys name path number count i b new was inside is_byte more none =
    let number_is : new ≡ number_of 0 (take (i + 1) name) =
    more ∙ ap (λ z. shifted z b) was.number_is ∙ sym (number_append 0 (take i name) (b ∷ [])) ∙ ap (λ z. number_of 0 (take i name ++ z ∷ [])) is_byte ∙ ap (number_of 0) (sym (take_more name i 0 inside)) in
    let count_is : count + 1 ≡ i + 1 = ap (λ z. z + 1) was.count_is in
    record {
      number_is = number_is;
      count_is = count_is;
      none = below_more (λ end. NoWindowNames sizes rules keys end (number_of 0 (take end name)) path) (i + 1) was.none
          (subst (λ z. NoWindowNames sizes rules keys z (number_of 0 (take (i + 1) name)) path) count_is (subst (λ z. NoWindowNames sizes rules keys (count + 1) z path) number_is none));
    }
