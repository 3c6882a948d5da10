-- The search for a line feed.
use Rattle.std.proofs.Common.{◌≡◌, ◌≢◌, ℕ, zero, suc, ◌+◌, ◌-◌, ◌<◌, ◌≤◌, List, [], ◌∷◌, ◌++◌, length, get_or, take, drop, Option, None, Some, IfSome, refl, sym, ap, ◌∙◌, subst, inl, inr, arith, append_assoc, append-nil, length-append, length-drop, length-take, add-one}
use Rattle.std.specs.List.{AllByRecursion}
use Rattle.std.specs.Io.KnownBytes.{Keeps, Consumes, IsAtEnd, prepend_known}
use Rattle.std.proofs.KnownBytes.{prepend_known-read}
use Rattle.std.proofs.lemmas.Bool.{cases_lt}
use Rattle.std.proofs.lemmas.List.{get_or_append_left, get_or_at, get_or-drop}
use Rattle.std.proofs.Math.Seq.{take_all}
use Rattle.ts_text.specs.Lines.{IsLine, HasNoLine}

-- no line feed below n
abbrev pub FreeBelow : ℕ → List ℕ → Type 0
FreeBelow n bytes = (k : ℕ) → k < n → get_or bytes k 0 ≢ 10

-- two parts without a line feed
pub free_joined : (bytes : List ℕ) (seen n : ℕ) → FreeBelow seen bytes → FreeBelow n (drop seen bytes) → FreeBelow (seen + n) bytes
free_joined bytes seen n front back k small e = elim (cases_lt k seen) [
  | inl before ↦ front k before e
  | inr after ↦ let place : seen + (k - seen) ≡ k = omega arith in
      back (k - seen) (omega arith) (get_or-drop seen bytes (k - seen) 0 ∙ ap (λ i. get_or bytes i 0) place ∙ e)
]

-- the front is one line
pub front_is_free : (bytes : List ℕ) (n : ℕ) → FreeBelow n bytes → AllByRecursion (λ b. b ≢ 10) (take n bytes)
front_is_free bytes zero free = tt
front_is_free [] (suc n) free = tt
front_is_free (b ∷ bytes) (suc n) free = (free zero (omega arith), front_is_free bytes n (λ k small. free (suc k) (omega (arith, small))))

-- bytes without a line feed are the front of no line
pub no_line : (bytes rest : List ℕ) → bytes ≢ [] → ((line tail : List ℕ) → IsLine line → bytes ++ rest ≡ line ++ 10 ∷ tail → length line < length bytes) → FreeBelow (length bytes) bytes → HasNoLine (bytes ++ rest)
no_line bytes rest some within free = record {
  some = λ e. some (front_empty bytes e);
  none = λ line tail is e.
      let small = within line tail is e in
      free (length line) small (sym (get_or_append_left bytes rest 0 (length line) small) ∙ ap (λ l. get_or l (length line) 0) e ∙ get_or_at line 10 tail 0 (length line) refl);
}
  where
    front_empty : (xs : List ℕ) → xs ++ rest ≡ [] → xs ≡ []
    front_empty [] e = refl
    front_empty (x ∷ xs) e = absurd cc

-- a whole window without a line feed
pub none_in_full : (bytes : List ℕ) (left : Option (List ℕ)) → length bytes ≡ 16385 → FreeBelow (length bytes) bytes → IfSome (prepend_known bytes left) HasNoLine
none_in_full bytes None full free = tt
none_in_full bytes (Some rest) full free =
    no_line bytes rest (λ e. let size = ap length e in omega (arith, size, full)) (λ line tail is e. omega (arith, is.short, full)) free

-- the last bytes, without a line feed
pub none_at_end : (bytes : List ℕ) (left : Option (List ℕ)) → 0 < length bytes → IsAtEnd left → FreeBelow (length bytes) bytes → IfSome (prepend_known bytes left) HasNoLine
none_at_end bytes None some end free = tt
none_at_end bytes (Some rest) some end free =
    no_line bytes rest (λ e. let size = ap length e in omega (arith, size, some))
    (λ line tail is e. let whole : bytes ≡ line ++ 10 ∷ tail = sym (append-nil bytes) ∙ ap (λ l. bytes ++ l) (sym end) ∙ e in
    omega (arith, ap length whole, length-append line (10 ∷ tail)))
    free

-- a read adds to what is held, and takes it from what the source has
pub kept_when_read : (bytes more : List ℕ) (before after : Option (List ℕ)) → Consumes before after more → Keeps (prepend_known bytes before) (prepend_known (bytes ++ more) after)
kept_when_read bytes more None after given = tt
kept_when_read bytes more (Some x) None given = absurd given
kept_when_read bytes more (Some x) (Some y) given = append_assoc bytes more y ∙ ap (λ l. bytes ++ l) (sym given)

-- bytes are cut at a line feed
cut_at_feed : (bytes : List ℕ) (n : ℕ) → n < length bytes → get_or bytes n 0 ≡ 10 → bytes ≡ (take n bytes ++ 10 ∷ []) ++ drop (suc n) bytes
cut_at_feed [] n small e = absurd (omega (arith, small))
cut_at_feed (b ∷ bytes) zero small e = ap (λ x. x ∷ bytes) e
cut_at_feed (b ∷ bytes) (suc n) small e = ap (λ l. b ∷ l) (cut_at_feed bytes n (omega (arith, small)) e)

-- the reader gives the line at the front
pub gives_front : (before after : Option (List ℕ)) (bytes : List ℕ) (n : ℕ) → n < length bytes → get_or bytes n 0 ≡ 10 → Keeps before (prepend_known bytes after)
    → Consumes before (prepend_known (drop (n + 1) bytes) after) (take n bytes ++ 10 ∷ [])
gives_front before after bytes n small feed kept =
    subst (λ m. Consumes before (prepend_known (drop m bytes) after) (take n bytes ++ 10 ∷ [])) (sym (add-one n))
    (prepend_known-read before after bytes (drop (suc n) bytes) (take n bytes ++ 10 ∷ []) ⊥ kept (cut_at_feed bytes n small feed) (λ no. absurd no)).0

-- what is looked at is all behind what was seen
pub rest_is : (bytes : List ℕ) (seen : ℕ) → take (length bytes - seen) (drop seen bytes) ≡ drop seen bytes
rest_is bytes seen = take_all (length bytes - seen) (drop seen bytes) (omega (arith, length-drop seen bytes))

-- a line feed behind what was seen ends the first line
pub line_found : (window shown : List ℕ) (seen n : ℕ) → shown ≡ window → seen ≤ length window → length window ≤ 16385 → FreeBelow seen window
    → (n < length (take (length shown - seen) (drop seen shown))) × (get_or (take (length shown - seen) (drop seen shown)) n 0 ≡ 10) × FreeBelow n (take (length shown - seen) (drop seen shown))
    → (seen + n < length window) × (get_or window (seen + n) 0 ≡ 10) × IsLine (take (seen + n) window)
line_found window shown seen n same within bound free found =
    let is : take (length shown - seen) (drop seen shown) ≡ drop seen window = ap (λ l. take (length l - seen) (drop seen l)) same ∙ rest_is window seen in
    let place : n < length (drop seen window) = subst (λ l. n < length l) is found.0 in
    let feed : get_or (drop seen window) n 0 ≡ 10 = subst (λ l. get_or l n 0 ≡ 10) is found.1 in
    let more : FreeBelow n (drop seen window) = subst (λ l. FreeBelow n l) is found.2 in
    let below : seen + n < length window = omega (arith, place, length-drop seen window) in
    let line = front_is_free window (seen + n) (free_joined window seen n free more) in (
      below,
      sym (get_or-drop seen window n 0) ∙ feed,
      record { short = omega (arith, length-take (seen + n) window); one = line },
    )

-- no line feed behind what was seen: there is none
pub none_found : (window shown : List ℕ) (seen : ℕ) → shown ≡ window → seen ≤ length window → FreeBelow seen window
    → FreeBelow (length (take (length shown - seen) (drop seen shown))) (take (length shown - seen) (drop seen shown)) → FreeBelow (length window) window
none_found window shown seen same within free none =
    let is : take (length shown - seen) (drop seen shown) ≡ drop seen window = ap (λ l. take (length l - seen) (drop seen l)) same ∙ rest_is window seen in
    let more : FreeBelow (length (drop seen window)) (drop seen window) = subst (λ l. FreeBelow (length l) l) is none in
    let all = free_joined window seen (length (drop seen window)) free more in
    λ k small e. all k (omega (arith, small, length-drop seen window)) e

-- what is added behind bytes leaves them as they are
pub free_front : (bytes more whole : List ℕ) → whole ≡ bytes ++ more → FreeBelow (length bytes) bytes → FreeBelow (length bytes) whole
free_front bytes more whole is free k small e = free k small (sym (get_or_append_left bytes more 0 k small) ∙ ap (λ l. get_or l k 0) (sym is) ∙ e)
