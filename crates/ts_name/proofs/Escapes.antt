-- The escaped form of bytes.
use Rattle.std.proofs.Common.{◌≡◌, ◌≢◌, suc, ◌==◌, ◌<◌, ℕ, IsTrue, Bool, true, false, cond, List, [], ◌∷◌, ◌++◌, Option, Some, None, MatchOption, length, refl, sym, ap, ◌∙◌, eqb-true, append_assoc, append-nil, arith}
use Rattle.std.proofs.lemmas.Bool.{false≢true}
use Rattle.std.proofs.lemmas.List.Concat.{flat_map-append}
use Rattle.ts_name.specs.Paths.{is_escaped, byte_text, name_text}
use Rattle.ts_name.proofs.Utf8.{all_append}
use Rattle.ts_name.proofs.Spelling.{byte_one}
use Rattle.ts_name.specs.Escapes.{digits, AreBytes, HasNoDigits, HasNoByte, HasNoBytes}

-- ---- a text, read so far

-- these bytes were read, and a text of any bytes goes on so
pub record ReadSoFar (text rest bytes : List ℕ) : Type 0 where
  pub fit : AreBytes bytes
  pub read : text ≡ name_text bytes ++ rest
  pub more : (all : List ℕ) → AreBytes all → text ≡ name_text all → (after : List ℕ) × AreBytes after × (rest ≡ name_text after)

pub ReadSoFar-none : (text : List ℕ) → ReadSoFar text text []
ReadSoFar-none text = record { fit = tt; read = refl; more = λ all fit e. (all, fit, e) }

pub name_text-append : (x y : List ℕ) → name_text (x ++ y) ≡ name_text x ++ name_text y
name_text-append x y = flat_map-append byte_text x y

empty_text : (b : ℕ) (rest : List ℕ) → byte_text b ++ rest ≢ []
empty_text b rest e = go (is_escaped b) e
  where
    go : (s : Bool) → cond s (37 ∷ digits b) (b ∷ []) ++ rest ≡ [] → ⊥
    go true e = cc
    go false e = cc

pub ReadSoFar-more : (text rest bytes after : List ℕ) (b : ℕ) → ReadSoFar text rest bytes → b < 256 → rest ≡ byte_text b ++ after → ReadSoFar text after (bytes ++ b ∷ [])
ReadSoFar-more text rest bytes after b g small e = record {
  fit = all_append (λ c. c < 256) bytes (b ∷ []) g.fit (small, tt);
  read = g.read ∙ ap (λ z. name_text bytes ++ z) e ∙ sym (append_assoc (name_text bytes) (byte_text b) after) ∙ ap (λ z. z ++ after) (ap (λ z. name_text bytes ++ z) (sym (append-nil (byte_text b))) ∙ sym (name_text-append bytes (b ∷ [])));
  more = λ all fit f. next (g.more all fit f);
}
  where
    next : ((tail : List ℕ) × AreBytes tail × (rest ≡ name_text tail)) → (tail : List ℕ) × AreBytes tail × (after ≡ name_text tail)
    next ([], fit, f) = absurd (empty_text b after (sym e ∙ f))
    next (c ∷ tail, fit, f) = (tail, fit.1, (byte_one b c after (name_text tail) (sym e ∙ f)).1)

pub ReadSoFar-stuck : (text rest bytes : List ℕ) → ReadSoFar text rest bytes → rest ≢ [] → HasNoByte rest → HasNoBytes text
ReadSoFar-stuck text rest bytes g some stuck all fit e = next (g.more all fit e)
  where
    next : ((tail : List ℕ) × AreBytes tail × (rest ≡ name_text tail)) → ⊥
    next ([], fit, f) = some f
    next (c ∷ tail, fit, f) = stuck c (name_text tail) fit.0 f

pub ReadSoFar-all : (text rest bytes : List ℕ) → ReadSoFar text rest bytes → rest ≡ [] → AreBytes bytes × (text ≡ name_text bytes)
ReadSoFar-all text rest bytes g e = (g.fit, g.read ∙ ap (λ z. name_text bytes ++ z) e ∙ append-nil (name_text bytes))

-- what begins with `%` is as its digits are
pub byte_from_digits : {R : Type 0} (b : R → ℕ) (after : R → List ℕ) (text rest : List ℕ) (o : Option R) → text ≡ 37 ∷ rest → MatchOption o (HasNoDigits rest) (λ r. (b r < 256) × IsTrue (is_escaped (b r)) × (rest ≡ digits (b r) ++ after r)) → MatchOption o (HasNoByte text) (λ r. (b r < 256) × (text ≡ byte_text (b r) ++ after r))
byte_from_digits b after text rest None e h = λ c more small f. go c more small (is_escaped c) refl (sym e ∙ f)
  where
    go : (c : ℕ) (more : List ℕ) → c < 256 → (s : Bool) → is_escaped c ≡ s → 37 ∷ rest ≡ cond s (37 ∷ digits c) (c ∷ []) ++ more → ⊥
    go c more small true g f = h c more small g cc
    go c more small false g f = let is : c ≡ 37 = cc in false≢true (sym g ∙ ap is_escaped is)
byte_from_digits b after text rest (Some r) e h =
    (h.0, e ∙ ap (λ z. 37 ∷ z) h.2 ∙ ap (λ s. cond s (37 ∷ digits (b r)) (b r ∷ []) ++ after r) (sym h.1))

-- a text is shorter by what was read
pub shorter_byte : (b : ℕ) (rest after : List ℕ) → rest ≡ byte_text b ++ after → length after < length rest
shorter_byte b rest after e = go (is_escaped b) e
  where
    go : (s : Bool) → rest ≡ cond s (37 ∷ digits b) (b ∷ []) ++ after → length after < length rest
    go true e = omega (arith, ap length e)
    go false e = omega (arith, ap length e)

-- the test for no bytes
pub nothing : (xs : List ℕ) (r : Bool) → r ≡ (length xs == 0) → r ≡ true → xs ≡ []
nothing [] r e h = refl
nothing (x ∷ xs) r e h = absurd (let l : suc (length xs) ≡ 0 = eqb-true _ _ (sym e ∙ h) in omega arith)

pub something : (xs : List ℕ) (r : Bool) → r ≡ (length xs == 0) → r ≡ false → xs ≢ []
something xs r e h f = false≢true (sym h ∙ e ∙ ap (λ z. length z == 0) f)
