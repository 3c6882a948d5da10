-- Names and the buffers that hold them.
use Rattle.std.proofs.Common.{◌≡◌, ◌≢◌, ◌↔◌, ◌-◌, eqb, Bor, MatchOption, IsTrue, rules, suc, ltb, get_or, drop-cons, length-take, ltb-false, ℕ, ◌+◌, ◌<◌, ◌≤◌, ◌==◌, Bool, true, false, cond, List, [], ◌∷◌, ◌++◌, Option, Some, None, length, take, drop, map, sum_by, count_by, position, refl, sym, ap, ap₂, subst, ◌∙◌, append_assoc, append-nil, eq-eqb, eqb-true, arith, length-append}
use Rattle.std.proofs.lemmas.Bool.{cond-true, cond-false, false_from_ne_true, false≢true}
use Rattle.std.proofs.lemmas.List.Concat.{flat_map-append}
use Rattle.std.proofs.lemmas.List.{append_cancel_left, take-append-drop, drop-take, drop-drop, get_or-take, map-append, take_at}
use Rattle.std.proofs.lemmas.Slice.Eq.{starts_is}
use Rattle.std.proofs.lemmas.List.Quantifiers.{position-Some}
use Rattle.std.proofs.lemmas.List.Sums.{sum_by-cons, sum_by-append, fails_before_first}
use Rattle.std.specs.List.{AllByRecursion, position_or_len, starts_with}
use Rattle.ts_name.specs.Paths.{Name, Path, IsName, IsPath, IsAbove}
use Rattle.ts_name.proofs.Utf8.{all_append, all_parts}
use Rattle.ts_name.specs.Buffers.{in_front, pieces, ended, HasNo, IsWhole, IsBuffer}

-- no name has the separator
abbrev pub AreFree : ℕ → Path → Type 0
AreFree s path = AllByRecursion (HasNo s) path

-- ---- from buffers to names

differs : (b s : ℕ) → b ≢ s → (b == s) ≡ false
differs b s n = false_from_ne_true (b == s) (λ e. n (eqb-true b s e))

-- the first name ends at the first separator
pub pieces_name : (s : ℕ) (name rest : List ℕ) → HasNo s name → pieces s (name ++ s ∷ rest) ≡ name ∷ pieces s rest
pieces_name s [] rest h = cond-true (s == s) _ _ (eq-eqb s s refl)
pieces_name s (b ∷ name) rest h =
    cond-false (b == s) _ _ (differs b s h.0) ∙ ap (in_front b) (pieces_name s name rest h.1)

-- names are read back, before whatever follows
pub pieces_ended : (s : ℕ) (path : Path) (rest : List ℕ) → AreFree s path → pieces s (ended s path ++ rest) ≡ path ++ pieces s rest
pieces_ended s [] rest h = refl
pieces_ended s (name ∷ path) rest h =
    let e : (name ++ s ∷ []) ++ ended s path ++ rest ≡ name ++ s ∷ (ended s path ++ rest) = append_assoc (name ++ s ∷ []) (ended s path) rest ∙ append_assoc name (s ∷ []) (ended s path ++ rest) in
    ap (pieces s) e ∙ pieces_name s name (ended s path ++ rest) h.0 ∙ ap (λ z. name ∷ z) (pieces_ended s path rest h.1)

-- names are read back
pub pieces_all : (s : ℕ) (path : Path) → AreFree s path → pieces s (ended s path) ≡ path
pieces_all s path h =
    ap (pieces s) (sym (append-nil (ended s path))) ∙ pieces_ended s path [] h ∙ append-nil path

front_free : (s b : ℕ) (path : Path) → b ≢ s → AreFree s path → AreFree s (in_front b path)
front_free s b [] n h = ((n, tt), tt)
front_free s b (name ∷ path) n h = ((n, h.0), h.1)

-- what is read has no separator
pub pieces_free : (s : ℕ) (bytes : List ℕ) → AreFree s (pieces s bytes)
pieces_free s [] = tt
pieces_free s (b ∷ bs) = go (b == s) refl (pieces_free s bs)
  where
    go : (t : Bool) → (b == s) ≡ t → AreFree s (pieces s bs) → AreFree s (cond t ([] ∷ pieces s bs) (in_front b (pieces s bs)))
    go true e h = (tt, h)
    go false e h = front_free s b (pieces s bs) (λ f. false≢true (sym e ∙ eq-eqb b s f)) h

-- ---- whole buffers

one_piece : (s b : ℕ) (bs : List ℕ) → HasNo s (b ∷ bs) → pieces s (b ∷ bs) ≡ (b ∷ bs) ∷ []
one_piece s b [] h = cond-false (b == s) _ _ (differs b s h.0)
one_piece s b (c ∷ cs) h =
    cond-false (b == s) _ _ (differs b s h.0) ∙ ap (in_front b) (one_piece s c cs h.1)

-- without a separator there is nothing
pub whole_without : (s : ℕ) (bytes : List ℕ) → HasNo s bytes → IsWhole s bytes → bytes ≡ []
whole_without s [] h w = refl
whole_without s (b ∷ bs) h w =
    let e : ((b ∷ bs) ++ s ∷ []) ++ [] ≡ b ∷ bs = sym (ap (ended s) (one_piece s b bs h)) ∙ w.again in
    absurd (omega (arith, ap length e, length-append ((b ∷ bs) ++ s ∷ []) [], length-append (b ∷ bs) (s ∷ [])))

-- what follows the first name is whole
pub whole_rest : (s : ℕ) (name rest : List ℕ) → HasNo s name → IsWhole s (name ++ s ∷ rest) → IsWhole s rest
whole_rest s name rest h w =
    let e : (name ++ s ∷ []) ++ ended s (pieces s rest) ≡ name ++ s ∷ rest = sym (ap (ended s) (pieces_name s name rest h)) ∙ w.again in
    let f : s ∷ ended s (pieces s rest) ≡ s ∷ rest = append_cancel_left name _ _ (sym (append_assoc name (s ∷ []) (ended s (pieces s rest))) ∙ e) in
    record { again = let g : ended s (pieces s rest) ≡ rest = cc in g }

front_ended : (s b : ℕ) (path : Path) → path ≢ [] → ended s (in_front b path) ≡ b ∷ ended s path
front_ended s b [] n = absurd (n refl)
front_ended s b (name ∷ path) n = refl

-- what ends with a separator is whole
pub IsWhole-push : (s : ℕ) (bytes : List ℕ) → IsWhole s (bytes ++ s ∷ [])
IsWhole-push s [] = record { again = ap (ended s) (cond-true (s == s) ([] ∷ []) ((s ∷ []) ∷ []) (eq-eqb s s refl)) }
IsWhole-push s (b ∷ bs) = record { again = go (b == s) refl (IsWhole-push s bs).again }
  where
    go : (t : Bool) → (b == s) ≡ t → ended s (pieces s (bs ++ s ∷ [])) ≡ bs ++ s ∷ [] → ended s (cond t ([] ∷ pieces s (bs ++ s ∷ [])) (in_front b (pieces s (bs ++ s ∷ [])))) ≡ b ∷ (bs ++ s ∷ [])
    go true e h = ap₂ ◌∷◌ (sym (eqb-true b s e)) h
    go false e h =
        front_ended s b (pieces s (bs ++ s ∷ [])) (λ f.
        let g : [] ≡ bs ++ s ∷ [] = sym (ap (ended s) f) ∙ h in
        absurd (omega (arith, ap length g, length-append bs (s ∷ [])))) ∙ ap (λ z. b ∷ z) h

-- ---- lengths and counts

-- each name takes its bytes and one more
pub length-ended : (s : ℕ) (path : Path) → length (ended s path) ≡ sum_by length path + length path
length-ended s [] = refl
length-ended s (name ∷ path) =
    omega (arith, length-ended s path, length-append (name ++ s ∷ []) (ended s path), length-append name (s ∷ []), sum_by-cons {X = List ℕ} length name path)

count_name : (s : ℕ) (name : List ℕ) → HasNo s name → count_by (λ b. b == s) (name ++ s ∷ []) ≡ 1
count_name s [] h =
    sum_by-cons (λ c. cond (c == s) 1 0) s [] ∙ ap (λ z. z + 0) (cond-true (s == s) 1 0 (eq-eqb s s refl))
count_name s (b ∷ name) h =
    sum_by-cons (λ c. cond (c == s) 1 0) b (name ++ s ∷ []) ∙ ap₂ ◌+◌ (cond-false (b == s) 1 0 (differs b s h.0)) (count_name s name h.1)

-- as many separators as names
pub count-ended : (s : ℕ) (path : Path) → AreFree s path → count_by (λ b. b == s) (ended s path) ≡ length path
count-ended s [] h = refl
count-ended s (name ∷ path) h =
    sum_by-append (λ c. cond (c == s) 1 0) (name ++ s ∷ []) (ended s path) ∙ ap₂ ◌+◌ (count_name s name h.0) (count-ended s path h.1) ∙ omega arith

-- ---- lawful paths

plain_parts : (s : ℕ) (name : List ℕ) → AllByRecursion (λ b. (b ≢ 47) × (b ≢ 0)) name → HasNo 47 name × HasNo 0 name
plain_parts s [] h = (tt, tt)
plain_parts s (b ∷ name) h = let more = plain_parts s name h.1 in ((h.0.0, more.0), (h.0.1, more.1))

-- good names have no zero byte
pub free_from_names : (path : Path) → AllByRecursion IsName path → AreFree 0 path
free_from_names [] h = tt
free_from_names (name ∷ path) h = ((plain_parts 0 name h.0.plain).1, free_from_names path h.1)

-- nor do they have a `/`
pub slash_free_from_names : (path : Path) → AllByRecursion IsName path → AreFree 47 path
slash_free_from_names [] h = tt
slash_free_from_names (name ∷ path) h = ((plain_parts 0 name h.0.plain).0, slash_free_from_names path h.1)

-- ---- where the first name ends

free_by_index : (bytes : List ℕ) → ((k : ℕ) → k < length bytes → get_or bytes k 0 ≢ 0) → HasNo 0 bytes
free_by_index [] h = tt
free_by_index (b ∷ bs) h =
    (h 0 (omega arith), free_by_index bs (λ k l. h (suc k) (let m : suc k < suc (length bs) = omega arith in m)))

nonzero : (b : ℕ) → (b == 0) ≡ false → b ≢ 0
nonzero b e f = false≢true (sym e ∙ eq-eqb b 0 f)

-- where there is no zero byte
pub no_end : (bytes : List ℕ) → position (λ b. b == 0) bytes ≡ None → HasNo 0 bytes
no_end bytes e = go (ltb (position_or_len (λ b. b == 0) bytes) (length bytes)) refl e
  where
    go : (t : Bool) → ltb (position_or_len (λ b. b == 0) bytes) (length bytes) ≡ t → cond t (Some (position_or_len (λ b. b == 0) bytes)) None ≡ None → HasNo 0 bytes
    go true f g = cc
    go false f g =
        free_by_index bytes (λ k l. nonzero (get_or bytes k 0) (fails_before_first (λ b. b == 0) bytes k 0 (omega (arith, ltb-false _ _ f))))

-- the first zero byte, and the name before it
pub first_end : (bytes : List ℕ) (i : ℕ) → position (λ b. b == 0) bytes ≡ Some i → (bytes ≡ take i bytes ++ 0 ∷ drop (i + 1) bytes) × HasNo 0 (take i bytes) × (i < length bytes)
first_end bytes i e =
    let at = position-Some (λ b. b == 0) bytes i 0 e in
    let here : get_or bytes i 0 ≡ 0 = eqb-true _ _ at.1 in
    let inside : i < length bytes = at.0 in
    let split : bytes ≡ take i bytes ++ (get_or bytes i 0 ∷ drop (suc i) bytes) = sym (take-append-drop i bytes) ∙ ap (λ z. take i bytes ++ z) (drop-cons bytes i 0 inside) in
    let next : suc i ≡ i + 1 = omega arith in (
      split ∙ ap₂ (λ x n. take i bytes ++ (x ∷ drop n bytes)) here next,
      free_by_index (take i bytes) (λ k l.
          let below : k < i = omega (arith, length-take i bytes) in
          nonzero (get_or (take i bytes) k 0) (ap (λ x. x == 0) (get_or-take i bytes k 0 below) ∙ at.2 k below)),
      inside,
    )

-- ---- whole buffers, by their names

pub count_whole : (bytes : List ℕ) → IsWhole 0 bytes → count_by (λ b. b == 0) bytes ≡ length (pieces 0 bytes)
count_whole bytes w =
    ap (λ z. count_by (λ b. b == 0) z) (sym w.again) ∙ count-ended 0 (pieces 0 bytes) (pieces_free 0 bytes)

pub length_whole : (bytes : List ℕ) → IsWhole 0 bytes → length bytes ≡ sum_by length (pieces 0 bytes) + length (pieces 0 bytes)
length_whole bytes w = ap length (sym w.again) ∙ length-ended 0 (pieces 0 bytes)

-- the names before the rest are good
pub record GoodSoFar (bytes rest : List ℕ) : Type 0 where
  pub whole : IsWhole 0 rest
  pub to : AllByRecursion IsName (pieces 0 rest) → AllByRecursion IsName (pieces 0 bytes)
  pub back : AllByRecursion IsName (pieces 0 bytes) → AllByRecursion IsName (pieces 0 rest)

pub GoodSoFar-none : (bytes : List ℕ) → IsWhole 0 bytes → GoodSoFar bytes bytes
GoodSoFar-none bytes w = record { whole = w; to = λ h. h; back = λ h. h }

pub GoodSoFar-more : (bytes rest name after : List ℕ) → GoodSoFar bytes rest → rest ≡ name ++ 0 ∷ after → HasNo 0 name → IsName name → GoodSoFar bytes after
GoodSoFar-more bytes rest name after g e h n =
    let is : pieces 0 rest ≡ name ∷ pieces 0 after = ap (pieces 0) e ∙ pieces_name 0 name after h in
    record {
      whole = whole_rest 0 name after h (subst (λ z. IsWhole 0 z) e g.whole);
      to = λ k. g.to (subst (λ z. AllByRecursion IsName z) (sym is) (n, k));
      back = λ k. (subst (λ z. AllByRecursion IsName z) is (g.back k)).1;
    }

pub GoodSoFar-bad : (bytes rest name after : List ℕ) → GoodSoFar bytes rest → rest ≡ name ++ 0 ∷ after → HasNo 0 name → ¬ IsName name → ¬ AllByRecursion IsName (pieces 0 bytes)
GoodSoFar-bad bytes rest name after g e h n k =
    let is : pieces 0 rest ≡ name ∷ pieces 0 after = ap (pieces 0) e ∙ pieces_name 0 name after h in
    n (subst (λ z. AllByRecursion IsName z) is (g.back k)).0

pub GoodSoFar-all : (bytes rest : List ℕ) → GoodSoFar bytes rest → HasNo 0 rest → AllByRecursion IsName (pieces 0 bytes)
GoodSoFar-all bytes rest g h =
    let e : rest ≡ [] = whole_without 0 rest h g.whole in
    g.to (subst (λ z. AllByRecursion IsName (pieces 0 z)) (sym e) tt)

-- ---- answers of tests

pub yes : {P : Type 0} → P → IsTrue true ↔ P
yes p = (λ _. p, λ _. search rules)

pub no_answer : {P : Type 0} → ¬ P → IsTrue false ↔ P
no_answer n = (λ e. absurd (false≢true e), λ p. absurd (n p))

pub shorter : (bytes name after : List ℕ) → bytes ≡ name ++ 0 ∷ after → length after < length bytes
shorter bytes name after e = omega (arith, ap length e, length-append name (0 ∷ after))

-- ---- the buffer of a lawful path

-- the bytes hold this path
pub record Holds (bytes : List ℕ) (path : Path) : Type 0 where
  pub buffer : IsBuffer bytes
  pub path_is : pieces 0 bytes ≡ path

-- which they do where they are its names with their zero bytes
pub Holds-from : (bytes : List ℕ) (path : Path) → IsPath path → bytes ≡ ended 0 path → Holds bytes path
Holds-from bytes path h e =
    let free = free_from_names path h.names in
    let is : pieces 0 bytes ≡ path = ap (pieces 0) e ∙ pieces_all 0 path free in
    record {
      buffer = record { lawful = subst (λ p. IsPath p) (sym is) h; whole = record { again = ap (ended 0) is ∙ sym e } };
      path_is = is;
    }

-- and only then
pub bytes_held : {bytes : List ℕ} {path : Path} → Holds bytes path → bytes ≡ ended 0 path
bytes_held h = sym h.buffer.whole.again ∙ ap (ended 0) h.path_is

pub lawful_held : {bytes : List ℕ} {path : Path} → Holds bytes path → IsPath path
lawful_held h = subst (λ p. IsPath p) h.path_is h.buffer.lawful

pub free_held : {bytes : List ℕ} {path : Path} → Holds bytes path → AreFree 0 path
free_held h = free_from_names _ (lawful_held h).names

pub length_held : {bytes : List ℕ} {path : Path} → Holds bytes path → length bytes ≡ sum_by length path + length path
length_held {path = path} h = ap length (bytes_held h) ∙ length-ended 0 path

pub ended-append : (s : ℕ) (p q : Path) → ended s (p ++ q) ≡ ended s p ++ ended s q
ended-append s p q = flat_map-append (λ name. name ++ s ∷ []) p q

-- ---- one path after another

pub IsPath-append : (p q : Path) → IsPath p → IsPath q → length p + length q ≤ 64 → sum_by length p + sum_by length q ≤ 4096 → IsPath (p ++ q)
IsPath-append p q h k deep long = record {
  names = all_append IsName p q h.names k.names;
  depth = omega (arith, length-append p q);
  size = omega (arith, sum_by-append {X = List ℕ} length p q);
}

pub too_long : (p q : Path) → 4096 < sum_by length p + sum_by length q → ¬ IsPath (p ++ q)
too_long p q h k = absurd (omega (arith, k.size, sum_by-append {X = List ℕ} length p q))

-- the bytes of two paths are those of the one after the other
pub Holds-append : (b d : List ℕ) (p q : Path) → Holds b p → Holds d q → IsPath (p ++ q) → (bytes : List ℕ) → bytes ≡ b ++ d → Holds bytes (p ++ q)
Holds-append b d p q h k lawful bytes e =
    Holds-from bytes (p ++ q) lawful (e ∙ ap₂ ◌++◌ (bytes_held h) (bytes_held k) ∙ sym (ended-append 0 p q))

-- both parts of a lawful path are lawful
pub IsPath-parts : (p q : Path) → IsPath (p ++ q) → IsPath p × IsPath q
IsPath-parts p q h =
    let names = all_parts IsName p q h.names in
    let deep = h.depth in
    let long = h.size in (
      record {
        names = names.0;
        depth = omega (arith, length-append p q);
        size = omega (arith, sum_by-append {X = List ℕ} length p q);
      },
      record {
        names = names.1;
        depth = omega (arith, length-append p q);
        size = omega (arith, sum_by-append {X = List ℕ} length p q);
      },
    )

-- ---- a path that begins with another

-- where the bytes begin so, the names do
pub above_from_bytes : (b d : List ℕ) (p q : Path) → Holds b p → Holds d q → (rest : List ℕ) → d ≡ b ++ rest → Holds rest (pieces 0 rest) × (q ≡ p ++ pieces 0 rest)
above_from_bytes b d p q h k rest e =
    let split : pieces 0 d ≡ p ++ pieces 0 rest = ap (pieces 0) (e ∙ ap (λ z. z ++ rest) (bytes_held h)) ∙ pieces_ended 0 p rest (free_held h) in
    let is : q ≡ p ++ pieces 0 rest = sym k.path_is ∙ split in
    let lawful = IsPath-parts p (pieces 0 rest) (subst (λ z. IsPath z) is (lawful_held k)) in
    let whole : ended 0 p ++ ended 0 (pieces 0 rest) ≡ ended 0 p ++ rest = sym (ended-append 0 p (pieces 0 rest)) ∙ ap (ended 0) (sym is) ∙ sym (bytes_held k) ∙ e ∙ ap (λ z. z ++ rest) (bytes_held h) in (
      record {
        buffer = record { lawful = lawful.1; whole = record { again = append_cancel_left (ended 0 p) _ _ whole } };
        path_is = refl;
      },
      is,
    )

-- and the other way round
pub bytes_from_above : (b d : List ℕ) (p q : Path) → Holds b p → Holds d q → (rest : Path) → q ≡ p ++ rest → d ≡ b ++ ended 0 rest
bytes_from_above b d p q h k rest e =
    bytes_held k ∙ ap (ended 0) e ∙ ended-append 0 p rest ∙ ap (λ z. z ++ ended 0 rest) (sym (bytes_held h))

-- the same bytes hold the same path
pub Holds-same : {bytes other : List ℕ} {path : Path} → other ≡ bytes → Holds bytes path → Holds other path
Holds-same {path = path} e h = subst (λ z. Holds z path) (sym e) h

-- how many bytes and names
pub record Measures (bytes : List ℕ) (path : Path) : Type 0 where
  pub long : length bytes ≡ sum_by length path + length path
  pub deep : length (pieces 0 bytes) ≡ length path
  pub names : length path ≤ 64
  pub size : sum_by length path ≤ 4096

pub measured : {bytes : List ℕ} {path : Path} → Holds bytes path → Measures bytes path
measured h =
    let lawful = lawful_held h in
    record { long = length_held h; deep = ap length h.path_is; names = lawful.depth; size = lawful.size }

-- one name is a path
pub IsPath-one : (name : Name) → IsName name → IsPath (name ∷ [])
IsPath-one name h =
    let short = h.short in
    record { names = (h, tt); depth = omega arith; size = omega (arith, sum_by-cons {X = List ℕ} length name []) }

-- the bytes of a path followed by a name
pub Holds-child : (b bytes : List ℕ) (path : Path) (name : Name) → Holds b path → IsName name → length path < 64 → sum_by length path + length name ≤ 4096 → bytes ≡ (b ++ name) ++ 0 ∷ [] → Holds bytes (path ++ name ∷ [])
Holds-child b bytes path name h good deep long e =
    let one : Holds (name ++ 0 ∷ []) (name ∷ []) = Holds-from (name ++ 0 ∷ []) (name ∷ []) (IsPath-one name good) (sym (append-nil (name ++ 0 ∷ []))) in
    let all : IsPath (path ++ name ∷ []) = IsPath-append path (name ∷ []) (lawful_held h) (IsPath-one name good) (omega arith) (omega (arith, sum_by-cons {X = List ℕ} length name [])) in
    Holds-append b (name ++ 0 ∷ []) path (name ∷ []) h one all bytes (e ∙ append_assoc b name (0 ∷ []))

-- whether one path begins with another, as their bytes tell it
pub prefix_answer : (b d : List ℕ) (p q : Path) → Holds b p → Holds d q → (r : Bool) → r ≡ starts_with eqb d b → IsTrue r ↔ IsAbove p q
prefix_answer b d p q h k r e =
    let told = starts_is (λ x y. (eqb-true x y, eq-eqb x y)) d b r e in
    (λ t. let found = (above_from_bytes b d p q h k _ (told.0 t)).1 in (pieces 0 (drop (length b) d), found), λ (rest, f). told.1 (ended 0 rest) (bytes_from_above b d p q h k rest f))

-- one more name
pub parent_answer : (p q : Path) → IsAbove p q → (m n : ℕ) → m ≡ length q → n ≡ length p → IsTrue (eqb m (n + 1)) ↔ ((name : Name) × (q ≡ p ++ name ∷ []))
parent_answer p q (rest, e) m n f g =
    (λ t. one rest e (let same : m ≡ n + 1 = eqb-true _ _ t in omega (arith, ap length e, length-append p rest)), λ (name, k). eq-eqb m (n + 1) (omega (arith, ap length k, length-append p (name ∷ []))))
  where
    one : (rest : Path) → q ≡ p ++ rest → length rest ≡ 1 → (name : Name) × (q ≡ p ++ name ∷ [])
    one [] e l = absurd (omega arith)
    one (name ∷ []) e l = (name, e)
    one (name ∷ next ∷ rest) e l = absurd (let k : suc (suc (length rest)) ≡ 1 = l in omega arith)

-- what ends with `/` is whole once each `/` is a zero byte
pub whole_replaced : (body bytes : List ℕ) → bytes ≡ map (λ b. cond (b == 47) 0 b) (body ++ 47 ∷ []) → IsWhole 0 bytes
whole_replaced body bytes e =
    subst (λ z. IsWhole 0 z) (sym (e ∙ map-append (λ b. cond (b == 47) 0 b) body (47 ∷ []))) (IsWhole-push 0 (map (λ b. cond (b == 47) 0 b) body))

-- ---- a walk over the names

-- the rest of the bytes, and the last name before them
pub record LastSoFar (path : Path) (rest : List ℕ) (last : Option (Bor (List ℕ))) : Type 0 where
  pub whole : IsWhole 0 rest
  pub last_is : MatchOption last (path ≡ pieces 0 rest) (λ name. (front : Path) × (path ≡ (front ++ name.now ∷ []) ++ pieces 0 rest))

pub LastSoFar-none : {bytes rest : List ℕ} {path : Path} → Holds bytes path → rest ≡ bytes → LastSoFar path rest None
LastSoFar-none h e = record {
  whole = subst (λ z. IsWhole 0 z) (sym e) h.buffer.whole;
  last_is = sym h.path_is ∙ ap (pieces 0) (sym e);
}

pub LastSoFar-more : (path : Path) (rest : List ℕ) (last : Option (Bor (List ℕ))) (name : Bor (List ℕ)) (after : List ℕ) → LastSoFar path rest last → rest ≡ name.now ++ 0 ∷ after → HasNo 0 name.now → LastSoFar path after (Some name)
LastSoFar-more path rest last name after g e h =
    let is : pieces 0 rest ≡ name.now ∷ pieces 0 after = ap (pieces 0) e ∙ pieces_name 0 name.now after h in
    record {
      whole = whole_rest 0 name.now after h (subst (λ z. IsWhole 0 z) e g.whole);
      last_is = go last g.last_is is;
    }
  where
    go : (o : Option (Bor (List ℕ))) → MatchOption o (path ≡ pieces 0 rest) (λ name. (front : Path) × (path ≡ (front ++ name.now ∷ []) ++ pieces 0 rest)) → pieces 0 rest ≡ name.now ∷ pieces 0 after → (front : Path) × (path ≡ (front ++ name.now ∷ []) ++ pieces 0 after)
    go None f is = ([], f ∙ is)
    go (Some before) (front, f) is =
        (front ++ before.now ∷ [], f ∙ ap (λ z. (front ++ before.now ∷ []) ++ z) is ∙ sym (append_assoc (front ++ before.now ∷ []) (name.now ∷ []) (pieces 0 after)))

pub LastSoFar-all : (path : Path) (rest : List ℕ) (last : Option (Bor (List ℕ))) → LastSoFar path rest last → HasNo 0 rest → MatchOption last (path ≡ []) (λ name. (parent : Path) × (path ≡ parent ++ name.now ∷ []))
LastSoFar-all path rest last g h = go last g.last_is (ap (pieces 0) (whole_without 0 rest h g.whole))
  where
    go : (o : Option (Bor (List ℕ))) → MatchOption o (path ≡ pieces 0 rest) (λ name. (front : Path) × (path ≡ (front ++ name.now ∷ []) ++ pieces 0 rest)) → pieces 0 rest ≡ [] → MatchOption o (path ≡ []) (λ name. (parent : Path) × (path ≡ parent ++ name.now ∷ []))
    go None f e = f ∙ e
    go (Some name) (front, f) e = (front, f ∙ ap (λ z. (front ++ name.now ∷ []) ++ z) e ∙ append-nil (front ++ name.now ∷ []))

-- the bytes before the last name hold the parent
pub Holds-parent : (b bytes : List ℕ) (path front : Path) (name : Name) → Holds b path → path ≡ front ++ name ∷ [] → bytes ≡ take (length b - length name - 1) b → Holds bytes front
Holds-parent b bytes path front name h e f =
    let is : b ≡ ended 0 front ++ ended 0 (name ∷ []) = bytes_held h ∙ ap (ended 0) e ∙ ended-append 0 front (name ∷ []) in
    let long : length (ended 0 front) ≡ length b - length name - 1 = omega (arith, ap length is, length-append (ended 0 front) (ended 0 (name ∷ [])), length-ended 0 (name ∷ []), sum_by-cons {X = List ℕ} length name []) in
    let front_bytes : take (length b - length name - 1) b ≡ ended 0 front = ap (take (length b - length name - 1)) is ∙ take_at (ended 0 front) (ended 0 (name ∷ [])) _ long in
    Holds-from bytes front (IsPath-parts front (name ∷ []) (subst (λ z. IsPath z) e (lawful_held h))).0 (f ∙ front_bytes)

-- ---- parts of a buffer

-- a part without its first bytes
pub part_behind : (items : List ℕ) (start long count start₂ long₂ : ℕ) → start₂ ≡ start + count → long₂ + count ≡ long → take long₂ (drop start₂ items) ≡ drop count (take long (drop start items))
part_behind items start long count start₂ long₂ e f =
    let g : long ≡ count + long₂ = omega arith in
    ap (λ n. take long₂ (drop n items)) e ∙ ap (take long₂) (sym (drop-drop count start items)) ∙ sym (drop-take count long₂ (drop start items)) ∙ ap (λ n. drop count (take n (drop start items))) (sym g)

-- what holds a path is short
pub short_buffer : (bytes other : List ℕ) → other ≡ bytes → IsBuffer bytes → length other < 65536
short_buffer bytes other e h =
    let lawful = h.lawful in
    omega (arith, ap length e, length_whole bytes h.whole, lawful.depth, lawful.size)
