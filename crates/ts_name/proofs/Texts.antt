-- The texts of paths.
use Rattle.std.proofs.Common.{◌≡◌, ◌≢◌, ◌==◌, ◌<◌, ◌≤◌, ◌+◌, ◌*◌, ◌/◌, ◌%◌, sum_by, length-append, arith, ℕ, Bool, true, false, cond, List, [], ◌∷◌, ◌++◌, take, length, flat_map, refl, sym, ap, subst, ◌∙◌, append_assoc, append-nil}
use Rattle.std.proofs.lemmas.List.{append_cancel_right, take_at}
use Rattle.std.proofs.lemmas.List.Sums.{sum_by-cons}
use Rattle.std.proofs.lemmas.List.Concat.{flat_map-append}
use Rattle.std.specs.List.{AllByRecursion}
use Rattle.ts_name.specs.Paths.{Name, Path, IsPath, is_escaped, upper_hex_digit, byte_text, name_text, path_text, Spells, IsPathText, HasNoNames}
use Rattle.ts_name.specs.Escapes.{AreBytes, HasNoBytes}
use Rattle.ts_name.proofs.Escapes.{name_text-append}
use Rattle.ts_name.proofs.Utf8.{fit_from_names, all_append}
use Rattle.ts_name.specs.Buffers.{in_front, pieces, ended, IsWhole, HasNo}
use Rattle.ts_name.proofs.Buffers.{AreFree, pieces_name, pieces_free, IsWhole-push, whole_rest, whole_without, slash_free_from_names}
use Rattle.ts_name.proofs.Spelling.{one_path_text}

-- how names are written one after another
abbrev spelled : (Name → List ℕ) → Path → List ℕ
spelled spell path = flat_map (λ name. 47 ∷ spell name) path

-- the names before the rest are written, `/` before each
pub record WrittenSoFar (spell : Name → List ℕ) (path : Path) (rest before now : List ℕ) : Type 0 where
  pub front : Path
  pub path_is : path ≡ front ++ pieces 0 rest
  pub whole : IsWhole 0 rest
  pub written : now ≡ before ++ spelled spell front

pub WrittenSoFar-more : (spell : Name → List ℕ) (path : Path) (rest before now name after next : List ℕ) → WrittenSoFar spell path rest before now → rest ≡ name ++ 0 ∷ after → HasNo 0 name → next ≡ (now ++ 47 ∷ []) ++ spell name → WrittenSoFar spell path after before next
WrittenSoFar-more spell path rest before now name after next g e h f =
    let is : pieces 0 rest ≡ name ∷ pieces 0 after = ap (pieces 0) e ∙ pieces_name 0 name after h in
    record {
      front = g.front ++ name ∷ [];
      path_is = g.path_is ∙ ap (λ z. g.front ++ z) is ∙ sym (append_assoc g.front (name ∷ []) (pieces 0 after));
      whole = whole_rest 0 name after h (subst (λ z. IsWhole 0 z) e g.whole);
      written = f ∙ append_assoc now (47 ∷ []) (spell name) ∙ ap (λ z. z ++ 47 ∷ spell name) g.written ∙ append_assoc before (spelled spell g.front) (47 ∷ spell name) ∙ ap (λ z. before ++ (spelled spell g.front ++ z)) (sym (append-nil (47 ∷ spell name))) ∙ ap (λ z. before ++ z) (sym (flat_map-append (λ name. 47 ∷ spell name) g.front (name ∷ [])));
    }

pub WrittenSoFar-all : (spell : Name → List ℕ) (path : Path) (rest before now : List ℕ) → WrittenSoFar spell path rest before now → HasNo 0 rest → now ≡ before ++ spelled spell path
WrittenSoFar-all spell path rest before now g h =
    let none : pieces 0 rest ≡ [] = ap (pieces 0) (whole_without 0 rest h g.whole) in
    g.written ∙ ap (λ z. before ++ spelled spell z) (sym (g.path_is ∙ ap (λ z. g.front ++ z) none ∙ append-nil g.front))

-- what was appended leaves the beginning
pub kept : {spell : Name → List ℕ} {path : Path} {rest before now : List ℕ} → WrittenSoFar spell path rest before now → take (length before) now ≡ before
kept {spell = spell} {before = before} g = ap (take (length before)) g.written ∙ take_at before (spelled spell g.front) (length before) refl

-- ---- the names that a text spells

-- the text of a path is the escaped form of its names with `/` before each
path_text_ended : (p : Path) → path_text p ++ 47 ∷ [] ≡ 47 ∷ name_text (ended 47 p)
path_text_ended [] = refl
path_text_ended (name ∷ p) =
    append_assoc (47 ∷ name_text name) (path_text p) (47 ∷ []) ∙ ap (λ z. (47 ∷ name_text name) ++ z) (path_text_ended p) ∙ ap (λ z. 47 ∷ z) (sym (append_assoc (name_text name) (47 ∷ []) (name_text (ended 47 p))) ∙ ap (λ z. z ++ name_text (ended 47 p)) (sym (name_text-append name (47 ∷ []))) ∙ sym (name_text-append (name ++ 47 ∷ []) (ended 47 p)))

-- names of bytes other than `/`
abbrev pub AreSpelled : Path → Type 0
AreSpelled names = AllByRecursion (AllByRecursion (λ b. (b ≢ 47) × (b < 256))) names

both_of : (name : Name) → HasNo 47 name → AreBytes name → AllByRecursion (λ b. (b ≢ 47) × (b < 256)) name
both_of [] h k = tt
both_of (b ∷ name) h k = ((h.0, k.0), both_of name h.1 k.1)

pub AreSpelled-from : (p : Path) → AreFree 47 p → AllByRecursion AreBytes p → AreSpelled p
AreSpelled-from [] h k = tt
AreSpelled-from (name ∷ p) h k = (both_of name h.0 k.0, AreSpelled-from p h.1 k.1)

free_part : (name : Name) → AllByRecursion (λ b. (b ≢ 47) × (b < 256)) name → HasNo 47 name
free_part [] h = tt
free_part (b ∷ name) h = (h.0.0, free_part name h.1)

bytes_part : (name : Name) → AllByRecursion (λ b. (b ≢ 47) × (b < 256)) name → AreBytes name
bytes_part [] h = tt
bytes_part (b ∷ name) h = (h.0.1, bytes_part name h.1)

pub free_spelled : (p : Path) → AreSpelled p → AreFree 47 p
free_spelled [] h = tt
free_spelled (name ∷ p) h = (free_part name h.0, free_spelled p h.1)

-- a text spells names in one way
pub spelled_once : (text : List ℕ) (p q : Path) → Spells text p → Spells text q → p ≡ q
spelled_once text p q h k = one_path_text p q (free_spelled p h.0) (free_spelled q k.0) (sym h.1 ∙ k.1)

front_each : (P : ℕ → Type 0) (b : ℕ) (p : Path) → P b → AllByRecursion (AllByRecursion P) p → AllByRecursion (AllByRecursion P) (in_front b p)
front_each P b [] h k = ((h, tt), tt)
front_each P b (name ∷ p) h k = ((h, k.0), k.1)

-- what holds of each byte holds of those of each name
pub pieces_each : (P : ℕ → Type 0) (s : ℕ) (bytes : List ℕ) → AllByRecursion P bytes → AllByRecursion (AllByRecursion P) (pieces s bytes)
pieces_each P s [] h = tt
pieces_each P s (b ∷ bs) h = go (b == s) (pieces_each P s bs h.1)
  where
    go : (t : Bool) → AllByRecursion (AllByRecursion P) (pieces s bs) → AllByRecursion (AllByRecursion P) (cond t ([] ∷ pieces s bs) (in_front b (pieces s bs)))
    go true k = (tt, k)
    go false k = front_each P b (pieces s bs) h.0 k

-- and the other way round, with the separator
pub ended_each : (P : ℕ → Type 0) (s : ℕ) (p : Path) → P s → AllByRecursion (AllByRecursion P) p → AllByRecursion P (ended s p)
ended_each P s [] h k = tt
ended_each P s (name ∷ p) h k =
    all_append P (name ++ s ∷ []) (ended s p) (all_append P name (s ∷ []) k.0 (h, tt)) (ended_each P s p h k.1)

-- `/` and the escaped form of some bytes spells the names between the slashes
pub Spells-from : (text body : List ℕ) → AreBytes body → text ≡ 47 ∷ name_text body → Spells text (pieces 47 (body ++ 47 ∷ []))
Spells-from text body fit e =
    let all = body ++ 47 ∷ [] in
    let p = pieces 47 all in
    let fits : AreBytes all = all_append (λ b. b < 256) body (47 ∷ []) fit (omega arith, tt) in
    let texts : path_text p ++ 47 ∷ [] ≡ text ++ 47 ∷ [] = path_text_ended p ∙ ap (λ z. 47 ∷ name_text z) (IsWhole-push 47 body).again ∙ ap (λ z. 47 ∷ z) (name_text-append body (47 ∷ [])) ∙ ap (λ z. z ++ 47 ∷ []) (sym e) in
    (AreSpelled-from p (pieces_free 47 all) (pieces_each (λ b. b < 256) 47 all fits), sym (append_cancel_right _ _ (47 ∷ []) texts))

-- the names of a path with `/` before each
abbrev slashed : Path → List ℕ
slashed p = flat_map (λ name. 47 ∷ name) p

slashed_text : (p : Path) → path_text p ≡ name_text (slashed p)
slashed_text [] = refl
slashed_text (name ∷ p) =
    ap (λ z. (47 ∷ name_text name) ++ z) (slashed_text p) ∙ ap (λ z. 47 ∷ z) (sym (name_text-append name (slashed p)))

slashed_bytes : (p : Path) → AreSpelled p → AreBytes (slashed p)
slashed_bytes [] h = tt
slashed_bytes (name ∷ p) h =
    (omega arith, all_append (λ b. b < 256) name (slashed p) (bytes_part name h.0) (slashed_bytes p h.1))

-- what begins with no `/` spells no names, but for the empty text
pub no_names_first : (text rest : List ℕ) (first : ℕ) → text ≡ first ∷ rest → first ≢ 47 → HasNoNames text
no_names_first text rest first e n [] h = let f : first ∷ rest ≡ [] = sym e ∙ h.1 in cc
no_names_first text rest first e n (name ∷ p) h =
    let f : first ∷ rest ≡ 47 ∷ (name_text name ++ path_text p) = sym e ∙ h.1 in n cc

-- nor does what goes on with no escaped form
pub no_names_rest : (text rest : List ℕ) → text ≡ 47 ∷ rest → HasNoBytes rest → HasNoNames text
no_names_rest text rest e n [] h = let f : 47 ∷ rest ≡ [] = sym e ∙ h.1 in cc
no_names_rest text rest e n (name ∷ p) h =
    let f : 47 ∷ rest ≡ 47 ∷ (name_text name ++ path_text p) = sym e ∙ h.1 in
    let g : rest ≡ name_text name ++ path_text p = cc in
    n (name ++ slashed p) (all_append (λ b. b < 256) name (slashed p) (bytes_part name h.0.0) (slashed_bytes p h.0.1)) (g ∙ ap (λ z. name_text name ++ z) (slashed_text p) ∙ sym (name_text-append name (slashed p)))

-- a lawful path's text spells its names
pub Spells-from_text : (text : List ℕ) (p : Path) → IsPathText text p → Spells text p
Spells-from_text text p h =
    (AreSpelled-from p (slash_free_from_names p h.0.names) (fit_from_names p h.0.names), h.1)

-- the root has the empty text
pub root_text : IsPathText [] []
root_text = (record { names = tt; depth = omega arith; size = omega arith }, refl)

-- ---- how long the text of a path is

-- at most three bytes for one
byte_text_long : (b : ℕ) → length (byte_text b) ≤ 3
byte_text_long b = go (is_escaped b)
  where
    go : (s : Bool) → length (cond s (37 ∷ upper_hex_digit (b / 16) ∷ upper_hex_digit (b % 16) ∷ []) (b ∷ [])) ≤ 3
    go true = omega arith
    go false = omega arith

name_text_long : (name : Name) → length (name_text name) ≤ 3 * length name
name_text_long [] = omega arith
name_text_long (b ∷ name) =
    omega (arith, name_text_long name, byte_text_long b, length-append (byte_text b) (name_text name))

-- at most three for each byte, and one for each name
pub path_text_long : (p : Path) → length (path_text p) ≤ 3 * sum_by length p + length p
path_text_long [] = omega arith
path_text_long (name ∷ p) =
    omega (arith, path_text_long p, name_text_long name, length-append (name_text name) (path_text p), sum_by-cons {X = List ℕ} length name p)

-- so at most 12,352 bytes
pub path_text_short : (p : Path) → IsPath p → length (path_text p) ≤ 12352
path_text_short p h =
    let deep = h.depth in
    let long = h.size in omega (arith, path_text_long p)
