-- What each answer of `Path::parse_text` says of the text.
use Rattle.std.proofs.Common.{◌≡◌, ◌≢◌, ◌⊎◌, suc, ◌↔◌, ◌==◌, ℕ, Bool, true, false, cond, List, [], ◌∷◌, ◌++◌, Result, Ok, Err, IfOk, length, map, refl, sym, ap, ap₂, subst, ◌∙◌, inl, arith, eqb-true, eq-eqb, ◌||◌}
use Rattle.std.proofs.lemmas.Bool.{false≢true, true≢false, false_from_ne_true, cond-false}
use Rattle.std.proofs.lemmas.List.{map-append}
use Rattle.std.specs.List.{AllByRecursion, list_any}
use Rattle.ts_name.specs.Paths.{Name, Path, IsName, IsPath, name_text, Spells, IsPathText, HasNoNames, HasBadName, IsPastLimit}
use Rattle.ts_name.specs.Buffers.{pieces, ended, HasNo}
use Rattle.ts_name.specs.Escapes.{AreBytes}
use Rattle.ts_name.specs.declared.faults.PathFault.{PathFault}
use Rattle.ts_name.specs.declared.faults.PathFault.TheVariants.{OutOfMemory, BadName, BadText, TooLong}
use Rattle.ts_name.proofs.Buffers.{AreFree, free_from_names, pieces_all, pieces_free, IsWhole-push}
use Rattle.ts_name.proofs.Texts.{Spells-from, Spells-from_text, spelled_once, pieces_each, ended_each}
use Rattle.ts_name.proofs.Utf8.{all_append, all_parts}

-- what the contract says of an answer
pub record Parsed (text : List ℕ) (r : Result Path PathFault) : Type 0 where
  pub ok : IfOk r (λ p. IsPathText text p)
  pub reads : (p : Path) → IsPathText text p → (r ≡ Ok p) ⊎ (r ≡ Err OutOfMemory)
  pub bad_text : ¬ (r ≡ Err OutOfMemory) → ((r ≡ Err BadText) ↔ HasNoNames text)
  pub bad_name : ¬ (r ≡ Err OutOfMemory) → ((r ≡ Err BadName) ↔ HasBadName text)
  pub too_long : ¬ (r ≡ Err OutOfMemory) → ((r ≡ Err TooLong) ↔ IsPastLimit text)

-- the text spells no names
pub Parsed-no_names : (text : List ℕ) → HasNoNames text → Parsed text (Err BadText)
Parsed-no_names text none = record {
  ok = tt;
  reads = λ p h. absurd (none p (Spells-from_text text p h));
  bad_text = λ n. (λ e. none, λ h. refl);
  bad_name = λ n. (λ e. absurd cc, λ h. absurd (none h.0 h.1));
  too_long = λ n. (λ e. absurd cc, λ h. absurd (none h.0 h.1));
}

-- it spells a bad name
pub Parsed-bad : (text : List ℕ) (names : Path) → Spells text names → ¬ AllByRecursion IsName names → Parsed text (Err BadName)
Parsed-bad text names spelled bad = record {
  ok = tt;
  reads = λ p h. absurd (bad (subst (λ z. AllByRecursion IsName z) (spelled_once text p names (Spells-from_text text p h) spelled) h.0.names));
  bad_text = λ n. (λ e. absurd cc, λ h. absurd (h names spelled));
  bad_name = λ n. (λ e. (names, spelled, bad), λ h. refl);
  too_long = λ n. (λ e. absurd cc, λ h. absurd (bad (subst (λ z. AllByRecursion IsName z) (spelled_once text h.0 names h.1 spelled) h.2)));
}

-- it spells good names past the limits
pub Parsed-past : (text : List ℕ) (names : Path) → Spells text names → AllByRecursion IsName names → ¬ IsPath names → Parsed text (Err TooLong)
Parsed-past text names spelled good past = record {
  ok = tt;
  reads = λ p h. absurd (past (subst (λ z. IsPath z) (spelled_once text p names (Spells-from_text text p h) spelled) h.0));
  bad_text = λ n. (λ e. absurd cc, λ h. absurd (h names spelled));
  bad_name = λ n. (λ e. absurd cc, λ h. absurd (h.2 (subst (λ z. AllByRecursion IsName z) (spelled_once text names h.0 spelled h.1) good)));
  too_long = λ n. (λ e. (names, spelled, good, past), λ h. refl);
}

-- it is the text of a path
pub Parsed-path : (text : List ℕ) (p : Path) → IsPathText text p → Parsed text (Ok p)
Parsed-path text p is =
    let spelled = Spells-from_text text p is in
    record {
      ok = is;
      reads = λ q h. inl (ap Ok (spelled_once text p q spelled (Spells-from_text text q h)));
      bad_text = λ n. (λ e. absurd cc, λ h. absurd (h p spelled));
      bad_name = λ n. (λ e. absurd cc, λ h. absurd (h.2 (subst (λ z. AllByRecursion IsName z) (spelled_once text p h.0 spelled h.1) is.0.names)));
      too_long = λ n. (λ e. absurd cc, λ h. absurd (h.3 (subst (λ z. IsPath z) (spelled_once text p h.0 spelled h.1) is.0)));
    }

-- ---- the buffer that the text is read to

abbrev pub zero_for_slash : ℕ → ℕ
zero_for_slash b = cond (b == 47) 0 b

replaced_name : (name : Name) → HasNo 47 name → map zero_for_slash name ≡ name
replaced_name [] h = refl
replaced_name (b ∷ name) h =
    ap₂ ◌∷◌ (cond-false (b == 47) 0 b (false_from_ne_true (b == 47) (λ e. h.0 (eqb-true b 47 e)))) (replaced_name name h.1)

replaced_ended : (p : Path) → AreFree 47 p → map zero_for_slash (ended 47 p) ≡ ended 0 p
replaced_ended [] h = refl
replaced_ended (name ∷ p) h =
    map-append zero_for_slash (name ++ 47 ∷ []) (ended 47 p) ∙ ap₂ ◌++◌ (map-append zero_for_slash name (47 ∷ []) ∙ ap (λ z. z ++ 0 ∷ []) (replaced_name name h.0)) (replaced_ended p h.1)

no_zero : (xs : List ℕ) → HasNo 0 xs → list_any (λ b. b == 0) xs ≡ false
no_zero [] h = refl
no_zero (x ∷ xs) h =
    ap₂ ◌||◌ (false_from_ne_true (x == 0) (λ e. h.0 (eqb-true x 0 e))) (no_zero xs h.1)

-- with a zero byte in the body there is a bad name
pub zero_is_bad : (body : List ℕ) → list_any (λ b. b == 0) body ≡ true → ¬ AllByRecursion IsName (pieces 47 (body ++ 47 ∷ []))
zero_is_bad body found good =
    let all : HasNo 0 (body ++ 47 ∷ []) = subst (λ z. HasNo 0 z) (IsWhole-push 47 body).again (ended_each (λ b. b ≢ 0) 47 _ (λ e. cc) (free_from_names _ good)) in
    false≢true (sym (no_zero body (all_parts (λ b. b ≢ 0) body (47 ∷ []) all).0) ∙ found)

free_of_zero : (xs : List ℕ) → list_any (λ b. b == 0) xs ≡ false → HasNo 0 xs
free_of_zero [] h = tt
free_of_zero (x ∷ xs) h = go (x == 0) refl h (free_of_zero xs)
  where
    go : (t : Bool) → (x == 0) ≡ t → t || list_any (λ b. b == 0) xs ≡ false → (list_any (λ b. b == 0) xs ≡ false → HasNo 0 xs) → HasNo 0 (x ∷ xs)
    go true e f more = absurd (true≢false f)
    go false e f more = (λ g. false≢true (sym e ∙ eq-eqb x 0 g), more f)

-- without one the buffer holds the names
pub names_held : (body bytes : List ℕ) → list_any (λ b. b == 0) body ≡ false → bytes ≡ map zero_for_slash (body ++ 47 ∷ []) → pieces 0 bytes ≡ pieces 47 (body ++ 47 ∷ [])
names_held body bytes none e =
    let all = body ++ 47 ∷ [] in
    let p = pieces 47 all in
    let free : AreFree 0 p = pieces_each (λ b. b ≢ 0) 47 all (all_append (λ b. b ≢ 0) body (47 ∷ []) (free_of_zero body none) ((λ f. cc), tt)) in
    ap (pieces 0) (e ∙ ap (map zero_for_slash) (sym (IsWhole-push 47 body).again) ∙ replaced_ended p (pieces_free 47 all)) ∙ pieces_all 0 p free

-- ---- each return

-- a zero byte
pub Parsed-zero : (text rest body : List ℕ) → text ≡ 47 ∷ rest → AreBytes body × (rest ≡ name_text body) → list_any (λ b. b == 0) body ≡ true → Parsed text (Err BadName)
Parsed-zero text rest body e is found =
    Parsed-bad text _ (Spells-from text body is.0 (e ∙ ap (λ z. 47 ∷ z) is.1)) (zero_is_bad body found)

-- what the buffer holds, where there is no zero byte
pub record Buffered (text bytes : List ℕ) : Type 0 where
  pub spelled : Spells text (pieces 0 bytes)

pub Buffered-from : (text rest body bytes : List ℕ) → text ≡ 47 ∷ rest → AreBytes body × (rest ≡ name_text body) → list_any (λ b. b == 0) body ≡ false → bytes ≡ map zero_for_slash (body ++ 47 ∷ []) → Buffered text bytes
Buffered-from text rest body bytes e is none f = record {
  spelled = subst (λ z. Spells text z) (sym (names_held body bytes none f)) (Spells-from text body is.0 (e ∙ ap (λ z. 47 ∷ z) is.1));
}

-- no bytes
pub no_bytes : (text : List ℕ) → length text ≡ 0 → text ≡ []
no_bytes [] h = refl
no_bytes (x ∷ xs) h = absurd (let l : suc (length xs) ≡ 0 = h in omega arith)
