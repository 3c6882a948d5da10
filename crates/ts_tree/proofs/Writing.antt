-- What was written, line by line.
use Rattle.std.proofs.Common.{◌≡◌, ℕ, ◌+◌, ◌/◌, ◌<◌, suc, min, List, [], ◌∷◌, ◌++◌, length, take, drop, Option, Result, refl, sym, ap, ap₂, inl, inr, ◌∙◌, subst, append_assoc, arith, length-drop, add-one, drop-cons, get_or}
use Rattle.std.specs.Io.KnownBytes.{Appends}
use Rattle.std.proofs.KnownBytes.{Appends-nil, Appends-trans}
use Rattle.std.proofs.lemmas.List.{drop_all, take_all}
use Rattle.std.proofs.lemmas.Bool.{cases_lt}
use Rattle.ts_text.specs.Sources.{AppendsFront, Writes}
use Rattle.ts_text.proofs.Sinks as sinks
use Rattle.ts_model.specs.Texts.{Line, text, data_lines}
use Rattle.ts_model.proofs.Lines.{text_append}
use Rattle.ts_tree.specs.Fields.{data_line}

-- these lines were written, and those are still to come
pub record Wrote (old now : Option (List ℕ)) (all rest : List Line) : Type 0 where
  pub done : List Line
  pub written : Appends old now (text done)
  pub split : all ≡ done ++ rest

-- none at first
pub wrote_none : (old : Option (List ℕ)) (all : List Line) → Wrote old old all all
wrote_none old all = record { done = []; written = Appends-nil old; split = refl }

-- some lines more
pub wrote_more : (old now next : Option (List ℕ)) (all lines rest : List Line) → Wrote old now all (lines ++ rest) → Appends now next (text lines) → Wrote old next all rest
wrote_more old now next all lines rest wrote added = record {
  done = wrote.done ++ lines;
  written = subst (λ z. Appends old next z) (sym (text_append wrote.done lines)) (Appends-trans old now next (text wrote.done) (text lines) wrote.written added);
  split = wrote.split ∙ sym (append_assoc wrote.done lines rest);
}

-- a beginning of them
pub wrote_front : (old now next : Option (List ℕ)) (all lines rest : List Line) → Wrote old now all (lines ++ rest) → AppendsFront now next (text lines) → AppendsFront old next (text all)
wrote_front old now next all lines rest wrote begun = record {
  front = text wrote.done ++ begun.front;
  rest = begun.rest ++ text rest;
  split = ap text wrote.split ∙ text_append wrote.done (lines ++ rest) ∙ ap (λ z. text wrote.done ++ z) (text_append lines rest ∙ ap (λ z. z ++ text rest) begun.split ∙ append_assoc begun.front begun.rest (text rest))
      ∙ sym (append_assoc (text wrote.done) begun.front (begun.rest ++ text rest));
  added = Appends-trans old now next (text wrote.done) begun.front wrote.written begun.added;
}

take_first : (b : List ℕ) → take (min (length b) 64) b ≡ take 64 b
take_first b = elim (cases_lt 64 (length b)) [
  | inr short ↦ let n : min (length b) 64 ≡ length b = omega arith in ap (λ k. take k b) n ∙ take_all (length b) b (omega arith) ∙ sym (take_all 64 b short)
  | inl long ↦ let n : min (length b) 64 ≡ 64 = omega arith in ap (λ k. take k b) n
]

drop_first : (b : List ℕ) → drop (min (length b) 64) b ≡ drop 64 b
drop_first b = elim (cases_lt 64 (length b)) [
  | inr short ↦ let n : min (length b) 64 ≡ length b = omega arith in ap (λ k. drop k b) n ∙ drop_all (length b) b (omega arith) ∙ sym (drop_all 64 b short)
  | inl long ↦ let n : min (length b) 64 ≡ 64 = omega arith in ap (λ k. drop k b) n
]

-- the lines of some bytes begin with that of the first 64
data_cons : (b : List ℕ) → 0 < length b → data_lines ((length b + 63) / 64) b ≡ (data_line (take (min (length b) 64) b) ∷ []) ++ data_lines ((length (drop (min (length b) 64) b) + 63) / 64) (drop (min (length b) 64) b)
data_cons b some =
    let j : ℕ = (length (drop 64 b) + 63) / 64 in
    let count : (length b + 63) / 64 ≡ suc j = omega (arith, length-drop 64 b) in
    ap (λ k. data_lines k b) count
    ∙ ap₂ (λ x y. data_line x ∷ data_lines ((length y + 63) / 64) y) (sym (take_first b)) (sym (drop_first b))

-- the first 64 bytes, or all, and the others
pub data_step : (b chunk more : List ℕ) (k : ℕ) → 0 < length b → k ≡ min (length b) 64 → chunk ≡ take k b → more ≡ drop k b
    → data_lines ((length b + 63) / 64) b ≡ (data_line chunk ∷ []) ++ data_lines ((length more + 63) / 64) more
data_step b chunk more k some count front back =
    data_cons b some ∙ ap₂ (λ x y. data_line x ∷ data_lines ((length y + 63) / 64) y) (ap (λ n. take n b) (sym count) ∙ sym front) (ap (λ n. drop n b) (sym count) ∙ sym back)

-- some lines, and then the others
pub writes_after : {A E : Type 0} (old mid new : Option (List ℕ)) (lines rest : List Line) (r : Result A E) → Appends old mid (text lines) → Writes mid new (text rest) r → Writes old new (text (lines ++ rest)) r
writes_after old mid new lines rest r added wrote = subst (λ z. Writes old new z r) (sym (text_append lines rest)) (sinks.writes_after old mid new (text lines) (text rest) r added wrote)

-- both of them
pub sent_more : (old mid new : Option (List ℕ)) (lines rest : List Line) → Appends old mid (text lines) → Appends mid new (text rest) → Appends old new (text (lines ++ rest))
sent_more old mid new lines rest first added = subst (λ z. Appends old new z) (sym (text_append lines rest)) (Appends-trans old mid new (text lines) (text rest) first added)

-- or a beginning of the others
pub begun_after : (old mid new : Option (List ℕ)) (lines rest : List Line) → Appends old mid (text lines) → AppendsFront mid new (text rest) → AppendsFront old new (text (lines ++ rest))
begun_after old mid new lines rest first begun = subst (λ z. AppendsFront old new z) (sym (text_append lines rest)) (sinks.front_after old mid new (text lines) (text rest) first begun)

-- nothing is a beginning
pub nothing_sent : (old : Option (List ℕ)) (bytes : List ℕ) → AppendsFront old old bytes
nothing_sent old bytes = record { front = []; rest = bytes; split = refl; added = Appends-nil old }

-- a beginning of the first lines
pub begun_first : (old new : Option (List ℕ)) (lines rest : List Line) → AppendsFront old new (text lines) → AppendsFront old new (text (lines ++ rest))
begun_first old new lines rest begun = wrote_front old old new (lines ++ rest) lines rest (wrote_none old (lines ++ rest)) begun

-- ---- items, one by one

-- an item's lines, and those of the items after it
items_step : {X : Type 0} (lines_of : X → List Line) (all_of : List X → List Line) → ((x : X) (xs : List X) → all_of (x ∷ xs) ≡ lines_of x ++ all_of xs)
    → (items : List X) (i : ℕ) (item : X) → i < length items → item ≡ get_or items i item → all_of (drop i items) ≡ lines_of item ++ all_of (drop (i + 1) items)
items_step lines_of all_of cons items i item within is =
    rw (add-one, drop-cons items i item within) (cons (get_or items i item) (drop (suc i) items) ∙ ap (λ x. lines_of x ++ all_of (drop (suc i) items)) (sym is))

-- the next lines were written
pub wrote_step : (old now next : Option (List ℕ)) (all here lines rest : List Line) → here ≡ lines ++ rest → Wrote old now all here → Appends now next (text lines) → Wrote old next all rest
wrote_step old now next all here lines rest step wrote added = wrote_more old now next all lines rest (subst (λ z. Wrote old now all z) step wrote) added

-- or a beginning of them
pub begun_step : (old now next : Option (List ℕ)) (all here lines rest : List Line) → here ≡ lines ++ rest → Wrote old now all here → AppendsFront now next (text lines) → AppendsFront old next (text all)
begun_step old now next all here lines rest step wrote begun = wrote_front old now next all lines rest (subst (λ z. Wrote old now all z) step wrote) begun

-- one item more was written
pub wrote_item : {X : Type 0} (lines_of : X → List Line) (all_of : List X → List Line) → ((x : X) (xs : List X) → all_of (x ∷ xs) ≡ lines_of x ++ all_of xs)
    → (items : List X) (i : ℕ) (item : X) → i < length items → item ≡ get_or items i item
    → (old now next : Option (List ℕ)) (all : List Line) → Wrote old now all (all_of (drop i items)) → Appends now next (text (lines_of item)) → Wrote old next all (all_of (drop (i + 1) items))
wrote_item lines_of all_of cons items i item within is old now next all wrote added =
    wrote_step old now next all (all_of (drop i items)) (lines_of item) (all_of (drop (i + 1) items)) (items_step lines_of all_of cons items i item within is) wrote added

-- or a beginning of it
pub begun_item : {X : Type 0} (lines_of : X → List Line) (all_of : List X → List Line) → ((x : X) (xs : List X) → all_of (x ∷ xs) ≡ lines_of x ++ all_of xs)
    → (items : List X) (i : ℕ) (item : X) → i < length items → item ≡ get_or items i item
    → (old now next : Option (List ℕ)) (all : List Line) → Wrote old now all (all_of (drop i items)) → AppendsFront now next (text (lines_of item)) → AppendsFront old next (text all)
begun_item lines_of all_of cons items i item within is old now next all wrote begun =
    begun_step old now next all (all_of (drop i items)) (lines_of item) (all_of (drop (i + 1) items)) (items_step lines_of all_of cons items i item within is) wrote begun
