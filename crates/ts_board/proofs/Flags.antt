-- The loops over actions and entries: which entries are flagged, and the edits of those.
use Rattle.std.proofs.Common.{◌≡◌, ◌≢◌, ◌==◌, ℕ, zero, suc, ◌+◌, ◌*◌, ◌<◌, ◌≤◌, bit_and, Bool, true, false, cond, List, [], ◌∷◌, ◌++◌, length, take, drop, get_or, replicate, Option, Some, None, sym, refl, ap, ◌∙◌, subst, inl, inr, append_assoc, append-nil, drop-cons, eqb-true, arith}
use Rattle.std.proofs.lemmas.List.{nil_from_length}
use Rattle.std.proofs.Math.ListN.{drop_of_length-le}
use Rattle.std.specs.Int.{bit_at}
use Rattle.std.proofs.lemmas.Nat.Bits.{and_pow, bit_at-lt}
use Rattle.std.proofs.lemmas.Bool.{cases_eq}
use Rattle.ts_name.specs.Paths.{Path}
use Rattle.ts_model.specs.Plans.{KindIs}
use Rattle.ts_model.specs.declared.row.Content.{Content}
use Rattle.ts_model.specs.declared.plan.Reason.{Reason}
use Rattle.ts_model.specs.declared.plan.Entry.{Entry}
use Rattle.ts_model.specs.declared.plan.Kind.{Kind}
use Rattle.ts_model.specs.declared.plan.Kind.TheVariants.{Piece, Commit, Mark}
use Rattle.ts_model.specs.declared.plan.Plan.{Plan}
use Rattle.ts_table.specs.declared.splice.Edit.{Edit}
use Rattle.ts_laws.proofs.Steps.{same_kind}
use Rattle.ts_board.specs.Edits.{Gives, AreEdits, left_by}
use Rattle.ts_board.proofs.Edits.{push_edit}
use Rattle.ts_board.specs.Archives.{IsDone, picked}

-- ---- flags

-- the entry of a mark
abbrev pub marked_entry : Kind → ℕ
marked_entry (Mark e) = e
marked_entry (Commit e) = 0
marked_entry (Piece e offset size p) = 0

one_entry : (plan : Plan) (n d e : ℕ) → KindIs plan n (Mark d) → KindIs plan n (Mark e) → d ≡ e
one_entry plan n d e x y = ap marked_entry (same_kind plan n (Mark d) (Mark e) x y)

-- without flags none is picked
none_picked : (entries : List Entry) → picked entries [] ≡ []
none_picked [] = refl
none_picked (entry ∷ entries) = refl

-- ---- edits

module _ {F : Type 0} (puts : Reason → Path → Option (Path → Content F)) (entries : List Entry) (flags : List Bool) (long : length flags ≡ length entries) where
  -- those of the entries from here on, with the edits so far, are those of all
  abbrev pub SoFar : ℕ → List (Edit F) → Type 0
  SoFar i edits = (more : List (Edit F)) → AreEdits puts (picked (drop i entries) (drop i flags)) more → AreEdits puts (picked entries flags) (edits ++ more)

  heads : (i : ℕ) (entry : Entry) (flag : Bool) → i < length entries → entry ≡ get_or entries i entry → get_or flags i false ≡ flag
      → picked (drop i entries) (drop i flags) ≡ cond flag (entry ∷ picked (drop (i + 1) entries) (drop (i + 1) flags)) (picked (drop (i + 1) entries) (drop (i + 1) flags))
  heads i entry flag within is flag_is =
      let next : suc i ≡ i + 1 = omega arith in
      (λ k. picked (drop-cons entries i entry within k) (drop-cons flags i false (omega arith) k))
      ∙ (λ k. cond (flag_is k) (sym is k ∷ picked (drop (next k) entries) (drop (next k) flags)) (picked (drop (next k) entries) (drop (next k) flags)))

  -- an entry that isn't flagged
  pub passed : (i : ℕ) (entry : Entry) (edits : List (Edit F)) → i < length entries → entry ≡ get_or entries i entry → get_or flags i false ≡ false → SoFar i edits → SoFar (i + 1) edits
  passed i entry edits within is off so_far more h = so_far more (subst (λ rest. AreEdits puts rest more) (sym (heads i entry false within is off)) h)

  -- one that is
  pub one_picked : (i : ℕ) (entry : Entry) (found : Option (Edit F)) (edits now : List (Edit F)) → i < length entries → entry ≡ get_or entries i entry → get_or flags i false ≡ true
      → Gives (puts entry.reason entry.path) entry.path found → now ≡ edits ++ elim found [ None ↦ [] | Some one ↦ one ∷ [] ] → SoFar i edits → SoFar (i + 1) now
  one_picked i entry found edits now within is on gives now_is so_far more h =
      subst (λ es. AreEdits puts (picked entries flags) es) (sym (ap (λ z. z ++ more) now_is ∙ joined found))
      (so_far _ (subst (λ rest. AreEdits puts rest (after found)) (sym (heads i entry true within is on))
      (push_edit (puts entry.reason entry.path) entry.path found edits more (λ rest. AreEdits puts (picked (drop (i + 1) entries) (drop (i + 1) flags)) rest) gives h)))
    where
      after : Option (Edit F) → List (Edit F)
      after o = elim o [ None ↦ more | Some one ↦ one ∷ more ]

      joined : (o : Option (Edit F)) → (edits ++ elim o [ None ↦ [] | Some one ↦ one ∷ [] ]) ++ more ≡ edits ++ after o
      joined None = ap (λ z. z ++ more) (append-nil edits)
      joined (Some one) = append_assoc edits (one ∷ []) more

  -- all were gone through
  pub all_picked : (i : ℕ) (edits : List (Edit F)) → length entries ≤ i → SoFar i edits → AreEdits puts (picked entries flags) edits
  all_picked i edits past so_far =
      subst (λ es. AreEdits puts (picked entries flags) es) (append-nil edits)
      (so_far [] (subst (λ rest. AreEdits {F = F} puts (picked rest (drop i flags)) []) (sym (drop_of_length-le entries past)) refl))

-- those that are picked of a list are those of its first part, and then those of its rest
pub picked_joined : (n : ℕ) (entries : List Entry) (flags : List Bool)
    → picked entries flags ≡ picked (take n entries) (take n flags) ++ picked (drop n entries) (drop n flags)
picked_joined zero entries flags = refl
picked_joined (suc n) [] flags = refl
picked_joined (suc n) (entry ∷ entries) [] = sym (none_picked (drop n entries))
picked_joined (suc n) (entry ∷ entries) (flag ∷ flags) = go flag (picked_joined n entries flags)
  where
    go : (b : Bool) → picked entries flags ≡ picked (take n entries) (take n flags) ++ picked (drop n entries) (drop n flags)
        → cond b (entry ∷ picked entries flags) (picked entries flags)
        ≡ cond b (entry ∷ picked (take n entries) (take n flags)) (picked (take n entries) (take n flags)) ++ picked (drop n entries) (drop n flags)
    go true same = ap (λ z. entry ∷ z) same
    go false same = same

-- the same, of a list that was split
pub parts_picked : (n : ℕ) (entries front back : List Entry) (flags front_flags back_flags : List Bool) → front ≡ take n entries → back ≡ drop n entries
    → front_flags ≡ take n flags → back_flags ≡ drop n flags → picked entries flags ≡ picked front front_flags ++ picked back back_flags
parts_picked n entries front back flags front_flags back_flags a b c d =
    picked_joined n entries flags ∙ (λ k. picked (sym a k) (sym c k) ++ picked (sym b k) (sym d k))

-- where no entry is left, none is picked
pub nothing_left : {F : Type 0} (puts : Reason → Path → Option (Path → Content F)) (t : Path → Content F) (entries : List Entry) (flags : List Bool) (b : Bool)
    → b ≡ (length entries == 0) → b ≡ true → left_by puts t (picked entries flags) ≡ t
nothing_left puts t entries flags b is empty = ap (λ es. left_by puts t (picked es flags)) (nil_from_length entries (eqb-true (length entries) 0 (sym is ∙ empty)))

-- ---- the bit of a done action

bit_set : (m b : ℕ) → m ≡ b * 8589934592 → b < 2 → m ≢ 0 → b ≡ 1
bit_set m b e less some = elim (cases_eq b 0) [
  | inl none ↦ absurd (some (e ∙ ap (λ z. z * 8589934592) none))
  | inr one ↦ omega arith
]

pub is_done : (word : ℕ) → bit_and word 8589934592 ≢ 0 → IsDone word
is_done word some = bit_set (bit_and word 8589934592) (bit_at word 33) (and_pow word 33) (bit_at-lt word 33) some

pub is_not_done : (word : ℕ) → bit_and word 8589934592 ≡ 0 → ¬ IsDone word
is_not_done word none one = let e : 0 ≡ 1 * 8589934592 = sym none ∙ and_pow word 33 ∙ ap (λ z. z * 8589934592) one in absurd (omega arith)

-- ---- the loop over actions

pub unset : (n e : ℕ) → get_or (replicate n false) e false ≡ false
unset zero e = refl
unset (suc n) zero = refl
unset (suc n) (suc e) = unset n e
