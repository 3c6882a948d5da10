-- The parts that were taken out of a tree are laid at the places of their entries.
use Rattle.std.proofs.Common.{◌≡◌, ◌≢◌, ⊎_elim, ℕ, ◌+◌, ◌<◌, ◌≤◌, cond, List, [], ◌∷◌, Some, length, drop, get_or, set, slice_get, sym, ap, ◌∙◌, subst, arith}
use Rattle.std.proofs.lemmas.Bool.{cases_eq}
use Rattle.std.proofs.lemmas.Option.{same_Some, slice_get-get_or, slice_get_within}
use Rattle.ts_model.specs.Trees.{Listing, Tree, sub}
use Rattle.ts_model.specs.declared.plan.Entry.{Entry}
use Rattle.ts_model.specs.declared.plan.Side.{Side}
use Rattle.ts_table.specs.Splits.{ArePartsAt}
use Rattle.ts_model.proofs.Reasons.{test_from_source}
use Rattle.ts_check.proofs.Scans.{got_beside, got_set}
use Rattle.ts_through.specs.Parts.{AreLaid, IsLaid, paths_from}
use Rattle.ts_through.proofs.Parts.{from_here, from_elsewhere}
use Rattle.ts_model.specs.Plans.{is_from, source}

-- the parts of the entries below n are laid
abbrev pub AreLaidBelow : ℕ → Side → Tree → List Entry → List (Listing (List ℕ)) → Type 0
AreLaidBelow n on t entries parts = (e : ℕ) (entry : Entry) → e < n → slice_get entries e ≡ Some entry → source entry.reason ≡ Some on → IsLaid t entry.path parts e

-- and what is left is for the entries from n on
abbrev pub AreLaying : ℕ → Side → Tree → List Entry → List (Listing (List ℕ)) → List (Listing (List ℕ)) → Type 0
AreLaying n on t entries left parts = ArePartsAt t (paths_from on (drop n entries)) left × AreLaidBelow n on t entries parts

-- the entry at place n
pub this_one : (entries : List Entry) (n : ℕ) (entry : Entry) → n < length entries → entry ≡ get_or entries n entry → (e : ℕ) (other : Entry) → e ≡ n → slice_get entries e ≡ Some other → entry ≡ other
this_one entries n entry within is e other same at = same_Some entry other (sym (slice_get-get_or entries n entry within ∙ ap Some (sym is)) ∙ ap (λ z. slice_get entries z) (sym same) ∙ at)

module _ (on : Side) (t : Tree) (entries : List Entry) (n : ℕ) (entry : Entry) (within : n < length entries) (is : entry ≡ get_or entries n entry) where
  -- what is left is for this entry and those after it
  from_this : (left : List (Listing (List ℕ))) → ArePartsAt t (paths_from on (drop n entries)) left
      → ArePartsAt t (cond (is_from on entry.reason) (entry.path ∷ paths_from on (drop (n + 1) entries)) (paths_from on (drop (n + 1) entries))) left
  from_this left h = subst (λ (es : List Entry). ArePartsAt t (paths_from on es) left) (from_here entries n entry within is) h

  first_left : source entry.reason ≡ Some on → (left : List (Listing (List ℕ))) → ArePartsAt t (paths_from on (drop n entries)) left → ArePartsAt t (entry.path ∷ paths_from on (drop (n + 1) entries)) left
  first_left why left h =
      subst (λ b. ArePartsAt t (cond b (entry.path ∷ paths_from on (drop (n + 1) entries)) (paths_from on (drop (n + 1) entries))) left)
      (test_from_source on entry.reason why) (from_this left h)

  -- an entry of this reason gets the next part
  pub laid_more : (part : Listing (List ℕ)) (left rest parts : List (Listing (List ℕ))) → source entry.reason ≡ Some on → n < length parts → left ≡ part ∷ rest
      → AreLaying n on t entries left parts → AreLaying (n + 1) on t entries rest (set parts n part)
  laid_more part left rest parts why room is_left h =
      let here : ArePartsAt t (entry.path ∷ paths_from on (drop (n + 1) entries)) (part ∷ rest) =
      subst (λ l. ArePartsAt t (entry.path ∷ paths_from on (drop (n + 1) entries)) l) is_left (first_left why left h.0) in (
        here.2,
        λ e other less at of. ⊎_elim
            (λ (same : e ≡ n). (
              part,
              ap (λ z. slice_get (set parts n part) z) same ∙ got_set parts n part room,
              here.1 ∙ ap (λ (z : Entry). sub t z.path) (this_one entries n entry within is e other same at),
            ))
            (λ (differ : e ≢ n). let old = h.1 e other (omega arith) at of in (old.0, got_beside parts n e part differ ∙ old.1, old.2))
            (cases_eq e n),
      )

  -- so there is one
  pub some_left : (left parts : List (Listing (List ℕ))) → source entry.reason ≡ Some on → left ≡ [] → ¬ AreLaying n on t entries left parts
  some_left left parts why none h = subst (λ l. ArePartsAt t (entry.path ∷ paths_from on (drop (n + 1) entries)) l) none (first_left why left h.0)

  -- another entry gets none
  pub laid_past : (left parts : List (Listing (List ℕ))) → source entry.reason ≢ Some on → AreLaying n on t entries left parts → AreLaying (n + 1) on t entries left parts
  laid_past left parts other h = (
    subst (λ b. ArePartsAt t (cond b (entry.path ∷ paths_from on (drop (n + 1) entries)) (paths_from on (drop (n + 1) entries))) left) (from_elsewhere on entry.reason other) (from_this left h.0),
    λ e one less at of. ⊎_elim
        (λ (same : e ≡ n). absurd (other (ap (λ (z : Entry). source z.reason) (this_one entries n entry within is e one same at) ∙ of)))
        (λ (differ : e ≢ n). h.1 e one (omega arith) at of)
        (cases_eq e n),
  )

-- at the end all are laid
pub laid_all : (on : Side) (t : Tree) (entries : List Entry) (n : ℕ) (left parts : List (Listing (List ℕ))) → length entries ≤ n → AreLaying n on t entries left parts → AreLaid on t entries parts
laid_all on t entries n left parts past h e entry at why = let within = slice_get_within entries e entry at in h.1 e entry (omega arith) at why
