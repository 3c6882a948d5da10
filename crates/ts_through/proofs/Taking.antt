-- What is taken from the sites, commit by commit, to the parts of their entries.
use Rattle.std.proofs.Common.{◌≡◌, ◌≢◌, ⊎_elim, ℕ, ◌+◌, ◌<◌, ◌≤◌, List, length, set, Some, slice_get, sym, ap, ◌∙◌, subst, arith}
use Rattle.std.specs.Prelude.{slice_index_or, slice_set}
use Rattle.std.proofs.lemmas.Bool.{cases_eq}
use Rattle.std.proofs.lemmas.List.{get_or-set_other}
use Rattle.std.proofs.lemmas.Option.{same_Some, slice_get_within}
use Rattle.ts_model.specs.Plans.{KindIs, Valid}
use Rattle.ts_model.specs.Sync.{Snapshot}
use Rattle.ts_model.specs.Trees.{Listing}
use Rattle.ts_model.specs.declared.plan.Kind.TheVariants.{Piece, Commit, Mark}
use Rattle.ts_model.specs.declared.plan.Plan.{Plan}
use Rattle.ts_laws.proofs.Plans.{one_commit}
use Rattle.ts_laws.proofs.Steps.{same_kind}
use Rattle.ts_check.proofs.Scans.{got_beside, got_set}
use Rattle.ts_board.specs.Terms.{site_in}
use Rattle.ts_board.specs.declared.law.Slot.{Slot}
use Rattle.ts_board.specs.declared.law.Slot.TheVariants.{Empty}
use Rattle.ts_through.specs.Parts.{AreTaken}

pub commit_entry : (e f : ℕ) → Commit e ≡ Commit f → e ≡ f
commit_entry e f same = ap (λ k. elim k [ Piece a offset size p ↦ a | Commit a ↦ a | Mark a ↦ a ]) same

-- the parts of the commits below n are what their sites have
abbrev pub AreTakenBelow : ℕ → Plan → List (Slot (Listing (List ℕ))) → List (Listing (List ℕ)) → Type 0
AreTakenBelow n plan slots parts =
    (c e : ℕ) (rows : Listing (List ℕ)) → c < n → KindIs plan c (Commit e) → site_in (slice_index_or slots c Empty) ≡ Some rows → slice_get parts e ≡ Some rows

module _ (s : Snapshot) (plan : Plan) (valid : Valid s plan) (slots : List (Slot (Listing (List ℕ)))) (n : ℕ) (parts : List (Listing (List ℕ))) (below : AreTakenBelow n plan slots parts) where
  -- what the site of commit n has is laid in the part of its entry, which no other commit has
  pub taken_here : (e : ℕ) (site : Listing (List ℕ)) → KindIs plan n (Commit e) → site_in (slice_index_or slots n Empty) ≡ Some site → e < length parts
      → AreTakenBelow (n + 1) plan slots (set parts e site)
  taken_here e site kind has within c f rows less is held = ⊎_elim
      (λ (same : c ≡ n).
      let there : f ≡ e = commit_entry f e (same_kind plan n (Commit f) (Commit e) (subst (λ z. KindIs plan z (Commit f)) same is) kind) in
      let laid : site ≡ rows = same_Some site rows (sym has ∙ ap (λ z. site_in (slice_index_or slots z Empty)) (sym same) ∙ held) in
      ap (λ z. slice_get (set parts e site) z) there ∙ got_set parts e site within ∙ ap Some laid)
      (λ (other : c ≢ n).
      got_beside parts e f site (λ same. other (one_commit s plan valid c n e (subst (λ z. KindIs plan c (Commit z)) same is) kind)) ∙ below c f rows (omega arith) is held)
      (cases_eq c n)

  -- nothing is taken where there is no site
  pub taken_past : ((e : ℕ) (rows : Listing (List ℕ)) → KindIs plan n (Commit e) → ¬ (site_in (slice_index_or slots n Empty) ≡ Some rows)) → AreTakenBelow (n + 1) plan slots parts
  taken_past none c e rows less is held = ⊎_elim
      (λ (same : c ≡ n). absurd (none e rows (subst (λ z. KindIs plan z (Commit e)) same is) (ap (λ z. site_in (slice_index_or slots z Empty)) (sym same) ∙ held)))
      (λ (other : c ≢ n). below c e rows (omega arith) is held)
      (cases_eq c n)

  pub taken_all : length plan.actions ≤ n → AreTaken plan slots parts
  taken_all past c e rows is held = let within = slice_get_within plan.actions c is.0 is.1 in below c e rows (omega arith) is held

-- the later slots stay
pub later_kept : (slots old : List (Slot (Listing (List ℕ)))) (n : ℕ) → ((c : ℕ) → n ≤ c → slice_index_or slots c Empty ≡ slice_index_or old c Empty)
    → (c : ℕ) → n + 1 ≤ c → slice_index_or (slice_set slots n Empty) c Empty ≡ slice_index_or old c Empty
later_kept slots old n kept c less = get_or-set_other slots n c Empty Empty (omega arith) ∙ kept c (omega arith)
