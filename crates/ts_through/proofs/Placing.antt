-- The parts of the entries are placed at the sites of their commits.
use Rattle.std.proofs.Common.{◌≡◌, ◌≢◌, ⊎_elim, ℕ, zero, suc, ◌+◌, ◌<◌, ◌≤◌, List, [], ◌∷◌, ◌++◌, Some, length, take, drop, get_or, set, slice_get, refl, sym, ap, ◌∙◌, subst, add-one, arith}
use Rattle.std.specs.Prelude.{slice_index_or}
use Rattle.std.proofs.lemmas.Bool.{cases_eq}
use Rattle.std.proofs.lemmas.Option.{none-some, same_Some, slice_get_within}
use Rattle.ts_model.specs.Plans.{KindIs, source}
use Rattle.ts_model.specs.Trees.{Listing, at, listed, sub}
use Rattle.ts_model.specs.declared.plan.Action.{Action}
use Rattle.ts_model.specs.declared.plan.Kind.{Kind}
use Rattle.ts_model.specs.declared.plan.Kind.TheVariants.{Piece, Commit, Mark}
use Rattle.ts_model.specs.declared.plan.Plan.{Plan}
use Rattle.ts_model.specs.declared.plan.Side.{Side}
use Rattle.ts_model.specs.declared.plan.Side.TheVariants as side
use Rattle.ts_laws.proofs.Steps.{same_kind}
use Rattle.ts_check.proofs.Scans.{got_beside}
use Rattle.ts_board.specs.Terms.{commit_count, placed, site_in}
use Rattle.ts_board.specs.declared.law.Slot.TheVariants.{Empty}
use Rattle.ts_exec.specs.Failures.{of_side}
use Rattle.ts_through.specs.Parts.{AreHeld, AreLaid, ArePlaced}
use Rattle.ts_through.proofs.Parts.{from_here}
use Rattle.ts_board.proofs.Sites.{slots_of}
use Rattle.ts_through.proofs.Taking.{commit_entry}
use Rattle.ts_name.proofs.Basics.{element_at, got_last, got_front}

-- ---- which site a commit has

-- the commits of an action of this kind and of n others
abbrev commits_with : Kind → ℕ → ℕ
commits_with kind n = elim kind [ Piece e offset size p ↦ n | Commit e ↦ n + 1 | Mark e ↦ n ]

more_commits : (kind : Kind) (n m k : ℕ) → n + m ≡ k → commits_with kind n + m ≡ commits_with kind k
more_commits (Piece e offset size p) n m k h = h
more_commits (Commit e) n m k h = omega arith
more_commits (Mark e) n m k h = h

-- the commits before place n and those from there on are all commits
pub commits_beside : (actions : List Action) (n : ℕ) → commit_count (take n actions) + commit_count (drop n actions) ≡ commit_count actions
commits_beside actions zero = omega arith
commits_beside [] (suc n) = refl
commits_beside (a ∷ actions) (suc n) = more_commits a.kind (commit_count (take n actions)) (commit_count (drop n actions)) (commit_count actions) (commits_beside actions n)

-- a commit counts
pub commit_counts : (actions : List Action) (n : ℕ) (action : Action) (e : ℕ) → n < length actions → action ≡ get_or actions n action → action.kind ≡ Commit e
    → commit_count (drop n actions) ≡ commit_count (drop (n + 1) actions) + 1
commit_counts actions n action e within is kind = ap commit_count (from_here actions n action within is) ∙ ap (λ k. commits_with k (commit_count (drop (n + 1) actions))) kind

-- other actions don't
pub other_counts : (actions : List Action) (n : ℕ) (action : Action) → n < length actions → action ≡ get_or actions n action → ((e : ℕ) → action.kind ≢ Commit e)
    → commit_count (drop n actions) ≡ commit_count (drop (n + 1) actions)
other_counts actions n action within is other = ap commit_count (from_here actions n action within is) ∙ go action.kind other (commit_count (drop (n + 1) actions))
  where
    go : (kind : Kind) → ((e : ℕ) → kind ≢ Commit e) → (m : ℕ) → commits_with kind m ≡ m
    go (Piece e offset size p) other m = refl
    go (Commit e) other m = absurd (other e refl)
    go (Mark e) other m = refl

module _ {S : Type 0} where
  first_slot : (kind : Kind) (actions : List Action) (sites : List S) (e : ℕ) → kind ≡ Commit e → site_in (slice_index_or (slots_of kind actions sites) 0 Empty) ≡ slice_get sites 0
  first_slot (Piece f offset size p) actions sites e same = cc
  first_slot (Commit f) actions [] e same = refl
  first_slot (Commit f) actions (site ∷ sites) e same = refl
  first_slot (Mark f) actions sites e same = cc

  later_slot : (kind : Kind) (actions : List Action) (sites : List S) (c n : ℕ) → ((more : List S) → site_in (slice_index_or (placed actions more) c Empty) ≡ slice_get more n)
      → site_in (slice_index_or (slots_of kind actions sites) (suc c) Empty) ≡ slice_get sites (commits_with kind n)
  later_slot (Piece e offset size p) actions sites c n rest = rest sites
  later_slot (Commit e) actions [] c n rest = rest []
  later_slot (Commit e) actions (site ∷ sites) c n rest = rest sites ∙ ap (λ k. slice_get (site ∷ sites) k) (sym (add-one n))
  later_slot (Mark e) actions sites c n rest = rest sites

  -- the site of a commit is that of its number among the commits
  pub site_of : (actions : List Action) (sites : List S) (c e : ℕ) (action : Action) → slice_get actions c ≡ Some action → action.kind ≡ Commit e
      → site_in (slice_index_or (placed actions sites) c Empty) ≡ slice_get sites (commit_count (take c actions))
  site_of [] sites c e action is kind = absurd (none-some action is)
  site_of (a ∷ actions) sites zero e action is kind = first_slot a.kind actions sites e (ap (λ (z : Action). z.kind) (same_Some a action is) ∙ kind)
  site_of (a ∷ actions) sites (suc c) e action is kind = later_slot a.kind actions sites c (commit_count (take c actions)) (λ more. site_of actions more c e action is kind)

-- ---- commit by commit

-- the sites of the commits below n have the parts of their entries
abbrev pub ArePlacedBelow : ℕ → Plan → List (Listing (List ℕ)) → List (Listing (List ℕ)) → Type 0
ArePlacedBelow n plan old sites = (c e : ℕ) → c < n → KindIs plan c (Commit e) → slice_get sites (commit_count (take c plan.actions)) ≡ slice_get old e

-- the parts of the other commits' entries are still there
abbrev pub AreLeftFrom : ℕ → Plan → List (Listing (List ℕ)) → List (Listing (List ℕ)) → Type 0
AreLeftFrom n plan old parts = (c e : ℕ) → n ≤ c → KindIs plan c (Commit e) → slice_get parts e ≡ slice_get old e

module _ (plan : Plan) (n : ℕ) (old : List (Listing (List ℕ))) where
  -- commit n gets the part of its entry
  pub placed_here : (sites : List (Listing (List ℕ))) (e : ℕ) (part : Listing (List ℕ)) → ((i f : ℕ) → KindIs plan i (Commit f) → f < length old) → KindIs plan n (Commit e)
      → slice_get old e ≡ Some part → length sites ≡ commit_count (take n plan.actions) → ArePlacedBelow n plan old sites → ArePlacedBelow (n + 1) plan old (sites ++ part ∷ [])
  placed_here sites e part within kind is count below c f less of = ⊎_elim
      (λ (same : c ≡ n).
      let there : f ≡ e = commit_entry f e (same_kind plan n (Commit f) (Commit e) (subst (λ z. KindIs plan z (Commit f)) same of) kind) in
      ap (λ z. slice_get (sites ++ part ∷ []) (commit_count (take z plan.actions))) same
      ∙ ap (λ z. slice_get (sites ++ part ∷ []) z) (sym count) ∙ got_last sites part ∙ sym is ∙ ap (λ z. slice_get old z) (sym there))
      (λ (other : c ≢ n).
      let had = element_at old f (within c f of) in
      got_front sites (part ∷ []) (commit_count (take c plan.actions)) had.0 (below c f (omega arith) of ∙ had.1) ∙ sym had.1)
      (cases_eq c n)

  -- whose part no other commit wants
  pub left_past : (parts : List (Listing (List ℕ))) (e : ℕ) (nothing : Listing (List ℕ)) → ((i j f : ℕ) → KindIs plan i (Commit f) → KindIs plan j (Commit f) → i ≡ j) → KindIs plan n (Commit e)
      → AreLeftFrom n plan old parts → AreLeftFrom (n + 1) plan old (set parts e nothing)
  left_past parts e nothing one kind left c f less of =
      got_beside parts e f nothing (λ same. let here : c ≡ n = one c n e (subst (λ z. KindIs plan c (Commit z)) same of) kind in absurd (omega arith)) ∙ left c f (omega arith) of

  -- an action that is no commit gets none
  pub placed_past : (sites : List (Listing (List ℕ))) → ((e : ℕ) → ¬ KindIs plan n (Commit e)) → ArePlacedBelow n plan old sites → ArePlacedBelow (n + 1) plan old sites
  placed_past sites none below c e less of = ⊎_elim
      (λ (same : c ≡ n). absurd (none e (subst (λ z. KindIs plan z (Commit e)) same of)))
      (λ (other : c ≢ n). below c e (omega arith) of)
      (cases_eq c n)

  pub placed_all : (sites : List (Listing (List ℕ))) → length plan.actions ≤ n → ArePlacedBelow n plan old sites → ArePlaced plan old sites
  placed_all sites past below c e of =
      let within = slice_get_within plan.actions c of.0 of.1 in site_of plan.actions sites c e of.0 of.1 of.2 ∙ below c e (omega arith) of

-- ---- what the parts of both replicas make

-- each commit's site has what its entry's target has: the site has what the source of an exchanged pair would have
pub targets_placed : (plan : Plan) (first second : Listing (List ℕ)) (parts sites : List (Listing (List ℕ))) → AreLaid side.Second (at first) plan.entries parts → AreLaid side.First (at second) plan.entries parts
    → ArePlaced plan parts sites → AreHeld plan second first (placed plan.actions sites)
targets_placed plan first second parts sites of_first of_second are c e entry from kind copies = go from copies.1
  where
    go : (from : Side) → source entry.reason ≡ Some from
        → (rows : Listing (List ℕ)) × (site_in (slice_index_or (placed plan.actions sites) c Empty) ≡ Some rows) × (listed rows ≡ sub (at (of_side second first from)) entry.path)
    go side.First is = let part = of_second e entry copies.0 is in (part.0, are c e kind ∙ part.1, part.2)
    go side.Second is = let part = of_first e entry copies.0 is in (part.0, are c e kind ∙ part.1, part.2)
