-- What `trial` answers for a bundle is one: a plan breaks one rule at one place at most, and there is one result at most.
use Rattle.std.proofs.Common.{◌≡◌, ◌≢◌, ◌⊎◌, ℕ, List, [], ◌∷◌, ◌++◌, codes, decimal, refl, sym, ap, ap₂, ◌∙◌, subst, inl, inr}
use Rattle.ts_name.specs.Paths.{Path}
use Rattle.ts_model.specs.Trees.{Listing, Tree, Print, at}
use Rattle.ts_model.specs.declared.hold.Rule.{Rule}
use Rattle.ts_model.specs.Sync.{Snapshot, HasReason, IsSkipped}
use Rattle.ts_model.specs.Plans.{rule_number}
use Rattle.ts_model.specs.declared.plan.PlanRule.{PlanRule}
use Rattle.ts_model.specs.Headline.{FinalArchive}
use Rattle.ts_model.specs.Texts.{Bundle, IsBundle, text, words}
use Rattle.ts_model.specs.Trial.{snapshot_of, result_lines, IsRefused, IsResult}
use Rattle.ts_model.specs.Trees.{IsListing}
use Rattle.ts_model.specs.declared.row.Stamp.{Stamp}
use Rattle.ts_model.specs.declared.plan.Reason.{Reason}
use Rattle.ts_laws.specs.Laws.{OnePairOfListings, snapshot_at}
use Rattle.ts_laws.proofs.Basics.{Start, IsTree-print, stable}
use Rattle.ts_name.proofs.Basics.{by_each, at_each}
use Rattle.ts_laws.proofs.Listings.{IsTree-from_listing}
use Rattle.ts_laws.proofs.Pairs.{either, one_at_most}
use Rattle.ts_laws.proofs.Choices.{one_pair}
use Rattle.ts_laws.proofs.Rules.{one_broken}
use Rattle.ts_model.proofs.Listings.{one_listing}
use Rattle.ts_model.proofs.Deciding.{same_stamp_at}

-- ---- listings make a lawful snapshot

-- the snapshot of a listed archive and two listed replicas is lawful
pub Start-from_listings : (archive : Listing Stamp) (first second : Listing (List ℕ)) (rules : List Rule) → IsListing archive → IsListing first → IsListing second
    → Start (snapshot_at archive first second rules) (at first) (at second)
Start-from_listings archive first second rules is_archive is_first is_second =
    let tree_first = IsTree-from_listing first is_first in
    let tree_second = IsTree-from_listing second is_second in
    record {
      lawful = record { archive = IsTree-from_listing archive is_archive; first = IsTree-print (at first) tree_first; second = IsTree-print (at second) tree_second };
      first = tree_first;
      second = tree_second;
      first_print = refl;
      second_print = refl;
    }

-- so they ask for one pair
pub one_pair_of_listings : (archive : Listing Stamp) (first second : Listing (List ℕ)) (rules : List Rule) → OnePairOfListings archive first second rules
one_pair_of_listings archive first second rules is_archive is_first is_second apart =
    one_pair (snapshot_at archive first second rules) (at first) (at second) (Start-from_listings archive first second rules is_archive is_first is_second) apart

-- so do those of a bundle
pub Start-from_bundle : (b : Bundle) → IsBundle b → Start (snapshot_of b) (at b.first) (at b.second)
Start-from_bundle b is = Start-from_listings b.archive b.first b.second b.rules is.archive.listing is.first.listing is.second.listing

-- ---- one archive is final

-- two archives that are final are one
pub one_final : (s : Snapshot) (c : Tree) (x y : Print) → FinalArchive s c x → FinalArchive s c y → x ≡ y
one_final s c x y first second = by_each x y (λ q. stable (same_stamp_at (x q) (y q)) (λ n.
    either ((p rest : Path) (why : Reason) → HasReason s p why → IsSkipped why → q ≢ p ++ rest) (λ off. elim off [
      | inl none ↦ n (first.agreed q none ∙ sym (second.agreed q none))
      | inr some ↦ some (λ p rest why has still at.
          n (ap x at ∙ at_each (first.skipped p why has still) rest ∙ sym (at_each (second.skipped p why has still) rest) ∙ ap y (sym at)))
    ])))

-- ---- one answer for a bundle

-- what the trial of a bundle is
abbrev pub Answers : Bundle → List ℕ → ℕ → Type 0
Answers b written status = IsRefused b written status ⊎ IsResult b written status

-- two results of a bundle are the same text and status
one_result : (b : Bundle) → IsBundle b → (v w : List ℕ) (m n : ℕ) → IsResult b v m → IsResult b w n → (v ≡ w) × (m ≡ n)
one_result b is v w m n h g = (same, h.says.1 ∙ sym g.says.1)
  where
    pair : (at g.first ≡ at h.first) × (at g.second ≡ at h.second)
    pair = one_at_most (snapshot_of b) (at b.first) (at b.second) (Start-from_bundle b is) (at h.first) (at h.second) (at g.first) (at g.second) h.pair g.pair

    first : h.first ≡ g.first
    first = one_listing h.first g.first h.bodies.0.listing g.bodies.0.listing (sym pair.0)

    second : h.second ≡ g.second
    second = one_listing h.second g.second h.bodies.1.listing g.bodies.1.listing (sym pair.1)

    archive : h.archive ≡ g.archive
    archive = one_listing h.archive g.archive h.bodies.2.listing g.bodies.2.listing
        (one_final (snapshot_of b) (at h.first) (at h.archive) (at g.archive) h.final (subst (λ t. FinalArchive (snapshot_of b) t (at g.archive)) pair.0 g.final))

    same : v ≡ w
    same =
        h.says.0 ∙ ap (λ x. text (result_lines x h.second h.archive b.plan.entries)) first ∙ ap (λ x. text (result_lines g.first x h.archive b.plan.entries)) second
        ∙ ap (λ x. text (result_lines g.first g.second x b.plan.entries)) archive ∙ sym g.says.0

-- and so are two refusals
one_refusal : (b : Bundle) (v w : List ℕ) (m n : ℕ) → IsRefused b v m → IsRefused b w n → (v ≡ w) × (m ≡ n)
one_refusal b v w m n h g =
    let same = one_broken (snapshot_of b) b.plan h.rule g.rule h.place g.place h.broken g.broken in
    (h.says.0 ∙ ap₂ refused same.0 same.1 ∙ sym g.says.0, h.says.1 ∙ sym g.says.1)
  where
    refused : PlanRule → ℕ → List ℕ
    refused rule place = text (words (codes "refused" ∷ decimal (rule_number rule) ∷ decimal place ∷ []) ∷ [])

-- a bundle is refused or has a result, never both, and either way in one text
pub one_answer : (b : Bundle) → IsBundle b → (v w : List ℕ) (m n : ℕ) → Answers b v m → Answers b w n → (v ≡ w) × (m ≡ n)
one_answer b is v w m n (inl h) (inl g) = one_refusal b v w m n h g
one_answer b is v w m n (inl h) (inr g) = absurd (g.valid h.rule h.place h.broken.wrong)
one_answer b is v w m n (inr h) (inl g) = absurd (h.valid g.rule g.place g.broken.wrong)
one_answer b is v w m n (inr h) (inr g) = one_result b is v w m n h g
