-- What a mark waits for: the commit of its entry, and the mark of the nearest new directory.
use Rattle.std.proofs.Common.{◌≡◌, ◌≢◌, ℕ, ◌≤◌, List, [], length, Option, Some, slice_get, sym, ap, ◌∙◌, subst, inl, inr, append-nil, arith}
use Rattle.std.proofs.lemmas.Option.{same_Some, slice_get_within}
use Rattle.ts_name.specs.Paths.{IsAbove, IsBefore}
use Rattle.ts_name.proofs.Order.{before_itself, before_trans, before_from_above}
use Rattle.ts_model.specs.Plans.{NearestDir, IsOutOfOrder}
use Rattle.ts_model.specs.declared.plan.Entry.{Entry}
use Rattle.ts_model.specs.declared.plan.Plan.{Plan}
use Rattle.ts_model.specs.declared.plan.Kind.TheVariants.{Commit, Mark}
use Rattle.ts_need.specs.Needs.{IsFirst}
use Rattle.ts_check.specs.Places.{IsIndex, no_action}
use Rattle.ts_check.specs.Waiting.{LacksCommit, LacksDir, LacksLink, LacksVia}
use Rattle.ts_check.specs.Nearest.{IsDirAbove, IsNearestIndex, IsNearestOf}
use Rattle.ts_need.proofs.Lacking.{IsFirst-same}
use Rattle.ts_name.proofs.Basics.{element_at}

-- a mark that lacks what stands at its entry among the commits lacks its commit
pub IsFirst-LacksCommit : (plan : Plan) (commits : List ℕ) → length plan.actions ≤ 1048576 → IsIndex plan Commit (length plan.actions) commits → (o : Option ℕ) → IsFirst (LacksLink plan commits) o → IsFirst (LacksCommit plan) o
IsFirst-LacksCommit plan commits few index = IsFirst-same (LacksLink plan commits) (LacksCommit plan)
    (λ k h. (h.0, h.1, h.2, (index.found h.0 h.1 h.3.0 h.3.1).1, h.4))
    (λ k h. let within = slice_get_within plan.actions h.1 h.3.0 h.3.1 in (h.0, h.1, h.2, (index.complete h.0 h.1 within h.3, λ is_no. omega arith), h.4))

module _ (plan : Plan) (order : (k : ℕ) → ¬ IsOutOfOrder plan.entries k) (few : length plan.entries ≤ 1048576) where
  -- what is found nearest is the nearest
  NearestDir-from : (e d : ℕ) → d ≢ no_action → IsNearestOf plan.entries e d → NearestDir plan e d
  NearestDir-from e d there (inl none) = absurd (there none.0)
  NearestDir-from e d there (inr found) = record {
    below = found.1.below;
    is_below = found.1.is_below;
    dir = found.1.dir;
    is_dir = found.1.is_dir;
    new_dir = found.1.new_dir;
    above = found.1.above;
    strictly = found.1.strictly;
    nearest = λ k other is new above strictly. elim (found.2 k (record {
      dir = other;
      below = found.1.below;
      is_dir = is;
      is_below = found.1.is_below;
      new_dir = new;
      above = above;
      strictly = strictly;
    })) [
      | inl same ↦ (
        [],
        (
            let one : other ≡ found.1.dir = same_Some other found.1.dir (sym is ∙ ap (slice_get plan.entries) same ∙ found.1.is_dir) in
            sym (ap (λ (z : Entry). z.path) one) ∙ sym (append-nil other.path)),
      )
      | inr over ↦ (
          let up = same_Some over.dir other (sym over.is_dir ∙ is) in
          let down = same_Some over.below found.1.dir (sym over.is_below ∙ found.1.is_dir) in
          subst (λ (z : Entry). IsAbove other.path z.path) down (subst (λ (z : Entry). IsAbove z.path over.below.path) up over.above))
    ];
  }

  -- the nearest is one above
  dir_above : (e d : ℕ) → NearestDir plan e d → IsDirAbove plan.entries d e
  dir_above e d near = record {
    dir = near.dir;
    below = near.below;
    is_dir = near.is_dir;
    is_below = near.is_below;
    new_dir = near.new_dir;
    above = near.above;
    strictly = near.strictly;
  }

  -- and it is what is found
  found_nearest : (e d found : ℕ) → NearestDir plan e d → IsNearestOf plan.entries e found → d ≡ found
  found_nearest e d found near (inl none) = absurd (none.1 d (dir_above e d near))
  found_nearest e d found near (inr at) = elim (at.2 d (dir_above e d near)) [
    | inl same ↦ same
    | inr over ↦ absurd (
        let same_below : at.1.below ≡ near.below = same_Some at.1.below near.below (sym at.1.is_below ∙ near.is_below) in
        let above : IsAbove at.1.dir.path near.dir.path = near.nearest found at.1.dir at.1.is_dir at.1.new_dir
        (subst (λ (z : Entry). IsAbove at.1.dir.path z.path) same_below at.1.above)
        (subst (λ (z : Entry). at.1.dir.path ≢ z.path) same_below at.1.strictly) in
        let one : over.dir ≡ near.dir = same_Some over.dir near.dir (sym over.is_dir ∙ near.is_dir) in
        let two : over.below ≡ at.1.dir = same_Some over.below at.1.dir (sym over.is_below ∙ at.1.is_dir) in
        let down : IsBefore near.dir.path at.1.dir.path = subst (λ (z : Entry). IsBefore near.dir.path z.path) two
        (subst (λ (z : Entry). IsBefore z.path over.below.path) one (before_from_above over.dir.path over.below.path over.above over.strictly)) in
        let differ : at.1.dir.path ≢ near.dir.path = λ same. before_itself at.1.dir.path (subst (λ z. IsBefore z at.1.dir.path) (sym same) down) in
        let up : IsBefore at.1.dir.path near.dir.path = before_from_above at.1.dir.path near.dir.path above differ in
        before_itself near.dir.path (before_trans near.dir.path at.1.dir.path near.dir.path down up))
  ]

  -- the first mark that lacks one by the indexes is the first that lacks one
  pub IsFirst-LacksDir : (nearest marks : List ℕ) → length plan.actions ≤ 1048576 → length nearest ≡ length plan.entries → IsNearestIndex plan.entries nearest → IsIndex plan Mark (length plan.actions) marks
      → (o : Option ℕ) → IsFirst (LacksVia plan nearest marks) o → IsFirst (LacksDir plan) o
  IsFirst-LacksDir nearest marks short size known index = IsFirst-same (LacksVia plan nearest marks) (LacksDir plan) to from
    where
      to : (k : ℕ) → LacksVia plan nearest marks k → LacksDir plan k
      to k h = (h.0, h.2.0, h.2.1, h.1, NearestDir-from h.0 h.2.0 h.2.2.1 (known h.0 h.2.0 h.2.2.0), (index.found h.2.0 h.2.1 h.2.3.0 h.2.3.1).1, h.2.4)

      from : (k : ℕ) → LacksDir plan k → LacksVia plan nearest marks k
      from k h =
          let in_entries = slice_get_within plan.entries h.0 h.4.below h.4.is_below in
          let at = element_at nearest h.0 (omega arith) in
          let same = found_nearest h.0 h.1 at.0 h.4 (known h.0 at.0 at.1) in
          let small = slice_get_within plan.entries h.1 h.4.dir h.4.is_dir in
          let within = slice_get_within plan.actions h.2 h.5.0 h.5.1 in
          (h.0, h.3, (h.1, h.2, (at.1 ∙ ap Some (sym same), λ is_no. omega arith), (index.complete h.1 h.2 within h.5, λ is_no. omega arith), h.6))
