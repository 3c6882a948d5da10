-- What recovery finds after a stop.
use Rattle.std.proofs.Common.{◌≡◌, inl, inr, ℕ, List, [], ◌∷◌, ◌++◌, sym, ◌∙◌, ap, subst, Option, Some, None}
use Rattle.std.proofs.lemmas.List.{append_cancel_left}
use Rattle.std.specs.List.{AllByRecursion}
use Rattle.std.specs.Prelude.{IfSome}
use Rattle.ts_model.specs.Trees.{Listing}
use Rattle.ts_model.specs.Swap.{Spots}
use Rattle.ts_swap.specs.Leavings.{AtEachMoment, IsInSwap, IsStopped, LeavesInSwap, LeavesSettled, MayHaveLeft, OnSpots, Passes, SettlesSwap, StaysInSwap}
use Rattle.ts_swap.proofs.Stops.{HasNoOld, each}

one_of : (P : Spots → Type 0) (earlier : List Spots) (s : Spots) (later : List Spots) → AllByRecursion P (earlier ++ s ∷ later) → P s
one_of P [] s later (here, rest) = here
one_of P (x ∷ earlier) s later (here, rest) = one_of P earlier s later rest

module _ (tree : Listing (List ℕ)) where
  -- what a stop in a replacement left
  found_in_swap : (s : Spots) (before after : List Spots) → s.old ≡ [] → Passes (IsStopped tree s) before after → (found : Spots) → MayHaveLeft s before after found → IsInSwap s.target tree found
  found_in_swap s before after none passed found (inl is) = inl (ap (λ (z : Spots). z.target) is, ap (λ (z : Spots). z.old) is ∙ none)
  found_in_swap s before after none (added, is, all) found (inr (earlier, later, there)) =
      let same = append_cancel_left before added (earlier ++ found ∷ later) (sym is ∙ there) in
      (one_of (IsStopped tree s) earlier found later (subst (AllByRecursion (IsStopped tree s)) same all)).0

  pub settles : (o p q : Option Spots) (before after : List Spots) → IfSome o HasNoOld → AtEachMoment (IsStopped tree) o before after
      → ((original : Listing (List ℕ)) → OnSpots (SettlesSwap original tree) p q) → LeavesSettled tree o before after p q
  settles None p q before after none passed settled = tt
  settles (Some s) None q before after none passed settled = settled s.target
  settles (Some s) (Some found) q before after none passed settled =
      let left = settled s.target in (left.0, left.1, λ may. left.2 (found_in_swap s before after none passed found may))

  pub goes_on_in_swap : (o p : Option Spots) (before after m n : List Spots) → IfSome o HasNoOld → AtEachMoment (IsStopped tree) o before after
      → ((original : Listing (List ℕ)) → AtEachMoment (StaysInSwap original tree) p m n) → LeavesInSwap tree o before after p m n
  goes_on_in_swap None p before after m n none passed stays = tt
  goes_on_in_swap (Some s) p before after m n none passed stays =
      each (StaysInSwap s.target tree) (λ found left. MayHaveLeft s before after found → IsInSwap s.target tree left) p m n
      (λ found left so may. so (found_in_swap s before after none passed found may)) (stays s.target)
