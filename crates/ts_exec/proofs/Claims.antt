-- What a claim says of the pass's own steps so far.
use Rattle.std.proofs.Common.{◌≡◌, ℕ, Bool, [], ◌∷◌, ◌++◌, sym, refl, ◌∙◌, subst}
use Rattle.std.specs.List.{list_any}
use Rattle.std.proofs.lemmas.Bool.{true≢false}
use Rattle.ts_model.specs.Plans.{Valid}
use Rattle.ts_model.specs.Runs.{Run, Has, HasNot, Legal, IsPieceOf, claims, takes, releases}
use Rattle.ts_model.specs.declared.step.Step.{Step}
use Rattle.ts_model.specs.declared.step.Step.TheVariants.{Claim}
use Rattle.ts_check.specs.Checkup.{Checkup, snapshot_of}
use Rattle.ts_board.specs.declared.law.Terms.{Terms}
use Rattle.ts_board.specs.declared.board.Pass.{Pass}
use Rattle.ts_board.specs.Calls.{seen, mine, Makes}
use Rattle.ts_board.specs.Checks.{IsFromCheck}
use Rattle.ts_board.proofs.Checks.{legal_for}
use Rattle.ts_board.proofs.Orderly.{orderly}
use Rattle.ts_exec.specs.Tidy.{IsTidy}
use Rattle.ts_exec.proofs.Steps.{own_seen, not_some}
use Rattle.ts_exec.proofs.Runs.{is_run, legal_front, last_allowed}
use Rattle.ts_laws.proofs.Cuts.{any_in_longer, none_in_both}

module _ {S : Type 0} (t : Terms) (k : Checkup) (from : IsFromCheck t k) (valid : Valid (snapshot_of k) k.plan) (p q : Pass S) (i : ℕ) (makes : Makes t p (Claim i ∷ []) q) where
  before : Run
  before = seen p ++ makes.0

  legal : Legal (snapshot_of k) k.plan (before ++ Claim i ∷ [])
  unfolding before
  legal = subst (λ (r : Run). Legal (snapshot_of k) k.plan r) makes.1 (legal_for t k from (seen q) makes.3)

  unclaimed : HasNot before (claims i)
  unclaimed = (last_allowed (snapshot_of k) k.plan [] before (Claim i) legal).1

  in_before : (test : Step → Bool) → Has (mine p) test → Has before test
  unfolding before
  in_before test h = any_in_longer test (seen p) makes.0 (own_seen test p.seat.me.0.sight.claims p.seat.me.0.sight.seen h)

  -- it was the first claim
  pub not_claimed : HasNot (mine p) (claims i)
  not_claimed = not_some (list_any (claims i) (mine p)) (λ h. true≢false (sym (in_before (claims i) h) ∙ unclaimed))

  -- nothing was released by it
  pub not_released : (j : ℕ) → HasNot (mine p) (releases i j)
  not_released j = not_some (list_any (releases i j) (mine p)) (λ h.
      let run = is_run (snapshot_of k) k.plan valid before (legal_front (snapshot_of k) k.plan [] before (Claim i ∷ []) legal) in
      true≢false (sym (run.ordered.acted i (run.ordered.finished i (run.ordered.released i j (in_before (releases i j) h)))) ∙ unclaimed))

  -- none of its pieces was taken
  pub not_taken : IsTidy k.plan (mine p) → (piece : ℕ) → IsPieceOf k.plan i piece → HasNot (mine q) (takes piece)
  not_taken tidy piece is = subst (λ (own : Run). HasNot own (takes piece)) (sym makes.2)
      (none_in_both (takes piece) (mine p) (Claim i ∷ [])
      (not_some (list_any (takes piece) (mine p)) (λ h.
      let at = tidy.taken piece h in
      let same : at.0 ≡ i = (orderly (snapshot_of k) k.plan valid).one_commit at.0 i piece at.1 is in
      true≢false (sym (subst (λ (c : ℕ). Has (mine p) (claims c)) same at.2) ∙ not_claimed)))
      refl)
