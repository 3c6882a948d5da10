-- A run in which each result says that its action is done, and which action isn't.
use Rattle.std.proofs.Common.{◌≡◌, ℕ, ◌<◌, List, Option, Some, length, slice_get, sym, ap, ◌∙◌, arith}
use Rattle.std.specs.Prelude.{slice_index}
use Rattle.std.specs.Int.{bit_at}
use Rattle.ts_model.specs.Trees.{Listing}
use Rattle.ts_model.specs.Plans.{Valid}
use Rattle.ts_model.specs.Runs.{word_after}
use Rattle.ts_check.specs.Checkup.{Checkup, snapshot_of}
use Rattle.ts_board.specs.Archives.{IsDone}
use Rattle.ts_board.specs.Checks.{IsFromCheck}
use Rattle.ts_board.specs.declared.law.Slot.{Slot}
use Rattle.ts_board.specs.declared.law.Terms.{Terms}
use Rattle.ts_exec.specs.Failures.{Setting}
use Rattle.ts_exec.specs.Outcomes.{IsOutcome}
use Rattle.ts_exec.specs.declared.outcome.ActionResult.{ActionResult}
use Rattle.ts_exec.specs.declared.outcome.ActionResult.TheVariants.{Done, Blocked, Left}
use Rattle.std.proofs.lemmas.Bool.{true≢false}
use Rattle.ts_laws.proofs.Lists.{Among-from_Contains, below_bound}
use Rattle.ts_laws.proofs.Runs.{preds_ascend}
use Rattle.ts_through.specs.Parts.{AreBlockedByEarlier, NoneIsLeft}
use Rattle.ts_board.proofs.Words.{done_word, few_open}
use Rattle.ts_board.specs.Runs.{bit}

-- so do the words
pub words_done : {S : Type 0} {content : S → Option (Listing (List ℕ))} {x : Setting} {t : Terms} {results : List ActionResult} {words : List ℕ} {slots : List (Slot S)} (k : Checkup)
    → IsOutcome content x t results words slots → IsFromCheck t k → Valid (snapshot_of k) k.plan → ((i : ℕ) → i < length results → slice_get results i ≡ Some Done)
    → (i : ℕ) → i < length k.plan.actions → IsDone (slice_index words i)
words_done {t = t} k o from valid all i within =
    let same : length t.plan.actions ≡ length k.plan.actions = ap (λ p. length p.actions) from.0 in
    let count = o.count in
    ap (λ n. bit_at n 33) (o.left.words_are i (omega arith) ∙ ap (λ p. word_after p o.run i) from.0)
    ∙ done_word k.plan o.run i (few_open (snapshot_of k) k.plan valid o.run i)
    ∙ ap bit (o.each i Done (all i (omega arith)))

-- a blocked action waits for an earlier one that isn't done
pub blocked_by_earlier : {S : Type 0} {content : S → Option (Listing (List ℕ))} {x : Setting} {t : Terms} {results : List ActionResult} {words : List ℕ} {slots : List (Slot S)}
    → IsOutcome content x t results words slots → Valid (snapshot_of x.checkup) x.checkup.plan → AreBlockedByEarlier results
blocked_by_earlier {x = x} o valid i k is =
    let fits = o.each i (Blocked k) is in let waits = fits.1.waits in (
      below_bound i waits.0.preds k (preds_ascend (snapshot_of x.checkup) x.checkup.plan valid i waits.0 waits.1) (Among-from_Contains waits.0.preds k waits.2),
      λ done. true≢false (sym (o.each k Done done) ∙ fits.1.not_done),
    )

-- a run that isn't stopped leaves no action that could have been claimed
pub none_left : {S : Type 0} {content : S → Option (Listing (List ℕ))} {x : Setting} {t : Terms} {results : List ActionResult} {words : List ℕ} {slots : List (Slot S)}
    → IsOutcome content x t results words slots → ¬ x.stops → NoneIsLeft results
none_left o never i is = never (o.each i Left is).2
