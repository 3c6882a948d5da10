-- What a swept board was left by.
use Rattle.std.proofs.Common.{◌≡◌, ◌⊎◌, ◌<◌, ℕ, List, length, Option, Some, slice_get, sym, ap, ◌∙◌, subst, ⊎_elim, arith}
use Rattle.std.proofs.lemmas.Bool.{true≢false}
use Rattle.std.proofs.lemmas.Option.{slice_get_within}
use Rattle.ts_name.specs.Paths.{Path}
use Rattle.ts_model.specs.Trees.{Listing}
use Rattle.ts_model.specs.Plans.{Valid}
use Rattle.ts_model.specs.Runs.{Run, HasNot, claims, word_after}
use Rattle.ts_model.specs.declared.plan.Plan.{Plan}
use Rattle.ts_check.specs.Checkup.{Checkup, snapshot_of}
use Rattle.ts_board.specs.declared.law.Terms.{Terms}
use Rattle.ts_board.specs.declared.law.Slot.{Slot}
use Rattle.ts_board.specs.declared.board.Pass.{Pass}
use Rattle.ts_board.specs.Calls.{Ends, IsWhole, mine, seen}
use Rattle.ts_board.specs.Kept.{HasLeft}
use Rattle.ts_board.specs.Checks.{IsFromCheck}
use Rattle.ts_folder.specs.declared.folder.Call.{Call}
use Rattle.ts_folder.specs.declared.fault.Trouble.{Trouble}
use Rattle.ts_exec.specs.Failures.{MayFail, Setting, or_jammed, or_stopped, setting_with}
use Rattle.ts_exec.specs.Outcomes.{IsEnd, IsOutcome, IsReady, ResultFits, ResultIs}
use Rattle.ts_exec.specs.Stores.{IsKept, Store}
use Rattle.ts_exec.specs.Tidy.{IsTidy, Noted, Swept}
use Rattle.ts_exec.specs.declared.fault.ActFault.{ActFault}
use Rattle.ts_exec.specs.declared.outcome.ActionResult.{ActionResult}
use Rattle.ts_exec.specs.declared.outcome.ActionResult.TheVariants.{Done, Failed, Blocked, Left}
use Rattle.ts_board.proofs.Checks.{legal_for}
use Rattle.ts_board.proofs.Words.{few_open}
use Rattle.ts_exec.proofs.Closing.{open_pred}
use Rattle.ts_exec.proofs.Reading.{read_told}
use Rattle.ts_exec.proofs.Wholes.{put_told}

-- the end of a run in which what was claimed is ended
pub end_of : (k : Checkup) → Valid (snapshot_of k) k.plan → (t : Terms) → IsFromCheck t k → (r : Run) (words : List ℕ) → HasLeft t words r
    → (x : Setting) (faults : List (Option ActFault)) → IsTidy k.plan r → Noted x r r faults → IsEnd k.plan r words faults
end_of k valid t from r words left x faults tidy noted = record {
  has = record {
    words_are = λ i within. left.words_are i (subst (λ (n : ℕ). i < n) (sym (ap (λ p. length p.actions) from.0)) within) ∙ ap (λ p. word_after p r i) from.0;
    small = λ i. few_open (snapshot_of k) k.plan valid r i;
  };
  tidy = tidy;
  noted = λ i h. (let f = noted.each i h in (f.0, f.1));
}

-- where everything was tried, what was never claimed waits for something that isn't done
pub left_stopped : (k : Checkup) → Valid (snapshot_of k) k.plan → (t : Terms) → IsFromCheck t k → (r : Run) (words : List ℕ) → HasLeft t words r
    → (stops : Type 0) → Swept k.plan (length k.plan.actions) r r ⊎ stops → (i : ℕ) → i < length k.plan.actions → HasNot r (claims i) → IsReady k.plan r i → stops
left_stopped k valid t from r words left stops tried i within none ready = ⊎_elim
    (λ (swept : Swept k.plan (length k.plan.actions) r r).
    let one = open_pred (snapshot_of k) k.plan valid r (legal_for t k from r left.legal) i within none (swept i within) in
    absurd (true≢false (sym (ready one.0 one.1) ∙ one.2)))
    (λ (may : stops). may)
    tried

same_fault : (faults : List (Option ActFault)) (i : ℕ) (e f : ActFault) → slice_get faults i ≡ Some (Some e) → slice_get faults i ≡ Some (Some f) → e ≡ f
same_fault faults i e f p q = cc

-- a noted fault is one that the action may have
pub result_fits : (x : Setting) (r : Run) (faults : List (Option ActFault)) → Noted x r r faults
    → (i : ℕ) → (HasNot r (claims i) → IsReady x.checkup.plan r i → x.stops) → (result : ActionResult) → ResultIs x.checkup.plan r faults i result → ResultFits x r i result
result_fits x r faults noted i left Done is = is
result_fits x r faults noted i left (Failed f) is = (is.0, (let n = noted.each i is.0 in subst (λ (z : ActFault). MayFail x r i z) (same_fault faults i n.0 f n.1 is.1) n.2))
result_fits x r faults noted i left (Blocked k) is = is
result_fits x r faults noted i left Left is = (is.0, is.1, left is.0 is.1)

-- ---- the board is closed with a whole pass

module _ {S F : Type 0} (content : S → Option (Listing (List ℕ))) (failures : S → ℕ) (tells : F → Option (Listing (List ℕ))) (lets : F → Call → Path → Trouble → Type 0)
    (k : Checkup) (valid : Valid (snapshot_of k) k.plan) (first second : F) (t opened : Terms) (same : t ≡ opened) (checked : IsFromCheck opened k)
    (p : Pass S) (words : List ℕ) (slots : List (Slot S)) (faults : List (Option ActFault)) (ends : Ends content t p words slots) (whole : IsWhole p)
    (jams stops : Type 0) (tidy : IsTidy k.plan (mine p)) (noted : Noted (or_jammed jams (or_stopped stops (setting_with failures tells lets k first second t.told))) (mine p) (seen p) faults)
    (swept : Swept k.plan (length k.plan.actions) (mine p) (seen p) ⊎ stops) where
  abbrev pub setting : Terms → Setting
  setting z = or_jammed jams (or_stopped stops (setting_with failures tells lets k first second z.told))

  from : IsFromCheck t k
  from = subst (λ (z : Terms). IsFromCheck z k) (sym same) checked

  seen_is : seen p ≡ ends.0
  seen_is = sym (ends.1.2 whole).0

  own_is : mine p ≡ ends.0
  own_is = (ends.1.2 whole).1 ∙ seen_is

  noted_there : Noted (setting t) ends.0 ends.0 faults
  noted_there = subst (λ (r : Run). Noted (setting t) ends.0 r faults) seen_is (subst (λ (r : Run). Noted (setting t) r (seen p) faults) own_is noted)

  pub end : IsEnd k.plan ends.0 words faults
  end = end_of k valid t from ends.0 words ends.1.0 (setting t) faults
      (subst (λ (r : Run). IsTidy k.plan r) own_is tidy)
      noted_there

  tried : Swept k.plan (length k.plan.actions) ends.0 ends.0 ⊎ stops
  tried = subst (λ (r : Run). Swept k.plan (length k.plan.actions) ends.0 r ⊎ stops) seen_is (subst (λ (r : Run). Swept k.plan (length k.plan.actions) r (seen p) ⊎ stops) own_is swept)

  stopped : (i : ℕ) (results : List ActionResult) (result : ActionResult) → slice_get results i ≡ Some result → length results ≡ length k.plan.actions → HasNot ends.0 (claims i) → IsReady k.plan ends.0 i → stops
  stopped i results result is count none ready =
      let within = slice_get_within results i result is in
      left_stopped k valid t from ends.0 words ends.1.0 stops tried i (omega arith) none ready

  here : (results : List ActionResult) → length results ≡ length k.plan.actions → ((i : ℕ) (result : ActionResult) → slice_get results i ≡ Some result → ResultIs k.plan ends.0 faults i result) → IsOutcome content (setting t) t results words slots
  here results count each = record {
    run = ends.0;
    left = ends.1.0;
    read = read_told (setting t) ends.0 ends.0 noted_there.told;
    put = put_told (setting t) ends.0 noted_there.told;
    count = count ∙ sym (ap (λ (plan : Plan). length plan.actions) from.0);
    each = λ i result is. result_fits (setting t) ends.0 faults noted_there i (stopped i results result is count) result (each i result is);
    sites = ends.2;
  }

  -- with what was stored while this run went on
  pub kept_outcome : (results : List ActionResult) → length results ≡ length k.plan.actions → ((i : ℕ) (result : ActionResult) → slice_get results i ≡ Some result → ResultIs k.plan ends.0 faults i result)
      → (before after : Store) → IsKept k before (seen p) after → (of : IsOutcome content (setting opened) opened results words slots) × IsKept k before of.run after
  unfolding here
  kept_outcome results count each before after kept = subst (λ (z : Terms). (of : IsOutcome content (setting z) z results words slots) × IsKept k before of.run after) same
      (here results count each, subst (λ (r : Run). IsKept k before r after) seen_is kept)
