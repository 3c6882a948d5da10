-- Over folders that tell trees of the checked prints nothing misfits, and where nothing else is wrong actions fail only where memory runs out.
use Rattle.std.proofs.Common.{◌≡◌, ℕ, ◌+◌, ◌<◌, List, length, Option, IfSome, refl, ap, ◌∙◌, subst, arith, ⊎_elim}
use Rattle.ts_model.specs.Trees.{Listing, at}
use Rattle.ts_model.specs.Plans.{KindIs, Valid}
use Rattle.ts_model.specs.Runs.{Run}
use Rattle.ts_model.specs.declared.plan.Kind.{Kind}
use Rattle.ts_model.specs.declared.plan.Kind.TheVariants.{Piece, Commit, Mark}
use Rattle.ts_model.specs.declared.plan.Side.{Side}
use Rattle.ts_model.specs.declared.row.Content.TheVariants.{File}
use Rattle.ts_laws.proofs.Steps.{entry_of_kind}
use Rattle.ts_board.specs.declared.law.Slot.{Slot}
use Rattle.ts_board.specs.declared.law.Terms.{Terms}
use Rattle.ts_check.specs.Checkup.{IsCommit, snapshot_of}
use Rattle.ts_exec.specs.Failures.{AreRead, KindFails, Setting, TellsSite, TellsTree}
use Rattle.ts_exec.specs.Outcomes.{IsCopiedFrom, IsOutcome, IsSteady, MisfitsAreUntold, OnlyMemoryRanOut}
use Rattle.ts_exec.specs.declared.fault.ActFault.{ActFault}
use Rattle.ts_exec.specs.declared.fault.ActFault.TheVariants.{OutOfMemory, Device, NotThere, Unreadable, Changed, Misfit}
use Rattle.ts_folder.specs.Folders.{IsFile}
use Rattle.ts_folder.specs.declared.fault.Trouble.TheVariants as trouble
use Rattle.ts_exec.specs.declared.outcome.ActionResult.{ActionResult}
use Rattle.ts_exec.specs.declared.outcome.ActionResult.TheVariants.{Failed}
use Rattle.ts_exec.proofs.Ranges.{lawful, range_within, same_bytes}

module _ (x : Setting) (valid : Valid (snapshot_of x.checkup) x.checkup.plan) (r : Run) (read : AreRead x r) where
  untold : (i : ℕ) (kind : Kind) → KindIs x.checkup.plan i kind → KindFails x r i kind Misfit → (IsCommit x.checkup.plan i → TellsSite x i) → (from : Side) × IsCopiedFrom x.checkup.plan i from × (¬ TellsTree x from)
  untold i (Piece e offset size p) is h sited = (
    h.1,
    (h.0, entry_of_kind x.checkup.plan i (Piece e offset size p) is ∙ h.2.0, h.2.1),
    λ (told : TellsTree x h.1).
        let short : (bytes : List ℕ) × (at told.0 p ≡ File bytes) × (length bytes < offset + size) =
        subst (λ (o : Option (Listing (List ℕ))). IfSome o (λ rows. (bytes : List ℕ) × (at rows p ≡ File bytes) × (length bytes < offset + size))) told.1 h.3 in
        let c = lawful (snapshot_of x.checkup) x.checkup.plan valid e h.0 h.1 h.2 (at told.0) told.2 i offset size p is in
        let fits = range_within (length c.0) offset size c.2.0 in
        let same = ap length (same_bytes (at told.0 p) c.0 short.0 c.1 short.1) in
        let less = short.2 in omega arith,
  )
  untold i (Commit e) is h sited =
      let m = h (sited (e, is)) in let of = m.2 in
      (of.from, (of.entry, entry_of_kind x.checkup.plan i (Commit of.of_commit.0) of.of_commit.1 ∙ of.of_commit.2.0, of.of_commit.2.1), λ told. m.5 told read)
  untold i (Mark e) is h sited = absurd h

  -- why an action may fail where all is steady
  steady_fails : IsSteady x → (i : ℕ) (kind : Kind) (f : ActFault) → KindIs x.checkup.plan i kind → KindFails x r i kind f → f ≡ OutOfMemory
  steady_fails steady i (Piece e offset size p) OutOfMemory is h = refl
  steady_fails steady i (Piece e offset size p) Device is h = ⊎_elim (λ l. absurd (steady.readable h.1 p trouble.Device l)) (λ j. absurd (steady.unjammed j)) h.3
  steady_fails steady i (Piece e offset size p) NotThere is h =
      let told = steady.tells h.1 in
      let c = lawful (snapshot_of x.checkup) x.checkup.plan valid e h.0 h.1 h.2 (at told.0) told.2 i offset size p is in
      let gone : ¬ IsFile (at told.0 p) = subst (λ (o : Option (Listing (List ℕ))). IfSome o (λ rows. ¬ IsFile (at rows p))) told.1 h.3 in
      absurd (gone (c.0, c.1))
  steady_fails steady i (Piece e offset size p) Unreadable is h = absurd (steady.readable h.1 p trouble.Unreadable h.3)
  steady_fails steady i (Piece e offset size p) Changed is h = absurd h.3
  steady_fails steady i (Piece e offset size p) Misfit is h = let none = untold i (Piece e offset size p) is h (steady.sited i) in absurd (none.2 (steady.tells none.0))
  steady_fails steady i (Commit e) OutOfMemory is h = refl
  steady_fails steady i (Commit e) Device is h = absurd (steady.unbroken h)
  steady_fails steady i (Commit e) NotThere is h = absurd h
  steady_fails steady i (Commit e) Unreadable is h = absurd h
  steady_fails steady i (Commit e) Changed is h = absurd (steady.unchanged i h)
  steady_fails steady i (Commit e) Misfit is h = let none = untold i (Commit e) is h (steady.sited i) in absurd (none.2 (steady.tells none.0))
  steady_fails steady i (Mark e) f is h = absurd h

pub misfits_untold : {S : Type 0} (content : S → Option (Listing (List ℕ))) (x : Setting) → Valid (snapshot_of x.checkup) x.checkup.plan → (t : Terms) (results : List ActionResult) (words : List ℕ) (slots : List (Slot S))
    → IsOutcome content x t results words slots → MisfitsAreUntold x results
misfits_untold content x valid t results words slots o i at sited = (
    let fits = o.each i (Failed Misfit) at in
    untold x valid o.run o.read i fits.1.0 fits.1.1 fits.1.2 sited)

pub only_memory_ran_out : {S : Type 0} (content : S → Option (Listing (List ℕ))) (x : Setting) → Valid (snapshot_of x.checkup) x.checkup.plan → (t : Terms) (results : List ActionResult) (words : List ℕ) (slots : List (Slot S))
    → IsOutcome content x t results words slots → IsSteady x → OnlyMemoryRanOut results
only_memory_ran_out content x valid t results words slots o steady i f at = (
    let fits = o.each i (Failed f) at in
    steady_fails x valid o.run o.read steady i fits.1.0 f fits.1.1 fits.1.2)
