-- What sites hold once each action is done: what their commits put in place, which is what the source had.
use Rattle.std.proofs.Common.{◌≡◌, ◌≢◌, inl, inr, ℕ, zero, suc, ◌<◌, true, List, [], ◌∷◌, ◌++◌, length, map, Option, Some, None, slice_get, refl, sym, ap, ◌∙◌, subst, arith, eqb-true}
use Rattle.std.specs.Prelude.{slice_index_or}
use Rattle.std.specs.List.{list_any}
use Rattle.std.proofs.lemmas.Bool.{true≢false}
use Rattle.std.proofs.lemmas.Option.{none-some, same_Some, slice_get_within}
use Rattle.ts_model.specs.Trees.{Listing, Tree, at, listed, print_of, sub}
use Rattle.ts_model.specs.Plans.{Valid}
use Rattle.ts_model.specs.Runs.{Run, State, Does, Fits, Has, HasNot, IsPieceOf, Legal, acts, finishes, takes}
use Rattle.ts_model.specs.Sync.{Snapshot, replica}
use Rattle.ts_model.specs.declared.row.Content.TheVariants.{Absent}
use Rattle.ts_model.specs.declared.plan.Entry.{Entry}
use Rattle.ts_model.specs.declared.plan.Kind.TheVariants.{Piece, Commit}
use Rattle.ts_model.specs.declared.plan.Plan.{Plan}
use Rattle.ts_model.specs.declared.plan.Side.{Side}
use Rattle.ts_model.specs.declared.plan.Side.TheVariants as side
use Rattle.ts_model.specs.declared.step.Step.{Step}
use Rattle.ts_model.specs.declared.step.Step.TheVariants.{Take, Act}
use Rattle.ts_model.specs.declared.step.Work.{Work}
use Rattle.ts_model.specs.declared.step.Work.TheVariants.{Staged, Put, Marked}
use Rattle.ts_name.specs.Paths.{Path}
use Rattle.ts_laws.proofs.Lists.{Among, Contains-from_Among, any_cases, Among-left, Among-last}
use Rattle.ts_laws.proofs.Plans.{commit_exists}
use Rattle.ts_laws.proofs.Runs.{Allowed, along}
use Rattle.ts_laws.proofs.Steps.{does_of, same_kind}
use Rattle.ts_check.specs.Checkup.{Checkup, snapshot_of}
use Rattle.ts_folder.specs.declared.fault.Trouble.{Trouble}
use Rattle.ts_folder.specs.declared.folder.Call.{Call}
use Rattle.ts_board.specs.Terms.{IsToldIn, site_in, terms_with, told_after, told_in, work_in}
use Rattle.ts_board.specs.declared.law.Slot.{Slot}
use Rattle.ts_board.specs.declared.law.Slot.TheVariants.{Empty, Place, Committed, Bytes}
use Rattle.ts_exec.specs.Failures.{of_side, setting_with}
use Rattle.ts_exec.specs.Outcomes.{IsOutcome}
use Rattle.ts_exec.specs.declared.outcome.ActionResult.{ActionResult}
use Rattle.ts_exec.specs.declared.outcome.ActionResult.TheVariants.{Done}
use Rattle.ts_exec.proofs.Runs.{is_run, take_is}
use Rattle.ts_exec.proofs.Steps.{not_some}
use Rattle.ts_through.specs.Parts.{AreHeld, AreLaid, AreTaken, KeepsOthers}

-- ---- what a slot holds

-- a folder or a site in memory tells what is in it
abbrev pub all_told : Listing (List ℕ) → Option (Listing (List ℕ))
all_told rows = Some rows

-- so does what lay in a slot at the start
opening_told : (slot : Slot (Listing (List ℕ))) (before : Option (Listing (List ℕ))) → told_in all_told slot ≡ Some before → (rows : Listing (List ℕ)) × (before ≡ Some rows)
opening_told Empty before e = absurd (none-some before e)
opening_told (Place site) before e = (site, sym (same_Some (Some site) before e))
opening_told (Committed site staged) before e = (site, sym (same_Some (Some site) before e))
opening_told (Bytes bytes) before e = absurd (none-some before e)

openings_told : (slots : List (Slot (Listing (List ℕ)))) (i : ℕ) (before : Option (Listing (List ℕ))) → slice_index_or (map (told_in all_told) slots) i None ≡ Some before
    → (rows : Listing (List ℕ)) × (before ≡ Some rows)
openings_told [] i before e = absurd (none-some before e)
openings_told (slot ∷ slots) zero before e = opening_told slot before e
openings_told (slot ∷ slots) (suc i) before e = openings_told slots i before e

abbrev put_in : Work → Listing (List ℕ) → Listing (List ℕ)
put_in (Put rows) other = rows
put_in (Staged bytes) other = other
put_in Marked other = other

-- after a commit a site has what the commit put in place
committed : (opening : Option (Option (Listing (List ℕ)))) → ((before : Option (Listing (List ℕ))) → opening ≡ Some before → (rows : Listing (List ℕ)) × (before ≡ Some rows))
    → (slot : Slot (Listing (List ℕ))) (made : Listing (List ℕ)) → work_in slot ≡ Put made → IsToldIn all_told opening slot → site_in slot ≡ Some made
committed opening all Empty made work told = cc
committed opening all (Place site) made work told = cc
committed opening all (Committed site staged) made work told =
    let some = all told.0 told.1 in
    told.2 ∙ ap (λ before. told_after before staged.value.made) some.1 ∙ ap (λ w. Some (put_in w made)) work
committed opening all (Bytes bytes) made work told = cc

-- and told its content before
sited : (opening : Option (Option (Listing (List ℕ)))) → ((before : Option (Listing (List ℕ))) → opening ≡ Some before → (rows : Listing (List ℕ)) × (before ≡ Some rows))
    → (slot : Slot (Listing (List ℕ))) (made : Listing (List ℕ)) → work_in slot ≡ Put made → IsToldIn all_told opening slot → (rows : Listing (List ℕ)) × (opening ≡ Some (Some rows))
sited opening all Empty made work told = cc
sited opening all (Place site) made work told = cc
sited opening all (Committed site staged) made work told = let some = all told.0 told.1 in (some.0, told.1 ∙ ap Some some.1)
sited opening all (Bytes bytes) made work told = cc

-- ---- what a run has

act_is : (i : ℕ) (step : Step) → acts i step ≡ true → (w : Work) × (step ≡ Act i w)
act_is i (Act j w) e = (w, ap (λ j. Act j w) (sym (eqb-true i j e)))
act_is i _ e = absurd (true≢false (sym e))

-- what acted did what fits it, and what was taken are pieces
record IsWorked (s : Snapshot) (plan : Plan) (r : Run) : Type 0 where
  pub acted : (i : ℕ) → Has r (acts i) → (w : Work) × Among (Act i w) r × Fits s plan (Act i w)
  pub taken : (k : ℕ) → Has r (takes k) → (c : ℕ) × IsPieceOf plan c k

worked_next : (s : Snapshot) (plan : Plan) (r : Run) (step : Step) → IsWorked s plan r → Allowed s plan r step → IsWorked s plan (r ++ step ∷ [])
worked_next s plan r step b al = record {
  acted = λ i h. elim (any_cases (acts i) r step h) [
    | inl earlier ↦ (let f = b.acted i earlier in (f.0, Among-left (Act i f.0) r (step ∷ []) f.1, f.2))
    | inr now ↦ (let a = act_is i step now in (
      a.0,
      subst (λ z. Among z (r ++ step ∷ [])) a.1 (Among-last step r),
      subst (λ z. Fits s plan z) a.1 al.1,
    ))
  ];
  taken = λ k h. elim (any_cases (takes k) r step h) [
    | inl earlier ↦ b.taken k earlier
    | inr now ↦ (let t = take_is k step now in let a : Allowed s plan r (Take t.0 k) = subst (λ z. Allowed s plan r z) t.1 al in (t.0, a.0.1))
  ];
}

is_worked : (s : Snapshot) (plan : Plan) (r : Run) → Legal s plan r → IsWorked s plan r
is_worked s plan r legal =
    along s plan (λ z _. IsWorked s plan z) (λ z _ step b al. worked_next s plan z step b al) [] nowhere r (record { acted = λ i h. absurd (true≢false (sym h)); taken = λ k h. absurd (true≢false (sym h)) }) legal
  where
    nowhere : State
    nowhere = record { first = λ _. Absent; second = λ _. Absent; archive = λ _. Absent }

-- ---- all is done

module _ (k : Checkup) (valid : Valid (snapshot_of k) k.plan) (failures : Listing (List ℕ) → ℕ) (lets : Listing (List ℕ) → Call → Path → Trouble → Type 0)
    (first second : Listing (List ℕ)) (first_is : at k.first ≡ print_of (at first)) (second_is : at k.second ≡ print_of (at second))
    (opening slots : List (Slot (Listing (List ℕ)))) (words : List ℕ) (results : List ActionResult)
    (o : IsOutcome all_told (setting_with failures all_told lets k first second (map (told_in all_told) opening)) (terms_with all_told k.plan k.first k.second opening) results words slots)
    (all : (i : ℕ) → i < length results → slice_get results i ≡ Some Done) where
  print_is : (from : Side) → print_of (at (of_side first second from)) ≡ replica (snapshot_of k) from
  print_is side.First = sym first_is
  print_is side.Second = sym second_is

  legal : Legal (snapshot_of k) k.plan o.run
  legal = o.left.legal (snapshot_of k) (refl, refl)

  worked : IsWorked (snapshot_of k) k.plan o.run
  worked = is_worked (snapshot_of k) k.plan o.run legal

  -- each commit's site has what its source had
  pub held : AreHeld k.plan first second slots
  held c e entry from kind copied = go found.0 found.1 (does_of (snapshot_of k) k.plan c (Commit e) found.0 found.2 kind)
    where
      within : c < length k.plan.actions
      within = slice_get_within k.plan.actions c kind.0 kind.1

      finished : Has o.run (finishes c)
      finished = let count : length results ≡ length k.plan.actions = o.count in o.each c Done (all c (omega (arith, within, count)))

      found : (w : Work) × Among (Act c w) o.run × Fits (snapshot_of k) k.plan (Act c w)
      found = let run = is_run (snapshot_of k) k.plan valid o.run legal in worked.acted c (run.ordered.finished c finished)

      not_taken : HasNot o.run (takes c)
      not_taken = not_some (list_any (takes c) o.run) (λ h.
          let of = (worked.taken c h).1 in
          let clash : Commit e ≡ Piece of.entry of.offset of.size of.path = same_kind k.plan c (Commit e) (Piece of.entry of.offset of.size of.path) kind of.piece in cc)

      go : (w : Work) → Among (Act c w) o.run → Does (snapshot_of k) k.plan (Commit e) w
          → (rows : Listing (List ℕ)) × (site_in (slice_index_or slots c Empty) ≡ Some rows) × (listed rows ≡ sub (at (of_side first second from)) entry.path)
      go (Put made) there does =
          let acted = Contains-from_Among o.run (Act c (Put made)) there in
          let rests = (o.sites c within).done (Put made) acted finished not_taken in (
            made,
            committed (slice_index_or (map (told_in all_told) opening) c None) (λ before told. openings_told opening c before told) (slice_index_or slots c Empty) made rests.0 rests.1,
            o.put c e entry from made acted kind copied
                (sited (slice_index_or (map (told_in all_told) opening) c None) (λ before told. openings_told opening c before told) (slice_index_or slots c Empty) made rests.0 rests.1)
                (of_side first second from, refl, print_is from),
          )
      go (Staged bytes) there does = absurd does
      go Marked there does = absurd does

-- ---- what is held is laid

module _ (s : Snapshot) (plan : Plan) (valid : Valid s plan) (first second : Listing (List ℕ)) (slots : List (Slot (Listing (List ℕ)))) (parts : List (Listing (List ℕ)))
    (all_held : AreHeld plan first second slots) (taken : AreTaken plan slots parts) where
  -- each entry that is copied has its part
  pub laid : (from : Side) → AreLaid from (at (of_side first second from)) plan.entries parts
  laid from e entry there copied =
      let commit = commit_exists s plan valid e entry from there copied in
      let has = all_held commit.0 e entry from commit.1 (there, copied) in
      (has.0, taken commit.0 e has.0 commit.1 has.1, has.2)

-- also after parts of entries that are copied from the other side were taken out
pub still_laid : (on other : Side) → on ≢ other → (tree : Tree) (entries : List Entry) (old new : List (Listing (List ℕ)))
    → AreLaid on tree entries old → KeepsOthers other entries old new → AreLaid on tree entries new
still_laid on other differ tree entries old new are keeps e entry there why =
    let part = are e entry there why in
    (part.0, keeps e entry there (λ same. differ (same_Some on other (sym why ∙ same))) ∙ part.1, part.2)
