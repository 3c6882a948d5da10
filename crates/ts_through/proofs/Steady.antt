-- Folders and sites in memory are steady: they tell the trees that the plan was checked with, and none of them fails.
use Rattle.std.proofs.Common.{◌≡◌, ◌≢◌, inl, ℕ, zero, suc, ◌<◌, List, [], ◌∷◌, map, Some, None, refl, sym, ap, ◌∙◌, subst, arith}
use Rattle.std.specs.Prelude.{slice_index_or}
use Rattle.std.proofs.lemmas.Option.{none-some, same_Some}
use Rattle.ts_model.specs.Plans.{IsCopied, Valid}
use Rattle.ts_model.specs.Sync.{replica}
use Rattle.ts_model.specs.Trees.{Listing, Print, Tree, at, listed, print_of, sub}
use Rattle.ts_model.specs.declared.plan.PlanRule.TheVariants.{OneCommit}
use Rattle.ts_model.specs.declared.plan.Side.{Side}
use Rattle.ts_model.specs.declared.plan.Side.TheVariants as side
use Rattle.ts_name.specs.Paths.{Path}
use Rattle.ts_site.specs.Sites.{Differs}
use Rattle.ts_laws.proofs.Basics.{stable}
use Rattle.ts_laws.proofs.Rules.{decide_copied}
use Rattle.ts_check.specs.Checkup.{Checkup, IsCommit, snapshot_of, target}
use Rattle.ts_folder.specs.declared.fault.Trouble.{Trouble}
use Rattle.ts_folder.specs.declared.folder.Call.{Call}
use Rattle.ts_board.specs.Terms.{site_in, told_in}
use Rattle.ts_board.specs.declared.law.Slot.{Slot}
use Rattle.ts_board.specs.declared.law.Slot.TheVariants.{Empty, Place, Committed, Bytes}
use Rattle.ts_exec.specs.Failures.{IsChanged, Setting, TellsSite, of_side, setting_with}
use Rattle.ts_exec.specs.Outcomes.{IsSteady}
use Rattle.ts_through.specs.Parts.{AreHeld}
use Rattle.ts_through.proofs.Held.{all_told}

-- a site that lies in a slot tells what is in it
told_site : (slot : Slot (Listing (List ℕ))) (rows : Listing (List ℕ)) → site_in slot ≡ Some rows → told_in all_told slot ≡ Some (Some rows)
told_site Empty rows is = absurd (none-some rows is)
told_site (Place site) rows is = ap Some is
told_site (Committed site staged) rows is = ap Some is
told_site (Bytes bytes) rows is = absurd (none-some rows is)

told_sites : (slots : List (Slot (Listing (List ℕ)))) (c : ℕ) (rows : Listing (List ℕ)) → site_in (slice_index_or slots c Empty) ≡ Some rows
    → slice_index_or (map (told_in all_told) slots) c None ≡ Some (Some rows)
told_sites [] c rows is = absurd (none-some rows is)
told_sites (slot ∷ slots) zero rows is = told_site slot rows is
told_sites (slot ∷ slots) (suc c) rows is = told_sites slots c rows is

-- what lists the same as a tree at a path has the tree's print there
same_print : (rows : Listing (List ℕ)) (t : Tree) (p : Path) → listed rows ≡ sub t p → print_of (listed rows) ≡ sub (print_of t) p
same_print rows t p lists = ap print_of lists

-- sites have what the targets of their commits had when the plan was checked: each site what an exchanged pair's source has
module _ (k : Checkup) (first second : Listing (List ℕ)) (first_is : at k.first ≡ print_of (at first)) (second_is : at k.second ≡ print_of (at second))
    (opening : List (Slot (Listing (List ℕ)))) (targets : AreHeld k.plan second first opening) where
  abbrev quiet : Setting
  quiet = setting_with (λ (s : Listing (List ℕ)). 0) all_told (λ (f : Listing (List ℕ)) (call : Call) (p : Path) (t : Trouble). ⊥) k first second (map (told_in all_told) opening)

  source_print : (from : Side) → print_of (at (of_side first second from)) ≡ replica (snapshot_of k) from
  source_print side.First = sym first_is
  source_print side.Second = sym second_is

  target_print : (from : Side) → print_of (at (of_side second first from)) ≡ replica (snapshot_of k) (target from)
  target_print side.First = sym second_is
  target_print side.Second = sym first_is

  unchanged : (c : ℕ) → ¬ IsChanged quiet c
  unchanged c changed =
      let content = changed.0 in let part = changed.2.0 in let of = changed.2.1 in
      let site = targets c of.of_commit.0 of.entry of.from of.of_commit.1 of.of_commit.2 in
      let same : content ≡ Some site.0 = same_Some content (Some site.0) (sym changed.1 ∙ told_sites opening c site.0 site.1) in
      let differs : print_of (listed site.0) ≢ listed part.rows = subst (λ z. Differs z part.rows) same changed.2.2 in
      absurd (differs (same_print site.0 (at (of_side second first of.from)) of.entry.path site.2 ∙ ap (λ (t : Print). sub t of.entry.path) (target_print of.from) ∙ sym of.rows))

  -- a commit is of an entry that is copied, and its site tells what it has
  sited : Valid (snapshot_of k) k.plan → (c : ℕ) → IsCommit k.plan c → TellsSite quiet c
  sited valid c (e, kind) =
      let copied : IsCopied k.plan e = stable (decide_copied k.plan e) (λ none. valid OneCommit c (inl (e, kind, inl none))) in
      let site = targets c e copied.0 copied.1 kind copied.2 in
      (site.0, told_sites opening c site.0 site.1)

  pub steady : Valid (snapshot_of k) k.plan → IsSteady quiet
  steady valid = record {
    tells = λ from. (of_side first second from, refl, source_print from);
    sited = sited valid;
    readable = λ from p t lets. lets;
    unchanged = unchanged;
    unbroken = λ breaks. let less : 0 < 0 = breaks.2 in omega (arith, less);
    unjammed = λ jams. jams;
  }
