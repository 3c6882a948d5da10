-- A board is opened for what was checked.
--     terms_for content k sites    the terms of a board for this checked plan and the sites of its commits
--     IsFromCheck t k              the terms are those of this checked plan
--     ReplacesPrint content before old new made    what a site tells in its slot before and after, where it had this print
--     ReplacesTarget, DiffersFromTarget    what a commit's site tells, against the target's print of the commit
--     PutsInPlace content staged old new R what the act of a commit has put in place of what was staged, by its site's slot before and after; R says
--                                          of it what was replaced
use Rattle.std.specs.Prelude.{◌≡◌, ℕ, List, Option}
use Rattle.ts_check.specs.Checkup.{Checkup, IsTargetPart}
use Rattle.ts_model.specs.Trees.{Listing}
use Rattle.ts_print.specs.Parts.{Part}
use Rattle.ts_model.specs.declared.row.Stamp.{Stamp}
use Rattle.ts_model.specs.declared.step.Work.TheVariants.{Put}
use Rattle.ts_stage.specs.Assemblies.{Assembly}
use Rattle.ts_site.specs.Sites.{Differs, IsPutFor, Replaces}
use Rattle.ts_board.specs.declared.law.Terms.{Terms}
use Rattle.ts_board.specs.declared.law.Slot.{Slot}
use Rattle.ts_board.specs.Terms.{content_of, opening_terms, work_in}

-- the terms are those of this checked plan
abbrev pub IsFromCheck : Terms → Checkup → Type 0
IsFromCheck t k = (t.plan ≡ k.plan) × (t.first ≡ k.first) × (t.second ≡ k.second)

-- the sites are those of the commits, in order
abbrev pub terms_for : {S : Type 0} → (S → Option (Listing (List ℕ))) → Checkup → List S → Terms
terms_for content k sites = opening_terms content k.plan k.first k.second sites

-- where the site in the slot tells its content, it had this print, and is now what was made
abbrev pub ReplacesPrint : {S : Type 0} → (S → Option (Listing (List ℕ))) → Listing Stamp → Slot S → Slot S → Listing (List ℕ) → Type 0
ReplacesPrint content before old new made = Replaces (content_of content old) (content_of content new) before made

-- where the site in the slot tells its content, it had the print of the target's part of the commit, and is now what was made
abbrev pub ReplacesTarget : {S : Type 0} → (S → Option (Listing (List ℕ))) → Checkup → ℕ → Slot S → Slot S → Listing (List ℕ) → Type 0
ReplacesTarget content k c old new made = (part : Part) × IsTargetPart k c part × Replaces (content_of content old) (content_of content new) part.rows made

-- where a site tells its content, that hasn't the print of the target's part of the commit
abbrev pub DiffersFromTarget : Checkup → ℕ → Option (Listing (List ℕ)) → Type 0
DiffersFromTarget k c content = (part : Part) × IsTargetPart k c part × Differs content part.rows

pub record PutsInPlace {S : Type 0} (content : S → Option (Listing (List ℕ))) (staged : Assembly) (old new : Slot S) (IsReplaced : Listing (List ℕ) → Type 0) : Type 0 where
  pub put : Assembly
  pub work : work_in new ≡ Put put.made
  pub fits : IsPutFor (content_of content old) staged put
  pub replaced : IsReplaced put.made
