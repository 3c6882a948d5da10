-- What a commit put in place is what its source has.
use Rattle.std.proofs.Common.{◌≡◌, ℕ, List, Option, Some, None, Result, Ok, Err, sym, ap, ◌∙◌, subst}
use Rattle.std.specs.Prelude.{IsErrOf, OnOk}
use Rattle.std.proofs.lemmas.Option.{none-some, same_Some}
use Rattle.ts_site.specs.declared.fault.SiteFault.{SiteFault}
use Rattle.ts_site.specs.declared.fault.SiteFault.TheVariants.{Misfit}
use Rattle.ts_site.specs.Sites.{IsPutFor, RefusesMisfits}
use Rattle.ts_name.specs.Paths.{Path}
use Rattle.ts_model.specs.Trees.{Listing, listed, print_of, sub, at}
use Rattle.ts_model.specs.Sync.{Snapshot, replica}
use Rattle.ts_model.specs.declared.row.Content.{Content}
use Rattle.ts_model.specs.declared.row.Stamp.{Stamp}
use Rattle.ts_model.specs.declared.plan.Plan.{Plan}
use Rattle.ts_model.specs.declared.plan.Side.{Side}
use Rattle.ts_model.specs.declared.plan.Side.TheVariants as side
use Rattle.ts_model.specs.declared.plan.Kind.TheVariants.{Commit}
use Rattle.ts_model.specs.Runs as model
use Rattle.ts_model.specs.declared.step.Step.TheVariants.{Act}
use Rattle.ts_model.specs.declared.step.Work.{Work}
use Rattle.ts_model.specs.declared.step.Work.TheVariants.{Put}
use Rattle.ts_stage.specs.Assemblies.{Assembly, IsComplete}
use Rattle.ts_print.specs.Parts.{Part}
use Rattle.ts_stage.proofs.Assembling.{print-listed}
use Rattle.ts_check.specs.Checkup.{Checkup, IsSourcePart, snapshot_of}
use Rattle.ts_board.specs.declared.law.Terms.{Terms}
use Rattle.ts_board.specs.declared.law.Slot.{Slot}
use Rattle.ts_board.specs.declared.law.Slot.TheVariants.{Empty, Place, Committed, Bytes}
use Rattle.ts_board.specs.Terms.{IsFor, Suits, content_of, site_in, work_in}
use Rattle.ts_board.specs.Checks.{IsFromCheck, PutsInPlace}

same_replica : (s : Snapshot) (t : Terms) (k : Checkup) → IsFor t s → IsFromCheck t k → (from : Side) → replica s from ≡ replica (snapshot_of k) from
same_replica s t k f e side.First = f.0 ∙ ap at e.1
same_replica s t k f e side.Second = f.1 ∙ ap at e.2

pub put_suits : (k : Checkup) (t : Terms) (c : ℕ) (put : Assembly) (part : Part) → IsFromCheck t k → IsSourcePart k c part → put.wanted ≡ part.rows → IsComplete put → Suits t (Act c (Put put.made))
put_suits k t c put part e source wanted complete s f =
    let e_of = source.of_commit in
    let whole : print_of (listed put.made) ≡ sub (replica s source.from) source.entry.path =
    (print-listed put.made ∙ ap listed complete ∙ ap listed wanted) ∙ source.rows ∙ ap (λ (r : Path → Content Stamp). sub r source.entry.path) (sym (same_replica s t k f e source.from)) in
    subst (λ (p : Plan). model.Fits s p (Act c (Put put.made))) (sym e.0) (Commit e_of.0, e_of.1, (source.entry, source.from, e_of.2, whole))

-- what is put in place is complete, and has the stamps that are wanted, whether its site tells anything or not
put_fits : (told : Option (Listing (List ℕ))) (staged put : Assembly) → IsPutFor told staged put → IsComplete put × (put.wanted ≡ staged.wanted)
put_fits None staged put is = (is.2, is.1)
put_fits (Some rows) staged put is = (is.1, ap (λ z. z.wanted) is.0)

pub suits_ok : {S U : Type 0} (content : S → Option (Listing (List ℕ))) (r : Result U SiteFault) (k : Checkup) (c action : ℕ) (old new : Slot S) (staged : Assembly) (part : Part) → IsSourcePart k c part → staged.wanted ≡ part.rows → action ≡ c
    → (Replaced : Listing (List ℕ) → Type 0) → OnOk r (PutsInPlace content staged old new Replaced) → OnOk r ((t : Terms) → IsFromCheck t k → Suits t (Act action (work_in new)))
suits_ok content (Ok u) k c action old new staged part source wanted same Replaced puts = λ t e.
    let fits = put_fits (content_of content old) staged puts.put puts.fits in
    subst (λ (x : ℕ × Work). Suits t (Act x.0 x.1)) (λ i. (sym same i, sym puts.work i)) (put_suits k t c puts.put part e source (fits.1 ∙ wanted) fits.0)
suits_ok content (Err f) k c action old new staged part source wanted same Replaced puts = tt

-- ---- refusals

-- the content that a slot's site tells is the site's
pub content_at : {S : Type 0} (content : S → Option (Listing (List ℕ))) (slot : Slot S) (site : S) → site_in slot ≡ Some site → content_of content slot ≡ content site
content_at content Empty site is = absurd (none-some site is)
content_at content (Place other) site is = ap content (same_Some other site is)
content_at content (Committed other put) site is = ap content (same_Some other site is)
content_at content (Bytes bytes) site is = absurd (none-some site is)

same_refusal : (A B : Type 0) (told : Option (Listing (List ℕ))) (staged : Assembly) (f : SiteFault) → RefusesMisfits told staged (IsErrOf {T = A} (Err f) Misfit) → RefusesMisfits told staged (IsErrOf {T = B} (Err f) Misfit)
same_refusal A B None staged f h = tt
same_refusal A B (Some rows) staged f h = ((λ e. h.0 (ap Err (inner B e))), λ held n. ap Err (inner A (h.1 held n)))
  where
    inner : (U : Type 0) → ◌≡◌ {A = Result U SiteFault} (Err f) (Err Misfit) → f ≡ Misfit
    inner U e = cc

-- a site's refusal that is handed on says the same, whatever else might have been answered
pub refuses_on : {S : Type 0} (A B : Type 0) (content : S → Option (Listing (List ℕ))) (slot : Slot S) (site : S) → site_in slot ≡ Some site → (staged : Assembly) (f : SiteFault)
    → RefusesMisfits (content site) staged (IsErrOf {T = A} (Err f) Misfit) → RefusesMisfits (content_of content slot) staged (IsErrOf {T = B} (Err f) Misfit)
refuses_on A B content slot site there staged f h =
    subst (λ told. RefusesMisfits told staged (IsErrOf {T = B} (Err f) Misfit)) (sym (content_at content slot site there)) (same_refusal A B (content site) staged f h)
