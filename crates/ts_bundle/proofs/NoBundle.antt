-- What a decoder answers after some lines.
use Rattle.std.proofs.Common.{◌≡◌, ◌≢◌, List, ◌++◌, Err, sym, ◌∙◌}
use Rattle.ts_text.specs.Lines.{Reading, HasEnded, Answers}
use Rattle.ts_text.specs.declared.fault.TextFault.{TextFault}
use Rattle.ts_text.specs.declared.fault.TextFault.TheVariants as text_fault
use Rattle.ts_model.specs.Texts.{Line, text, bundle_lines}
use Rattle.ts_model.specs.Trial.{IsNoBundle}
use Rattle.ts_tree.proofs.Lines.{AreTextLines, one_text}
use Rattle.ts_tree.proofs.NoTree.{known_weaker}
use Rattle.ts_tree.proofs.Taken.{Taken, taken_all, taken_failed, taken_first, taken_refused}
use Rattle.ts_bundle.specs.Bundles.{BeginsNoBundle, SpellsNoBundle}
use Rattle.ts_bundle.specs.Decoding.{FindsNoBundle}
use Rattle.ts_bundle.specs.Faults.{Refuses, fault_of_text}
use Rattle.ts_bundle.specs.declared.fault.BundleFault.{BundleFault}
use Rattle.ts_bundle.specs.declared.fault.BundleFault.TheVariants as fault
use Rattle.ts_bundle.proofs.Lines.{bundle_are_lines}

-- the line reader answered a fault
pub no_bundle_read : (old now next : Reading) (fed : List Line) (e : TextFault) → Taken old now fed → Answers now (Err e) next → FindsNoBundle old next (fault_of_text e)
no_bundle_read old now next fed text_fault.OutOfMemory taken answers = absurd answers
no_bundle_read old now next fed text_fault.Failed taken answers = taken_failed old now next fed taken answers
no_bundle_read old now next fed text_fault.NotCanonical taken answers =
    known_weaker old.left (λ bytes. (xs : List Line) → AreTextLines xs → bytes ≢ text xs) IsNoBundle
    (λ bytes none b is. none (bundle_lines b) (bundle_are_lines b is.bundle) is.spelled) (taken_refused old now next fed taken answers)

-- the reader of bundles refused the line
pub no_bundle_line : (old now : Reading) (fed : List Line) (e : BundleFault) → Taken old now fed → Refuses (BeginsNoBundle fed) e → FindsNoBundle old now e
no_bundle_line old now fed fault.OutOfMemory taken refuses = tt
no_bundle_line old now fed fault.Failed taken refuses = absurd refuses
no_bundle_line old now fed fault.Malformed taken refuses =
    known_weaker old.left (λ bytes. (xs : List Line) → AreTextLines xs → bytes ≡ text xs → (rest : List Line) × (xs ≡ fed ++ rest)) IsNoBundle
    (λ bytes first b is. let found = first (bundle_lines b) (bundle_are_lines b is.bundle) is.spelled in refuses b found.0 is.bundle found.1) (taken_first old now fed taken)

-- the lines ended, but are no bundle's
pub no_bundle_ended : (old now next : Reading) (fed : List Line) (e : BundleFault) → Taken old now fed → HasEnded now next → Refuses (SpellsNoBundle fed) e → FindsNoBundle old next e
no_bundle_ended old now next fed fault.OutOfMemory taken ends refuses = tt
no_bundle_ended old now next fed fault.Failed taken ends refuses = absurd refuses
no_bundle_ended old now next fed fault.Malformed taken ends refuses =
    known_weaker old.left (λ bytes. bytes ≡ text fed) IsNoBundle
    (λ bytes all b is. refuses b is.bundle (one_text (bundle_lines b) fed (bundle_are_lines b is.bundle) taken.lines (sym is.spelled ∙ all))) (taken_all old now next fed taken ends)
