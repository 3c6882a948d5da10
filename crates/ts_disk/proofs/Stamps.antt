-- Whether a file that is read in pieces has a stamp.
use Rattle.std.proofs.Common.{◌≡◌, ◌≢◌, ◌↔◌, Bool, Some, None, IfSome, IsTrue, eqb, eqb-true, sym, ap, ◌∙◌}
use Rattle.std.proofs.lemmas.Slice.Eq.{bytes_eq-Decides}
use Rattle.std.specs.Cmp.Lexicographic.{pointwise}
use Rattle.ts_name.specs.Paths.{Path}
use Rattle.ts_model.specs.Trees.{at, stamp_of, stamped}
use Rattle.ts_model.specs.declared.row.Content.{Content}
use Rattle.ts_model.specs.declared.row.Content.TheVariants.{File}
use Rattle.ts_model.specs.declared.row.Stamp.{Stamp}
use Rattle.ts_scan.specs.Files.{HasStamp}
use Rattle.ts_scan.specs.Scans.{Told}

same_stamp : (a b : Stamp) → ◌≡◌ {A = Content Stamp} (File a) (File b) → a ≡ b
same_stamp a b e = cc

-- stamps are one where both their parts are
stamps_agree : (seen stamp : Stamp) (b : Bool) → seen.size ≡ stamp.size → b ≡ pointwise eqb seen.digest stamp.digest → IsTrue b ↔ (seen ≡ stamp)
stamps_agree seen stamp b size tested = (
  (λ yes. let digest = (bytes_eq-Decides seen.digest stamp.digest).0 (sym tested ∙ yes) in λ i. record { size = size i; digest = digest i }),
  (λ e. tested ∙ (bytes_eq-Decides seen.digest stamp.digest).1 (ap (λ s. s.digest) e)),
)

-- one that was read to its end has the stamp where size and digest are the same
pub read_whole :
    (told : Told) (p : Path) (seen stamp : Stamp) (b : Bool) → IfSome told (λ tree. HasStamp (at tree p) seen) → seen.size ≡ stamp.size
    → b ≡ pointwise eqb seen.digest stamp.digest → IfSome told (λ tree. IsTrue b ↔ (stamped (at tree p) ≡ File stamp))
read_whole None p seen stamp b has size tested = tt
read_whole (Some tree) p seen stamp b has size tested =
    let agree = stamps_agree seen stamp b size tested in (
      (λ yes. ap stamped has.1 ∙ ap File (sym has.2 ∙ agree.0 yes)),
      (λ e. agree.1 (has.2 ∙ same_stamp (stamp_of has.0) stamp (sym (ap stamped has.1) ∙ e))),
    )

-- and hasn't where the size differs
pub read_other :
    (told : Told) (p : Path) (seen stamp : Stamp) → IfSome told (λ tree. HasStamp (at tree p) seen) → seen.size ≢ stamp.size
    → IfSome told (λ tree. IsTrue (eqb seen.size stamp.size) ↔ (stamped (at tree p) ≡ File stamp))
read_other None p seen stamp has differs = tt
read_other (Some tree) p seen stamp has differs = (
  (λ yes. absurd (differs (eqb-true seen.size stamp.size yes))),
  (λ e. absurd (differs (ap (λ s. s.size) (has.2 ∙ same_stamp (stamp_of has.0) stamp (sym (ap stamped has.1) ∙ e))))),
)
