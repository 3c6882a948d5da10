-- Which steps have read what folders tell, and faults after more steps.
use Rattle.std.proofs.Common.{◌≡◌, ℕ, [], ◌∷◌, ◌++◌, sym, ap, ◌∙◌, subst, inl, inr, append_assoc}
use Rattle.std.specs.Prelude.{Contains}
use Rattle.ts_model.specs.Plans.{KindIs}
use Rattle.ts_model.specs.Runs.{Run}
use Rattle.ts_model.specs.declared.plan.Kind.{Kind}
use Rattle.ts_model.specs.declared.plan.Kind.TheVariants.{Piece, Commit, Mark}
use Rattle.ts_model.specs.declared.plan.Plan.{Plan}
use Rattle.ts_model.specs.declared.step.Step.{Step}
use Rattle.ts_model.specs.declared.step.Step.TheVariants.{Claim, Take, Act, Done, Fail, Release}
use Rattle.ts_model.specs.declared.step.Work.{Work}
use Rattle.ts_name.proofs.Utf8.{all_append, all_parts}
use Rattle.ts_name.proofs.Basics.{weaker}
use Rattle.ts_laws.proofs.Lists.{all_among, Among-from_Contains}
use Rattle.ts_board.specs.Kept.{IsMerged}
use Rattle.ts_board.specs.Runs.{StartsWith}
use Rattle.ts_exec.specs.Failures.{Setting, AreRead, AreTold, HasTold, IsRead, IsReadStep, IsTold, IsToldStep, KindFails, MayFail}
use Rattle.ts_exec.specs.Tidy.{AreReleases, AreTakes}
use Rattle.ts_exec.specs.declared.fault.ActFault.{ActFault}
use Rattle.ts_exec.specs.declared.fault.ActFault.TheVariants as fault

-- ---- runs

pub read_front : (x : Setting) (seen more : Run) → StartsWith more seen → AreRead x more → AreRead x seen
read_front x seen more later read = (all_parts (IsReadStep x) seen later.0 (subst (λ (z : Run). AreRead x z) later.1 read)).0

pub told_merged : (x : Setting) (r xs ys zs : Run) → IsMerged xs ys zs → AreTold x r xs → AreTold x r ys → AreTold x r zs
told_merged x r xs ys [] m one other = tt
told_merged x r xs ys (z ∷ zs) (inl m) one other =
    let parts : AreTold x r (z ∷ m.0) = subst (λ (l : Run). AreTold x r l) m.1 one in (parts.0, told_merged x r m.0 ys zs m.2 parts.1 other)
told_merged x r xs ys (z ∷ zs) (inr m) one other =
    let parts : AreTold x r (z ∷ m.0) = subst (λ (l : Run). AreTold x r l) m.1 other in (parts.0, told_merged x r xs m.0 zs m.2 one parts.1)

-- of more steps less may be asked
kind_told_later : (x : Setting) (seen more : Run) → StartsWith more seen → (i : ℕ) (kind : Kind) (w : Work) → HasTold x seen i kind w → HasTold x more i kind w
kind_told_later x seen more later i (Piece e offset size p) w h = h
kind_told_later x seen more later i (Commit e) w h = (h.0, h.1, h.2, h.3, h.4, λ sited told read. h.5 sited told (read_front x seen more later read))
kind_told_later x seen more later i (Mark e) w h = h

step_later : (x : Setting) (seen more : Run) → StartsWith more seen → (step : Step) → IsToldStep x seen step → IsToldStep x more step
step_later x seen more later (Claim i) h = h
step_later x seen more later (Take c k) h = h
step_later x seen more later (Act i w) h = (h.0, h.1, kind_told_later x seen more later i h.0 w h.2)
step_later x seen more later (Done i) h = h
step_later x seen more later (Fail i) h = h
step_later x seen more later (Release i j) h = h

pub told_later : (x : Setting) (seen more : Run) → StartsWith more seen → (own : Run) → AreTold x seen own → AreTold x more own
told_later x seen more later own told = weaker (IsToldStep x seen) (IsToldStep x more) (step_later x seen more later) own told

-- such steps have read
kind_read : (x : Setting) (r : Run) (i : ℕ) (kind : Kind) (w : Work) → KindIs x.checkup.plan i kind → HasTold x r i kind w → IsRead x i w
kind_read x r i (Piece e offset size p) w is h = (Piece e offset size p, is, h)
kind_read x r i (Commit e) w is h = (Commit e, is, tt)
kind_read x r i (Mark e) w is h = (Mark e, is, tt)

step_read : (x : Setting) (r : Run) (step : Step) → IsToldStep x r step → IsReadStep x step
step_read x r (Claim i) h = h
step_read x r (Take c k) h = h
step_read x r (Act i w) h = kind_read x r i h.0 w h.1 h.2
step_read x r (Done i) h = h
step_read x r (Fail i) h = h
step_read x r (Release i j) h = h

pub read_told : (x : Setting) (r own : Run) → AreTold x r own → AreRead x own
read_told x r own told = weaker (IsToldStep x r) (IsReadStep x) (step_read x r) own told

-- what acted in such a run has read
pub read_act : (x : Setting) (r : Run) (i : ℕ) (w : Work) → AreRead x r → Contains r (Act i w) → IsRead x i w
read_act x r i w read there = all_among (IsReadStep x) r read (Act i w) (Among-from_Contains r (Act i w) there)

-- ---- one try

told_takes : (x : Setting) (r : Run) (plan : Plan) (c : ℕ) (xs : Run) → AreTakes plan c xs → AreTold x r xs
told_takes x r plan c [] a = tt
told_takes x r plan c (y ∷ ys) a = (subst (λ (z : Step). IsToldStep x r z) (sym a.0.1) tt, told_takes x r plan c ys a.1)

told_releases : (x : Setting) (r : Run) (i : ℕ) (xs : Run) → AreReleases i xs → AreTold x r xs
told_releases x r i [] a = tt
told_releases x r i (y ∷ ys) a = (subst (λ (z : Step). IsToldStep x r z) (sym a.0.1) tt, told_releases x r i ys a.1)

pub told_failed : (x : Setting) (r : Run) (plan : Plan) (i : ℕ) (more : Run) → AreTakes plan i more → AreTold x r ((Claim i ∷ more) ++ Fail i ∷ [])
told_failed x r plan i more takes = all_append (IsToldStep x r) (Claim i ∷ more) (Fail i ∷ []) (tt, told_takes x r plan i more takes) (tt, tt)

pub told_done : (x : Setting) (seen r : Run) (plan : Plan) (i : ℕ) (more rest : Run) (w : Work) → StartsWith r seen → AreTakes plan i more → AreReleases i rest → IsTold x seen i w → AreTold x r ((Claim i ∷ more) ++ Act i w ∷ Done i ∷ rest)
told_done x seen r plan i more rest w later takes frees told =
    all_append (IsToldStep x r) (Claim i ∷ more) (Act i w ∷ Done i ∷ rest) (tt, told_takes x r plan i more takes) (step_later x seen r later (Act i w) told, (tt, told_releases x r i rest frees))

-- ---- faults

kind_later : (x : Setting) (seen more : Run) → StartsWith more seen → (i : ℕ) (kind : Kind) (f : ActFault) → KindFails x seen i kind f → KindFails x more i kind f
kind_later x seen more later i (Piece e offset size p) f h = h
kind_later x seen more later i (Commit e) fault.OutOfMemory h = h
kind_later x seen more later i (Commit e) fault.Device h = h
kind_later x seen more later i (Commit e) fault.NotThere h = h
kind_later x seen more later i (Commit e) fault.Unreadable h = h
kind_later x seen more later i (Commit e) fault.Changed h = h
kind_later x seen more later i (Commit e) fault.Misfit h = λ sited. (let m = h sited in (m.0, m.1, m.2, m.3, m.4, λ told read. m.5 told (read_front x seen more later read)))
kind_later x seen more later i (Mark e) f h = h

pub may_later : (x : Setting) (seen more : Run) → StartsWith more seen → (i : ℕ) (f : ActFault) → MayFail x seen i f → MayFail x more i f
may_later x seen more later i f h = (h.0, h.1, kind_later x seen more later i h.0 f h.2)

-- steps that were made after others
pub starts_after : (seen between own more : Run) → more ≡ (seen ++ between) ++ own → StartsWith more seen
starts_after seen between own more e = (between ++ own, e ∙ append_assoc seen between own)

pub starts_through : (first then last : Run) → StartsWith then first → StartsWith last then → StartsWith last first
starts_through first then last a b = (a.0 ++ b.0, b.1 ∙ ap (λ (z : Run). z ++ b.0) a.1 ∙ append_assoc first a.0 b.0)
