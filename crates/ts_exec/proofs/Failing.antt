-- Which faults acts may have, and what acts leave.
use Rattle.std.proofs.Common.{◌≡◌, ◌≢◌, ℕ, ◌+◌, ◌<◌, ◌≤◌, true, List, ◌++◌, length, take, drop, Option, Some, None, IfSome, slice_get, Result, Ok, Err, inl, inr, sym, refl, ap, ◌∙◌, subst, ⊎_elim, arith, length-take, length-drop}
use Rattle.std.specs.Prelude.{IfErr, OnErr, OnOk, IsErrOf}
use Rattle.std.specs.Result.{IsErrAnd}
use Rattle.std.proofs.lemmas.Bool.{true≢false, cases_lt}
use Rattle.std.proofs.lemmas.Option.{same_Some}
use Rattle.ts_stage.specs.Assemblies.{Assembly, IsComplete}
use Rattle.ts_site.specs.Sites.{IsPutFor, RefusesMisfits}
use Rattle.ts_name.specs.Paths.{Path}
use Rattle.ts_model.specs.Trees.{Listing, at}
use Rattle.ts_model.specs.Sync.{Snapshot}
use Rattle.ts_model.specs.Plans.{KindIs, EntryIs, Copies, Valid, source}
use Rattle.ts_model.specs.declared.plan.Entry.{Entry}
use Rattle.ts_model.specs.declared.plan.Side.{Side}
use Rattle.ts_model.specs.declared.plan.Kind.{Kind}
use Rattle.ts_model.specs.declared.plan.Kind.TheVariants.{Piece, Commit, Mark}
use Rattle.ts_model.specs.declared.plan.Plan.{Plan}
use Rattle.ts_model.specs.declared.plan.PlanRule.TheVariants.{PiecesLawful}
use Rattle.ts_model.specs.Runs as model
use Rattle.ts_model.specs.Runs.{Run, IsPending, IsPieceOf, acts, claims, fails}
use Rattle.ts_laws.proofs.Steps.{same_kind}
use Rattle.ts_exec.specs.Tidy.{AreTakes}
use Rattle.ts_exec.proofs.Steps.{takes_none}
use Rattle.ts_model.specs.declared.step.Step.TheVariants.{Act}
use Rattle.ts_model.specs.declared.step.Work.{Work}
use Rattle.ts_model.specs.declared.step.Work.TheVariants.{Staged, Marked}
use Rattle.ts_check.specs.Checkup.{Checkup}
use Rattle.ts_site.specs.declared.fault.SiteFault.{SiteFault}
use Rattle.ts_site.specs.declared.fault.SiteFault.TheVariants as site
use Rattle.ts_stage.specs.declared.fault.StageFault.{StageFault}
use Rattle.ts_stage.specs.declared.fault.StageFault.TheVariants as stage
use Rattle.ts_folder.specs.Folders.{IsFile, MayAnswer, Reads}
use Rattle.ts_folder.specs.declared.fault.FolderFault.{FolderFault}
use Rattle.ts_folder.specs.declared.fault.FolderFault.TheVariants as folder
use Rattle.ts_folder.specs.declared.fault.Trouble.{Trouble}
use Rattle.ts_board.specs.declared.law.Terms.{Terms}
use Rattle.ts_board.specs.declared.law.Slot.{Slot}
use Rattle.ts_board.specs.declared.law.Slot.TheVariants.{Empty, Place, Committed, Bytes}
use Rattle.ts_board.specs.Terms.{IsToldIn, Suits, content_of, failures_of, is_place}
use Rattle.ts_board.specs.Checks.{IsFromCheck}
use Rattle.ts_exec.specs.declared.fault.ActFault.TheVariants.{Misfit}
use Rattle.ts_exec.specs.Faults.{of_folder, of_site, of_stage}
use Rattle.ts_exec.specs.Failures.{Setting, PieceFails, CommitFails, IsChanged, IsMisfit, MayBreak}
use Rattle.ts_laws.proofs.Cuts.{any_in_longer, none_in_both}

-- a fault that `?` made of another
pub exit_maps : {U A : Type 0} (r : Result U A) (P Q : A → Type 0) → IsErrAnd r P → ((a : A) → P a → Q a) → IfErr r Q
exit_maps (Ok u) P Q h f = tt
exit_maps (Err a) P Q h f = f a h

-- ---- pieces

pub piece_copied : (s : Snapshot) (plan : Plan) → Valid s plan → (i e offset size : ℕ) (p : Path) → KindIs plan i (Piece e offset size p) → (entry : Entry) × (from : Side) × Copies plan e entry from
piece_copied s plan valid i e offset size p is = go (slice_get plan.entries e) refl
  where
    with_source : (entry : Entry) → EntryIs plan e entry → (o : Option Side) → source entry.reason ≡ o → (entry : Entry) × (from : Side) × Copies plan e entry from
    with_source entry at (Some from) e' = (entry, from, (at, e'))
    with_source entry at None e' = absurd (valid PiecesLawful i (
      e,
      offset,
      size,
      p,
      is,
      λ piece.
          let copies = piece.3 in
          let same : Some piece.0 ≡ Some entry = sym copies.0 ∙ at in
          let one : piece.0 ≡ entry = cc in
          let none : Some piece.1 ≡ None = sym copies.1 ∙ ap (λ (x : Entry). source x.reason) one ∙ e' in cc,
    ))

    go : (o : Option Entry) → slice_get plan.entries e ≡ o → (entry : Entry) × (from : Side) × Copies plan e entry from
    go None e' = absurd (valid PiecesLawful i (e, offset, size, p, is, λ piece. (let copies = piece.3 in let none : Some piece.0 ≡ None = sym copies.0 ∙ e' in cc)))
    go (Some entry) e' = with_source entry e' (source entry.reason) refl

pub piece_small : (s : Snapshot) (plan : Plan) → Valid s plan → (i e offset size : ℕ) (p : Path) → KindIs plan i (Piece e offset size p) → size ≤ 1048576
piece_small s plan valid i e offset size p is = ⊎_elim (λ (g : 1048576 < size). absurd (valid PiecesLawful i (e, offset, size, p, is, λ piece. (let range = piece.6 in let full = range.full in absurd (omega arith))))) (λ (l : size ≤ 1048576). l) (cases_lt 1048576 size)

pub read_fails : (lets : Trouble → Type 0) (jams : Type 0) (tells : Option (Listing (List ℕ))) (end : ℕ) (p : Path) (e : FolderFault) → MayAnswer lets (IfSome tells (λ rows. ¬ IsFile (at rows p))) e → PieceFails lets jams tells end p (of_folder e)
read_fails lets jams tells end p folder.OutOfMemory h = h
read_fails lets jams tells end p folder.Device h = inl h
read_fails lets jams tells end p folder.NotThere h = h
read_fails lets jams tells end p folder.Unreadable h = h

-- a piece whose stage fails
pub store_fails : (lets : Trouble → Type 0) (jams : Type 0) (tells : Option (Listing (List ℕ))) (end : ℕ) (p : Path) (e : StageFault) → (e ≡ stage.Device → jams) → PieceFails lets jams tells end p (of_stage e)
store_fails lets jams tells end p stage.OutOfMemory h = tt
store_fails lets jams tells end p stage.Device h = inr (h refl)

pub read_short : (lets : Trouble → Type 0) (jams : Type 0) (tells : Option (Listing (List ℕ))) (offset size : ℕ) (p : Path) (bytes : List ℕ) → length bytes ≢ size
    → IfSome tells (λ rows. Reads (at rows p) offset size bytes) → PieceFails lets jams tells (offset + size) p Misfit
read_short lets jams None offset size p bytes n h = h
read_short lets jams (Some rows) offset size p bytes n h = (h.bytes, h.file, short)
  where
    short : length h.bytes < offset + size
    short =
        let e : length bytes ≡ length (take size (drop offset h.bytes)) = ap length h.answered in
        let t = length-take size (drop offset h.bytes) in let d = length-drop offset h.bytes in omega arith

pub staged_suits : (t : Terms) (k : Checkup) (i e offset size : ℕ) (p : Path) (w : Work) (bytes : List ℕ) → IsFromCheck t k → KindIs k.plan i (Piece e offset size p) → w ≡ Staged bytes → length bytes ≡ size → Suits t (Act i w)
staged_suits t k i e offset size p w bytes from is same len = λ s f.
    subst (λ (x : Plan × Work). model.Fits s x.0 (Act i x.1)) (λ j. (sym from.0 j, sym same j)) (Piece e offset size p, is, len)

pub mark_suits : (t : Terms) (k : Checkup) (i e : ℕ) (w : Work) → IsFromCheck t k → KindIs k.plan i (Mark e) → w ≡ Marked → Suits t (Act i w)
mark_suits t k i e w from is same = λ s f.
    subst (λ (x : Plan × Work). model.Fits s x.0 (Act i x.1)) (λ j. (sym from.0 j, sym same j)) (Mark e, is, tt)

-- ---- commits

pub told_place : {S : Type 0} (content : S → Option (Listing (List ℕ))) (opening : Option (Option (Listing (List ℕ)))) (slot : Slot S) → IsToldIn content opening slot → is_place slot ≡ true → opening ≡ Some (content_of content slot)
told_place content opening Empty told e = absurd (true≢false (sym e))
told_place content opening (Place s) told e = told
told_place content opening (Committed s staged) told e = absurd (true≢false (sym e))
told_place content opening (Bytes bytes) told e = absurd (true≢false (sym e))

-- what a site that told its content has put in place is what was staged, and it refuses just what doesn't fit
module _ {S : Type 0} (content : S → Option (Listing (List ℕ))) (opening : Option (Option (Listing (List ℕ)))) (slot : Slot S) (told : IsToldIn content opening slot) (placed : is_place slot ≡ true)
    (rows : Listing (List ℕ)) (tells : opening ≡ Some (Some rows)) (staged : Assembly) where
  content_is : content_of content slot ≡ Some rows
  content_is = same_Some (content_of content slot) (Some rows) (sym (told_place content opening slot told placed) ∙ tells)

  pub put_staged : (put : Assembly) → IsPutFor (content_of content slot) staged put → put ≡ staged
  put_staged put is = (subst (λ z. IsPutFor z staged put) content_is is).0

  pub refuses_staged : (refuses : Type 0) → RefusesMisfits (content_of content slot) staged refuses → refuses → ¬ IsComplete staged
  refuses_staged refuses is = (subst (λ z. RefusesMisfits z staged refuses) content_is is).0

pub may_break : {S : Type 0} (failures : S → ℕ) (old now : Slot S) → is_place old ≡ true → is_place now ≡ true → failures_of failures old < failures_of failures now → MayBreak failures
may_break failures (Place a) (Place b) e f l = (a, b, l)
may_break failures Empty b e f l = absurd (true≢false (sym e))
may_break failures (Committed a s) b e f l = absurd (true≢false (sym e))
may_break failures (Bytes a) b e f l = absurd (true≢false (sym e))
may_break failures (Place a) Empty e f l = absurd (true≢false (sym f))
may_break failures (Place a) (Committed b s) e f l = absurd (true≢false (sym f))
may_break failures (Place a) (Bytes b) e f l = absurd (true≢false (sym f))

pub commit_fails : {U : Type 0} (x : Setting) (run : Run) (c : ℕ) (r : Result U SiteFault) (e : SiteFault) → r ≡ Err e → (IsErrOf r site.Device → x.breaks) → (IsErrOf r site.Changed → IsChanged x c) → (IsErrOf r site.Misfit → IsMisfit x run c)
    → CommitFails x run c (of_site e)
commit_fails x run c r site.OutOfMemory is device changed misfit = tt
commit_fails x run c r site.Device is device changed misfit = device is
commit_fails x run c r site.Changed is device changed misfit = changed is
commit_fails x run c r site.Misfit is device changed misfit = misfit is

-- ---- results

pub on_err : {U A : Type 0} (r : Result U A) (P : Type 0) → P → OnErr r P
on_err (Ok u) P h = tt
on_err (Err a) P h = h

pub on_ok_map : {U A : Type 0} (r : Result U A) (P Q : Type 0) → OnOk r P → (P → Q) → OnOk r Q
on_ok_map (Ok u) P Q h f = f h
on_ok_map (Err a) P Q h f = tt

pub if_err_map : {U A : Type 0} (r : Result U A) (P Q : A → Type 0) → IfErr r P → ((a : A) → P a → Q a) → IfErr r Q
if_err_map (Ok u) P Q h f = tt
if_err_map (Err a) P Q h f = f a h

pub on_err_map : {U A : Type 0} (r : Result U A) (P Q : Type 0) → OnErr r P → (P → Q) → OnErr r Q
on_err_map (Ok u) P Q h f = tt
on_err_map (Err a) P Q h f = f h

-- a piece or a mark has no pieces
pub no_pieces : (plan : Plan) (i k : ℕ) (kind : Kind) → KindIs plan i kind → ((e : ℕ) → kind ≢ Commit e) → ¬ IsPieceOf plan i k
no_pieces plan i k kind is other piece = other piece.entry (same_kind plan i kind (Commit piece.entry) is piece.commit)

-- takes leave an action pending
pub pending_takes : (plan : Plan) (own more : Run) (c : ℕ) → IsPending own c → AreTakes plan c more → IsPending (own ++ more) c
pending_takes plan own more c p a = (
  any_in_longer (claims c) own more p.0,
  none_in_both (acts c) own more p.1 (takes_none (acts c) plan c (λ k. refl) more a),
  none_in_both (fails c) own more p.2 (takes_none (fails c) plan c (λ k. refl) more a),
)
