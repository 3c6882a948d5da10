-- What one allowed step does to the replicas and to the archive.
use Rattle.std.proofs.Common.{◌≡◌, ◌⊎◌, ℕ, List, Option, Some, None, slice_get, sym, refl, ap, ◌∙◌, subst, inl, inr}
use Rattle.std.proofs.lemmas.Option.{none-some, same_Some}
use Rattle.ts_model.specs.Trees.{Tree, Listing, listed, sub, print_of}
use Rattle.ts_model.specs.Sync.{Snapshot, replica, HasReason, IsSkipped}
use Rattle.ts_model.specs.Plans.{EntryIs, KindIs, source, IsMarked, Valid}
use Rattle.ts_model.specs.declared.plan.PlanRule.TheVariants.{ReasonsHold, OneMark}
use Rattle.ts_model.specs.Runs.{Run, Does, Fits, State, graft, with_copied, marked, entry_of, after_put, with_mark, after_step}
use Rattle.ts_model.specs.declared.plan.Side.TheVariants as side
use Rattle.ts_model.specs.declared.step.Step.{Step}
use Rattle.ts_model.specs.declared.step.Step.TheVariants.{Claim, Take, Act, Done, Fail, Release}
use Rattle.ts_model.specs.declared.step.Work.{Work}
use Rattle.ts_model.specs.declared.step.Work.TheVariants.{Staged, Put, Marked}
use Rattle.ts_model.specs.declared.plan.Side.{Side}
use Rattle.ts_model.specs.declared.plan.Entry.{Entry}
use Rattle.ts_model.specs.declared.plan.Kind.{Kind}
use Rattle.ts_model.specs.declared.plan.Kind.TheVariants.{Piece, Commit, Mark}
use Rattle.ts_model.specs.declared.plan.Plan.{Plan}
use Rattle.ts_laws.proofs.Runs.{Allowed, same_action}
use Rattle.ts_laws.proofs.Basics.{stable}
use Rattle.ts_laws.proofs.Reasons.{other, decide_skipped}
use Rattle.ts_name.proofs.Basics.{same_at}

-- the tree of a side
abbrev pub tree_on : State → Side → Tree
tree_on w side.First = w.first
tree_on w side.Second = w.second

-- ---- what a plan says is one thing

-- one action has one kind
pub same_kind : (plan : Plan) (i : ℕ) (x y : Kind) → KindIs plan i x → KindIs plan i y → x ≡ y
same_kind plan i x y h k = sym h.2 ∙ ap (λ z. z.kind) (same_action plan i h.0 k.0 h.1 k.1) ∙ k.2

-- one number has one entry
pub same_entry : (plan : Plan) (e : ℕ) (x y : Entry) → EntryIs plan e x → EntryIs plan e y → x ≡ y
same_entry plan e x y = same_at plan.entries e x y

-- what a plan has as the entry of an action of this kind
abbrev pub entry_in : Plan → Kind → Option Entry
entry_in plan (Piece e offset size p) = slice_get plan.entries e
entry_in plan (Commit e) = slice_get plan.entries e
entry_in plan (Mark e) = slice_get plan.entries e

-- is the entry of each such action
pub entry_of_kind : (plan : Plan) (i : ℕ) (kind : Kind) → KindIs plan i kind → entry_of plan i ≡ entry_in plan kind
entry_of_kind plan i kind is = ap (λ o. elim o [ None ↦ None | Some action ↦ entry_in plan action.kind ]) is.1 ∙ ap (entry_in plan) is.2

-- an entry's reason holds
pub reason_holds : (s : Snapshot) (plan : Plan) → Valid s plan → (e : ℕ) (entry : Entry) → EntryIs plan e entry → ¬ (¬ HasReason s entry.path entry.reason)
reason_holds s plan valid e entry is = λ n. valid ReasonsHold e (entry, is, n)

-- what an action did is of its kind
pub does_of : (s : Snapshot) (plan : Plan) (i : ℕ) (kind : Kind) (work : Work) → Fits s plan (Act i work) → KindIs plan i kind → Does s plan kind work
does_of s plan i kind work fits is = subst (λ z. Does s plan z work) (same_kind plan i fits.0 kind fits.1 is) fits.2

-- ---- replicas

-- a copy of entry onto a side
pub record IsCommitted (s : Snapshot) (plan : Plan) (w : State) (step : Step) (on : Side) (entry : Entry) (content : Tree) : Type 0 where
  pub print : print_of content ≡ sub (replica s (other on)) entry.path
  pub tree : tree_on (after_step s plan w step) on ≡ graft (tree_on w on) entry.path content

-- what a step does to a side
pub data Change (s : Snapshot) (plan : Plan) (w : State) (step : Step) (on : Side) : Type 0 where
  kept : tree_on (after_step s plan w step) on ≡ tree_on w on → Change s plan w step on
  copied : (i e : ℕ) (entry : Entry) (rows : Listing (List ℕ)) → step ≡ Act i (Put rows) → KindIs plan i (Commit e) → EntryIs plan e entry → source entry.reason ≡ Some (other on)
      → IsCommitted s plan w step on entry (listed rows) → Change s plan w step on

-- what is put in place goes to the side that isn't the entry's source, and leaves its source
pub put_on : (w : State) (entry : Entry) (from : Side) (content : Tree) (on : Side) → from ≡ other on → source entry.reason ≡ Some from
    → tree_on (after_put w (Some entry) content) on ≡ graft (tree_on w on) entry.path content
put_on w entry from content side.First e is = ap (λ o. tree_on (with_copied w o entry.path content) side.First) (is ∙ ap Some e)
put_on w entry from content side.Second e is = ap (λ o. tree_on (with_copied w o entry.path content) side.Second) (is ∙ ap Some e)

-- the source stays
pub source_kept : (w : State) (entry : Entry) (from : Side) (content : Tree) → source entry.reason ≡ Some from
    → tree_on (after_put w (Some entry) content) from ≡ tree_on w from
source_kept w entry side.First content is = ap (λ o. tree_on (with_copied w o entry.path content) side.First) is
source_kept w entry side.Second content is = ap (λ o. tree_on (with_copied w o entry.path content) side.Second) is

-- two sides are one, or each the other
pub side_cases : (from on : Side) → (from ≡ on) ⊎ (from ≡ other on)
side_cases side.First side.First = inl refl
side_cases side.First side.Second = inr refl
side_cases side.Second side.First = inr refl
side_cases side.Second side.Second = inl refl

-- a commit that put an entry's source in place
pub committed : (s : Snapshot) (plan : Plan) (w : State) (i : ℕ) (rows : Listing (List ℕ)) (e : ℕ) (entry : Entry) (on : Side)
    → Fits s plan (Act i (Put rows)) → KindIs plan i (Commit e) → EntryIs plan e entry → source entry.reason ≡ Some (other on)
    → IsCommitted s plan w (Act i (Put rows)) on entry (listed rows)
committed s plan w i rows e entry on fits kind is from_other = go (does_of s plan i (Commit e) (Put rows) fits kind)
  where
    go : Does s plan (Commit e) (Put rows) → IsCommitted s plan w (Act i (Put rows)) on entry (listed rows)
    go (x, from, (is_x, from_x), print_is) =
        let same : x ≡ entry = same_entry plan e x entry is_x is in
        let from_is : from ≡ other on = same_Some from (other on) (sym from_x ∙ ap (λ z. source z.reason) same ∙ from_other) in
        record {
          print = print_is ∙ ap (λ z. sub (replica s z) x.path) from_is ∙ ap (λ z. sub (replica s (other on)) z.path) same;
          tree = ap (λ o. tree_on (after_put w o (listed rows)) on) (entry_of_kind plan i (Commit e) kind ∙ is) ∙ put_on w entry (other on) (listed rows) on refl from_other;
        }

-- an allowed step keeps a side, or copies an entry onto it
pub change : (s : Snapshot) (plan : Plan) (r : Run) (w : State) (step : Step) (on : Side) → Allowed s plan r step → Change s plan w step on
change s plan r w (Act i (Put rows)) on allowed = go allowed.1.0 allowed.1.1 allowed.1.2
  where
    copies : (e : ℕ) → KindIs plan i (Commit e) → (x : Entry) (from : Side) → EntryIs plan e x → source x.reason ≡ Some from → (from ≡ on) ⊎ (from ≡ other on)
        → Change s plan w (Act i (Put rows)) on
    copies e kind x from is_x from_x (inl at) =
        kept (ap (λ o. tree_on (after_put w o (listed rows)) on) (entry_of_kind plan i (Commit e) kind ∙ is_x) ∙ source_kept w x on (listed rows) (from_x ∙ ap Some at))
    copies e kind x from is_x from_x (inr at) =
        copied i e x rows refl kind is_x (from_x ∙ ap Some at) (committed s plan w i rows e x on allowed.1 kind is_x (from_x ∙ ap Some at))

    go : (kind : Kind) → KindIs plan i kind → Does s plan kind (Put rows) → Change s plan w (Act i (Put rows)) on
    go (Commit e) kind (x, from, (is_x, from_x), print_is) = copies e kind x from is_x from_x (side_cases from on)
    go (Piece e offset size p) kind does = absurd does
    go (Mark e) kind does = absurd does
change s plan r w (Act i (Staged bytes)) on allowed = kept refl
change s plan r w (Act i Marked) side.First allowed = kept refl
change s plan r w (Act i Marked) side.Second allowed = kept refl
change s plan r w (Claim i) on allowed = kept refl
change s plan r w (Take c k) on allowed = kept refl
change s plan r w (Done i) on allowed = kept refl
change s plan r w (Fail i) on allowed = kept refl
change s plan r w (Release i j) on allowed = kept refl

-- ---- the archive

-- whether an entry is to be marked
pub decide_marked : (plan : Plan) (e : ℕ) → Dec (IsMarked plan e)
decide_marked plan e = go (slice_get plan.entries e) refl
  where
    go : (o : Option Entry) → slice_get plan.entries e ≡ o → Dec (IsMarked plan e)
    go None is = no (λ h. none-some h.0 (sym is ∙ h.1))
    go (Some entry) is = elim (decide_skipped entry.reason) [
      | no h ↦ yes (entry, is, h)
      | yes h ↦ no (λ m. m.2 (subst (λ z. IsSkipped z.reason) (same_entry plan e entry m.0 is m.1) h))
    ]

-- a mark is of an entry that is to be marked
pub mark_is_marked : (s : Snapshot) (plan : Plan) → Valid s plan → (i e : ℕ) → KindIs plan i (Mark e) → IsMarked plan e
mark_is_marked s plan valid i e kind = stable (decide_marked plan e) (λ n. valid OneMark i (inl (e, kind, inl n)))

-- what a step does to the archive
pub data Marking (s : Snapshot) (plan : Plan) (w : State) (step : Step) : Type 0 where
  unmarked : (after_step s plan w step).archive ≡ w.archive → Marking s plan w step
  marks : (i e : ℕ) (entry : Entry) → step ≡ Act i Marked → KindIs plan i (Mark e) → EntryIs plan e entry → ¬ IsSkipped entry.reason
      → (after_step s plan w step).archive ≡ graft w.archive entry.path (marked s entry.reason entry.path) → Marking s plan w step

-- what is put in place leaves the archive
pub put_keeps_archive : (w : State) (o : Option Entry) (content : Tree) → (after_put w o content).archive ≡ w.archive
put_keeps_archive w None content = refl
put_keeps_archive w (Some entry) content = go (source entry.reason)
  where
    go : (o : Option Side) → (with_copied w o entry.path content).archive ≡ w.archive
    go None = refl
    go (Some side.First) = refl
    go (Some side.Second) = refl

-- a mark's step grafts what it writes
pub marked_archive : (s : Snapshot) (plan : Plan) (w : State) (i e : ℕ) (entry : Entry) → KindIs plan i (Mark e) → EntryIs plan e entry
    → (after_step s plan w (Act i Marked)).archive ≡ graft w.archive entry.path (marked s entry.reason entry.path)
marked_archive s plan w i e entry kind is = ap (λ o. with_mark s w.archive o) (entry_of_kind plan i (Mark e) kind ∙ is)

-- an allowed step keeps the archive, or writes an entry's mark
pub marking : (s : Snapshot) (plan : Plan) → Valid s plan → (r : Run) (w : State) (step : Step) → Allowed s plan r step → Marking s plan w step
marking s plan valid r w (Act i Marked) allowed = go allowed.1.0 allowed.1.1 allowed.1.2
  where
    go : (kind : Kind) → KindIs plan i kind → Does s plan kind Marked → Marking s plan w (Act i Marked)
    go (Mark e) kind does =
        let found = mark_is_marked s plan valid i e kind in
        marks i e found.0 refl kind found.1 found.2 (marked_archive s plan w i e found.0 kind found.1)
    go (Commit e) kind does = absurd does
    go (Piece e offset size p) kind does = absurd does
marking s plan valid r w (Act i (Put rows)) allowed = unmarked (put_keeps_archive w (entry_of plan i) (listed rows))
marking s plan valid r w _ allowed = unmarked refl
