-- Where commits are made, action after action.
use Rattle.std.proofs.Common.{◌≡◌, ◌≢◌, ◌<◌, ◌≤◌, ◌+◌, ℕ, suc, subst, add-one, List, [], ◌∷◌, ◌++◌, Option, Some, drop, get_or, length, map, slice_get, sym, ap, ◌∙◌, refl, append_assoc}
use Rattle.std.proofs.lemmas.List.{drop_all, length-map, map-append}
use Rattle.std.proofs.lemmas.List.{append-nil}
use Rattle.ts_board.specs.Terms.{commit_count}
use Rattle.std.proofs.Math.Seq.{drop-cons}
use Rattle.ts_model.specs.declared.plan.Action.{Action}
use Rattle.ts_model.specs.declared.plan.Entry.{Entry}
use Rattle.ts_model.specs.declared.plan.Kind.{Kind}
use Rattle.ts_model.specs.declared.plan.Kind.TheVariants.{Piece, Commit, Mark}
use Rattle.ts_perform.specs.Stands.{Stand, source_root, stand_at, stand_of, stands_of, target_root}

-- where the commits from an action on are made, by its kind
stands_from : List ℕ → List ℕ → List Entry → Kind → List (Option Stand) → List (Option Stand)
stands_from first second entries kind rest = elim kind [
  | Piece e offset size p ↦ rest
  | Commit e ↦ stand_at first second (slice_get entries e) ∷ rest
  | Mark e ↦ rest
]

one_more : (first second : List ℕ) (entries : List Entry) (action : Action) (kind : Kind) (rest : List Action) → action.kind ≡ kind
    → stands_of first second entries (action ∷ rest) ≡ stands_from first second entries kind (stands_of first second entries rest)
unfolding stands_from
one_more first second entries action kind rest is = ap (λ k. stands_from first second entries k (stands_of first second entries rest)) is

from_here : (actions : List Action) (i : ℕ) (action : Action) → i < length actions → action ≡ get_or actions i action → drop i actions ≡ action ∷ drop (i + 1) actions
from_here actions i action within is = subst (λ n. drop i actions ≡ action ∷ drop n actions) (sym (add-one i)) (drop-cons actions i action within ∙ ap (λ (a : Action). a ∷ drop (suc i) actions) (sym is))

-- a commit's site is put behind those before it
pub with_commit : {S : Type 0} (stand : S → Stand) (sites : List S) (site : S) (first second : List ℕ) (entries : List Entry) (actions : List Action) (i : ℕ) (action : Action) (e : ℕ) (entry : Entry) (all : List (Option Stand))
    → i < length actions → action ≡ get_or actions i action → action.kind ≡ Commit e → slice_get entries e ≡ Some entry → stand site ≡ stand_of first second entry
    → map (λ s. Some (stand s)) sites ++ stands_of first second entries (drop i actions) ≡ all
    → map (λ s. Some (stand s)) (sites ++ site ∷ []) ++ stands_of first second entries (drop (i + 1) actions) ≡ all
unfolding stands_from
with_commit stand sites site first second entries actions i action e entry all within is kind read stands before =
    let rest = stands_of first second entries (drop (i + 1) actions) in
    let had = map (λ s. Some (stand s)) sites in
    let here : stands_of first second entries (drop i actions) ≡ Some (stand site) ∷ rest =
    ap (stands_of first second entries) (from_here actions i action within is) ∙ one_more first second entries action (Commit e) (drop (i + 1) actions) kind
    ∙ ap (λ (o : Option Entry). stand_at first second o ∷ rest) read ∙ ap (λ (s : Stand). Some s ∷ rest) (sym stands) in
    ap (λ (l : List (Option Stand)). l ++ rest) (map-append (λ s. Some (stand s)) sites (site ∷ [])) ∙ append_assoc had (Some (stand site) ∷ []) rest ∙ ap (λ (l : List (Option Stand)). had ++ l) (sym here) ∙ before

-- the kind of an action that is no commit
other_kind : (first second : List ℕ) (entries : List Entry) (kind : Kind) (rest : List (Option Stand)) → ((e : ℕ) → kind ≢ Commit e) → stands_from first second entries kind rest ≡ rest
unfolding stands_from
other_kind first second entries (Piece e offset size p) rest other = refl
other_kind first second entries (Commit e) rest other = absurd (other e refl)
other_kind first second entries (Mark e) rest other = refl

-- all else has no site
pub without_commit : (first second : List ℕ) (entries : List Entry) (actions : List Action) (i : ℕ) (action : Action) (had all : List (Option Stand))
    → i < length actions → action ≡ get_or actions i action → ((e : ℕ) → action.kind ≢ Commit e)
    → had ++ stands_of first second entries (drop i actions) ≡ all
    → had ++ stands_of first second entries (drop (i + 1) actions) ≡ all
without_commit first second entries actions i action had all within is other before =
    let rest = stands_of first second entries (drop (i + 1) actions) in
    let here : stands_of first second entries (drop i actions) ≡ rest =
    ap (stands_of first second entries) (from_here actions i action within is) ∙ one_more first second entries action action.kind (drop (i + 1) actions) refl ∙ other_kind first second entries action.kind rest other in
    ap (λ (l : List (Option Stand)). had ++ l) (sym here) ∙ before

-- as many as the plan has commits
more_stands : (first second : List ℕ) (entries : List Entry) (kind : Kind) (rest : List (Option Stand)) (n : ℕ) → length rest ≡ n
    → length (stands_from first second entries kind rest) ≡ elim kind [ Piece e offset size p ↦ n | Commit e ↦ n + 1 | Mark e ↦ n ]
unfolding stands_from
more_stands first second entries (Piece e offset size p) rest n h = h
more_stands first second entries (Commit e) rest n h = ap suc h ∙ sym (add-one n)
more_stands first second entries (Mark e) rest n h = h

pub stands_counted : (first second : List ℕ) (entries : List Entry) (actions : List Action) → length (stands_of first second entries actions) ≡ commit_count actions
unfolding stands_from
stands_counted first second entries [] = refl
stands_counted first second entries (action ∷ actions) = more_stands first second entries action.kind (stands_of first second entries actions) (commit_count actions) (stands_counted first second entries actions)

pub sites_counted : {S : Type 0} (stand : S → Stand) (sites : List S) (first second : List ℕ) (entries : List Entry) (actions : List Action)
    → map (λ s. Some (stand s)) sites ≡ stands_of first second entries actions → length sites ≡ commit_count actions
sites_counted {S} stand sites first second entries actions same = sym (length-map {A = S} {B = Option Stand} sites (λ s. Some (stand s))) ∙ ap length same ∙ stands_counted first second entries actions

-- a site stands where it was asked to
pub stands_so : (stand : Stand) (root source first second : List ℕ) (entry : Entry) → stand ≡ record { root = root; source = source; path = entry.path }
    → root ≡ target_root first second entry.reason → source ≡ source_root first second entry.reason → stand ≡ stand_of first second entry
stands_so stand root source first second entry is target from =
    is ∙ ap (λ (r : List ℕ). record { root = r; source = source; path = entry.path }) target ∙ ap (λ (r : List ℕ). record { root = target_root first second entry.reason; source = r; path = entry.path }) from

-- behind the last action no site is left to be put
pub at_end : (first second : List ℕ) (entries : List Entry) (actions : List Action) (i : ℕ) (had all : List (Option Stand)) → length actions ≤ i
    → had ++ stands_of first second entries (drop i actions) ≡ all → had ≡ all
at_end first second entries actions i had all past whole =
    sym (append-nil had) ∙ ap (λ (l : List Action). had ++ stands_of first second entries l) (sym (drop_all i actions past)) ∙ whole
