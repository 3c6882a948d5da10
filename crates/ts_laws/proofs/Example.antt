-- The premises can be met: a snapshot with a valid plan, where a file is new in the first replica.
use Rattle.std.proofs.Common.{◌≡◌, ◌≢◌, ◌⊎◌, ℕ, zero, suc, ◌<◌, Bool, true, false, cond, List, [], ◌∷◌, ◌++◌, Contains, slice_index, sym, refl, ap, ◌∙◌, subst, inl, inr, arith}
use Rattle.std.proofs.lemmas.Bool.{cases_Bool, cond-false}
use Rattle.std.proofs.lemmas.Option.{none-some, same_Some}
use Rattle.std.proofs.lemmas.Str.{IsUtf8-from_ascii}
use Rattle.ts_name.specs.Paths.{Name, Path, IsName, IsPath, same_name}
use Rattle.ts_model.specs.Trees.{Tree, sub, stamp_of, stamped, print_of, IsTree}
use Rattle.ts_model.proofs.Reasons.{nothing_no_reason}
use Rattle.ts_model.specs.Sync.{Snapshot, HasReason, Because, AreBothDirs, TouchesHeld, IsDirty, Agree}
use Rattle.ts_model.specs.Plans.{EntryIs, ActionIs, KindIs, IsCopied, IsPiece, IsMarked, AscendBelow, Waits, Valid}
use Rattle.ts_model.specs.declared.plan.PlanRule.TheVariants.{Limits, EntriesAscend, ReasonsHold, EntriesComplete, PredsAscend, OneCommit, PiecesLawful, PiecesComplete, OneMark, PiecesFirst, CommitFirst, DirFirst}
use Rattle.ts_model.specs.declared.plan.Side.TheVariants as side
use Rattle.ts_model.specs.declared.plan.Reason.TheVariants as reason
use Rattle.ts_model.specs.declared.row.Content.{Content}
use Rattle.ts_model.specs.declared.row.Content.TheVariants.{Absent, Dir, File}
use Rattle.ts_model.specs.declared.row.Stamp.{Stamp}
use Rattle.ts_model.specs.declared.plan.Reason.{Reason}
use Rattle.ts_model.specs.declared.plan.Entry.{Entry}
use Rattle.ts_model.specs.declared.plan.Kind.{Kind}
use Rattle.ts_model.specs.declared.plan.Kind.TheVariants.{Piece, Commit, Mark}
use Rattle.ts_model.specs.declared.plan.Action.{Action}
use Rattle.ts_model.specs.declared.plan.Plan.{Plan}
use Rattle.ts_model.specs.Headline.{Meets, Premises}
use Rattle.ts_laws.specs.Laws.{ValidExample}
use Rattle.ts_laws.proofs.Basics.{IsTree-print}
use Rattle.ts_name.specs.Laws.{same_name_equal}
use Rattle.ts_name.proofs.Basics.{at_each}
use Rattle.ts_laws.proofs.Lists.{Contains-from_Among}

-- the file's name is "x"
abbrev x_name : Name
x_name = 120 ∷ []

-- its path
abbrev x_path : Path
x_path = (120 ∷ []) ∷ []

-- a tree of the root alone
abbrev bare : {F : Type 0} → Path → Content F
bare [] = Dir
bare (n ∷ ps) = Absent

-- a tree of one file, with these bytes
abbrev with_file : List ℕ → Tree
with_file bytes [] = Dir
with_file bytes (n ∷ []) = cond (same_name n (120 ∷ [])) (File bytes) Absent
with_file bytes (n ∷ m ∷ ps) = Absent

-- the file is new in the first replica
abbrev state : List ℕ → Snapshot
state bytes = record { archive = bare; first = print_of (with_file bytes); second = print_of bare; rules = [] }

-- it is to be copied
abbrev entry : Entry
entry = record { path = (120 ∷ []) ∷ []; reason = reason.First }

-- its one byte is staged
abbrev piece : Action
piece = record { kind = Piece 0 0 1 ((120 ∷ []) ∷ []); preds = [] }

-- then it is put in place
abbrev commit : Action
commit = record { kind = Commit 0; preds = 0 ∷ [] }

-- then the archive is brought up to date
abbrev mark : Action
mark = record { kind = Mark 0; preds = 1 ∷ [] }

-- the whole plan
abbrev plan : Plan
plan = record {
  entries = (record { path = (120 ∷ []) ∷ []; reason = reason.First }) ∷ [];
  actions = (record { kind = Piece 0 0 1 ((120 ∷ []) ∷ []); preds = [] }) ∷ (record { kind = Commit 0; preds = 0 ∷ [] }) ∷ (record { kind = Mark 0; preds = 1 ∷ [] }) ∷ [];
}

-- ---- the trees

-- the first byte of a name
abbrev first_byte : Name → ℕ
first_byte [] = 0
first_byte (c ∷ cs) = c

-- the name is ASCII
x_is_ascii : (i : ℕ) → slice_index x_name i < 128
x_is_ascii zero = omega arith
x_is_ascii (suc zero) = omega arith
x_is_ascii (suc (suc i)) = omega arith

-- the name is one
x_is_name : IsName x_name
x_is_name = record {
  utf8 = IsUtf8-from_ascii x_name x_is_ascii;
  some = omega arith;
  short = omega arith;
  plain = ((omega arith, omega arith), tt);
  not_here = λ e. omega (arith, ap first_byte e);
  not_parent = λ e. omega (arith, ap first_byte e);
  not_reserved = λ e. omega (arith, ap first_byte e);
}

-- the path is one
x_is_path : IsPath x_path
x_is_path = record { names = (x_is_name, tt); depth = omega arith; size = omega arith }

-- the tree of the file is one
tree_with_file : (bytes : List ℕ) → IsTree (with_file bytes)
tree_with_file bytes = record { root = refl; parents = parents; paths = paths; present = [] ∷ x_path ∷ []; finite = finite }
  where
    finite : (p : Path) → with_file bytes p ≢ Absent → Contains ([] ∷ x_path ∷ []) p
    finite [] there = Contains-from_Among ([] ∷ x_path ∷ []) [] (inl refl)
    finite (n ∷ []) there = Contains-from_Among ([] ∷ x_path ∷ []) (n ∷ []) (inr (inl (elim (cases_Bool (same_name n (120 ∷ []))) [
      | inl same ↦ ap (λ z. z ∷ []) (sym (same_name_equal n (120 ∷ []) same))
      | inr differ ↦ absurd (there (cond-false _ _ _ differ))
    ])))
    finite (n ∷ m ∷ ps) there = absurd (there refl)

    parents : (p : Path) (name : Name) → with_file bytes (p ++ name ∷ []) ≢ Absent → with_file bytes p ≡ Dir
    parents [] name there = refl
    parents (n ∷ []) name there = absurd (there refl)
    parents (n ∷ m ∷ ps) name there = absurd (there refl)

    paths : (p : Path) → with_file bytes p ≢ Absent → IsPath p
    paths [] there = record { names = tt; depth = omega arith; size = omega arith }
    paths (n ∷ []) there = elim (cases_Bool (same_name n (120 ∷ []))) [
      | inl same ↦ subst (λ z. IsPath (z ∷ [])) (sym (same_name_equal n (120 ∷ []) same)) x_is_path
      | inr differ ↦ absurd (there (cond-false _ _ _ differ))
    ]
    paths (n ∷ m ∷ ps) there = absurd (there refl)

-- so is that of the root alone
tree_bare : (F : Type 0) → IsTree (bare {F = F})
tree_bare F = record { root = refl; parents = parents; paths = paths; present = [] ∷ []; finite = finite }
  where
    finite : (p : Path) → bare {F = F} p ≢ Absent → Contains ([] ∷ []) p
    finite [] there = Contains-from_Among ([] ∷ []) [] (inl refl)
    finite (n ∷ ps) there = absurd (there refl)

    parents : (p : Path) (name : Name) → bare {F = F} (p ++ name ∷ []) ≢ Absent → bare {F = F} p ≡ Dir
    parents [] name there = absurd (there refl)
    parents (n ∷ ps) name there = absurd (there refl)

    paths : (p : Path) → bare {F = F} p ≢ Absent → IsPath p
    paths [] there = record { names = tt; depth = omega arith; size = omega arith }
    paths (n ∷ ps) there = absurd (there refl)

-- the one content that is met
only_content : (x : List ℕ) → Meets (with_file (7 ∷ [])) bare [] x → x ≡ 7 ∷ []
only_content x (inl (p, is)) = at_path p is
  where
    by_name : (b : Bool) → cond b (File (7 ∷ [])) Absent ≡ File x → x ≡ 7 ∷ []
    by_name true e = let f : ◌≡◌ {A = Content (List ℕ)} (File (7 ∷ [])) (File x) = e in cc
    by_name false e = cc

    at_path : (p : Path) → with_file (7 ∷ []) p ≡ File x → x ≡ 7 ∷ []
    at_path [] e = cc
    at_path (n ∷ []) e = by_name (same_name n (120 ∷ [])) e
    at_path (n ∷ m ∷ ps) e = cc
only_content x (inr (inl (p, is))) = absurd (nowhere p is)
  where
    nowhere : (p : Path) → bare {F = List ℕ} p ≡ File x → ⊥
    nowhere [] e = cc
    nowhere (n ∷ ps) e = cc
only_content x (inr (inr (i, rows, there, has))) = absurd (let k : there.0 < 0 = there.1 in omega arith)

-- the premises hold
premises : Premises (state (7 ∷ [])) (with_file (7 ∷ [])) bare []
premises = record {
  snapshot = record { archive = tree_bare Stamp; first = IsTree-print (with_file (7 ∷ [])) (tree_with_file (7 ∷ [])); second = IsTree-print bare (tree_bare (List ℕ)) };
  replicas = record { first = refl; second = refl };
  apart = λ x y met_x met_y same. only_content x met_x ∙ sym (only_content y met_y);
}

-- ---- the one reason

-- nothing is held
not_held : (bytes : List ℕ) (p : Path) → ¬ TouchesHeld (state bytes) p
not_held bytes p touches = let h = touches.1.named in omega (arith, h.2)

-- the path is clean in the second replica
clean_second : (bytes : List ℕ) → ¬ IsDirty (state bytes) side.Second x_path
clean_second bytes (inl changed) = changed.1 refl
clean_second bytes (inr touches) = not_held bytes x_path touches

-- the path is to be copied from the first
has_first : (bytes : List ℕ) → HasReason (state bytes) x_path reason.First
has_first bytes = (([], 120 ∷ [], refl, (refl, refl)), (no_dirs, differ, inl ([], changed), clean_second bytes))
  where
    no_dirs : ¬ AreBothDirs (state bytes).first (state bytes).second x_path
    no_dirs dirs = let e = dirs.0 in cc

    differ : ¬ Agree (state bytes) x_path
    differ agree = let e : ◌≡◌ {A = Content Stamp} (File (stamp_of bytes)) Absent = at_each agree [] in cc

    changed : (state bytes).first x_path ≢ Absent
    changed e = cc

-- nothing else has one
only_x : (bytes : List ℕ) (p : Path) (r : Reason) → HasReason (state bytes) p r → p ≡ x_path
only_x bytes p r ((n ∷ ps, name, e, dirs), why) = absurd (let f = dirs.1 in cc)
only_x bytes p r (([], name, e, dirs), why) = elim (cases_Bool (same_name name (120 ∷ []))) [
  | inl same ↦ e ∙ ap (λ z. z ∷ []) (same_name_equal name (120 ∷ []) same)
  | inr differ ↦ absurd (nothing_no_reason (state bytes) (name ∷ []) (nothing differ) (λ rest. refl) (λ rest. refl) r (subst (λ z. Because (state bytes) z r) e why))
]
  where
    nothing : same_name name (120 ∷ []) ≡ false → (rest : Path) → sub (state bytes).first (name ∷ []) rest ≡ Absent
    nothing differ [] = ap stamped (cond-false _ _ _ differ)
    nothing differ (m ∷ ms) = refl

-- ---- the plan

-- the plan has one entry
one_entry : (k : ℕ) (x : Entry) → EntryIs plan k x → (k ≡ 0) × (x ≡ entry)
one_entry zero x is = (refl, sym (same_Some entry x is))
one_entry (suc k) x is = absurd (none-some x is)

-- and three actions
three_actions : (i : ℕ) (x : Action) → ActionIs plan i x → ((i ≡ 0) × (x ≡ piece)) ⊎ (((i ≡ 1) × (x ≡ commit)) ⊎ ((i ≡ 2) × (x ≡ mark)))
three_actions zero x is = inl (refl, sym (same_Some piece x is))
three_actions (suc zero) x is = inr (inl (refl, sym (same_Some commit x is)))
three_actions (suc (suc zero)) x is = inr (inr (refl, sym (same_Some mark x is)))
three_actions (suc (suc (suc i))) x is = absurd (none-some x is)

-- of these kinds
kinds : (i : ℕ) (kind : Kind) → KindIs plan i kind → ((i ≡ 0) × (kind ≡ Piece 0 0 1 x_path)) ⊎ (((i ≡ 1) × (kind ≡ Commit 0)) ⊎ ((i ≡ 2) × (kind ≡ Mark 0)))
kinds i kind (x, is, e) = elim (three_actions i x is) [
  | inl (at, same) ↦ inl (at, sym e ∙ ap (λ z. z.kind) same)
  | inr (inl (at, same)) ↦ inr (inl (at, sym e ∙ ap (λ z. z.kind) same))
  | inr (inr (at, same)) ↦ inr (inr (at, sym e ∙ ap (λ z. z.kind) same))
]

-- the piece is the first
piece_at : (i e offset size : ℕ) (p : Path) → KindIs plan i (Piece e offset size p) → (i ≡ 0) × (Piece e offset size p ≡ Piece 0 0 1 x_path)
piece_at i e offset size p kind = elim (kinds i (Piece e offset size p) kind) [ inl h ↦ h | inr (inl (at, same)) ↦ cc | inr (inr (at, same)) ↦ cc ]

-- the commit is the second
commit_at : (i e : ℕ) → KindIs plan i (Commit e) → (i ≡ 1) × (e ≡ 0)
commit_at i e kind = elim (kinds i (Commit e) kind) [
  | inl (at, same) ↦ cc
  | inr (inl (at, same)) ↦ (at, (let f : Commit e ≡ Commit 0 = same in cc))
  | inr (inr (at, same)) ↦ cc
]

-- the mark is the third
mark_at : (i e : ℕ) → KindIs plan i (Mark e) → (i ≡ 2) × (e ≡ 0)
mark_at i e kind = elim (kinds i (Mark e) kind) [
  | inl (at, same) ↦ cc
  | inr (inl (at, same)) ↦ cc
  | inr (inr (at, same)) ↦ (at, (let f : Mark e ≡ Mark 0 = same in cc))
]

-- the first is the piece
piece_kind : KindIs plan 0 (Piece 0 0 1 x_path)
piece_kind = (piece, refl, refl)

-- the second is the commit
commit_kind : KindIs plan 1 (Commit 0)
commit_kind = (commit, refl, refl)

-- the third is the mark
mark_kind : KindIs plan 2 (Mark 0)
mark_kind = (mark, refl, refl)

-- the entry is copied
copied_entry : IsCopied plan 0
copied_entry = (entry, side.First, (refl, refl))

-- the file's one byte is a lawful piece
lawful_piece : IsPiece (state (7 ∷ [])) plan 0 0 1 x_path
lawful_piece = (entry, side.First, stamp_of (7 ∷ []), (refl, refl), ([], refl), refl, record { aligned = refl; within = omega arith; full = refl })

-- where a piece's kind says that it is lawful
abbrev IsLawful : Kind → Type 0
IsLawful (Piece e offset size p) = IsPiece (state (7 ∷ [])) plan e offset size p
IsLawful (Commit e) = Unit {0}
IsLawful (Mark e) = Unit {0}

-- a file of the first replica is this one
only_file : (p : Path) (stamp : Stamp) → (state (7 ∷ [])).first p ≡ File stamp → (p ≡ x_path) × (stamp.size ≡ 1)
only_file [] stamp f = cc
only_file (n ∷ m ∷ ps) stamp f = cc
only_file (n ∷ []) stamp f = by_name (same_name n (120 ∷ [])) refl f
  where
    file_stamp : (x y : Stamp) → ◌≡◌ {A = Content Stamp} (File x) (File y) → x ≡ y
    file_stamp x y h = cc

    by_name : (b : Bool) → same_name n (120 ∷ []) ≡ b → stamped (cond b (File (7 ∷ [])) Absent) ≡ File stamp → (n ∷ [] ≡ x_path) × (stamp.size ≡ 1)
    by_name true same g = (ap (λ z. z ∷ []) (same_name_equal n (120 ∷ []) same), ap (λ z. z.size) (sym (file_stamp (stamp_of (7 ∷ [])) stamp g)))
    by_name false same g = cc

-- the second has none
no_file : (p : Path) (stamp : Stamp) → (state (7 ∷ [])).second p ≢ File stamp
no_file [] stamp f = cc
no_file (n ∷ ps) stamp f = cc

-- and the only one
only_lawful_piece : (e offset size : ℕ) (p : Path) → IsPiece (state (7 ∷ [])) plan e offset size p → (e ≡ 0) × (offset ≡ 0) × (p ≡ x_path)
only_lawful_piece e offset size p (x, side.Second, stamp, copies, over, file, range) = absurd (no_file p stamp file)
only_lawful_piece e offset size p (x, side.First, stamp, copies, over, file, range) =
    let found = only_file p stamp file in
    ((one_entry e x copies.0).0, omega (arith, range.within, found.1), found.0)

-- the plan is valid
example_valid : Valid (state (7 ∷ [])) plan
example_valid Limits place (e, n) = n (record { entries = omega arith; actions = omega arith; preds = omega arith })
example_valid EntriesAscend place (k, before, x, e, is_before, is, n) = absurd (let at = (one_entry place x is).0 in omega arith)
example_valid ReasonsHold place (x, is, n) = n (subst (λ z. HasReason (state (7 ∷ [])) z.path z.reason) (sym (one_entry place x is).1) (has_first (7 ∷ [])))
example_valid EntriesComplete place (p, r, has, none, e) = none 0 entry refl (sym (only_x (7 ∷ []) p r has))
example_valid PredsAscend place (x, is, n) = elim (three_actions place x is) [
  | inl (at, same) ↦ n (subst (λ z. AscendBelow place z.preds) (sym same) tt)
  | inr (inl (at, same)) ↦ n (subst (λ z. AscendBelow place z.preds) (sym same) (let f : 0 < place = omega arith in f))
  | inr (inr (at, same)) ↦ n (subst (λ z. AscendBelow place z.preds) (sym same) (let f : 1 < place = omega arith in f))
]
example_valid OneCommit place (inl (e, kind, inl n)) = n (subst (λ z. IsCopied plan z) (sym (commit_at place e kind).1) copied_entry)
example_valid OneCommit place (inl (e, kind, inr (j, other, less, other_kind, is))) =
    let at = (commit_at place e kind).0 in
    let earlier = (commit_at j e (subst (λ z. KindIs plan j z) is other_kind)).0 in
    absurd (omega arith)
example_valid OneCommit place (inr (e, at, (x, from, copies), none)) =
    none 1 (subst (λ z. KindIs plan 1 (Commit z)) (sym (one_entry e x copies.0).0) commit_kind)
example_valid PiecesLawful place (e, offset, size, p, kind, n) = n (subst IsLawful (sym (piece_at place e offset size p kind).1) lawful_piece)
example_valid PiecesComplete place (inl (e, offset, size, p, kind, (j, other, less, other_kind, same))) =
    let at = (piece_at place e offset size p kind).0 in absurd (omega arith)
example_valid PiecesComplete place (inr (e, offset, size, p, at, lawful, none)) =
    let found = only_lawful_piece e offset size p lawful in
    none 0 1 (subst (λ z. KindIs plan 0 z) (λ i. Piece (sym found.0 i) (sym found.1 i) 1 (sym found.2 i)) piece_kind)
example_valid OneMark place (inl (e, kind, inl n)) = n (subst (λ z. IsMarked plan z) (sym (mark_at place e kind).1) (entry, refl, λ skip. elim skip [ inl f ↦ cc | inr f ↦ cc ]))
example_valid OneMark place (inl (e, kind, inr (j, other, less, other_kind, is))) =
    let at = (mark_at place e kind).0 in
    let earlier = (mark_at j e (subst (λ z. KindIs plan j z) is other_kind)).0 in
    absurd (omega arith)
example_valid OneMark place (inr (e, at, (x, is, markable), none)) =
    none 2 (subst (λ z. KindIs plan 2 (Mark z)) (sym (one_entry e x is).0) mark_kind)
example_valid PiecesFirst place (e, i, offset, size, p, kind, first, n) =
    n (subst (λ z. Waits plan z i) (sym (commit_at place e kind).0) (subst (λ z. Waits plan 1 z) (sym (piece_at i e offset size p first).0) (commit, refl, (0, omega arith, refl))))
example_valid CommitFirst place (e, i, kind, first, n) =
    n (subst (λ z. Waits plan z i) (sym (mark_at place e kind).0) (subst (λ z. Waits plan 2 z) (sym (commit_at i e first).0) (mark, refl, (0, omega arith, refl))))
example_valid DirFirst place (e, d, i, kind, near, first, n) =
    let same = (one_entry d near.dir near.is_dir).1 in
    let new = near.new_dir in
    absurd (let f : reason.First ≡ reason.Dir = ap (λ z. z.reason) (sym same) ∙ new in cc)

-- the premises can be met
pub some_plan_is_valid : ValidExample
some_plan_is_valid = record {
  snapshot = state (7 ∷ []);
  plan = plan;
  first = with_file (7 ∷ []);
  second = bare;
  path = x_path;
  premises = premises;
  valid = example_valid;
  piece = piece_kind;
  commit = commit_kind;
  mark = mark_kind;
}
