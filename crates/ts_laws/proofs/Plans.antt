-- What a valid plan has: distinct entries, one commit and one mark for each, and the marks' order.
use Rattle.std.proofs.Common.{◌≡◌, ◌≢◌, ◌⊎◌, ℕ, zero, suc, ◌+◌, ◌<◌, ◌≤◌, List, [], ◌∷◌, ◌++◌, length, Option, Some, None, slice_get, sym, refl, ap, ◌∙◌, subst, inl, inr, append_assoc, append-nil, arith}
use Rattle.std.proofs.lemmas.Bool.{cases_eq, cases_order}
use Rattle.std.proofs.lemmas.Option.{none-some, slice_get_within}
use Rattle.ts_name.specs.Paths.{Name, Path, IsAbove, IsBefore}
use Rattle.ts_model.specs.Sync.{Snapshot, HasReason, IsSkipped}
use Rattle.ts_model.specs.Plans.{EntryIs, ActionIs, KindIs, Waits, source, NearestDir, Wrong, Valid, IsOutOfOrder}
use Rattle.ts_model.specs.declared.plan.PlanRule.TheVariants.{EntriesAscend, EntriesComplete, OneCommit, OneMark, PiecesFirst, CommitFirst, DirFirst}
use Rattle.ts_model.specs.Runs.{Run, Has, claims, finishes, IsPieceOf, Legal, open_count}
use Rattle.ts_model.specs.declared.plan.Reason.TheVariants as reason
use Rattle.ts_model.specs.declared.plan.Side.{Side}
use Rattle.ts_model.specs.declared.plan.Reason.{Reason}
use Rattle.ts_model.specs.declared.plan.Entry.{Entry}
use Rattle.ts_model.specs.declared.plan.Kind.TheVariants.{Commit, Mark}
use Rattle.ts_model.specs.declared.plan.Action.{Action}
use Rattle.ts_model.specs.declared.plan.Plan.{Plan}
use Rattle.ts_model.specs.declared.row.Content.TheVariants.{Absent}
use Rattle.ts_laws.proofs.Basics.{stable}
use Rattle.ts_name.proofs.Prefixes.{compared, above, under, beside, not_below_itself}
use Rattle.ts_name.proofs.Order.{decide_before, before_itself, before_trans}
use Rattle.ts_laws.proofs.Lists.{find_index, Among, Among-from_Contains, Contains-from_Among}
use Rattle.ts_laws.proofs.ActionKinds.{decide_commit, decide_mark, decide_is}
use Rattle.ts_laws.proofs.Runs.{same_action, IsRun-from_legal, pred_count_is, unreleased_count}
use Rattle.ts_laws.proofs.Reasons.{decide_reason}
use Rattle.ts_name.proofs.Basics.{element_at}
use Rattle.ts_model.proofs.Deciding.{same_number, same_names}

-- ---- waiting is decided

-- whether a number is among others
pub decide_among : (k : ℕ) (xs : List ℕ) → Dec (Among k xs)
decide_among k [] = no (λ h. h)
decide_among k (x ∷ xs) = elim (same_number x k) [
  | yes e ↦ yes (inl e)
  | no n ↦ elim (decide_among k xs) [ yes h ↦ yes (inr h) | no m ↦ no (λ h. elim h [ inl e ↦ n e | inr g ↦ m g ]) ]
]

-- whether an action waits for another
pub decide_waits : (plan : Plan) (i j : ℕ) → Dec (Waits plan i j)
decide_waits plan i j = go (slice_get plan.actions i) refl
  where
    go : (o : Option Action) → slice_get plan.actions i ≡ o → Dec (Waits plan i j)
    go None is = no (λ h. none-some h.0 (sym is ∙ h.1))
    go (Some action) is = elim (decide_among j action.preds) [
      | yes h ↦ yes (action, is, Contains-from_Among action.preds j h)
      | no n ↦ no (λ h. n (subst (λ z. Among j z.preds) (same_action plan i h.0 action h.1 is) (Among-from_Contains h.0.preds j h.2)))
    ]

-- ---- whatever has a reason is an entry

-- where no path with a reason is missing
pub entry_from_complete : (s : Snapshot) (plan : Plan) → ((place : ℕ) → ¬ Wrong s plan EntriesComplete place) → (p : Path) (r : Reason) → HasReason s p r
    → (k : ℕ) × (entry : Entry) × EntryIs plan k entry × (entry.path ≡ p)
entry_from_complete s plan complete p r has = elim (find_index (λ entry. entry.path ≡ p) (λ entry. same_names entry.path p) plan.entries) [
  | inl found ↦ found
  | inr none ↦ absurd (complete _ (p, r, has, none, refl))
]

-- ---- entries are distinct

module _ (entries : List Entry) (order : (k : ℕ) → ¬ IsOutOfOrder entries k) where
  -- each entry comes before the next
  next_before : (k : ℕ) (x y : Entry) → slice_get entries k ≡ Some x → slice_get entries (suc k) ≡ Some y → IsBefore x.path y.path
  next_before k x y is_x is_y = stable (decide_before x.path y.path) (λ n. order (suc k) (k, x, y, omega arith, is_x, is_y, n))

  -- and before each later one
  pub entries_in_order : (k l : ℕ) (x y : Entry) → slice_get entries k ≡ Some x → slice_get entries l ≡ Some y → k < l → IsBefore x.path y.path
  entries_in_order k zero x y is_x is_y h = absurd (omega arith)
  entries_in_order k (suc l) x y is_x is_y h = elim (cases_eq k l) [
    | inl e ↦ next_before l x y (subst (λ z. slice_get entries z ≡ Some x) e is_x) is_y
    | inr differ ↦ (
        let here = element_at entries l (let within = slice_get_within entries (suc l) y is_y in omega arith) in
        before_trans x.path here.0.path y.path (entries_in_order k l x here.0 is_x here.1 (omega arith)) (next_before l here.0 y here.1 is_y))
  ]

module _ (s : Snapshot) (plan : Plan) (valid : Valid s plan) where
  -- the entries of a valid plan are in order
  pub in_order : (k l : ℕ) (x y : Entry) → EntryIs plan k x → EntryIs plan l y → k < l → IsBefore x.path y.path
  in_order = entries_in_order plan.entries (valid EntriesAscend)

  -- a path has one entry
  pub one_place : (k l : ℕ) (x y : Entry) → EntryIs plan k x → EntryIs plan l y → x.path ≡ y.path → k ≡ l
  one_place k l x y is_x is_y same = elim (cases_order k l) [
    | inl e ↦ e
    | inr (inl h) ↦ absurd (before_itself y.path (subst (λ z. IsBefore z y.path) same (in_order k l x y is_x is_y h)))
    | inr (inr h) ↦ absurd (before_itself y.path (subst (λ z. IsBefore y.path z) same (in_order l k y x is_y is_x h)))
  ]

  -- a path with a reason has one
  pub entry_exists : (p : Path) (r : Reason) → HasReason s p r → (k : ℕ) × (entry : Entry) × EntryIs plan k entry × (entry.path ≡ p)
  entry_exists p r has = entry_from_complete s plan (valid EntriesComplete) p r has

  -- ---- commits

  -- an entry with a source has a commit
  pub commit_exists : (e : ℕ) (entry : Entry) (from : Side) → EntryIs plan e entry → source entry.reason ≡ Some from → (i : ℕ) × KindIs plan i (Commit e)
  commit_exists e entry from is from_is = elim (find_index (λ action. action.kind ≡ Commit e) (λ action. decide_is Commit decide_commit action.kind e) plan.actions) [
    | inl found ↦ (found.0, (found.1, found.2, found.3))
    | inr none ↦ absurd (valid OneCommit (length plan.actions + e) (inr (e, refl, (entry, from, (is, from_is)), λ i kind. none i kind.0 kind.1 kind.2)))
  ]

  -- and only one
  pub one_commit : (i j e : ℕ) → KindIs plan i (Commit e) → KindIs plan j (Commit e) → i ≡ j
  one_commit i j e at_i at_j = elim (cases_order i j) [
    | inl same ↦ same
    | inr (inl h) ↦ absurd (valid OneCommit j (inl (e, at_j, inr (i, Commit e, h, at_i, refl))))
    | inr (inr h) ↦ absurd (valid OneCommit i (inl (e, at_i, inr (j, Commit e, h, at_j, refl))))
  ]

  -- ---- marks

  -- an entry that isn't skipped has a mark
  pub mark_exists : (e : ℕ) (entry : Entry) → EntryIs plan e entry → (¬ IsSkipped entry.reason) → (i : ℕ) × KindIs plan i (Mark e)
  mark_exists e entry is markable = elim (find_index (λ action. action.kind ≡ Mark e) (λ action. decide_is Mark decide_mark action.kind e) plan.actions) [
    | inl found ↦ (found.0, (found.1, found.2, found.3))
    | inr none ↦ absurd (valid OneMark (length plan.actions + e) (inr (e, refl, (entry, is, markable), λ i kind. none i kind.0 kind.1 kind.2)))
  ]

  -- and only one
  pub one_mark : (i j e : ℕ) → KindIs plan i (Mark e) → KindIs plan j (Mark e) → i ≡ j
  one_mark i j e at_i at_j = elim (cases_order i j) [
    | inl same ↦ same
    | inr (inl h) ↦ absurd (valid OneMark j (inl (e, at_j, inr (i, Mark e, h, at_i, refl))))
    | inr (inr h) ↦ absurd (valid OneMark i (inl (e, at_i, inr (j, Mark e, h, at_j, refl))))
  ]

  -- a mark waits for the commit of its entry
  pub mark_waits_for_commit : (m i e : ℕ) → KindIs plan m (Mark e) → KindIs plan i (Commit e) → Waits plan m i
  mark_waits_for_commit m i e mark commit = stable (decide_waits plan m i) (λ n. valid CommitFirst m (e, i, mark, commit, n))

  -- and for the mark of the nearest new directory above
  pub mark_waits_for_dir : (m e d i : ℕ) → KindIs plan m (Mark e) → NearestDir plan e d → KindIs plan i (Mark d) → Waits plan m i
  mark_waits_for_dir m e d i mark nearest dir_mark = stable (decide_waits plan m i) (λ n. valid DirFirst m (e, d, i, mark, nearest, dir_mark, n))

-- ---- what the words of a legal run say

-- a claimed commit finds its pieces done
pub finds_pieces : (s : Snapshot) (plan : Plan) → Valid s plan → (r : Run) (c k : ℕ) → Legal s plan r → Has r (claims c) → IsPieceOf plan c k → Has r (finishes k)
finds_pieces s plan valid r c k legal claimed piece =
    (IsRun-from_legal s plan valid (record { first = λ _. Absent; second = λ _. Absent; archive = λ _. Absent }) r legal).ordered.claimed c k claimed
    (stable (decide_waits plan c k) (λ n. valid PiecesFirst c (piece.entry, k, piece.offset, piece.size, piece.path, piece.commit, piece.piece, n)))

-- open predecessors are those that weren't released
pub counts_open : (s : Snapshot) (plan : Plan) → Valid s plan → (r : Run) (i : ℕ) (action : Action) → Legal s plan r → ActionIs plan i action
    → open_count plan r i ≡ unreleased_count r i action.preds
counts_open s plan valid r i action legal is =
    let run = IsRun-from_legal s plan valid (record { first = λ _. Absent; second = λ _. Absent; archive = λ _. Absent }) r legal in
    let preds = pred_count_is plan i action is in
    let whole = run.counted.whole i action is in
    omega arith

-- ---- the nearest new directory above an entry

-- strictly above
pub record IsOver (p q : Path) : Type 0 where
  pub name : Name
  pub rest : Path
  pub is : q ≡ p ++ name ∷ rest

-- whether a path is strictly above another
pub decide_over : (p q : Path) → Dec (IsOver p q)
decide_over p q = elim (compared p q) [
  | above rest e ↦ go rest e
  | under name rest e ↦ no (λ h. not_below_itself p h.name (h.rest ++ name ∷ rest) (e ∙ ap (λ z. z ++ name ∷ rest) h.is ∙ append_assoc p (h.name ∷ h.rest) (name ∷ rest)))
  | beside aside ↦ no (λ h. aside.never (h.name ∷ h.rest) [] (sym h.is ∙ sym (append-nil q)))
]
  where
    go : (rest : Path) → q ≡ p ++ rest → Dec (IsOver p q)
    go [] e = no (λ h. not_below_itself p h.name h.rest (sym (e ∙ append-nil p) ∙ h.is))
    go (name ∷ rest) e = yes (record { name = name; rest = rest; is = e })

-- what is strictly below is longer
pub longer_below : (p : Path) (name : Name) (rest : Path) → length p < length (p ++ name ∷ rest)
longer_below [] name rest = omega arith
longer_below (n ∷ p) name rest = let more = longer_below p name rest in omega arith

-- and what is strictly above is shorter
pub over_length : (p q : Path) → IsOver p q → length p < length q
over_length p q over = subst (λ z. length p < length z) (sym over.is) (longer_below p over.name over.rest)

-- a new directory strictly above an entry
pub record IsDirOver (plan : Plan) (e d : ℕ) : Type 0 where
  pub of : Entry
  pub is_of : EntryIs plan e of
  pub dir : Entry
  pub is_dir : EntryIs plan d dir
  pub new_dir : dir.reason ≡ reason.Dir
  pub over : IsOver dir.path of.path

-- a nearer one is looked for until there is none
pub nearest_dir : (plan : Plan) (e d fuel : ℕ) → (h : IsDirOver plan e d) → length h.of.path ≤ length h.dir.path + fuel → (k : ℕ) × NearestDir plan e k
nearest_dir plan e d zero h enough = absurd (let less = over_length h.dir.path h.of.path h.over in omega arith)
nearest_dir plan e d (suc fuel) h enough = go (find_index Nearer decide plan.entries) (λ k dir is new_dir over further.
    nearest_dir plan e k fuel (record { of = h.of; is_of = h.is_of; dir = dir; is_dir = is; new_dir = new_dir; over = over })
    (let less = over_length h.dir.path dir.path further in omega arith))
  where
    Nearer : Entry → Type 0
    Nearer other = (other.reason ≡ reason.Dir) × IsOver other.path h.of.path × IsOver h.dir.path other.path

    decide : (other : Entry) → Dec (Nearer other)
    decide other = elim (decide_reason other.reason reason.Dir) [
      | no n ↦ no (λ all. n all.0)
      | yes new ↦ elim (decide_over other.path h.of.path) [
        | no n ↦ no (λ all. n all.1)
        | yes over ↦ elim (decide_over h.dir.path other.path) [ no n ↦ no (λ all. n all.2) | yes further ↦ yes (new, over, further) ]
      ]
    ]

    over_of : (p : Path) → (rest : Path) → h.of.path ≡ p ++ rest → p ≢ h.of.path → IsOver p h.of.path
    over_of p [] at strict = absurd (strict (sym (at ∙ append-nil p)))
    over_of p (name ∷ rest) at strict = record { name = name; rest = rest; is = at }

    nearest : ((k : ℕ) (x : Entry) → EntryIs plan k x → ¬ Nearer x) → (k : ℕ) (other : Entry) → EntryIs plan k other → other.reason ≡ reason.Dir
        → IsAbove other.path h.of.path → other.path ≢ h.of.path → IsAbove other.path h.dir.path
    nearest none k other is new at strict = elim (compared other.path h.dir.path) [
      | above rest f ↦ (rest, f)
      | under name rest f ↦ absurd (none k other is (new, over_of other.path at.0 at.1 strict, record { name = name; rest = rest; is = f }))
      | beside aside ↦ absurd (aside.never at.0 (h.over.name ∷ h.over.rest) (sym at.1 ∙ h.over.is))
    ]

    go : ((k : ℕ) × (x : Entry) × EntryIs plan k x × Nearer x) ⊎ ((k : ℕ) (x : Entry) → EntryIs plan k x → ¬ Nearer x)
        → ((k : ℕ) (dir : Entry) → EntryIs plan k dir → dir.reason ≡ reason.Dir → IsOver dir.path h.of.path → IsOver h.dir.path dir.path → (k : ℕ) × NearestDir plan e k)
        → (k : ℕ) × NearestDir plan e k
    go (inl found) further = further found.0 found.1 found.2 found.3.0 found.3.1 found.3.2
    go (inr none) further = (
      d,
      record {
        below = h.of;
        is_below = h.is_of;
        dir = h.dir;
        is_dir = h.is_dir;
        new_dir = h.new_dir;
        above = (h.over.name ∷ h.over.rest, h.over.is);
        strictly = λ e. not_below_itself h.dir.path h.over.name h.over.rest (e ∙ h.over.is);
        nearest = nearest none;
      },
    )
