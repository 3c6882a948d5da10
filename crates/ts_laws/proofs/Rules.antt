-- Whether a plan breaks a rule at a place: it is decided, and so is whether the plan is valid.
use Rattle.std.proofs.Common.{◌≡◌, ◌≢◌, ◌⊎◌, ℕ, zero, suc, ◌+◌, ◌-◌, ◌%◌, ◌<◌, min, List, [], ◌∷◌, ◌++◌, length, get_or, Contains, Option, Some, None, slice_get, sum_by, count_by, sym, refl, ap, ◌∙◌, subst, inl, inr, append-nil, arith}
use Rattle.std.specs.Ordering.{is_lt}
use Rattle.std.proofs.lemmas.Bool.{cases_order}
use Rattle.std.proofs.lemmas.List.Elements.{Contains-append_left, Contains-append_right}
use Rattle.std.proofs.lemmas.List.Sums.{count_by-le-length}
use Rattle.std.proofs.lemmas.Option.{none-some, same_Some, slice_get_within}
use Rattle.std.proofs.Math.Decide.{map_dec}
use Rattle.ts_name.specs.Paths.{Path, IsAbove, IsBefore, path_cmp}
use Rattle.ts_model.specs.Trees.{Print}
use Rattle.ts_model.specs.Sync.{Snapshot, IsSnapshot, replica, HasReason}
use Rattle.ts_model.specs.Plans.{EntryIs, KindIs, Waits, source, IsCopied, IsMarked, piece_size, IsRange, IsPiece, WithinLimits, AscendBelow, entry_limit, action_limit, pred_limit, IsOutOfOrder, Lacks, Earlier, NotOneEach, NearestDir, rule_number, Wrong, Broken, Valid}
use Rattle.ts_model.specs.declared.plan.PlanRule.{PlanRule}
use Rattle.ts_model.specs.declared.plan.PlanRule.TheVariants.{Limits, EntriesAscend, ReasonsHold, EntriesComplete, PredsAscend, OneCommit, PiecesLawful, PiecesComplete, OneMark, PiecesFirst, CommitFirst, DirFirst}
use Rattle.ts_model.specs.declared.plan.Side.{Side}
use Rattle.ts_model.specs.declared.plan.Reason.{Reason}
use Rattle.ts_model.specs.declared.plan.Reason.TheVariants as reason
use Rattle.ts_model.specs.declared.plan.Entry.{Entry}
use Rattle.ts_model.specs.declared.plan.Kind.{Kind}
use Rattle.ts_model.specs.declared.plan.Kind.TheVariants.{Piece, Commit, Mark}
use Rattle.ts_model.specs.declared.plan.Plan.{Plan}
use Rattle.ts_model.specs.declared.row.Content.{Content}
use Rattle.ts_model.specs.declared.row.Content.TheVariants.{Absent, Dir, File}
use Rattle.ts_model.specs.declared.row.Stamp.{Stamp}
use Rattle.ts_laws.proofs.Basics.{stable, Dec-both, Dec-either, Dec-not}
use Rattle.ts_name.proofs.Prefixes.{decide_above}
use Rattle.ts_name.proofs.Order.{decide_before}
use Rattle.ts_laws.proofs.Grafts.{nothing_below, IsRooted}
use Rattle.ts_laws.proofs.Lists.{Among, Contains-from_Among, decide_within, decide_ascend}
use Rattle.ts_laws.proofs.Search.{decide_less, decide_at_most, decide_at, least_below, decide_number, decide_place, decide_more}
use Rattle.ts_model.proofs.Reasons.{nothing_no_reason}
use Rattle.ts_laws.proofs.Reasons.{decide_reason, IsWhole, IsWhole-from_snapshot}
use Rattle.ts_laws.proofs.Steps.{decide_marked}
use Rattle.ts_laws.proofs.ActionKinds.{PieceParts, piece_of, decide_commit, decide_mark, decide_piece, decide_some_kind, decide_earlier, kind_as, decide_piece_at, decide_entry_at, decide_of_entry, decide_not_one_each}
use Rattle.ts_laws.proofs.Plans.{decide_waits}
use Rattle.ts_laws.proofs.Deciding.{decide_has_reason, replica_tree}
use Rattle.ts_model.proofs.Deciding.{same_number, same_names, same_stamp_at}

-- ---- one rule, one place

-- the rule with this number
rule_at : ℕ → PlanRule
rule_at n = get_or (Limits ∷ Limits ∷ EntriesAscend ∷ ReasonsHold ∷ EntriesComplete ∷ PredsAscend ∷ OneCommit ∷ PiecesLawful ∷ PiecesComplete ∷ OneMark ∷ PiecesFirst ∷ CommitFirst ∷ DirFirst ∷ []) n Limits

-- a rule is found by its number
rule_at-rule_number : (r : PlanRule) → rule_at (rule_number r) ≡ r
unfolding rule_at
rule_at-rule_number Limits = refl
rule_at-rule_number EntriesAscend = refl
rule_at-rule_number ReasonsHold = refl
rule_at-rule_number EntriesComplete = refl
rule_at-rule_number PredsAscend = refl
rule_at-rule_number OneCommit = refl
rule_at-rule_number PiecesLawful = refl
rule_at-rule_number PiecesComplete = refl
rule_at-rule_number OneMark = refl
rule_at-rule_number PiecesFirst = refl
rule_at-rule_number CommitFirst = refl
rule_at-rule_number DirFirst = refl

-- one number is of one rule
one_number : (r q : PlanRule) → rule_number r ≡ rule_number q → r ≡ q
one_number r q e = sym (rule_at-rule_number r) ∙ ap rule_at e ∙ rule_at-rule_number q

-- neither is below the other
equal_from_neither : (k l : ℕ) → ¬ (k < l) → ¬ (l < k) → k ≡ l
equal_from_neither k l h g = elim (cases_order k l) [
  | inl e ↦ e
  | inr more ↦ elim more [ inl less ↦ absurd (h less) | inr less ↦ absurd (g less) ]
]

-- a plan that is broken is so by one rule and at one place
pub one_broken : (s : Snapshot) (plan : Plan) (r q : PlanRule) (k l : ℕ) → Broken s plan r k → Broken s plan q l → (r ≡ q) × (k ≡ l)
one_broken s plan r q k l h g =
    (same, equal_from_neither k l (λ less. g.least k less (subst (λ z. Wrong s plan z k) same h.wrong)) (λ less. h.least l less (subst (λ z. Wrong s plan z l) (sym same) g.wrong)))
  where
    same : r ≡ q
    same = one_number r q (equal_from_neither (rule_number r) (rule_number q) (λ less. g.earlier r k less h.wrong) (λ less. h.earlier q l less g.wrong))

-- ---- parts of a plan

-- whether a side is the source, with a decided fact
decide_source : (o : Option Side) (P : Side → Type 0) → ((from : Side) → Dec (P from)) → Dec ((from : Side) × (o ≡ Some from) × P from)
decide_source None P d = no (λ h. none-some h.0 h.1)
decide_source (Some from) P d = elim (d from) [ yes h ↦ yes (from, refl, h) | no n ↦ no (λ h. n (subst P (sym (same_Some from h.0 h.1)) h.2)) ]

-- whether a content is a file, with a decided fact of its stamp
decide_file : (x : Content Stamp) (P : Stamp → Type 0) → ((stamp : Stamp) → Dec (P stamp)) → Dec ((stamp : Stamp) × (x ≡ File stamp) × P stamp)
decide_file Absent P d = no (λ h. let f = h.1 in cc)
decide_file Dir P d = no (λ h. let f = h.1 in cc)
decide_file (File x) P d = elim (d x) [ yes h ↦ yes (x, refl, h) | no n ↦ no (λ h. n (subst P (same h.0 h.1) h.2)) ]
  where
    same : (y : Stamp) → ◌≡◌ {A = Content Stamp} (File x) (File y) → y ≡ x
    same y f = cc

-- whether some reason has a decided fact
pub decide_some_reason : (P : Reason → Type 0) → ((r : Reason) → Dec (P r)) → Dec ((r : Reason) × P r)
decide_some_reason P d = decide_within P d all (λ r h. Contains-from_Among all r (among r))
  where
    all : List Reason
    all = reason.Same ∷ reason.First ∷ reason.Second ∷ reason.Conflict ∷ reason.Held ∷ reason.Dir ∷ []

    among : (r : Reason) → Among r all
    among reason.Same = inl refl
    among reason.First = inr (inl refl)
    among reason.Second = inr (inr (inl refl))
    among reason.Conflict = inr (inr (inr (inl refl)))
    among reason.Held = inr (inr (inr (inr (inl refl))))
    among reason.Dir = inr (inr (inr (inr (inr (inl refl)))))

-- whether a range is lawful
pub decide_range : (size offset len : ℕ) → Dec (IsRange size offset len)
decide_range size offset len = map_dec
    (λ h. record { aligned = h.0; within = h.1.0; full = h.1.1 })
    (λ (h : IsRange size offset len). (h.aligned, (h.within, h.full)))
    (Dec-both (same_number (offset % piece_size) 0) (Dec-both (decide_less offset size) (same_number len (min piece_size (size - offset)))))

-- ---- the rules of entries alone

-- whether a plan is within the limits
pub decide_limits : (plan : Plan) → Dec (WithinLimits plan)
decide_limits plan = map_dec
    (λ h. record { entries = h.0; actions = h.1.0; preds = h.1.1 })
    (λ (h : WithinLimits plan). (h.entries, (h.actions, h.preds)))
    (Dec-both (decide_at_most (length plan.entries) entry_limit) (Dec-both (decide_at_most (length plan.actions) action_limit)
    (decide_at_most (sum_by (λ a. length a.preds) plan.actions) pred_limit)))

-- whether an entry doesn't come after the one before it
pub decide_out_of_order : (entries : List Entry) (place : ℕ) → Dec (IsOutOfOrder entries place)
decide_out_of_order entries zero = no (λ h. absurd (let e = h.3 in omega arith))
decide_out_of_order entries (suc k) = map_dec
    (λ h. (k, h.0, h.2.0, omega arith, h.1, h.2.1, h.2.2))
    (λ h. let same : h.0 ≡ k = (let e = h.3 in omega arith) in (h.1, subst (λ z. slice_get entries z ≡ Some h.1) same h.4, (h.2, h.5, h.6)))
    (decide_at entries k (λ before. (entry : Entry) × (slice_get entries (suc k) ≡ Some entry) × (¬ IsBefore before.path entry.path))
    (λ before. decide_at entries (suc k) (λ entry. ¬ IsBefore before.path entry.path) (λ entry. Dec-not (decide_before before.path entry.path))))

-- ---- what the actions say

module _ (plan : Plan) where
  -- whether an entry is copied
  pub decide_copied : (e : ℕ) → Dec (IsCopied plan e)
  decide_copied e = map_dec
      (λ h. (h.0, h.2.0, (h.1, h.2.1)))
      (λ h. (h.0, h.2.0, (h.1, h.2.1, refl)))
      (decide_at plan.entries e (λ entry. (from : Side) × (source entry.reason ≡ Some from) × (from ≡ from))
      (λ entry. decide_source (source entry.reason) (λ from. from ≡ from) (λ from. yes refl)))

  -- ---- the nearest new directory above

  -- what the nearest is, besides an entry
  abbrev IsNearest : Entry → Entry → Type 0
  IsNearest below dir = (dir.reason ≡ reason.Dir) × IsAbove dir.path below.path × (dir.path ≢ below.path)
      × ((k : ℕ) (other : Entry) → EntryIs plan k other → other.reason ≡ reason.Dir → IsAbove other.path below.path → other.path ≢ below.path → IsAbove other.path dir.path)

  -- whether no other is nearer
  decide_nearer : (below dir : Entry)
      → Dec ((k : ℕ) (other : Entry) → EntryIs plan k other → other.reason ≡ reason.Dir → IsAbove other.path below.path → other.path ≢ below.path → IsAbove other.path dir.path)
  decide_nearer below dir = map_dec
      (λ none. λ k other is new over strict. stable (decide_above other.path dir.path) (λ n. none (k, other, is, (new, (over, (strict, n))))))
      (λ all. λ h. h.3.1.1.1 (all h.0 h.1 h.2 h.3.0 h.3.1.0 h.3.1.1.0))
      (Dec-not (decide_place plan.entries
      (λ k other. (other.reason ≡ reason.Dir) × (IsAbove other.path below.path × ((other.path ≢ below.path) × (¬ IsAbove other.path dir.path))))
      (λ k other. Dec-both (decide_reason other.reason reason.Dir) (Dec-both (decide_above other.path below.path)
      (Dec-both (Dec-not (same_names other.path below.path)) (Dec-not (decide_above other.path dir.path)))))))

  -- whether a new directory is the nearest
  decide_is_nearest : (below dir : Entry) → Dec (IsNearest below dir)
  decide_is_nearest below dir = map_dec
      (λ h. (h.0, h.1.0, h.1.1.0, h.1.1.1))
      (λ h. (h.0, (h.1, (h.2, h.3))))
      (Dec-both (decide_reason dir.reason reason.Dir) (Dec-both (decide_above dir.path below.path)
      (Dec-both (Dec-not (same_names dir.path below.path)) (decide_nearer below dir))))

  -- whether an entry is the nearest new directory above another
  pub decide_nearest : (e d : ℕ) → Dec (NearestDir plan e d)
  decide_nearest e d = map_dec
      (λ h. record { below = h.0; is_below = h.1; dir = h.2.0; is_dir = h.2.1; new_dir = h.2.2.0; above = h.2.2.1; strictly = h.2.2.2; nearest = h.2.2.3 })
      (λ (h : NearestDir plan e d). (h.below, h.is_below, (h.dir, h.is_dir, (h.new_dir, h.above, h.strictly, h.nearest))))
      (decide_at plan.entries e (λ below. (dir : Entry) × EntryIs plan d dir × IsNearest below dir)
      (λ below. decide_at plan.entries d (IsNearest below) (decide_is_nearest below)))

-- ---- paths with a reason are there

-- below nothing there is nothing
nothing_at_or_below : (t : Print) → IsRooted t → (p rest : Path) → t p ≡ Absent → t (p ++ rest) ≡ Absent
nothing_at_or_below t rooted p [] gone = ap t (append-nil p) ∙ gone
nothing_at_or_below t rooted p (name ∷ rest) gone = nothing_below same_stamp_at rooted p name rest (λ dir. let e = sym gone ∙ dir in cc)

-- where there is nothing, there is no reason
pub nowhere_no_reason : (s : Snapshot) → IsWhole s → (p : Path) (r : Reason) → s.first p ≡ Absent → s.second p ≡ Absent → s.archive p ≡ Absent → ¬ HasReason s p r
nowhere_no_reason s whole p r no_first no_second no_archive has =
    nothing_no_reason s p (λ rest. nothing_at_or_below s.first whole.first p rest no_first) (λ rest. nothing_at_or_below s.second whole.second p rest no_second)
    (λ rest. nothing_at_or_below s.archive whole.archive p rest no_archive) r has.1

-- ---- the rules

module _ (s : Snapshot) (lawful : IsSnapshot s) where
  -- a path with a reason is there somewhere
  pub reason_within : (p : Path) (r : Reason) → HasReason s p r → Contains (lawful.first.present ++ (lawful.second.present ++ lawful.archive.present)) p
  reason_within p r has = elim (same_stamp_at (s.first p) Absent) [
    | no there ↦ Contains-append_left lawful.first.present _ p (lawful.first.finite p there)
    | yes no_first ↦ Contains-append_right lawful.first.present _ p (elim (same_stamp_at (s.second p) Absent) [
      | no there ↦ Contains-append_left lawful.second.present _ p (lawful.second.finite p there)
      | yes no_second ↦ Contains-append_right lawful.second.present _ p (elim (same_stamp_at (s.archive p) Absent) [
        | no there ↦ lawful.archive.finite p there
        | yes no_archive ↦ absurd (nowhere_no_reason s (IsWhole-from_snapshot s lawful) p r no_first no_second no_archive has)
      ])
    ])
  ]

  -- whether entries lack a path with a reason
  pub decide_lacks : (entries : List Entry) (place : ℕ) → Dec (Lacks s entries place)
  decide_lacks entries place = map_dec
      (λ h. (h.0, h.1.0, h.1.1.0, h.1.1.1.0, h.1.1.1.1))
      (λ h. (h.0, (h.1, (h.2, (h.3, h.4)))))
      (decide_within (λ p. (r : Reason) × (HasReason s p r × (IsMissing p × (place ≡ before p)))) (λ p. decide_path p) _ (λ p h. reason_within p h.0 h.1.0))
    where
      IsMissing : Path → Type 0
      IsMissing p = (k : ℕ) (entry : Entry) → slice_get entries k ≡ Some entry → entry.path ≢ p

      before : Path → ℕ
      before p = count_by (λ e. is_lt (path_cmp e.path p)) entries

      decide_missing : (p : Path) → Dec (IsMissing p)
      decide_missing p = map_dec
          (λ none. λ k entry is same. none (k, entry, is, same))
          (λ all. λ h. all h.0 h.1 h.2 h.3)
          (Dec-not (decide_place entries (λ k entry. entry.path ≡ p) (λ k entry. same_names entry.path p)))

      decide_path : (p : Path) → Dec ((r : Reason) × (HasReason s p r × (IsMissing p × (place ≡ before p))))
      decide_path p = decide_some_reason (λ r. HasReason s p r × (IsMissing p × (place ≡ before p)))
          (λ r. Dec-both (decide_has_reason s lawful p r) (Dec-both (decide_missing p) (same_number place (before p))))

  module _ (plan : Plan) where
    -- whether a piece is lawful
    pub decide_is_piece : (e offset len : ℕ) (p : Path) → Dec (IsPiece s plan e offset len p)
    decide_is_piece e offset len p = map_dec
        (λ h. (h.0, h.2.0, h.2.2.1.0, (h.1, h.2.1), h.2.2.0, h.2.2.1.1, h.2.2.1.2))
        (λ h. (h.0, h.3.0, (h.1, h.3.1, (h.4, (h.2, h.5, h.6)))))
        (decide_at plan.entries e (λ entry. (from : Side) × (source entry.reason ≡ Some from) × Q entry from) (λ entry.
        decide_source (source entry.reason) (Q entry) (λ from.
        Dec-both (decide_above entry.path p) (decide_file (replica s from p) (λ stamp. IsRange stamp.size offset len) (λ stamp. decide_range stamp.size offset len)))))
      where
        Q : Entry → Side → Type 0
        Q entry from = IsAbove entry.path p × ((stamp : Stamp) × (replica s from p ≡ File stamp) × IsRange stamp.size offset len)

    -- no action is this piece of this file
    abbrev IsNoPiece : ℕ → ℕ → Path → Type 0
    IsNoPiece e offset p = (i other : ℕ) → ¬ KindIs plan i (Piece e offset other p)

    -- the same piece, of whatever length
    abbrev IsSamePiece : ℕ → ℕ → Path → Kind → Type 0
    IsSamePiece e offset p kind = (other : ℕ) × (kind ≡ Piece e offset other p)

    -- whether a kind is the same piece
    decide_same_piece : (e offset : ℕ) (p : Path) (kind : Kind) → Dec (IsSamePiece e offset p kind)
    decide_same_piece e offset p kind = map_dec
        (λ h. (h.0.size, h.1 ∙ again h.0 h.2))
        (λ h. (record { entry = e; offset = offset; size = h.0; path = p }, h.1, (refl, (refl, refl))))
        (decide_piece (λ x. (x.entry ≡ e) × ((x.offset ≡ offset) × (x.path ≡ p))) (λ x. Dec-both (same_number x.entry e) (Dec-both (same_number x.offset offset) (same_names x.path p))) kind)
      where
        again : (x : PieceParts) → (x.entry ≡ e) × ((x.offset ≡ offset) × (x.path ≡ p)) → ◌≡◌ {A = Kind} (Piece x.entry x.offset x.size x.path) (Piece e offset x.size p)
        again x h = λ i. Piece (h.0 i) (h.1.0 i) x.size (h.1.1 i)

    -- whether no action is one
    decide_no_piece : (e offset : ℕ) (p : Path) → Dec (IsNoPiece e offset p)
    decide_no_piece e offset p = map_dec
        (λ none. λ i other is. none (i, Piece e offset other p, is, (other, refl)))
        (λ all. λ h. all h.0 h.3.0 (kind_as plan h.0 h.1 _ h.2 h.3.1))
        (Dec-not (decide_some_kind plan (λ i kind. IsSamePiece e offset p kind) (λ i kind. decide_same_piece e offset p kind)))

    -- whether entry e lacks a lawful piece
    decide_lacks_piece : (e : ℕ) → Dec ((offset len : ℕ) × (p : Path) × IsPiece s plan e offset len p × IsNoPiece e offset p)
    decide_lacks_piece e = map_dec
        (λ h. let at_path = h.2.2.1 in let in_file = at_path.1.2 in
        (in_file.0, _, h.2.2.0, (h.0, h.2.0, at_path.1.0, (h.1, h.2.1), at_path.0, at_path.1.1, in_file.2.0), in_file.2.1))
        (λ h. let piece = h.3 in (piece.0, piece.3.0, (piece.1, piece.3.1, (h.2, (piece.4, (piece.2, piece.5, (h.0, piece.6.within, (any_length piece.2.size h.0 h.1 piece.6, h.4))))))))
        (decide_at plan.entries e (λ entry. (from : Side) × (source entry.reason ≡ Some from) × LacksFrom entry from)
        (λ entry. decide_source (source entry.reason) (LacksFrom entry) (decide_from entry)))
      where
        LacksOf : Path → Stamp → Type 0
        LacksOf p stamp = (offset : ℕ) × (offset < stamp.size) × (IsRange stamp.size offset (min piece_size (stamp.size - offset)) × IsNoPiece e offset p)

        LacksFrom : Entry → Side → Type 0
        LacksFrom entry from = (p : Path) × (IsAbove entry.path p × ((stamp : Stamp) × (replica s from p ≡ File stamp) × LacksOf p stamp))

        any_length : (size offset len : ℕ) → IsRange size offset len → IsRange size offset (min piece_size (size - offset))
        any_length size offset len range = record { aligned = range.aligned; within = range.within; full = refl }

        decide_of : (p : Path) (stamp : Stamp) → Dec (LacksOf p stamp)
        decide_of p stamp = decide_number (λ offset. IsRange stamp.size offset (min piece_size (stamp.size - offset)) × IsNoPiece e offset p)
            (λ offset. Dec-both (decide_range stamp.size offset (min piece_size (stamp.size - offset))) (decide_no_piece e offset p)) stamp.size

        there : (p : Path) (from : Side) (stamp : Stamp) → replica s from p ≡ File stamp → replica s from p ≢ Absent
        there p from stamp is gone = let f = sym is ∙ gone in cc

        decide_from : (entry : Entry) (from : Side) → Dec (LacksFrom entry from)
        decide_from entry from = decide_within (λ p. IsAbove entry.path p × ((stamp : Stamp) × (replica s from p ≡ File stamp) × LacksOf p stamp))
            (λ p. Dec-both (decide_above entry.path p) (decide_file (replica s from p) (LacksOf p) (decide_of p)))
            (replica_tree s lawful from).present (λ p h. (replica_tree s lawful from).finite p (there p from h.1.0 h.1.1))

    -- whether a plan breaks a rule at a place
    pub decide_wrong : (rule : PlanRule) (place : ℕ) → Dec (Wrong s plan rule place)
    decide_wrong Limits place = Dec-both (same_number place 0) (Dec-not (decide_limits plan))
    decide_wrong EntriesAscend place = decide_out_of_order plan.entries place
    decide_wrong ReasonsHold place = decide_at plan.entries place (λ entry. ¬ HasReason s entry.path entry.reason) (λ entry. Dec-not (decide_has_reason s lawful entry.path entry.reason))
    decide_wrong EntriesComplete place = decide_lacks plan.entries place
    decide_wrong PredsAscend place = decide_at plan.actions place (λ action. ¬ AscendBelow place action.preds) (λ action. Dec-not (decide_ascend place action.preds))
    decide_wrong OneCommit place = decide_not_one_each plan Commit decide_commit (IsCopied plan) (decide_copied plan) place
    decide_wrong PiecesLawful place = map_dec
        (λ h. (h.0.entry, h.0.offset, h.0.size, h.0.path, h.1, h.2))
        (λ h. (record { entry = h.0; offset = h.1; size = h.2; path = h.3 }, h.4, h.5))
        (decide_piece_at plan place (λ x. ¬ IsPiece s plan x.entry x.offset x.size x.path) (λ x. Dec-not (decide_is_piece x.entry x.offset x.size x.path)))
    decide_wrong PiecesComplete place = Dec-either
        (map_dec
        (λ h. (h.0.entry, h.0.offset, h.0.size, h.0.path, h.1, h.2))
        (λ h. (record { entry = h.0; offset = h.1; size = h.2; path = h.3 }, h.4, h.5))
        (decide_piece_at plan place (λ x. Earlier plan place (IsSamePiece x.entry x.offset x.path)) (λ x. decide_earlier plan place (IsSamePiece x.entry x.offset x.path) (decide_same_piece x.entry x.offset x.path))))
        (map_dec
        (λ h. (h.0, h.2.0, h.2.1, h.2.2, h.1, h.2.3, h.2.4))
        (λ h. (h.0, h.4, (h.1, h.2, h.3, h.5, h.6)))
        (decide_more (length plan.actions) place (λ e. (offset len : ℕ) × (p : Path) × IsPiece s plan e offset len p × IsNoPiece e offset p) decide_lacks_piece))
    decide_wrong OneMark place = decide_not_one_each plan Mark decide_mark (IsMarked plan) (decide_marked plan) place
    decide_wrong PiecesFirst place = map_dec
        (λ h. (h.0, h.2.0, h.2.3.0.offset, h.2.3.0.size, h.2.3.0.path, h.1, kind_as plan h.2.0 h.2.1 _ h.2.2 (h.2.3.1 ∙ own h.0 h.2.3.0 h.2.3.2.0), h.2.3.2.1))
        (λ h. (h.0, h.5, (h.1, Piece h.0 h.2 h.3 h.4, h.6, (record { entry = h.0; offset = h.2; size = h.3; path = h.4 }, refl, (refl, h.7)))))
        (decide_entry_at plan Commit decide_commit place
        (λ e. (i : ℕ) × (kind : Kind) × KindIs plan i kind × ((x : PieceParts) × (kind ≡ piece_of x) × ((x.entry ≡ e) × (¬ Waits plan place i))))
        (λ e. decide_some_kind plan (λ i kind. (x : PieceParts) × (kind ≡ piece_of x) × ((x.entry ≡ e) × (¬ Waits plan place i)))
        (λ i kind. decide_piece (λ x. (x.entry ≡ e) × (¬ Waits plan place i)) (λ x. Dec-both (same_number x.entry e) (Dec-not (decide_waits plan place i))) kind)))
      where
        own : (e : ℕ) (x : PieceParts) → x.entry ≡ e → ◌≡◌ {A = Kind} (piece_of x) (Piece e x.offset x.size x.path)
        own e x same = λ i. Piece (same i) x.offset x.size x.path
    decide_wrong CommitFirst place = map_dec
        (λ h. (h.0, h.2.0, h.1, h.2.1, h.2.2))
        (λ h. (h.0, h.2, (h.1, h.3, h.4)))
        (decide_entry_at plan Mark decide_mark place (λ e. (i : ℕ) × KindIs plan i (Commit e) × (¬ Waits plan place i))
        (λ e. decide_of_entry plan Commit decide_commit e (λ i. ¬ Waits plan place i) (λ i. Dec-not (decide_waits plan place i))))
    decide_wrong DirFirst place = map_dec
        (λ h. (h.0, h.2.0, h.2.2.1.0, h.1, h.2.2.0, h.2.2.1.1, h.2.2.1.2))
        (λ h. (h.0, h.3, (h.1, entry_within h.0 h.1 h.4, (h.4, (h.2, h.5, h.6)))))
        (decide_entry_at plan Mark decide_mark place
        (λ e. (d : ℕ) × (d < length plan.entries) × (NearestDir plan e d × ((i : ℕ) × KindIs plan i (Mark d) × (¬ Waits plan place i))))
        (λ e. decide_number (λ d. NearestDir plan e d × ((i : ℕ) × KindIs plan i (Mark d) × (¬ Waits plan place i)))
        (λ d. Dec-both (decide_nearest plan e d) (decide_of_entry plan Mark decide_mark d (λ i. ¬ Waits plan place i) (λ i. Dec-not (decide_waits plan place i))))
        (length plan.entries)))
      where
        entry_within : (e d : ℕ) → NearestDir plan e d → d < length plan.entries
        entry_within e d nearest = slice_get_within plan.entries d nearest.dir nearest.is_dir

    -- ---- broken rules

    -- an entry that is copied is within the entries
    copied_within : (e : ℕ) → IsCopied plan e → e < length plan.entries
    copied_within e h = slice_get_within plan.entries e h.0 h.2.0

    -- so is one that is marked
    marked_within : (e : ℕ) → IsMarked plan e → e < length plan.entries
    marked_within e h = slice_get_within plan.entries e h.0 h.1

    -- an action's number is within the actions
    kind_within : (i : ℕ) (kind : Kind) → KindIs plan i kind → i < length plan.actions
    kind_within i kind is = slice_get_within plan.actions i is.0 is.1

    -- no rule is broken past this place
    abbrev past : ℕ
    past = length plan.entries + length plan.actions + 1

    -- a wrong place for such an action is within these
    one_each_within : (kind : ℕ → Kind) (Wants : ℕ → Type 0) → ((e : ℕ) → Wants e → e < length plan.entries) → (place : ℕ) → NotOneEach plan kind Wants place → place < past
    one_each_within kind Wants within place (inl h) = let less = kind_within place (kind h.0) h.1 in omega arith
    one_each_within kind Wants within place (inr h) = let less = within h.0 h.2 in omega (arith, h.1)

    -- where a rule is broken, it is so within these
    pub wrong_within : (rule : PlanRule) (place : ℕ) → Wrong s plan rule place → place < past
    wrong_within Limits place h = omega (arith, h.0)
    wrong_within EntriesAscend place h = let less = slice_get_within plan.entries place h.2 h.5 in omega arith
    wrong_within ReasonsHold place h = let less = slice_get_within plan.entries place h.0 h.1 in omega arith
    wrong_within EntriesComplete place h = let few = count_by-le-length (λ (e : Entry). is_lt (path_cmp e.path h.0)) plan.entries in omega (arith, h.4)
    wrong_within PredsAscend place h = let less = slice_get_within plan.actions place h.0 h.1 in omega arith
    wrong_within OneCommit place h = one_each_within Commit (IsCopied plan) copied_within place h
    wrong_within PiecesLawful place h = let less = kind_within place _ h.4 in omega arith
    wrong_within PiecesComplete place (inl h) = let less = kind_within place _ h.4 in omega arith
    wrong_within PiecesComplete place (inr h) = let less = slice_get_within plan.entries h.0 h.5.0 h.5.3.0 in omega (arith, h.4)
    wrong_within OneMark place h = one_each_within Mark (IsMarked plan) marked_within place h
    wrong_within PiecesFirst place h = let less = kind_within place _ h.5 in omega arith
    wrong_within CommitFirst place h = let less = kind_within place _ h.2 in omega arith
    wrong_within DirFirst place h = let less = kind_within place _ h.3 in omega arith

    -- the rule of this number is broken
    abbrev IsBrokenAt : ℕ → Type 0
    IsBrokenAt n = (rule : PlanRule) × (rule_number rule ≡ n) × ((k : ℕ) × (k < past) × Wrong s plan rule k)

    -- whether it is
    decide_broken_at : (n : ℕ) → Dec (IsBrokenAt n)
    decide_broken_at n = map_dec
        (λ h. (rule_at n, h.0, h.1))
        (λ h. let same : h.0 ≡ rule_at n = sym (rule_at-rule_number h.0) ∙ ap rule_at h.1 in
        (ap rule_number (sym same) ∙ h.1, subst (λ r. (k : ℕ) × (k < past) × Wrong s plan r k) same h.2))
        (Dec-both (same_number (rule_number (rule_at n)) n) (decide_number (Wrong s plan (rule_at n)) (decide_wrong (rule_at n)) past))

    -- there are twelve
    few_rules : (rule : PlanRule) → rule_number rule < 13
    few_rules Limits = omega arith
    few_rules EntriesAscend = omega arith
    few_rules ReasonsHold = omega arith
    few_rules EntriesComplete = omega arith
    few_rules PredsAscend = omega arith
    few_rules OneCommit = omega arith
    few_rules PiecesLawful = omega arith
    few_rules PiecesComplete = omega arith
    few_rules OneMark = omega arith
    few_rules PiecesFirst = omega arith
    few_rules CommitFirst = omega arith
    few_rules DirFirst = omega arith

    -- a plan is valid, or one rule is broken first
    pub valid_or_broken : Valid s plan ⊎ ((rule : PlanRule) × (place : ℕ) × Broken s plan rule place)
    valid_or_broken = elim (least_below IsBrokenAt decide_broken_at 13) [
      | inr none ↦ inl (λ rule place wrong. none (rule_number rule) (few_rules rule) (rule, refl, (place, wrong_within rule place wrong, wrong)))
      | inl found ↦ inr (first found.0 found.2 found.3)
    ]
      where
        first : (n : ℕ) → IsBrokenAt n → ((m : ℕ) → m < n → ¬ IsBrokenAt m) → (rule : PlanRule) × (place : ℕ) × Broken s plan rule place
        first n (rule, is, somewhere) none = elim (least_below (Wrong s plan rule) (decide_wrong rule) past) [
          | inr nowhere ↦ absurd (nowhere somewhere.0 somewhere.1 somewhere.2)
          | inl found ↦ (
            rule,
            found.0,
            record {
              earlier = λ r k less wrong. none (rule_number r) (omega (arith, is, less)) (r, refl, (k, wrong_within r k wrong, wrong));
              wrong = found.2;
              least = found.3;
            },
          )
        ]
