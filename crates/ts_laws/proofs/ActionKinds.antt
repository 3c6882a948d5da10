-- Kinds of actions: what is decided of them, and of a plan's actions by their kind.
use Rattle.std.proofs.Common.{◌≡◌, ◌⊎◌, ℕ, length, sym, refl, ap, ◌∙◌, subst}
use Rattle.std.proofs.Math.Decide.{map_dec}
use Rattle.ts_name.specs.Paths.{Path}
use Rattle.ts_model.specs.Plans.{KindIs, Earlier, NotOneEach}
use Rattle.ts_model.specs.Runs.{IsPieceOf}
use Rattle.ts_model.specs.declared.plan.Kind.{Kind}
use Rattle.ts_model.specs.declared.plan.Kind.TheVariants.{Piece, Commit, Mark}
use Rattle.ts_model.specs.declared.plan.Plan.{Plan}
use Rattle.ts_laws.proofs.Basics.{Dec-both, Dec-either, Dec-not}
use Rattle.ts_laws.proofs.Search.{decide_at, decide_number, decide_place, decide_more}
use Rattle.ts_model.proofs.Deciding.{same_number}

-- ---- kinds

-- a commit, and its entry has a decided fact
pub decide_commit : (P : ℕ → Type 0) → ((e : ℕ) → Dec (P e)) → (kind : Kind) → Dec ((e : ℕ) × (kind ≡ Commit e) × P e)
decide_commit P d (Piece e offset size p) = no (λ h. let f = h.1 in cc)
decide_commit P d (Mark e) = no (λ h. let f = h.1 in cc)
decide_commit P d (Commit e) = elim (d e) [
  | yes h ↦ yes (e, refl, h)
  | no n ↦ no (λ h. n (subst P (let f = h.1 in cc) h.2))
]

-- a mark, and its entry has it
pub decide_mark : (P : ℕ → Type 0) → ((e : ℕ) → Dec (P e)) → (kind : Kind) → Dec ((e : ℕ) × (kind ≡ Mark e) × P e)
decide_mark P d (Piece e offset size p) = no (λ h. let f = h.1 in cc)
decide_mark P d (Commit e) = no (λ h. let f = h.1 in cc)
decide_mark P d (Mark e) = elim (d e) [
  | yes h ↦ yes (e, refl, h)
  | no n ↦ no (λ h. n (subst P (let f = h.1 in cc) h.2))
]

-- what a piece says
pub record PieceParts : Type 0 where
  pub entry : ℕ
  pub offset : ℕ
  pub size : ℕ
  pub path : Path

-- as a kind
abbrev pub piece_of : PieceParts → Kind
piece_of x = Piece x.entry x.offset x.size x.path

-- a piece, and it has a decided fact
pub decide_piece : (P : PieceParts → Type 0) → ((x : PieceParts) → Dec (P x)) → (kind : Kind) → Dec ((x : PieceParts) × (kind ≡ piece_of x) × P x)
decide_piece P d (Commit e) = no (λ h. let f = h.1 in cc)
decide_piece P d (Mark e) = no (λ h. let f = h.1 in cc)
decide_piece P d (Piece e offset size p) = elim (d (record { entry = e; offset = offset; size = size; path = p })) [
  | yes h ↦ yes (record { entry = e; offset = offset; size = size; path = p }, refl, h)
  | no n ↦ no (λ h. n (subst P (same h.0 h.1) h.2))
]
  where
    same : (x : PieceParts) → ◌≡◌ {A = Kind} (Piece e offset size p) (piece_of x) → x ≡ record { entry = e; offset = offset; size = size; path = p }
    same x f =
        let entries : x.entry ≡ e = cc in
        let offsets : x.offset ≡ offset = cc in
        let sizes : x.size ≡ size = cc in
        let paths : x.path ≡ p = cc in
        λ i. record { entry = entries i; offset = offsets i; size = sizes i; path = paths i }

-- whether a kind is that of an entry, where what is of this kind is decided
pub decide_is : (kind : ℕ → Kind) → ((P : ℕ → Type 0) → ((e : ℕ) → Dec (P e)) → (k : Kind) → Dec ((e : ℕ) × (k ≡ kind e) × P e)) → (k : Kind) (e : ℕ) → Dec (k ≡ kind e)
decide_is kind each k e = map_dec (λ h. h.1 ∙ ap kind h.2) (λ f. (e, f, refl)) (each (λ f. f ≡ e) (λ f. same_number f e) k)

-- ---- what the actions say

module _ (plan : Plan) where
  -- whether an action's kind has a decided fact
  pub decide_kind_at : (i : ℕ) (P : Kind → Type 0) → ((kind : Kind) → Dec (P kind)) → Dec ((kind : Kind) × KindIs plan i kind × P kind)
  decide_kind_at i P d = map_dec
      (λ h. (h.0.kind, (h.0, h.1, refl), h.2))
      (λ h. (h.1.0, h.1.1, subst P (sym h.1.2) h.2))
      (decide_at plan.actions i (λ action. P action.kind) (λ action. d action.kind))

  -- whether some action's kind has one
  pub decide_some_kind : (P : ℕ → Kind → Type 0) → ((i : ℕ) (kind : Kind) → Dec (P i kind)) → Dec ((i : ℕ) × (kind : Kind) × KindIs plan i kind × P i kind)
  decide_some_kind P d = map_dec
      (λ h. (h.0, h.1.kind, (h.1, h.2, refl), h.3))
      (λ h. (h.0, h.2.0, h.2.1, subst (P h.0) (sym h.2.2) h.3))
      (decide_place plan.actions (λ i action. P i action.kind) (λ i action. d i action.kind))

  -- whether an earlier action's kind has one
  pub decide_earlier : (i : ℕ) (P : Kind → Type 0) → ((kind : Kind) → Dec (P kind)) → Dec (Earlier plan i P)
  decide_earlier i P d = map_dec
      (λ h. (h.0, h.2.0, h.1, h.2.1, h.2.2))
      (λ h. (h.0, h.2, (h.1, h.3, h.4)))
      (decide_number (λ j. (kind : Kind) × KindIs plan j kind × P kind) (λ j. decide_kind_at j P d) i)

  -- a kind that is another
  pub kind_as : (i : ℕ) (x y : Kind) → KindIs plan i x → x ≡ y → KindIs plan i y
  kind_as i x y is e = subst (λ z. KindIs plan i z) e is

  -- whether an action is a piece, with a decided fact
  pub decide_piece_at : (i : ℕ) (P : PieceParts → Type 0) → ((x : PieceParts) → Dec (P x)) → Dec ((x : PieceParts) × KindIs plan i (piece_of x) × P x)
  decide_piece_at i P d = map_dec
      (λ h. (h.2.0, kind_as i h.0 (piece_of h.2.0) h.1 h.2.1, h.2.2))
      (λ h. (piece_of h.0, h.1, (h.0, refl, h.2)))
      (decide_kind_at i (λ kind. (x : PieceParts) × (kind ≡ piece_of x) × P x) (decide_piece P d))

  -- ---- one commit and one mark for each entry that wants it

  module _ (kind : ℕ → Kind) (each : (P : ℕ → Type 0) → ((e : ℕ) → Dec (P e)) → (k : Kind) → Dec ((e : ℕ) × (k ≡ kind e) × P e)) where
    -- whether an action is of this kind, with a decided fact of its entry
    pub decide_entry_at : (i : ℕ) (P : ℕ → Type 0) → ((e : ℕ) → Dec (P e)) → Dec ((e : ℕ) × KindIs plan i (kind e) × P e)
    decide_entry_at i P d = map_dec
        (λ h. (h.2.0, kind_as i h.0 (kind h.2.0) h.1 h.2.1, h.2.2))
        (λ h. (kind h.0, h.1, (h.0, refl, h.2)))
        (decide_kind_at i (λ k. (e : ℕ) × (k ≡ kind e) × P e) (each P d))

    -- whether the action of an entry is somewhere, with a decided fact of its number
    pub decide_of_entry : (e : ℕ) (P : ℕ → Type 0) → ((i : ℕ) → Dec (P i)) → Dec ((i : ℕ) × KindIs plan i (kind e) × P i)
    decide_of_entry e P d = map_dec
        (λ h. (h.0, kind_as h.0 h.1 (kind e) h.2 h.3.0, h.3.1))
        (λ h. (h.0, kind e, h.1, (refl, h.2)))
        (decide_some_kind (λ i k. (k ≡ kind e) × P i) (λ i k. Dec-both (decide_is kind each k e) (d i)))

    -- whether an entry has no such action
    pub decide_none : (e : ℕ) → Dec ((i : ℕ) → ¬ KindIs plan i (kind e))
    decide_none e = map_dec
        (λ none. λ i is. none (i, is, refl))
        (λ none. λ h. none h.0 h.1)
        (Dec-not (decide_of_entry e (λ i. i ≡ i) (λ i. yes refl)))

    -- whether not just each entry that wants such an action has one
    pub decide_not_one_each : (Wants : ℕ → Type 0) → ((e : ℕ) → Dec (Wants e)) → (place : ℕ) → Dec (NotOneEach plan kind Wants place)
    decide_not_one_each Wants d place = Dec-either
        (decide_entry_at place (λ e. (¬ Wants e) ⊎ Earlier plan place (λ k. k ≡ kind e))
        (λ e. Dec-either (Dec-not (d e)) (decide_earlier place (λ k. k ≡ kind e) (λ k. decide_is kind each k e))))
        (map_dec (λ h. (h.0, h.1, h.2.0, h.2.1)) (λ h. (h.0, h.1, (h.2, h.3)))
        (decide_more (length plan.actions) place (λ e. Wants e × ((i : ℕ) → ¬ KindIs plan i (kind e))) (λ e. Dec-both (d e) (decide_none e))))

  -- whether an action is a piece of a commit's entry
  pub decide_piece_of : (c k : ℕ) → Dec (IsPieceOf plan c k)
  decide_piece_of c k = map_dec
      (λ h. record {
        entry = h.0;
        offset = h.2.0.offset;
        size = h.2.0.size;
        path = h.2.0.path;
        commit = h.1;
        piece = kind_as k (piece_of h.2.0) (Piece h.0 h.2.0.offset h.2.0.size h.2.0.path) h.2.1 (λ i. Piece (h.2.2 i) h.2.0.offset h.2.0.size h.2.0.path);
      })
      (λ (h : IsPieceOf plan c k). (h.entry, h.commit, (record { entry = h.entry; offset = h.offset; size = h.size; path = h.path }, h.piece, refl)))
      (decide_entry_at Commit decide_commit c (λ e. (x : PieceParts) × KindIs plan k (piece_of x) × (x.entry ≡ e))
      (λ e. decide_piece_at k (λ x. x.entry ≡ e) (λ x. same_number x.entry e)))
