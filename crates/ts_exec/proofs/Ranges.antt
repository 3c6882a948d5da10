-- The pieces of a file that a folder tells: where each begins and ends.
use Rattle.std.proofs.Common.{◌≡◌, ◌⊎◌, ℕ, ◌+◌, ◌-◌, ◌%◌, ◌<◌, ◌≤◌, min, List, [], length, Some, sym, refl, ap, ◌∙◌, subst, inl, inr, arith}
use Rattle.std.proofs.lemmas.Option.{same_Some}
use Rattle.ts_name.specs.Paths.{Path, IsAbove, IsBefore}
use Rattle.ts_model.specs.Trees.{Tree, print_of, stamp_of, stamped}
use Rattle.ts_model.specs.Sync.{Snapshot, replica}
use Rattle.ts_model.specs.Plans.{KindIs, Copies, IsPiece, IsRange, Valid, piece_size, source}
use Rattle.ts_model.specs.declared.plan.Entry.{Entry}
use Rattle.ts_model.specs.declared.plan.Side.{Side}
use Rattle.ts_model.specs.declared.plan.Kind.{Kind}
use Rattle.ts_model.specs.declared.plan.Kind.TheVariants.{Piece}
use Rattle.ts_model.specs.declared.plan.Plan.{Plan}
use Rattle.ts_model.specs.declared.plan.PlanRule.TheVariants.{PiecesLawful, PiecesComplete}
use Rattle.ts_model.specs.declared.row.Content.{Content}
use Rattle.ts_model.specs.declared.row.Content.TheVariants.{Absent, Dir, File}
use Rattle.ts_model.specs.declared.row.Stamp.{Stamp}
use Rattle.ts_laws.proofs.Basics.{stable, Dec-both}
use Rattle.ts_name.proofs.Prefixes.{decide_above}
use Rattle.ts_name.proofs.Order.{before_itself}
use Rattle.ts_name.proofs.Basics.{at_each}
use Rattle.ts_laws.proofs.Steps.{same_kind, same_entry}
use Rattle.ts_check.specs.Pieces.{IsEarlierPiece}
use Rattle.ts_laws.proofs.Rules.{decide_range}

-- ---- files and their stamps

pub stamped_file : (x : Content (List ℕ)) (stamp : Stamp) → stamped x ≡ File stamp → (bytes : List ℕ) × (x ≡ File bytes) × (stamp_of bytes ≡ stamp)
stamped_file Absent stamp e = absurd (cc)
stamped_file Dir stamp e = absurd (cc)
stamped_file (File bytes) stamp e = (bytes, refl, cc)

same_file : (x y : List ℕ) → ◌≡◌ {A = Content (List ℕ)} (File x) (File y) → x ≡ y
same_file x y e = cc

pub same_bytes : (c : Content (List ℕ)) (x y : List ℕ) → c ≡ File x → c ≡ File y → x ≡ y
same_bytes c x y e f = same_file x y (sym e ∙ f)

-- whether a content is a file, with a decided fact of its bytes
decide_file : (x : Content (List ℕ)) (P : List ℕ → Type 0) → ((bytes : List ℕ) → Dec (P bytes)) → Dec ((bytes : List ℕ) × (x ≡ File bytes) × P bytes)
decide_file Absent P d = no (λ h. let f = h.1 in cc)
decide_file Dir P d = no (λ h. let f = h.1 in cc)
decide_file (File x) P d = elim (d x) [ yes h ↦ yes (x, refl, h) | no n ↦ no (λ h. n (subst P (same_file h.0 x (sym h.1)) h.2)) ]

-- ---- numbers

-- a range that ends before its file does is followed by another
pub aligned_end : (size offset len : ℕ) → IsRange size offset len → offset + len < size → (offset + len) % piece_size ≡ 0
aligned_end size offset len range less = let a = range.aligned in let f = range.full in omega arith

-- a range ends where a later one begins, or before
pub end_before : (size o l offset len : ℕ) → IsRange size o l → IsRange size offset len → o < offset → o + l ≤ offset
end_before size o l offset len one other less = let a = one.aligned in let b = other.aligned in let f = one.full in omega arith

pub some_bytes : (size offset len : ℕ) → IsRange size offset len → 0 < len
some_bytes size offset len range = let w = range.within in let f = range.full in omega arith

pub range_within : (size offset len : ℕ) → IsRange size offset len → offset + len ≤ size
range_within size offset len range = let w = range.within in let f = range.full in omega arith

-- ---- the order of pieces

abbrev pub path_in : Kind → Path
path_in (Piece e o s p) = p
path_in _ = []

abbrev pub offset_in : Kind → ℕ
offset_in (Piece e o s p) = o
offset_in _ = 0

abbrev pub size_in : Kind → ℕ
size_in (Piece e o s p) = s
size_in _ = 0

-- of two pieces of a file the earlier one begins first
pub earlier_offset : (plan : Plan) (k l e o len f offset size : ℕ) (p : Path) → IsEarlierPiece plan k l → KindIs plan k (Piece e o len p) → KindIs plan l (Piece f offset size p) → o < offset
earlier_offset plan k l e o len f offset size p h one other = go h.earlier
  where
    left : Piece h.one.0 h.one.1 h.one.2 h.one.3 ≡ Piece e o len p
    left = same_kind plan k (Piece h.one.0 h.one.1 h.one.2 h.one.3) (Piece e o len p) h.one.4 one

    right : Piece h.other.0 h.other.1 h.other.2 h.other.3 ≡ Piece f offset size p
    right = same_kind plan l (Piece h.other.0 h.other.1 h.other.2 h.other.3) (Piece f offset size p) h.other.4 other

    go : IsBefore h.one.3 h.other.3 ⊎ ((h.one.3 ≡ h.other.3) × (h.one.1 < h.other.1)) → o < offset
    go (inl b) = absurd (before_itself p (subst (λ (z : Path). IsBefore z p) (ap path_in left) (subst (λ (z : Path). IsBefore h.one.3 z) (ap path_in right) b)))
    go (inr b) = let x : h.one.1 ≡ o = ap offset_in left in let y : h.other.1 ≡ offset = ap offset_in right in let z = b.1 in omega arith

-- ---- the pieces of an entry, over a tree with the source's print

module _ (s : Snapshot) (plan : Plan) (valid : Valid s plan) (e : ℕ) (entry : Entry) (from : Side) (copied : Copies plan e entry from)
    (tree : Tree) (print : print_of tree ≡ replica s from) where
  -- what the tree has where a piece is read
  abbrev pub Covers : ℕ → ℕ → Path → Type 0
  Covers offset size p = (bytes : List ℕ) × (tree p ≡ File bytes) × (IsRange (length bytes) offset size × IsAbove entry.path p)

  covered : (offset size : ℕ) (p : Path) → IsPiece s plan e offset size p → Covers offset size p
  covered offset size p piece =
      let same_e : piece.0 ≡ entry = same_entry plan e piece.0 entry piece.3.0 copied.0 in
      let some : Some piece.1 ≡ Some from = sym piece.3.1 ∙ ap (λ (z : Entry). source z.reason) same_e ∙ copied.1 in
      let same_from : piece.1 ≡ from = same_Some piece.1 from some in
      let there : stamped (tree p) ≡ File piece.2 = at_each print p ∙ ap (λ (z : Side). replica s z p) (sym same_from) ∙ piece.5 in
      let found = stamped_file (tree p) piece.2 there in (
        found.0,
        found.1,
        (subst (λ (z : Stamp). IsRange z.size offset size) (sym found.2) piece.6, subst (λ (z : Entry). IsAbove z.path p) same_e piece.4),
      )

  -- each piece is a lawful range of a file that the tree has
  pub lawful : (k offset size : ℕ) (p : Path) → KindIs plan k (Piece e offset size p) → Covers offset size p
  lawful k offset size p kind = stable
      (decide_file (tree p) (λ bytes. IsRange (length bytes) offset size × IsAbove entry.path p) (λ bytes. Dec-both (decide_range (length bytes) offset size) (decide_above entry.path p)))
      (λ n. valid PiecesLawful k (e, offset, size, p, kind, λ piece. n (covered offset size p piece)))

  -- and each lawful range has a piece
  pub no_gap : (p : Path) (bytes : List ℕ) (offset : ℕ) → tree p ≡ File bytes → IsAbove entry.path p → offset % piece_size ≡ 0 → offset < length bytes
      → ((k size : ℕ) → ¬ KindIs plan k (Piece e offset size p)) → ⊥
  no_gap p bytes offset there above aligned within none = valid PiecesComplete (length plan.actions + e) (inr (
    e,
    offset,
    min piece_size (length bytes - offset),
    p,
    refl,
    (entry, from, stamp_of bytes, copied, above, sym (at_each print p) ∙ ap stamped there, record { aligned = aligned; within = within; full = refl }),
    none,
  ))
