-- What stands in the block of an entry.
use Rattle.std.proofs.Common.{◌≡◌, ℕ, zero, suc, ◌+◌, ◌<◌, ◌≤◌, List, [], ◌∷◌, ◌++◌, length, length-append, Option, Some, None, slice_get, refl, sym, ap, subst, inl, inr, arith}
use Rattle.std.proofs.lemmas.Option.{none-some}
use Rattle.std.proofs.Common.{◌*◌, sum_by}
use Rattle.std.proofs.lemmas.List.Sums.{sum_by-append}
use Rattle.ts_name.specs.Paths.{Path}
use Rattle.ts_model.specs.Trees.{Listing}
use Rattle.ts_model.specs.declared.row.Content.{Content}
use Rattle.ts_model.specs.declared.row.Content.TheVariants.{Absent, Dir, File}
use Rattle.ts_model.specs.declared.row.Row.{Row}
use Rattle.ts_model.specs.declared.row.Stamp.{Stamp}
use Rattle.ts_model.specs.declared.plan.Action.{Action}
use Rattle.ts_model.specs.declared.plan.Reason.{Reason}
use Rattle.ts_model.specs.declared.plan.Side.TheVariants as side
use Rattle.ts_table.specs.Tables.{rows_below}
use Rattle.ts_plan_build.specs.Blocks.{each_below, piece_count, piece_of, row_pieces, pieces_of, commit_of, mark_of, some_of, copy_block, block, block_by}
use Rattle.ts_plan_build.specs.Built.{entry_of}
use Rattle.ts_plan_build.proofs.Places.{get_right, get_cases, get_one, length-each_below, at_each_below}
use Rattle.ts_model.specs.Sync.{treatment}
use Rattle.ts_model.specs.declared.plan.Treatment.{Treatment}
use Rattle.ts_model.specs.declared.plan.Treatment.TheVariants.{Copied, Agreed, NewDirectory, Skipped}

-- an action of a file's pieces
pub record IsPieceAt (e : ℕ) (rows : List (Row Stamp)) (a : Action) : Type 0 where
  pub row : Row Stamp
  pub stamp : Stamp
  pub number : ℕ
  pub place : ℕ
  pub among : slice_get rows place ≡ Some row
  pub file : row.content ≡ File stamp
  pub within : number < piece_count stamp.size
  pub is : a ≡ piece_of e row.path stamp.size number

-- the pieces of a row
piece_of_row : (e : ℕ) (row : Row Stamp) (rows : List (Row Stamp)) (k : ℕ) → slice_get rows k ≡ Some row → (c : Content Stamp) → row.content ≡ c → (i : ℕ) (a : Action) → slice_get (row_pieces e row) i ≡ Some a → IsPieceAt e rows a
piece_of_row e row rows k among Absent f i a h = absurd (none-some a (subst (λ (c : Content Stamp). slice_get (elim c [ Absent ↦ [] | Dir ↦ [] | File stamp ↦ each_below (piece_of e row.path stamp.size) (piece_count stamp.size) ]) i ≡ Some a) f h))
piece_of_row e row rows k among Dir f i a h = absurd (none-some a (subst (λ (c : Content Stamp). slice_get (elim c [ Absent ↦ [] | Dir ↦ [] | File stamp ↦ each_below (piece_of e row.path stamp.size) (piece_count stamp.size) ]) i ≡ Some a) f h))
piece_of_row e row rows k among (File stamp) f i a h =
    let found = at_each_below (piece_of e row.path stamp.size) (piece_count stamp.size) i a (subst (λ (c : Content Stamp). slice_get (elim c [ Absent ↦ [] | Dir ↦ [] | File stamp ↦ each_below (piece_of e row.path stamp.size) (piece_count stamp.size) ]) i ≡ Some a) f h) in
    record { row = row; stamp = stamp; number = i; place = k; among = among; file = f; within = found.0; is = found.1 }

-- each of the pieces is one
pub pieces_at : (e : ℕ) (rows : List (Row Stamp)) (i : ℕ) (a : Action) → slice_get (pieces_of e rows) i ≡ Some a → IsPieceAt e rows a
pieces_at e [] i a h = absurd (none-some a h)
pieces_at e (row ∷ rows) i a h = elim (get_cases (row_pieces e row) (pieces_of e rows) i a h) [
  | inl here ↦ piece_of_row e row (row ∷ rows) 0 refl row.content refl i a here
  | inr later ↦ let found = pieces_at e rows later.0 a later.2 in
      record { row = found.row; stamp = found.stamp; number = found.number; place = suc found.place; among = found.among; file = found.file; within = found.within; is = found.is }
]

-- a copied entry's block: pieces, the commit, the mark
pub data CopyAt (e : ℕ) (rows : List (Row Stamp)) (above : Option ℕ) (base j : ℕ) (a : Action) : Type 0 where
  piece : slice_get (pieces_of e rows) j ≡ Some a → CopyAt e rows above base j a
  commit : j ≡ length (pieces_of e rows) → a ≡ commit_of e base (length (pieces_of e rows)) → CopyAt e rows above base j a
  mark : j ≡ length (pieces_of e rows) + 1 → a ≡ mark_of e above (Some (base + length (pieces_of e rows))) → CopyAt e rows above base j a

pub copy_at : (e : ℕ) (rows : List (Row Stamp)) (above : Option ℕ) (base j : ℕ) (a : Action) → slice_get (copy_block e rows above base) j ≡ Some a → CopyAt e rows above base j a
copy_at e rows above base j a h =
    elim (get_cases (pieces_of e rows) (commit_of e base (length (pieces_of e rows)) ∷ mark_of e above (Some (base + length (pieces_of e rows))) ∷ []) j a h) [
      | inl here ↦ piece here
      | inr later ↦ two later.0 later.1 later.2
    ]
  where
    two : (k : ℕ) → j ≡ length (pieces_of e rows) + k → slice_get (commit_of e base (length (pieces_of e rows)) ∷ mark_of e above (Some (base + length (pieces_of e rows))) ∷ []) k ≡ Some a → CopyAt e rows above base j a
    two zero f g = commit (omega arith) (let s : Some (commit_of e base (length (pieces_of e rows))) ≡ Some a = g in cc)
    two (suc k) f g = let found = get_one (mark_of e above (Some (base + length (pieces_of e rows)))) k a g in mark (let z : k ≡ 0 = found.0 in omega arith) found.1

pub commit_there : (e : ℕ) (rows : List (Row Stamp)) (above : Option ℕ) (base : ℕ) → slice_get (copy_block e rows above base) (length (pieces_of e rows)) ≡ Some (commit_of e base (length (pieces_of e rows)))
commit_there e rows above base = get_right (pieces_of e rows) _ (length (pieces_of e rows)) 0 _ (omega arith) refl

pub mark_there : (e : ℕ) (rows : List (Row Stamp)) (above : Option ℕ) (base : ℕ) → slice_get (copy_block e rows above base) (length (pieces_of e rows) + 1) ≡ Some (mark_of e above (Some (base + length (pieces_of e rows))))
mark_there e rows above base = get_right (pieces_of e rows) _ (length (pieces_of e rows) + 1) 1 _ (omega arith) refl

-- the actions of a block are of its entry
copy_entry : (e : ℕ) (rows : List (Row Stamp)) (above : Option ℕ) (base j : ℕ) (a : Action) → CopyAt e rows above base j a → entry_of a.kind ≡ e
copy_entry e rows above base j a (piece h) = ap (λ (x : Action). entry_of x.kind) ((pieces_at e rows j a h).is)
copy_entry e rows above base j a (commit f g) = ap (λ (x : Action). entry_of x.kind) g
copy_entry e rows above base j a (mark f g) = ap (λ (x : Action). entry_of x.kind) g

pub block_entry : (F S : Listing Stamp) (e : ℕ) (p : Path) (r : Reason) (above : Option ℕ) (base j : ℕ) (a : Action) → slice_get (block F S e p r above base) j ≡ Some a → entry_of a.kind ≡ e
block_entry F S e p r above base j a h = go (treatment r) h
  where
    go : (how : Treatment) → slice_get (block_by F S e p how above base) j ≡ Some a → entry_of a.kind ≡ e
    go (Copied side.First) h = copy_entry e (rows_below p F) above base j a (copy_at e (rows_below p F) above base j a h)
    go (Copied side.Second) h = copy_entry e (rows_below p S) above base j a (copy_at e (rows_below p S) above base j a h)
    go Agreed h = ap (λ (x : Action). entry_of x.kind) ((get_one (mark_of e above None) j a h).1)
    go NewDirectory h = ap (λ (x : Action). entry_of x.kind) ((get_one (mark_of e above None) j a h).1)
    go Skipped h = absurd (none-some a h)

-- ---- how many predecessors

abbrev waited : List Action → ℕ
waited acts = sum_by (λ a. length a.preds) acts

none_each : (f : ℕ → Action) → ((j : ℕ) → (f j).preds ≡ []) → (n : ℕ) → waited (each_below f n) ≡ 0
none_each f none zero = refl
none_each f none (suc n) =
    let a : waited (each_below f n) ≡ 0 = none_each f none n in
    let b : waited (each_below f n ++ f n ∷ []) ≡ waited (each_below f n) + waited (f n ∷ []) = sum_by-append (λ (a : Action). length a.preds) (each_below f n) (f n ∷ []) in
    let c : length (f n).preds ≡ 0 = ap length (none n) in omega arith

none_row : (e : ℕ) (row : Row Stamp) (c : Content Stamp) → row.content ≡ c → waited (row_pieces e row) ≡ 0
none_row e row c f = subst (λ (c : Content Stamp). waited (elim c [ Absent ↦ [] | Dir ↦ [] | File stamp ↦ each_below (piece_of e row.path stamp.size) (piece_count stamp.size) ]) ≡ 0) (sym f) (go c)
  where
    go : (c : Content Stamp) → waited (elim c [ Absent ↦ [] | Dir ↦ [] | File stamp ↦ each_below (piece_of e row.path stamp.size) (piece_count stamp.size) ]) ≡ 0
    go Absent = refl
    go Dir = refl
    go (File stamp) = none_each (piece_of e row.path stamp.size) (λ j. refl) (piece_count stamp.size)

none_pieces : (e : ℕ) (rows : List (Row Stamp)) → waited (pieces_of e rows) ≡ 0
none_pieces e [] = refl
none_pieces e (row ∷ rows) =
    let a : waited (row_pieces e row) ≡ 0 = none_row e row row.content refl in
    let b : waited (pieces_of e rows) ≡ 0 = none_pieces e rows in
    let c : waited (row_pieces e row ++ pieces_of e rows) ≡ waited (row_pieces e row) + waited (pieces_of e rows) = sum_by-append (λ (a : Action). length a.preds) (row_pieces e row) (pieces_of e rows) in omega arith

few : (above commit : Option ℕ) → length (some_of above ++ some_of commit) ≤ 2
few None None = omega arith
few None (Some x) = omega arith
few (Some x) None = omega arith
few (Some x) (Some y) = omega arith

waited_two : (x y : Action) → waited (x ∷ y ∷ []) ≡ length x.preds + length y.preds
waited_two x y = omega arith

copy_preds : (e : ℕ) (rows : List (Row Stamp)) (above : Option ℕ) (base : ℕ) → waited (copy_block e rows above base) ≤ 2 * length (copy_block e rows above base)
copy_preds e rows above base =
    let a : waited (pieces_of e rows) ≡ 0 = none_pieces e rows in
    let b : waited (copy_block e rows above base) ≡ waited (pieces_of e rows) + waited (commit_of e base (length (pieces_of e rows)) ∷ mark_of e above (Some (base + length (pieces_of e rows))) ∷ []) = sum_by-append (λ (a : Action). length a.preds) (pieces_of e rows) (commit_of e base (length (pieces_of e rows)) ∷ mark_of e above (Some (base + length (pieces_of e rows))) ∷ []) in
    let b' = waited_two (commit_of e base (length (pieces_of e rows))) (mark_of e above (Some (base + length (pieces_of e rows)))) in
    let c : length (each_below (λ i. base + i) (length (pieces_of e rows))) ≡ length (pieces_of e rows) = length-each_below (λ i. base + i) (length (pieces_of e rows)) in
    let d : length (some_of above ++ some_of (Some (base + length (pieces_of e rows)))) ≤ 2 = few above (Some (base + length (pieces_of e rows))) in
    let f : length (copy_block e rows above base) ≡ length (pieces_of e rows) + 2 = length-append (pieces_of e rows) (commit_of e base (length (pieces_of e rows)) ∷ mark_of e above (Some (base + length (pieces_of e rows))) ∷ []) in
    omega (arith, a, b, b', c, d, f)

alone_preds : (e : ℕ) (above : Option ℕ) → waited (mark_of e above None ∷ []) ≤ 2 * 1
alone_preds e above = let d : length (some_of above ++ some_of None) ≤ 2 = few above None in omega arith

-- a block has at most two predecessors for each of its actions
pub block_preds : (F S : Listing Stamp) (e : ℕ) (p : Path) (r : Reason) (above : Option ℕ) (base : ℕ) → waited (block F S e p r above base) ≤ 2 * length (block F S e p r above base)
block_preds F S e p r above base = go (treatment r)
  where
    go : (how : Treatment) → waited (block_by F S e p how above base) ≤ 2 * length (block_by F S e p how above base)
    go (Copied side.First) = copy_preds e (rows_below p F) above base
    go (Copied side.Second) = copy_preds e (rows_below p S) above base
    go Agreed = alone_preds e above
    go NewDirectory = alone_preds e above
    go Skipped = omega arith
