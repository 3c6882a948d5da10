-- What was added to the actions.
use Rattle.std.proofs.Common.{◌≡◌, ◌≢◌, ℕ, ◌+◌, ◌-◌, ◌*◌, ◌<◌, min, List, [], ◌∷◌, ◌++◌, length, length-append, take, get_or, Option, Some}
use Rattle.std.proofs.Common.{refl, sym, ap, ◌∙◌, append_assoc, append-nil, arith}
use Rattle.std.proofs.lemmas.List.{take_more}
use Rattle.std.proofs.lemmas.List.Concat.{flat_map-append}
use Rattle.ts_name.specs.Paths.{Path}
use Rattle.ts_model.specs.Trees.{Listing}
use Rattle.ts_model.specs.declared.row.Content.{Content}
use Rattle.ts_model.specs.declared.row.Content.TheVariants.{Absent, Dir, File}
use Rattle.ts_model.specs.declared.row.Row.{Row}
use Rattle.ts_model.specs.declared.row.Stamp.{Stamp}
use Rattle.ts_model.specs.declared.plan.Action.{Action}
use Rattle.ts_model.specs.declared.plan.Kind.TheVariants.{Commit, Piece}
use Rattle.ts_plan_build.specs.Blocks.{each_below, piece_count, piece_of, row_pieces, pieces_of, commit_of, mark_of, copy_block}
use Rattle.ts_plan_build.proofs.Counting.{each_more}

-- the pieces of one row more
pub row_more : (e i : ℕ) (rows : List (Row Stamp)) (row : Row Stamp) (before now new : List Action) → now ≡ before ++ pieces_of e (take i rows) → i < length rows → row ≡ get_or rows i row
    → new ≡ now ++ row_pieces e row → new ≡ before ++ pieces_of e (take (i + 1) rows)
row_more e i rows row before now new is small at added =
    let more : pieces_of e (take (i + 1) rows) ≡ pieces_of e (take i rows) ++ row_pieces e row =
    ap (pieces_of e) (take_more rows i row small) ∙ flat_map-append (row_pieces e) (take i rows) (get_or rows i row ∷ [])
    ∙ ap (λ z. pieces_of e (take i rows) ++ z) (append-nil (row_pieces e (get_or rows i row)) ∙ ap (row_pieces e) (sym at)) in
    added ∙ ap (λ z. z ++ row_pieces e row) is ∙ append_assoc before (pieces_of e (take i rows)) (row_pieces e row) ∙ ap (λ z. before ++ z) (sym more)

-- of a file
pub file_pieces : (e : ℕ) (row : Row Stamp) (stamp : Stamp) → row.content ≡ File stamp → each_below (piece_of e row.path stamp.size) (piece_count stamp.size) ≡ row_pieces e row
file_pieces e row stamp is = sym (ap (λ (c : Content Stamp). row_pieces e (record { path = row.path; content = c })) is)

-- of anything else
pub no_pieces : (e : ℕ) (row : Row Stamp) → ((stamp : Stamp) → row.content ≢ File stamp) → row_pieces e row ≡ []
no_pieces e row none = go row.content none
  where
    go : (c : Content Stamp) → ((stamp : Stamp) → c ≢ File stamp) → row_pieces e (record { path = row.path; content = c }) ≡ []
    go Absent none = refl
    go Dir none = refl
    go (File stamp) none = absurd (none stamp refl)

-- one piece more of a file
pub piece_more : (e : ℕ) (p q : Path) (size piece least : ℕ) (preds : List ℕ) (before now new : List Action) → now ≡ before ++ each_below (piece_of e p size) piece
    → least ≡ min 1048576 (size - piece * 1048576) → q ≡ p → preds ≡ [] → new ≡ now ++ record { kind = Piece e (piece * 1048576) least q; preds = preds } ∷ []
    → new ≡ before ++ each_below (piece_of e p size) (piece + 1)
piece_more e p q size piece least preds before now new so_far is_least is_path is_none added =
    let grown = rw (is_least, is_path, is_none) at added in
    grown ∙ ap (λ z. z ++ piece_of e p size piece ∷ []) so_far ∙ append_assoc before (each_below (piece_of e p size) piece) (piece_of e p size piece ∷ [])
    ∙ ap (λ z. before ++ z) (sym (each_more (piece_of e p size) piece (piece + 1) refl))

-- the pieces, the commit and the mark of a copied entry
pub copy_added : (e : ℕ) (rows : Listing Stamp) (above : Option ℕ) (before now with_commit new : List Action) (from to : ℕ) (preds : List ℕ)
    → from ≡ length before → now ≡ before ++ pieces_of e rows → to ≡ length now
    → preds ≡ each_below (λ i. from + i) (to - from) → with_commit ≡ now ++ record { kind = Commit e; preds = preds } ∷ [] → new ≡ with_commit ++ mark_of e above (Some to) ∷ []
    → new ≡ before ++ copy_block e rows above (length before)
copy_added e rows above before now with_commit new from to preds is_from is_now is_to are commit mark =
    let count : to ≡ length before + length (pieces_of e rows) = is_to ∙ ap length is_now ∙ length-append before (pieces_of e rows) in
    let many : to - from ≡ length (pieces_of e rows) = omega (arith, count, is_from) in
    let its_preds : preds ≡ each_below (λ i. length before + i) (length (pieces_of e rows)) =
    are ∙ ap (λ (k : ℕ). each_below (λ i. k + i) (to - from)) is_from ∙ ap (each_below (λ i. length before + i)) many in
    let its_commit : with_commit ≡ now ++ commit_of e (length before) (length (pieces_of e rows)) ∷ [] =
    commit ∙ ap (λ (p : List ℕ). now ++ record { kind = Commit e; preds = p } ∷ []) its_preds in
    let its_mark : new ≡ with_commit ++ mark_of e above (Some (length before + length (pieces_of e rows))) ∷ [] =
    mark ∙ ap (λ (k : ℕ). with_commit ++ mark_of e above (Some k) ∷ []) count in
    rw (its_mark, its_commit, is_now) (simp append_assoc)
