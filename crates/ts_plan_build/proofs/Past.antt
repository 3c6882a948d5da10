-- How many actions stand so far, and how many there will be.
use Rattle.std.proofs.Common.{◌≡◌, ℕ, ◌+◌, ◌<◌, ◌≤◌, sum_by, List, [], ◌∷◌, ◌++◌, length, length-append, take, get_or, Option, Some, refl, sym, ap, ◌∙◌, arith}
use Rattle.std.proofs.lemmas.List.{take_all}
use Rattle.std.proofs.lemmas.List.Sums.{sum_by-cons, sum_by_more, sum_by_more_le}
use Rattle.ts_name.specs.Paths.{Path}
use Rattle.ts_model.specs.Trees.{Listing}
use Rattle.ts_model.specs.declared.row.Content.{Content}
use Rattle.ts_model.specs.declared.row.Content.TheVariants.{Absent, Dir, File}
use Rattle.ts_model.specs.declared.row.Row.{Row}
use Rattle.ts_model.specs.declared.row.Stamp.{Stamp}
use Rattle.ts_model.specs.declared.plan.Action.{Action}
use Rattle.ts_model.specs.declared.plan.Entry.{Entry}
use Rattle.ts_model.specs.declared.plan.Reason.{Reason}
use Rattle.ts_model.specs.declared.plan.Side.TheVariants as side
use Rattle.ts_table.specs.Tables.{rows_below}
use Rattle.ts_plan_build.specs.Blocks.{each_below, piece_count, piece_of, row_pieces, pieces_of, commit_of, mark_of, copy_block, block, block_by}
use Rattle.ts_plan_build.specs.Planned.{row_count, action_count, entry_actions, planned_actions, count_by_treatment}
use Rattle.ts_plan_build.proofs.Places.{length-each_below}
use Rattle.ts_model.specs.Sync.{treatment}
use Rattle.ts_model.specs.declared.plan.Treatment.{Treatment}
use Rattle.ts_model.specs.declared.plan.Treatment.TheVariants.{Copied, Agreed, NewDirectory, Skipped}

length-row_pieces : (e : ℕ) (p : Path) (c : Content Stamp) → length (row_pieces e (record { path = p; content = c })) ≡ row_count (record { path = p; content = c })
length-row_pieces e p Absent = refl
length-row_pieces e p Dir = refl
length-row_pieces e p (File stamp) = length-each_below (piece_of e p stamp.size) (piece_count stamp.size)

-- the pieces of rows
pub length-pieces_of : (e : ℕ) (rows : List (Row Stamp)) → length (pieces_of e rows) ≡ sum_by row_count rows
length-pieces_of e [] = refl
length-pieces_of e (row ∷ rows) =
    let here : length (row_pieces e row) ≡ row_count row = length-row_pieces e row.path row.content in
    let later : length (pieces_of e rows) ≡ sum_by row_count rows = length-pieces_of e rows in
    let both : length (pieces_of e (row ∷ rows)) ≡ length (row_pieces e row) + length (pieces_of e rows) = length-append (row_pieces e row) (pieces_of e rows) in
    let sums : sum_by row_count (row ∷ rows) ≡ row_count row + sum_by row_count rows = sum_by-cons row_count row rows in
    omega (arith, here, later, both, sums)

-- the actions of a copied entry
length-copy_block : (e : ℕ) (rows : List (Row Stamp)) (above : Option ℕ) (base : ℕ) → length (copy_block e rows above base) ≡ sum_by row_count rows + 2
length-copy_block e rows above base =
    let pieces : length (pieces_of e rows) ≡ sum_by row_count rows = length-pieces_of e rows in
    omega (arith, pieces, length-append (pieces_of e rows) (commit_of e base (length (pieces_of e rows)) ∷ mark_of e above (Some (base + length (pieces_of e rows))) ∷ []))

-- the actions of an entry
pub length-block : (F S : Listing Stamp) (e : ℕ) (p : Path) (r : Reason) (above : Option ℕ) (base : ℕ) → length (block F S e p r above base) ≡ action_count F S p r
length-block F S e p r above base = go (treatment r)
  where
    go : (how : Treatment) → length (block_by F S e p how above base) ≡ count_by_treatment F S p how
    go (Copied side.First) = length-copy_block e (rows_below p F) above base
    go (Copied side.Second) = length-copy_block e (rows_below p S) above base
    go Agreed = refl
    go NewDirectory = refl
    go Skipped = refl

-- ---- a limit that is met on the way is passed in the end

-- in a file, at one of its pieces
pub past_in_file : (limit : ℕ) (f : ℕ → Action) (before now : List Action) (piece count : ℕ) → now ≡ before ++ each_below f piece → piece < count → limit < length now + 1 → limit < length before + count
past_in_file limit f before now piece count e l past =
    let same : length now ≡ length (before ++ each_below f piece) = ap length e in
    omega (arith, same, length-append before (each_below f piece), length-each_below f piece)

-- how many stand before a row's
length-before_row : (e i : ℕ) (rows : List (Row Stamp)) (before now : List Action) → now ≡ before ++ pieces_of e (take i rows) → length now ≡ length before + sum_by row_count (take i rows)
length-before_row e i rows before now is =
    let same : length now ≡ length (before ++ pieces_of e (take i rows)) = ap length is in
    omega (arith, same, length-append before (pieces_of e (take i rows)), length-pieces_of e (take i rows))

-- in a copied entry, at one of its files
pub past_in_rows : (limit e i size : ℕ) (rows : List (Row Stamp)) (row : Row Stamp) (stamp : Stamp) (before now : List Action) → now ≡ before ++ pieces_of e (take i rows) → i < length rows → row ≡ get_or rows i row → row.content ≡ File stamp
    → limit < length now + piece_count stamp.size → limit < length before + (sum_by row_count rows + 2)
past_in_rows limit e i size rows row stamp before now is l at file past =
    let so_far : length now ≡ length before + sum_by row_count (take i rows) = length-before_row e i rows before now is in
    let more : sum_by row_count (take i rows) + row_count (get_or rows i row) ≤ sum_by row_count rows = sum_by_more_le row_count rows i row l in
    let here : row_count (get_or rows i row) ≡ piece_count stamp.size = ap row_count (sym at) ∙ ap (λ (c : Content Stamp). row_count (record { path = row.path; content = c })) file in
    omega (arith, so_far, more, here, past)

-- at its commit
pub past_at_commit : (limit e i : ℕ) (rows : List (Row Stamp)) (before now : List Action) → now ≡ before ++ pieces_of e (take i rows) → length rows ≤ i → limit < length now + 1 → limit < length before + (sum_by row_count rows + 2)
past_at_commit limit e i rows before now is l past =
    let so_far : length now ≡ length before + sum_by row_count (take i rows) = length-before_row e i rows before now is in
    let all : sum_by row_count (take i rows) ≡ sum_by row_count rows = ap (sum_by row_count) (take_all i rows l) in
    omega (arith, so_far, all, past)

-- at its mark
pub past_at_mark : (limit e i : ℕ) (rows : List (Row Stamp)) (commit : Action) (before now with_commit : List Action) → now ≡ before ++ pieces_of e (take i rows) → length rows ≤ i → with_commit ≡ now ++ commit ∷ [] → limit < length with_commit + 1
    → limit < length before + (sum_by row_count rows + 2)
past_at_mark limit e i rows commit before now with_commit is l more past =
    let so_far : length now ≡ length before + sum_by row_count (take i rows) = length-before_row e i rows before now is in
    let all : sum_by row_count (take i rows) ≡ sum_by row_count rows = ap (sum_by row_count) (take_all i rows l) in
    let same : length with_commit ≡ length (now ++ commit ∷ []) = ap length more in
    omega (arith, so_far, all, same, past, length-append now (commit ∷ []))

-- in the plan, at one of its entries
pub past_in_entries : (limit : ℕ) (F S : Listing Stamp) (entries : List Entry) (entry : Entry) (k : ℕ) (now : List Action) → length now ≡ planned_actions F S (take k entries) → k < length entries → entry ≡ get_or entries k entry
    → limit < length now + action_count F S entry.path entry.reason → limit < planned_actions F S entries
past_in_entries limit F S entries entry k now is l at past =
    let more : planned_actions F S (take k entries) + entry_actions F S (get_or entries k entry) ≤ planned_actions F S entries = sum_by_more_le (entry_actions F S) entries k entry l in
    let here : entry_actions F S (get_or entries k entry) ≡ action_count F S entry.path entry.reason = ap (entry_actions F S) (sym at) in
    omega (arith, is, more, here, past)

-- one entry more
pub counted_more : (F S : Listing Stamp) (entries : List Entry) (entry : Entry) (k : ℕ) (above : Option ℕ) (now new : List Action) → length now ≡ planned_actions F S (take k entries) → k < length entries → entry ≡ get_or entries k entry
    → new ≡ now ++ block F S k entry.path entry.reason above (length now) → length new ≡ planned_actions F S (take (k + 1) entries)
counted_more F S entries entry k above now new is l at added =
    let more : planned_actions F S (take (k + 1) entries) ≡ planned_actions F S (take k entries) + entry_actions F S (get_or entries k entry) = sum_by_more (entry_actions F S) entries k entry l in
    let here : entry_actions F S (get_or entries k entry) ≡ action_count F S entry.path entry.reason = ap (entry_actions F S) (sym at) in
    let same : length new ≡ length (now ++ block F S k entry.path entry.reason above (length now)) = ap length added in
    omega (arith, is, more, here, same, length-append now (block F S k entry.path entry.reason above (length now)), length-block F S k entry.path entry.reason above (length now))
