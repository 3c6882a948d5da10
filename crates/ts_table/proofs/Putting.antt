-- Slots and the parts that are put into them.
use Rattle.std.proofs.Common.{◌≡◌, ℕ, zero, suc, ◌+◌, ◌<◌, ◌≤◌, List, [], ◌∷◌, ◌++◌, length, get_or, take, map, sum_by, refl, sym, ap, ap₂, ◌∙◌, subst, arith}
use Rattle.std.proofs.lemmas.List.{length-take-le, map-append, take_all, take_more}
use Rattle.std.proofs.lemmas.List.Sums.{sum_by-cons, sum_by_push}
use Rattle.std.specs.List.{AllByRecursion}
use Rattle.ts_name.specs.Paths.{Path, IsPath}
use Rattle.ts_model.specs.Trees.{Listing, IsSubListing}
use Rattle.ts_model.specs.declared.row.Row.{Row}
use Rattle.ts_table.specs.Tables.{placed}
use Rattle.ts_table.specs.Splices.{ArePaths, put_of}
use Rattle.ts_table.specs.Splits.{edits_of}
use Rattle.ts_table.specs.Slots.{HasRoom, PartsFit, paths_of, rerouted, slot_paths}
use Rattle.ts_table.specs.declared.splice.Edit.{Edit}
use Rattle.ts_table.specs.declared.splice.Put.{Put}
use Rattle.ts_table.specs.declared.frame.Slot.{Slot}
use Rattle.ts_name.proofs.Utf8.{all_append}
use Rattle.ts_table.proofs.Taking.{length_paths, rerouted_placed}

-- ---- the paths of a part's rows

-- a row at an index is placed with all
pub placed_at : {F : Type 0} (p : Path) (xs : Listing F) (i : ℕ) (row : Row F) → i < length xs → row ≡ get_or xs i row → AllByRecursion (λ row. IsPath row.path) (placed p xs) → IsPath (p ++ row.path)
placed_at {F} p [] i row under is all = absurd (omega arith)
placed_at {F} p (x ∷ xs) zero row under is all = subst (λ z. IsPath (p ++ z)) (ap (λ (r : Row F). r.path) (sym is)) all.0
placed_at {F} p (x ∷ xs) (suc i) row under is all = placed_at p xs i row (omega arith) is all.1

-- ---- one more slot

-- one more part at one more path
pub edits_push : {F : Type 0} (paths : List Path) (parts : List (Listing F)) (p : Path) (part : Listing F) → length paths ≡ length parts → edits_of (paths ++ p ∷ []) (parts ++ part ∷ []) ≡ edits_of paths parts ++ record { path = p; part = part } ∷ []
edits_push [] [] p part long = refl
edits_push [] (x ∷ parts) p part long = absurd (omega arith)
edits_push (q ∷ paths) [] p part long = absurd (omega arith)
edits_push {F} (q ∷ paths) (x ∷ parts) p part long = ap (λ z. record { path = q; part = x } ∷ z) (edits_push paths parts p part (omega arith))

-- and one more slot for it
pub fit_push : {F : Type 0} (slots : List (Slot F)) (parts : List (Listing F)) (slot : Slot F) (part : Listing F) → length slots ≡ length parts → PartsFit slots parts → slot.names.items ≡ paths_of (placed slot.path part) → HasRoom slot → PartsFit (slots ++ slot ∷ []) (parts ++ part ∷ [])
fit_push [] [] slot part long fit names room = (names, room, tt)
fit_push [] (x ∷ parts) slot part long fit names room = absurd (omega arith)
fit_push (s ∷ slots) [] slot part long fit names room = absurd fit
fit_push {F} (s ∷ slots) (x ∷ parts) slot part long fit names room = (fit.0, fit.1, fit_push slots parts slot part (omega arith) fit.2 names room)

-- what the slots so far have
pub record IsFilled {F : Type 0} (slots : List (Slot F)) (paths : List Path) (parts : List (Listing F)) : Type 0 where
  pub fit : PartsFit slots parts
  pub paths_are : slot_paths slots ≡ paths
  pub listings : AllByRecursion (λ part. IsSubListing part) parts
  pub are_paths : ArePaths (edits_of paths parts)

pub length_slots : {F : Type 0} (slots : List (Slot F)) → length (slot_paths slots) ≡ length slots
length_slots [] = refl
length_slots (slot ∷ slots) = ap suc (length_slots slots)

-- one more
pub filled_push : {F : Type 0} (slots : List (Slot F)) (paths : List Path) (parts : List (Listing F)) (slot : Slot F) (p : Path) (part : Listing F) → length paths ≡ length parts → IsFilled slots paths parts → slot.path ≡ p → slot.names.items ≡ paths_of (placed p part) → HasRoom slot → IsSubListing part → AllByRecursion (λ row. IsPath row.path) (placed p part) → IsFilled (slots ++ slot ∷ []) (paths ++ p ∷ []) (parts ++ part ∷ [])
filled_push {F} slots paths parts slot p part long filled at_path names room listing are = record {
  fit = fit_push slots parts slot part (sym (length_slots slots) ∙ ap length filled.paths_are ∙ long) filled.fit (names ∙ ap (λ z. paths_of (placed z part)) (sym at_path)) room;
  paths_are = map-append (λ (s : Slot F). s.path) slots (slot ∷ []) ∙ ap₂ (λ x y. x ++ y ∷ []) filled.paths_are at_path;
  listings = all_append (λ (z : Listing F). IsSubListing z) parts (part ∷ []) filled.listings (listing, tt);
  are_paths = subst (λ z. ArePaths z) (sym (edits_push paths parts p part long)) (all_append (λ (edit : Edit F). AllByRecursion (λ (row : Row F). IsPath row.path) (placed edit.path edit.part)) (edits_of paths parts) (record { path = p; part = part } ∷ []) filled.are_paths (are, tt));
}

-- the same at an index
pub filled_more : {F : Type 0} (slots : List (Slot F)) (paths : List Path) (parts : List (Listing F)) (i : ℕ) (slot : Slot F) (p : Path) (part : Listing F) → i < length paths → i < length parts → p ≡ get_or paths i p → part ≡ get_or parts i part → IsFilled slots (take i paths) (take i parts) → slot.path ≡ p → slot.names.items ≡ paths_of (placed p part) → HasRoom slot → IsSubListing part → AllByRecursion (λ row. IsPath row.path) (placed p part) → IsFilled (slots ++ slot ∷ []) (take (i + 1) paths) (take (i + 1) parts)
filled_more {F} slots paths parts i slot p part under within p_is part_is filled at_path names room listing are =
    let a = length-take-le i paths (omega arith) in
    let b = length-take-le i parts (omega arith) in
    let made = filled_push slots (take i paths) (take i parts) slot p part (omega arith) filled at_path names room listing are in
    let f : take (i + 1) paths ≡ take i paths ++ p ∷ [] = take_more paths i p under ∙ ap (λ z. take i paths ++ z ∷ []) (sym p_is) in
    let k : take (i + 1) parts ≡ take i parts ++ part ∷ [] = take_more parts i part within ∙ ap (λ z. take i parts ++ z ∷ []) (sym part_is) in
    subst (λ z. IsFilled (slots ++ slot ∷ []) z (take (i + 1) parts)) (sym f) (subst (λ z. IsFilled (slots ++ slot ∷ []) (take i paths ++ p ∷ []) z) (sym k) made)

-- behind the last one these are all
pub filled_all : {F : Type 0} (slots : List (Slot F)) (paths : List Path) (parts : List (Listing F)) (i : ℕ) → length paths ≤ i → length parts ≡ length paths → IsFilled slots (take i paths) (take i parts) → IsFilled slots paths parts
filled_all slots paths parts i behind long filled =
    subst (λ z. IsFilled slots z parts) (take_all i paths behind) (subst (λ z. IsFilled slots (take i paths) z) (take_all i parts (omega arith)) filled)

-- a part at an index is put with all
pub edit_at : {F : Type 0} (paths : List Path) (parts : List (Listing F)) (i : ℕ) (p : Path) (part : Listing F) → i < length paths → i < length parts → p ≡ get_or paths i p → part ≡ get_or parts i part → ArePaths (edits_of paths parts) → AllByRecursion (λ row. IsPath row.path) (placed p part)
edit_at [] parts i p part under within p_is part_is all = absurd (omega arith)
edit_at (q ∷ paths) [] i p part under within p_is part_is all = absurd (omega arith)
edit_at {F} (q ∷ paths) (x ∷ parts) zero p part under within p_is part_is all = subst (λ z. AllByRecursion (λ (row : Row F). IsPath row.path) (placed z part)) (sym p_is) (subst (λ z. AllByRecursion (λ (row : Row F). IsPath row.path) (placed q z)) (sym part_is) all.0)
edit_at {F} (q ∷ paths) (x ∷ parts) (suc i) p part under within p_is part_is all = edit_at paths parts i p part (omega arith) (omega arith) p_is part_is all.1

-- ---- how many rows are put

length_placed : {F : Type 0} (p : Path) (rows : Listing F) → length (placed p rows) ≡ length rows
length_placed p [] = refl
length_placed p (row ∷ rows) = ap suc (length_placed p rows)

-- as many rows as the slots have paths
pub rows_put : {F : Type 0} (slots : List (Slot F)) (parts : List (Listing F)) → PartsFit slots parts → sum_by (λ (put : Put F). length put.rows) (map put_of (edits_of (slot_paths slots) parts)) ≡ sum_by (λ (slot : Slot F). length slot.names.items) slots
rows_put [] parts fit = refl
rows_put (slot ∷ slots) [] fit = absurd fit
rows_put {F} (slot ∷ slots) (part ∷ parts) fit =
    sum_by-cons (λ (put : Put F). length put.rows) (put_of (record { path = slot.path; part = part })) (map put_of (edits_of (slot_paths slots) parts))
    ∙ ap₂ ◌+◌ (sym (ap length fit.0 ∙ length_paths (placed slot.path part))) (rows_put slots parts fit.2)
    ∙ sym (sum_by-cons (λ (s : Slot F). length s.names.items) slot slots)

-- a slot takes all rows of its part
pub part_put : {F : Type 0} (p : Path) (part : Listing F) (names : List Path) → names ≡ paths_of (placed p part) → (rerouted names part ≡ placed p part) × (length names ≡ length part)
part_put {F} p part names is = (ap (λ z. rerouted z part) is ∙ rerouted_placed p part, ap length is ∙ length_paths (placed p part) ∙ length_placed p part)

-- with one more slot there are as many rows more as it has paths
pub room_more : {F : Type 0} (start room next : ℕ) (slots new : List (Slot F)) (slot : Slot F) → room ≡ start + sum_by (λ (s : Slot F). length s.names.items) slots → next ≡ room + length slot.names.items → new ≡ slots ++ slot ∷ [] → next ≡ start + sum_by (λ (s : Slot F). length s.names.items) new
room_more {F} start room next slots new slot a b e =
    let f : sum_by (λ (s : Slot F). length s.names.items) new ≡ sum_by (λ (s : Slot F). length s.names.items) slots + length slot.names.items =
    ap (sum_by (λ (s : Slot F). length s.names.items)) e ∙ sum_by_push (λ (s : Slot F). length s.names.items) slots slot in
    omega arith
