-- Parts of trees, and trees with parts put in place: their files fit, and their paths are paths.
use Rattle.std.proofs.Common.{◌≡◌, ◌≢◌, ℕ, suc, length, Bool, true, false, cond, List, [], ◌∷◌, ◌++◌, Option, Some, None, refl, sym, ap, ◌∙◌, subst}
use Rattle.std.specs.List.{AllByRecursion, list_any}
use Rattle.ts_name.specs.Paths.{Path, IsPath, IsBefore, below, same_path}
use Rattle.ts_model.specs.Trees.{Listing, Ascend, IsListing, IsSubListing, at, listed, sub}
use Rattle.ts_model.specs.Texts.{FileFits, IsTreeBody}
use Rattle.ts_model.specs.Runs.{graft}
use Rattle.ts_model.specs.declared.row.Content.{Content}
use Rattle.ts_model.specs.declared.row.Content.TheVariants.{Absent}
use Rattle.ts_model.specs.declared.row.Row.{Row}
use Rattle.ts_table.specs.Splices.{grafted}
use Rattle.ts_table.specs.Splits.{ArePartsAt, edits_of, without}
use Rattle.ts_table.specs.Tables.{is_above, placed}
use Rattle.ts_table.specs.declared.splice.Edit.{Edit}
use Rattle.ts_table.proofs.Cuts.{IsPath-root}
use Rattle.ts_name.proofs.Order.{before_itself}
use Rattle.ts_name.proofs.Basics.{weaker, all_both, all_map, at_each}
use Rattle.ts_table.proofs.Rows.{listed_after, listed_holds}
use Rattle.ts_tree.specs.Trees.{EditFits, FilesFit}
use Rattle.ts_model.proofs.Rows.{listed_here, ascend_rest}
use Rattle.ts_model.proofs.Listings.{ascend_first, root_not_listed}

-- ---- rows and what they list

-- each row says what is listed at its path
pub lists_each : {F : Type 0} (rows : Listing F) → Ascend rows → AllByRecursion (λ row. listed rows row.path ≡ row.content) rows
lists_each [] up = tt
lists_each {F} (row ∷ rows) up = (
  listed_here row rows,
  weaker (λ (r : Row F). IsBefore row.path r.path × (listed rows r.path ≡ r.content)) (λ r. listed (row ∷ rows) r.path ≡ r.content)
      (λ r h. listed_after (row ∷ []) rows r.path ((λ e. before_itself r.path (subst (λ z. IsBefore z r.path) e h.0)), tt) ∙ h.1)
      rows (all_both (λ (r : Row F). IsBefore row.path r.path) (λ r. listed rows r.path ≡ r.content) rows (ascend_first row rows up) (lists_each rows (ascend_rest row rows up))),
)

-- what is there in a listing is at a path
pub at_path : {F : Type 0} (rows : Listing F) → IsListing rows → (q : Path) → at rows q ≢ Absent → IsPath q
at_path rows lists [] there = IsPath-root
at_path {F} rows lists (name ∷ names) there =
    listed_holds IsPath rows (name ∷ names) (weaker (λ (row : Row F). IsPath row.path × (row.path ≢ []) × (row.content ≢ Absent)) (λ row. IsPath row.path) (λ row h. h.0) rows lists.rows_are) there

-- the rows of a part stand at paths, where the part came from
pub part_paths : {F : Type 0} (rows part : Listing F) (p : Path) → IsListing rows → IsSubListing part → listed part ≡ sub (at rows) p
    → AllByRecursion (λ row. IsPath row.path) (placed p part)
part_paths {F} rows part p lists is same =
    all_map (λ (row : Row F). IsPath row.path) (λ row. record { path = p ++ row.path; content = row.content }) part
    (weaker (λ (row : Row F). (IsPath row.path × (row.content ≢ Absent)) × (listed part row.path ≡ row.content)) (λ row. IsPath (p ++ row.path))
    (λ row h. at_path rows lists (p ++ row.path) (λ gone. h.0.1 (sym h.1 ∙ at_each same row.path ∙ gone)))
    part (all_both (λ (row : Row F). IsPath row.path × (row.content ≢ Absent)) (λ row. listed part row.path ≡ row.content) part is.rows_are (lists_each part is.ascending)))

-- ---- files

fits_choice : (b : Bool) (x y : Content (List ℕ)) → FileFits x → FileFits y → FileFits (cond b x y)
fits_choice true x y h k = h
fits_choice false x y h k = k

-- what rows list fits, where the rows do
pub fits_listed : (rows : Listing (List ℕ)) → AllByRecursion (λ row. FileFits row.content) rows → (p : Path) → FileFits (listed rows p)
fits_listed [] h p = tt
fits_listed (row ∷ rows) h p = fits_choice (same_path row.path p) row.content (listed rows p) h.0 (fits_listed rows h.1 p)

pub fits_at : (rows : Listing (List ℕ)) → AllByRecursion (λ row. FileFits row.content) rows → (p : Path) → FileFits (at rows p)
fits_at rows h [] = tt
fits_at rows h (name ∷ names) = fits_listed rows h (name ∷ names)

-- and the other way round
pub fits_rows : (rows : Listing (List ℕ)) → Ascend rows → ((p : Path) → FileFits (listed rows p)) → AllByRecursion (λ row. FileFits row.content) rows
fits_rows rows up h =
    weaker (λ (row : Row (List ℕ)). listed rows row.path ≡ row.content) (λ row. FileFits row.content) (λ row e. subst FileFits e (h row.path)) rows (lists_each rows up)

pub tree_body : (rows : Listing (List ℕ)) → IsListing rows → ((p : Path) → FileFits (at rows p)) → IsTreeBody rows
tree_body rows lists h = record { listing = lists; files = fits_rows rows lists.ascending each }
  where
    each : (p : Path) → FileFits (listed rows p)
    each [] = subst FileFits (sym (root_not_listed rows lists)) tt
    each (name ∷ names) = h (name ∷ names)

-- the files of a part fit, where those of the tree do
pub part_fits : (rows part : Listing (List ℕ)) (p : Path) → IsTreeBody rows → IsSubListing part → listed part ≡ sub (at rows) p
    → AllByRecursion (λ row. FileFits row.content) part
part_fits rows part p body is same =
    fits_rows part is.ascending (λ rest. subst FileFits (sym (at_each same rest)) (fits_at rows body.files (p ++ rest)))

graft_fits : (t content : Path → Content (List ℕ)) (p q : Path) → ((r : Path) → FileFits (t r)) → ((r : Path) → FileFits (content r)) → FileFits (graft t p content q)
graft_fits t content p q h k = go (below p q)
  where
    go : (o : Option Path) → FileFits (elim o [ None ↦ t q | Some rest ↦ content rest ])
    go None = h q
    go (Some rest) = k rest

-- with edits that fit, what is at each path fits
pub grafted_fits : (edits : List (Edit (List ℕ))) (t : Path → Content (List ℕ)) → AllByRecursion EditFits edits → ((p : Path) → FileFits (t p)) → (p : Path) → FileFits (grafted t edits p)
grafted_fits [] t h k p = k p
grafted_fits (edit ∷ edits) t h k p =
    grafted_fits edits (graft t edit.path (listed edit.part)) h.1 (λ q. graft_fits t (listed edit.part) edit.path q k (fits_listed edit.part h.0)) p

-- so the rows are those of a tree
pub spliced_body : (old rows : Listing (List ℕ)) (edits : List (Edit (List ℕ))) → IsTreeBody old → IsListing rows → AllByRecursion EditFits edits → at rows ≡ grafted (at old) edits → IsTreeBody rows
spliced_body old rows edits body lists fits same =
    tree_body rows lists (λ p. subst FileFits (sym (at_each same p)) (grafted_fits edits (at old) fits (fits_at old body.files) p))

-- ---- a tree that is split, and parts put into it

-- the files of the parts fit
pub parts_fit : (rows : Listing (List ℕ)) (paths : List Path) (parts : List (Listing (List ℕ))) → IsTreeBody rows → ArePartsAt (at rows) paths parts → AllByRecursion FilesFit parts
parts_fit rows [] [] body are = tt
parts_fit rows [] (part ∷ parts) body are = absurd are
parts_fit rows (p ∷ paths) [] body are = absurd are
parts_fit rows (p ∷ paths) (part ∷ parts) body are = (part_fits rows part p body are.0 are.1, parts_fit rows paths parts body are.2)

-- and so do those that are left
pub left_fit : (rows new : Listing (List ℕ)) (paths : List Path) → IsTreeBody rows → IsListing new → at new ≡ without (at rows) paths → FilesFit new
left_fit rows new paths body lists same =
    let made = tree_body new lists (λ p. subst FileFits (sym (at_each same p)) (choice (list_any (λ q. is_above q p) paths) (at rows p) (fits_at rows body.files p))) in
    made.files
  where
    choice : (b : Bool) (x : Content (List ℕ)) → FileFits x → FileFits (cond b Absent x)
    choice true x h = tt
    choice false x h = h

-- edits fit, where their parts do
edits_fit : (paths : List Path) (parts : List (Listing (List ℕ))) → AllByRecursion FilesFit parts → AllByRecursion EditFits (edits_of paths parts)
edits_fit [] parts h = tt
edits_fit (p ∷ paths) [] h = tt
edits_fit (p ∷ paths) (part ∷ parts) h = (h.0, edits_fit paths parts h.1)

-- the files of a tree that is put together fit, where those of its frame and its parts do
pub joined_fit : (old new : Listing (List ℕ)) (paths : List Path) (parts : List (Listing (List ℕ))) → FilesFit old → AllByRecursion FilesFit parts → IsListing new → at new ≡ grafted (at old) (edits_of paths parts) → FilesFit new
joined_fit old new paths parts fits of_parts lists same =
    let made = tree_body new lists (λ p. subst FileFits (sym (at_each same p)) (grafted_fits (edits_of paths parts) (at old) (edits_fit paths parts of_parts) (fits_at old fits) p)) in
    made.files

-- a tree with one part put in place
pub replaced_body : (old rows part : Listing (List ℕ)) (p : Path) → IsTreeBody old → IsListing rows → FilesFit part → at rows ≡ graft (at old) p (listed part) → IsTreeBody rows
replaced_body old rows part p body lists fits same = spliced_body old rows (record { path = p; part = part } ∷ []) body lists (fits, tt) same

-- there are as many parts as paths
pub parts_count : {F : Type 0} (t : Path → Content F) (paths : List Path) (parts : List (Listing F)) → ArePartsAt t paths parts → length parts ≡ length paths
parts_count t [] [] are = refl
parts_count t [] (part ∷ parts) are = absurd are
parts_count t (p ∷ paths) [] are = absurd are
parts_count t (p ∷ paths) (part ∷ parts) are = ap suc (parts_count t paths parts are.2)
