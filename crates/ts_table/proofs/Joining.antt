-- Frames and the parts that are put into them.
use Rattle.std.proofs.Common.{◌≡◌, Bool, true, false, cond, ◌||◌, List, [], ◌∷◌, ◌++◌, length, map, Option, Some, None, refl, sym, ap, ◌∙◌, subst, append_assoc, arith}
use Rattle.std.specs.List.{AllByRecursion, list_any}
use Rattle.ts_name.specs.Paths.{Name, Path, IsAbove, IsBefore, below}
use Rattle.ts_model.specs.Trees.{Listing, listed, at, IsListing, IsSubListing}
use Rattle.ts_model.specs.Runs.{graft}
use Rattle.ts_model.specs.declared.row.Content.{Content}
use Rattle.ts_model.specs.declared.row.Content.TheVariants.{Absent}
use Rattle.ts_table.specs.Tables.{is_above, IsPlace}
use Rattle.ts_table.specs.Splices.{ArePlaces, AreInOrder, ArePaths, grafted, put_of, spliced}
use Rattle.ts_table.specs.Splits.{AreSeparate, MaySplit, FrameOf, IsFrame, edits_of, without}
use Rattle.ts_table.specs.Slots.{cleared}
use Rattle.ts_table.specs.declared.splice.Edit.{Edit}
use Rattle.ts_name.proofs.Prefixes.{above_trans, not_above}
use Rattle.ts_name.proofs.Order.{before_trans, before_below, before_not_below}
use Rattle.ts_name.proofs.Utf8.{all_append, all_parts}
use Rattle.ts_name.proofs.Basics.{by_each, at_each, weaker}
use Rattle.ts_table.proofs.Listings.{is_above_no}
use Rattle.ts_table.proofs.Splicing.{AreParts, ComesFirst, IsSpliced, all_spliced}
use Rattle.ts_table.proofs.Uses.{IsPlace-graft, placed_before}

-- ---- edits at separate paths

abbrev pub edit_paths : {F : Type 0} → List (Edit F) → List Path
edit_paths edits = map (λ edit. edit.path) edits

-- each is a place when its turn comes
pub places_follow : {F : Type 0} (t : Path → Content F) (edits : List (Edit F)) → AreSeparate (edit_paths edits) → AllByRecursion (λ p. IsPlace t p) (edit_paths edits) → ArePlaces t edits
places_follow t [] separate places = tt
places_follow {F} t (edit ∷ edits) separate places = (places.0, places_follow (graft t edit.path (listed edit.part)) edits separate.1 (stay (edit_paths edits) separate.0 places.1))
  where
    stay : (paths : List Path) → AllByRecursion (λ q. IsBefore edit.path q × (¬ IsAbove edit.path q)) paths → AllByRecursion (λ p. IsPlace t p) paths → AllByRecursion (λ p. IsPlace (graft t edit.path (listed edit.part)) p) paths
    stay [] off are = tt
    stay (q ∷ paths) off are = (IsPlace-graft t (listed edit.part) edit.path q off.0.1 are.0, stay paths off.1 are.1)

-- and they are in order
pub order_follows : {F : Type 0} (edits : List (Edit F)) → AreSeparate (edit_paths edits) → AreInOrder edits
order_follows [] separate = tt
order_follows (edit ∷ []) separate = tt
order_follows (edit ∷ next ∷ edits) separate = (separate.0.0.0, placed_before edit.path next.path edit.part separate.0.0.0 separate.0.0.1, order_follows (next ∷ edits) separate.1)

-- nothing comes before all rows
nothing_first : {F : Type 0} (edits : List (Edit F)) → ComesFirst [] edits
nothing_first [] = tt
nothing_first (edit ∷ edits) = tt

-- so a pass makes them
pub separate_spliced : {F : Type 0} (rows : Listing F) (edits : List (Edit F)) → IsListing rows → AreSeparate (edit_paths edits) → AllByRecursion (λ p. IsPlace (at rows) p) (edit_paths edits) → AreParts edits → ArePaths edits → IsSpliced (at rows) edits (spliced rows (map put_of edits))
separate_spliced rows edits lists separate places parts paths = all_spliced [] rows edits lists (nothing_first edits) (places_follow (at rows) edits separate places) (order_follows edits separate) parts paths

-- ---- nothing at some paths

-- the edits that leave nothing there
abbrev clears : {F : Type 0} → List Path → List (Edit F)
clears [] = []
clears (p ∷ paths) = record { path = p; part = [] } ∷ clears paths

-- are at these paths
clears_paths : (F : Type 0) (paths : List Path) → edit_paths {F = F} (clears paths) ≡ paths
clears_paths F [] = refl
clears_paths F (p ∷ paths) = ap (λ z. p ∷ z) (clears_paths F paths)

-- and put nothing down
clears_puts : (F : Type 0) (paths : List Path) → map {A = Edit F} put_of (clears paths) ≡ map cleared paths
clears_puts F [] = refl
clears_puts F (p ∷ paths) = ap (λ z. cleared p ∷ z) (clears_puts F paths)

clears_parts : (F : Type 0) (paths : List Path) → IsSubListing {F = F} [] → AreParts {F = F} (clears paths)
clears_parts F [] none = tt
clears_parts F (p ∷ paths) none = (none, clears_parts F paths none)

clears_are_paths : (F : Type 0) (paths : List Path) → ArePaths {F = F} (clears paths)
clears_are_paths F [] = tt
clears_are_paths F (p ∷ paths) = (tt, clears_are_paths F paths)

-- no rows are those of nothing
IsSubListing-none : {F : Type 0} → IsSubListing {F = F} []
IsSubListing-none {F} = record { ascending = tt; rows_are = tt; parents = λ p name there. absurd (there refl) }

-- such edits leave nothing there, and all else
clears_leave : {F : Type 0} (t : Path → Content F) (paths : List Path) → grafted t (clears paths) ≡ without t paths
clears_leave t [] = refl
clears_leave {F} t (p ∷ paths) = clears_leave (graft t p (listed [])) paths ∙ by_each _ _ (λ q. go (below p q) q (list_any (λ r. is_above r q) paths))
  where
    go : (o : Option Path) (q : Path) (b : Bool) → ◌≡◌ {A = Content F} (cond b Absent (elim o [ None ↦ t q | Some rest ↦ Absent ])) (cond (elim o [ None ↦ false | Some rest ↦ true ] || b) Absent (t q))
    go None q b = refl
    go (Some rest) q true = refl
    go (Some rest) q false = refl

-- off all these paths
pub without_off : {F : Type 0} (t : Path → Content F) (paths : List Path) (q : Path) → AllByRecursion (λ p. ¬ IsAbove p q) paths → without t paths q ≡ t q
without_off t [] q off = refl
without_off {F} t (p ∷ paths) q off = ap (λ (b : Bool). cond (b || list_any (λ r. is_above r q) paths) Absent (t q)) (is_above_no p q off.0) ∙ without_off t paths q off.1

-- ---- a frame

-- what follows some paths
separate_right : (done todo : List Path) → AreSeparate (done ++ todo) → AreSeparate todo
separate_right [] todo h = h
separate_right (p ∷ done) todo h = separate_right done todo h.1

-- each of the first comes before a later one, and isn't above it
separate_across : (done : List Path) (p : Path) (todo : List Path) → AreSeparate (done ++ p ∷ todo) → AllByRecursion (λ r. IsBefore r p × (¬ IsAbove r p)) done
separate_across [] p todo h = tt
separate_across (r ∷ done) p todo h =
    let more = (all_parts (λ (q : Path). IsBefore r q × (¬ IsAbove r q)) done (p ∷ todo) h.0).1 in (more.0, separate_across done p todo h.1)

-- the paths are places still when all their parts are gone
places_left : {F : Type 0} (t : Path → Content F) (done todo : List Path) → AreSeparate (done ++ todo) → AllByRecursion (λ p. IsPlace t p) todo → AllByRecursion (λ p. IsPlace (without t (done ++ todo)) p) todo
places_left t done [] separate places = tt
places_left {F} t done (p ∷ todo) separate places = (
  record { not_root = places.0.not_root; parent = λ q name is. without_off t (done ++ p ∷ todo) q (off q name is) ∙ places.0.parent q name is },
  subst (λ z. AllByRecursion (λ r. IsPlace (without t z) r) todo) group (places_left t (done ++ p ∷ []) todo (subst AreSeparate (sym group) separate) places.1),
)
  where
    group : (done ++ p ∷ []) ++ todo ≡ done ++ p ∷ todo
    group = append_assoc done (p ∷ []) todo

    off : (q : Path) (name : Name) → p ≡ q ++ name ∷ [] → AllByRecursion (λ r. ¬ IsAbove r q) (done ++ p ∷ todo)
    off q name is =
        let early : IsBefore q p = subst (λ z. IsBefore q z) (sym is) (before_below q name []) in
        let right = separate_right done (p ∷ todo) separate in
        all_append (λ (r : Path). ¬ IsAbove r q) done (p ∷ todo)
        (weaker (λ (r : Path). IsBefore r p × (¬ IsAbove r p)) (λ r. ¬ IsAbove r q) (λ r h above. h.1 (above_trans r q p above (name ∷ [], is))) done (separate_across done p todo separate))
        (before_not_below q p early, weaker (λ (r : Path). IsBefore p r × (¬ IsAbove p r)) (λ r. ¬ IsAbove r q) (λ r h. before_not_below q r (before_trans q p r early h.0)) todo right.0)

-- what is left of a table
pub record IsLeft {F : Type 0} (rows : Listing F) (paths : List Path) (new : Listing F) : Type 0 where
  pub frame : IsFrame (record { rows = new; paths = paths })
  pub tree : at new ≡ without (at rows) paths

-- is a frame
pub frame_left : {F : Type 0} (rows : Listing F) (paths : List Path) → IsListing rows → MaySplit (at rows) paths → IsLeft rows paths (spliced rows (map cleared paths))
frame_left {F} rows paths lists may =
    let made : IsSpliced (at rows) (clears paths) (spliced rows (map cleared paths)) =
    subst (λ z. IsSpliced (at rows) (clears paths) (spliced rows z)) (clears_puts F paths)
    (separate_spliced rows (clears paths) lists (subst AreSeparate (sym (clears_paths F paths)) may.separate) (subst (λ z. AllByRecursion (λ p. IsPlace (at rows) p) z) (sym (clears_paths F paths)) may.places) (clears_parts F paths IsSubListing-none) (clears_are_paths F paths)) in
    let tree : at (spliced rows (map cleared paths)) ≡ without (at rows) paths = made.tree ∙ clears_leave (at rows) paths in
    record {
      frame = record {
        listing = made.listing;
        may_join = record {
          separate = may.separate;
          places = subst (λ z. AllByRecursion (λ p. IsPlace z p) paths) (sym tree) (places_left (at rows) [] paths may.separate may.places);
        };
      };
      tree = tree;
    }

-- ---- parts put at the paths of a frame

-- as many parts as paths make an edit at each path
pub edits_paths : {F : Type 0} (paths : List Path) (parts : List (Listing F)) → length parts ≡ length paths → edit_paths (edits_of paths parts) ≡ paths
edits_paths [] parts long = refl
edits_paths (p ∷ paths) [] long = absurd (omega arith)
edits_paths {F} (p ∷ paths) (part ∷ parts) long = ap (λ z. p ∷ z) (edits_paths paths parts (omega arith))

-- with rows of a content
pub edits_parts : {F : Type 0} (paths : List Path) (parts : List (Listing F)) → AllByRecursion (λ part. IsSubListing part) parts → AreParts (edits_of paths parts)
edits_parts [] parts are = tt
edits_parts (p ∷ paths) [] are = tt
edits_parts {F} (p ∷ paths) (part ∷ parts) are = (are.0, edits_parts paths parts are.1)

-- edits hide what stood at their paths
grafted_over : {F : Type 0} (u t : Path → Content F) (edits : List (Edit F)) → ((q : Path) → AllByRecursion (λ p. ¬ IsAbove p q) (edit_paths edits) → u q ≡ t q) → grafted u edits ≡ grafted t edits
grafted_over u t [] same = by_each _ _ (λ q. same q tt)
grafted_over {F} u t (edit ∷ edits) same = grafted_over (graft u edit.path (listed edit.part)) (graft t edit.path (listed edit.part)) edits (λ q off. go q off (below edit.path q) refl)
  where
    go : (q : Path) → AllByRecursion (λ p. ¬ IsAbove p q) (edit_paths edits) → (o : Option Path) → below edit.path q ≡ o → ◌≡◌ {A = Content F} (elim o [ None ↦ u q | Some rest ↦ listed edit.part rest ]) (elim o [ None ↦ t q | Some rest ↦ listed edit.part rest ])
    go q off None e = same q (not_above edit.path q e, off)
    go q off (Some rest) e = refl

-- so what they make of a frame they make of the table that was split
pub joined_whole : {F : Type 0} (rows : Listing F) (t : Path → Content F) (paths : List Path) (parts : List (Listing F)) → length parts ≡ length paths → at rows ≡ without t paths → grafted (at rows) (edits_of paths parts) ≡ grafted t (edits_of paths parts)
joined_whole {F} rows t paths parts long is =
    grafted_over (at rows) t (edits_of paths parts)
    (λ q off. at_each is q ∙ without_off t paths q (subst (λ z. AllByRecursion (λ p. ¬ IsAbove p q) z) (edits_paths paths parts long) off))

-- the pass puts each part at its path
pub frame_joined : {F : Type 0} (frame : FrameOf F) (parts : List (Listing F)) → IsFrame frame → length parts ≡ length frame.paths → AllByRecursion (λ part. IsSubListing part) parts → ArePaths (edits_of frame.paths parts) → IsSpliced (at frame.rows) (edits_of frame.paths parts) (spliced frame.rows (map put_of (edits_of frame.paths parts)))
frame_joined {F} frame parts is long are paths =
    let same = edits_paths frame.paths parts long in
    separate_spliced frame.rows (edits_of frame.paths parts) is.listing (subst AreSeparate (sym same) is.may_join.separate) (subst (λ z. AllByRecursion (λ p. IsPlace (at frame.rows) p) z) (sym same) is.may_join.places) (edits_parts frame.paths parts are) paths
