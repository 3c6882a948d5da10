-- The edits of entries: what they leave, and that they may be spliced.
use Rattle.std.proofs.Common.{◌≡◌, ◌≢◌, ℕ, Bool, true, false, cond, List, [], ◌∷◌, ◌++◌, Option, Some, None, refl, sym, ap, ◌∙◌, subst, append-nil}
use Rattle.std.specs.List.{AllByRecursion}
use Rattle.ts_name.specs.Paths.{Path, IsPath, IsBefore}
use Rattle.ts_model.specs.Trees.{Listing, Tree, Print, at, listed, print_of, sub}
use Rattle.ts_model.specs.Runs.{graft, bare_directory}
use Rattle.ts_model.specs.Plans.{is_from}
use Rattle.ts_model.specs.Sync.{AreReplicas, listed_snapshot, treatment}
use Rattle.ts_model.specs.declared.row.Content.{Content}
use Rattle.ts_model.specs.declared.row.Content.TheVariants.{Absent}
use Rattle.ts_model.specs.Texts.{IsTreeBody}
use Rattle.ts_model.specs.declared.hold.Rule.{Rule}
use Rattle.ts_model.specs.declared.row.Stamp.{Stamp}
use Rattle.ts_model.specs.declared.row.Row.{Row}
use Rattle.ts_model.specs.declared.plan.Entry.{Entry}
use Rattle.ts_model.specs.declared.plan.Reason.{Reason}
use Rattle.ts_model.specs.declared.plan.Side.{Side}
use Rattle.ts_model.specs.declared.plan.Side.TheVariants as side
use Rattle.ts_model.specs.declared.plan.Treatment.{Treatment}
use Rattle.ts_model.specs.declared.plan.Treatment.TheVariants.{Copied, Agreed, NewDirectory, Skipped}
use Rattle.ts_model.specs.declared.plan.Reason.TheVariants as reason
use Rattle.ts_table.specs.Splices.{ArePaths, ArePlaces, AreInOrder, grafted}
use Rattle.ts_table.specs.Tables.{IsPlace, placed}
use Rattle.ts_table.specs.declared.splice.Edit.{Edit}
use Rattle.ts_name.proofs.Basics.{weaker, all_both, all_map, at_each}
use Rattle.ts_tree.specs.Trees.{EditFits}
use Rattle.ts_tree.proofs.Parts.{lists_each, part_fits}
use Rattle.ts_laws.specs.Carried.{copied}
use Rattle.ts_board.specs.Edits.{copies, marks, marks_by, with_put, left_by, ComesFirst, MayFollow, IsPart, IsEditAt, Gives, Begins, AreEdits}

-- ---- what the laws call what entries leave

-- entries that copy leave what the laws say
pub left_copied : (from : Side) (origin : Tree) (entries : List Entry) (t : Tree) → left_by (copies from origin) t entries ≡ copied from origin t entries
left_copied from origin [] t = refl
left_copied from origin (entry ∷ entries) t =
    ap (λ u. left_by (copies from origin) u entries) (go (is_from from entry.reason)) ∙ left_copied from origin entries _
  where
    go : (b : Bool) → with_put t entry.path (cond b (Some (sub origin entry.path)) None) ≡ cond b (graft t entry.path (sub origin entry.path)) t
    go true = refl
    go false = refl

-- ---- edits one by one

-- the edits so far, and whatever edits those of the other entries are, are those of all entries
pub push_edit : {F : Type 0} (put : Option (Path → Content F)) (p : Path) (edit : Option (Edit F)) (edits more : List (Edit F)) (Follow : List (Edit F) → Type 0)
    → Gives put p edit → Follow more → Begins put p (elim edit [ None ↦ more | Some one ↦ one ∷ more ]) Follow
push_edit None p None edits more Follow h k = k
push_edit None p (Some edit) edits more Follow h k = absurd h
push_edit (Some content) p None edits more Follow h k = absurd h
push_edit (Some content) p (Some edit) edits more Follow h k = (h, k)

-- ---- what edits leave

-- the edits of entries leave what the entries do
pub edits_leave : {F : Type 0} (puts : Reason → Path → Option (Path → Content F)) (entries : List Entry) (t : Path → Content F) (edits : List (Edit F))
    → AreEdits puts entries edits → grafted t edits ≡ left_by puts t entries
edits_leave puts [] t edits h = ap (grafted t) h
edits_leave {F} puts (entry ∷ entries) t edits h = go (λ u es k. edits_leave puts entries u es k) (puts entry.reason entry.path) edits h
  where
    go : ((u : Path → Content F) (es : List (Edit F)) → AreEdits puts entries es → grafted u es ≡ left_by puts u entries)
        → (put : Option (Path → Content F)) (edits : List (Edit F)) → Begins put entry.path edits (λ rest. AreEdits puts entries rest)
        → grafted t edits ≡ left_by puts (with_put t entry.path put) entries
    go rest None edits h = rest t edits h
    go rest (Some content) [] h = absurd h
    go rest (Some content) (edit ∷ edits) h =
        ap (λ u. grafted u edits) (ap (λ p. graft t p (listed edit.part)) h.0.path ∙ ap (graft t entry.path) h.0.part.lists) ∙ rest (graft t entry.path content) edits h.1

-- their paths are paths
pub edits_paths : {F : Type 0} (puts : Reason → Path → Option (Path → Content F)) (entries : List Entry) (edits : List (Edit F))
    → AreEdits puts entries edits → ArePaths edits
edits_paths puts [] edits h = subst (λ es. ArePaths es) (sym h) tt
edits_paths {F} puts (entry ∷ entries) edits h = go (λ es k. edits_paths puts entries es k) (puts entry.reason entry.path) edits h
  where
    go : ((es : List (Edit F)) → AreEdits puts entries es → ArePaths es)
        → (put : Option (Path → Content F)) (edits : List (Edit F)) → Begins put entry.path edits (λ rest. AreEdits puts entries rest) → ArePaths edits
    go rest None edits h = rest edits h
    go rest (Some content) [] h = absurd h
    go rest (Some content) (edit ∷ edits) h =
        (subst (λ p. AllByRecursion (λ row. IsPath row.path) (placed p edit.part)) (sym h.0.path) h.0.part.paths, rest edits h.1)

-- each is at a place when its turn comes
pub edits_places : {F : Type 0} (puts : Reason → Path → Option (Path → Content F)) (entries : List Entry) (t : Path → Content F) (edits : List (Edit F))
    → MayFollow puts t entries → AreEdits puts entries edits → ArePlaces t edits
edits_places puts [] t edits may h = subst (λ es. ArePlaces t es) (sym h) tt
edits_places {F} puts (entry ∷ entries) t edits may h = go (λ u es m k. edits_places puts entries u es m k) (puts entry.reason entry.path) edits may.2 h
  where
    go : ((u : Path → Content F) (es : List (Edit F)) → MayFollow puts u entries → AreEdits puts entries es → ArePlaces u es)
        → (put : Option (Path → Content F)) (edits : List (Edit F)) → MayFollow puts (with_put t entry.path put) entries
        → Begins put entry.path edits (λ rest. AreEdits puts entries rest) → ArePlaces t edits
    go rest None edits may_rest h = rest t edits may_rest h
    go rest (Some content) [] may_rest h = absurd h
    go rest (Some content) (edit ∷ edits) may_rest h = (
      subst (λ p. IsPlace t p) (sym h.0.path) may.0,
      subst (λ u. ArePlaces u edits) (sym (ap (λ p. graft t p (listed edit.part)) h.0.path ∙ ap (graft t entry.path) h.0.part.lists))
          (rest (graft t entry.path content) edits may_rest h.1),
    )

-- what holds of each entry's path holds of each edit's
edits_each : {F : Type 0} (P : Path → Type 0) (puts : Reason → Path → Option (Path → Content F)) (entries : List Entry) (edits : List (Edit F))
    → AreEdits puts entries edits → AllByRecursion (λ entry. P entry.path) entries → AllByRecursion (λ edit. P edit.path) edits
edits_each {F} P puts [] edits h k = subst (λ es. AllByRecursion (λ (edit : Edit F). P edit.path) es) (sym h) tt
edits_each {F} P puts (entry ∷ entries) edits h k = go (λ es m. edits_each P puts entries es m k.1) (puts entry.reason entry.path) edits h
  where
    go : ((es : List (Edit F)) → AreEdits puts entries es → AllByRecursion (λ (edit : Edit F). P edit.path) es)
        → (put : Option (Path → Content F)) (edits : List (Edit F)) → Begins put entry.path edits (λ rest. AreEdits puts entries rest) → AllByRecursion (λ edit. P edit.path) edits
    go rest None edits h = rest edits h
    go rest (Some content) [] h = absurd h
    go rest (Some content) (edit ∷ edits) h = (subst P (sym h.0.path) k.0, rest edits h.1)

-- all rows of a part stand before a path that what it lists comes before
part_before : {F : Type 0} (p q : Path) (content : Path → Content F) (part : Listing F) → IsPart p content part → ((rest : Path) → content rest ≢ Absent → IsBefore (p ++ rest) q)
    → AllByRecursion (λ row. IsBefore row.path q) (placed p part)
part_before {F} p q content part is before =
    all_map (λ (row : Row F). IsBefore row.path q) (λ row. record { path = p ++ row.path; content = row.content }) part
    (weaker (λ (row : Row F). (IsPath row.path × (row.content ≢ Absent)) × (listed part row.path ≡ row.content)) (λ row. IsBefore (p ++ row.path) q)
    (λ row h. before row.path (λ gone. h.0.1 (sym h.1 ∙ at_each is.lists row.path ∙ gone)))
    part (all_both (λ (row : Row F). IsPath row.path × (row.content ≢ Absent)) (λ row. listed part row.path ≡ row.content) part is.rows.rows_are (lists_each part is.rows.ascending)))

-- an edit comes before those of the entries after it
edit_first : {F : Type 0} (puts : Reason → Path → Option (Path → Content F)) (entries : List Entry) (p : Path) (content : Path → Content F) (edit : Edit F) (edits : List (Edit F))
    → ComesFirst p (Some content) entries → IsEditAt p content edit → AreEdits puts entries edits → AreInOrder edits → AreInOrder (edit ∷ edits)
edit_first puts entries p content edit [] first is h order = tt
edit_first {F} puts entries p content edit (other ∷ edits) first is h order = (
  subst (λ z. IsBefore z other.path) (sym is.path) (let all = edits_each (λ q. IsBefore p q) puts entries (other ∷ edits) h first.0 in all.0),
  subst (λ z. AllByRecursion (λ (row : Row F). IsBefore row.path other.path) (placed z edit.part)) (sym is.path)
      (part_before p other.path content edit.part is.part (λ rest there. let all = edits_each (λ q. IsBefore (p ++ rest) q) puts entries (other ∷ edits) h (first.1 rest there) in all.0)),
  order,
)

-- they are in order
pub edits_order : {F : Type 0} (puts : Reason → Path → Option (Path → Content F)) (entries : List Entry) (t : Path → Content F) (edits : List (Edit F))
    → MayFollow puts t entries → AreEdits puts entries edits → AreInOrder edits
edits_order {F} puts [] t edits may h = subst (λ (es : List (Edit F)). AreInOrder es) (sym h) tt
edits_order {F} puts (entry ∷ entries) t edits may h = go (λ u es m k. edits_order puts entries u es m k) (puts entry.reason entry.path) edits may.1 may.2 h
  where
    go : ((u : Path → Content F) (es : List (Edit F)) → MayFollow puts u entries → AreEdits puts entries es → AreInOrder es)
        → (put : Option (Path → Content F)) (edits : List (Edit F)) → ComesFirst entry.path put entries → MayFollow puts (with_put t entry.path put) entries
        → Begins put entry.path edits (λ rest. AreEdits puts entries rest) → AreInOrder edits
    go rest None edits first may_rest h = rest t edits may_rest h
    go rest (Some content) [] first may_rest h = absurd h
    go rest (Some content) (edit ∷ edits) first may_rest h =
        edit_first puts entries entry.path content edit edits first h.0 h.1 (rest (graft t entry.path content) edits may_rest h.1)

-- ---- conditions, from where the entries stand

-- what is put comes before later entries, where all below it does, or it is a bare directory
first_from_bare : {F : Type 0} (p : Path) (entries : List Entry) → AllByRecursion (λ later. IsBefore p later.path) entries → ComesFirst {F = F} p (Some bare_directory) entries
first_from_bare {F} p entries before = (before, rest)
  where
    rest : (more : Path) → bare_directory {F = F} more ≢ Absent → AllByRecursion (λ later. IsBefore (p ++ more) later.path) entries
    rest [] there = subst (λ z. AllByRecursion (λ (later : Entry). IsBefore z later.path) entries) (sym (append-nil p)) before
    rest (name ∷ names) there = absurd (there refl)

pub first_marks : (first second : Print) (entry : Entry) (after : List Entry)
    → AllByRecursion (λ later. IsBefore entry.path later.path) after
    → (entry.reason ≢ reason.Dir → (rest : Path) → AllByRecursion (λ later. IsBefore (entry.path ++ rest) later.path) after)
    → ComesFirst entry.path (marks first second entry.reason entry.path) after
first_marks first second entry after ascends apart = go (treatment entry.reason) (λ differ. apart (λ e. differ (ap treatment e)))
  where
    go : (how : Treatment) → (how ≢ NewDirectory → (rest : Path) → AllByRecursion (λ later. IsBefore (entry.path ++ rest) later.path) after)
        → ComesFirst entry.path (marks_by first second how entry.path) after
    go (Copied side.First) h = (ascends, λ rest there. h (λ e. cc) rest)
    go (Copied side.Second) h = (ascends, λ rest there. h (λ e. cc) rest)
    go Agreed h = (ascends, λ rest there. h (λ e. cc) rest)
    go NewDirectory h = first_from_bare entry.path after ascends
    go Skipped h = tt

-- ---- parts

-- a part at a path stands at each path that is the same
pub edit_moved : {F : Type 0} (q p : Path) (content : Path → Path → Content F) (part : Listing F) → q ≡ p → IsPart q (content q) part → IsEditAt p (content p) (record { path = q; part = part })
edit_moved q p content part e is = record { path = e; part = subst (λ z. IsPart z (content z) part) e is }

-- a mark is given where it is that of the entry's treatment
pub gives_mark : (first second : Print) (of how : Treatment) (p : Path) (edit : Edit Stamp) → of ≡ how
    → Gives (marks_by first second how p) p (Some edit) → Gives (marks_by first second of p) p (Some edit)
gives_mark first second of how p edit e h = subst (λ z. Gives (marks_by first second z p) p (Some edit)) (sym e) h

-- the files of copies fit, as those of their source do
pub edits_fit : (from : Side) (rows : Listing (List ℕ)) → IsTreeBody rows → (entries : List Entry) (edits : List (Edit (List ℕ)))
    → AreEdits (copies from (at rows)) entries edits → AllByRecursion EditFits edits
edits_fit from rows body [] edits h = subst (λ es. AllByRecursion EditFits es) (sym h) tt
edits_fit from rows body (entry ∷ entries) edits h = go (λ es k. edits_fit from rows body entries es k) (is_from from entry.reason) edits h
  where
    go : ((es : List (Edit (List ℕ))) → AreEdits (copies from (at rows)) entries es → AllByRecursion EditFits es)
        → (b : Bool) (edits : List (Edit (List ℕ))) → Begins (cond b (Some (sub (at rows) entry.path)) None) entry.path edits (λ rest. AreEdits (copies from (at rows)) entries rest)
        → AllByRecursion EditFits edits
    go rest false edits h = rest edits h
    go rest true [] h = absurd h
    go rest true (edit ∷ edits) h = (part_fits rows edit.part entry.path body h.0.part.rows h.0.part.lists, rest edits h.1)

pub are_replicas : (archive first second : Listing Stamp) (rules : List Rule) (a b : Listing (List ℕ)) → at first ≡ print_of (at a) → at second ≡ print_of (at b)
    → AreReplicas (listed_snapshot archive first second rules) (at a) (at b)
are_replicas archive first second rules a b of_a of_b = record { first = sym of_a; second = sym of_b }

-- ---- one part of the entries after another

-- what two lists of entries leave, one after the other
pub left_joined : {F : Type 0} (puts : Reason → Path → Option (Path → Content F)) (t : Path → Content F) (xs ys : List Entry)
    → left_by puts t (xs ++ ys) ≡ left_by puts (left_by puts t xs) ys
left_joined puts t [] ys = refl
left_joined puts t (x ∷ xs) ys = left_joined puts (with_put t x.path (puts x.reason x.path)) xs ys

-- what holds of each of two lists holds of each of the first one
of_first : {A : Type 0} (P : A → Type 0) (xs ys : List A) → AllByRecursion P (xs ++ ys) → AllByRecursion P xs
of_first P [] ys all = tt
of_first P (x ∷ xs) ys all = (all.0, of_first P xs ys all.1)

first_part : {F : Type 0} (p : Path) (put : Option (Path → Content F)) (xs ys : List Entry) → ComesFirst p put (xs ++ ys) → ComesFirst p put xs
first_part p None xs ys first = tt
first_part p (Some content) xs ys first = (
  of_first (λ (later : Entry). IsBefore p later.path) xs ys first.0,
  λ rest there. of_first (λ (later : Entry). IsBefore (p ++ rest) later.path) xs ys (first.1 rest there),
)

-- the entries of the first part may follow
pub follow_first : {F : Type 0} (puts : Reason → Path → Option (Path → Content F)) (t : Path → Content F) (xs ys : List Entry)
    → MayFollow puts t (xs ++ ys) → MayFollow puts t xs
follow_first puts t [] ys may = tt
follow_first puts t (x ∷ xs) ys may =
    (may.0, first_part x.path (puts x.reason x.path) xs ys may.1, follow_first puts (with_put t x.path (puts x.reason x.path)) xs ys may.2)

-- and then those of the second part
pub follow_second : {F : Type 0} (puts : Reason → Path → Option (Path → Content F)) (t : Path → Content F) (xs ys : List Entry)
    → MayFollow puts t (xs ++ ys) → MayFollow puts (left_by puts t xs) ys
follow_second puts t [] ys may = may
follow_second puts t (x ∷ xs) ys may = follow_second puts (with_put t x.path (puts x.reason x.path)) xs ys may.2
