-- A built plan has a text: its paths are lawful, and its numbers fit.
use Rattle.std.proofs.Common.{◌≡◌, ◌≢◌, ℕ, zero, suc, ◌+◌, ◌-◌, ◌*◌, ◌^◌, ◌<◌, ◌≤◌, min, sum_by, Bool, true, false, cond, List, [], ◌∷◌, length, Some, slice_get, refl, sym, ◌∙◌, subst, inl, inr, arith}
use Rattle.std.proofs.lemmas.Option.{none-some, slice_get_within}
use Rattle.std.specs.List.{AllByRecursion}
use Rattle.ts_name.specs.Paths.{Path, IsPath, same_path}
use Rattle.ts_name.specs.Laws.{same_path_equal}
use Rattle.ts_name.proofs.Prefixes.{snoc_not_empty}
use Rattle.ts_model.specs.Trees.{Listing, listed, at, IsListing}
use Rattle.ts_model.specs.Sync.{listed_snapshot, HasReason}
use Rattle.ts_model.specs.Plans.{EntryIs, ActionIs, AscendBelow}
use Rattle.ts_model.specs.Texts.{PathFits, KindFits, IsPlan}
use Rattle.ts_model.specs.declared.hold.Rule.{Rule}
use Rattle.ts_model.specs.declared.row.Content.{Content}
use Rattle.ts_model.specs.declared.row.Content.TheVariants.{Absent, Dir, File}
use Rattle.ts_model.specs.declared.row.Row.{Row}
use Rattle.ts_model.specs.declared.row.Stamp.{Stamp}
use Rattle.ts_model.specs.declared.plan.Side.{Side}
use Rattle.ts_model.specs.declared.plan.Side.TheVariants as side
use Rattle.ts_model.specs.declared.plan.Entry.{Entry}
use Rattle.ts_model.specs.declared.plan.Action.{Action}
use Rattle.ts_model.specs.declared.plan.Plan.{Plan}
use Rattle.ts_model.specs.declared.plan.Reason.{Reason}
use Rattle.ts_recon.specs.Reasons.{AreReasons}
use Rattle.ts_recon.proofs.Gathered.{no_reason}
use Rattle.ts_table.specs.Tables.{is_above, rows_below}
use Rattle.ts_plan_build.specs.Blocks.{each_below, piece_count, piece_of, row_pieces, pieces_of}
use Rattle.ts_plan_build.specs.Built.{entry_of, IsBuilt}
use Rattle.ts_plan_build.proofs.Places.{get_cases, at_each_below}
use Rattle.ts_plan_build.proofs.Ranges.{IsKept, in_filter}
use Rattle.ts_plan_build.proofs.Rules.{side_rows, contains_entry, View, is_piece, is_commit, is_copy_mark, is_mark, located, view, entry_here, ascends_at}
use Rattle.ts_name.proofs.Basics.{all_at}
use Rattle.ts_model.proofs.Deciding.{same_stamp_at}

-- what holds of each element
all_from : {A : Type 0} (P : A → Type 0) (xs : List A) → ((i : ℕ) (x : A) → slice_get xs i ≡ Some x → P x) → AllByRecursion P xs
all_from P [] h = tt
all_from P (x ∷ xs) h = (h 0 x refl, all_from P xs (λ i y e. h (suc i) y e))

-- ---- paths

-- a path where something is listed is lawful
listed_path : (rows : Listing Stamp) → AllByRecursion (λ row. IsPath row.path × (row.path ≢ []) × (row.content ≢ Absent)) rows → (p : Path) → listed rows p ≢ Absent → IsPath p
listed_path [] all p there = absurd (there refl)
listed_path (x ∷ rows) all p there = go (same_path x.path p) refl there (listed_path rows all.1 p)
  where
    go : (b : Bool) → same_path x.path p ≡ b → cond b x.content (listed rows p) ≢ Absent → (listed rows p ≢ Absent → IsPath p) → IsPath p
    go true e m more = subst IsPath (same_path_equal x.path p e) all.0.0
    go false e m more = more m

there_path : (rows : Listing Stamp) → IsListing rows → (p : Path) → p ≢ [] → at rows p ≢ Absent → IsPath p
there_path rows lists [] n there = absurd (n refl)
there_path rows lists (name ∷ p) n there = listed_path rows lists.rows_are (name ∷ p) there

-- what has a reason is there somewhere, and not the root
reason_path : (A F S : Listing Stamp) (rules : List Rule) → IsListing A → IsListing F → IsListing S → (p : Path) (r : Reason) → HasReason (listed_snapshot A F S rules) p r → PathFits p
reason_path A F S rules lists_a lists_f lists_s p r has = (lawful, not_root)
  where
    not_root : p ≢ []
    not_root e = snoc_not_empty has.0.0 has.0.1 (sym has.0.2 ∙ e)

    lawful : IsPath p
    lawful = elim (same_stamp_at (at A p) Absent) [
      | no there ↦ there_path A lists_a p not_root there
      | yes a ↦ elim (same_stamp_at (at F p) Absent) [
        | no there ↦ there_path F lists_f p not_root there
        | yes f ↦ elim (same_stamp_at (at S p) Absent) [
          | no there ↦ there_path S lists_s p not_root there
          | yes e ↦ absurd (no_reason A F S rules lists_a lists_f lists_s p a f e r has)
        ]
      ]
    ]

-- ---- pieces

-- the n-th of the pieces at most is the n-th of its file
record IsSmall (e i : ℕ) (rows : List (Row Stamp)) (a : Action) : Type 0 where
  row : Row Stamp
  size : ℕ
  number : ℕ
  place : ℕ
  among : slice_get rows place ≡ Some row
  behind : number ≤ i
  is : a ≡ piece_of e row.path size number

small_row : (e : ℕ) (row : Row Stamp) (c : Content Stamp) → row.content ≡ c → (i : ℕ) (a : Action) → slice_get (row_pieces e row) i ≡ Some a → IsSmall e i (row ∷ []) a
small_row e row Absent f i a h = absurd (none-some a (subst (λ (c : Content Stamp). slice_get (elim c [ Absent ↦ [] | Dir ↦ [] | File stamp ↦ each_below (piece_of e row.path stamp.size) (piece_count stamp.size) ]) i ≡ Some a) f h))
small_row e row Dir f i a h = absurd (none-some a (subst (λ (c : Content Stamp). slice_get (elim c [ Absent ↦ [] | Dir ↦ [] | File stamp ↦ each_below (piece_of e row.path stamp.size) (piece_count stamp.size) ]) i ≡ Some a) f h))
small_row e row (File stamp) f i a h =
    let found = at_each_below (piece_of e row.path stamp.size) (piece_count stamp.size) i a (subst (λ (c : Content Stamp). slice_get (elim c [ Absent ↦ [] | Dir ↦ [] | File stamp ↦ each_below (piece_of e row.path stamp.size) (piece_count stamp.size) ]) i ≡ Some a) f h) in
    record { row = row; size = stamp.size; number = i; place = 0; among = refl; behind = omega arith; is = found.1 }

small_at : (e : ℕ) (rows : List (Row Stamp)) (i : ℕ) (a : Action) → slice_get (pieces_of e rows) i ≡ Some a → IsSmall e i rows a
small_at e [] i a h = absurd (none-some a h)
small_at e (row ∷ rows) i a h = elim (get_cases (row_pieces e row) (pieces_of e rows) i a h) [
  | inl here ↦ first (small_row e row row.content refl i a here)
  | inr later ↦ behind later.0 later.1 (small_at e rows later.0 a later.2)
]
  where
    first : IsSmall e i (row ∷ []) a → IsSmall e i (row ∷ rows) a
    first one = record { row = one.row; size = one.size; number = one.number; place = 0; among = at_first one.place one.among; behind = one.behind; is = one.is }
      where
        at_first : (k : ℕ) → slice_get (row ∷ []) k ≡ Some one.row → Some row ≡ Some one.row
        at_first zero f = f
        at_first (suc k) f = absurd (none-some one.row f)

    behind : (k : ℕ) → i ≡ length (row_pieces e row) + k → IsSmall e k rows a → IsSmall e i (row ∷ rows) a
    behind k f one = record { row = one.row; size = one.size; number = one.number; place = suc one.place; among = one.among; behind = (let l : one.number ≤ k = one.behind in omega arith); is = one.is }

piece_fits : (e i : ℕ) (rows : Listing Stamp) (top : Path) (a : Action) → IsListing rows → e < 1048576 → i < 1048576 → IsSmall e i (rows_below top rows) a → KindFits a.kind
piece_fits e i rows top a lists few small one =
    subst (λ (z : Action). KindFits z.kind) (sym one.is)
    (omega arith, offset_fits, length_fits, (fits.0, fits.1))
  where
    kept : IsKept (λ row. is_above top row.path) rows one.row
    kept = in_filter (λ row. is_above top row.path) rows one.place one.row one.among

    fits : IsPath one.row.path × (one.row.path ≢ []) × (one.row.content ≢ Absent)
    fits = all_at _ rows lists.rows_are kept.place one.row kept.there

    offset_fits : one.number * 1048576 < 2 ^ 64
    offset_fits = let l : one.number ≤ i = one.behind in omega arith

    length_fits : min 1048576 (one.size - one.number * 1048576) < 2 ^ 64
    length_fits = omega arith

-- ---- numbers

ascend_fits : (n : ℕ) (xs : List ℕ) → AscendBelow n xs → n ≤ 1048576 → AllByRecursion (λ j. j < 2 ^ 32) xs
ascend_fits n [] h l = tt
ascend_fits n (x ∷ []) h l = ((let m : x < n = h in omega arith), tt)
ascend_fits n (x ∷ y ∷ zs) h l = let more = ascend_fits n (y ∷ zs) h.1 l in ((let m : x < y = h.0 in let k : y < 2 ^ 32 = more.0 in omega arith), more)

module _ (A F S : Listing Stamp) (rules : List Rule) (plan : Plan) (lists_a : IsListing A) (lists_f : IsListing F) (lists_s : IsListing S) (found : AreReasons (listed_snapshot A F S rules) plan.entries)
    (w : IsBuilt F S plan.entries plan.actions (length plan.entries)) (few_entries : length plan.entries ≤ 1048576) (few_actions : length plan.actions ≤ 1048576) where
  listing : (from : Side) → IsListing (side_rows F S from)
  listing side.First = lists_f
  listing side.Second = lists_s

  kind_fits : (i : ℕ) (a : Action) → ActionIs plan i a → KindFits a.kind
  kind_fits i a h = go (view F S plan w (entry_of a.kind) one.0 (located F S plan w (entry_of a.kind) one.0 one.1) i a h refl)
    where
      one : (entry : Entry) × EntryIs plan (entry_of a.kind) entry
      one = entry_here F S plan w i a h

      few : entry_of a.kind < 1048576
      few = let l : entry_of a.kind < length plan.entries = w.below i a h in omega arith

      small : i < 1048576
      small = let l : i < length plan.actions = slice_get_within plan.actions i a h in omega arith

      go : View F S plan w (entry_of a.kind) one.0 (located F S plan w (entry_of a.kind) one.0 one.1) i a → KindFits a.kind
      go (is_piece from j copied place here) = piece_fits (entry_of a.kind) j (side_rows F S from) one.0.path a (listing from) few (omega (arith, place, small)) (small_at (entry_of a.kind) (rows_below one.0.path (side_rows F S from)) j a here)
      go (is_commit from copied place f) = subst (λ (z : Action). KindFits z.kind) (sym f) (let l : entry_of a.kind < 2 ^ 32 = omega (arith, few) in l)
      go (is_copy_mark from copied place f) = subst (λ (z : Action). KindFits z.kind) (sym f) (let l : entry_of a.kind < 2 ^ 32 = omega (arith, few) in l)
      go (is_mark none plain place f) = subst (λ (z : Action). KindFits z.kind) (sym f) (let l : entry_of a.kind < 2 ^ 32 = omega (arith, few) in l)

  -- the plan has a text
  pub plan_fits : IsPlan plan
  plan_fits = record {
    limits = record { entries = few_entries; actions = few_actions; preds = (let l : sum_by (λ a. length a.preds) plan.actions ≤ 2 * length plan.actions = w.preds in omega arith) };
    entries = all_from _ plan.entries (λ i e h. reason_path A F S rules lists_a lists_f lists_s e.path e.reason (found.each e (contains_entry (listed_snapshot A F S rules) plan found i e h)));
    kinds = all_from _ plan.actions kind_fits;
    preds = all_from _ plan.actions (λ i a h. ascend_fits i a.preds (ascends_at F S plan w i a h) (let l : i < length plan.actions = slice_get_within plan.actions i a h in omega arith));
  }

-- the same of its parts, as code has them
pub fits_parts : (A F S : Listing Stamp) (rules : List Rule) (es es' slice : List Entry) (acts acts' : List Action) → es' ≡ es → acts' ≡ acts → slice ≡ es → IsListing A → IsListing F → IsListing S → AreReasons (listed_snapshot A F S rules) es
    → IsBuilt F S slice acts (length slice) → length es ≤ 1048576 → length acts ≤ 1048576 → IsPlan (record { entries = es'; actions = acts' })
fits_parts A F S rules es es' slice acts acts' e f g lists_a lists_f lists_s found w few_entries few_actions =
    subst (λ (x : List Entry). IsPlan (record { entries = x; actions = acts' })) (sym e)
    (subst (λ (x : List Action). IsPlan (record { entries = es; actions = x })) (sym f)
    (plan_fits A F S rules (record { entries = es; actions = acts }) lists_a lists_f lists_s found (subst (λ (x : List Entry). IsBuilt F S x acts (length x)) g w) few_entries few_actions))
