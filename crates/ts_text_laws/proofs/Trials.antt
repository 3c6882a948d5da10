-- What `trial` answers for a bundle: something, since the plan is refused or is run to its end.
use Rattle.std.proofs.Common.{◌≡◌, ◌≢◌, ◌⊎◌, ℕ, List, [], ◌++◌, refl, sym, ap, ◌∙◌, subst, inl, inr}
use Rattle.std.specs.List.{AllByRecursion}
use Rattle.ts_name.specs.Paths.{Path}
use Rattle.ts_model.specs.Trees.{Tree, Print, Listing, at, IsTree, AreApart}
use Rattle.ts_model.specs.Sync.{Snapshot, HasReason, IsDirty, IsSkipped, Synced}
use Rattle.ts_model.specs.Plans.{Valid}
use Rattle.ts_model.specs.Runs.{Run, after, start}
use Rattle.ts_model.specs.Headline.{FinalArchive, Meets}
use Rattle.ts_model.specs.Texts.{Bundle, IsBundle, IsBundleText, FileFits, StampFits}
use Rattle.ts_model.specs.Trial.{snapshot_of, IsNoBundle, HasContentsApart}
use Rattle.ts_model.proofs.Rows.{fits_at, stamp_fits}
use Rattle.ts_model.specs.declared.plan.Reason.{Reason}
use Rattle.ts_model.specs.declared.plan.Side.{Side}
use Rattle.ts_model.specs.declared.plan.Side.TheVariants as side
use Rattle.ts_model.specs.declared.row.Content.{Content}
use Rattle.ts_model.specs.declared.row.Content.TheVariants.{Dir}
use Rattle.ts_model.specs.declared.row.Row.{Row}
use Rattle.ts_model.specs.declared.row.Stamp.{Stamp}
use Rattle.ts_laws.specs.Laws.{Finishes}
use Rattle.ts_text_laws.specs.Laws.{HasAnswer, IsAnswered}
use Rattle.ts_laws.proofs.Settings.{Begun, begun_at, ran_at}
use Rattle.ts_laws.proofs.Basics.{Start, stable, IsTree-from_print}
use Rattle.ts_name.proofs.Basics.{at_each, weaker}
use Rattle.ts_laws.proofs.Reasons.{IsWhole-from_snapshot, Place, inside, outside, place_of}
use Rattle.ts_laws.proofs.Steps.{tree_on}
use Rattle.ts_laws.proofs.Kept.{pair}
use Rattle.ts_laws.proofs.Deciding.{decide_dirty}
use Rattle.ts_laws.proofs.Pairs.{either, which, pair_dirs, pair_edge}
use Rattle.ts_text_laws.proofs.ReadTrees.{decide_stamp_fits}
use Rattle.ts_laws.proofs.Rows.{IsListingOf, listing_of}
use Rattle.ts_laws.proofs.Rules.{valid_or_broken}
use Rattle.ts_laws.proofs.Finishing.{finish}
use Rattle.ts_laws.proofs.Completion.{complete}
use Rattle.ts_laws.proofs.Parts.{archive_is_closed}
use Rattle.ts_laws.proofs.Resume.{asks_for_same}
use Rattle.ts_laws.proofs.Results.{Start-from_bundle}

-- ---- contents fit

-- what fits at each path fits in each row
pub listed_fits : {F : Type 0} (P : Content F → Type 0) (t : Path → Content F) (rows : Listing F) → IsListingOf t rows → ((p : Path) → P (t p)) → AllByRecursion (λ row. P row.content) rows
listed_fits {F} P t rows lists fits = weaker (λ (row : Row F). row.content ≡ t row.path) (λ row. P row.content) (λ row e. subst P (sym e) (fits row.path)) rows lists.each

-- what a final archive has at a path, the old one has there, or it is a stamp of the new first replica
pub archive_fits : (b : Bundle) → IsBundle b → (c : Tree) → ((q : Path) → FileFits (c q)) → (archive : Print) → FinalArchive (snapshot_of b) c archive → (q : Path) → StampFits (archive q)
archive_fits b is c fits archive final q = stable (decide_stamp_fits (archive q)) (λ n.
    either ((p rest : Path) (r : Reason) → HasReason (snapshot_of b) p r → IsSkipped r → q ≢ p ++ rest) (λ off. elim off [
      | inl none ↦ n (subst StampFits (sym (final.agreed q none)) (stamp_fits (c q) (fits q)))
      | inr some ↦ some (λ p rest r has skipped e.
          n (subst StampFits (sym (ap archive e ∙ at_each (final.skipped p r has skipped) rest)) (fits_at StampFits tt tt b.archive is.archive.stamps (p ++ rest))))
    ]))

-- ---- the end of a run of a valid plan

module _ (b : Bundle) (is : IsBundle b) (contents : AreApart (Meets (at b.first) (at b.second) [])) (valid : Valid (snapshot_of b) b.plan) where
  -- what the checker reads
  abbrev s : Snapshot
  s = snapshot_of b

  -- its replicas
  abbrev begin : Start s (at b.first) (at b.second)
  begin = Start-from_bundle b is

  -- before a run
  abbrev begun : Begun
  begun = begun_at s b.plan valid (at b.first) (at b.second) begin

  -- what any pair has at a path, one of the replicas has there, or it is a directory
  pair_fits : (P : Content (List ℕ) → Type 0) → P Dir → ((from : Side) (q : Path) → P (tree_on (start s (at b.first) (at b.second)) from q))
      → (c d : Tree) → Synced s (at b.first) (at b.second) c d → (on : Side) (q : Path) → P (tree_on (pair c d) on q)
  pair_fits P dir had c d synced on q = go (place_of s (IsWhole-from_snapshot s begin.lawful) q)
    where
      dirt : (side : Side) (p : Path) → IsDirty s side p ⊎ (¬ IsDirty s side p)
      dirt side p = elim (decide_dirty s begin.lawful side p) [ yes h ↦ inl h | no n ↦ inr n ]

      go : Place s q → P (tree_on (pair c d) on q)
      go (inside dirs) = subst P (sym (pair_dirs s (at b.first) (at b.second) begin c d synced q dirs on)) dir
      go (outside p rest e edge) =
          let first = dirt side.First p in
          let second = dirt side.Second p in
          subst P (sym (ap (tree_on (pair c d) on) e ∙ at_each (pair_edge s (at b.first) (at b.second) begin c d synced p edge first second on) rest)) (had (which first second on) (p ++ rest))

  -- replicas fit
  replica_fits : (from : Side) (q : Path) → FileFits (tree_on (start s (at b.first) (at b.second)) from q)
  replica_fits side.First q = fits_at FileFits tt tt b.first is.first.files q
  replica_fits side.Second q = fits_at FileFits tt tt b.second is.second.files q

  -- a pair and a final archive that are trees are a result
  result_from : (c d : Tree) (archive : Print) → Synced s (at b.first) (at b.second) c d → FinalArchive s c archive → IsTree c → IsTree d → IsTree archive → HasAnswer b
  result_from c d archive synced final tree_c tree_d tree_archive = go (listing_of c tree_c) (listing_of d tree_d) (listing_of archive tree_archive)
    where
      fits : (on : Side) (q : Path) → FileFits (tree_on (pair c d) on q)
      fits = pair_fits FileFits tt replica_fits c d synced

      go : (x : Listing (List ℕ)) × IsListingOf c x → (y : Listing (List ℕ)) × IsListingOf d y → (z : Listing Stamp) × IsListingOf archive z → HasAnswer b
      go (x, lists_x) (y, lists_y) (z, lists_z) = (
        _,
        _,
        inr (record {
          first = x;
          second = y;
          archive = z;
          bodies = (
            record { listing = lists_x.listing; files = listed_fits FileFits c x lists_x (fits side.First) },
            record { listing = lists_y.listing; files = listed_fits FileFits d y lists_y (fits side.Second) },
            record { listing = lists_z.listing; stamps = listed_fits StampFits archive z lists_z (archive_fits b is c (fits side.First) archive final) },
          );
          valid = valid;
          pair = subst (λ t. Synced s (at b.first) (at b.second) (at x) t) (sym lists_y.same) (subst (λ t. Synced s (at b.first) (at b.second) t d) (sym lists_x.same) synced);
          final = subst (λ t. FinalArchive s (at x) t) (sym lists_z.same) (subst (λ t. FinalArchive s t archive) (sym lists_x.same) final);
          says = (refl, refl);
        }),
      )

  -- what is left once each action is done makes a result
  result_of_run : (more : Run) → Finishes s b.plan (at b.first) (at b.second) [] more → HasAnswer b
  result_of_run more finishes =
      let apart = λ (x y : List ℕ) (met_x : Meets (at b.first) (at b.second) more x) (met_y : Meets (at b.first) (at b.second) more y). contents x y (finishes.met x met_x) (finishes.met y met_y) in
      let ran = ran_at begun more finishes.legal apart in
      let done = complete ran finishes.done in
      let closed = archive_is_closed begun.setting more finishes.legal in
      let w = after s b.plan (start s (at b.first) (at b.second)) more in
      let asks = asks_for_same ran w.first w.second done.0 closed.0 closed.1 in
      result_from w.first w.second w.archive done.0 done.1 (IsTree-from_print w.first asks.lawful.first) (IsTree-from_print w.second asks.lawful.second)
      (subst (λ t. IsTree t) (sym closed.2) asks.lawful.archive)

  -- a valid plan has a result
  pub has_result : HasAnswer b
  has_result = let found = finish begun [] tt (λ i. refl) in result_of_run found.0 found.1

-- a bundle has an answer
pub some_answer : (b : Bundle) → IsBundle b → AreApart (Meets (at b.first) (at b.second) []) → HasAnswer b
some_answer b is contents = elim (valid_or_broken (snapshot_of b) (Start-from_bundle b is).lawful b.plan) [
  | inl valid ↦ has_result b is contents valid
  | inr found ↦ (_, _, inl (record { rule = found.0; place = found.1; broken = found.2; says = (refl, refl) }))
]

-- bytes that are of a bundle, or of none, have an answer
pub some_trial_of : (bytes : List ℕ) → HasContentsApart bytes → ((b : Bundle) × IsBundleText bytes b) ⊎ IsNoBundle bytes → IsAnswered bytes
some_trial_of bytes contents (inr none) = (_, _, inl (none, (refl, refl)))
some_trial_of bytes contents (inl (b, is)) = let found = some_answer b is.bundle (contents b is) in (found.0, found.1, inr (b, is, found.2))
