-- What a bundle is answered by, from what was checked, carried out and written.
use Rattle.std.proofs.Common.{codes, ◌≡◌, inl, inr, ℕ, min, List, [], ◌∷◌, Option, Some, None, Result, Ok, Err, IfErr, IfOk, IfSome, refl, sym, ap, ◌∙◌, subst}
use Rattle.std.specs.List.{AllByRecursion}
use Rattle.std.proofs.KnownBytes.{Appends-nil}
use Rattle.ts_name.specs.Paths.{Path}
use Rattle.ts_text.specs.Sources.{Writes}
use Rattle.ts_model.specs.Trees.{Print, Listing, at, print_of, IsListing, AreApart}
use Rattle.ts_model.specs.Sync.{Snapshot, Synced, listed_snapshot}
use Rattle.ts_model.specs.Plans.{Valid, Broken}
use Rattle.ts_model.specs.Headline.{FinalArchive, Meets}
use Rattle.ts_model.specs.Texts.{Bundle, IsBundle, IsBundleText, IsTreeBody, FileFits, StampFits, text}
use Rattle.ts_model.specs.Trial.{snapshot_of, result_lines, skipped_count, HasContentsApart, IsNoBundle, Trial, IsResult}
use Rattle.ts_model.proofs.Rows.{fits_at}
use Rattle.ts_model.specs.declared.plan.Side.TheVariants as side
use Rattle.ts_model.specs.declared.plan.Plan.{Plan}
use Rattle.ts_model.specs.declared.plan.PlanRule.{PlanRule}
use Rattle.ts_check.specs.Verdict.{IsTold}
use Rattle.ts_check.specs.declared.fault.CheckFault.{CheckFault}
use Rattle.ts_check.specs.declared.fault.CheckFault.TheVariants as check
use Rattle.ts_model.specs.declared.plan.Entry.{Entry}
use Rattle.ts_model.specs.declared.row.Content.{Content}
use Rattle.ts_model.specs.declared.row.Stamp.{Stamp}
use Rattle.ts_laws.specs.Carried.{copied, marked_all, IsCarriedOut}
use Rattle.ts_laws.proofs.Carried.{carried_out}
use Rattle.ts_laws.proofs.Listings.{IsTree-from_listing}
use Rattle.ts_text_laws.proofs.ReadTexts.{some_trial}
use Rattle.ts_laws.proofs.Results.{Start-from_bundle}
use Rattle.ts_laws.proofs.Rows.{IsListingOf, listing_of}
use Rattle.ts_text_laws.proofs.Trials.{some_answer, archive_fits, listed_fits}
use Rattle.ts_bundle.specs.Bundles.{values}
use Rattle.ts_bundle.specs.Decoding.{FindsNoBundle, IsSpelled}
use Rattle.ts_text.specs.Lines.{Reading}
use Rattle.ts_bundle.specs.declared.bundle.Bundle.{Bundle as Held}
use Rattle.ts_bundle.specs.declared.fault.BundleFault.{BundleFault}
use Rattle.ts_bundle.specs.declared.fault.BundleFault.TheVariants.{Malformed}
use Rattle.ts_trial.specs.Answers.{WritesOne, AnswersBundle, refusal}
use Rattle.ts_model.proofs.Listings.{one_listing}

-- ---- contents fit

-- what fits at each path fits in each row
fits_rows : {F : Type 0} (P : Content F → Type 0) (rows : Listing F) → IsListing rows → ((p : Path) → P (at rows p)) → AllByRecursion (λ row. P row.content) rows
fits_rows {F} P rows is fits = go (listing_of (at rows) (IsTree-from_listing rows is))
  where
    go : (found : Listing F) × IsListingOf (at rows) found → AllByRecursion (λ row. P row.content) rows
    go (found, lists) = subst (λ z. AllByRecursion (λ row. P row.content) z) (one_listing found rows lists.listing is lists.same) (listed_fits P (at rows) found lists fits)

-- ---- the snapshot

-- the prints that were taken of the replicas make the bundle's snapshot
pub same_snapshot : (b : Bundle) (x y : Listing Stamp) → at x ≡ print_of (at b.first) → at y ≡ print_of (at b.second) → listed_snapshot b.archive x y b.rules ≡ snapshot_of b
same_snapshot b x y first second = ap (λ t. of t (at y)) first ∙ ap (λ t. of (print_of (at b.first)) t) second
  where
    of : Print → Print → Snapshot
    of s t = record { archive = at b.archive; first = s; second = t; rules = b.rules }

-- ---- answers

-- a plan that is broken first there is refused by that line
pub refused : (b : Bundle) (x y : Listing Stamp) (rule : PlanRule) (place : ℕ) → at x ≡ print_of (at b.first) → at y ≡ print_of (at b.second)
    → Broken (listed_snapshot b.archive x y b.rules) b.plan rule place → AnswersBundle b (text (refusal rule place ∷ [])) 3
refused b x y rule place first second broken =
    inl (record { rule = rule; place = place; broken = subst (λ s. Broken s b.plan rule place) (same_snapshot b x y first second) broken; says = (refl, refl) })

-- what the checker tells of a broken plan
pub told_broken : {A : Type 0} (s : Snapshot) (plan : Plan) (r : Result A CheckFault) (e : CheckFault) (rule : PlanRule) (place : ℕ)
    → IfErr r (IsTold s plan) → r ≡ Err e → e ≡ check.Broken rule place → Broken s plan rule place
told_broken s plan r e rule place told is same = subst (λ z. IsTold s plan z) same (subst (λ z. IfErr z (IsTold s plan)) is told)

-- what a valid plan leaves is the result
pub result_of : (b : Bundle) → IsBundle b → AreApart (Meets (at b.first) (at b.second) []) → Valid (snapshot_of b) b.plan
    → (c d : Listing (List ℕ)) (archive : Listing Stamp) → IsTreeBody c → IsTreeBody d → IsListing archive
    → at c ≡ copied side.Second (at b.second) (at b.first) b.plan.entries
    → at d ≡ copied side.First (at b.first) (at b.second) b.plan.entries
    → at archive ≡ marked_all (snapshot_of b) (at b.archive) b.plan.entries
    → IsResult b (text (result_lines c d archive b.plan.entries)) (min 1 (skipped_count b.plan.entries))
result_of b is apart valid c d archive body_c body_d listing e_c e_d e_archive = record {
  first = c;
  second = d;
  archive = archive;
  bodies = (body_c, body_d, record { listing = listing; stamps = fits_rows StampFits archive listing (archive_fits b is (at c) (fits_at FileFits tt tt c body_c.files) (at archive) final) });
  valid = valid;
  pair = subst (λ t. Synced s (at b.first) (at b.second) (at c) t) (sym e_d) (subst (λ t. Synced s (at b.first) (at b.second) t (copied side.First (at b.first) (at b.second) b.plan.entries)) (sym e_c) carried.pair);
  final = final;
  says = (refl, refl);
}
  where
    s : Snapshot
    s = snapshot_of b

    carried : IsCarriedOut (snapshot_of b) b.plan (at b.first) (at b.second)
    carried = let begin = Start-from_bundle b is in
        carried_out (snapshot_of b) b.plan (at b.first) (at b.second) valid begin.lawful (record { first = begin.first_print; second = begin.second_print }) apart

    final : FinalArchive (snapshot_of b) (at c) (at archive)
    final = subst (λ t. FinalArchive (snapshot_of b) (at c) t) (sym e_archive) (subst (λ t. FinalArchive (snapshot_of b) t (marked_all (snapshot_of b) (at b.archive) b.plan.entries)) (sym e_c) carried.archive)

-- what carrying out a checked plan leaves is the result
pub settled : (b : Bundle) → IsBundle b → AreApart (Meets (at b.first) (at b.second) []) → (x y : Listing Stamp) → at x ≡ print_of (at b.first) → at y ≡ print_of (at b.second)
    → Valid (listed_snapshot b.archive x y b.rules) b.plan
    → (c d : Listing (List ℕ)) (archive : Listing Stamp) → IsTreeBody c → IsTreeBody d → IsListing archive
    → at c ≡ copied side.Second (at b.second) (at b.first) b.plan.entries
    → at d ≡ copied side.First (at b.first) (at b.second) b.plan.entries
    → at archive ≡ marked_all (listed_snapshot b.archive x y b.rules) (at b.archive) b.plan.entries
    → AnswersBundle b (text (result_lines c d archive b.plan.entries)) (min 1 (skipped_count b.plan.entries))
settled b is apart x y first second valid c d archive body_c body_d listing e_c e_d e_archive =
    let same = same_snapshot b x y first second in
    inr (result_of b is apart (subst (λ s. Valid s b.plan) same valid) c d archive body_c body_d listing e_c e_d
    (e_archive ∙ ap (λ s. marked_all s (at b.archive) b.plan.entries) same))

-- the text of equal parts is one
pub same_text : (c c' d d' : Listing (List ℕ)) (x x' : Listing Stamp) (entries entries' : List Entry) → c ≡ c' → d ≡ d' → x ≡ x' → entries ≡ entries'
    → text (result_lines c d x entries) ≡ text (result_lines c' d' x' entries')
same_text c c' d d' x x' entries entries' e_c e_d e_x e_entries =
    ap (λ z. text (result_lines z d x entries)) e_c ∙ ap (λ z. text (result_lines c' z x entries)) e_d
    ∙ ap (λ z. text (result_lines c' d' z entries)) e_x ∙ ap (λ z. text (result_lines c' d' x' z)) e_entries

-- ---- texts that were written

-- nothing is a beginning of what a bundle is answered by
pub nothing_written : {E : Type 0} (b : Bundle) (known : Option (List ℕ)) → IsBundle b → AreApart (Meets (at b.first) (at b.second) []) → (e : E)
    → WritesOne {E = E} (AnswersBundle b) known known (Err e)
nothing_written b known is apart e =
    let found = some_answer b is apart in
    (found.0, found.1, found.2, record { front = []; rest = found.0; split = refl; added = Appends-nil known })

-- a refusal that was written, or a beginning of it
pub one_written : {E : Type 0} (Says : List ℕ → ℕ → Type 0) (old new : Option (List ℕ)) (written : List ℕ) (status : ℕ) (r : Result ℕ E)
    → Says written status → Writes old new written r → IfOk r (λ got. got ≡ status) → WritesOne Says old new r
one_written Says old new written status (Ok got) says writes same = (written, subst (λ n. Says written n) (sym same) says, writes)
one_written Says old new written status (Err e) says writes same = (written, status, says, writes)

-- what answers a bundle is a trial of its text
pub trial_of : {E : Type 0} (bytes : List ℕ) (b : Bundle) (old new : Option (List ℕ)) (r : Result ℕ E) → IsBundleText bytes b → WritesOne (AnswersBundle b) old new r → WritesOne (Trial bytes) old new r
trial_of bytes b old new (Ok status) is (written, says, appended) = (written, inr (b, is, says), appended)
trial_of bytes b old new (Err e) is (written, status, says, begun) = (written, status, inr (b, is, says), begun)

-- nothing is a beginning of a trial's text
pub no_trial_written : {E : Type 0} (bytes : List ℕ) (known : Option (List ℕ)) → HasContentsApart bytes → (e : E) → WritesOne {E = E} (Trial bytes) known known (Err e)
no_trial_written bytes known apart e =
    let found = some_trial bytes apart in
    (found.0, found.1, found.2, record { front = []; rest = found.0; split = refl; added = Appends-nil known })

-- ---- whether the reader tells its bytes

-- a bundle that was answered
pub told_bundle : {E : Type 0} (known old new : Option (List ℕ)) (b : Held) (r : Result ℕ E) → IsSpelled known b
    → (AreApart (Meets (at b.first) (at b.second) []) → WritesOne (AnswersBundle (values b)) old new r) → IfSome known (λ bytes. HasContentsApart bytes → WritesOne (Trial bytes) old new r)
told_bundle None old new b r is answered = tt
told_bundle (Some bytes) old new b r is answered = λ apart. trial_of bytes (values b) old new r is.spelled (answered (apart (values b) is.spelled))

-- bytes of no bundle
pub told_malformed : {E : Type 0} (before after : Reading) (old new : Option (List ℕ)) (e : BundleFault) (r : Result ℕ E) → e ≡ Malformed → FindsNoBundle before after e
    → Writes old new (text (codes "malformed" ∷ [])) r → IfOk r (λ status. status ≡ 3) → IfSome before.left (λ bytes. HasContentsApart bytes → WritesOne (Trial bytes) old new r)
told_malformed before after old new e r is finds writes same = go before.left (subst (λ z. FindsNoBundle before after z) is finds)
  where
    go : (known : Option (List ℕ)) → IfSome known IsNoBundle → IfSome known (λ bytes. HasContentsApart bytes → WritesOne (Trial bytes) old new r)
    go None none = tt
    go (Some bytes) none = λ apart. one_written (Trial bytes) old new (text (codes "malformed" ∷ [])) 3 r (inl (none, (refl, refl))) writes same

-- a failure before anything was written
pub told_nothing : {E : Type 0} (known old : Option (List ℕ)) (e : E) → IfSome known (λ bytes. HasContentsApart bytes → WritesOne {E = E} (Trial bytes) old old (Err e))
told_nothing None old e = tt
told_nothing (Some bytes) old e = λ apart. no_trial_written bytes old apart e
