-- A legal run without a failure goes on until each action is done.
use Rattle.std.proofs.Common.{◌≡◌, ◌⊎◌, ℕ, zero, suc, ◌-◌, ◌<◌, min, Bool, true, false, ◌==◌, List, [], ◌∷◌, ◌++◌, length, take, drop, Contains, sym, refl, ap, ◌∙◌, subst, inl, inr, append_assoc, append-nil, length-take, length-drop, arith, eq-eqb}
use Rattle.std.specs.List.{list_any}
use Rattle.std.proofs.lemmas.Bool.{cases_eq, or_from, and_from}
use Rattle.std.proofs.lemmas.List.Elements.{Contains-append_cases}
use Rattle.std.proofs.lemmas.Option.{slice_get_within}
use Rattle.ts_name.specs.Paths.{Path}
use Rattle.ts_model.specs.Trees.{Listing, listed, sub, stamped, stamp_of, print_of, IsTree, HasContent}
use Rattle.ts_model.specs.Sync.{Snapshot, replica}
use Rattle.ts_model.specs.Plans.{ActionIs, KindIs, Waits, IsCopied, IsPiece, IsRange, Valid}
use Rattle.ts_model.specs.declared.plan.PlanRule.TheVariants.{PiecesLawful, OneCommit}
use Rattle.ts_model.specs.Runs.{Run, claims, takes, acts, finishes, fails, releases, Has, HasNot, IsPieceOf, Does, LegalFrom, Legal, start}
use Rattle.ts_model.specs.Headline.{Meets}
use Rattle.ts_model.specs.declared.row.Content.{Content}
use Rattle.ts_model.specs.declared.row.Content.TheVariants.{Absent, Dir, File}
use Rattle.ts_model.specs.declared.row.Stamp.{Stamp}
use Rattle.ts_model.specs.declared.step.Step.{Step}
use Rattle.ts_model.specs.declared.step.Step.TheVariants.{Claim, Take, Act, Done, Release}
use Rattle.ts_model.specs.declared.step.Work.{Work}
use Rattle.ts_model.specs.declared.step.Work.TheVariants.{Staged, Put, Marked}
use Rattle.ts_model.specs.declared.plan.Side.{Side}
use Rattle.ts_model.specs.declared.plan.Side.TheVariants as side
use Rattle.ts_model.specs.declared.plan.Kind.{Kind}
use Rattle.ts_model.specs.declared.plan.Kind.TheVariants.{Piece, Commit, Mark}
use Rattle.ts_model.specs.declared.plan.Action.{Action}
use Rattle.ts_model.specs.declared.plan.Plan.{Plan}
use Rattle.ts_laws.specs.Laws.{IsUnfailed, tree_of, IsOwnWork, Finishes, CanFinish}
use Rattle.ts_laws.proofs.Settings.{Begun, begun_at}
use Rattle.ts_laws.proofs.Basics.{Start-from, stable}
use Rattle.ts_name.proofs.Basics.{at_each, element_at}
use Rattle.ts_laws.proofs.Lists.{Among, Among-from_Contains, Contains-from_Among, any_last, below_bound}
use Rattle.ts_laws.proofs.Runs.{Allowed, IsRun-from_legal, all_released, preds_ascend}
use Rattle.ts_laws.proofs.Cuts.{legal_append, any_in_longer, none_in_both}
use Rattle.ts_laws.proofs.Plans.{decide_waits, finds_pieces}
use Rattle.ts_laws.proofs.ActionKinds.{decide_piece_of}
use Rattle.ts_laws.proofs.Rules.{decide_is_piece, decide_copied}
use Rattle.ts_laws.proofs.Rows.{sub_listing_of}

-- a fact that more steps keep
abbrev Lasts : (Run → Type 0) → Type 0
Lasts P = (r more : Run) → P r → P (r ++ more)

module _ (given : Begun) where
  open given use {setting.{s, plan, valid, a, b}, begin}

  -- an action that did its own work
  abbrev DidOwn : ℕ → Work → Type 0
  DidOwn i work = (kind : Kind) × KindIs plan i kind × IsOwnWork a b plan kind work

  -- ---- runs that go on to a fact

  -- a legal run without a failure
  record IsGoing (r : Run) : Type 0 where
    legal : Legal s plan r
    unfailed : IsUnfailed r

  -- steps after which a fact holds
  record Reaches (r : Run) (P : Run → Type 0) : Type 0 where
    more : Run
    legal : LegalFrom s plan r more
    unfailed : IsUnfailed more
    own : (i : ℕ) (work : Work) → Contains more (Act i work) → DidOwn i work
    holds : P (r ++ more)

  -- it holds already
  here : (r : Run) (P : Run → Type 0) → P r → Reaches r P
  here r P h = record {
    more = [];
    legal = tt;
    unfailed = λ i. refl;
    own = λ i work within. absurd (Among-from_Contains [] (Act i work) within);
    holds = subst P (sym (append-nil r)) h;
  }

  -- it holds after one step
  by_step : (r : Run) (P : Run → Type 0) (step : Step) → Allowed s plan r step → ((i : ℕ) → fails i step ≡ false)
      → ((i : ℕ) (work : Work) → step ≡ Act i work → DidOwn i work) → P (r ++ step ∷ []) → Reaches r P
  by_step r P step allowed unfailed own h = record {
    more = step ∷ [];
    legal = (allowed.0, allowed.1, tt);
    unfailed = λ i. or_from (fails i step) false (unfailed i) refl;
    own = λ i work within. elim (Among-from_Contains (step ∷ []) (Act i work) within) [ inl e ↦ own i work e | inr h ↦ absurd h ];
    holds = h;
  }

  -- what follows from it holds
  weaken : (r : Run) (P Q : Run → Type 0) → ((more : Run) → P (r ++ more) → Q (r ++ more)) → Reaches r P → Reaches r Q
  weaken r P Q h found = record { more = found.more; legal = found.legal; unfailed = found.unfailed; own = found.own; holds = h found.more found.holds }

  -- a run that goes on is going
  goes_on : (r more : Run) → IsGoing r → LegalFrom s plan r more → IsUnfailed more → IsGoing (r ++ more)
  goes_on r more going legal unfailed = record {
    legal = legal_append s plan [] r more going.legal legal;
    unfailed = λ i. none_in_both (fails i) r more (going.unfailed i) (unfailed i);
  }

  -- then another fact can be reached
  and_then : (r : Run) (P Q : Run → Type 0) → IsGoing r → Reaches r P → ((more : Run) → IsGoing (r ++ more) → P (r ++ more) → Reaches (r ++ more) Q) → Reaches r Q
  and_then r P Q going first next = joined (next first.more (goes_on r first.more going first.legal first.unfailed) first.holds)
    where
      joined : Reaches (r ++ first.more) Q → Reaches r Q
      joined second = record {
        more = first.more ++ second.more;
        legal = legal_append s plan r first.more second.more first.legal second.legal;
        unfailed = λ i. none_in_both (fails i) first.more second.more (first.unfailed i) (second.unfailed i);
        own = λ i work within. elim (Contains-append_cases first.more second.more (Act i work) within) [
          | inl h ↦ first.own i work h
          | inr h ↦ second.own i work h
        ];
        holds = subst Q (append_assoc r first.more second.more) second.holds;
      }

  -- lasting facts of all numbers below n are reached one after another, while a lasting condition holds
  reach_each : (C : Run → Type 0) → Lasts C → (P : ℕ → Run → Type 0) → ((k : ℕ) → Lasts (P k)) → (n : ℕ)
      → ((k : ℕ) → k < n → (r : Run) → IsGoing r → C r → ((j : ℕ) → j < k → P j r) → Reaches r (P k))
      → (r : Run) → IsGoing r → C r → Reaches r (λ z. (k : ℕ) → k < n → P k z)
  reach_each C lasts_c P lasts zero next r going c = here r (λ z. (k : ℕ) → k < zero → P k z) (λ k less. absurd (omega (arith, less)))
  reach_each C lasts_c P lasts (suc n) next r going c =
      and_then r (λ z. (k : ℕ) → k < n → P k z) (λ z. (k : ℕ) → k < suc n → P k z) going (reach_each C lasts_c P lasts n (λ k less. next k (omega (arith, less))) r going c)
      (λ more further all. weaken (r ++ more) (P n) (λ z. (k : ℕ) → k < suc n → P k z)
      (λ extra h. λ k less. elim (cases_eq k n) [
        | inl same ↦ subst (λ z. P z ((r ++ more) ++ extra)) (sym same) h
        | inr differ ↦ lasts k (r ++ more) extra (all k (omega arith))
      ])
      (next n (omega arith) (r ++ more) further (lasts_c r more c) all))

  -- a test that some step passes, or none does
  decided : (test : Step → Bool) (r : Run) → Has r test ⊎ HasNot r test
  decided test r = go (list_any test r) refl
    where
      go : (x : Bool) → list_any test r ≡ x → Has r test ⊎ HasNot r test
      go true e = inl e
      go false e = inr e

  -- a step is reached, if it isn't among the steps
  reach_step : (r : Run) (test : Step → Bool) (step : Step) → test step ≡ true → ((i : ℕ) → fails i step ≡ false)
      → (HasNot r test → Allowed s plan r step × ((i : ℕ) (work : Work) → step ≡ Act i work → DidOwn i work)) → Reaches r (λ z. Has z test)
  reach_step r test step passes unfailed allowed = elim (decided test r) [
    | inl h ↦ here r (λ z. Has z test) h
    | inr n ↦ (let found = allowed n in by_step r (λ z. Has z test) step found.0 unfailed found.1 (any_last test r step passes))
  ]

  -- ---- the work of an action

  -- a side's tree has its print
  replica_is : (from : Side) → print_of (tree_of a b from) ≡ replica s from
  replica_is side.First = begin.first_print
  replica_is side.Second = begin.second_print

  -- and is a tree
  source_tree : (from : Side) → IsTree (tree_of a b from)
  source_tree side.First = begin.first
  source_tree side.Second = begin.second

  -- a file of a stamp has contents of its size
  file_from_stamped : (x : Content (List ℕ)) (stamp : Stamp) → stamped x ≡ File stamp → (bytes : List ℕ) × (x ≡ File bytes) × (length bytes ≡ stamp.size)
  file_from_stamped Absent stamp e = absurd cc
  file_from_stamped Dir stamp e = absurd cc
  file_from_stamped (File bytes) stamp e = (bytes, refl, ap (λ z. z.size) (same (stamp_of bytes) e))
    where
      same : (x : Stamp) → ◌≡◌ {A = Content Stamp} (File x) (File stamp) → x ≡ stamp
      same x f = cc

  -- a lawful range within a file has its length
  range_length : (bytes : List ℕ) (offset size : ℕ) → IsRange (length bytes) offset size → length (take size (drop offset bytes)) ≡ size
  range_length bytes offset size range = length-take size (drop offset bytes) ∙ go (length-drop offset bytes) range.full
    where
      go : length (drop offset bytes) ≡ length bytes - offset → size ≡ min 1048576 (length bytes - offset) → min size (length (drop offset bytes)) ≡ size
      go e f = omega (arith, e, f)

  -- each action has its own work, which is what it is to do
  own_work : (i : ℕ) (kind : Kind) → KindIs plan i kind → (work : Work) × Does s plan kind work × IsOwnWork a b plan kind work
  own_work i (Mark e) is = (Marked, tt, tt)
  own_work i (Commit e) is = go (stable (decide_copied plan e) (λ n. valid OneCommit i (inl (e, is, inl n))))
    where
      go : IsCopied plan e → (work : Work) × Does s plan (Commit e) work × IsOwnWork a b plan (Commit e) work
      go (entry, from, copies) =
          let found = sub_listing_of (tree_of a b from) (source_tree from) entry.path in
          (Put found.0, (entry, from, copies, ap print_of found.1.same ∙ ap (λ t. sub t entry.path) (replica_is from)), (entry, from, copies, found.1.listing, found.1.same))
  own_work i (Piece e offset size p) is = go (stable (decide_is_piece s begin.lawful plan e offset size p) (λ n. valid PiecesLawful i (e, offset, size, p, is, n)))
    where
      go : IsPiece s plan e offset size p → (work : Work) × Does s plan (Piece e offset size p) work × IsOwnWork a b plan (Piece e offset size p) work
      go (entry, from, stamp, copies, over, file, range) =
          let found = file_from_stamped (tree_of a b from p) stamp (at_each (replica_is from) p ∙ file) in (
            Staged (take size (drop offset found.0)),
            range_length found.0 offset size (subst (λ z. IsRange z offset size) (sym found.2) range),
            (entry, from, found.0, copies, found.1, refl),
          )

  -- ---- one action after another

  -- a step that was made stays made
  has_lasts : (test : Step → Bool) → Lasts (λ z. Has z test)
  has_lasts test r more h = any_in_longer test r more h

  -- a step that acts on nothing
  no_act : (step : Step) → ((i : ℕ) → acts i step ≡ false) → (i : ℕ) (work : Work) → step ≡ Act i work → DidOwn i work
  no_act step none i work e = absurd (let f : acts i step ≡ true = ap (acts i) e ∙ eq-eqb i i refl in let g = sym f ∙ none i in cc)

  -- an action whose predecessors were released to it is claimed
  reach_claim : (i : ℕ) (action : Action) → ActionIs plan i action → (r : Run) → IsGoing r → ((j : ℕ) → Among j action.preds → Has r (releases j i)) → Reaches r (λ z. Has z (claims i))
  reach_claim i action is r going released = reach_step r (claims i) (Claim i) (eq-eqb i i refl) (λ j. refl) (λ none. (
    (((action, is), none, all_released plan r i action (IsRun-from_legal s plan valid (start s a b) r going.legal).counted is released), tt),
    no_act (Claim i) (λ j. refl),
  ))

  -- the pieces of a commit that is claimed are taken
  reach_takes : (i : ℕ) (r : Run) → IsGoing r → Has r (claims i) → Reaches r (λ z. (k : ℕ) → k < length plan.actions → IsPieceOf plan i k → Has z (takes k))
  reach_takes i r going claimed = reach_each (λ z. Has z (claims i)) (has_lasts (claims i)) (λ k z. IsPieceOf plan i k → Has z (takes k))
      (λ k z more h piece. has_lasts (takes k) z more (h piece))
      (length plan.actions) (λ k less z further still before. one k z further still (decide_piece_of plan i k)) r going claimed
    where
      one : (k : ℕ) (z : Run) → IsGoing z → Has z (claims i) → Dec (IsPieceOf plan i k) → Reaches z (λ z. IsPieceOf plan i k → Has z (takes k))
      one k z further still (no n) = here z (λ z. IsPieceOf plan i k → Has z (takes k)) (λ piece. absurd (n piece))
      one k z further still (yes piece) = weaken z (λ z. Has z (takes k)) (λ z. IsPieceOf plan i k → Has z (takes k)) (λ more h _. h)
          (reach_step z (takes k) (Take i k) (eq-eqb k k refl) (λ j. refl) (λ none.
          (((still, piece, finds_pieces s plan valid z i k further.legal still piece, none), tt), no_act (Take i k) (λ j. refl))))

  -- an action that is claimed, and has its pieces taken, acts
  reach_act : (i : ℕ) (kind : Kind) → KindIs plan i kind → (r : Run) → IsGoing r → Has r (claims i) → ((k : ℕ) → IsPieceOf plan i k → Has r (takes k)) → Reaches r (λ z. Has z (acts i))
  reach_act i kind is r going claimed taken = go (own_work i kind is)
    where
      go : (work : Work) × Does s plan kind work × IsOwnWork a b plan kind work → Reaches r (λ z. Has z (acts i))
      go (work, does, own) = reach_step r (acts i) (Act i work) (eq-eqb i i refl) (λ j. refl) (λ none.
          ((((claimed, none, going.unfailed i), taken), (kind, is, does)), did))
        where
          did : (j : ℕ) (other : Work) → Act i work ≡ Act j other → DidOwn j other
          did j other e =
              let numbers : i ≡ j = cc in
              let works : work ≡ other = cc in
              (kind, subst (λ z. KindIs plan z kind) numbers is, subst (λ z. IsOwnWork a b plan kind z) works own)

  -- an action that acted is done
  reach_done : (i : ℕ) (r : Run) → IsGoing r → Has r (acts i) → Reaches r (λ z. Has z (finishes i))
  reach_done i r going acted = reach_step r (finishes i) (Done i) (eq-eqb i i refl) (λ j. refl) (λ none. (((acted, none), tt), no_act (Done i) (λ j. refl)))

  -- an action that is done is released to those that wait for it
  reach_releases : (i : ℕ) (r : Run) → IsGoing r → Has r (finishes i) → Reaches r (λ z. (j : ℕ) → j < length plan.actions → Waits plan j i → Has z (releases i j))
  reach_releases i r going finished = reach_each (λ z. Has z (finishes i)) (has_lasts (finishes i)) (λ j z. Waits plan j i → Has z (releases i j))
      (λ j z more h waits. has_lasts (releases i j) z more (h waits))
      (length plan.actions) (λ j less z further still before. one j z further still (decide_waits plan j i)) r going finished
    where
      one : (j : ℕ) (z : Run) → IsGoing z → Has z (finishes i) → Dec (Waits plan j i) → Reaches z (λ z. Waits plan j i → Has z (releases i j))
      one j z further still (no n) = here z (λ z. Waits plan j i → Has z (releases i j)) (λ waits. absurd (n waits))
      one j z further still (yes waits) = weaken z (λ z. Has z (releases i j)) (λ z. Waits plan j i → Has z (releases i j)) (λ more h _. h)
          (reach_step z (releases i j) (Release i j) (and_from (i == i) (j == j) (eq-eqb i i refl) (eq-eqb j j refl)) (λ k. refl) (λ none.
          (((still, waits, none), tt), no_act (Release i j) (λ k. refl))))

  -- an action is done, and released to those that wait for it
  pub record IsSettled (i : ℕ) (r : Run) : Type 0 where
    pub finished : Has r (finishes i)
    pub released : (j : ℕ) → Waits plan j i → Has r (releases i j)

  -- and stays so
  settled_lasts : (i : ℕ) → Lasts (IsSettled i)
  settled_lasts i r more h = record {
    finished = has_lasts (finishes i) r more h.finished;
    released = λ j waits. has_lasts (releases i j) r more (h.released j waits);
  }

  -- each action is, once those before it are
  reach_settled : (i : ℕ) (action : Action) → ActionIs plan i action → (r : Run) → IsGoing r → ((j : ℕ) → j < i → IsSettled j r) → Reaches r (IsSettled i)
  reach_settled i action is r going before =
      and_then r (λ z. Has z (claims i)) (IsSettled i) going (reach_claim i action is r going released) (λ m claiming claimed.
      and_then (r ++ m) (λ z. (k : ℕ) → k < length plan.actions → IsPieceOf plan i k → Has z (takes k)) (IsSettled i) claiming (reach_takes i (r ++ m) claiming claimed) (λ n taking taken.
      and_then ((r ++ m) ++ n) (λ z. Has z (acts i)) (IsSettled i) taking
      (reach_act i action.kind (action, is, refl) ((r ++ m) ++ n) taking (has_lasts (claims i) (r ++ m) n claimed) (λ k piece. taken k (slice_get_within plan.actions k piece.piece.0 piece.piece.1) piece)) (λ o acting acted.
      and_then (((r ++ m) ++ n) ++ o) (λ z. Has z (finishes i)) (IsSettled i) acting (reach_done i (((r ++ m) ++ n) ++ o) acting acted) (λ q finishing finished.
      weaken ((((r ++ m) ++ n) ++ o) ++ q) (λ z. (j : ℕ) → j < length plan.actions → Waits plan j i → Has z (releases i j)) (IsSettled i)
      (λ more h. record {
        finished = has_lasts (finishes i) ((((r ++ m) ++ n) ++ o) ++ q) more finished;
        released = λ j waits. h j (slice_get_within plan.actions j waits.0 waits.1) waits;
      })
      (reach_releases i ((((r ++ m) ++ n) ++ o) ++ q) finishing finished)))))
    where
      released : (j : ℕ) → Among j action.preds → Has r (releases j i)
      released j among = (before j (below_bound i action.preds j (preds_ascend s plan valid i action is) among)).released i (action, is, Contains-from_Among action.preds j among)

  -- so all are
  reach_all : (r : Run) → IsGoing r → Reaches r (λ z. (i : ℕ) → i < length plan.actions → IsSettled i z)
  reach_all r going = reach_each (λ _. Unit {0}) (λ _ _ _. tt) IsSettled settled_lasts (length plan.actions)
      (λ i less z further _ before. let action = element_at plan.actions i less in reach_settled i action.0 action.1 z further before) r going tt

  -- a commit's own work has the contents of its source
  own_is_met : (r : Run) (i : ℕ) (rows : Listing (List ℕ)) (bytes : List ℕ) → DidOwn i (Put rows) → HasContent (listed rows) bytes → Meets a b r bytes
  own_is_met r i rows bytes (kind, is, own) (p, file) = go kind own
    where
      met : (from : Side) (q : Path) → tree_of a b from q ≡ File bytes → Meets a b r bytes
      met side.First q e = inl (q, e)
      met side.Second q e = inr (inl (q, e))

      go : (kind : Kind) → IsOwnWork a b plan kind (Put rows) → Meets a b r bytes
      go (Commit e) (entry, from, copies, listing, same) = met from (entry.path ++ p) (sym (at_each same p) ∙ file)
      go (Mark e) own = absurd own
      go (Piece e offset size q) own = absurd own

  -- a legal run without a failure goes on until each action is done
  pub finish : (r : Run) → Legal s plan r → IsUnfailed r → (more : Run) × Finishes s plan a b r more
  finish r legal unfailed = go (reach_all r (record { legal = legal; unfailed = unfailed }))
    where
      go : Reaches r (λ z. (i : ℕ) → i < length plan.actions → IsSettled i z) → (more : Run) × Finishes s plan a b r more
      go found = (
        found.more,
        record {
          legal = legal_append s plan [] r found.more legal found.legal;
          unfailed = found.unfailed;
          done = λ i is. (found.holds i (slice_get_within plan.actions i is.0 is.1)).finished;
          own = found.own;
          met = met;
        },
      )
        where
          met : (bytes : List ℕ) → Meets a b (r ++ found.more) bytes → Meets a b r bytes
          met bytes (inl h) = inl h
          met bytes (inr (inl h)) = inr (inl h)
          met bytes (inr (inr (i, rows, within, has))) = elim (Contains-append_cases r found.more (Act i (Put rows)) within) [
            | inl before ↦ inr (inr (i, rows, before, has))
            | inr later ↦ own_is_met r i rows bytes (found.own i (Put rows) later) has
          ]

-- so a valid plan is never a dead end
pub can_finish : (s : Snapshot) (plan : Plan) → Valid s plan → CanFinish s plan
can_finish s plan valid = λ a b r lawful are legal unfailed. finish (begun_at s plan valid a b (Start-from s a b lawful are)) r legal unfailed
