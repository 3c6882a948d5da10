-- What a try leaves tidy.
use Rattle.std.proofs.Common.{◌≡◌, ℕ, Bool, true, false, eqb, [], ◌∷◌, ◌++◌, Option, None, IsSome, sym, refl, ap, ◌∙◌, subst, inl, inr, ⊎_elim, append_assoc, eqb-true, eq-eqb}
use Rattle.std.specs.List.{list_any}
use Rattle.std.proofs.lemmas.Bool.{true≢false}
use Rattle.ts_model.specs.Plans.{Waits}
use Rattle.ts_model.specs.Runs.{Run, Has, HasNot, IsPieceOf, claims, finishes, fails, releases, takes}
use Rattle.ts_model.specs.declared.plan.Plan.{Plan}
use Rattle.ts_model.specs.declared.step.Step.{Step}
use Rattle.ts_model.specs.declared.step.Step.TheVariants.{Claim, Take, Act, Done, Fail, Release}
use Rattle.ts_model.specs.declared.step.Work.{Work}
use Rattle.ts_board.specs.Kept.{IsMerged}
use Rattle.ts_exec.specs.Tidy.{AreTakes, AreReleases, IsTidy, IsTry}
use Rattle.ts_exec.specs.declared.fault.ActFault.{ActFault}
use Rattle.ts_exec.proofs.Steps.{or_cases, or_left, or_none, has_cases, has_right, merged_cases, merged_left, merged_right, takes_none, releases_none}
use Rattle.ts_laws.proofs.Cuts.{any_in_longer}

pub tidy_start : (plan : Plan) → IsTidy plan []
tidy_start plan = record { ended = λ i h. absurd (true≢false (sym h)); released = λ k j h w. absurd (true≢false (sym h)); taken = λ k h. absurd (true≢false (sym h)) }

pub tidy_append : (plan : Plan) (xs ys : Run) → IsTidy plan xs → IsTidy plan ys → IsTidy plan (xs ++ ys)
tidy_append plan xs ys x y = record {
  ended = λ i h. ⊎_elim
      (λ (l : Has xs (claims i)). ⊎_elim (λ (d : Has xs (finishes i)). inl (any_in_longer (finishes i) xs ys d)) (λ (d : Has xs (fails i)). inr (any_in_longer (fails i) xs ys d)) (x.ended i l))
      (λ (r : Has ys (claims i)). ⊎_elim (λ (d : Has ys (finishes i)). inl (has_right (finishes i) xs ys d)) (λ (d : Has ys (fails i)). inr (has_right (fails i) xs ys d)) (y.ended i r))
      (has_cases (claims i) xs ys h);
  released = λ k j h w. ⊎_elim
      (λ (l : Has xs (finishes k)). any_in_longer (releases k j) xs ys (x.released k j l w))
      (λ (r : Has ys (finishes k)). has_right (releases k j) xs ys (y.released k j r w))
      (has_cases (finishes k) xs ys h);
  taken = λ k h. ⊎_elim
      (λ (l : Has xs (takes k)). let t = x.taken k l in (t.0, t.1, any_in_longer (claims t.0) xs ys t.2))
      (λ (r : Has ys (takes k)). let t = y.taken k r in (t.0, t.1, has_right (claims t.0) xs ys t.2))
      (has_cases (takes k) xs ys h);
}

pub tidy_merged : (plan : Plan) (xs ys zs : Run) → IsMerged xs ys zs → IsTidy plan xs → IsTidy plan ys → IsTidy plan zs
tidy_merged plan xs ys zs m x y = record {
  ended = λ i h. ⊎_elim
      (λ (l : Has xs (claims i)). ⊎_elim (λ (d : Has xs (finishes i)). inl (merged_left (finishes i) xs ys zs m d)) (λ (d : Has xs (fails i)). inr (merged_left (fails i) xs ys zs m d)) (x.ended i l))
      (λ (r : Has ys (claims i)). ⊎_elim (λ (d : Has ys (finishes i)). inl (merged_right (finishes i) xs ys zs m d)) (λ (d : Has ys (fails i)). inr (merged_right (fails i) xs ys zs m d)) (y.ended i r))
      (merged_cases (claims i) xs ys zs m h);
  released = λ k j h w. ⊎_elim
      (λ (l : Has xs (finishes k)). merged_left (releases k j) xs ys zs m (x.released k j l w))
      (λ (r : Has ys (finishes k)). merged_right (releases k j) xs ys zs m (y.released k j r w))
      (merged_cases (finishes k) xs ys zs m h);
  taken = λ k h. ⊎_elim
      (λ (l : Has xs (takes k)). let t = x.taken k l in (t.0, t.1, merged_left (claims t.0) xs ys zs m t.2))
      (λ (r : Has ys (takes k)). let t = y.taken k r in (t.0, t.1, merged_right (claims t.0) xs ys zs m t.2))
      (merged_cases (takes k) xs ys zs m h);
}

-- ---- one try

-- a claim, takes, and an ending
abbrev pub block : ℕ → Run → Run → Run
block i more end = (Claim i ∷ more) ++ end

module _ (plan : Plan) (i : ℕ) (more : Run) (takes_of : AreTakes plan i more) where
  -- which tests a claim and its takes pass
  front_none : (t : Step → Bool) → t (Claim i) ≡ false → ((k : ℕ) → t (Take i k) ≡ false) → HasNot (Claim i ∷ more) t
  front_none t first rest = or_none (t (Claim i)) (list_any t more) first (takes_none t plan i rest more takes_of)

  -- such a test is passed by the ending alone
  pub in_end : (t : Step → Bool) (end : Run) → t (Claim i) ≡ false → ((k : ℕ) → t (Take i k) ≡ false) → Has (block i more end) t → Has end t
  in_end t end first rest h = ⊎_elim
      (λ (l : Has (Claim i ∷ more) t). absurd (true≢false (sym l ∙ front_none t first rest)))
      (λ (r : Has end t). r)
      (has_cases t (Claim i ∷ more) end h)

  taken_one : (k : ℕ) (xs : Run) → AreTakes plan i xs → Has xs (takes k) → IsPieceOf plan i k
  taken_one k [] a h = absurd (true≢false (sym h))
  taken_one k (x ∷ xs) a h = ⊎_elim
      (λ (e : takes k x ≡ true). subst (λ (z : ℕ). IsPieceOf plan i z) (sym (eqb-true k a.0.0 (sym (ap (takes k) a.0.1) ∙ e))) a.0.2)
      (λ (r : Has xs (takes k)). taken_one k xs a.1 r)
      (or_cases (takes k x) (list_any (takes k) xs) h)

  pub claim_here : (end : Run) → Has (block i more end) (claims i)
  claim_here end = or_left (eqb i i) (list_any (claims i) (more ++ end)) (eq-eqb i i refl)

  block_taken : (end : Run) → ((k : ℕ) → HasNot end (takes k)) → (k : ℕ) → Has (block i more end) (takes k) → (c : ℕ) × IsPieceOf plan c k × Has (block i more end) (claims c)
  block_taken end away k h = ⊎_elim
      (λ (l : Has (Claim i ∷ more) (takes k)). (i, taken_one k more takes_of l, claim_here end))
      (λ (r : Has end (takes k)). absurd (true≢false (sym r ∙ away k)))
      (has_cases (takes k) (Claim i ∷ more) end h)

  claimed_one : (end : Run) → ((j : ℕ) → HasNot end (claims j)) → (j : ℕ) → Has (block i more end) (claims j) → j ≡ i
  claimed_one end away j h = ⊎_elim
      (λ (l : Has (Claim i ∷ more) (claims j)). ⊎_elim
      (λ (e : eqb j i ≡ true). eqb-true j i e)
      (λ (r : Has more (claims j)). absurd (true≢false (sym r ∙ takes_none (claims j) plan i (λ k. refl) more takes_of)))
      (or_cases (eqb j i) (list_any (claims j) more) l))
      (λ (r : Has end (claims j)). absurd (true≢false (sym r ∙ away j)))
      (has_cases (claims j) (Claim i ∷ more) end h)

  pub try_failed : (fault : Option ActFault) → IsSome fault → IsTry plan i fault (block i more (Fail i ∷ []))
  try_failed fault some = record {
    tidy = record {
      ended = λ j h. inr (has_right (fails j) (Claim i ∷ more) (Fail i ∷ []) (or_left (eqb j i) false (eq-eqb j i (claimed_one (Fail i ∷ []) (λ k. refl) j h))));
      released = λ k j h w. absurd (true≢false (sym (in_end (finishes k) (Fail i ∷ []) refl (λ l. refl) h)));
      taken = block_taken (Fail i ∷ []) (λ k. refl);
    };
    done = λ k h. absurd (true≢false (sym (in_end (finishes k) (Fail i ∷ []) refl (λ l. refl) h)));
    failed = λ k h. (⊎_elim (λ (e : eqb k i ≡ true). eqb-true k i e) (λ (n : false ≡ true). absurd (true≢false (sym n))) (or_cases (eqb k i) false (in_end (fails k) (Fail i ∷ []) refl (λ l. refl) h)), some);
  }

  module _ (w : Work) (rest : Run) (frees : AreReleases i rest) (all : (j : ℕ) → Waits plan j i → Has rest (releases i j)) where
    abbrev pub ending : Run
    ending = Act i w ∷ Done i ∷ rest

    no_end : (t : Step → Bool) → t (Act i w) ≡ false → t (Done i) ≡ false → ((j : ℕ) → t (Release i j) ≡ false) → HasNot ending t
    no_end t a d r = or_none (t (Act i w)) (list_any t (Done i ∷ rest)) a (or_none (t (Done i)) (list_any t rest) d (releases_none t i r rest frees))

    done_one : (k : ℕ) → Has (block i more ending) (finishes k) → k ≡ i
    done_one k h = ⊎_elim
        (λ (e : eqb k i ≡ true). eqb-true k i e)
        (λ (r : Has rest (finishes k)). absurd (true≢false (sym r ∙ releases_none (finishes k) i (λ j. refl) rest frees)))
        (or_cases (eqb k i) (list_any (finishes k) rest) (in_end (finishes k) ending refl (λ l. refl) h))

    done_here : Has ending (finishes i)
    done_here = or_left (eqb i i) (list_any (finishes i) rest) (eq-eqb i i refl)

    pub try_done : IsTry plan i None (block i more ending)
    try_done = record {
      tidy = record {
        ended = λ j h. inl (has_right (finishes j) (Claim i ∷ more) ending (subst (λ (z : ℕ). Has ending (finishes z)) (sym (claimed_one ending (λ k. no_end (claims k) refl refl (λ l. refl)) j h)) done_here));
        released = λ k j h wait. (
            let e = done_one k h in
            has_right (releases k j) (Claim i ∷ more) ending (subst (λ (z : ℕ). Has ending (releases z j)) (sym e) (all j (subst (λ (z : ℕ). Waits plan j z) e wait))));
        taken = block_taken ending (λ k. no_end (takes k) refl refl (λ l. refl));
      };
      done = done_one;
      failed = λ k h. absurd (true≢false (sym (in_end (fails k) ending refl (λ l. refl) h) ∙ no_end (fails k) refl refl (λ l. refl)));
    }

pub try_none : (plan : Plan) (i : ℕ) (fault : Option ActFault) → IsTry plan i fault []
try_none plan i fault = record { tidy = tidy_start plan; done = λ k h. absurd (true≢false (sym h)); failed = λ k h. absurd (true≢false (sym h)) }

-- ---- the steps of a try, one after another

-- what was just done is done
pub done_here_last : (own : Run) (i a : ℕ) (w : Work) → a ≡ i → Has (own ++ Act a w ∷ Done a ∷ []) (finishes i)
done_here_last own i a w same = has_right (finishes i) own (Act a w ∷ Done a ∷ []) (or_left (eqb i a) false (eq-eqb i a (sym same)))

pub steps_done : (own more rest : Run) (i : ℕ) (w : Work) → (((own ++ Claim i ∷ []) ++ more) ++ Act i w ∷ Done i ∷ []) ++ rest ≡ own ++ block i more (Act i w ∷ Done i ∷ rest)
steps_done own more rest i w = simp append_assoc

pub steps_failed : (own more : Run) (i : ℕ) → ((own ++ Claim i ∷ []) ++ more) ++ Fail i ∷ [] ≡ own ++ block i more (Fail i ∷ [])
steps_failed own more i = simp append_assoc
