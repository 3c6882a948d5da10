-- Where the pass over an archive and two replicas stands, and the reason that it finds.
use Rattle.std.proofs.Common.{◌≡◌, ◌≢◌, ◌⊎◌, ◌↔◌, Bool, true, false, cond, ◌||◌, ◌&&◌, not, IsTrue, IfSome, List, [], ◌∷◌, ◌++◌, Option, Some, None, refl, sym, ap, subst, ◌∙◌, inl, inr, append-nil, append_assoc}
use Rattle.ts_name.specs.Paths.{Name, Path, IsAbove, IsBefore}
use Rattle.ts_name.proofs.Order.{above_first, before_cases, before_itself, before_trans, decide_before}
use Rattle.ts_name.proofs.Prefixes.{above_itself, above_trans, last_name}
use Rattle.ts_model.specs.Sync.{Snapshot, AreBothDirs, Agree, HasReason, IsBelowDirs, IsChanged, IsHeldIn, IsSnapshot, TouchesHeld, listed_snapshot}
use Rattle.ts_model.specs.Trees.{IsListing, Listing, at, sub}
use Rattle.ts_model.specs.Holds.{Names}
use Rattle.ts_model.specs.Texts.{IsRules}
use Rattle.ts_hold.proofs.Naming.{root_unnamed}
use Rattle.ts_model.specs.declared.hold.Rule.{Rule}
use Rattle.ts_model.specs.declared.plan.Reason.{Reason}
use Rattle.ts_model.specs.declared.plan.Reason.TheVariants as reason
use Rattle.ts_model.specs.declared.plan.Side.TheVariants as side
use Rattle.ts_model.specs.declared.row.Content.{Content}
use Rattle.ts_model.specs.declared.row.Content.TheVariants.{Absent, Dir}
use Rattle.ts_model.specs.declared.row.Stamp.{Stamp}
use Rattle.ts_model.proofs.Deciding.{same_stamp_at}
use Rattle.ts_model.proofs.Rows.{dir_is_there}
use Rattle.ts_name.proofs.Basics.{by_each}
use Rattle.ts_laws.proofs.Listings.{listed_lawful}
use Rattle.ts_laws.proofs.Reasons.{IsWhole, IsWhole-from_snapshot, dirs_above_relevant}
use Rattle.ts_laws.proofs.Rules.{nowhere_no_reason}
use Rattle.ts_print.specs.Walks.{HasNoneFrom, IsLeft, IsPresent, IsThere, IsWalkStep, Left}
use Rattle.ts_print.proofs.Order.{above_between, above_upto, before_upto}
use Rattle.ts_print.proofs.Walks.{left_all, none_later, step_between, step_forward, step_left, step_there}
use Rattle.ts_need.specs.Merges.{AreFoundUpto, IsAboveIn, IsAt, IsReasoned, SomeUpto}
use Rattle.ts_need.specs.Needs.{IsReasonOf, edge_reason}
use Rattle.ts_need.specs.declared.differences.Differences.{Differences}
use Rattle.ts_need.proofs.Edges.{Tells, Tells-from, differ_reason, dirs_none, same_none, same_reason}
use Rattle.ts_need.proofs.Found.{held_present, nothing_present, step_present}

-- whatever is strictly above something is a directory
rooted : (rows : Listing Stamp) → IsListing rows → (p : Path) (name : Name) (rest : Path) → at rows (p ++ name ∷ rest) ≢ Absent → at rows p ≡ Dir
rooted rows lists p name [] there = lists.parents p name there
rooted rows lists p name (next ∷ rest) there = lists.parents p name (λ e.
    let below_dir : at rows (p ++ name ∷ []) ≡ Dir = rooted rows lists (p ++ name ∷ []) next rest (λ f. there (ap (at rows) (sym (append_assoc p (name ∷ []) (next ∷ rest))) ∙ f)) in
    dir_is_there (at rows (p ++ name ∷ [])) below_dir e)

module _ (A F S : Listing Stamp) (rules : List Rule) (lists_a : IsListing A) (lists_f : IsListing F) (lists_s : IsListing S) where
  abbrev s : Snapshot
  s = listed_snapshot A F S rules

  lawful : IsSnapshot s
  lawful = listed_lawful A F S rules lists_a lists_f lists_s

  whole : IsWhole s
  whole = IsWhole-from_snapshot s lawful

  -- what is strictly above something is something
  above_present : (p : Path) (name : Name) (rest : Path) → IsPresent A F S (p ++ name ∷ rest) → IsPresent A F S p
  above_present p name rest (inl n) = inl (dir_is_there (at A p) (rooted A lists_a p name rest n))
  above_present p name rest (inr (inl n)) = inr (inl (dir_is_there (at F p) (rooted F lists_f p name rest n)))
  above_present p name rest (inr (inr n)) = inr (inr (dir_is_there (at S p) (rooted S lists_s p name rest n)))

  -- where nothing is, there is no reason
  pub no_reason : (p : Path) (r : Reason) → IsThere A F S p Absent Absent Absent → ¬ HasReason s p r
  no_reason p r none = nowhere_no_reason s whole p r none.first none.second none.archive

  -- ---- the beginning

  pub at_start : (left : Left) (holder : Option Path) → IsRules rules → left ≡ record { archive = A; first = F; second = S } → holder ≡ None → IsAt A F S rules [] left holder
  at_start left holder fit e_left e_holder = subst (λ (l : Left). IsAt A F S rules [] l holder) (sym e_left) (subst (λ (o : Option Path). IsAt A F S rules [] (record { archive = A; first = F; second = S }) o) (sym e_holder) begin)
    where
      root_only : (q : Path) → ¬ IsBefore [] q → q ≡ []
      root_only [] n = refl
      root_only (x ∷ q) n = absurd (n refl)

      begin : IsAt A F S rules [] (record { archive = A; first = F; second = S }) None
      begin = record {
        is_left = left_all A F S lists_a lists_f lists_s;
        open_dirs = λ q name rest n later some. (ap (at F) (root_only q n), ap (at S) (root_only q n));
        held = tt;
        covers = λ h q is n later some above. root_unnamed rules fit (subst (λ (z : Path). Names rules z) (root_only h n) is.named);
      }

  -- ---- a step to p

  module _ (b p : Path) (holder : Option Path) (ca cf cs : Content Stamp) (old new : Left) (here : IsAt A F S rules b old holder) (step : IsWalkStep p ca cf cs old new) where
    less : IsBefore b p
    less = step_forward A F S b p ca cf cs old new here.is_left step

    there : IsThere A F S p ca cf cs
    there = step_there A F S b p ca cf cs old new here.is_left step

    present : IsPresent A F S p
    present = step_present A F S b p ca cf cs old new here.is_left step

    nowhere : (q : Path) → IsBefore b q → IsBefore q p → IsThere A F S q Absent Absent Absent
    nowhere = step_between A F S b p ca cf cs old new here.is_left step

    none_between : (q : Path) → IsBefore b q → IsBefore q p → ¬ IsPresent A F S q
    none_between q after before = nothing_present A F S rules q (nowhere q after before)

    -- it stands below directories of both
    below : IsBelowDirs s.first s.second p
    below = elim (last_name p) [
      | inl e ↦ absurd (root_last b (subst (λ (z : Path). IsBefore b z) e less))
      | inr found ↦ (found.0, found.1, found.2, here.open_dirs found.0 found.1 [] (not_after found.0 found.1 found.2) (subst (λ (z : Path). IsBefore b z) found.2 less) (subst (λ (z : Path). IsPresent A F S z) found.2 present))
    ]
      where
        root_last : (q : Path) → ¬ IsBefore q []
        root_last [] h = before_itself [] h
        root_last (x ∷ q) h = cc

        not_after : (parent : Path) (name : Name) → p ≡ parent ++ name ∷ [] → ¬ IsBefore b parent
        not_after parent name e after = none_between parent after (subst (λ (z : Path). IsBefore parent z) (sym e) (child_after parent name))
            (above_present parent name [] (subst (λ (z : Path). IsPresent A F S z) e present))
          where
            child_after : (q : Path) (name : Name) → IsBefore q (q ++ name ∷ [])
            child_after q name = elim (above_first q (q ++ name ∷ []) (name ∷ [], refl)) [ inl same ↦ absurd (longer q name same) | inr h ↦ h ]
              where
                longer : (q : Path) (name : Name) → q ≢ q ++ name ∷ []
                longer [] name e = cc
                longer (x ∷ q) name e = longer q name (cons_same e)
                  where
                    cons_same : x ∷ q ≡ x ∷ (q ++ name ∷ []) → q ≡ q ++ name ∷ []
                    cons_same f = cc

    -- a held path above it is the holder, or below it
    above_held : (h : Path) → IsHeldIn s h → IsAbove h p → (h ≡ p) ⊎ IsAboveIn holder p
    above_held h held above = elim (above_first h p above) [
      | inl e ↦ inl e
      | inr before ↦ elim (decide_before b h) [
        | yes after ↦ absurd (none_between h after before (held_present A F S rules h held))
        | no n ↦ inr (here.covers h p held n less present above)
      ]
    ]

    -- the holder is held
    holder_held : IsAboveIn holder p → (h : Path) × IsHeldIn s h × IsAbove h p
    holder_held above = go holder here.held above
      where
        go : (o : Option Path) → IfSome o (λ h. IsHeldIn s h × (¬ IsBefore b h)) → IsAboveIn o p → (h : Path) × IsHeldIn s h × IsAbove h p
        go None held up = absurd up
        go (Some h) held up = (h, held.0, up)

    -- ---- a directory of both

    -- the holder after it
    abbrev pub dir_holder : Bool → Option Path
    dir_holder is_holder = cond is_holder (Some p) holder

    pub after_dirs : (is_held named is_holder : Bool) (next : Option Path) → (cf ≡ Dir) × (cs ≡ Dir) → (IsTrue is_held ↔ IsAboveIn holder p) → (IsTrue named ↔ IsHeldIn s p) → is_holder ≡ (not is_held && named)
        → next ≡ dir_holder is_holder → IsAt A F S rules p new next
    after_dirs is_held named is_holder next dirs held_is named_is e_holder e_next = record {
      is_left = step_left A F S b p ca cf cs old new here.is_left step;
      open_dirs = open_dirs;
      held = subst (λ (o : Option Path). IfSome o (λ h. IsHeldIn s h × (¬ IsBefore p h))) (sym e_next) (held is_held named is_holder held_is named_is e_holder);
      covers = λ h q is n later some above. subst (λ (o : Option Path). IsAboveIn o q) (sym e_next) (covers is_held named is_holder held_is named_is e_holder h q is n later some above);
    }
      where
        open_dirs : (q : Path) (name : Name) (rest : Path) → ¬ IsBefore p q → IsBefore p (q ++ name ∷ rest) → IsPresent A F S (q ++ name ∷ rest) → AreBothDirs (at F) (at S) q
        open_dirs q name rest n later some = elim (decide_before b q) [
          | no m ↦ here.open_dirs q name rest m (before_trans b p (q ++ name ∷ rest) less later) some
          | yes after ↦ elim (before_cases q p) [
            | inl before ↦ absurd (none_between q after before (above_present q name rest some))
            | inr more ↦ elim more [
              | inl e ↦ (ap (at F) e ∙ there.first ∙ dirs.0, ap (at S) e ∙ there.second ∙ dirs.1)
              | inr beyond ↦ absurd (n beyond)
            ]
          ]
        ]

        upto : (h : Path) → ¬ IsBefore b h → ¬ IsBefore p h
        upto h n more = n (before_trans b p h less more)

        old_held : IfSome holder (λ h. IsHeldIn s h × (¬ IsBefore p h))
        old_held = go holder here.held
          where
            go : (o : Option Path) → IfSome o (λ h. IsHeldIn s h × (¬ IsBefore b h)) → IfSome o (λ h. IsHeldIn s h × (¬ IsBefore p h))
            go None held = held
            go (Some h) held = (held.0, upto h held.1)

        held : (is_held named is_holder : Bool) → (IsTrue is_held ↔ IsAboveIn holder p) → (IsTrue named ↔ IsHeldIn s p) → is_holder ≡ (not is_held && named) → IfSome (dir_holder is_holder) (λ h. IsHeldIn s h × (¬ IsBefore p h))
        held false true is_holder held_is named_is e = subst (λ (t : Bool). IfSome (dir_holder t) (λ h. IsHeldIn s h × (¬ IsBefore p h))) (sym e) (named_is.0 refl, before_itself p)
        held false false is_holder held_is named_is e = subst (λ (t : Bool). IfSome (dir_holder t) (λ h. IsHeldIn s h × (¬ IsBefore p h))) (sym e) old_held
        held true named is_holder held_is named_is e = subst (λ (t : Bool). IfSome (dir_holder t) (λ h. IsHeldIn s h × (¬ IsBefore p h))) (sym e) old_held

        -- where the holder is above what comes after p, but not above p, it isn't
        not_over : (q : Path) → IsBefore p q → IsAboveIn holder q → ¬ IsAboveIn holder p → ⊥
        not_over q later over n = go holder here.held over n
          where
            go : (o : Option Path) → IfSome o (λ h. IsHeldIn s h × (¬ IsBefore b h)) → IsAboveIn o q → ¬ IsAboveIn o p → ⊥
            go None held over n = over
            go (Some h) held over n = n (above_between h p q over (λ before. held.1 (before_trans b p h less before)) (λ before. before_itself p (before_trans p q p later before)))

        -- what is held up to p covers what comes after it
        case_of : (h q : Path) → IsHeldIn s h → ¬ IsBefore p h → IsBefore p q → IsPresent A F S q → IsAbove h q → IsAboveIn holder q ⊎ (h ≡ p)
        case_of h q is n later some above = elim (decide_before b h) [
          | no m ↦ inl (here.covers h q is m (before_trans b p q less later) some above)
          | yes after ↦ elim (before_cases h p) [
            | inl before ↦ absurd (none_between h after before (held_present A F S rules h is))
            | inr more ↦ elim more [ inl e ↦ inr e | inr beyond ↦ absurd (n beyond) ]
          ]
        ]

        covers : (is_held named is_holder : Bool) → (IsTrue is_held ↔ IsAboveIn holder p) → (IsTrue named ↔ IsHeldIn s p) → is_holder ≡ (not is_held && named)
            → (h q : Path) → IsHeldIn s h → ¬ IsBefore p h → IsBefore p q → IsPresent A F S q → IsAbove h q → IsAboveIn (dir_holder is_holder) q
        covers false true is_holder held_is named_is e h q is n later some above = subst (λ (t : Bool). IsAboveIn (dir_holder t) q) (sym e) (elim (case_of h q is n later some above) [
          | inl over ↦ absurd (not_over q later over (λ up. let f : false ≡ true = held_is.1 up in cc))
          | inr same ↦ subst (λ (z : Path). IsAbove z q) same above
        ])
        covers false false is_holder held_is named_is e h q is n later some above = subst (λ (t : Bool). IsAboveIn (dir_holder t) q) (sym e) (elim (case_of h q is n later some above) [
          | inl over ↦ over
          | inr same ↦ absurd (let f : false ≡ true = named_is.1 (subst (λ (z : Path). IsHeldIn s z) same is) in cc)
        ])
        covers true named is_holder held_is named_is e h q is n later some above = subst (λ (t : Bool). IsAboveIn (dir_holder t) q) (sym e) (elim (case_of h q is n later some above) [
          | inl over ↦ over
          | inr same ↦ up holder (held_is.0 refl) (subst (λ (z : Path). IsAbove z q) same above)
        ])
          where
            up : (o : Option Path) → IsAboveIn o p → IsAbove p q → IsAboveIn o q
            up None over below_p = absurd over
            up (Some g) over below_p = above_trans g p q over below_p

    pub dirs_reasoned : (found : Option Reason) → (cf ≡ Dir) × (cs ≡ Dir) → (ca ≡ Dir → found ≡ None) → (¬ (ca ≡ Dir) → found ≡ Some reason.Dir) → IsReasoned A F S rules b p p found
    dirs_reasoned found dirs old_dir new_dir = record {
      later = before_itself p;
      reason = elim (same_stamp_at ca Dir) [
        | yes e ↦ subst (λ (o : Option Reason). IsReasonOf s p o) (sym (old_dir e)) (dirs_none s lawful p both (there.archive ∙ e))
        | no n ↦ subst (λ (o : Option Reason). IsReasonOf s p o) (sym (new_dir n)) (below, (both, λ e. n (sym there.archive ∙ e)))
      ];
      alone = λ q r after n differ. elim (before_cases q p) [
        | inl before ↦ no_reason q r (nowhere q after before)
        | inr more ↦ elim more [ inl e ↦ absurd (differ e) | inr beyond ↦ absurd (n beyond) ]
      ];
    }
      where
        both : AreBothDirs s.first s.second p
        both = (there.first ∙ dirs.0, there.second ∙ dirs.1)

    -- ---- an edge: not a directory of both, with all that is below it

    module _ (after : Path) (then : Left) (found : Differences) (edge : ¬ ((cf ≡ Dir) × (cs ≡ Dir))) (left_then : IsLeft A F S after then) (passed : HasNoneFrom p then) (above_after : IsAbove p after)
        (upto : AreFoundUpto A F S rules p after found) where
      no_dirs : ¬ AreBothDirs s.first s.second p
      no_dirs both = edge (sym there.first ∙ both.0, sym there.second ∙ both.1)

      not_before : ¬ IsBefore after p
      not_before = above_upto p after above_after

      less_after : IsBefore b after
      less_after = before_upto b p after less not_before

      -- all that is there below p comes no later than this
      all_passed : (q : Path) → IsAbove p q → IsPresent A F S q → ¬ IsBefore after q
      all_passed = none_later A F S after p then left_then passed above_after

      -- what comes after b, up to this, and is there, is p or below it
      inside : (q : Path) → IsBefore b q → ¬ IsBefore after q → IsPresent A F S q → IsAbove p q
      inside q later n some = elim (before_cases q p) [
        | inl before ↦ absurd (none_between q later before some)
        | inr more ↦ elim more [
          | inl e ↦ ([], e ∙ sym (append-nil p))
          | inr beyond ↦ above_between p q after above_after (λ h. before_itself p (before_trans p q p beyond h)) n
        ]
      ]

      pub after_edge : IsAt A F S rules after then holder
      after_edge = record {
        is_left = left_then;
        open_dirs = open_dirs;
        held = old_held holder here.held;
        covers = covers;
      }
        where
          open_dirs : (q : Path) (name : Name) (rest : Path) → ¬ IsBefore after q → IsBefore after (q ++ name ∷ rest) → IsPresent A F S (q ++ name ∷ rest) → AreBothDirs (at F) (at S) q
          open_dirs q name rest n later some = elim (decide_before b q) [
            | no m ↦ here.open_dirs q name rest m (before_trans b after (q ++ name ∷ rest) less_after later) some
            | yes beyond ↦ absurd (all_passed (q ++ name ∷ rest) (above_trans p q (q ++ name ∷ rest) (inside q beyond n (above_present q name rest some)) (name ∷ rest, refl)) some later)
          ]

          old_held : (o : Option Path) → IfSome o (λ h. IsHeldIn s h × (¬ IsBefore b h)) → IfSome o (λ h. IsHeldIn s h × (¬ IsBefore after h))
          old_held None held = held
          old_held (Some h) held = (held.0, λ more. held.1 (before_trans b after h less_after more))

          covers : (h q : Path) → IsHeldIn s h → ¬ IsBefore after h → IsBefore after q → IsPresent A F S q → IsAbove h q → IsAboveIn holder q
          covers h q is n later some above = elim (decide_before b h) [
            | no m ↦ here.covers h q is m (before_trans b after q less_after later) some above
            | yes beyond ↦ absurd (all_passed q (above_trans p h q (inside h beyond n (held_present A F S rules h is)) above) some later)
          ]

      -- ---- what was found up to here is what there is

      changed : (side_rows : Path → Content Stamp) (t : Bool) → (IsTrue t ↔ ((q : Path) × IsAbove p q × (¬ IsBefore after q) × (side_rows q ≢ at A q)))
          → ((q : Path) → side_rows q ≢ at A q → IsPresent A F S q) → IsTrue t ↔ ((rest : Path) × (sub side_rows p rest ≢ sub (at A) p rest))
      changed rows t is some = (
        λ h. let it = is.0 h in (it.1.0, λ e. it.3 (ap rows it.1.1 ∙ e ∙ ap (at A) (sym it.1.1))),
        λ h. is.1 (p ++ h.0, (h.0, refl), all_passed (p ++ h.0) (h.0, refl) (some (p ++ h.0) h.1), h.1),
      )

      differs_first : (q : Path) → at F q ≢ at A q → IsPresent A F S q
      differs_first q n = elim (same_stamp_at (at F q) Absent) [
        | no some ↦ inr (inl some)
        | yes e ↦ inl (λ f. n (e ∙ sym f))
      ]

      differs_second : (q : Path) → at S q ≢ at A q → IsPresent A F S q
      differs_second q n = elim (same_stamp_at (at S q) Absent) [
        | no some ↦ inr (inr some)
        | yes e ↦ inl (λ f. n (e ∙ sym f))
      ]

      differs_apart : (q : Path) → at F q ≢ at S q → IsPresent A F S q
      differs_apart q n = elim (same_stamp_at (at F q) Absent) [
        | no some ↦ inr (inl some)
        | yes e ↦ inr (inr (λ f. n (e ∙ sym f)))
      ]

      first_changed : IsTrue found.first ↔ IsChanged s side.First p
      first_changed = changed (at F) found.first upto.first differs_first

      second_changed : IsTrue found.second ↔ IsChanged s side.Second p
      second_changed = changed (at S) found.second upto.second differs_second

      not_agree : IsTrue found.apart → ¬ Agree s p
      not_agree h agree = let it = upto.apart.0 h in it.3 (ap (at F) it.1.1 ∙ ap (λ (f : Path → Content Stamp). f it.1.0) agree ∙ ap (at S) (sym it.1.1))

      agree : ¬ IsTrue found.apart → Agree s p
      agree n = by_each (sub s.first p) (sub s.second p) (λ rest. elim (same_stamp_at (sub s.first p rest) (sub s.second p rest)) [
        | yes e ↦ e
        | no differ ↦ absurd (n (upto.apart.1 (p ++ rest, (rest, refl), all_passed (p ++ rest) (rest, refl) (differs_apart (p ++ rest) differ), differ)))
      ])

      touched : (up : Bool) → (IsTrue up ↔ IsAboveIn holder p) → Tells (up || found.is_named) (TouchesHeld s p)
      touched up is = Tells-from (up || found.is_named) (TouchesHeld s p) (to up found.is_named is upto.named) (from up found.is_named is upto.named)
        where
          to : (up named : Bool) → (IsTrue up ↔ IsAboveIn holder p) → (IsTrue named ↔ SomeUpto (IsHeldIn s) p after) → IsTrue (up || named) → TouchesHeld s p
          to true named is_up is_named h = let over = holder_held (is_up.0 refl) in (over.0, over.1, inl over.2)
          to false true is_up is_named h = let it = is_named.0 refl in (it.0, it.3, inr it.1)
          to false false is_up is_named h = absurd cc

          from : (up named : Bool) → (IsTrue up ↔ IsAboveIn holder p) → (IsTrue named ↔ SomeUpto (IsHeldIn s) p after) → TouchesHeld s p → IsTrue (up || named)
          from true named is_up is_named h = refl
          from false named is_up is_named h = elim h.2 [
            | inl over ↦ elim (above_held h.0 h.1 over) [
              | inl same ↦ is_named.1 (p, above_itself p, not_before, subst (λ (z : Path). IsHeldIn s z) same h.1)
              | inr by_holder ↦ absurd (let f : false ≡ true = is_up.1 by_holder in cc)
            ]
            | inr under ↦ is_named.1 (h.0, under, all_passed h.0 under (held_present A F S rules h.0 h.1), h.1)
          ]

      reason_is : (up : Bool) → (IsTrue up ↔ IsAboveIn holder p) → (apart first second : Bool) → found.apart ≡ apart → found.first ≡ first → found.second ≡ second → IsReasonOf s p (edge_reason first second apart (up || found.is_named))
      reason_is up is true first second e f g = differ_reason s lawful p below no_dirs (not_agree e) first second (up || found.is_named)
          (Tells-from first (IsChanged s side.First p) (λ h. first_changed.0 (f ∙ h)) (λ h. sym f ∙ first_changed.1 h))
          (Tells-from second (IsChanged s side.Second p) (λ h. second_changed.0 (g ∙ h)) (λ h. sym g ∙ second_changed.1 h))
          (touched up is)
      reason_is up is false true second e f g = same_reason s lawful p below no_dirs (agree (λ h. let x : false ≡ true = sym e ∙ h in cc)) (first_changed.0 f)
      reason_is up is false false second e f g = same_none s lawful p no_dirs (agree (λ h. let x : false ≡ true = sym e ∙ h in cc)) (λ h. let x : false ≡ true = sym f ∙ first_changed.1 h in cc)

      pub edge_reasoned : (up : Bool) (result : Option Reason) → (IsTrue up ↔ IsAboveIn holder p) → result ≡ edge_reason found.first found.second found.apart (up || found.is_named) → IsReasoned A F S rules b p after result
      edge_reasoned up result is e = record {
        later = not_before;
        reason = subst (λ (o : Option Reason). IsReasonOf s p o) (sym e) (reason_is up is found.apart found.first found.second refl refl refl);
        alone = alone;
      }
        where
          alone : (q : Path) (r : Reason) → IsBefore b q → ¬ IsBefore after q → q ≢ p → ¬ HasReason s q r
          alone q r later n differ has = elim (before_cases q p) [
            | inl before ↦ no_reason q r (nowhere q later before) has
            | inr more ↦ elim more [
              | inl same ↦ differ same
              | inr beyond ↦ under (above_between p q after above_after (λ h. before_itself p (before_trans p q p beyond h)) n)
            ]
          ]
            where
              under : IsAbove p q → ⊥
              under ([], e') = differ (e' ∙ append-nil p)
              under (name ∷ rest, e') = no_dirs (dirs_above_relevant s whole p q name rest e' has.0)
