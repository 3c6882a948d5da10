-- What differs at a path and below it, up to where a walk is.
use Rattle.std.proofs.Common.{◌≡◌, ◌≢◌, ◌⊎◌, ◌↔◌, ◌<◌, Bool, List, IsTrue, sym, subst, ◌∙◌, inl, inr, arith}
use Rattle.ts_name.specs.Paths.{Path, IsAbove, IsBefore}
use Rattle.ts_name.proofs.Order.{above_first, before_cases, before_itself, before_trans, decide_before}
use Rattle.ts_name.proofs.Prefixes.{above_itself}
use Rattle.ts_model.specs.Holds.{Names}
use Rattle.ts_model.specs.Sync.{IsHeldIn, listed_snapshot}
use Rattle.ts_model.specs.Trees.{Listing, at}
use Rattle.ts_model.specs.declared.hold.Rule.{Rule}
use Rattle.ts_model.specs.declared.row.Content.{Content}
use Rattle.ts_model.specs.declared.row.Content.TheVariants.{Absent}
use Rattle.ts_model.specs.declared.row.Stamp.{Stamp}
use Rattle.ts_print.specs.Walks.{IsLeft, IsPresent, IsThere, IsWalkStep, Left, left_count}
use Rattle.ts_print.proofs.Walks.{step_between, step_forward, step_there}
use Rattle.ts_need.specs.Merges.{AreFoundUpto, SomeUpto}
use Rattle.ts_need.specs.declared.differences.Differences.{Differences}

-- both say the same
abbrev pub Same : Type 0 → Type 0 → Type 0
Same P Q = (P → Q) × (Q → P)

-- ---- one test

-- of the first path
flag_begins : (P : Path → Type 0) (Here : Type 0) (p : Path) (old new : Bool) → ¬ IsTrue old → IsTrue new ↔ (IsTrue old ⊎ Here) → Same Here (P p) → IsTrue new ↔ SomeUpto P p p
flag_begins P Here p old new none is same = (to, from)
  where
    to : IsTrue new → SomeUpto P p p
    to is_new = elim (is.0 is_new) [ inl o ↦ absurd (none o) | inr here ↦ (p, above_itself p, before_itself p, same.0 here) ]

    from : SomeUpto P p p → IsTrue new
    from found = elim (above_first p found.0 found.1) [
      | inl e ↦ is.1 (inr (same.1 (subst P (sym e) found.3)))
      | inr less ↦ absurd (found.2 less)
    ]

-- of the next one, after b
flag_goes : (P : Path → Type 0) (Here : Type 0) (p b q : Path) (old new : Bool) → IsBefore b q → ((x : Path) → IsBefore b x → IsBefore x q → ¬ P x) → IsAbove p q
    → IsTrue old ↔ SomeUpto P p b → IsTrue new ↔ (IsTrue old ⊎ Here) → Same Here (P q) → IsTrue new ↔ SomeUpto P p q
flag_goes P Here p b q old new less none above so_far is same = (to, from)
  where
    to : IsTrue new → SomeUpto P p q
    to is_new = elim (is.0 is_new) [
      | inl o ↦ (let found = so_far.0 o in (found.0, found.1, λ after. found.2 (before_trans b q found.0 less after), found.3))
      | inr here ↦ (q, above, before_itself q, same.0 here)
    ]

    from : SomeUpto P p q → IsTrue new
    from found = elim (decide_before b found.0) [
      | no n ↦ is.1 (inl (so_far.1 (found.0, found.1, n, found.3)))
      | yes after ↦ elim (before_cases found.0 q) [
        | inl before ↦ absurd (none found.0 after before found.3)
        | inr more ↦ elim more [
          | inl e ↦ is.1 (inr (same.1 (subst P e found.3)))
          | inr later ↦ absurd (found.2 later)
        ]
      ]
    ]

differs : (x y c d : Content Stamp) → x ≡ c → y ≡ d → Same (c ≢ d) (x ≢ y)
differs x y c d e f = (λ n g. n (sym e ∙ g ∙ f), λ n g. n (e ∙ g ∙ sym f))

-- ---- all four

pub record AreNone (found : Differences) : Type 0 where
  pub first : ¬ IsTrue found.first
  pub second : ¬ IsTrue found.second
  pub apart : ¬ IsTrue found.apart
  pub named : ¬ IsTrue found.is_named

-- one path more, with these contents
pub record Add (rules : List Rule) (q : Path) (a f s : Content Stamp) (old new : Differences) : Type 0 where
  pub first : IsTrue new.first ↔ (IsTrue old.first ⊎ (f ≢ a))
  pub second : IsTrue new.second ↔ (IsTrue old.second ⊎ (s ≢ a))
  pub apart : IsTrue new.apart ↔ (IsTrue old.apart ⊎ (f ≢ s))
  pub named : IsTrue new.is_named ↔ (IsTrue old.is_named ⊎ Names rules q)

-- where a walk comes to, something is
pub step_present : (A F S : Listing Stamp) (b p : Path) (a f s : Content Stamp) (old new : Left) → IsLeft A F S b old → IsWalkStep p a f s old new → IsPresent A F S p
step_present A F S b p a f s old new is step = elim step.some [
  | inl n ↦ inl (λ e. n (sym there.archive ∙ e))
  | inr more ↦ elim more [ inl n ↦ inr (inl (λ e. n (sym there.first ∙ e))) | inr n ↦ inr (inr (λ e. n (sym there.second ∙ e))) ]
]
  where
    there : IsThere A F S p a f s
    there = step_there A F S b p a f s old new is step

module _ (A F S : Listing Stamp) (rules : List Rule) where
  -- a path that is there is held where a rule names it
  pub names_held : (q : Path) → IsPresent A F S q → Same (Names rules q) (IsHeldIn (listed_snapshot A F S rules) q)
  names_held q there = (λ named. record { present = turned there; named = named }, λ held. held.named)
    where
      turned : IsPresent A F S q → (at F q ≢ Absent) ⊎ ((at S q ≢ Absent) ⊎ (at A q ≢ Absent))
      turned (inl n) = inr (inr n)
      turned (inr (inl n)) = inl n
      turned (inr (inr n)) = inr (inl n)

  -- and what is held is there
  pub held_present : (q : Path) → IsHeldIn (listed_snapshot A F S rules) q → IsPresent A F S q
  held_present q held = turned held.present
    where
      turned : (at F q ≢ Absent) ⊎ ((at S q ≢ Absent) ⊎ (at A q ≢ Absent)) → IsPresent A F S q
      turned (inl n) = inr (inl n)
      turned (inr (inl n)) = inr (inr n)
      turned (inr (inr n)) = inl n

  pub nothing_present : (q : Path) → IsThere A F S q Absent Absent Absent → ¬ IsPresent A F S q
  nothing_present q none (inl n) = n none.archive
  nothing_present q none (inr (inl n)) = n none.first
  nothing_present q none (inr (inr n)) = n none.second

  pub found_begins : (p : Path) (a f s : Content Stamp) (old new : Differences) → IsThere A F S p a f s → IsPresent A F S p → AreNone old → Add rules p a f s old new → AreFoundUpto A F S rules p p new
  found_begins p a f s old new there present none add = record {
    first = flag_begins (λ q. at F q ≢ at A q) (f ≢ a) p old.first new.first none.first add.first (differs (at F p) (at A p) f a there.first there.archive);
    second = flag_begins (λ q. at S q ≢ at A q) (s ≢ a) p old.second new.second none.second add.second (differs (at S p) (at A p) s a there.second there.archive);
    apart = flag_begins (λ q. at F q ≢ at S q) (f ≢ s) p old.apart new.apart none.apart add.apart (differs (at F p) (at S p) f s there.first there.second);
    named = flag_begins (IsHeldIn (listed_snapshot A F S rules)) (Names rules p) p old.is_named new.is_named none.named add.named (names_held p present);
  }

  pub found_goes : (p b q : Path) (a f s : Content Stamp) (left next : Left) (old new : Differences) → IsLeft A F S b left → IsWalkStep q a f s left next → IsAbove p q
      → AreFoundUpto A F S rules p b old → Add rules q a f s old new → AreFoundUpto A F S rules p q new
  found_goes p b q a f s left next old new is step above so_far add = record {
    first = flag_goes (λ x. at F x ≢ at A x) (f ≢ a) p b q old.first new.first less (λ x after before n. let none = nowhere x after before in n (none.first ∙ sym none.archive)) above so_far.first add.first
        (differs (at F q) (at A q) f a there.first there.archive);
    second = flag_goes (λ x. at S x ≢ at A x) (s ≢ a) p b q old.second new.second less (λ x after before n. let none = nowhere x after before in n (none.second ∙ sym none.archive)) above so_far.second add.second
        (differs (at S q) (at A q) s a there.second there.archive);
    apart = flag_goes (λ x. at F x ≢ at S x) (f ≢ s) p b q old.apart new.apart less (λ x after before n. let none = nowhere x after before in n (none.first ∙ sym none.second)) above so_far.apart add.apart
        (differs (at F q) (at S q) f s there.first there.second);
    named = flag_goes (IsHeldIn (listed_snapshot A F S rules)) (Names rules q) p b q old.is_named new.is_named less (λ x after before held. nothing_present x (nowhere x after before) (held_present x held)) above so_far.named add.named
        (names_held q (step_present A F S b q a f s left next is step));
  }
    where
      less : IsBefore b q
      less = step_forward A F S b q a f s left next is step

      there : IsThere A F S q a f s
      there = step_there A F S b q a f s left next is step

      nowhere : (x : Path) → IsBefore b x → IsBefore x q → IsThere A F S x Absent Absent Absent
      nowhere = step_between A F S b q a f s left next is step

-- each step takes something off what is left
pub step_shorter : (p : Path) (archive first second : Content Stamp) (old new : Left) → IsWalkStep p archive first second old new → left_count new < left_count old
step_shorter p archive first second old new step =
    let archive_kept = step.in_archive.no_more in
    let first_kept = step.in_first.no_more in
    let second_kept = step.in_second.no_more in
    elim step.some [
      | inl there ↦ let less = step.in_archive.less there in omega arith
      | inr more ↦ elim more [
        | inl there ↦ let less = step.in_first.less there in omega arith
        | inr there ↦ let less = step.in_second.less there in omega arith
      ]
    ]
