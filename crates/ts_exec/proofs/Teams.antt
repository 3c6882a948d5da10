-- Passes of workers that are cut and put together.
use Rattle.std.proofs.Common.{◌≡◌, ◌⊎◌, ℕ, ◌+◌, ◌*◌, ◌^◌, Bool, false, IsTrue, List, [], ◌++◌, length, Option, Some, IfSome, slice_get, refl, sym, ◌∙◌, subst, ⊎_elim}
use Rattle.std.specs.List.{All}
use Rattle.std.specs.Option.{option_to_list}
use Rattle.std.proofs.lemmas.List.Elements.{All-pop}
use Rattle.std.proofs.lemmas.Bool.{true≢false}
use Rattle.std.proofs.lemmas.Option.{none-some}
use Rattle.atomic_table.specs.Seated.{TableId}
use Rattle.ts_model.specs.Runs.{Run, Has, fails}
use Rattle.ts_board.specs.Calls.{HasPart, IsPassAt, IsSamePart, mine, seen}
use Rattle.ts_board.specs.Kept.{IsMerged}
use Rattle.ts_board.specs.Runs.{StartsWith}
use Rattle.ts_board.specs.declared.board.Pass.{Pass}
use Rattle.ts_board.specs.declared.law.Terms.{Terms}
use Rattle.ts_exec.specs.Failures.{AreTold, Setting}
use Rattle.ts_exec.specs.Tidy.{HasFault, IsListed, IsSameShare, IsTidy, KeepsList, KeepsNotes, MayBe, Noted}
use Rattle.ts_exec.specs.declared.crew.Failure.{Failure}
use Rattle.ts_exec.specs.declared.fault.ActFault.{ActFault}
use Rattle.ts_exec.proofs.Noting.{fault_later, may_be_later}
use Rattle.ts_exec.proofs.Reading.{told_later, told_merged}
use Rattle.ts_exec.proofs.Shares.{halves_share}
use Rattle.ts_exec.proofs.Steps.{merged_cases}
use Rattle.ts_exec.proofs.Tries.{tidy_merged, tidy_start}

module _ {S : Type 0} (id : TableId) (t : Terms) (x : Setting) where
  -- a pass with no steps of its own
  pub fresh_list : (p : Pass S) (fs : List Failure) → IsPassAt id t p → mine p ≡ [] → fs ≡ [] → KeepsList id t x p fs
  fresh_list p fs of none empty = record {
    of_board = of;
    tidy = subst (λ (z : Run). IsTidy x.checkup.plan z) (sym none) (tidy_start x.checkup.plan);
    listed = record {
      each = λ i h. absurd (true≢false (sym (subst (λ (z : Run). Has z (fails i)) none h)));
      may = λ m e at. absurd (none-some e (subst (λ (z : List Failure). slice_get z m ≡ Some e) empty at));
      told = subst (λ (z : Run). AreTold x (seen p) z) (sym none) tt;
    };
  }

  pub same_notes : (p q : Pass S) (fs : List (Option ActFault)) → IsPassAt id t q → seen q ≡ seen p → mine q ≡ mine p → KeepsNotes id t x p fs → KeepsNotes id t x q fs
  same_notes p q fs of sees same k = record {
    of_board = of;
    tidy = subst (λ (z : Run). IsTidy x.checkup.plan z) (sym same) k.tidy;
    room = k.room;
    noted = subst (λ (z : Run). Noted x z (seen q) fs) (sym same) (subst (λ (z : Run). Noted x (mine p) z fs) (sym sees) k.noted);
  }

  -- nothing was changed
  pub kept_notes : (p q : Pass S) (fs gs : List (Option ActFault)) → q ≡ p → gs ≡ fs → KeepsNotes id t x p fs → KeepsNotes id t x q gs
  kept_notes p q fs gs same faults k =
      subst (λ (z : Pass S). KeepsNotes id t x z gs) (sym same) (subst (λ (z : List (Option ActFault)). KeepsNotes id t x p z) (sym faults) k)

  pub joined_notes : (p q r : Pass S) (before after : List (Option ActFault)) (failures : List Failure) → KeepsNotes id t x p before → KeepsList id t x q failures → IsPassAt id t r → StartsWith (seen r) (seen p) → StartsWith (seen r) (seen q)
      → IsMerged (mine p) (mine q) (mine r) → length after ≡ length before → ((run : Run) → MayBe x run failures → (i : ℕ) → HasFault x run before i → HasFault x run after i)
      → ((run : Run) → MayBe x run failures → (i : ℕ) → IsListed i failures → HasFault x run after i) → KeepsNotes id t x r after
  joined_notes p q r before after failures notes list of this that merged room kept noted = record {
    of_board = of;
    tidy = tidy_merged x.checkup.plan (mine p) (mine q) (mine r) merged notes.tidy list.tidy;
    room = room ∙ notes.room;
    noted = record {
      each = λ i h. ⊎_elim
          (λ (l : Has (mine p) (fails i)). kept (seen r) may i (fault_later x (seen p) (seen r) before i this (notes.noted.each i l)))
          (λ (l : Has (mine q) (fails i)). noted (seen r) may i (list.listed.each i l))
          (merged_cases (fails i) (mine p) (mine q) (mine r) merged h);
      told = told_merged x (seen r) (mine p) (mine q) (mine r) merged (told_later x (seen p) (seen r) this (mine p) notes.noted.told) (told_later x (seen q) (seen r) that (mine q) list.listed.told);
    };
  }
    where
      may : MayBe x (seen r) failures
      may = may_be_later x (seen q) (seen r) failures that list.listed.may

-- what holds of all elements holds of the one that was taken off
pub of_popped : {X : Type 0} (P : X → Type 0) (xs ys : List X) (r : Option X) (x : X) → xs ≡ ys ++ option_to_list r → r ≡ Some x → All P xs → P x
of_popped P xs ys r x is some all = subst (λ (z : Option _). IfSome z P) some (All-pop P xs ys r is all).1

pub kept_share : {S : Type 0} (p q : Pass S) → q ≡ p → IsSameShare p q
kept_share p q same = subst (λ (z : Pass _). IsSameShare p z) (sym same) refl

-- whoever was not stopped
pub not_stopped : {A : Type 0} (b : Bool) → b ≡ false → IsTrue b → A
not_stopped b none h = absurd (true≢false (sym h ∙ none))

-- one of two was stopped
pub either_stopped : {A : Type 0} (a b r : Bool) → (IsTrue r → IsTrue a ⊎ IsTrue b) → (IsTrue a → A) → (IsTrue b → A) → IsTrue r → A
either_stopped a b r cases one other h = ⊎_elim one other (cases h)

-- the halves of a pass, what became of them, and the two put together
pub joined_share : {S : Type 0} (p ours theirs rest worked r : Pass S) → HasPart ours p.seat.me.0.part (p.seat.me.0.cut + 1) → HasPart theirs p.seat.me.0.part (p.seat.me.0.cut + 1) → IsSameShare ours rest → IsSamePart theirs worked
    → HasPart r (rest.seat.me.0.part * 2 ^ worked.seat.me.0.cut + worked.seat.me.0.part * 2 ^ rest.seat.me.0.cut) (rest.seat.me.0.cut + worked.seat.me.0.cut) → IsSameShare p r
joined_share p ours theirs rest worked r first second share part whole =
    halves_share p.seat.me.0.part p.seat.me.0.cut ours.seat.me.0.part ours.seat.me.0.cut theirs.seat.me.0.part theirs.seat.me.0.cut worked.seat.me.0.part worked.seat.me.0.cut rest.seat.me.0.part rest.seat.me.0.cut r.seat.me.0.part
    r.seat.me.0.cut first.0 first.1 second.0 second.1 part.0 part.1 share whole.0 whole.1
