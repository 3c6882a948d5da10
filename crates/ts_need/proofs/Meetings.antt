-- A path beside the next entry.
use Rattle.std.proofs.Common.{◌≡◌, ℕ, ◌<◌, List, length, get_or, Option, Some, None, MatchOption, Greater, slice_get, refl, sym, subst, ◌∙◌}
use Rattle.std.proofs.lemmas.Option.{none-some, same_Some, slice_get_read}
use Rattle.ts_name.specs.Paths.{Path, IsBefore, path_cmp}
use Rattle.ts_name.proofs.Order.{before_flip}
use Rattle.ts_model.specs.declared.plan.Entry.{Entry}
use Rattle.ts_model.specs.declared.plan.Reason.{Reason}
use Rattle.ts_need.specs.Merges.{ComesAfter, MeetsEntries}
use Rattle.ts_need.specs.declared.rules.Meeting.{Meeting}
use Rattle.ts_need.specs.declared.rules.Meeting.TheVariants.{Lacking, Nothing}

-- what a slice's look-up found
pub item_at : {A : Type 0} (xs : List A) (i : ℕ) (x : A) → i < length xs → x ≡ get_or xs i x → slice_get xs i ≡ Some x
item_at {A} xs i x h e = slice_get_read xs (length xs) i x refl h e

-- where the next entry comes after the path
pub missed : (entries : List Entry) (next : ℕ) (p : Path) (found : Option Reason) (meeting : Meeting) → MatchOption found (meeting ≡ Nothing) (λ _. meeting ≡ Lacking) → ComesAfter entries next p
    → MeetsEntries entries next p found meeting
missed entries next p None meeting e after = subst (λ (m : Meeting). MeetsEntries entries next p None m) (sym e) (after, refl)
missed entries next p (Some r) meeting e after = subst (λ (m : Meeting). MeetsEntries entries next p (Some r) m) (sym e) (after, r, refl)

pub missed_later : (entries : List Entry) (next : ℕ) (p : Path) (found : Option Reason) (meeting : Meeting) (entry : Entry) → slice_get entries next ≡ Some entry → path_cmp entry.path p ≡ Greater
    → MatchOption found (meeting ≡ Nothing) (λ _. meeting ≡ Lacking) → MeetsEntries entries next p found meeting
missed_later entries next p found meeting entry is order e = missed entries next p found meeting e (λ other is_other.
    subst (λ (x : Entry). IsBefore p x.path) (same_Some entry other (sym is ∙ is_other)) (before_flip entry.path p order))

pub missed_all : (entries : List Entry) (next : ℕ) (p : Path) (found : Option Reason) (meeting : Meeting) → slice_get entries next ≡ None
    → MatchOption found (meeting ≡ Nothing) (λ _. meeting ≡ Lacking) → MeetsEntries entries next p found meeting
missed_all entries next p found meeting is e = missed entries next p found meeting e (λ other is_other. absurd (none-some other (sym is ∙ is_other)))
