-- How moments go on.
use Rattle.std.proofs.Common.{◌≡◌, List, [], ◌∷◌, ◌++◌, sym, ◌∙◌, ap, append_assoc}
use Rattle.std.proofs.lemmas.List.{append-nil}
use Rattle.std.specs.List.{AllByRecursion}
use Rattle.ts_model.specs.Swap.{Spots}
use Rattle.ts_swap.specs.Leavings.{Passes}

all_append : (P : Spots → Type 0) (xs ys : List Spots) → AllByRecursion P xs → AllByRecursion P ys → AllByRecursion P (xs ++ ys)
all_append P [] ys first then = then
all_append P (x ∷ xs) ys (here, first) then = (here, all_append P xs ys first then)

all_weaken : (P Q : Spots → Type 0) → ((x : Spots) → P x → Q x) → (xs : List Spots) → AllByRecursion P xs → AllByRecursion Q xs
all_weaken P Q so [] all = all
all_weaken P Q so (x ∷ xs) (here, all) = (so x here, all_weaken P Q so xs all)

-- nothing passed
pub stays : (P : Spots → Type 0) (before : List Spots) → Passes P before before
stays P before = ([], sym (append-nil before), tt)

-- one stretch after another
pub goes_on : (P Q R : Spots → Type 0) (before between after : List Spots) → ((x : Spots) → P x → R x) → ((x : Spots) → Q x → R x)
    → Passes P before between → Passes Q between after → Passes R before after
goes_on P Q R before between after first then (xs, xs_is, xs_all) (ys, ys_is, ys_all) =
    (xs ++ ys, ys_is ∙ ap (λ (l : List Spots). l ++ ys) xs_is ∙ append_assoc before xs ys, all_append R xs ys (all_weaken P R first xs xs_all) (all_weaken Q R then ys ys_all))

pub weakens : (P Q : Spots → Type 0) (before after : List Spots) → ((x : Spots) → P x → Q x) → Passes P before after → Passes Q before after
weakens P Q before after so (xs, xs_is, all) = (xs, xs_is, all_weaken P Q so xs all)

-- places that keep what lay at their spots, and then have something else there
pub kept : (P : Spots → Type 0) (s left : Spots) (past later : List Spots) → later ≡ past ++ s ∷ [] → P left → Passes P (past ++ s ∷ []) (later ++ left ∷ [])
kept P s left past later is so = (left ∷ [], ap (λ (l : List Spots). l ++ left ∷ []) is, (so, tt))

-- and where nothing changed
pub unchanged : (P : Spots → Type 0) (s left : Spots) (past later : List Spots) → later ≡ past → left ≡ s → Passes P (past ++ s ∷ []) (later ++ left ∷ [])
unchanged P s left past later is same =
    ([], ap (λ (l : List Spots). l ++ left ∷ []) is ∙ ap (λ (x : Spots). past ++ x ∷ []) same ∙ sym (append-nil (past ++ s ∷ [])), tt)
