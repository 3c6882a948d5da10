-- What a call that takes all items of a `Vec` has taken.
use Rattle.std.proofs.Common.{◌≡◌, List, sym, ◌∙◌, Vec, vec_len, Global}
use Rattle.std.specs.Iterator.{Drains}
use Rattle.std.specs.Vec.Iter.{into_iter_steps, into_iter_items, into_iter_len}
use Rattle.std.specs.declared.vec.IntoIter.{IntoIter}
use Rattle.std.proofs.lemmas.Iterator.{items_from_drains}
use Rattle.std.proofs.lemmas.Iterator.Adapters.{YieldsList-from_vec}
use Rattle.std.proofs.lemmas.List.{map-id}

-- all of them
pub drained : {A : Type 0} (v : Vec A Global) (s : IntoIter A Global) (xs : List A) → into_iter_items s ≡ v.items → into_iter_len s ≡ vec_len v → Drains (into_iter_steps {X = A} {Z = Global}) s xs → xs ≡ v.items
drained {A} v s xs items long h =
    sym (map-id xs) ∙ items_from_drains xs (h.1.0, h.1.1, λ _. (h.0, h.1.2)) (YieldsList-from_vec {Z = Global} v.items items (long ∙ v.ok.0))
