-- What the board of a key was opened for.
use Rattle.std.specs.Prelude.{ℕ, List, Option}
use Rattle.ts_model.specs.Trees.{Listing}
use Rattle.ts_board.specs.declared.law.Key.{Key}
use Rattle.ts_board.specs.declared.law.Terms.{Terms}
use Rattle.ts_board.specs.Terms.{terms_with}

abbrev pub terms_of_key : {S : Type 0} → (S → Option (Listing (List ℕ))) → Key S → Terms
terms_of_key content key = terms_with content key.plan.value key.first.value key.second.value key.slots.value.items
