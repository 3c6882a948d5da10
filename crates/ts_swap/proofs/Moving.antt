-- What a move leaves.
use Rattle.std.proofs.Common.{◌≡◌, ◌≢◌, [], refl}
use Rattle.ts_model.specs.Swap.{Spot, Spots, spot, with_spot, Target, New, Old}

-- what lies at one spot, taken from there and put to another where nothing lies
pub moved : (s : Spots) (from to : Spot) → spot s from ≢ [] → spot s to ≡ []
    → with_spot (with_spot s from []) to (spot s from) ≡ with_spot (with_spot s to (spot s from)) from []
moved s Target Target there empty = absurd (there empty)
moved s New New there empty = absurd (there empty)
moved s Old Old there empty = absurd (there empty)
moved s Target New there empty = refl
moved s Target Old there empty = refl
moved s New Target there empty = refl
moved s New Old there empty = refl
moved s Old Target there empty = refl
moved s Old New there empty = refl

-- a spot that keeps what lies there
pub as_it_was : (s : Spots) (at : Spot) → s ≡ with_spot s at (spot s at)
as_it_was s Target = refl
as_it_was s New = refl
as_it_was s Old = refl
