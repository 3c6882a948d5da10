use Rattle.std.proofs.Common.{ℕ, rules, ◌∙◌}
use Rattle.std.proofs.lemmas.Fn.{always_returns_same}
use Rattle.ts_check.proofs.InOrder.{search_tells}
use Rattle.ts_check.specs.Pieces.{Place, place_cmp}
use Rattle.ts_check.proofs.standing.stands_at.Goals as goal

pub returns : goal.returns
returns c =
    let facts = c.binary_search_by.ensures in
    c.is_ok.ensures.value ∙ search_tells c.args.staged.now c.requires c.args.place.now _ facts.bound (facts.position (λ (x : Place × ℕ). place_cmp x.0 c.args.place.now) (always_returns_same _ _ _ (λ a r f k. search rules)))
