use Rattle.ts_hold.proofs.Between.{has_window}
use Rattle.ts_hold.proofs.keys.pattern_key.Goals as goal

pub returns-then-is_free-3-clause-key : goal.returns-then-is_free-3-clause-key
returns-then-is_free-3-clause-key c = has_window _ _ c.in-Some.size _ c.with.ensures.has c.in-Some.ensures
