use Rattle.ts_hold.proofs.Lookups.{has_end, has_front}
use Rattle.ts_hold.proofs.keys.outer_keys.Goals as goal

pub returns-then-before-after : goal.returns-then-before-after
returns-then-before-after c = record {
  most = λ sizes. has_end sizes _ _ _ c.end_of-end.ensures;
  other = λ sizes. has_front sizes _ _ _ c.front_of-front.ensures;
}

pub returns-else-before-after : goal.returns-else-before-after
returns-else-before-after c = record {
  most = λ sizes. has_front sizes _ _ _ c.front_of-front.ensures;
  other = λ sizes. has_end sizes _ _ _ c.end_of-end.ensures;
}
