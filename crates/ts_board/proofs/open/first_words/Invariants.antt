use Rattle.std.proofs.Common.{◌≡◌, take}
use Rattle.ts_board.specs.Terms.{opening_words}
use Rattle.ts_board.proofs.open.first_words.Given as goal

abbrev pub invariant-loop-action : goal.invariant-loop-action
invariant-loop-action l = l.words.items ≡ opening_words (take l.action-index l.plan.actions)
