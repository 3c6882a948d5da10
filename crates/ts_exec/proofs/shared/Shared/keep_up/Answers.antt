use Rattle.std.proofs.Common.{subst}
use Rattle.ts_board.specs.Calls.{seen}
use Rattle.ts_exec.specs.Stores.{StaysKept}
use Rattle.ts_exec.proofs.Stores.{checkpoint_kept, stays_same}
use Rattle.ts_exec.proofs.shared.Shared.keep_up.Goals as goal

pub returns-in-Ok-clause-kept : goal.returns-in-Ok-clause-kept
returns-in-Ok-clause-kept g c =
    let k = c.args.self.now.checked.now in let first = seen c.args.pass.now in let then = seen c.checkpoint.new.pass in
    subst (λ keeper. StaysKept k first (g.K.Keeper.kept keeper) then (g.K.Keeper.kept c.keep.new.self.keeper)) c.is_due.ensures.keeper
    (checkpoint_kept k first then c.checkpoint.ensures.looked.0 c.in-Ok.archive c.in-Ok.ensures.part (g.K.Keeper.kept c.is_due.new.self.keeper) (g.K.Keeper.kept c.keep.new.self.keeper) c.keep.ensures)

pub returns-in_default-clause-kept : goal.returns-in_default-clause-kept
returns-in_default-clause-kept g c =
    let k = c.args.self.now.checked.now in let first = seen c.args.pass.now in let then = seen c.checkpoint.new.pass in
    subst (λ keeper. StaysKept k first (g.K.Keeper.kept keeper) then (g.K.Keeper.kept c.is_due.new.self.keeper)) c.is_due.ensures.keeper
    (stays_same k first then c.checkpoint.ensures.looked.0 (g.K.Keeper.kept c.is_due.new.self.keeper))
