use Rattle.std.proofs.Common.{inr, refl}
use Rattle.ts_swap.proofs.Counting.{failed_from, once_from, still_at_fault}
use Rattle.ts_swap.proofs.Outcomes.{failed_with, original_or_aside, original_again, in_swap, is_replaced}
use Rattle.ts_swap.proofs.Outcomes.{still_replaced, replaced_in_swap, still_original, same_original, original_in_swap, either_original}
use Rattle.ts_swap.proofs.Stops.{set_in, given_up_in, placed_in, ended_in}
use Rattle.ts_swap.proofs.swap.move_in.Goals as goal

pub returns-in_err-put_in_place-in-Ok-clause-replaced : goal.returns-in_err-put_in_place-in-Ok-clause-replaced
returns-in_err-put_in_place-in-Ok-clause-replaced g c =
    failed_with _ _ _ c.from_residual.ensures.0
    (original_or_aside c.in-Ok.had c.args.wanted _ _ _ (c.in_err-put_in_place-in-Ok.ensures.err refl) c.requires.new c.in-Ok.ensures.ok (c.in_err-put_in_place-in-Ok.ensures.back refl))

pub returns-in_err-put_in_place-in-Ok-clause-fault : goal.returns-in_err-put_in_place-in-Ok-clause-fault
returns-in_err-put_in_place-in-Ok-clause-fault g c = λ _. inr (failed_from _ _ _ c.in-Ok.ensures.counted c.in_err-put_in_place-in-Ok.ensures.counted)

pub returns-in_err-put_in_place-in-Ok-clause-once : goal.returns-in_err-put_in_place-in-Ok-clause-once
returns-in_err-put_in_place-in-Ok-clause-once g c =
    λ _ once. original_again _ _ _ _ c.in-Ok.ensures.ok (c.in_err-put_in_place-in-Ok.ensures.once refl (once_from _ _ _ c.in-Ok.ensures.counted once))

pub returns-in_err-put_in_place-in-Ok-clause-recoverable : goal.returns-in_err-put_in_place-in-Ok-clause-recoverable
returns-in_err-put_in_place-in-Ok-clause-recoverable g c =
    in_swap _ _ (original_or_aside c.in-Ok.had c.args.wanted _ _ _ (c.in_err-put_in_place-in-Ok.ensures.err refl) c.requires.new c.in-Ok.ensures.ok (c.in_err-put_in_place-in-Ok.ensures.back refl))

pub returns-then-had-clause-replaced : goal.returns-then-had-clause-replaced
returns-then-had-clause-replaced g c = still_replaced _ _ _ _ (is_replaced _ _ _ _ c.in-Ok.ensures.ok c.in_ok-put_in_place-in-Ok.ensures.ok) c.remove.ensures.left

pub returns-then-had-clause-recoverable : goal.returns-then-had-clause-recoverable
returns-then-had-clause-recoverable g c =
    replaced_in_swap _ _ (still_replaced _ _ _ _ (is_replaced _ _ _ _ c.in-Ok.ensures.ok c.in_ok-put_in_place-in-Ok.ensures.ok) c.remove.ensures.left)

pub returns-else-had-clause-replaced : goal.returns-else-had-clause-replaced
returns-else-had-clause-replaced g c = is_replaced _ _ _ _ c.in-Ok.ensures.ok c.in_ok-put_in_place-in-Ok.ensures.ok

pub returns-else-had-clause-recoverable : goal.returns-else-had-clause-recoverable
returns-else-had-clause-recoverable g c = replaced_in_swap _ _ (is_replaced _ _ _ _ c.in-Ok.ensures.ok c.in_ok-put_in_place-in-Ok.ensures.ok)

pub returns-then-wanted-clause-replaced : goal.returns-then-wanted-clause-replaced
returns-then-wanted-clause-replaced g c = either_original _ _ (still_original _ _ _ c.requires.old (c.in-Err.ensures.err refl) c.clear_new.ensures.kept)

pub returns-then-wanted-clause-fault : goal.returns-then-wanted-clause-fault
returns-then-wanted-clause-fault g c = λ _. still_at_fault _ _ _ _ (c.in-Err.ensures.fault refl) c.clear_new.ensures.counted

pub returns-then-wanted-clause-once : goal.returns-then-wanted-clause-once
returns-then-wanted-clause-once g c = λ _ _. still_original _ _ _ c.requires.old (c.in-Err.ensures.err refl) c.clear_new.ensures.kept

pub returns-then-wanted-clause-recoverable : goal.returns-then-wanted-clause-recoverable
returns-then-wanted-clause-recoverable g c = original_in_swap _ _ (still_original _ _ _ c.requires.old (c.in-Err.ensures.err refl) c.clear_new.ensures.kept)

pub returns-else-wanted-clause-replaced : goal.returns-else-wanted-clause-replaced
returns-else-wanted-clause-replaced g c = either_original _ _ (same_original _ _ c.requires.old (c.in-Err.ensures.err refl))

pub returns-else-wanted-clause-once : goal.returns-else-wanted-clause-once
returns-else-wanted-clause-once g c = λ _ _. same_original _ _ c.requires.old (c.in-Err.ensures.err refl)

pub returns-else-wanted-clause-recoverable : goal.returns-else-wanted-clause-recoverable
returns-else-wanted-clause-recoverable g c = original_in_swap _ _ (same_original _ _ c.requires.old (c.in-Err.ensures.err refl))

pub returns-in_err-put_in_place-in-Ok-clause-stops : goal.returns-in_err-put_in_place-in-Ok-clause-stops
returns-in_err-put_in_place-in-Ok-clause-stops g c =
    placed_in c.in-Ok.had _ _ _ _ _ c.requires.old c.in-Ok.ensures.ok c.set_aside.ensures.stops c.put_in_place.ensures.stops

pub returns-then-had-clause-stops : goal.returns-then-had-clause-stops
returns-then-had-clause-stops g c =
    ended_in c.in-Ok.had _ _ _ _ _ _ _ c.requires.old c.in-Ok.ensures.ok c.in_ok-put_in_place-in-Ok.ensures.ok
    c.set_aside.ensures.stops c.put_in_place.ensures.stops c.remove.ensures.stops

pub returns-else-had-clause-stops : goal.returns-else-had-clause-stops
returns-else-had-clause-stops g c =
    placed_in c.in-Ok.had _ _ _ _ _ c.requires.old c.in-Ok.ensures.ok c.set_aside.ensures.stops c.put_in_place.ensures.stops

pub returns-then-wanted-clause-stops : goal.returns-then-wanted-clause-stops
returns-then-wanted-clause-stops g c =
    given_up_in _ _ _ _ _ c.requires.old c.set_aside.ensures.stops (c.in-Err.ensures.err refl) c.clear_new.ensures.stops

pub returns-else-wanted-clause-stops : goal.returns-else-wanted-clause-stops
returns-else-wanted-clause-stops g c = set_in _ _ _ c.requires.old c.set_aside.ensures.stops
