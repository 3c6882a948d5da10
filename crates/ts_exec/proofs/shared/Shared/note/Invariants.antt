use Rattle.std.proofs.Common.{◌≡◌, ℕ, length, take}
use Rattle.ts_model.specs.Runs.{Run}
use Rattle.ts_exec.specs.Tidy.{HasFault, IsListed, MayBe}
use Rattle.ts_exec.specs.Sharing.{setting_of}
use Rattle.ts_exec.proofs.shared.Shared.note.Given as goal

-- the failures so far are noted
abbrev pub invariant-loop-failure : goal.invariant-loop-failure
invariant-loop-failure g l =
    let x = setting_of g.S.Site g.F.Folder g.G.Stop g.P.Stage l.self in
    (length l.faults.items ≡ length l.fn.faults.items)
    × ((r : Run) → MayBe x r l.failures → (i : ℕ) → HasFault x r l.fn.faults.items i → HasFault x r l.faults.items i)
    × ((r : Run) → MayBe x r l.failures → (i : ℕ) → IsListed i (take l.failure-index l.failures) → HasFault x r l.faults.items i)
