use Rattle.std.proofs.Common.{◌≡◌, ◌+◌, ◌≤◌, take, vec_len}
use Rattle.ts_folder.proofs.folder.make_room.Given as goal

-- what stood there before stands in front, and the rest is still to come
abbrev pub invariant-loop-missing : goal.invariant-loop-missing
invariant-loop-missing l =
    (vec_len l.bytes + l.missing ≡ vec_len l.fn.bytes + l.count)
    × (l.missing ≤ l.count)
    × (take (vec_len l.fn.bytes) l.bytes.items ≡ l.fn.bytes.items)

abbrev pub decreases-loop-missing : goal.decreases-loop-missing
decreases-loop-missing l = l.missing
