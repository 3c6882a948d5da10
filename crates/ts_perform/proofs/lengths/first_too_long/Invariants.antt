use Rattle.std.proofs.Common.{◌≡◌, drop, find, length, map}
use Rattle.ts_perform.specs.Lengths.{is_past, spot_bytes}
use Rattle.ts_perform.proofs.lengths.first_too_long.Given as goal

abbrev pub invariant-loop-row : goal.invariant-loop-row
invariant-loop-row l =
    find (is_past (length l.root) (spot_bytes l.number) l.entry) (map (λ row. row.path) l.rows)
    ≡ find (is_past (length l.root) (spot_bytes l.number) l.entry) (map (λ row. row.path) (drop l.row-index l.rows))
