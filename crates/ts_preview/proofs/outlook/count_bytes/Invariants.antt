use Rattle.std.proofs.Common.{◌≡◌, ◌-◌, ◌^◌, min, sum_by, take}
use Rattle.ts_model.specs.declared.row.Row.{Row}
use Rattle.ts_model.specs.declared.row.Stamp.{Stamp}
use Rattle.ts_preview.specs.Outlooks.{file_size}
use Rattle.ts_preview.proofs.outlook.count_bytes.Given as goal

abbrev pub invariant-loop-row : goal.invariant-loop-row
invariant-loop-row l = l.bytes ≡ min (sum_by (λ (row : Row Stamp). file_size row.content) (take l.row-index l.rows)) (2 ^ 64 - 1)
