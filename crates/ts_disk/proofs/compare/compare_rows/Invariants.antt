use Rattle.std.proofs.Common.{◌≡◌, ◌≢◌, length, take, IfSome}
use Rattle.std.specs.List.{AllByRecursion}
use Rattle.ts_model.specs.Texts.{IsTreeBody}
use Rattle.ts_model.specs.Trees.{at}
use Rattle.ts_model.specs.declared.row.Content.TheVariants.{Absent}
use Rattle.ts_disk.specs.Compared.{Has}
use Rattle.ts_disk.proofs.compare.compare_rows.Given as goal

-- the rows so far are there, and each has its look
abbrev pub invariant-loop-row : goal.invariant-loop-row
invariant-loop-row g l =
    IfSome (g.F.Folder.tells l.folder) (λ tree. AllByRecursion (Has (at tree) l.rows) (take l.row-index l.rows))
    × (length l.looks.items ≡ l.row-index)
    × AllByRecursion (λ row. row.content ≢ Absent → IfSome (g.F.Folder.tells l.folder) IsTreeBody) (take l.row-index l.rows)
