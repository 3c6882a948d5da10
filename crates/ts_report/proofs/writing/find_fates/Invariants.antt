use Rattle.std.proofs.Common.{◌≡◌, take}
use Rattle.ts_report.specs.Reports.{fates_from}
use Rattle.ts_report.proofs.writing.find_fates.Given as goal

-- the actions so far are looked at
abbrev pub invariant-loop-i : goal.invariant-loop-i
invariant-loop-i g l = l.fates.items ≡ fates_from (g.E.Results.endings l.results) (take l.i l.actions) 0 l.entries
