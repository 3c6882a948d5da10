use Rattle.ts_scan.proofs.opened.Parent.+open.Given as goal

abbrev pub decreases-open : goal.decreases-open
decreases-open g l = l.tries
