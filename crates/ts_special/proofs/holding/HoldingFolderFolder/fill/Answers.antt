use Rattle.ts_special.proofs.holding.HoldingFolderFolder.fill.Goals as goal

pub returns-in-Some-clause-fault : goal.returns-in-Some-clause-fault
returns-in-Some-clause-fault g c = λ p opened. c.fill.ensures.fault p tt
