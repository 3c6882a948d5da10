use Rattle.ts_explain.proofs.sentence.push_sentence.Goals as goal

pub returns-in-Own : goal.returns-in-Own
returns-in-Own c = rw c.in-Own.is c.push_because.ensures

pub returns-in-Device : goal.returns-in-Device
returns-in-Device c = rw c.in-Device.is c.push_because-in-Device.ensures

pub returns-in-New : goal.returns-in-New
returns-in-New c = rw c.in-New.is c.push_new.ensures

pub returns-in-Emptied : goal.returns-in-Emptied
returns-in-Emptied c = rw c.in-Emptied.is c.push_emptied.ensures
