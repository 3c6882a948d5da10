use Rattle.ts_print.proofs.print.Print.sub_eq.Goals as goal

pub returns : goal.returns
returns c = rw (← c.self.view_is, ← c.other.view_is) c.sub_eq.ensures
