use Rattle.ts_print.proofs.print.Print.replace_with.Goals as goal

pub returns-clause-ok : goal.returns-clause-ok
returns-clause-ok c = rw (← c.self.view_is) c.in_ok-replace.ensures.ok
