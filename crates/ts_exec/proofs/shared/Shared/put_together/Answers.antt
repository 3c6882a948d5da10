use Rattle.std.proofs.Common.{List, sym, subst}
use Rattle.ts_exec.specs.Tidy.{IsListed, MayBe}
use Rattle.ts_board.specs.Calls.{terms_of}
use Rattle.ts_exec.specs.Sharing.{setting_of}
use Rattle.ts_exec.specs.declared.crew.Failure.{Failure}
use Rattle.ts_exec.proofs.Teams.{joined_notes}
use Rattle.ts_exec.proofs.shared.Shared.put_together.Goals as goal

pub returns-clause-notes : goal.returns-clause-notes
returns-clause-notes g c =
    let j = c.args.self.now in let t = terms_of g.S.Site.content j.board.now in
    let x = setting_of g.S.Site g.F.Folder g.G.Stop g.P.Stage j in
    joined_notes j.board.now.table.shared.table_id t x c.args.all.pass c.args.worked.pass c.join.result c.args.all.faults.items c.note.new.faults.items c.args.worked.failures.items c.requires.notes c.requires.list c.join.ensures.pass c.join.ensures.this c.join.ensures.that
    c.join.ensures.mine c.note.ensures.room (λ r may. c.note.ensures.kept r (subst (λ (z : List Failure). MayBe x r z) (sym c.as_slice.ensures.value) may))
    (λ r may i l. c.note.ensures.noted r (subst (λ (z : List Failure). MayBe x r z) (sym c.as_slice.ensures.value) may) i (subst (λ (z : List Failure). IsListed i z) (sym c.as_slice.ensures.value) l))
