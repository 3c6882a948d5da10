use Rattle.std.proofs.Common.{◌≡◌, ◌∙◌, ◌+◌, ap, sym, subst, arith}
use Rattle.ts_model.specs.declared.step.Work.TheVariants.{Staged}
use Rattle.ts_model.specs.Plans.{KindIs}
use Rattle.ts_model.specs.Runs.{Run}
use Rattle.ts_model.specs.declared.plan.Kind.TheVariants.{Piece}
use Rattle.ts_folder.specs.declared.folder.Call.TheVariants.{Read}
use Rattle.ts_stage.specs.Stagings.{Staging}
use Rattle.ts_check.specs.Checkup.{snapshot_of}
use Rattle.ts_board.specs.Calls.{terms_of, work_of}
use Rattle.ts_exec.specs.Faults.{of_folder, of_stage}
use Rattle.ts_exec.specs.Failures.{MayFail, PieceFails}
use Rattle.ts_exec.specs.Sharing.{setting_of}
use Rattle.ts_exec.specs.declared.fault.ActFault.{ActFault}
use Rattle.ts_exec.specs.declared.fault.ActFault.TheVariants as fault
use Rattle.ts_exec.proofs.Failing.{exit_maps, piece_copied, piece_small, read_fails, read_short, staged_suits, store_fails}
use Rattle.ts_exec.proofs.shared.Shared.stage.Goals as goal

pub source-requires-after_bounds : goal.source-requires-after_bounds
source-requires-after_bounds g c κs within =
    let j = c.args.self.now in
    piece_copied (snapshot_of j.checked.now) j.checked.now.plan j.valid c.args.held.now.action c.args.entry c.args.offset c.args.length c.args.path.now c.requires.kind

pub overflow_cast-length : goal.overflow_cast-length
overflow_cast-length g c =
    let j = c.args.self.now in
    let small = piece_small (snapshot_of j.checked.now) j.checked.now.plan j.valid c.args.held.now.action c.args.entry c.args.offset c.args.length c.args.path.now c.requires.kind in
    omega arith

pub returns-in_err-bytes-clause-fault : goal.returns-in_err-bytes-clause-fault
returns-in_err-bytes-clause-fault g c =
    let j = c.args.self.now in let s = c.source.ensures in let p = c.args.path.now in let end = c.args.offset + c.args.length in
    let x = setting_of g.S.Site g.F.Folder g.G.Stop g.P.Stage j in
    exit_maps c.from_residual.result (λ f. f ≡ of_folder c.in_err-bytes.field-0.0) (λ f. (r : Run) → MayFail x r c.args.held.now.action f) c.from_residual.ensures.1
    (λ f same r. (
      Piece c.args.entry c.args.offset c.args.length p,
      c.requires.kind,
      (
        s.0,
        s.1,
        s.2,
        subst (λ (z : ActFault). PieceFails (x.lets s.1 p) x.jams (x.tells s.1) end p z) (sym same)
            (subst (λ (z : g.row.F.Denot). PieceFails (g.F.Folder.lets z Read p) (g.P.Stage.fails j.stage.now) (g.F.Folder.tells z) end p (of_folder c.in_err-bytes.field-0.0)) s.3
            (read_fails (g.F.Folder.lets c.source.result.now Read p) (g.P.Stage.fails j.stage.now) (g.F.Folder.tells c.source.result.now) end p c.in_err-bytes.field-0.0 c.in_err-bytes.ensures.fault)),
      ),
    ))

pub returns-then-len-length-clause-fault : goal.returns-then-len-length-clause-fault
returns-then-len-length-clause-fault g c = λ r.
    let j = c.args.self.now in let s = c.source.ensures in let p = c.args.path.now in (
      Piece c.args.entry c.args.offset c.args.length p,
      c.requires.kind,
      (
        s.0,
        s.1,
        s.2,
        subst (λ (z : g.row.F.Denot). PieceFails (g.F.Folder.lets z Read p) (g.P.Stage.fails j.stage.now) (g.F.Folder.tells z) (c.args.offset + c.args.length) p fault.Misfit) s.3
            (read_short (g.F.Folder.lets c.source.result.now Read p) (g.P.Stage.fails j.stage.now) (g.F.Folder.tells c.source.result.now) c.args.offset c.args.length p c.in_ok-bytes.bytes.items (λ e. c.if-len-length.true (omega arith)) c.in_ok-bytes.ensures.told),
      ),
    )

pub returns-in_default-clause-fault : goal.returns-in_default-clause-fault
returns-in_default-clause-fault g c = λ r. let s = c.source.ensures in (Piece c.args.entry c.args.offset c.args.length c.args.path.now, c.requires.kind, (s.0, s.1, s.2, tt))

pub returns-in_err-piece-clause-fault : goal.returns-in_err-piece-clause-fault
returns-in_err-piece-clause-fault g c =
    let j = c.args.self.now in let s = c.source.ensures in let p = c.args.path.now in let end = c.args.offset + c.args.length in
    let x = setting_of g.S.Site g.F.Folder g.G.Stop g.P.Stage j in
    exit_maps c.from_residual-in_err-piece.result (λ f. f ≡ of_stage c.in_err-piece.field-0.0) (λ f. (r : Run) → MayFail x r c.args.held.now.action f) c.from_residual-in_err-piece.ensures.1
    (λ f same r. (
      Piece c.args.entry c.args.offset c.args.length p,
      c.requires.kind,
      (
        s.0,
        s.1,
        s.2,
        subst (λ (z : ActFault). PieceFails (x.lets s.1 p) x.jams (x.tells s.1) end p z) (sym same)
            (store_fails (x.lets s.1 p) x.jams (x.tells s.1) end p c.in_err-piece.field-0.0 c.in_err-piece.ensures.device),
      ),
    ))

pub stage-requires-clause-site : goal.stage-requires-clause-site
stage-requires-clause-site g c κs within = c.requires.site.1 c.args.entry c.args.offset c.args.length c.args.path.now c.requires.kind

pub returns-clause-ok : goal.returns-clause-ok
returns-clause-ok g c =
    let j = c.args.self.now in let content = g.S.Site.content in let t = terms_of g.S.Site.content j.board.now in
    let same = c.stage.ensures.action in (
      c.stage.ensures.acted,
      staged_suits t j.checked.now c.stage.new.self.action c.args.entry c.args.offset c.args.length c.args.path.now (work_of c.stage.new.self) c.in_ok-bytes.bytes.items (j.plan, j.first_print, j.second_print)
          (subst (λ z. KindIs j.checked.now.plan z (Piece c.args.entry c.args.offset c.args.length c.args.path.now)) (sym same) c.requires.kind) (c.stage.ensures.work ∙ ap (λ (p : Staging). Staged p.bytes) c.replace-no_bytes.ensures.after ∙ ap Staged c.in_ok-piece.ensures.bytes) (let h = c.if-len-length.false in omega arith),
      c.stage.ensures.told t c.requires.fresh.2,
    )
