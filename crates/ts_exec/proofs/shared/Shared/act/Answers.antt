use Rattle.std.proofs.Common.{◌≡◌, ℕ, sym, ap, ◌∙◌, subst}
use Rattle.ts_model.specs.Packed.{kind_lent}
use Rattle.ts_model.specs.Plans.{KindIs}
use Rattle.ts_model.specs.Runs.{Run, IsPending, IsPieceOf}
use Rattle.ts_model.specs.declared.plan.Kind.{Kind}
use Rattle.ts_model.specs.declared.plan.Kind.TheVariants.{Piece, Mark}
use Rattle.ts_model.specs.declared.plan.Plan.{Plan}
use Rattle.ts_board.specs.Calls.{HasActed, mine, seen, terms_of, work_of}
use Rattle.ts_board.specs.Terms.{IsTold, work_in}
use Rattle.ts_board.specs.declared.board.Held.{Held}
use Rattle.ts_exec.specs.Acts.{IsActed, MayGoOn}
use Rattle.ts_exec.specs.Failures.{HasRead, IsTold as IsToldWork, MayFail, Setting}
use Rattle.ts_exec.specs.Sharing.{setting_of}
use Rattle.ts_exec.proofs.Failing.{if_err_map, mark_suits, no_pieces, on_err_map, on_ok_map}
use Rattle.ts_exec.proofs.shared.Shared.act.Goals as goal

pub returns-in-Piece-clause-ok : goal.returns-in-Piece-clause-ok
returns-in-Piece-clause-ok g c =
    let j = c.args.self.now in let content = g.S.Site.content in let t = terms_of g.S.Site.content j.board.now in
    let a = c.args.held.now.action in let own = mine c.args.pass.now in let now = c.stage.new.held in let plan = j.checked.now.plan in
    let same : now.action ≡ a = c.stage.ensures.action in
    let p : Kind = Piece c.in-Piece.entry c.in-Piece.offset c.in-Piece.length c.in-Piece.path.now in
    let kind : KindIs plan a p = subst (λ (z : ℕ). KindIs plan z p) c.action.ensures (subst (λ (z : Kind). KindIs plan c.action.result z) (ap kind_lent c.in-Piece.is) c.kind.ensures) in
    on_ok_map c.stage.result (IsActed content t now) (HasActed content t own now) c.stage.ensures.ok
    (λ did. (
      did.0,
      (
        subst (λ (z : ℕ). IsPending own z) (sym same) c.requires.held,
        (λ k piece. absurd (no_pieces plan a k p kind (λ e is. cc) (subst (λ (z : ℕ). IsPieceOf plan z k) same (subst (λ (z : Plan). IsPieceOf z now.action k) j.plan piece)))),
      ),
      did.1,
      did.2,
    ))

pub returns-in-Piece-clause-err : goal.returns-in-Piece-clause-err
returns-in-Piece-clause-err g c =
    let j = c.args.self.now in let content = g.S.Site.content in let t = terms_of g.S.Site.content j.board.now in let own = mine c.args.pass.now in
    on_err_map c.stage.result (c.stage.new.held ≡ c.args.held.now) (MayGoOn content t own c.stage.new.held) c.stage.ensures.err
    (λ same. subst (λ (h : Held g.row.S.Denot). MayGoOn content t own h) (sym same) (c.requires.held, c.requires.fresh))

pub returns-in-Mark-clause-ok : goal.returns-in-Mark-clause-ok
returns-in-Mark-clause-ok g c =
    let j = c.args.self.now in let content = g.S.Site.content in let t = terms_of g.S.Site.content j.board.now in
    let a = c.args.held.now.action in let own = mine c.args.pass.now in let now = c.mark.new.self in let plan = j.checked.now.plan in
    let same : now.action ≡ a = c.mark.ensures.action in
    let p : Kind = Mark c.in-Mark.entry in
    let kind : KindIs plan a p = subst (λ (z : ℕ). KindIs plan z p) c.action.ensures (subst (λ (z : Kind). KindIs plan c.action.result z) (ap kind_lent c.in-Mark.is) c.kind.ensures) in (
      c.mark.ensures.acted,
      (
        subst (λ (z : ℕ). IsPending own z) (sym same) c.requires.held,
        (λ k piece. absurd (no_pieces plan a k p kind (λ e is. cc) (subst (λ (z : ℕ). IsPieceOf plan z k) same (subst (λ (z : Plan). IsPieceOf z now.action k) j.plan piece)))),
      ),
      mark_suits t j.checked.now now.action c.in-Mark.entry (work_of now) (j.plan, j.first_print, j.second_print) (subst (λ (z : ℕ). KindIs plan z p) (sym same) kind) (ap work_in c.mark.ensures.slot ∙ c.requires.fresh.1),
      (let told : IsTold content t a now.slot = subst (λ z. IsTold content t a z) (sym c.mark.ensures.slot) c.requires.fresh.2 in subst (λ (z : ℕ). IsTold content t z now.slot) (sym same) told),
    )

pub returns-in-Piece-clause-told : goal.returns-in-Piece-clause-told
returns-in-Piece-clause-told g c =
    let j = c.args.self.now in let plan = j.checked.now.plan in let w = work_of c.stage.new.held in
    let x : Setting = setting_of g.S.Site g.F.Folder g.G.Stop g.P.Stage j in
    let p : Kind = Piece c.in-Piece.entry c.in-Piece.offset c.in-Piece.length c.in-Piece.path.now in
    let kind : KindIs plan c.args.held.now.action p = subst (λ (z : ℕ). KindIs plan z p) c.action.ensures (subst (λ (z : Kind). KindIs plan c.action.result z) (ap kind_lent c.in-Piece.is) c.kind.ensures) in
    on_ok_map c.stage.result (HasRead x p w) (IsToldWork x (seen c.args.pass.now) c.args.held.now.action w) c.stage.ensures.read (λ h. (p, kind, h))

pub returns-in-Mark-clause-told : goal.returns-in-Mark-clause-told
returns-in-Mark-clause-told g c =
    let plan = c.args.self.now.checked.now.plan in
    let p : Kind = Mark c.in-Mark.entry in
    let kind : KindIs plan c.args.held.now.action p = subst (λ (z : ℕ). KindIs plan z p) c.action.ensures (subst (λ (z : Kind). KindIs plan c.action.result z) (ap kind_lent c.in-Mark.is) c.kind.ensures) in (p, kind, tt)

pub returns-in-Piece-clause-fault : goal.returns-in-Piece-clause-fault
returns-in-Piece-clause-fault g c =
    let j = c.args.self.now in let a = c.args.held.now.action in let r = seen c.args.pass.now in
    let x : Setting = setting_of g.S.Site g.F.Folder g.G.Stop g.P.Stage j in
    if_err_map c.stage.result (λ f. (run : Run) → MayFail x run a f) (MayFail x r a) c.stage.ensures.fault (λ f h. h r)
