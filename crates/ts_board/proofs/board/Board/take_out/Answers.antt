use Rattle.std.proofs.Common.{◌≡◌, ◌<◌, suc, [], ◌∷◌, sym, ap, ◌∙◌, subst, arith}
use Rattle.atomic_table.specs.Table.{step, rest, Allows}
use mathlib.Core.Option.{none}
use Rattle.ts_model.specs.declared.step.Step.TheVariants.{Take}
use Rattle.ts_board.specs.declared.law.View.{View}
use Rattle.ts_board.specs.declared.law.Slot.TheVariants.{Empty}
use Rattle.ts_board.specs.Runs.{taken}
use Rattle.ts_board.specs.Terms.{work_in, IsTold}
use Rattle.ts_board.specs.Keys.{terms_of_key}
use Rattle.ts_board.specs.Kept.{Kept, mine, gives_back}
use Rattle.ts_board.proofs.Steps.{taking, giving_taken, taken_last, carried_makes}
use Rattle.ts_board.proofs.board.Board.take_out.Goals as goal

pub fetch_or-requires : goal.fetch_or-requires
fetch_or-requires g c =
    let b = c.args.self.now.table.shared in let p = c.args.pass.now in let content = g.S.Site.content in
    let at = taking work_in (IsTold content) (terms_of_key content b.key) b.table_id.slots p.seat.id p.seat.me c.args.c c.args.k c.requires.pass.1 (omega arith) p.live p.empty c.requires.held.0 c.requires.piece c.requires.untaken in
    (c.requires.pass.0, omega arith, rw c.requires.picked at at)

pub load-requires : goal.load-requires
load-requires g c =
    let b = c.args.self.now.table.shared in let p = c.args.pass.now in let content = g.S.Site.content in let k = c.args.k in
    let told = c.fetch_or.ensures in let t = told.2 in let ex = c.exchange-slot.ensures in
    let v = c.fetch_or.new.seat.me.0 in
    let has : v.carry ≡ suc k = ap (λ (u : View). u.carry) t.1 in
    let out : 0 < taken k (mine v) = subst (λ (u : View). 0 < taken k (mine u)) (sym t.1) (taken_last (mine p.seat.me.0) (mine t.0) g.N.Actor.action k t.2.2) in
    let eq : c.exchange-slot.new.seat.me ≡ (v, (k, Empty) ∷ []) = ex.3 ∙ (λ x. (v, (k, Empty) ∷ rest (t.3.2 x))) ∙ (λ x. (v, (k, Empty) ∷ p.free x)) in (
      ex.0 ∙ (told.0 ∙ c.requires.pass.0),
      omega arith,
      subst (λ m. Allows (Kept work_in (IsTold content) (terms_of_key content b.key)) b.table_id.slots c.exchange-slot.new.seat.id m k (λ n. n) (gives_back (step b.table_id.slots k 0 0 none) m)) (sym eq)
          (giving_taken work_in (IsTold content) (terms_of_key content b.key) b.table_id.slots c.exchange-slot.new.seat.id v k (omega arith) has out),
    )

pub returns-clause-taken : goal.returns-clause-taken
returns-clause-taken g c =
    let p = c.args.pass.now in let content = g.S.Site.content in let k = c.args.k in
    let t = c.fetch_or.ensures.2 in let ex = c.exchange-slot.ensures in let ld = c.load.ensures in
    let u = c.load.new.seat.me.0 in
    let same : u.sight ≡ t.0.sight = ap (λ (x : View). x.sight) ld.2.1 ∙ (λ x. (ex.3 x).0.sight) ∙ ap (λ (x : View). x.sight) t.1 in
    rw c.requires.picked (carried_makes (terms_of_key content c.args.self.now.table.shared.key) p.seat.me.0 t.0 u (Take g.N.Actor.action k ∷ []) p.seat.me.0.sight.claims c.requires.pass.1 same t.2)
