use Rattle.std.proofs.Common.{◌≡◌, suc, [], ◌∷◌, refl, sym, ap, ◌∙◌, subst, arith, bit_or}
use Rattle.atomic_table.specs.Table.{step, rest, Allows}
use mathlib.Core.Option.{none}
use Rattle.ts_model.specs.declared.step.Step.TheVariants.{Act, Done}
use Rattle.ts_board.specs.declared.law.View.{View}
use Rattle.ts_board.specs.Terms.{work_in, IsTold}
use Rattle.ts_board.specs.Keys.{terms_of_key}
use Rattle.ts_board.specs.Kept.{Kept, carrying, does}
use Rattle.ts_board.proofs.Steps.{carried_makes, fetching, doing}
use Rattle.ts_board.proofs.board.Board.done.Goals as goal

pub load-requires : goal.load-requires
load-requires g c =
    let b = c.args.self.now.table.shared in let p = c.args.pass.now in let content = g.S.Site.content in
    (c.requires.pass.0, omega arith, fetching work_in (IsTold content) (terms_of_key content b.key) b.table_id.slots p.seat.id p.seat.me c.args.held.action (omega arith) (omega arith) p.empty c.requires.acted.1.0)

pub fetch_or-requires : goal.fetch_or-requires
fetch_or-requires g c =
    let b = c.args.self.now.table.shared in let p = c.args.pass.now in let content = g.S.Site.content in let i = c.args.held.action in let y = c.args.held.slot in
    let terms = terms_of_key content b.key in
    let ld = c.load.ensures in let ex = c.exchange-empty.ensures in
    let v = carrying (suc i) p.seat.me.0 in
    let eq : c.exchange-empty.new.seat.me ≡ (v, (i, y) ∷ []) = ex.3 ∙ (λ k. (ld.2.1 k, (i, y) ∷ rest (ld.2.0 k))) ∙ (λ k. (v, (i, y) ∷ p.free k)) in (
      ex.0 ∙ (ld.0 ∙ c.requires.pass.0),
      omega arith,
      subst (λ m. Allows (Kept work_in (IsTold content) terms) b.table_id.slots c.exchange-empty.new.seat.id m i (λ n. bit_or n 8589934592) (does work_in (step b.table_id.slots i 8589934592 0 none) m)) (sym eq)
          (doing work_in (IsTold content) terms b.table_id.slots c.exchange-empty.new.seat.id v i y c.requires.pass.1 p.live refl c.requires.acted.1.0 c.requires.acted.1.1 c.requires.acted.2 c.requires.acted.3),
    )

pub returns-clause-done : goal.returns-clause-done
returns-clause-done g c =
    let b = c.args.self.now.table.shared in let p = c.args.pass.now in let content = g.S.Site.content in let i = c.args.held.action in let y = c.args.held.slot in
    let ld = c.load.ensures in let ex = c.exchange-empty.ensures in
    let eq : c.exchange-empty.new.seat.me ≡ (carrying (suc i) p.seat.me.0, (i, y) ∷ []) = ex.3 ∙ (λ k. (ld.2.1 k, (i, y) ∷ rest (ld.2.0 k))) ∙ (λ k. (carrying (suc i) p.seat.me.0, (i, y) ∷ p.free k)) in
    let d = subst (λ m. does work_in (step b.table_id.slots i 8589934592 0 none) m c.fetch_or.result c.fetch_or.new.seat.me) eq c.fetch_or.ensures.2 in
    carried_makes (terms_of_key content b.key) (carrying (suc i) p.seat.me.0) d.1.0 c.fetch_or.new.seat.me.0 (Act i (work_in y) ∷ Done i ∷ []) p.seat.me.0.sight.claims c.requires.pass.1 (ap (λ (x : View). x.sight) d.1.1) d.1.2
