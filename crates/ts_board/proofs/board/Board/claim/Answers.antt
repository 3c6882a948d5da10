use Rattle.std.proofs.Common.{◌≡◌, suc, [], ◌∷◌, refl, sym, ap, ◌∙◌, subst, arith}
use Rattle.atomic_table.specs.Table.{step, rest, Allows}
use mathlib.Core.Option.{none}
use Rattle.ts_model.specs.Runs.{IsPending}
use Rattle.ts_model.specs.declared.step.Step.TheVariants.{Claim}
use Rattle.ts_board.specs.declared.law.Sight.{Sight}
use Rattle.ts_board.specs.Runs.{steps_by}
use Rattle.ts_board.specs.declared.law.View.{View}
use Rattle.ts_board.specs.declared.law.Slot.{Slot}
use Rattle.ts_board.specs.declared.law.Slot.TheVariants.{Empty}
use Rattle.ts_board.specs.declared.law.Terms.{Terms}
use Rattle.ts_board.specs.Terms.{work_in, IsTold, IsSited}
use Rattle.ts_board.specs.Keys.{terms_of_key}
use Rattle.ts_board.specs.Kept.{Kept, mine, gives_back}
use Rattle.ts_board.proofs.Sites.{same_front, sited_still}
use Rattle.ts_board.proofs.Steps.{claiming, giving_held, carried_makes}
use Rattle.ts_board.proofs.board.Board.claim.Goals as goal

pub compare_exchange-found-requires : goal.compare_exchange-found-requires
compare_exchange-found-requires g c =
    let b = c.args.self.now.table.shared in let p = c.args.pass.now in let content = g.S.Site.content in
    (c.requires.pass.0, omega arith, claiming work_in (IsTold content) (terms_of_key content b.key) b.table_id.slots p.seat.id p.seat.me c.args.i c.requires.pass.1 (omega arith) (omega arith) p.live p.empty)

pub load-requires : goal.load-requires
load-requires g c =
    let b = c.args.self.now.table.shared in let p = c.args.pass.now in let content = g.S.Site.content in let i = c.args.i in
    let told = c.compare_exchange-found.ensures in let t = told.2.0 c.if-found-eq0.true in let ex = c.exchange-slot.ensures in
    let v = c.compare_exchange-found.new.seat.me.0 in
    let has : v.carry ≡ suc i = ap (λ (u : View). u.carry) t.1 in
    let held : IsPending (mine v) i = subst (λ (u : View). IsPending (mine u) i) (sym t.1) t.3 in
    let eq : c.exchange-slot.new.seat.me ≡ (v, (i, Empty) ∷ []) = ex.3 ∙ (λ k. (v, (i, Empty) ∷ rest (t.4.1 k))) ∙ (λ k. (v, (i, Empty) ∷ p.free k)) in (
      ex.0 ∙ (told.0 ∙ c.requires.pass.0),
      omega arith,
      subst (λ m. Allows (Kept work_in (IsTold content) (terms_of_key content b.key)) b.table_id.slots c.exchange-slot.new.seat.id m i (λ n. n) (gives_back (step b.table_id.slots i 0 0 none) m)) (sym eq)
          (giving_held work_in (IsTold content) (terms_of_key content b.key) b.table_id.slots c.exchange-slot.new.seat.id v i (omega arith) has held),
    )

pub returns-then-found-eq0-clause-won : goal.returns-then-found-eq0-clause-won
returns-then-found-eq0-clause-won g c =
    let p = c.args.pass.now in let content = g.S.Site.content in let i = c.args.i in
    let told = c.compare_exchange-found.ensures in let t = told.2.0 c.if-found-eq0.true in let ex = c.exchange-slot.ensures in let ld = c.load.ensures in
    let u = c.load.new.seat.me.0 in
    let same : u.sight ≡ t.0.sight = ap (λ (x : View). x.sight) ld.2.1 ∙ (λ k. (ex.3 k).0.sight) ∙ ap (λ (x : View). x.sight) t.1 in
    (refl, carried_makes (terms_of_key content c.args.self.now.table.shared.key) p.seat.me.0 t.0 u (Claim i ∷ []) (i ∷ p.seat.me.0.sight.claims) c.requires.pass.1 same t.2, subst (λ (s : Sight). IsPending (steps_by s.claims s.seen) i) (sym same) t.3)

pub returns-then-found-eq0-clause-site : goal.returns-then-found-eq0-clause-site
returns-then-found-eq0-clause-site g c =
    let b = c.args.self.now in let p = c.args.pass.now in let content = g.S.Site.content in let i = c.args.i in
    let t = c.compare_exchange-found.ensures.2.0 c.if-found-eq0.true in let ex = c.exchange-slot.ensures in
    let same = same_front i t.4.0 c.exchange-slot.result p.seat.me.1 (rest c.compare_exchange-found.new.seat.me.1) (sym t.4.1 ∙ ex.2) in
    let plan = b.table.shared.key.plan.value in
    subst (λ (z : Slot g.row.S.Denot). IsSited plan i z) same
    (sited_still content plan b.table.shared.key.slots.value.items i t.4.0 b.sited t.4.2 (subst (λ (x : Terms). IsTold content x i t.4.0) c.requires.pass.1 t.4.3))
