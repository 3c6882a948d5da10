use Rattle.std.proofs.Common.{refl, rules, sym, ◌∙◌, subst}
use Rattle.std.proofs.lemmas.Bool.{false≢true}
use Rattle.ts_model.specs.Holds.{Names}
use Rattle.ts_hold.specs.Keys.{AreKeys, NoEndNames}
use Rattle.ts_hold.proofs.Naming.{by_middle, root_unnamed}
use Rattle.ts_hold.proofs.holds.Holds.holds.Goals as goal
use Rattle.ts_hold.proofs.holds.Holds.holds.Goals.{then-named_by_front, else-named_by_front}

pub returns-then-path_named : goal.returns-then-path_named
returns-then-path_named c = let named = subst (λ z. Names z c.args.path.now) c.rules-rules.ensures.rules c.if-path_named.ensures in (λ _. named, λ _. refl)

pub returns-in_default : goal.returns-in_default
returns-in_default c = (λ e. absurd (false≢true e), λ named. absurd (root_unnamed c.args.self.now c.rules-rules.ensures.lawful (subst (λ z. Names c.args.self.now z) c.in_default.ensures named)))

pub returns-then-named_by_end : goal.returns-then-named_by_end
returns-then-named_by_end c =
    let named : Names c.rules-rules.result.now c.args.path.now = elim c.if-named_by_front.branch [
      | then-named_by_front w ↦ w.if-named_by_front.ensures
      | else-named_by_front w ↦ rw (sym w.value-is ∙ c.if-named_by_end.true) at w.named_by_end.ensures
    ] in
    (λ _. subst (λ z. Names z c.args.path.now) c.rules-rules.ensures.rules named, λ _. c.if-named_by_end.true)

pub returns-else-named_by_end : goal.returns-else-named_by_end
returns-else-named_by_end c =
    let rules_are = c.rules-rules.ensures.rules in
    let keys = c.self.inside.index in
    let are = subst (λ z. AreKeys c.self.inside.sizes z keys) (c.self.view_is ∙ sym rules_are) c.self.invariant.with_keys in
    elim c.if-named_by_front.branch [
      | then-named_by_front w ↦ absurd (false≢true (sym c.if-named_by_end.false ∙ w.value-is ∙ w.if-named_by_front.true))
      | else-named_by_front w ↦
          (let no_end : NoEndNames c.rules-rules.result.now keys c.in-Some.name.now c.args.path.now = rw (sym w.value-is ∙ c.if-named_by_end.false) at w.named_by_end.ensures in
          rw (← rules_are)
          (by_middle c.self.inside.sizes c.rules-rules.result.now keys c.in-Some.ensures.0 c.in-Some.name.now c.args.path.now _ are c.in-Some.ensures.1 c.if-path_named.ensures w.if-named_by_front.ensures no_end (search rules)))
    ]
