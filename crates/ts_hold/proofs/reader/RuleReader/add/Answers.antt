use Rattle.std.proofs.Common.{◌≡◌, length, sym, ap, ◌∙◌, arith}
use Rattle.std.specs.List.{insert}
use Rattle.ts_hold.proofs.Lookups.{inserted, keys_push, on_err, on_ok, order_with, order_with_none, popped, rules_push}
use Rattle.ts_hold.proofs.reader.RuleReader.add.Goals as goal

pub invariant_of-self-then-is_err : goal.invariant_of-self-then-is_err
invariant_of-self-then-is_err c =
    let rules_are = popped _ _ _ _ c.pop.result _ _ c.in_ok-push.ensures.items c.pop.ensures.items (sym c.push.new.self.ok.0) c.pop.ensures.cases in
    let keys_are = on_err _ _ c.if-is_err.ensures.value c.push-2.ensures.kept in
    rw (rules_are, keys_are, c.reserve.ensures.items) c.self.invariant

pub invariant_of-self-in-Some : goal.invariant_of-self-in-Some
invariant_of-self-in-Some c =
    let keys_are = on_ok _ _ c.if-is_err.ensures.value c.push-2.ensures.ok in
    let place = rw (c.deref.ensures.value, c.deref-2.ensures.value) at c.in-Some.ensures in
    let order_is : c.insert.new.self.items ≡ insert c.self.inside.order.items c.in-Some.place (length c.self.inside.rules.items) =
    inserted c.insert.result _ _ _ (c.insert.ensures.succeeds (omega (arith, c.in_ok-reserve.ensures.ok))) c.insert.ensures.items
    ∙ ap (λ z. insert z c.in-Some.place c.len-number.result) c.reserve.ensures.items
    ∙ ap (λ z. insert c.self.inside.order.items c.in-Some.place z) (c.len-number.ensures ∙ c.self.inside.rules.ok.0) in
    rw (c.in_ok-push.ensures.items, keys_are, order_is) (record {
      lawful = rules_push _ _ c.self.invariant.lawful c.requires.lawful (λ e. omega (arith, c.requires.room, e, ap length c.self.view_is));
      with_keys = keys_push _ _ _ _ _ _ c.rule_key-key.ensures.kept c.self.invariant.with_keys c.rule_key-key.ensures.key;
      in_order = order_with _ _ _ _ c.self.invariant.in_order place;
    })

pub invariant_of-self-in_default : goal.invariant_of-self-in_default
invariant_of-self-in_default c =
    let keys_are = on_ok _ _ c.if-is_err.ensures.value c.push-2.ensures.ok in
    let there = rw (c.in_default.is, c.deref.ensures.value, c.deref-2.ensures.value) at c.place_for-place.ensures in
    rw (c.in_ok-push.ensures.items, keys_are, c.reserve.ensures.items) (record {
      lawful = rules_push _ _ c.self.invariant.lawful c.requires.lawful (λ e. omega (arith, c.requires.room, e, ap length c.self.view_is));
      with_keys = keys_push _ _ _ _ _ _ c.rule_key-key.ensures.kept c.self.invariant.with_keys c.rule_key-key.ensures.key;
      in_order = order_with_none _ _ _ c.self.invariant.in_order there;
    })
