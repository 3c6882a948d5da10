use Rattle.std.proofs.Common.{[], ◌∷◌, ◌++◌, drop, length, sym, ap, ap₂, ◌∙◌, arith, append_assoc, append-nil}
use Rattle.std.proofs.lemmas.List.{nil_from_length}
use Rattle.ts_table.specs.Slots.{rerouted}
use Rattle.ts_table.proofs.frame.moved.Goals as goal

pub loop-path-preserved : goal.loop-path-preserved
loop-path-preserved g c =
    let out = c.loop-path.out.items in
    let more = c.next.new.self.rest.items in
    let left = c.pop_front.new.self.items in
    let next = c.in-Some.ensures.steps.0 in
    let front = c.in-Some-pop_front.ensures.items in
    let long = ap length next in
    let shorter = c.in-Some-pop_front.ensures.cases in
    record {
      moved =
          ap (λ z. z ++ rerouted more left) c.in-Ok.ensures.items
          ∙ append_assoc out (record { path = c.in-Some.path; content = c.in-Some-pop_front.row.content } ∷ []) (rerouted more left)
          ∙ ap₂ (λ x y. out ++ rerouted x y) (sym next) (sym front) ∙ c.loop-path.invariant.moved;
      left = ap₂ (λ x y. drop (length x) y) (sym next) (sym front) ∙ c.loop-path.invariant.left;
      enough = (let a = c.loop-path.invariant.enough in omega arith);
      fewer = (let a = c.loop-path.invariant.fewer in omega arith);
      room = (let a = c.loop-path.invariant.room in let b = c.in-Ok.ensures.len in let d = c.push.ensures.capacity in omega arith);
    }

pub returns-clause-moved : goal.returns-clause-moved
returns-clause-moved g c =
    let ended = nil_from_length c.loop-path.path-iterator.rest.items (sym c.loop-path.path-iterator.rest.ok.0 ∙ c.in-None.ensures.steps.0) in
    sym (append-nil c.loop-path.out.items) ∙ ap (λ z. c.loop-path.out.items ++ rerouted z c.loop-path.rest.items) (sym ended) ∙ c.loop-path.invariant.moved

pub returns-clause-left : goal.returns-clause-left
returns-clause-left g c =
    let ended = nil_from_length c.loop-path.path-iterator.rest.items (sym c.loop-path.path-iterator.rest.ok.0 ∙ c.in-None.ensures.steps.0) in
    ap (λ z. drop (length z) c.loop-path.rest.items) (sym ended) ∙ c.loop-path.invariant.left
