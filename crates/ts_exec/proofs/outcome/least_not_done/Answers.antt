use Rattle.std.proofs.Common.{◌≡◌, ◌<◌, ◌≤◌, ℕ, length, get_or, sym, ap, ◌∙◌, subst, ⊎_elim, arith}
use Rattle.std.specs.Prelude.{slice_index}
use Rattle.std.specs.Int.{bit_at}
use Rattle.std.specs.Mem.Slots.{slots_items}
use Rattle.std.proofs.lemmas.Bool.{cases_lt}
use Rattle.ts_exec.proofs.Closing.{among_at, among_from, done_from_bit, not_done_is, bit_some, waits_from}
use Rattle.ts_exec.proofs.Rows.{ascend_within, ascend_pairs, contains_at}
use Rattle.ts_exec.proofs.outcome.least_not_done.Goals as goal

pub word-requires-after_bounds : goal.word-requires-after_bounds
word-requires-after_bounds g c κs within =
    let below = ascend_within c.args.i c.preds-preds.result.now c.preds-preds.ensures.ascending c.loop-k.k-index 0 c.loop-k-test.true in
    let less = c.requires.action in let wide = c.requires.words in omega arith

pub loop-k-preserved : goal.loop-k-preserved
loop-k-preserved g c = λ m less.
    let n = c.loop-k.k-index in let xs = c.preds-preds.result.now in let words = slots_items c.args.closed.now.row.words in
    ⊎_elim
    (λ (h : m < n). c.loop-k.invariant m h)
    (λ (h : n ≤ m).
    let same : n ≡ m = omega arith in
    subst (λ (z : ℕ). bit_at (slice_index words (get_or xs z 0)) 33 ≡ 1) same (ap (λ (z : ℕ). bit_at z 33) (sym c.word.ensures) ∙ bit_some c.word.result 33 c.if-word-eq0.false))
    (cases_lt m n)

pub returns-then-word-eq0-clause-some : goal.returns-then-word-eq0-clause-some
returns-then-word-eq0-clause-some g c = λ run end.
    let n = c.loop-k.k-index in let xs = c.preds-preds.result.now in let words = slots_items c.args.closed.now.row.words in
    let plan = c.args.checked.now.plan in let i = c.args.i in let k = get_or xs n 0 in let asc = c.preds-preds.ensures.ascending in
    let h : n < length xs = c.loop-k-test.true in
    let below = ascend_within i xs asc n 0 h in
    let less = c.requires.action in
    let here : k < length plan.actions = omega arith in
    record {
      waits = waits_from plan i xs c.preds-preds.ensures.preds less k (contains_at xs n 0 h);
      not_done = not_done_is plan run words k (end.words_are k here) (end.small k) c.word.result c.word.ensures c.if-word-eq0.true;
      least = λ j waits lower.
          let at = among_at xs j (among_from plan i xs c.preds-preds.ensures.preds less j waits) in
          let m = at.0 in let inside = at.1 in
          let is : get_or xs m 0 ≡ j = at.2 0 in
          ⊎_elim
          (λ (before : m < n).
          let lower_still = ascend_within i xs asc m 0 inside in
          let there : j < length plan.actions = omega arith in
          done_from_bit plan run words j (end.words_are j there) (end.small j) (subst (λ (z : ℕ). bit_at (slice_index words z) 33 ≡ 1) is (c.loop-k.invariant m before)))
          (λ (after : n ≤ m). ⊎_elim
          (λ (later : n < m). let up = ascend_pairs i xs asc n m 0 later inside in absurd (omega arith))
          (λ (not_later : m ≤ n).
          let same : m ≡ n = omega arith in
          let equal : get_or xs m 0 ≡ k = ap (λ (z : ℕ). get_or xs z 0) same in absurd (omega arith))
          (cases_lt n m))
          (cases_lt m n);
    }

pub returns-clause-none : goal.returns-clause-none
returns-clause-none g c = λ run has k waits.
    let n = c.loop-k.k-index in let xs = c.preds-preds.result.now in let words = slots_items c.args.closed.now.row.words in
    let plan = c.args.checked.now.plan in let i = c.args.i in let less = c.requires.action in
    let at = among_at xs k (among_from plan i xs c.preds-preds.ensures.preds less k waits) in
    let inside = at.1 in let past = c.loop-k-test.false in
    let below = ascend_within i xs c.preds-preds.ensures.ascending at.0 0 inside in
    let is : get_or xs at.0 0 ≡ k = at.2 0 in
    let there : k < length plan.actions = omega arith in
    done_from_bit plan run words k (has.words_are k there) (has.small k)
    (subst (λ (z : ℕ). bit_at (slice_index words z) 33 ≡ 1) is (c.loop-k.invariant at.0 (omega arith)))
