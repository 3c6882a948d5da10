use Rattle.std.proofs.Common.{◌≡◌, ◌++◌, drop, length, sym, ap, ◌∙◌, Some, eqb-true, eq-eqb}
use Rattle.std.proofs.lemmas.Bool.{false≢true}
use Rattle.std.proofs.lemmas.Slice.Eq.{starts_is}
use Rattle.ts_name.specs.Buffers.{pieces}
use Rattle.ts_name.proofs.Buffers.{Holds, Holds-same, above_from_bytes, prefix_answer}
use Rattle.ts_name.proofs.Prefixes.{below_by_bytes, below_none}
use Rattle.ts_name.proofs.paths.Path.below.Goals as goal

pub returns-then-not-starts_with-clause-value : goal.returns-then-not-starts_with-clause-value
returns-then-not-starts_with-clause-value c =
    let self : Holds c.self.inside.bytes c.args.self.now = record { buffer = c.self.invariant; path_is = c.self.view_is } in
    let top : Holds c.top.inside.bytes c.args.top.now = record { buffer = c.top.invariant; path_is = c.top.view_is } in
    let answer = prefix_answer _ _ _ _ (Holds-same c.as_slice-start.ensures top) (Holds-same c.as_slice.ensures self) _ c.starts_with.ensures.value in
    sym (below_none c.args.top.now c.args.self.now (λ h. false≢true (sym c.if-not-starts_with.true ∙ answer.1 h)))

starts : (c : goal.In_ok-shared) → c.as_slice.result.now ≡ c.as_slice-start.result.now ++ drop (length c.as_slice-start.result.now) c.as_slice.result.now
starts c =
    let told = starts_is (λ x y. (eqb-true x y, eq-eqb x y)) c.as_slice.result.now c.as_slice-start.result.now c.starts_with.result c.starts_with.ensures.value in
    told.0 c.if-not-starts_with.false

shared_is : (c : goal.In_ok-shared) → c.in_ok-shared.shared ≡ drop (length c.as_slice-start.result.now) c.as_slice.result.now
shared_is c = c.in_ok-shared.ensures ∙ ap (drop (length c.as_slice-start.result.now)) (sym c.as_slice.ensures)

left : (c : goal.In_ok-shared) → Holds c.in_ok-shared.shared (pieces 0 (drop (length c.as_slice-start.result.now) c.as_slice.result.now))
left c =
    let self : Holds c.self.inside.bytes c.args.self.now = record { buffer = c.self.invariant; path_is = c.self.view_is } in
    let top : Holds c.top.inside.bytes c.args.top.now = record { buffer = c.top.invariant; path_is = c.top.view_is } in
    Holds-same (shared_is c) (above_from_bytes _ _ _ _ (Holds-same c.as_slice-start.ensures top) (Holds-same c.as_slice.ensures self) _ (starts c)).0

pub invariant_of-result : goal.invariant_of-result
invariant_of-result c = (left c).buffer

pub returns-clause-lawful : goal.returns-clause-lawful
returns-clause-lawful c = (left c).buffer.lawful

pub returns-clause-value : goal.returns-clause-value
returns-clause-value c =
    let self : Holds c.self.inside.bytes c.args.self.now = record { buffer = c.self.invariant; path_is = c.self.view_is } in
    let top : Holds c.top.inside.bytes c.args.top.now = record { buffer = c.top.invariant; path_is = c.top.view_is } in
    ap (λ z. Some (pieces 0 z)) (shared_is c) ∙ below_by_bytes _ _ _ _ (Holds-same c.as_slice-start.ensures top) (Holds-same c.as_slice.ensures self) _ (starts c)
