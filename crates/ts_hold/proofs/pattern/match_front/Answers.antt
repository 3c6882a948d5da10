use Rattle.std.proofs.Common.{◌∷◌, sym, ap, ◌∙◌, eqb-true}
use Rattle.std.proofs.lemmas.Bool.{eqb-false}
use Rattle.ts_hold.proofs.Fitting.{name_ends, bytes_differ, bytes_agree, both_end, pattern_ends}
use Rattle.ts_hold.proofs.pattern.match_front.Goals as goal

pub returns-in_default-split_first : goal.returns-in_default-split_first
returns-in_default-split_first c =
    name_ends _ _ _ _ c.in-Byte.byte c.in-Some.rest.now c.next.invariant (c.in-Some.ensures.cases.0 ∙ ap (λ z. z ∷ c.in-Some.rest.now) c.in-Byte.is) c.in_default-split_first.ensures.cases

pub returns-then-byte-first : goal.returns-then-byte-first
returns-then-byte-first c =
    bytes_differ _ _ _ _ c.in-Byte.byte _ c.in-Some.rest.now _ c.next.invariant (c.in-Some.ensures.cases.0 ∙ ap (λ z. z ∷ c.in-Some.rest.now) c.in-Byte.is) c.in-Some-split_first.ensures.cases.0 c.if-byte-first.true

pub next-preserved : goal.next-preserved
next-preserved c =
    bytes_agree _ _ _ _ c.in-Byte.byte _ c.in-Some.rest.now _ c.next.invariant (c.in-Some.ensures.cases.0 ∙ ap (λ z. z ∷ c.in-Some.rest.now) c.in-Byte.is) c.in-Some-split_first.ensures.cases.0 c.if-byte-first.false

pub returns-then-is_empty : goal.returns-then-is_empty
returns-then-is_empty c = both_end _ _ _ _ c.next.invariant c.in_default.ensures.cases (eqb-true _ 0 (sym c.if-is_empty.ensures))

pub returns-else-is_empty : goal.returns-else-is_empty
returns-else-is_empty c = pattern_ends _ _ _ _ c.next.invariant c.in_default.ensures.cases (eqb-false _ 0 (sym c.if-is_empty.ensures))
