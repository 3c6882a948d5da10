use Rattle.std.proofs.Common.{sym, subst, arith, eqb-true}
use Rattle.std.proofs.lemmas.Bool.{eqb-false, false≢true}
use Rattle.ts_model.specs.Texts.{StarsApart}
use Rattle.ts_hold.proofs.Patterns.{no_symbol_follows, too_many_symbols, unlawful_symbols}
use Rattle.ts_hold.proofs.symbols.parse_pattern.Goals as goal
use Rattle.ts_hold.proofs.symbols.parse_pattern.Goals.{then-is_empty-via-then-is_empty, then-is_empty-via-else-is_empty+then-not-stars_apart}

pub returns-in_default : goal.returns-in_default
returns-in_default c = no_symbol_follows _ c.next.symbols.items _ c.next.invariant.read (eqb-false _ 0 (sym c.next-test.ensures)) c.in_default.ensures

pub returns-then-len-eq-MOST_SYMBOLS : goal.returns-then-len-eq-MOST_SYMBOLS
returns-then-len-eq-MOST_SYMBOLS c = too_many_symbols _ c.next.symbols.items _ c.next.invariant.read (eqb-false _ 0 (sym c.next-test.ensures)) (omega arith)

pub returns-then-is_empty : goal.returns-then-is_empty
returns-then-is_empty c =
    unlawful_symbols _ c.next.symbols.items _ c.next.invariant.read (eqb-true _ 0 (sym c.next-test.ensures)) (λ some. elim c.then-is_empty.branch [
      | then-is_empty-via-then-is_empty w ↦ λ apart. absurd (omega (arith, eqb-true _ 0 (sym w.if-is_empty.ensures), c.next.symbols.ok.0))
      | then-is_empty-via-else-is_empty+then-not-stars_apart w ↦ λ apart. absurd (false≢true (w.if-not-stars_apart.ensures.1 (subst (λ z. StarsApart z) (sym w.as_slice.ensures.value) apart)))
    ])
