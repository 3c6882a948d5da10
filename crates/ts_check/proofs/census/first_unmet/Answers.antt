use Rattle.std.proofs.Common.{sym, ◌∙◌, arith}
use Rattle.std.proofs.lemmas.Option.{slice_get_within}
use Rattle.std.proofs.lemmas.Bool.{false≢true}
use borrow.Author.Count.{below_more}
use Rattle.ts_check.proofs.census.first_unmet.Goals as goal

pub loop-e-preserved : goal.loop-e-preserved
loop-e-preserved c = below_more _ _ c.loop-e.invariant (λ unmet. false≢true (sym c.if-is_unmet.false ∙ c.is_unmet.ensures.1 unmet))

pub returns : goal.returns
returns c = λ k unmet. c.loop-e.invariant k (let h = slice_get_within c.args.entries.now k unmet.0 unmet.1 in omega arith) unmet
