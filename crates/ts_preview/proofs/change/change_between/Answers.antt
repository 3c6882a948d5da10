use Rattle.std.proofs.Common.{◌∙◌, ap₂, inl, inr, refl, sym}
use Rattle.std.proofs.lemmas.Bool.{false≢true}
use Rattle.ts_preview.specs.Changes.{change_from}
use Rattle.ts_preview.proofs.change.change_between.Goals as goal

pub returns-then-sub_eq : goal.returns-then-sub_eq
returns-then-sub_eq c = inl (c.sub_eq.ensures.0 c.if-sub_eq.true, refl)

pub returns-else-sub_eq : goal.returns-else-sub_eq
returns-else-sub_eq c =
    inr (
      (λ same. false≢true (sym c.if-sub_eq.false ∙ c.sub_eq.ensures.1 same)),
      c.change_from.ensures ∙ ap₂ change_from c.get.ensures c.get-else-sub_eq.ensures,
    )
