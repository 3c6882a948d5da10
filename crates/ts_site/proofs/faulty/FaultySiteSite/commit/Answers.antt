use Rattle.std.proofs.Common.{ap, ◌∙◌}
use Rattle.ts_model.specs.Trees.{listed, print_of}
use Rattle.ts_site.proofs.faulty.FaultySiteSite.commit.Goals as goal

pub returns-clause-changed : goal.returns-clause-changed
returns-clause-changed c = λ err same. c.commit.ensures.changed err (ap (λ rows. print_of (listed rows)) c.fails_now-fails.ensures.site ∙ same)
