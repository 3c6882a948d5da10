use Rattle.ts_print.proofs.Walks.{gives_met_of}
use Rattle.ts_print.proofs.triples.walk3.Goals as goal

pub returns-clause-exact : goal.returns-clause-exact
returns-clause-exact c = gives_met_of c.rows.result.now c.rows-2.result.now c.rows-3.result.now c.args.archive.now c.args.first.now c.args.second.now
    c.rows.ensures.rows c.rows-2.ensures.rows c.rows-3.ensures.rows c.rows.ensures.listing c.rows-2.ensures.listing c.rows-3.ensures.listing
