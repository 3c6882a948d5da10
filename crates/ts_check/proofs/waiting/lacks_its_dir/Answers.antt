use Rattle.std.proofs.lemmas.Bool.{false≢true}
use Rattle.ts_check.proofs.waiting.lacks_its_dir.Goals as goal

pub returns-in-None : goal.returns-in-None
returns-in-None c = (λ e. absurd (false≢true e), λ lacks. absurd (c.in-None.ensures.none lacks.0 lacks.1))
