use Rattle.ts_check.proofs.safety.valid_plans_are_safe.Goals as goal

pub returns : goal.returns
returns c = λ s plan valid. record {
  one_pair = c.one_pair.ensures s;
  original_or_final = c.original_or_final.ensures s plan valid;
  archive_agrees = c.archive_agrees.ensures s plan valid;
  completes = c.completes.ensures s plan valid;
  not_stuck = c.not_stuck.ensures s plan valid;
  can_resume = c.can_resume.ensures s plan valid;
  cuts_are_legal = c.cuts_are_legal.ensures s plan valid;
  archive_is_closed = c.archive_is_closed.ensures s plan valid;
  ends_alike = c.resumed_runs_end_alike.ensures s plan valid;
}
