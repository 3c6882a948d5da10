-- What becomes of an entry.
--     fate skipped done failed     by whether it is skipped, its mark is done, and an action of its own failed
--     next_fate                    what is known once one more of its actions is looked at
use Rattle.std.specs.Prelude.{ℕ, Bool, true, false, ◌&&◌, List, codes}
use Rattle.ts_model.specs.Sync.{is_skipped}
use Rattle.ts_model.specs.declared.plan.Reason.{Reason}
use Rattle.ts_report.specs.declared.results.Ending.{Ending}
use Rattle.ts_report.specs.declared.results.Ending.TheVariants as ending
use Rattle.ts_report.specs.declared.fate.Fate.{Fate}
use Rattle.ts_report.specs.declared.fate.Fate.TheVariants.{Skipped, Done, Failed, Blocked}

abbrev pub was_done : Ending → Bool
was_done ending.Done = true
was_done ending.Failed = false
was_done ending.Left = false

abbrev pub has_failed : Ending → Bool
has_failed ending.Done = false
has_failed ending.Failed = true
has_failed ending.Left = false

abbrev pub fate : Bool → Bool → Bool → Fate
fate true done failed = Skipped
fate false true failed = Done
fate false false true = Failed
fate false false false = Blocked

abbrev pub first_fate : Reason → Fate
first_fate reason = fate (is_skipped reason) false false

-- the fate of an entry that was seen to have this one, after an action of its own
abbrev pub settled : Fate → Bool → Bool → Fate
settled Skipped done failed = Skipped
settled Done done failed = Done
settled Failed done failed = fate false done true
settled Blocked done failed = fate false done failed

abbrev pub next_fate : Fate → Bool → Ending → Fate
next_fate known mark how = settled known (mark && was_done how) (has_failed how)

abbrev pub fate_word : Fate → List ℕ
fate_word Skipped = codes "skip"
fate_word Done = codes "done"
fate_word Failed = codes "failed"
fate_word Blocked = codes "blocked"

abbrev pub same_fate : Fate → Fate → Bool
same_fate Skipped Skipped = true
same_fate Done Done = true
same_fate Failed Failed = true
same_fate Blocked Blocked = true
same_fate _ _ = false
