-- The totals of a preview.
--     totals_of all      how many entries there are of each kind, and how many files each replica loses
--     best_totals all    those of a report in which all is done but what is skipped
use Rattle.std.specs.Prelude.{ℕ, ◌-◌, ◌^◌, Bool, true, false, if◌then◌else◌, List, count_by, length, min, sum_by}
use Rattle.ts_model.specs.Plans.{is_from, other}
use Rattle.ts_model.specs.Sync.{is_skipped, treatment}
use Rattle.ts_model.specs.declared.plan.Reason.{Reason}
use Rattle.ts_model.specs.declared.plan.Reason.TheVariants as reason
use Rattle.ts_model.specs.declared.plan.Side.{Side}
use Rattle.ts_model.specs.declared.plan.Side.TheVariants as side
use Rattle.ts_model.specs.declared.plan.Treatment.{Treatment}
use Rattle.ts_model.specs.declared.plan.Treatment.TheVariants.{Copied, Agreed, NewDirectory, Skipped}
use Rattle.ts_report.specs.declared.writing.Totals.{Totals as Report}
use Rattle.ts_preview.specs.declared.outlook.Outlook.{Outlook}
use Rattle.ts_preview.specs.declared.totals.Totals.{Totals}

-- it is copied to this replica
abbrev pub goes_to : Side → Outlook → Bool
goes_to to o = is_from (other to) o.reason

-- nothing is copied, since both replicas agree
abbrev pub agrees : Treatment → Bool
agrees (Copied from) = false
agrees Agreed = true
agrees NewDirectory = true
agrees Skipped = false

abbrev pub is_agreed : Outlook → Bool
is_agreed o = agrees (treatment o.reason)

abbrev pub conflicts : Reason → Bool
conflicts reason.Conflict = true
conflicts _ = false

abbrev pub is_conflict : Outlook → Bool
is_conflict o = conflicts o.reason

abbrev pub holds : Reason → Bool
holds reason.Held = true
holds _ = false

abbrev pub is_held : Outlook → Bool
is_held o = holds o.reason

abbrev pub lost_in : Side → Outlook → ℕ
lost_in on o = if goes_to on o then o.lost else 0

abbrev pub totals_of : List Outlook → Totals
totals_of all = record {
  entries = length all;
  to_first = count_by (goes_to side.First) all;
  to_second = count_by (goes_to side.Second) all;
  agreed = count_by is_agreed all;
  conflicts = count_by is_conflict all;
  held = count_by is_held all;
  -- or more than 64 bits can count
  lost_in_first = min (sum_by (lost_in side.First) all) (2 ^ 64 - 1);
  lost_in_second = min (sum_by (lost_in side.Second) all) (2 ^ 64 - 1);
}

abbrev pub best_totals : List Outlook → Report
best_totals all =
    let skipped = count_by (λ (o : Outlook). is_skipped o.reason) all in
    record { done = length all - skipped; skipped = skipped; failed = 0; blocked = 0 }
