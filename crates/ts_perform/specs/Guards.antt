-- When `sync` carries a plan out, and when it holds it back.
--     SaysKnown knows place lock known   whether a replica knows the archive in this place is what was said of its lock; one without a lock doesn't
--     IsPastSeen w pair past             that is what is known of the pair's replicas, as it is seen without locks
--     IsPastOf w pair past               the same from before a run: each knows the archive that was there when its place was claimed, by its lock, and
--                                        the one that is seen there
--     IsBelieved past rows plan          the plan does nothing, or the archive names no path, or both replicas know it, or the same run was stopped in both
--     IsTaught past plan                 both replicas get to know the archive: the plan does something, or there is nothing to be done, or they know it
--     file_count rows                    how many files these are, where stand-ins don't count
--     copied_files into rows entry       how many of them stand at and below the entry's path, where that is copied to this replica
--     IsEmptied into k                   the replica has several files, all stand where something is copied to it, and no file comes with that
--     IsLetThrough allow_empty past k    the archive is believed, and no replica is emptied unless that is allowed
--     new_fault past paths               which replica doesn't know the archive, which names so many paths
--     emptied_fault into k               this replica would lose its files, and how many both have
--     IsHeldBack allow_empty past k e    why a plan isn't let through: the first of these that is so
use Rattle.std.specs.Prelude.{◌≡◌, ◌⊎◌, ◌≤◌, ◌&&◌, ℕ, Bool, true, false, not, if◌then◌else◌, List, [], Option, Some, None, IsTrue, count_by, length, sum_by}
use Rattle.ts_check.specs.Checkup.{Checkup}
use Rattle.ts_command.specs.declared.job.Pair.{Pair}
use Rattle.ts_explain.specs.declared.fault.PerformFault.{PerformFault}
use Rattle.ts_explain.specs.declared.fault.PerformFault.TheVariants as fault
use Rattle.ts_explain.specs.declared.subject.Subject.TheVariants.{First, Second}
use Rattle.ts_model.specs.Plans.{is_from, other}
use Rattle.ts_model.specs.Trees.{Listing}
use Rattle.ts_model.specs.declared.plan.Entry.{Entry}
use Rattle.ts_model.specs.declared.plan.Plan.{Plan}
use Rattle.ts_model.specs.declared.plan.Side.{Side}
use Rattle.ts_model.specs.declared.row.Content.{Content}
use Rattle.ts_model.specs.declared.row.Content.TheVariants.{Absent, Dir, File}
use Rattle.ts_model.specs.declared.row.Stamp.{Stamp}
use Rattle.ts_perform.specs.Faults.{replica_on}
use Rattle.ts_perform.specs.Worlds.{World}
use Rattle.ts_perform.specs.declared.guarding.Past.{Past}
use Rattle.ts_preview.specs.Outlooks.{print_on}
use Rattle.ts_special.specs.StandIns.{is_stand_in}
use Rattle.ts_table.specs.Tables.{rows_below}

abbrev pub SaysKnown : {L A : Type 0} → (L → A → Bool → Type 0) → A → Option L → Bool → Type 0
SaysKnown knows place None known = known ≡ false
SaysKnown knows place (Some lock) known = knows lock place known

pub record IsPastSeen {S F P A L : Type 0} (w : World S F P A L) (pair : Pair) (past : Past) : Type 0 where
  pub first_knows : w.known pair.first.now pair.archive.now past.first_knows
  pub second_knows : w.known pair.second.now pair.archive.now past.second_knows
  pub stopped : IsTrue past.stopped_alike → w.stopped pair.first.now pair.second.now true

pub record IsPastOf {S F P A L : Type 0} (w : World S F P A L) (pair : Pair) (past : Past) : Type 0 where
  pub first : Option L
  pub second : Option L
  pub locked_first : w.is_locked first pair.first.now
  pub locked_second : w.is_locked second pair.second.now
  pub place : A
  pub named : w.is_named place pair.archive.now
  pub first_said : Bool
  pub second_said : Bool
  pub says_first : SaysKnown w.knows place first first_said
  pub says_second : SaysKnown w.knows place second second_said
  pub seen : Past
  pub is_seen : IsPastSeen w pair seen
  pub first_knows : past.first_knows ≡ (first_said && seen.first_knows)
  pub second_knows : past.second_knows ≡ (second_said && seen.second_knows)
  pub stopped : IsTrue past.stopped_alike → w.stopped pair.first.now pair.second.now true

abbrev pub DoBothKnow : Past → Type 0
DoBothKnow past = IsTrue past.first_knows × IsTrue past.second_knows

abbrev pub IsBelieved : Past → Listing Stamp → Plan → Type 0
IsBelieved past rows plan = (plan.actions ≡ []) ⊎ ((rows ≡ []) ⊎ (DoBothKnow past ⊎ IsTrue past.stopped_alike))

abbrev pub IsTaught : Past → Plan → Type 0
IsTaught past plan = (¬ (plan.actions ≡ [])) ⊎ ((plan.entries ≡ []) ⊎ DoBothKnow past)

abbrev pub is_own_file : Content Stamp → Bool
is_own_file Absent = false
is_own_file Dir = false
is_own_file (File stamp) = not (is_stand_in stamp)

abbrev pub file_count : Listing Stamp → ℕ
file_count rows = count_by (λ row. is_own_file row.content) rows

abbrev pub copied_files : Side → Listing Stamp → Entry → ℕ
copied_files into rows entry = if is_from (other into) entry.reason then file_count (rows_below entry.path rows) else 0

abbrev pub own_rows : Side → Checkup → Listing Stamp
own_rows into k = print_on into k.first k.second

abbrev pub other_rows : Side → Checkup → Listing Stamp
other_rows into k = print_on (other into) k.first k.second

pub record IsEmptied (into : Side) (k : Checkup) : Type 0 where
  pub several : 2 ≤ file_count (own_rows into k)
  pub all : file_count (own_rows into k) ≤ sum_by (copied_files into (own_rows into k)) k.plan.entries
  pub none : sum_by (copied_files into (other_rows into k)) k.plan.entries ≡ 0

pub record IsLetThrough (allow_empty : Bool) (past : Past) (k : Checkup) : Type 0 where
  pub believed : IsBelieved past k.archive k.plan
  pub kept : ¬ IsTrue allow_empty → (into : Side) → ¬ IsEmptied into k

abbrev pub new_fault : Past → ℕ → PerformFault
new_fault past paths = if past.first_knows then fault.New Second paths else if past.second_knows then fault.New First paths else fault.BothNew paths

abbrev pub emptied_fault : Side → Checkup → PerformFault
emptied_fault into k = fault.Emptied (replica_on into) (file_count (own_rows into k)) (file_count (other_rows into k))

abbrev pub IsHeldBack : Bool → Past → Checkup → PerformFault → Type 0
IsHeldBack allow_empty past k e =
    ((¬ IsBelieved past k.archive k.plan) × (e ≡ new_fault past (length k.archive)))
    ⊎ (IsBelieved past k.archive k.plan × (¬ IsTrue allow_empty) × ((into : Side) × IsEmptied into k × (e ≡ emptied_fault into k)))
