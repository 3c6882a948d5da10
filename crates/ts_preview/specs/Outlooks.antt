-- What would become of the entries of a plan.
--     IsState archive replica p state        what a replica has at p and below it, and what became of it since the archive
--     IsCopy first second p r change lost    what a copy makes of p and of what is below it, in the replica that it is made to
--     IsOutlook archive first second e o     what would become of an entry
--     AreOutlooks .. entries all             the same of each entry, in their order
use Rattle.std.specs.Prelude.{◌≡◌, ℕ, ◌-◌, ◌^◌, Bool, true, false, ◌&&◌, not, List, [], ◌∷◌, Option, Some, None, count_by, min, sum_by}
use Rattle.ts_name.specs.Paths.{Path}
use Rattle.ts_model.specs.Plans.{other, source}
use Rattle.ts_model.specs.Trees.{Listing, Print, at}
use Rattle.ts_model.specs.declared.plan.Entry.{Entry}
use Rattle.ts_model.specs.declared.plan.Reason.{Reason}
use Rattle.ts_model.specs.declared.plan.Side.{Side}
use Rattle.ts_model.specs.declared.plan.Side.TheVariants as side
use Rattle.ts_model.specs.declared.row.Content.{Content}
use Rattle.ts_model.specs.declared.row.Content.TheVariants.{Absent, Dir, File}
use Rattle.ts_model.specs.declared.row.Row.{Row}
use Rattle.ts_model.specs.declared.row.Stamp.{Stamp}
use Rattle.ts_table.specs.Tables.{rows_below}
use Rattle.ts_preview.specs.Changes.{IsChange}
use Rattle.ts_preview.specs.declared.change.Change.{Change}
use Rattle.ts_preview.specs.declared.change.Change.TheVariants.{Unchanged}
use Rattle.ts_preview.specs.declared.outlook.Outlook.{Outlook}
use Rattle.ts_preview.specs.declared.outlook.State.{State}

abbrev pub is_file : Content Stamp → Bool
is_file Absent = false
is_file Dir = false
is_file (File stamp) = true

abbrev pub file_size : Content Stamp → ℕ
file_size Absent = 0
file_size Dir = 0
file_size (File stamp) = stamp.size

-- a file where that print has none
abbrev pub is_lost : Print → Row Stamp → Bool
is_lost after row = is_file row.content && not (is_file (after row.path))

abbrev pub print_on : Side → Listing Stamp → Listing Stamp → Listing Stamp
print_on side.First first second = first
print_on side.Second first second = second

pub record IsState (archive replica : Listing Stamp) (p : Path) (state : State) : Type 0 where
  pub change : IsChange (at archive) (at replica) p state.change
  pub files : state.files ≡ count_by (λ row. is_file row.content) (rows_below p replica)
  -- or more than 64 bits can count
  pub bytes : state.bytes ≡ min (sum_by (λ row. file_size row.content) (rows_below p replica)) (2 ^ 64 - 1)

-- from what the target has to what the source has; the files that are lost are the target's where the source has none
abbrev pub IsCopyFrom : Option Side → Listing Stamp → Listing Stamp → Path → Change → ℕ → Type 0
IsCopyFrom None first second p change lost = (change ≡ Unchanged) × (lost ≡ 0)
IsCopyFrom (Some from) first second p change lost =
    let source = at (print_on from first second) in
    let target = print_on (other from) first second in
    IsChange (at target) source p change × (lost ≡ count_by (is_lost source) (rows_below p target))

abbrev pub IsCopy : Listing Stamp → Listing Stamp → Path → Reason → Change → ℕ → Type 0
IsCopy first second p r change lost = IsCopyFrom (source r) first second p change lost

pub record IsOutlook (archive first second : Listing Stamp) (entry : Entry) (o : Outlook) : Type 0 where
  pub path : o.path.now ≡ entry.path
  pub reason : o.reason ≡ entry.reason
  pub in_first : IsState archive first entry.path o.first
  pub in_second : IsState archive second entry.path o.second
  pub copy : IsCopy first second entry.path entry.reason o.change o.lost

abbrev pub AreOutlooks : (archive first second : Listing Stamp) → List Entry → List Outlook → Type 0
AreOutlooks archive first second [] [] = Unit {0}
AreOutlooks archive first second [] (o ∷ all) = ⊥
AreOutlooks archive first second (entry ∷ entries) [] = ⊥
AreOutlooks archive first second (entry ∷ entries) (o ∷ all) = IsOutlook archive first second entry o × AreOutlooks archive first second entries all
