-- A folder that fails at the calls on its list.
--     trouble_at failing p           how the first in the list that names p says that it fails
--     of_call call lists reads       the list for a kind of call
use Rattle.std.specs.Prelude.{List, Option}
use Rattle.std.specs.List.{find}
use Rattle.std.specs.Option.{option_map}
use Rattle.ts_name.specs.Paths.{Path, same_path}
use Rattle.ts_folder.specs.declared.fault.Trouble.{Trouble}
use Rattle.ts_folder.specs.declared.folder.Call.{Call}
use Rattle.ts_folder.specs.declared.folder.Call.TheVariants as call
use Rattle.ts_folder.specs.declared.faulty.Failing.{Failing}

abbrev pub trouble_at : List Failing → Path → Option Trouble
trouble_at failing p = option_map (λ entry. entry.trouble) (find (λ entry. same_path entry.path p) failing)

abbrev pub of_call : Call → List Failing → List Failing → List Failing
of_call call.List lists reads = lists
of_call call.Read lists reads = reads
