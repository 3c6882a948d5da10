-- What the scans of a pair's replicas give.
use Rattle.std.proofs.Common.{◌≡◌, List, ℕ, Option, IfSome, Result, Ok, Err, IfOk}
use Rattle.ts_command.specs.declared.job.Pair.{Pair}
use Rattle.ts_model.specs.Trees.{Listing, at, print_of}
use Rattle.ts_model.specs.declared.row.Stamp.{Stamp}
use Rattle.ts_scan.specs.declared.fault.ScanFault.{ScanFault}
use Rattle.ts_perform.specs.Inputs.{scanned_of}
use Rattle.ts_perform.specs.Stands.{AreScans, IsAt}
use Rattle.ts_perform.specs.declared.special.SpecialPaths.{SpecialPaths}

-- a scan's print is that of the tree which its folder tells
abbrev pub Fits : Option (Listing (List ℕ)) → Result (Listing Stamp) ScanFault → Type 0
Fits told result = IfSome told (λ tree. IfOk result (λ print. at print ≡ print_of (at tree)))

pub both_scanned : {F : Type 0} (is_at : IsAt F) (tells : F → Option (Listing (List ℕ))) (pair : Pair) (special : SpecialPaths) (f s : F) (first second : Result (Listing Stamp) ScanFault)
    → is_at f pair.first.now special.first → is_at s pair.second.now special.second → Fits (tells f) first → Fits (tells s) second
    → IfOk (scanned_of pair first second) (λ scanned. AreScans is_at tells pair special scanned.first scanned.second)
both_scanned is_at tells pair special f s (Err e) second at_first at_second of_first of_second = tt
both_scanned is_at tells pair special f s (Ok a) (Err e) at_first at_second of_first of_second = tt
both_scanned is_at tells pair special f s (Ok a) (Ok b) at_first at_second of_first of_second = record {
  of_first = (f, at_first, of_first);
  of_second = (s, at_second, of_second);
}
