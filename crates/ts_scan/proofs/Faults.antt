-- Which faults a scan may tell.
use Rattle.std.proofs.Common.{◌≡◌, ◌⊎◌, ℕ, List, Some, None, IfSome, refl, sym, subst, inl, inr}
use Rattle.ts_name.specs.Paths.{Path}
use Rattle.ts_model.specs.Trees.{Listing}
use Rattle.ts_folder.specs.Folders.{MayAnswer}
use Rattle.ts_folder.specs.declared.fault.FolderFault.{FolderFault}
use Rattle.ts_folder.specs.declared.fault.FolderFault.TheVariants as folder
use Rattle.ts_folder.specs.declared.fault.Trouble.{Trouble}
use Rattle.ts_folder.specs.declared.fault.Trouble.TheVariants as trouble
use Rattle.ts_folder.specs.declared.folder.Call.{Call}
use Rattle.ts_scan.specs.Faults.{MayFail, Tells}
use Rattle.ts_scan.specs.Scans.{Told}
use Rattle.ts_scan.specs.declared.fault.Refusal.TheVariants as refusal
use Rattle.ts_scan.specs.declared.fault.ScanFault.{ScanFault}
use Rattle.ts_scan.specs.declared.fault.ScanFault.TheVariants.{OutOfMemory, At}

-- a tree that is told contradicts what it says
pub no_tree : (told : Told) (P Q : Listing (List ℕ) → Type 0) → ((tree : Listing (List ℕ)) → P tree → Q tree → ⊥) → IfSome told P → IfSome told Q → told ≡ None
no_tree None P Q apart h k = refl
no_tree (Some tree) P Q apart h k = absurd (apart tree h k)

-- a path past the limits
pub may_be_deep : (lets : Call → Path → Trouble → Type 0) (told : Told) (p : Path) (e : ScanFault) (P : Type 0) → (P → told ≡ None) → (e ≡ OutOfMemory) ⊎ ((e ≡ At p refusal.TooLong) × P) → MayFail lets told e
may_be_deep lets told p e P none (inl is) = subst (MayFail lets told) (sym is) tt
may_be_deep lets told p e P none (inr is) = subst (MayFail lets told) (sym is.0) (none is.1)

-- what a folder's call may answer is reported as what a scan may fail with, where a tree is told that has no such fault
pub told_fails :
    (lets : Call → Path → Trouble → Type 0) (told : Told) (call : Call) (p : Path) (missing : Type 0) (fault : FolderFault) (e : ScanFault)
    → (missing → told ≡ None) → MayAnswer (lets call p) missing fault → Tells p fault e → MayFail lets told e
told_fails lets told call p missing fault OutOfMemory none may tells = tt
told_fails lets told call p missing folder.OutOfMemory (At path r) none may tells = absurd tells.1
told_fails lets told call p missing folder.Device (At path r) none may tells =
    subst (λ z. MayFail lets told (At path z)) (sym tells.1) (call, subst (λ z. lets call z trouble.Device) (sym tells.0) may)
told_fails lets told call p missing folder.NotThere (At path r) none may tells = subst (λ z. MayFail lets told (At path z)) (sym tells.1) (none may)
told_fails lets told call p missing folder.Unreadable (At path r) none may tells =
    subst (λ z. MayFail lets told (At path z)) (sym tells.1) (inr (call, subst (λ z. lets call z trouble.Unreadable) (sym tells.0) may))

-- a file that is too long
pub refused_fails : (lets : Call → Path → Trouble → Type 0) (told : Told) (p : Path) (e : ScanFault) → told ≡ None → (e ≡ OutOfMemory) ⊎ (e ≡ At p refusal.Unreadable) → MayFail lets told e
refused_fails lets told p e none (inl is) = subst (MayFail lets told) (sym is) tt
refused_fails lets told p e none (inr is) = subst (MayFail lets told) (sym is) (inl none)
