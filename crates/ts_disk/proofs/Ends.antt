-- With which faults a look at a folder may end.
use Rattle.std.proofs.Common.{◌≢◌, inl, inr}
use Rattle.ts_name.specs.Paths.{Path}
use Rattle.ts_folder.specs.declared.fault.Trouble.{Trouble}
use Rattle.ts_folder.specs.declared.folder.Call.{Call}
use Rattle.ts_site.specs.declared.fault.SiteFault.{SiteFault}
use Rattle.ts_site.specs.declared.fault.SiteFault.TheVariants.{OutOfMemory, Device, Changed, Misfit}
use Rattle.ts_disk.specs.Compared.{MayEnd, Troubles}

-- more troubles, or another difference that follows
pub ends_weaker : (few many : Trouble → Type 0) (differs other : Type 0) (e : SiteFault) → ((t : Trouble) → few t → many t) → (differs → other) → MayEnd few differs e → MayEnd many other e
ends_weaker few many differs other OutOfMemory more then h = tt
ends_weaker few many differs other Device more then h = more _ h
ends_weaker few many differs other Changed more then (inl d) = inl (then d)
ends_weaker few many differs other Changed more then (inr t) = inr (more _ t)
ends_weaker few many differs other Misfit more then h = absurd h

-- none of them is that of staged files
pub ends_fit : (troubles : Trouble → Type 0) (differs : Type 0) (e : SiteFault) → MayEnd troubles differs e → e ≢ Misfit
ends_fit troubles differs OutOfMemory h f = cc
ends_fit troubles differs Device h f = cc
ends_fit troubles differs Changed h f = cc
ends_fit troubles differs Misfit h f = h

-- a call's troubles are some of all
pub lets_some : (lets : Call → Path → Trouble → Type 0) (call : Call) (p : Path) (t : Trouble) → lets call p t → Troubles lets t
lets_some lets call p t h = inr (call, p, h)
