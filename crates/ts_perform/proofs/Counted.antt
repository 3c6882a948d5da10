-- A run over folders that count is one over the folders that they count.
use Rattle.std.proofs.Common.{◌≡◌, ℕ, List, Option, Ok, Result, subst, subst₂}
use Rattle.std.specs.Prelude.{IfOk}
use Rattle.ts_check.specs.Checkup.{Checkup}
use Rattle.ts_exec.specs.Outcomes.{IsOutcomeOf}
use Rattle.ts_exec.specs.declared.outcome.Outcome.{Outcome}
use Rattle.ts_folder.specs.declared.fault.Trouble.{Trouble}
use Rattle.ts_model.specs.Trees.{Listing}
use Rattle.ts_model.specs.declared.plan.Side.{Side}
use Rattle.ts_model.specs.declared.plan.Side.TheVariants as side
use Rattle.ts_name.specs.Paths.{Path}
use Rattle.ts_site.specs.declared.site.Site.{Ghosts}

-- what folders tell, and may fail with
abbrev Tells : Type 0
Tells = Side → Option (Listing (List ℕ))

abbrev Lets : Type 1
Lets = Side → Path → Trouble → Type 0

same_tells : (t u : Tells) → t side.First ≡ u side.First → t side.Second ≡ u side.Second → (s : Side) → t s ≡ u s
same_tells t u first second side.First = first
same_tells t u first second side.Second = second

same_lets : (t u : Lets) → t side.First ≡ u side.First → t side.Second ≡ u side.Second → (s : Side) → t s ≡ u s
same_lets t u first second side.First = first
same_lets t u first second side.Second = second

-- where both folders tell the same and may fail alike, an outcome of the one run is one of the other
pub of_others : {S : Type 0} {site : Ghosts S} {k : Checkup} {t u : Tells} {l m : Lets} {told : List (Option (Option (Listing (List ℕ))))} {breaks jams stops : Type 0} (o : Outcome S site)
    → IsOutcomeOf {S = S} {site = site} (record { checkup = k; tells = t; lets = l; told = told; breaks = breaks; jams = jams; stops = stops }) o
    → t side.First ≡ u side.First → t side.Second ≡ u side.Second → l side.First ≡ m side.First → l side.Second ≡ m side.Second
    → IsOutcomeOf {S = S} {site = site} (record { checkup = k; tells = u; lets = m; told = told; breaks = breaks; jams = jams; stops = stops }) o
of_others {S} {site} {k} {t} {u} {l} {m} {told} {breaks} {jams} {stops} o is t_first t_second l_first l_second =
    subst₂ (λ (a : Tells) (b : Lets). IsOutcomeOf {S = S} {site = site} (record { checkup = k; tells = a; lets = b; told = told; breaks = breaks; jams = jams; stops = stops }) o)
    (λ i s. same_tells t u t_first t_second s i) (λ i s. same_lets l m l_first l_second s i) is

-- what is said of an answer that is right holds of what was answered
pub of_answered : {A E : Type 0} (r : Result A E) (a : A) (P : A → Type 0) → r ≡ Ok a → IfOk r P → P a
of_answered r a P is h = subst (λ z. IfOk z P) is h
