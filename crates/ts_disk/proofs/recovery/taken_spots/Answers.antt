use Rattle.std.proofs.Common.{◌≡◌, ◌<◌, ◌^◌, ℕ, ◌++◌, [], ◌∷◌, List, String, Global, sym, subst, ap, ◌∙◌, arith}
use Rattle.std.specs.Prelude.{All, Any, Contains}
use Rattle.std.specs.String.{string_bytes}
use Rattle.std.proofs.lemmas.List.{take_all}
use Rattle.std.proofs.lemmas.List.Filters.{All-dedup, dedup_is}
use Rattle.std.proofs.lemmas.List.Kept.{Contains-dedup_nat}
use Rattle.std.proofs.lemmas.List.Sorted.{All-permutation, Contains-permutation}
use Rattle.std.proofs.lemmas.Map.Keys.{IsStrictlyIncreasing-dedup}
use Rattle.std.specs.List.Sorted.{IsStrictlyIncreasing}
use Rattle.ts_disk.specs.Names.{IsSpotOf}
use Rattle.ts_disk.proofs.Gathered.{from_more, kept_more, spot_there, spots_kept}
use Rattle.ts_disk.proofs.recovery.taken_spots.Goals.{in-Some+in_ok-push, in_default}
use Rattle.ts_disk.proofs.recovery.taken_spots.Goals as goal

pub loop-name-preserved : goal.loop-name-preserved
loop-name-preserved c =
    let names = c.args.names.now in
    let i = c.loop-name.name-index in
    let name = c.name-item.result in
    let old = c.loop-name.numbers.items in
    let new = c.match-spot_number.numbers.items in
    let P = λ (held : List ℕ) (s : String Global). (n : ℕ) → n < 2 ^ 32 → IsSpotOf (string_bytes s) n → Contains held n in
    elim c.match-spot_number.branch [
      | in-Some+in_ok-push w ↦
          (let grown : new ≡ old ++ w.in-Some.number ∷ [] = ap (λ v. v.items) w.numbers-is ∙ w.in_ok-push.ensures.items in
          let is : IsSpotOf (string_bytes name) w.in-Some.number = rw (← c.as_str.ensures.value) w.in-Some.ensures.some in (
            kept_more (P old) (P new) names i name c.loop-name-test.true c.name-item.is
                (λ s. spots_kept (string_bytes s) old new w.in-Some.number grown) c.loop-name.invariant.0
                (spot_there (string_bytes name) old new w.in-Some.number (omega arith) grown is),
            from_more (λ s. IsSpotOf (string_bytes s)) names i name old new w.in-Some.number c.loop-name-test.true c.name-item.is grown is c.loop-name.invariant.1,
          ))
      | in_default w ↦
          (let same : old ≡ new = sym (ap (λ v. v.items) w.numbers-is) in (
            kept_more (P old) (P new) names i name c.loop-name-test.true c.name-item.is
                (λ s held. subst (λ l. P l s) same held) c.loop-name.invariant.0
                (λ n small said. absurd (w.in_default.ensures.none n small (subst (λ t. IsSpotOf t n) (sym c.as_str.ensures.value) said))),
            subst (All (λ n. Any (λ s. IsSpotOf (string_bytes s) n) names)) same c.loop-name.invariant.1,
          ))
    ]

pub returns-clause-all : goal.returns-clause-all
returns-clause-all c = λ k d small n low said.
    let names = c.args.names.now in
    let numbers = c.loop-name.numbers.items in
    let sorted = c.sort_unstable.new.self.items in
    let P = λ (s : String Global). (m : ℕ) → m < 2 ^ 32 → IsSpotOf (string_bytes s) m → Contains numbers m in
    let held : All P names = subst (All P) (take_all c.loop-name.name-index names c.loop-name-test.false) c.loop-name.invariant.0 in
    let once = dedup_is _ sorted c.dedup.new.self.items c.dedup.ensures.filtered in
    let there = Contains-permutation numbers sorted n c.sort_unstable.ensures.permutation (held k d small n low said) in
    subst (λ l. Contains l n) (sym once) (Contains-dedup_nat sorted n there)

pub returns-clause-order : goal.returns-clause-order
returns-clause-order c =
    let sorted = c.sort_unstable.new.self.items in
    let once = dedup_is _ sorted c.dedup.new.self.items c.dedup.ensures.filtered in
    subst IsStrictlyIncreasing (sym once) (IsStrictlyIncreasing-dedup sorted c.sort_unstable.ensures.sorted)

pub returns-clause-only : goal.returns-clause-only
returns-clause-only c =
    let P = λ (n : ℕ). Any (λ name. IsSpotOf (string_bytes name) n) c.args.names.now in
    let sorted = c.sort_unstable.new.self.items in
    let once = dedup_is _ sorted c.dedup.new.self.items c.dedup.ensures.filtered in
    let held = All-permutation P c.loop-name.numbers.items sorted c.sort_unstable.ensures.permutation c.loop-name.invariant.1 in
    subst (All P) (sym once) (All-dedup _ P sorted held)
