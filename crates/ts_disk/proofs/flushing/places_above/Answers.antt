use Rattle.std.proofs.Common.{◌≡◌, ◌⊎◌, [], ◌∷◌, ◌++◌, List, String, Global, Bor, sym, subst, ap, inl, inr, ⊎_elim, get_or}
use Rattle.std.specs.Prelude.{All, Any}
use Rattle.std.specs.String.{string_bytes}
use Rattle.std.proofs.lemmas.List.{take_all}
use Rattle.std.proofs.lemmas.List.Filters.{All-dedup, dedup_is}
use Rattle.std.proofs.lemmas.List.Sorted.{All-permutation}
use Rattle.ts_name.specs.Paths.{Path}
use Rattle.ts_disk.specs.Flushing.{IsAboveAt}
use Rattle.ts_disk.proofs.Gathered.{all_grown, any_grown, any_same, any_sorted, kept_more}
use Rattle.ts_disk.proofs.flushing.places_above.Goals.{in-Some+in_ok-add_place, in_default}
use Rattle.ts_disk.proofs.flushing.places_above.Goals as goal

pub loop-path-preserved : goal.loop-path-preserved
loop-path-preserved c =
    let root = c.args.root.now in
    let paths = c.args.paths.now in
    let i = c.loop-path.path-index in
    let path = c.path-item.result in
    let old = c.loop-path.places.items in
    let new = c.match-branch-2.places.items in
    let P = λ (held : List (String Global)) (p : Bor Path). (p.now ≡ []) ⊎ Any (λ place. IsAboveAt root p.now (string_bytes place)) held in
    elim c.match-branch-2.branch [
      | in-Some+in_ok-add_place w ↦
          (let place = w.in-Some.place in
          let above : IsAboveAt root path.now (string_bytes place) = rw w.in-Some.is at c.in_ok-place.ensures.some in
          let grown : (new ≡ old) ⊎ (new ≡ old ++ place ∷ []) = rw (← w.places-is) at w.in_ok-add_place.ensures.kept in
          let there : Any (λ other. string_bytes other ≡ string_bytes place) new = rw (← w.places-is) at w.in_ok-add_place.ensures.there in
          let keep : (p : Bor Path) → P old p → P new p = λ p. ⊎_elim inl (λ held. inr (any_grown (λ other. IsAboveAt root p.now (string_bytes other)) old new place grown held)) in (
            kept_more (P old) (P new) paths i path c.loop-path-test.true c.path-item.is keep c.loop-path.invariant.0
                (inr (any_same (IsAboveAt root path.now) new (string_bytes place) there above)),
            all_grown (λ p s. IsAboveAt root p.now (string_bytes s)) paths i path old new place c.loop-path-test.true c.path-item.is grown above c.loop-path.invariant.1,
          ))
      | in_default w ↦
          (let same : old ≡ new = sym (ap (λ v. v.items) w.places-is) in
          let none : path.now ≡ [] = rw w.in_default.is at c.in_ok-place.ensures.none in (
            kept_more (P old) (P new) paths i path c.loop-path-test.true c.path-item.is (λ p held. subst (λ l. P l p) same held) c.loop-path.invariant.0 (inl none),
            subst (All (λ place. Any (λ p. IsAboveAt root p.now (string_bytes place)) paths)) same c.loop-path.invariant.1,
          ))
    ]

pub returns-clause-all : goal.returns-clause-all
returns-clause-all c = λ k d small.
    let root = c.args.root.now in
    let paths = c.args.paths.now in
    let P = λ (path : Bor Path). (path.now ≡ []) ⊎ Any (λ place. IsAboveAt root path.now (string_bytes place)) c.loop-path.places.items in
    let once = dedup_is _ c.sort_unstable.new.self.items c.dedup.new.self.items c.dedup.ensures.filtered in
    let path = get_or paths k d in
    ⊎_elim inl (λ held. inr (any_sorted (IsAboveAt root path.now) c.loop-path.places.items c.sort_unstable.new.self.items c.dedup.new.self.items c.sort_unstable.ensures.permutation once held))
    (subst (All P) (take_all c.loop-path.path-index paths c.loop-path-test.false) c.loop-path.invariant.0 k d small)

pub returns-clause-only : goal.returns-clause-only
returns-clause-only c =
    let P = λ (place : String Global). Any (λ path. IsAboveAt c.args.root.now path.now (string_bytes place)) c.args.paths.now in
    let sorted = All-permutation P c.loop-path.places.items c.sort_unstable.new.self.items c.sort_unstable.ensures.permutation c.loop-path.invariant.1 in
    subst (All P) (sym (dedup_is _ c.sort_unstable.new.self.items c.dedup.new.self.items c.dedup.ensures.filtered)) (All-dedup _ P c.sort_unstable.new.self.items sorted)
