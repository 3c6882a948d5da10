use Rattle.std.proofs.Common.{◌≡◌, refl, subst}
use Rattle.std.specs.Prelude.{Any}
use Rattle.std.specs.String.{string_bytes}
use Rattle.ts_disk.proofs.Gathered.{any_last}
use Rattle.ts_disk.proofs.flushing.add_place.Goals as goal

pub returns-then-ends_with-clause-there : goal.returns-then-ends_with-clause-there
returns-then-ends_with-clause-there c =
    subst (λ all. Any (λ other. string_bytes other ≡ string_bytes c.args.place) all) c.as_slice.ensures.value
    (subst (λ bytes. Any (λ other. string_bytes other ≡ bytes) c.as_slice.result.now) c.as_str.ensures.value (c.ends_with.ensures c.if-ends_with.true))

pub returns-clause-there : goal.returns-clause-there
returns-clause-there c =
    any_last (λ other. string_bytes other ≡ string_bytes c.args.place) c.args.places.now.items c.push.new.self.items c.args.place c.in_ok-push.ensures.items refl
