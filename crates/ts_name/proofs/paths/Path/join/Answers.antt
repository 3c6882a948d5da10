use Rattle.std.proofs.Common.{◌≡◌, ◌++◌, length, length-append, arith, ap, ap₂, ◌∙◌}
use Rattle.ts_name.proofs.Buffers.{Holds, Holds-same, measured, Holds-append, IsPath-append, lawful_held}
use Rattle.ts_name.proofs.paths.Path.join.Goals as goal

-- what was cut apart before, in one
whole : (c : goal.In-Some) → Holds c.in-Some.whole (c.args.self.now ++ c.args.rest.now)
whole c =
    let first : Holds c.self.inside.bytes c.args.self.now = record { buffer = c.self.invariant; path_is = c.self.view_is } in
    let second : Holds c.rest.inside.bytes c.args.rest.now = record { buffer = c.rest.invariant; path_is = c.rest.view_is } in
    let e : c.in-Some.whole ≡ c.as_slice-front.result.now ++ c.rest.inside.bytes = rw c.in-Some.is at c.in_ok-whole.ensures in
    Holds-append _ _ _ _ first second (IsPath-append _ _ (lawful_held first) (lawful_held second) (omega arith) (omega arith)) _ (e ∙ ap (λ z. z ++ c.rest.inside.bytes) c.as_slice-front.ensures)

pub invariant_of-result : goal.invariant_of-result
invariant_of-result c = (whole c).buffer

pub returns-in-Some-clause-ok : goal.returns-in-Some-clause-ok
returns-in-Some-clause-ok c = (whole c).path_is

pub returns-in-Some-clause-lawful : goal.returns-in-Some-clause-lawful
returns-in-Some-clause-lawful c = (whole c).buffer.lawful

pub concatenated-requires : goal.concatenated-requires
concatenated-requires c =
    let first : Holds c.self.inside.bytes c.args.self.now = record { buffer = c.self.invariant; path_is = c.self.view_is } in
    let second : Holds c.rest.inside.bytes c.args.rest.now = record { buffer = c.rest.invariant; path_is = c.rest.view_is } in
    let m = measured (Holds-same c.as_slice-front.ensures first) in
    let n = measured (Holds-same c.as_slice.ensures second) in
    omega (arith, m.long, m.names, m.size, n.long, n.names, n.size)

pub share-requires : goal.share-requires
share-requires c =
    let first : Holds c.self.inside.bytes c.args.self.now = record { buffer = c.self.invariant; path_is = c.self.view_is } in
    let second : Holds c.rest.inside.bytes c.args.rest.now = record { buffer = c.rest.invariant; path_is = c.rest.view_is } in
    let m = measured (Holds-same c.as_slice-front.ensures first) in
    let n = measured (Holds-same c.as_slice.ensures second) in
    omega (arith, m.long, m.names, m.size, n.long, n.names, n.size, ap length c.in_ok-bytes.ensures, length-append c.as_slice-front.result.now c.as_slice.result.now)

joined : (c : goal.In_ok-shared) → Holds c.in_ok-shared.shared (c.args.self.now ++ c.args.rest.now)
joined c =
    let first : Holds c.self.inside.bytes c.args.self.now = record { buffer = c.self.invariant; path_is = c.self.view_is } in
    let second : Holds c.rest.inside.bytes c.args.rest.now = record { buffer = c.rest.invariant; path_is = c.rest.view_is } in
    let e : c.in_ok-bytes.bytes.items ≡ c.self.inside.bytes ++ c.rest.inside.bytes = c.in_ok-bytes.ensures ∙ ap₂ ◌++◌ c.as_slice-front.ensures c.as_slice.ensures in
    Holds-same c.in_ok-shared.ensures (Holds-append _ _ _ _ first second (IsPath-append _ _ (lawful_held first) (lawful_held second) (omega arith) (omega arith)) _ e)

pub invariant_of-result-2 : goal.invariant_of-result-2
invariant_of-result-2 c = (joined c).buffer

pub returns-clause-ok : goal.returns-clause-ok
returns-clause-ok c = (joined c).path_is

pub returns-clause-lawful : goal.returns-clause-lawful
returns-clause-lawful c = (joined c).buffer.lawful
