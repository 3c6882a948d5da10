use Rattle.std.proofs.Common.{◌≡◌, ◌++◌, ◌∷◌, [], length, length-append, arith, ap, ap₂, ◌∙◌}
use Rattle.ts_name.proofs.Buffers.{Holds, Holds-same, measured, Holds-child}
use Rattle.ts_name.proofs.paths.Path.child.Goals as goal

pub concatenated-requires : goal.concatenated-requires
concatenated-requires c =
    let held : Holds c.self.inside.bytes c.args.self.now = record { buffer = c.self.invariant; path_is = c.self.view_is } in
    let m = measured (Holds-same c.as_slice.ensures held) in
    omega (arith, m.long, m.names, m.size, c.as_bytes-name.ensures.lawful.short, ap length c.as_bytes-name.ensures.value)

pub share-requires : goal.share-requires
share-requires c =
    let held : Holds c.self.inside.bytes c.args.self.now = record { buffer = c.self.invariant; path_is = c.self.view_is } in
    let m = measured (Holds-same c.as_slice.ensures held) in
    omega (arith, m.long, m.names, m.size, c.as_bytes-name.ensures.lawful.short, ap length c.as_bytes-name.ensures.value, c.in_ok-push.ensures.len, ap length c.in_ok-bytes.ensures, length-append c.as_slice.result.now c.as_bytes-name.result.now)

child_held : (c : goal.In_ok-shared) → Holds c.in_ok-shared.shared (c.args.self.now ++ c.args.name.now ∷ [])
child_held c =
    let held : Holds c.self.inside.bytes c.args.self.now = record { buffer = c.self.invariant; path_is = c.self.view_is } in
    let e : c.push.new.self.items ≡ (c.self.inside.bytes ++ c.args.name.now) ++ 0 ∷ [] = c.in_ok-push.ensures.items ∙ ap (λ z. z ++ 0 ∷ []) (c.in_ok-bytes.ensures ∙ ap₂ ◌++◌ c.as_slice.ensures c.as_bytes-name.ensures.value) in
    Holds-same c.in_ok-shared.ensures (Holds-child _ _ _ _ held c.as_bytes-name.ensures.lawful (omega arith) (omega (arith, ap length c.as_bytes-name.ensures.value)) e)

pub invariant_of-result : goal.invariant_of-result
invariant_of-result c = (child_held c).buffer

pub returns-clause-ok : goal.returns-clause-ok
returns-clause-ok c = (child_held c).path_is

pub returns-clause-lawful : goal.returns-clause-lawful
returns-clause-lawful c = (child_held c).buffer.lawful
