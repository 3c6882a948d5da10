use Rattle.std.proofs.Common.{◌≡◌, ◌++◌, sym, ap, subst, ◌∙◌}
use Rattle.std.proofs.lemmas.Bool.{false≢true}
use Rattle.std.proofs.lemmas.Str.{IsUtf8-append}
use Rattle.std.specs.Prelude.{IsUtf8}
use Rattle.std.specs.List.{AllByRecursion}
use Rattle.ts_name.specs.Paths.{IsName, place_text}
use Rattle.ts_name.proofs.Texts.{WrittenSoFar-more, WrittenSoFar-all}
use Rattle.ts_name.proofs.Utf8.{place_utf8}
use Rattle.ts_name.proofs.paths.Path.place_below.Goals as goal

pub loop-name-preserved : goal.loop-name-preserved
loop-name-preserved c =
    let found = c.in-Some.ensures in
    WrittenSoFar-more (λ name. name) _ _ _ _ _ _ _ c.loop-name.invariant found.0 found.1 (c.in_ok-extend_from_slice-2.ensures.items ∙ ap (λ z. z ++ c.in-Some.name.now) c.in_ok-push.ensures.items)

pub unreachable-requires : goal.unreachable-requires
unreachable-requires c =
    let all : c.loop-name.place.items ≡ c.args.root.now ++ place_text c.args.self.now = WrittenSoFar-all (λ name. name) _ _ _ _ c.loop-name.invariant c.in_default.ensures in
    false≢true (rw c.in-Err.is at c.from_utf8.ensures.succeeds (subst IsUtf8 (sym all) (IsUtf8-append c.args.root.now (place_text c.args.self.now) (subst IsUtf8 c.as_bytes.ensures.value c.as_bytes.ensures.utf8) (place_utf8 c.args.self.now (subst (λ path. AllByRecursion IsName path) c.self.view_is c.self.invariant.lawful.names)))))

pub returns : goal.returns
returns c =
    let all : c.loop-name.place.items ≡ c.args.root.now ++ place_text c.args.self.now = WrittenSoFar-all (λ name. name) _ _ _ _ c.loop-name.invariant c.in_default.ensures in
    ap (λ v. v.items) c.in-Ok.ensures.ok ∙ all
