use Rattle.std.proofs.Common.{◌∷◌, ◌++◌, [], codes, decimal, sym, ap, ◌∙◌, append_assoc}
use Rattle.std.proofs.lemmas.Bool.{false≢true}
use Rattle.ts_name.specs.Paths.{path_text}
use Rattle.ts_explain.proofs.FaultLines.{at_root, at_path, with_path}
use Rattle.ts_explain.proofs.lines.push_fault.Goals as goal

pub returns-in_default : goal.returns-in_default
returns-in_default c =
    let line = c.args.line.now.items in
    rw c.in_default.is ((rw c.from.ensures at c.in_ok-push_decimal.ensures.ok) ∙ ap (λ z. z ++ decimal c.args.number) c.in_ok-extend_from_slice.ensures.items ∙ append_assoc line (codes "twosync: fault ") (decimal c.args.number))

pub returns-in_ok-write_text : goal.returns-in_ok-write_text
returns-in_ok-write_text c =
    let path = c.in-Some.path.now in
    let written = c.in_ok-write_text.ensures ∙ ap (λ z. z ++ path_text path) (c.in_ok-push.ensures.items ∙ ap (λ z. z ++ 32 ∷ []) ((rw c.from.ensures at c.in_ok-push_decimal.ensures.ok) ∙ ap (λ z. z ++ decimal c.args.number) c.in_ok-extend_from_slice.ensures.items)) in
    rw c.in-Some.is (written ∙ with_path c.args.line.now.items (codes "twosync: fault ") (decimal c.args.number) (path_text path)
    ∙ ap (λ z. c.args.line.now.items ++ z) (at_path c.args.number path (λ root. false≢true (sym c.if-not-is_root.true ∙ c.is_root.ensures.1 root))))

pub returns-else-not-is_root : goal.returns-else-not-is_root
returns-else-not-is_root c =
    let line = c.args.line.now.items in
    let written = (rw c.from.ensures at c.in_ok-push_decimal.ensures.ok) ∙ ap (λ z. z ++ decimal c.args.number) c.in_ok-extend_from_slice.ensures.items ∙ append_assoc line (codes "twosync: fault ") (decimal c.args.number) in
    rw c.in-Some.is (written ∙ ap (λ z. line ++ z) (at_root c.args.number c.in-Some.path.now (c.is_root.ensures.0 c.if-not-is_root.false)))
