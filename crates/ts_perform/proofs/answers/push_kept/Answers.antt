use Rattle.std.proofs.Common.{◌++◌, codes, ap, ap₂, ◌∙◌}
use Rattle.ts_name.specs.Paths.{path_text}
use Rattle.ts_perform.proofs.FaultLines.{with_place}
use Rattle.ts_perform.proofs.answers.push_kept.Goals as goal

pub returns : goal.returns
returns c =
    let path = c.args.path.now in
    let to_path = c.in_ok-write_text.ensures ∙ ap (λ z. z ++ path_text path) c.in_ok-extend_from_slice.ensures.items in
    let to_place = c.in_ok-extend_from_slice-2.ensures.items ∙ ap (λ z. z ++ codes " as ") to_path in
    c.in_ok-extend_from_slice-3.ensures.items ∙ ap₂ (λ z w. z ++ w) to_place c.as_bytes.ensures.value
    ∙ with_place c.args.line.now.items (codes "twosync: kept ") (path_text path) (codes " as ") c.args.place.now
