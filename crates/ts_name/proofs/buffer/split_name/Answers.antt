use Rattle.std.proofs.Common.{◌+◌, sym, ◌∙◌, ap, take, ◌++◌, ◌∷◌}
use Rattle.std.proofs.lemmas.List.{take_rest}
use Rattle.ts_name.proofs.Buffers.{no_end, first_end}
use Rattle.ts_name.proofs.buffer.split_name.Goals as goal

pub returns-in_err-end : goal.returns-in_err-end
returns-in_err-end c = rw c.from_residual.ensures (no_end c.args.bytes.now (sym c.name_end.ensures ∙ c.in_err-end.was))

pub returns : goal.returns
returns c =
    let bytes = c.args.bytes.now in
    let end = c.in_ok-end.end in
    let at = first_end bytes end (sym c.name_end.ensures ∙ c.in_ok-end.was) in
    (at.0 ∙ ap (λ z. take end bytes ++ 0 ∷ z) (sym (take_rest bytes (end + 1))), at.1)
