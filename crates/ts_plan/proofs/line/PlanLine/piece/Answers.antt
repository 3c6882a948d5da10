use Rattle.std.proofs.Common.{◌∷◌, ◌++◌, decimal, sym, ◌∙◌}
use Rattle.ts_name.proofs.Spelling.{cut_at}
use Rattle.ts_name.specs.Paths.{path_text}
use Rattle.ts_plan.proofs.Words.{short_word, number_parts, refuse_piece, path_refused}
use Rattle.ts_plan.proofs.line.PlanLine.piece.Goals as goal

pub returns-in_default-short_number : goal.returns-in_default-short_number
returns-in_default-short_number c =
    refuse_piece c.args.fields.now (λ e offset size p fits same.
    let first = cut_at 32 c.in-Some.word.now (decimal e) c.in-Some.rest.now (decimal offset ++ 32 ∷ (decimal size ++ 32 ∷ path_text p)) c.in-Some.ensures.word (short_word e fits.0) (sym c.in-Some.ensures.found ∙ same) in
    c.in_default-short_number.ensures.none e fits.0 first.0)

pub returns-in_default-number_then : goal.returns-in_default-number_then
returns-in_default-number_then c =
    refuse_piece c.args.fields.now (λ e offset size p fits same.
    let first = cut_at 32 c.in-Some.word.now (decimal e) c.in-Some.rest.now (decimal offset ++ 32 ∷ (decimal size ++ 32 ∷ path_text p)) c.in-Some.ensures.word (short_word e fits.0) (sym c.in-Some.ensures.found ∙ same) in
    c.in_default-number_then.ensures.none offset (decimal size ++ 32 ∷ path_text p) fits.1 first.1)

pub returns-in_default-number_then-2 : goal.returns-in_default-number_then-2
returns-in_default-number_then-2 c =
    refuse_piece c.args.fields.now (λ e offset size p fits same.
    let first = cut_at 32 c.in-Some.word.now (decimal e) c.in-Some.rest.now (decimal offset ++ 32 ∷ (decimal size ++ 32 ∷ path_text p)) c.in-Some.ensures.word (short_word e fits.0) (sym c.in-Some.ensures.found ∙ same) in
    let second = number_parts c.in-Some-number_then.offset offset c.in-Some-number_then.rest.now (decimal size ++ 32 ∷ path_text p) c.in-Some-number_then.ensures.small fits.1 (sym c.in-Some-number_then.ensures.found ∙ first.1) in
    c.in_default-number_then-2.ensures.none size (path_text p) fits.2 second.1)

pub returns-in-Err : goal.returns-in-Err
returns-in-Err c =
    path_refused c.in-Err.fault c.in-Some-number_then-2.text.now _ c.in-Err.ensures (λ no. refuse_piece c.args.fields.now (λ e offset size p fits same.
    let first = cut_at 32 c.in-Some.word.now (decimal e) c.in-Some.rest.now (decimal offset ++ 32 ∷ (decimal size ++ 32 ∷ path_text p)) c.in-Some.ensures.word (short_word e fits.0) (sym c.in-Some.ensures.found ∙ same) in
    let second = number_parts c.in-Some-number_then.offset offset c.in-Some-number_then.rest.now (decimal size ++ 32 ∷ path_text p) c.in-Some-number_then.ensures.small fits.1 (sym c.in-Some-number_then.ensures.found ∙ first.1) in
    let third = number_parts c.in-Some-number_then-2.length size c.in-Some-number_then-2.text.now (path_text p) c.in-Some-number_then-2.ensures.small fits.2 (sym c.in-Some-number_then-2.ensures.found ∙ second.1) in
    no p fits.3 third.1))
