use Rattle.std.proofs.Common.{sym, refl, ap, ◌∙◌, subst}
use Rattle.std.proofs.lemmas.Bool.{false≢true}
use Rattle.std.proofs.lemmas.Option.{slice_get_within}
use Rattle.ts_model.specs.Plans.{IsRange}
use Rattle.ts_model.specs.declared.row.Stamp.{Stamp}
use Rattle.ts_check.proofs.Scans.{item_at}
use Rattle.ts_check.proofs.Staging.{source_lists, IsPieceOf-from, IsPieceIn-from, no_row, no_file, file_at, one_file}
use Rattle.ts_check.proofs.pieces.is_piece.Goals as goal

pub returns-in_default-row_of : goal.returns-in_default-row_of
returns-in_default-row_of c = (
  λ e. absurd (false≢true e),
  λ piece. absurd (
      no_row c.args.plan.now c.in-Some.rows.now c.args.e c.args.offset c.args.length c.args.path.now c.in_default-row_of.ensures
      (IsPieceOf-from c.args.first.now c.args.second.now c.args.plan.now c.in-Some.rows.now c.args.e c.args.offset c.args.length c.args.path.now c.in-Some.ensures.some piece)),
)

pub bounds-rows-row : goal.bounds-rows-row
bounds-rows-row c = let at = c.in-Some-row_of.ensures in slice_get_within c.in-Some.rows.now c.in-Some-row_of.row at.0 at.1

pub returns-in_default-file_size : goal.returns-in_default-file_size
returns-in_default-file_size c =
    let at = c.in-Some-row_of.ensures in
    let within = slice_get_within c.in-Some.rows.now c.in-Some-row_of.row at.0 at.1 in
    let here = item_at c.in-Some.rows.now c.in-Some.rows.now c.in-Some-row_of.row c.index-rows-row.result refl within c.index-rows-row.is in
    let lists = source_lists c.args.first.now c.args.second.now c.args.plan.now c.args.e c.in-Some.rows.now c.in-Some.ensures.some c.requires.first c.requires.second in (
      λ e. absurd (false≢true e),
      λ piece. absurd (
          no_file c.args.plan.now c.in-Some.rows.now c.args.e c.args.offset c.args.length c.in-Some-row_of.row c.args.path.now c.index-rows-row.result lists at here c.in_default-file_size.ensures
          (IsPieceOf-from c.args.first.now c.args.second.now c.args.plan.now c.in-Some.rows.now c.args.e c.args.offset c.args.length c.args.path.now c.in-Some.ensures.some piece)),
    )

pub returns-then-is_below_entry : goal.returns-then-is_below_entry
returns-then-is_below_entry c =
    let at = c.in-Some-row_of.ensures in
    let within = slice_get_within c.in-Some.rows.now c.in-Some-row_of.row at.0 at.1 in
    let here = item_at c.in-Some.rows.now c.in-Some.rows.now c.in-Some-row_of.row c.index-rows-row.result refl within c.index-rows-row.is in
    let lists = source_lists c.args.first.now c.args.second.now c.args.plan.now c.args.e c.in-Some.rows.now c.in-Some.ensures.some c.requires.first c.requires.second in
    let entry = c.is_below_entry.ensures.0 c.if-is_below_entry.true in
    let size = c.in-Some-file_size.ensures in
    let file = file_at c.in-Some.rows.now c.in-Some-row_of.row c.args.path.now c.index-rows-row.result size.0 lists at here size.1 in (
      λ ok. IsPieceIn-from c.args.first.now c.args.second.now c.args.plan.now c.in-Some.rows.now c.args.e c.args.offset c.args.length c.args.path.now c.in-Some.ensures.some (record {
        entry = entry.0;
        is = entry.1;
        above = entry.2;
        stamp = size.0;
        file = file;
        range = subst (λ z. IsRange z c.args.offset c.args.length) size.2 (c.is_range.ensures.0 ok);
      }),
      λ piece.
          let h = IsPieceOf-from c.args.first.now c.args.second.now c.args.plan.now c.in-Some.rows.now c.args.e c.args.offset c.args.length c.args.path.now c.in-Some.ensures.some piece in
          c.is_range.ensures.1 (subst (λ z. IsRange z c.args.offset c.args.length) (ap (λ (z : Stamp). z.size) (one_file h.stamp size.0 (sym h.file ∙ file)) ∙ sym size.2) h.range),
    )
