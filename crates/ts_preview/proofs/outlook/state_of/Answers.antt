use Rattle.std.proofs.Common.{◌∙◌, ◌-◌, ◌^◌, ap, count_by, min, sum_by}
use Rattle.ts_model.specs.declared.row.Row.{Row}
use Rattle.ts_model.specs.declared.row.Stamp.{Stamp}
use Rattle.ts_preview.specs.Outlooks.{file_size, is_file}
use Rattle.ts_preview.proofs.outlook.state_of.Goals as goal

pub returns : goal.returns
returns c = record {
  change = c.change_between.ensures;
  files = c.count_files.ensures ∙ ap (count_by (λ (row : Row Stamp). is_file row.content)) c.sub-rows.ensures;
  bytes = c.count_bytes.ensures ∙ ap (λ rows. min (sum_by (λ (row : Row Stamp). file_size row.content) rows) (2 ^ 64 - 1)) c.sub-rows.ensures;
}
