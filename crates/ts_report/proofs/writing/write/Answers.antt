use Rattle.std.proofs.Common.{◌≡◌, ◌∙◌, length, ap}
use Rattle.ts_report.proofs.Fated.{fates_length}
use Rattle.ts_report.proofs.writing.write.Goals as goal

pub write_fates-requires : goal.write_fates-requires
write_fates-requires g c =
    let found : length c.in_ok-fates.fates.items ≡ length c.as_slice-entries.result.now = ap length c.in_ok-fates.ensures.fates ∙ fates_length (g.E.Results.endings c.args.results.now) c.as_slice.result.now 0 c.as_slice-entries.result.now in
    ap length c.deref.ensures.value ∙ found
