use Rattle.std.proofs.Common.{◌++◌, sym, ap, ◌∙◌}
use Rattle.ts_name.specs.Paths.{place_text}
use Rattle.ts_name.proofs.Prefixes.{below_gives, not_above}
use Rattle.ts_disk.proofs.Stages.{stage_in_own}
use Rattle.ts_disk.proofs.stage.DiskStage.place.Goals as goal

pub returns-clause-stage : goal.returns-clause-stage
returns-clause-stage g c =
    let entry = c.args.entry.now in
    let rest = c.in-Some-2.rest in
    let root = c.root_from.result.now in
    let stage = stage_in_own root _ _ c.args.number (c.as_str.ensures.value ∙ c.in_ok-own.ensures) c.in_ok-stage.ensures in
    let there = rw c.in-Some-2.is at c.in_ok-rest.ensures.value in
    let split = below_gives entry.path c.args.path.now rest (sym there) in
    let file = c.in_ok-file.ensures ∙ ap (λ at. at ++ place_text rest) (c.as_str-2.ensures.value ∙ stage) in
    record {
      root = root;
      copied = (c.in-Some.from, sym c.source.ensures ∙ c.in-Some.is, c.root_from.ensures);
      own = c.in_ok-own.ensures;
      stage = stage;
      file = (rest, split, file);
    }

pub returns-in_default-2-clause-none : goal.returns-in_default-2-clause-none
returns-in_default-2-clause-none g c from is = not_above c.args.entry.now.path c.args.path.now (sym c.in_ok-rest.ensures.value ∙ c.in_default-2.is)
