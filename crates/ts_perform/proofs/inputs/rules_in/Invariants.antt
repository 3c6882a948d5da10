use Rattle.std.proofs.Common.{◌≡◌, ◌+◌, length, map}
use Rattle.ts_model.specs.Texts.{IsRules, rule_line}
use Rattle.ts_tree.proofs.Taken.{Taken}
use Rattle.ts_perform.proofs.inputs.rules_in.Given as goal

abbrev pub invariant-loop-line : goal.invariant-loop-line
invariant-loop-line g l = record {
  taken : Taken l.fn.lines l.lines (map rule_line l.reader);
  lawful : IsRules l.reader;
  counted : l.line ≡ length l.reader + 1;
}
