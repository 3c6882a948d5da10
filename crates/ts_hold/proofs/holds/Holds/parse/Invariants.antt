use Rattle.std.proofs.Common.{◌≡◌, ◌++◌, length, map}
use Rattle.ts_model.specs.Texts.{text, rule_line, IsRules}
use Rattle.ts_hold.proofs.holds.Holds.parse.Given as goal

abbrev pub invariant-next : goal.invariant-next
invariant-next l = record {
  read : l.text ≡ text (map rule_line l.reader) ++ l.rest;
  lawful : IsRules l.reader;
}

abbrev pub decreases-next : goal.decreases-next
decreases-next l = length l.rest
