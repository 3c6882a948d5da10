use Rattle.std.proofs.Common.{◌≡◌, ◌++◌, ◌≤◌, flat_map, length}
use Rattle.std.specs.List.{AllByRecursion}
use Rattle.ts_model.specs.Texts.{symbol_text, SymbolFits}
use Rattle.ts_hold.proofs.symbols.parse_pattern.Given as goal

abbrev pub invariant-next : goal.invariant-next
invariant-next l = record {
  read : l.text ≡ flat_map symbol_text l.symbols.items ++ l.rest;
  fit : AllByRecursion SymbolFits l.symbols.items;
  short : length l.symbols.items ≤ 255;
}

abbrev pub decreases-next : goal.decreases-next
decreases-next l = length l.rest
