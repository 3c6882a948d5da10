use Rattle.std.proofs.Common.{◌≡◌, ◌++◌, flat_map, take}
use Rattle.ts_model.specs.Texts.{symbol_text}
use Rattle.ts_hold.proofs.write.push_pattern.Given as goal

abbrev pub invariant-loop-symbol : goal.invariant-loop-symbol
invariant-loop-symbol l = l.out.items ≡ l.fn.out.items ++ flat_map symbol_text (take l.symbol-index l.pattern)
