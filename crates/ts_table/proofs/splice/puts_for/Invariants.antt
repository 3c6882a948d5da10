use Rattle.std.proofs.Common.{◌≡◌, ◌++◌, ◌+◌, length, map, sum_by}
use Rattle.ts_table.specs.Splices.{ArePaths, put_of}
use Rattle.ts_table.proofs.Splicing.{AreParts}
use Rattle.ts_table.proofs.splice.puts_for.Given as goal

abbrev pub invariant-loop-edit : goal.invariant-loop-edit
invariant-loop-edit g l = record {
  puts_are : l.puts.items ≡ map put_of l.yielded;
  room_is : l.room ≡ l.initial.room + sum_by (λ put. length put.rows) l.puts.items;
  parts : AreParts l.yielded;
  paths : ArePaths l.yielded;
  left : l.fn.edits.items ≡ l.yielded ++ l.edit-iterator.rest.items;
}
