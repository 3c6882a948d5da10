use Rattle.std.proofs.Common.{◌≡◌, ◌∷◌, length}
use Rattle.sha2.specs.Hashers.{Holds256}
use Rattle.ts_model.specs.Texts.{text}
use Rattle.ts_tree.proofs.Taken.{Taken}
use Rattle.ts_archive.specs.Endings.{header}
use Rattle.ts_archive.proofs.decoding.decode.Given as goal

abbrev pub invariant-loop-count : goal.invariant-loop-count
invariant-loop-count g l = record {
  taken : Taken l.fn.lines l.lines (header ∷ l.reader);
  hashed : Holds256 l.hasher (text (header ∷ l.reader));
  counted : l.count ≡ length l.reader;
}
