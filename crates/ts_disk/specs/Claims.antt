-- The place of an archive, before and after a call.
--     KeepsPlace before after          the archive and the new one beside it still have their places, and are of the same pair
--     RemembersForgotten before after  in which replica another pair was forgotten, it still says
use Rattle.std.specs.Prelude.{◌≡◌, IsTrue}
use Rattle.ts_disk.specs.declared.archive.ArchivePlace.{ArchivePlace}

abbrev pub KeepsPlace : ArchivePlace → ArchivePlace → Type 0
KeepsPlace before after = (after.place ≡ before.place) × (after.new ≡ before.new) × (after.pair ≡ before.pair)

abbrev pub RemembersForgotten : ArchivePlace → ArchivePlace → Type 0
RemembersForgotten before after =
    (IsTrue before.has_first_forgotten → IsTrue after.has_first_forgotten) × (IsTrue before.has_second_forgotten → IsTrue after.has_second_forgotten)
