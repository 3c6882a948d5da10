-- What was staged, by what is kept of it.
--     staging kept     of a piece
--     so_far piece     of a file, which has no bytes before its first piece
use Rattle.std.specs.Prelude.{Option, Some, None, [], true, false}
use Rattle.std.specs.declared.boxed.Box.{Box}
use Rattle.ts_stage.specs.Stagings.{Staging}
use Rattle.ts_stage.specs.declared.kept.Kept.{Kept}
use Rattle.ts_stage.specs.declared.kept.Kept.TheVariants.{Held, Stored, Whole}

abbrev pub staging : Kept → Staging
staging (Held bytes) = record { bytes = bytes; held = true }
staging (Stored told) = record { bytes = told; held = false }
staging (Whole told whole) = record { bytes = told; held = false }

abbrev pub so_far : {Z : Type 0} → Option (Box Staging Z) → Staging
so_far None = record { bytes = []; held = true }
so_far (Some piece) = piece.value
