-- A part of a print, as it is lent.
use Rattle.ts_name.specs.Paths.{Path}
use Rattle.ts_model.specs.Trees.{Listing}
use Rattle.ts_model.specs.declared.row.Stamp.{Stamp}

-- the path at which it stands, and its rows, relative to that path
pub record Part : Type 0 where
  pub top : Path
  pub rows : Listing Stamp
