-- Rows that move from a table into parts, and from parts into a table.
--     rerouted paths rows      the rows, each at the next of these paths
--     taken p rows, passed p rows    the rows that go with p, and those behind them
--     parted rows paths        the parts that are taken out
--     SlotFits rows slot       the slot has a path for each row below its own, and room for these
--     PartsFit slots parts     each slot has a path for each row of its part, and room for these
use Rattle.std.specs.Prelude.{◌≡◌, ◌≤◌, List, [], ◌∷◌, length, map, vec_capacity}
use Rattle.std.specs.List.{AllByRecursion}
use Rattle.ts_name.specs.Paths.{Path}
use Rattle.ts_model.specs.Trees.{Listing, IsSubListing}
use Rattle.ts_table.specs.Tables.{placed, relative, rows_below}
use Rattle.ts_table.specs.Splices.{comes_before, lead, stands_below, trail}
use Rattle.ts_table.specs.declared.frame.Room.{Room}
use Rattle.ts_table.specs.declared.frame.Slot.{Slot}
use Rattle.ts_table.specs.declared.splice.Put.{Put}

abbrev pub rerouted : {F : Type 0} → List Path → Listing F → Listing F
rerouted [] rows = []
rerouted (p ∷ paths) [] = []
rerouted (p ∷ paths) (row ∷ rows) = record { path = p; content = row.content } ∷ rerouted paths rows

abbrev pub paths_of : {F : Type 0} → Listing F → List Path
paths_of rows = map (λ row. row.path) rows

-- ---- out of a table

abbrev pub taken : {F : Type 0} → Path → Listing F → Listing F
taken p rows = lead (stands_below p) (trail (comes_before p) rows)

abbrev pub passed : {F : Type 0} → Path → Listing F → Listing F
passed p rows = trail (stands_below p) (trail (comes_before p) rows)

abbrev pub parted : {F : Type 0} → Listing F → List Path → List (Listing F)
parted rows [] = []
parted rows (p ∷ paths) = relative p (taken p rows) ∷ parted (passed p rows) paths

-- nothing is put at the path
abbrev pub cleared : {F : Type 0} → Path → Put F
cleared p = record { path = p; rows = [] }

abbrev pub slot_paths : {F : Type 0} → List (Slot F) → List Path
slot_paths slots = map (λ slot. slot.path) slots

pub record HasRoom {F : Type 0} (slot : Slot F) : Type 0 where
  pub empty : slot.room.items ≡ []
  pub room : length slot.names.items ≤ vec_capacity slot.room

pub record SlotFits {F : Type 0} (rows : Listing F) (slot : Slot F) : Type 0 where
  pub names : slot.names.items ≡ paths_of (relative slot.path (rows_below slot.path rows))
  pub room : HasRoom slot

pub record RoomFits {F : Type 0} (rows : Listing F) (room : Room F) : Type 0 where
  pub slots : AllByRecursion (λ slot. SlotFits rows slot) room.slots.items
  pub no_rows : room.rows.items ≡ []
  pub rows_room : length rows ≤ vec_capacity room.rows
  pub no_paths : room.paths.items ≡ []
  pub paths_room : length room.slots.items ≤ vec_capacity room.paths
  pub no_parts : room.parts.items ≡ []
  pub parts_room : length room.slots.items ≤ vec_capacity room.parts

-- each slot has a path for each of the rows that go with its own, when its turn comes
abbrev pub SlotsFit : {F : Type 0} → Listing F → List (Slot F) → Type 0
SlotsFit rows [] = Unit {0}
SlotsFit rows (slot ∷ slots) =
    (slot.names.items ≡ paths_of (relative slot.path (taken slot.path rows))) × IsSubListing (relative slot.path (taken slot.path rows))
    × HasRoom slot × SlotsFit (passed slot.path rows) slots

-- ---- into a table

abbrev pub PartsFit : {F : Type 0} → List (Slot F) → List (Listing F) → Type 0
PartsFit [] parts = Unit {0}
PartsFit (slot ∷ slots) [] = ⊥
PartsFit (slot ∷ slots) (part ∷ parts) = (slot.names.items ≡ paths_of (placed slot.path part)) × HasRoom slot × PartsFit slots parts
