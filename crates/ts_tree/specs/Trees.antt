-- What the calls of a tree say.
--     node_of x        the content, with a file's bytes themselves
--     FilesFit rows    the files are no larger than files may be
--     EditFits edit    so are those that are put down
--     IsSubTreeBody rows    the rows of what is at a path and below it, relative to it
use Rattle.std.specs.Prelude.{ℕ, List}
use Rattle.std.specs.Borrow.{Bor}
use Rattle.std.specs.List.{AllByRecursion}
use Rattle.ts_model.specs.Texts.{FileFits}
use Rattle.ts_model.specs.Trees.{Listing, IsSubListing}
use Rattle.ts_model.specs.declared.row.Content.{Content}
use Rattle.ts_model.specs.declared.row.Content.TheVariants.{Absent, Dir, File}
use Rattle.ts_table.specs.declared.splice.Edit.{Edit}

abbrev pub node_of : Content (Bor (List ℕ)) → Content (List ℕ)
node_of Absent = Absent
node_of Dir = Dir
node_of (File bytes) = File bytes.now

abbrev pub FilesFit : Listing (List ℕ) → Type 0
FilesFit rows = AllByRecursion (λ row. FileFits row.content) rows

abbrev pub EditFits : Edit (List ℕ) → Type 0
EditFits edit = FilesFit edit.part

pub record IsSubTreeBody (rows : Listing (List ℕ)) : Type 0 where
  pub listing : IsSubListing rows
  pub files : FilesFit rows
