-- What a scan finds in a file.
--     HasStamp x stamp                 x is a file, and the stamp is that of its bytes
--     HasRead told p offset bytes      these bytes were read from the file at p, as many as the offset says
use Rattle.std.specs.Prelude.{◌≡◌, ℕ, ◌≤◌, ◌<◌, ◌^◌, List, length, take, IfSome}
use Rattle.ts_name.specs.Paths.{Path}
use Rattle.ts_model.specs.Trees.{at, stamp_of}
use Rattle.ts_model.specs.declared.row.Content.{Content}
use Rattle.ts_model.specs.declared.row.Content.TheVariants.{File}
use Rattle.ts_model.specs.declared.row.Stamp.{Stamp}
use Rattle.ts_scan.specs.Scans.{Told}

abbrev pub HasStamp : Content (List ℕ) → Stamp → Type 0
HasStamp x stamp = (bytes : List ℕ) × (x ≡ File bytes) × (stamp ≡ stamp_of bytes)

-- a file that begins with these bytes, and has fewer than a stamp can count
abbrev pub BeginsWith : Content (List ℕ) → List ℕ → Type 0
BeginsWith x front = (bytes : List ℕ) × (x ≡ File bytes) × (length bytes < 2 ^ 64) × (length front ≤ length bytes) × (front ≡ take (length front) bytes)

pub record HasRead (told : Told) (p : Path) (offset : ℕ) (front : List ℕ) : Type 0 where
  pub count : length front ≡ offset
  pub told_bytes : IfSome told (λ tree. BeginsWith (at tree p) front)
