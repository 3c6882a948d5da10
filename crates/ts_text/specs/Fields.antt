-- The fields of a line.
use Rattle.std.specs.Prelude.{◌≡◌, ◌≢◌, ℕ, List, length, slice_index}

-- neither a plus nor a needless zero stands first
pub record IsPlain (field : List ℕ) : Type 0 where
  pub unsigned : slice_index field 0 ≢ 43
  pub unpadded : slice_index field 0 ≡ 48 → length field ≡ 1
