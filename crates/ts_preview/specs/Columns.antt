-- Words in columns.
--     pad_right width word    the word, and spaces up to this width behind it
--     pad_left width word     the same with the spaces before it
use Rattle.std.specs.Prelude.{ℕ, ◌-◌, List, ◌++◌, length, replicate}

abbrev pub pad_right : ℕ → List ℕ → List ℕ
pad_right width word = word ++ replicate (width - length word) 32

abbrev pub pad_left : ℕ → List ℕ → List ℕ
pad_left width word = replicate (width - length word) 32 ++ word
