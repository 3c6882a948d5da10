-- How keys are made.
use Rattle.std.specs.Prelude.{ℕ, ◌+◌, ◌*◌, ◌%◌, ◌^◌}

-- a key with one number more
unfoldable pub mixed : ℕ → ℕ → ℕ
mixed before more = ((before + more) % 2 ^ 64 * 11400714819323198485) % 2 ^ 64
