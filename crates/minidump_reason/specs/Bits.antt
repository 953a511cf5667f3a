-- The bit fields of a number.
use Rattle.std.specs.Prelude.{ℕ, ◌/◌, ◌%◌, ◌^◌}

-- the bit field of `count` bits that begins at the bit `lowest`
unfoldable pub bits_of : ℕ → ℕ → ℕ → ℕ
bits_of number lowest count = number / 2 ^ lowest % 2 ^ count
