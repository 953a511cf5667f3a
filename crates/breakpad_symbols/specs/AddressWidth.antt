-- Numbers of the width of an address.
use Rattle.std.specs.Prelude.{ℕ, ◌-◌, ◌%◌, ◌^◌}
use Rattle.breakpad_symbols.specs.declared.address_width.AddressWidth.{AddressWidth}
use Rattle.breakpad_symbols.specs.declared.address_width.AddressWidth.TheVariants.{Bits32, Bits64}

-- the number of bits
abbrev pub bits_of : AddressWidth → ℕ
bits_of Bits32 = 32
bits_of Bits64 = 64

-- the lowest bits of a number
abbrev pub cut : ℕ → ℕ → ℕ
cut bits number = number % 2 ^ bits

-- the number of so many bits that gives 0 if it is added: two's complement
abbrev pub negative : ℕ → ℕ → ℕ
negative bits number = cut bits (2 ^ bits - cut bits number)
