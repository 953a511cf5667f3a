-- Numbers of the width of an address, made from numbers of 64 bits.
use Rattle.std.proofs.Common.{◌≡◌, ◌<◌, ℕ, ◌+◌, ◌-◌, ◌%◌, ◌^◌, arith}
use Rattle.breakpad_symbols.specs.declared.address_width.AddressWidth.{AddressWidth}
use Rattle.breakpad_symbols.specs.declared.address_width.AddressWidth.TheVariants.{Bits32, Bits64}
use Rattle.breakpad_symbols.specs.AddressWidth.{bits_of, cut, negative}

-- a number of 64 bits keeps all of them
pub cut_whole : (n : ℕ) → n < 2 ^ 64 → n ≡ cut 64 n
cut_whole n h = omega (arith, h)

-- of a number that is cut to 64 bits the lowest are the same
pub cut_twice : (width : AddressWidth) (n : ℕ) → cut (bits_of width) (n % 2 ^ 64) ≡ cut (bits_of width) n
cut_twice Bits32 n = omega arith
cut_twice Bits64 n = omega arith

-- what 0 less a number of 64 bits is
pub negative_cut : (width : AddressWidth) (n : ℕ) → n < 2 ^ 64
    → cut (bits_of width) ((0 + (2 ^ 64 - n)) % 2 ^ 64) ≡ negative (bits_of width) n
negative_cut Bits32 n h = omega (arith, h)
negative_cut Bits64 n h = omega (arith, h)
