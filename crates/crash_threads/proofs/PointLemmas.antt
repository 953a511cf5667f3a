-- No word stands past the last address.
use Rattle.std.proofs.Common.{◌≡◌, ℕ, ◌≤◌, ◌^◌, false, None, refl, arith}
use Rattle.std.proofs.lemmas.Bool.Decides.{nat_tests}
use Rattle.minidump.specs.declared.system_info.PointerWidth.{PointerWidth}
use Rattle.minidump.specs.declared.system_info.PointerWidth.TheVariants.{Bits32, Bits64, Unknown}
use Rattle.stack_walk.specs.Addresses.{is_address}
use Rattle.stack_walk.specs.Frames.{StackValue}
use Rattle.crash_threads.specs.Point.{word_in}

-- a number of more than 64 bits is no address
no_address : (width : PointerWidth) (number : ℕ) → 2 ^ 64 ≤ number → is_address width number ≡ false
no_address Bits32 number far = grind (arith, nat_tests)
no_address Bits64 number far = grind (arith, nat_tests)
no_address Unknown number far = grind (arith, nat_tests)

pub no_word : (s : StackValue) (address : ℕ) → 2 ^ 64 ≤ address → None ≡ word_in s address
no_word s address far = rw (no_address s.width address far) refl
