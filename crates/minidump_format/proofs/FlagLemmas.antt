-- Lemmas on sets of bits that are cut to the bits that have a name.
use Rattle.std.proofs.Common.{◌≡◌, refl, ℕ, bit_and}
use Rattle.std.proofs.lemmas.Nat.{and_assoc}
use Rattle.bitflags.specs.Sets.{known_from, known_bits}
use Rattle.minidump_format.specs.Flags.{has_flag, misc_info_flags}

-- the bits that have a name, together
misc_info_bits : known_bits misc_info_flags ≡ 0x3f7
unfolding misc_info_flags known_from
misc_info_bits = refl

-- a number that is cut to the bits that are known has a flag that is known where the number has it
has_known : (flags known flag : ℕ) → bit_and known flag ≡ flag → has_flag (bit_and flags known) flag ≡ has_flag flags flag
has_known flags known flag inside = rw (and_assoc flag flags known, inside) refl

-- a number that is cut to the flags of the misc information has one of them where the number has it
pub has_misc_info_flag : (kept flags flag : ℕ) → kept ≡ bit_and flags (known_bits misc_info_flags) → bit_and 0x3f7 flag ≡ flag
    → has_flag kept flag ≡ has_flag flags flag
has_misc_info_flag kept flags flag cut inside = rw (cut, misc_info_bits) (has_known flags 0x3f7 flag inside)
