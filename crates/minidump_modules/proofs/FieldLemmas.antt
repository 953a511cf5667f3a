-- A number of 32 bits inside a record is that of the four bytes which are read for it.
use Rattle.std.proofs.Common.{◌≡◌, ℕ, ◌+◌, ◌-◌, List, [], ◌∷◌, take, drop, slice_range, arith, refl}
use Rattle.minidump_bytes.specs.declared.endian.Endian.{Endian}
use Rattle.minidump_bytes.specs.declared.endian.Endian.TheVariants.{Little, Big}
use Rattle.minidump_bytes.specs.Number.{number, number_at}

first_four : (order : Endian) (bytes : List ℕ) → number order 4 (take 4 bytes) ≡ number order 4 bytes
unfolding number
first_four order [] = refl
first_four order (a ∷ []) = refl
first_four order (a ∷ b ∷ []) = refl
first_four order (a ∷ b ∷ c ∷ []) = refl
first_four Little (a ∷ b ∷ c ∷ d ∷ bytes) = refl
first_four Big (a ∷ b ∷ c ∷ d ∷ bytes) = refl

pub number_inside : (order : Endian) (offset : ℕ) (bytes : List ℕ) → number_at order 4 0 (slice_range bytes offset (offset + 4)) ≡ number_at order 4 offset bytes
number_inside order offset bytes =
    let size : offset + 4 - offset ≡ 4 = omega arith in
    rw size (first_four order (drop offset bytes))
