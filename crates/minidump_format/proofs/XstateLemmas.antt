-- A step over the features of a record.
use Rattle.std.proofs.Common.{◌≡◌, ℕ, ◌+◌, ◌/◌, ◌^◌, ◌<◌, ◌≤◌, ◌≢◌, List, [], ◌∷◌, length, get_or, drop, bit_and, refl, add-one}
use Rattle.std.proofs.Math.Seq.{drop-cons}
use Rattle.std.proofs.Math.ListN.{drop_of_length-le}
use Rattle.std.proofs.lemmas.Nat.Bits.{shr_and_one}
use borrow.Author.Tests.{ne_eqb}
use Rattle.minidump_format.specs.declared.format.misc.XSTATE_FEATURE.{XSTATE_FEATURE}
use Rattle.minidump_format.specs.Xstate.{enabled_from}

-- at a bit that is set, the feature of its index comes first
pub enabled_set : (bits i : ℕ) (fs : List XSTATE_FEATURE) (d : XSTATE_FEATURE) → i < length fs → bit_and (bits / 2 ^ i) 1 ≡ 1
    → enabled_from bits i (drop i fs) ≡ (i, get_or fs i d) ∷ enabled_from bits (i + 1) (drop (i + 1) fs)
unfolding enabled_from
enabled_set bits i fs d within is_set = rw (drop-cons fs i d, ← shr_and_one bits i, is_set, add-one) refl

-- at another none does
pub enabled_clear : (bits i : ℕ) (fs : List XSTATE_FEATURE) → i < length fs → bit_and (bits / 2 ^ i) 1 ≢ 1
    → enabled_from bits i (drop i fs) ≡ enabled_from bits (i + 1) (drop (i + 1) fs)
unfolding enabled_from
enabled_clear bits i fs within is_clear =
    rw (drop-cons fs i (record { offset = 0; size = 0 }), ← shr_and_one bits i, ne_eqb _ _ is_clear, add-one) refl

-- past the last there is none
pub enabled_end : (bits i : ℕ) (fs : List XSTATE_FEATURE) → length fs ≤ i → enabled_from bits i (drop i fs) ≡ []
unfolding enabled_from
enabled_end bits i fs past = rw (drop_of_length-le fs past) refl
