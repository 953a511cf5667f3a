-- The valid registers of any context, from an index of the list of names on.
use Rattle.std.proofs.Common.{◌≡◌, refl, ℕ, zero, suc, ◌+◌, ◌≤◌, List, [], ◌∷◌, length, drop, Some, None, add-one}
use Rattle.std.specs.List.{slice_get}
use Rattle.std.proofs.lemmas.List.{drop_all}
use Rattle.minidump_context.specs.declared.validity.MinidumpContextValidity.{MinidumpContextValidity}
use Rattle.minidump_context.specs.Context.{Registers, valid_value_in, valid_registers_from}

-- the part of a list from an index on begins with the item at the index
from_index : {X : Type 0} (xs : List X) (i : ℕ) (x : X) → slice_get xs i ≡ Some x → drop i xs ≡ x ∷ drop (suc i) xs
from_index [] i x at = cc
from_index (y ∷ xs) zero x at = let same : y ≡ x = cc in rw same refl
from_index (y ∷ xs) (suc i) x at = from_index xs i x at

pub valid_registers_more : (valid : MinidumpContextValidity) (r : Registers) (i : ℕ) (n : List ℕ) (v : ℕ)
    → slice_get r.names i ≡ Some n → valid_value_in valid r n ≡ Some v
    → valid_registers_from valid r i ≡ (n, v) ∷ valid_registers_from valid r (i + 1)
unfolding valid_registers_from
valid_registers_more valid r i n v at known = rw (from_index r.names i n at, known, add-one) refl

pub valid_registers_skip : (valid : MinidumpContextValidity) (r : Registers) (i : ℕ) (n : List ℕ)
    → slice_get r.names i ≡ Some n → valid_value_in valid r n ≡ None
    → valid_registers_from valid r i ≡ valid_registers_from valid r (i + 1)
unfolding valid_registers_from
valid_registers_skip valid r i n at unknown = rw (from_index r.names i n at, unknown, add-one) refl

pub valid_registers_end : (valid : MinidumpContextValidity) (r : Registers) (i : ℕ) → length r.names ≤ i → valid_registers_from valid r i ≡ []
unfolding valid_registers_from
valid_registers_end valid r i within = rw (drop_all i r.names within) refl
