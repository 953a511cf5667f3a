-- The valid registers from an index of the table on.
use Rattle.std.proofs.Common.{◌≡◌, refl, ℕ, zero, suc, ◌+◌, ◌<◌, ◌≤◌, Bool, true, false, List, [], ◌∷◌, map, length, drop, get_or, Some, arith, add-one, Bor}
use Rattle.std.specs.List.{filter, zip, slice_get}
use Rattle.minidump_context.specs.declared.validity.MinidumpContextValidity.{MinidumpContextValidity}
use Rattle.minidump_context.specs.Register.{valid_from, is_valid}

-- the name at an index of a list of borrowed names
pub name_at : (raw : List (Bor (List ℕ))) (names : List (List ℕ)) (i : ℕ) (d : Bor (List ℕ)) → i < length raw
    → map (λ n. n.now) raw ≡ names → slice_get names i ≡ Some (get_or raw i d).now
name_at raw names i d within same = rw (← same) (at raw i within) where
  at : (raw : List (Bor (List ℕ))) (i : ℕ) → i < length raw → slice_get (map (λ n. n.now) raw) i ≡ Some (get_or raw i d).now
  at [] i within = absurd (omega arith)
  at (n ∷ raw) zero within = refl
  at (n ∷ raw) (suc i) within = at raw i (omega arith)

module _ {V : Type 0} (test : List ℕ × V → Bool) where
  -- the row at an index passes the test
  more : (names : List (List ℕ)) (values : List V) (i : ℕ) (n : List ℕ) (v : V) → slice_get names i ≡ Some n → slice_get values i ≡ Some v → test (n, v) ≡ true
      → filter test (drop i (zip names values)) ≡ (n, v) ∷ filter test (drop (suc i) (zip names values))
  more [] values i n v name value kept = cc
  more (m ∷ names) [] i n v name value kept = cc
  more (m ∷ names) (w ∷ values) zero n v name value kept =
      let same : m ≡ n = cc in let same_value : w ≡ v = cc in rw (same, same_value, kept) refl
  more (m ∷ names) (w ∷ values) (suc i) n v name value kept = more names values i n v name value kept

  -- or it is left out
  skip : (names : List (List ℕ)) (values : List V) (i : ℕ) (n : List ℕ) → slice_get names i ≡ Some n → ((v : V) → test (n, v) ≡ false)
      → filter test (drop i (zip names values)) ≡ filter test (drop (suc i) (zip names values))
  skip [] values i n name passed = cc
  skip (m ∷ names) [] zero n name passed = refl
  skip (m ∷ names) [] (suc i) n name passed = refl
  skip (m ∷ names) (w ∷ values) zero n name passed =
      let same : m ≡ n = cc in rw (same, passed w) refl
  skip (m ∷ names) (w ∷ values) (suc i) n name passed = skip names values i n name passed

  -- past the last index no row is left
  past : (names : List (List ℕ)) (values : List V) (i : ℕ) → length names ≤ i → filter test (drop i (zip names values)) ≡ []
  past [] values zero within = refl
  past [] values (suc i) within = refl
  past (m ∷ names) values zero within = absurd (omega arith)
  past (m ∷ names) [] (suc i) within = refl
  past (m ∷ names) (w ∷ values) (suc i) within = past names values i (omega arith)

-- a valid register is next
pub valid_more : {V : Type 0} (valid : MinidumpContextValidity)
    (names : List (List ℕ)) (aliases : List (List ℕ × List ℕ)) (values : List V) (i : ℕ) (n : List ℕ) (v : V)
    → slice_get names i ≡ Some n → slice_get values i ≡ Some v → is_valid valid names aliases n ≡ true
    → valid_from valid names aliases values i ≡ (n, v) ∷ valid_from valid names aliases values (i + 1)
unfolding valid_from
valid_more valid names aliases values i n v name value kept = rw add-one (more (λ r. is_valid valid names aliases r.0) names values i n v name value kept)

-- a register that is not valid is left out
pub valid_skip : {V : Type 0} (valid : MinidumpContextValidity)
    (names : List (List ℕ)) (aliases : List (List ℕ × List ℕ)) (values : List V) (i : ℕ) (n : List ℕ)
    → slice_get names i ≡ Some n → is_valid valid names aliases n ≡ false
    → valid_from valid names aliases values i ≡ valid_from valid names aliases values (i + 1)
unfolding valid_from
valid_skip valid names aliases values i n name passed = rw add-one (skip (λ r. is_valid valid names aliases r.0) names values i n name (λ _. passed))

-- after the last register there is none
pub valid_end : {V : Type 0} (valid : MinidumpContextValidity) (names : List (List ℕ)) (aliases : List (List ℕ × List ℕ)) (values : List V) (i : ℕ)
    → length names ≤ i → valid_from valid names aliases values i ≡ []
unfolding valid_from
valid_end valid names aliases values i within = past (λ r. is_valid valid names aliases r.0) names values i within
