-- Registers whose values are known: one after another, and by a test of what they are.
use Rattle.std.proofs.Common.{◌≡◌, ◌<◌, ◌+◌, ◌++◌, [], ◌∷◌, ℕ, List, Option, Bool, arith, get_or, length, map, refl, take}
use Rattle.std.specs.List.{cons_option, find}
use Rattle.std.specs.Option.{option_and_then, option_map}
use Rattle.std.specs.Str.{bytes_eq}
use Rattle.std.proofs.lemmas.List.{map_more}
use Rattle.std.proofs.lemmas.List.Elements.{filter_map-append}
use Rattle.symbol_walk.specs.declared.registers.KnownRegister.{KnownRegister}
use Rattle.symbol_walk.specs.declared.registers.Register.{Register}
use Rattle.symbol_walk.specs.Registers.{RegisterRow, known_by, known_of, known_value, row_of, value_where}

module _ (value : RegisterRow → Option ℕ) where
  -- one more
  pub known_next : (rs : List Register) (i : ℕ) (d : Register) (before after : List KnownRegister) (o : Option ℕ) → i < length rs
      → map known_of before ≡ known_by value (map row_of (take i rs)) → o ≡ value (row_of (get_or rs i d))
      → map known_of after ≡ map known_of before ++ cons_option (option_map (λ v. ((get_or rs i d).name.now, v)) o) []
      → map known_of after ≡ known_by value (map row_of (take (i + 1) rs))
  unfolding known_by
  known_next rs i d before after o within done given step = rw (map_more row_of rs i d within, filter_map-append, ← done, ← given) step

-- ---- by a test

-- the value by the name
pub known_found : (ks : List KnownRegister) (name : List ℕ)
    → known_value (map known_of ks) name ≡ option_map (λ (k : KnownRegister). k.value) (find (λ (k : KnownRegister). bytes_eq k.name.now name) ks)
known_found [] name = refl
known_found (k ∷ ks) name = grind (arith, known_found ks name)

-- and that of the first register that passes a test
pub found_where : (test : RegisterRow → Bool) (rs : List Register) (known : List (List ℕ × ℕ))
    → value_where test (map row_of rs) known ≡ option_and_then (λ (r : Register). known_value known r.name.now) (find (λ (r : Register). test (row_of r)) rs)
unfolding value_where
found_where test [] known = refl
found_where test (r ∷ rs) known = grind (arith, found_where test rs known)
