-- The table is compared with the definition at each of the 256 bytes.
use Rattle.std.proofs.Common.{◌≡◌, ℕ, zero, suc, ◌<◌, Bool, true, ◌&&◌, nat_eq, get_or, List, refl, arith, inl, inr}
use Rattle.std.specs.Char.{digit_value}
use Rattle.std.proofs.lemmas.Bool.{and_parts, cases_eq, eqb-true}
use Rattle.minidump_memory.specs.declared.map_text.TheConstants.{DIGITS}
use Rattle.minidump_memory.proofs.map_text.digit_of.Goals as goal

-- the table has the digits' values below n
agrees_below : List ℕ → ℕ → Bool
agrees_below table zero = true
agrees_below table (suc n) = nat_eq (get_or table n 0) (digit_value n) && agrees_below table n

agrees_at : (table : List ℕ) (n : ℕ) → agrees_below table n ≡ true → (b : ℕ) → b < n → get_or table b 0 ≡ digit_value b
unfolding agrees_below
agrees_at table zero h b lt = absurd (omega (arith, lt))
agrees_at table (suc n) h b lt =
    let parts = and_parts (nat_eq (get_or table n 0) (digit_value n)) (agrees_below table n) h in
    elim (cases_eq b n) [ inl same ↦ rw same (eqb-true _ _ parts.0) | inr other ↦ agrees_at table n parts.1 b (omega (arith, lt, other)) ]

pub returns : goal.returns
unfolding agrees_below
returns c = agrees_at DIGITS 256 refl c.args.byte (omega arith)
