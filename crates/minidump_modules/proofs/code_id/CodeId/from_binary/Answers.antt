-- No bytes have no digits.
use Rattle.std.proofs.Common.{◌≡◌, ◌∙◌, ℕ, true, List, [], ◌∷◌, length, arith, refl, rules, sym}
use Rattle.std.specs.Prelude.{◌==◌}
use Rattle.std.proofs.lemmas.Bool.{eqb-true}
use Rattle.hex.specs.Hex.{encode_lower, encode_with}
use Rattle.minidump_modules.proofs.code_id.CodeId.from_binary.Goals as goal

none_encoded : (bytes : List ℕ) → (length bytes == 0) ≡ true → encode_lower bytes ≡ []
unfolding encode_with
none_encoded [] h = refl
none_encoded (b ∷ bs) h = absurd (omega (arith, eqb-true (length (b ∷ bs)) 0 h))

pub returns-then-is_empty-clause-digits : goal.returns-then-is_empty-clause-digits
returns-then-is_empty-clause-digits c = rw (none_encoded c.args.bytes.now (sym c.is_empty.ensures ∙ c.if-is_empty.true)) (search rules)
