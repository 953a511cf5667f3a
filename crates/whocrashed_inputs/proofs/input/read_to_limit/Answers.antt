-- What was read is shorter than what was asked for, so it is all.
use Rattle.std.proofs.Common.{◌≡◌, ◌<◌, ◌≤◌, ◌∙◌, ℕ, List, Option, Some, None, IfSome, length, take, ap, arith, rules}
use Rattle.std.specs.Option.{option_map}
use Rattle.std.proofs.lemmas.Grind.{common_steps}
use Rattle.std.proofs.lemmas.List.{length-take, take_all}
use Rattle.whocrashed_inputs.specs.Input.{within}
use Rattle.whocrashed_inputs.proofs.input.read_to_limit.Goals as goal

read_within : (remaining : Option (List ℕ)) (most limit : ℕ) (bytes : List ℕ) → IfSome (option_map (take most) remaining) (λ xs. bytes ≡ xs)
    → length bytes < most → length bytes ≤ limit → IfSome remaining (λ xs. Some bytes ≡ within limit xs)
read_within None most limit bytes same short fits = same
read_within (Some xs) most limit bytes same short fits =
    let len = simp length-take at (ap length same) in
    let whole : bytes ≡ xs = same ∙ take_all most xs (grind (arith, common_steps, len)) in
    grind (arith, common_steps, whole)

pub returns-else-len-limit-clause-whole : goal.returns-else-len-limit-clause-whole
returns-else-len-limit-clause-whole g c =
    let vec = c.read_to_end.new.buf.ok in
    read_within (g.R.Read.remaining c.args.input) _ c.args.limit _
    (rw (c.take.ensures.inner, c.new-bytes.ensures.items) at c.in_ok-read_to_end.ensures.bytes)
    (grind (arith, common_steps, c.saturating_add.ensures, c.take.ensures.limit, vec.0, vec.1, c.read_to_end.new.buf.small)) (search rules)
