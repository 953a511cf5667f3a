-- The lines of the address and of the reason, and then that of the last error.
use Rattle.std.proofs.Common.{◌≡◌, ℕ, List, ◌++◌, Result, Ok, Err, ap, append_assoc, ◌∙◌}
use Rattle.std.specs.Prelude.{OnOk}
use Rattle.minidump.proofs.crash.push_values.Goals as goal

third : {X E : Type 0} (r : Result X E) (a b c d x y z : List ℕ) → b ≡ a ++ x → c ≡ b ++ y → OnOk r (d ≡ c ++ z) → OnOk r (d ≡ a ++ (x ++ (y ++ z)))
third (Ok u) a b c d x y z one two three =
    three ∙ ap (λ l. l ++ z) (two ∙ ap (λ l. l ++ y) one) ∙ append_assoc (a ++ x) y z ∙ append_assoc a x (y ++ z)
third (Err e) a b c d x y z one two three = tt

pub returns : goal.returns
returns c = third c.push_last_error.result _ _ _ _ _ _ _ c.in_ok-push_number.ensures c.in_ok-push_reason.ensures c.push_last_error.ensures
