-- Where a text may be cut.
use Rattle.std.proofs.Common.{◌≡◌, ◌∙◌, ◌<◌, [], ◌∷◌, ℕ, List, true, ap, arith, drop, get_or, length}
use Rattle.std.specs.Prelude.{codes}
use Rattle.std.specs.Str.{IsCharBoundary}
use Rattle.std.proofs.lemmas.Bool.Decides.{nat_tests}
use Rattle.std.proofs.lemmas.List.{get_or-drop, length-drop}
use Rattle.std.proofs.lemmas.Str.{IsCharBoundary-before_ascii}
use Rattle.crash_symbols.specs.Modules.{same_letters}

-- the ending begins with an ASCII character
first : (ys : List ℕ) → same_letters ys (codes ".pdb") ≡ true → (0 < length ys) × (get_or ys 0 0 < 128)
first [] e = cc
first (y ∷ ys) e = (omega arith, grind (arith, nat_tests, e))

-- before the ending
pub before_dot : (xs : List ℕ) (i : ℕ) → same_letters (drop i xs) (codes ".pdb") ≡ true → IsCharBoundary xs i
before_dot xs i e =
    let dot = first (drop i xs) e in
    let within : i < length xs = omega (arith, length-drop i xs, dot.0) in
    let at : get_or (drop i xs) 0 0 ≡ get_or xs i 0 = get_or-drop i xs 0 0 ∙ ap (λ n. get_or xs n 0) (omega arith) in
    IsCharBoundary-before_ascii xs i within (omega (arith, at, dot.1))
