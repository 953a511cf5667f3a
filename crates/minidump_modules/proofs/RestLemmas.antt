-- The rest of a list from an index on, as a slice spells it.
use Rattle.std.proofs.Common.{◌≡◌, ℕ, ◌-◌, List, length, arith, take, drop}
use Rattle.std.proofs.lemmas.List.{length-drop, take_all}

pub rest_all : {X : Type 0} (n : ℕ) (xs : List X) → take (length xs - n) (drop n xs) ≡ drop n xs
rest_all n xs = take_all (length xs - n) (drop n xs) (rw (length-drop) (omega arith))
