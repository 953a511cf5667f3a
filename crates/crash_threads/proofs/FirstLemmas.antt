-- The first items of a list and of another after it.
use Rattle.std.proofs.Common.{◌≡◌, ◌-◌, ◌++◌, [], ◌∷◌, ℕ, zero, suc, List, arith, length, refl, take}

pub first_of_both : {A : Type 0} (n : ℕ) (xs ys : List A) → take n xs ++ take (n - length xs) ys ≡ take n (xs ++ ys)
first_of_both zero xs ys = (let none : 0 - length xs ≡ 0 = omega arith in rw none refl)
first_of_both (suc n) [] ys = (let all : suc n - 0 ≡ suc n = omega arith in rw all refl)
first_of_both (suc n) (x ∷ xs) ys = grind (arith, first_of_both n xs ys)
