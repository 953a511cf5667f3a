-- The function of the last index gives that of the last item that is chosen.
use Rattle.std.proofs.Common.{◌≡◌, ◌+◌, ◌∷◌, [], ℕ, suc, Bool, true, false, IsTrue, List, Option, Some, None, add-one, arith, not, refl}
use Rattle.std.specs.Prelude.{if◌then◌else◌}
use Rattle.std.specs.Option.{option_map, option_or}
use Rattle.std.proofs.lemmas.List.Elements.{All-cons, All-nil}
use Rattle.crash_threads.specs.Last.{IsLastOrNone, last_index}
use Rattle.crash_threads.proofs.laws.the_last_index_is_that_of_the_last_chosen.Goals as goal

module _ {X : Type 0} (is : X → Bool) where
  step : (x : X) (xs : List X) (later : Option ℕ) (b : Bool) → is x ≡ b → IsLastOrNone is xs later
      → IsLastOrNone is (x ∷ xs) (option_or (option_map (λ i. i + 1) later) (if b then Some 0 else None))
  step x xs (Some i) b e last =
      let next : i + 1 + 1 ≡ suc (i + 1) = omega arith in
      record { chosen = rw add-one last.chosen; none_later = rw next last.none_later }
  step x xs None true e none = record { chosen = e; none_later = none }
  step x xs None false e none = All-cons (λ y. IsTrue (not (is y))) x xs (rw e refl) none

  last_index_is : (xs : List X) → IsLastOrNone is xs (last_index is xs)
  last_index_is [] = All-nil (λ y. IsTrue (not (is y)))
  last_index_is (x ∷ xs) = step x xs (last_index is xs) (is x) refl (last_index_is xs)

pub returns : goal.returns
returns g c = last_index_is
