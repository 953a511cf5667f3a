-- Records that others name by their numbers.
use Rattle.std.specs.Prelude.{◌≤◌, IsSome, Some, None, ◌≡◌, ℕ, ◌==◌, List, Option}
use Rattle.std.specs.List.{find}
use Rattle.std.specs.BTreeMap.{BTreeMap, get}
use Rattle.std.specs.Ordering.{nat_cmp}

-- the first record of a number
abbrev pub first_numbered : {R : Type 0} → (R → ℕ) → ℕ → List R → Option R
first_numbered number_of number records = find (λ r. number_of r == number) records

-- a map has the first record of each number
abbrev pub HasFirsts : {R : Type 0} → (R → ℕ) → List R → BTreeMap ℕ R → Type 0
HasFirsts number_of records firsts =
    (number : ℕ) → get nat_cmp firsts number ≡ first_numbered number_of number records

-- a record is the first of the greatest number that isn't above another
pub record IsNearestNumber {R : Type 0} (number_of : R → ℕ) (records : List R) (number : ℕ)
    (r : R) : Type 0 where
  pub first : first_numbered number_of (number_of r) records ≡ Some r
  pub below : number_of r ≤ number
  pub closest : (other : ℕ) → other ≤ number → IsSome (first_numbered number_of other records)
      → other ≤ number_of r

-- what a search for it answers
abbrev pub IsNearestFound : {R : Type 0} → (R → ℕ) → List R → ℕ → Option R → Type 0
IsNearestFound number_of records number (Some r) = IsNearestNumber number_of records number r
IsNearestFound number_of records number None =
    (other : ℕ) → other ≤ number → first_numbered number_of other records ≡ None
