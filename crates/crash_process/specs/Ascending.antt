-- The items of a list by an order, each once.
use Rattle.std.specs.Prelude.{◌↔◌, Contains, List, map}
use Rattle.std.specs.declared.cmp.Ordering.{Ordering}
use Rattle.std.specs.FinMap.{from_entries, keys}
use Rattle.std.specs.List.Sorted.{IsStrictlySortedBy}

-- ys has the items of xs and no others, each below those after it
pub record IsAscending {K : Type 0} (cmp : K → K → Ordering) (xs ys : List K) : Type 0 where
  pub ascending : IsStrictlySortedBy cmp ys
  pub same : (x : K) → Contains ys x ↔ Contains xs x

-- the items of a list, ascending, each once: the keys of a finite map
unfoldable pub ascending : {K : Type 0} → (K → K → Ordering) → List K → List K
ascending cmp xs = keys (from_entries {R = cmp} (map (λ x. (x, x)) xs))
