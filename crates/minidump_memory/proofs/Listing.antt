-- Lemmas: a list of known length is the list of its items, each by its index.
use Rattle.std.proofs.Common.{◌≡◌, ℕ, zero, suc, ◌+◌, List, [], ◌∷◌, length, get_or, drop, drop-cons, ap, ◌∙◌, arith}
use Rattle.std.proofs.lemmas.List.{drop_all}

abbrev pub listing : ℕ → ℕ → List ℕ → List ℕ
listing zero i xs = []
listing (suc k) i xs = get_or xs i 0 ∷ listing k (suc i) xs

is_listing_from : (k i : ℕ) (xs : List ℕ) → i + k ≡ length xs → drop i xs ≡ listing k i xs
is_listing_from zero i xs e = drop_all i xs (omega (arith, e))
is_listing_from (suc k) i xs e = drop-cons xs i 0 (omega (arith, e)) ∙ ap (λ l. get_or xs i 0 ∷ l) (is_listing_from k (suc i) xs (omega (arith, e)))

pub is_listing : (k : ℕ) (xs : List ℕ) → length xs ≡ k → xs ≡ listing k 0 xs
is_listing k xs e = is_listing_from k 0 xs (omega (arith, e))
