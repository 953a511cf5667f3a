-- The first alias that is the name, or none.
use Rattle.std.proofs.Common.{◌≡◌, refl, sym, rules, map, ℕ, ◌<◌, List, get_or, Bor, length, true, false, arith, []}
use Rattle.std.specs.Str.{bytes_eq}
use Rattle.std.proofs.lemmas.List.Recursion.{found_at, found_nowhere}
use Rattle.minidump_context.specs.Register.{canonical_name}
use Rattle.minidump_context.proofs.names.canonical_name.Goals as goal

-- the first alias of the name gives its canonical name
first_alias : (xs : List (Bor (List ℕ) × Bor (List ℕ))) (name : List ℕ) (i : ℕ) (d : Bor (List ℕ) × Bor (List ℕ)) → i < length xs
    → ((k : ℕ) → k < i → bytes_eq (get_or xs k d).0.now name ≡ false) → bytes_eq (get_or xs i d).0.now name ≡ true
    → canonical_name (map (λ a. (a.0.now, a.1.now)) xs) name ≡ (get_or xs i d).1.now
unfolding canonical_name
first_alias xs name = found_at (λ ys. canonical_name (map (λ a. (a.0.now, a.1.now)) ys) name) (λ a. bytes_eq a.0.now name) (λ a. a.1.now) name refl (λ _ _. refl) xs

-- a name that no alias is stands for itself
no_alias : (xs : List (Bor (List ℕ) × Bor (List ℕ))) (name : List ℕ) (d : Bor (List ℕ) × Bor (List ℕ))
    → ((k : ℕ) → k < length xs → bytes_eq (get_or xs k d).0.now name ≡ false)
    → canonical_name (map (λ a. (a.0.now, a.1.now)) xs) name ≡ name
unfolding canonical_name
no_alias xs name = found_nowhere (λ ys. canonical_name (map (λ a. (a.0.now, a.1.now)) ys) name)
    (λ a. bytes_eq a.0.now name) (λ a. a.1.now) name refl (λ _ _. refl) xs

pub returns-then-eq : goal.returns-then-eq
returns-then-eq c =
    let d : Bor (List ℕ) × Bor (List ℕ) = (record { ref_ptr = (0, 0); now = [] }, record { ref_ptr = (0, 0); now = [] }) in
    sym (first_alias c.args.aliases.now c.args.name.now c.loop-alias.alias-index d c.loop-alias-test.true (λ k. c.loop-alias.invariant k d) (search rules))

pub returns : goal.returns
returns c = sym (no_alias c.args.aliases.now c.args.name.now
    (record { ref_ptr = (0, 0); now = [] }, record { ref_ptr = (0, 0); now = [] }) (λ k within. c.loop-alias.invariant k _ (omega arith)))
