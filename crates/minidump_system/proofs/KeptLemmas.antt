-- The items of entries: none, one more, one that is skipped, and the first error.
use Rattle.std.proofs.Common.{◌≡◌, ℕ, ◌+◌, ◌<◌, List, [], ◌∷◌, ◌++◌, length, get_or, take, drop, map, Result, Ok, Err, Option, Some, None, refl, ap, sym, suc}
use Rattle.std.proofs.Common.{◌∙◌, add-one, append-nil, arith, drop-cons}
use Rattle.std.specs.Prelude.{Bool, true, false, cond, count_by, filter, not}
use Rattle.std.specs.List.{cons_option, sum_by}
use Rattle.std.proofs.lemmas.List.{take-append-drop, take_more}
use Rattle.std.proofs.lemmas.List.Sums.{sum_by-cons}
use Rattle.minidump_format.specs.declared.error.Error.{Error}
use Rattle.minidump_system.specs.Reads.{all_kept, all_ok, and_then, read_each, read_if}

split_at : {R : Type 0} (xs : List R) (i : ℕ) (x : R) → i < length xs → get_or xs i x ≡ x → xs ≡ take i xs ++ x ∷ drop (i + 1) xs
split_at {R = R} xs i x inside item =
    let after : drop i xs ≡ x ∷ drop (i + 1) xs = rw (add-one i, ← item) (drop-cons xs i x inside) in
    sym (take-append-drop i xs) ∙ ap (λ (l : List R). take i xs ++ l) after

step : {V : Type 0} (r : Result (Option V) Error) (A B W : Result (List V) Error) → W ≡ and_then A (λ vs. and_then B (λ ws. Ok (vs ++ ws)))
    → and_then r (λ v. and_then W (λ vs. Ok (cons_option v vs)))
    ≡ and_then (and_then r (λ v. and_then A (λ vs. Ok (cons_option v vs)))) (λ us. and_then B (λ ws. Ok (us ++ ws)))
step (Err e) A B W h = refl
step (Ok v) (Err e) B W h = rw h refl
step (Ok v) (Ok vs) (Err e) W h = rw h refl
step (Ok None) (Ok vs) (Ok ws) W h = rw h refl
step (Ok (Some v)) (Ok vs) (Ok ws) W h = rw h refl

same : {X : Type 0} (r : Result X Error) → r ≡ and_then r (λ x. Ok x)
same (Ok x) = refl
same (Err e) = refl

all_kept-append : {R V : Type 0} (read : R → Result (Option V) Error) (xs ys : List R)
    → all_kept read (xs ++ ys) ≡ and_then (all_kept read xs) (λ vs. and_then (all_kept read ys) (λ ws. Ok (vs ++ ws)))
unfolding all_kept
all_kept-append read [] ys = same (all_kept read ys)
all_kept-append read (x ∷ xs) ys = step (read x) (all_kept read xs) (all_kept read ys) (all_kept read (xs ++ ys)) (all_kept-append read xs ys)

one_kept : {R V : Type 0} (read : R → Result (Option V) Error) (x : R) (v : Option V) → read x ≡ Ok v → all_kept read (x ∷ []) ≡ Ok (cons_option v [])
unfolding all_kept
one_kept read x v e = rw e refl

first_err : {R V : Type 0} (read : R → Result (Option V) Error) (x : R) (rest : List R) (e : Error) → read x ≡ Err e → all_kept read (x ∷ rest) ≡ Err e
unfolding all_kept
first_err read x rest e h = rw h refl

pub kept_none : {R V : Type 0} (read : R → Result (Option V) Error) → all_kept read [] ≡ Ok []
unfolding all_kept
kept_none read = refl

module _ {R V : Type 0} (read : R → Result (Option V) Error) (xs : List R) (i : ℕ) (x : R) (inside : i < length xs) (item : get_or xs i x ≡ x) (vs : List V) where
  -- one value more
  pub kept_next : (v : V) → all_kept read (take i xs) ≡ Ok vs → read x ≡ Ok (Some v) → all_kept read (take (i + 1) xs) ≡ Ok (vs ++ v ∷ [])
  kept_next v so_far one =
      rw (take_more xs i x inside, item, all_kept-append read (take i xs) (x ∷ []), so_far, one_kept read x (Some v) one) refl

  -- an entry that is skipped
  pub kept_skip : all_kept read (take i xs) ≡ Ok vs → read x ≡ Ok None → all_kept read (take (i + 1) xs) ≡ Ok vs
  kept_skip so_far one =
      rw (take_more xs i x inside, item, all_kept-append read (take i xs) (x ∷ []), so_far, one_kept read x None one, append-nil) refl

  -- the first error is that of all
  pub kept_error : (e : Error) → all_kept read (take i xs) ≡ Ok vs → read x ≡ Err e → all_kept read xs ≡ Err e
  kept_error e so_far one =
      let split : xs ≡ take i xs ++ x ∷ drop (i + 1) xs = split_at xs i x inside item in
      rw split (rw (all_kept-append read (take i xs) (x ∷ drop (i + 1) xs), so_far, first_err read x (drop (i + 1) xs) e one) refl)

-- reads without an error: none is skipped
pub kept_mapped : {R V : Type 0} (f : R → V) (xs : List R) → all_kept (λ x. Ok (Some (f x))) xs ≡ Ok (map f xs)
unfolding all_kept
kept_mapped f [] = refl
kept_mapped f (x ∷ xs) = rw (kept_mapped f xs) refl

-- and each is the item
pub kept_all : {R : Type 0} (xs : List R) → all_kept (λ x. Ok (Some x)) xs ≡ Ok xs
unfolding all_kept
kept_all [] = refl
kept_all (x ∷ xs) = rw (kept_all xs) refl

both : {V : Type 0} (r : Result V Error) (W : Result (List V) Error)
    → and_then (and_then r (λ v. Ok (Some v))) (λ v. and_then W (λ vs. Ok (cons_option v vs))) ≡ and_then r (λ v. and_then W (λ vs. Ok (v ∷ vs)))
both (Ok v) W = refl
both (Err e) W = refl

either : {R V : Type 0} (p : R → Bool) (read : R → Result V Error) (x : R) (xs : List R) (b : Bool) → p x ≡ b
    → all_kept (read_if p read) xs ≡ all_ok read (filter p xs) → all_kept (read_if p read) (x ∷ xs) ≡ all_ok read (filter p (x ∷ xs))
unfolding all_kept all_ok
either p read x xs true e rest = rw (e, rest) (both (read x) (all_ok read (filter p xs)))
either p read x xs false e rest = rw (e, rest) (sym (same (all_ok read (filter p xs))))

-- reads of those that pass a test
pub kept_if : {R V : Type 0} (p : R → Bool) (read : R → Result V Error) (xs : List R) → all_kept (read_if p read) xs ≡ all_ok read (filter p xs)
unfolding all_kept all_ok
kept_if p read [] = refl
kept_if p read (x ∷ xs) = either p read x xs (p x) refl (kept_if p read xs)

-- reads that skip nothing
pub kept_each : {R V : Type 0} (read : R → Result V Error) (xs : List R) → all_kept (read_each read) xs ≡ all_ok read xs
unfolding all_kept all_ok
kept_each read [] = refl
kept_each read (x ∷ xs) = rw (kept_each read xs) (both (read x) (all_ok read xs))

-- one read for each entry
pub sum_of_ones : {R : Type 0} (xs : List R) → sum_by (λ x. 1) xs ≡ length xs
sum_of_ones [] = refl
sum_of_ones (x ∷ xs) = rw (sum_by-cons (λ x. 1) x xs, sum_of_ones xs) (omega arith)

-- where all are read, there is one value for each
one_value_more : {V : Type 0} (n : ℕ) (r : Result V Error) (W : Result (List V) Error) (vs : List V) → ((ws : List V) → W ≡ Ok ws → length ws ≡ n)
    → and_then r (λ v. and_then W (λ ws. Ok (v ∷ ws))) ≡ Ok vs → length vs ≡ suc n
one_value_more n (Err e) W vs rest is = absurd (let no : ⊥ = cc in no)
one_value_more n (Ok v) (Err e) vs rest is = absurd (let no : ⊥ = cc in no)
one_value_more n (Ok v) (Ok ws) vs rest is = let same : vs ≡ v ∷ ws = cc in ap length same ∙ ap suc (rest ws refl)

pub one_for_each : {R V : Type 0} (read : R → Result V Error) (xs : List R) (vs : List V) → all_ok read xs ≡ Ok vs → length vs ≡ length xs
unfolding all_ok
one_for_each read [] vs is = let same : vs ≡ [] = cc in ap length same
one_for_each read (x ∷ xs) vs is = one_value_more (length xs) (read x) (all_ok read xs) vs (one_for_each read xs) is

yes_or_no : (b : Bool) → cond b 1 0 + cond (not b) 1 0 ≡ 1
yes_or_no true = refl
yes_or_no false = refl

-- items pass a test, or don't
pub split_by : {R : Type 0} (p : R → Bool) (xs : List R) → count_by p xs + count_by (λ x. not (p x)) xs ≡ length xs
split_by p [] = refl
split_by p (x ∷ xs) =
    let yes = sum_by-cons (λ y. cond (p y) 1 0) x xs in
    let no = sum_by-cons (λ y. cond (not (p y)) 1 0) x xs in
    let rest = split_by p xs in
    omega (arith, yes, no, rest, yes_or_no (p x))
