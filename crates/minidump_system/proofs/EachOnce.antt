-- Numbers, each only where it stands first.
use Rattle.std.specs.Prelude.{◌≡◌, ℕ, List, [], ◌∷◌, ◌++◌, refl, Bool, true, false, nat_eq, ◌||◌, ◌&&◌, not, filter}
use Rattle.std.specs.List.{AllByRecursion, IsDistinct, list_any}
use Rattle.std.proofs.Common.{arith, ap, append-nil, sym, ◌∙◌, cond}
use Rattle.std.proofs.lemmas.Bool.Decides.{nat_tests}
use Rattle.std.proofs.lemmas.List.Elements.{filter-append, filter_agree}
use Rattle.minidump_system.specs.Chain.{each_once}

pub same_test : (m n : ℕ) → nat_eq m n ≡ nat_eq n m
same_test m n = grind (arith, nat_tests)

-- numbers that are not among others
abbrev pub fresh : List ℕ → List ℕ → List ℕ
fresh done ys = filter (λ y. not (list_any (nat_eq y) done)) ys

-- all numbers pass a test
keeps_all : (t : ℕ → Bool) (ys : List ℕ) → AllByRecursion (λ y. t y ≡ true) ys → filter t ys ≡ ys
keeps_all t [] a = refl
keeps_all t (y ∷ ys) a = rw (a.0, keeps_all t ys a.1) refl

fresh_none : (ys : List ℕ) → fresh [] ys ≡ ys
fresh_none [] = refl
fresh_none (y ∷ ys) = ap (λ l. y ∷ l) (fresh_none ys)

-- of two tests either is made first
both : (a b : Bool) (x : ℕ) (l m : List ℕ) (s : ℕ → Bool) → s x ≡ a → filter s l ≡ m → filter s (cond b (x ∷ l) l) ≡ cond (a && b) (x ∷ m) m
both true true x l m s h k = rw (h, k) refl
both false true x l m s h k = rw (h, k) refl
both true false x l m s h k = k
both false false x l m s h k = k

filter-filter : (s t : ℕ → Bool) (xs : List ℕ) → filter s (filter t xs) ≡ filter (λ x. s x && t x) xs
filter-filter s t [] = refl
filter-filter s t (x ∷ xs) = both (s x) (t x) x (filter t xs) (filter (λ x. s x && t x) xs) s refl (filter-filter s t xs)

two_tests : (a b : Bool) → (not a && not b) ≡ not (a || b)
two_tests true b = refl
two_tests false b = refl

swapped : (a b : Bool) → (a && b) ≡ (b && a)
swapped true true = refl
swapped true false = refl
swapped false true = refl
swapped false false = refl

filter-swap : (s t : ℕ → Bool) (xs : List ℕ) → filter s (filter t xs) ≡ filter t (filter s xs)
filter-swap s t xs =
    filter-filter s t xs ∙ filter_agree (λ x. s x && t x) (λ x. t x && s x) (λ x. swapped (s x) (t x)) xs ∙ sym (filter-filter t s xs)

-- of numbers after others, those that are not among them are left
pub each_once-append : (xs ys : List ℕ) → each_once (xs ++ ys) ≡ each_once xs ++ fresh xs (each_once ys)
each_once-append [] ys = sym (fresh_none (each_once ys))
each_once-append (x ∷ xs) ys =
    let others : ℕ → Bool = λ y. not (nat_eq x y) in
    let new : ℕ → Bool = λ y. not (list_any (nat_eq y) xs) in
    let one : (y : ℕ) → (others y && new y) ≡ not (list_any (nat_eq y) (x ∷ xs)) =
    λ y. (ap (λ b. not b && new y) (same_test x y) ∙ two_tests (nat_eq y x) (list_any (nat_eq y) xs)) in
    ap (λ l. x ∷ filter others l) (each_once-append xs ys)
    ∙ ap (λ l. x ∷ l)
    (filter-append others (each_once xs) (fresh xs (each_once ys))
    ∙ ap (λ l. filter others (each_once xs) ++ l)
    (filter-filter others new (each_once ys)
    ∙ filter_agree (λ y. others y && new y) (λ y. not (list_any (nat_eq y) (x ∷ xs))) one (each_once ys)))

not_same : (x : ℕ) (xs : List ℕ) → AllByRecursion (λ y. nat_eq x y ≡ false) xs → AllByRecursion (λ y. not (nat_eq x y) ≡ true) xs
not_same x [] a = tt
not_same x (y ∷ ys) a = (ap not a.0, not_same x ys a.1)

-- distinct numbers are all first
pub each_once-distinct : (xs : List ℕ) → IsDistinct nat_eq xs → each_once xs ≡ xs
unfolding IsDistinct
each_once-distinct [] d = refl
each_once-distinct (x ∷ xs) d =
    let others : ℕ → Bool = λ y. not (nat_eq x y) in
    ap (λ l. x ∷ filter others l) (each_once-distinct xs d.1) ∙ ap (λ l. x ∷ l) (keeps_all others xs (not_same x xs d.0))

-- numbers that are all among others add none to them
fresh-each_once : (done ys : List ℕ) → AllByRecursion (λ y. list_any (nat_eq y) done ≡ true) ys → fresh done (each_once ys) ≡ []
fresh-each_once done [] a = refl
fresh-each_once done (y ∷ ys) a =
    let others : ℕ → Bool = λ z. not (nat_eq y z) in
    let new : ℕ → Bool = λ z. not (list_any (nat_eq z) done) in
    let rest : filter new (filter others (each_once ys)) ≡ [] =
    filter-swap new others (each_once ys) ∙ ap (filter others) (fresh-each_once done ys a.1) in
    rw (a.0, rest) refl

pub each_once-among : (done ys : List ℕ) → IsDistinct nat_eq done → AllByRecursion (λ y. list_any (nat_eq y) done ≡ true) ys → each_once (done ++ ys) ≡ done
each_once-among done ys d a =
    each_once-append done ys ∙ ap (λ l. l ++ fresh done (each_once ys)) (each_once-distinct done d)
    ∙ ap (λ l. done ++ l) (fresh-each_once done ys a)
    ∙ append-nil done
