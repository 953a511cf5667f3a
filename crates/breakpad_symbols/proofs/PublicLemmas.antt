-- Public symbols and beginnings of functions, found by their addresses.
use Rattle.std.proofs.Common.{◌≡◌, ◌<◌, ◌≤◌, ◌+◌, ◌∙◌, ℕ, zero, suc, Bool, true, false, List, [], ◌∷◌, map, Option, Some, None, refl, ap, sym, inl}
use Rattle.std.proofs.Common.{inr, arith, cond, subst}
use Rattle.std.specs.Prelude.{◌==◌, ◌&&◌, ◌||◌, Contains, nat_le, nat_lt, not, IsSome}
use Rattle.std.specs.List.{find, list_any}
use Rattle.std.specs.Option.{option_map}
use Rattle.std.proofs.lemmas.Bool.{cases_eq, cases_lt, eq-eqb, le-leb, leb-true, lt-leb, lt-ltb, ltb-true, le-ltb, ne_eqb}
use Rattle.minidump_index.proofs.ContainsLemmas.{cases, nothing}
use Rattle.breakpad_symbols.specs.declared.function.Function.{Function}
use Rattle.breakpad_symbols.specs.declared.public.PublicSymbol.{PublicSymbol}
use Rattle.breakpad_symbols.specs.Function.{function_of}
use Rattle.breakpad_symbols.specs.Numbered.{IsNearestNumber, first_numbered}
use Rattle.breakpad_symbols.specs.Public.{IsNearestOrNone, PublicValue, is_between, is_nearest, nearest, public_of}
use Rattle.breakpad_symbols.specs.SymbolFile.{parts}
use Rattle.breakpad_symbols.proofs.MemberLemmas.{although, and_false, any_member, both, find_as, find_none, found_passes, none_passes, or_true, some_is, unless}
use Rattle.breakpad_symbols.proofs.NumberedLemmas.{find-map}

-- ---- numbers of a list
module _ {R : Type 0} (number_of : R → ℕ) where
  -- a record of a list has its number
  found_head : (x : R) (xs : List R) → find (λ r. number_of r == number_of x) (x ∷ xs) ≡ Some x
  found_head x xs = rw (eq-eqb (number_of x) (number_of x) refl) refl

  -- a number of a list is one of a longer list
  found_tail : (x : R) (xs : List R) (q : ℕ) → IsSome (find (λ r. number_of r == q) xs) → IsSome (find (λ r. number_of r == q) (x ∷ xs))
  found_tail x xs q h = by (number_of x == q) h
    where
      by : (t : Bool) → IsSome (find (λ r. number_of r == q) xs) → IsSome (cond t (Some x) (find (λ r. number_of r == q) xs))
      by true k = refl
      by false k = k

  -- the number of a member is found
  found_member : (xs : List R) (x : R) → Contains xs x → IsSome (find (λ r. number_of r == number_of x) xs)
  found_member [] x h = absurd (nothing x h)
  found_member (y ∷ ys) x h = elim (cases y ys x h) [
    | inl same ↦
        subst (λ z. IsSome (find (λ r. number_of r == number_of z) (y ∷ ys))) same (some_is _ y (found_head y ys))
    | inr more ↦ found_tail y ys (number_of x) (found_member ys x more)
  ]

  -- a number of the list is above one and not above another
  abbrev any_between : ℕ → ℕ → List R → Bool
  any_between low high xs = list_any (λ r. is_between low high (number_of r)) xs

  -- no number of the list is above one and not above another
  abbrev Highest : ℕ → ℕ → List R → Type 0
  Highest low high xs = (q : ℕ) → q ≤ high → IsSome (find (λ r. number_of r == q) xs) → q ≤ low

  -- a number of the list passes a test, and is not above another
  abbrev any_below : (ℕ → Bool) → ℕ → List R → Bool
  any_below passes high xs = list_any (λ r. passes (number_of r) && nat_le (number_of r) high) xs

  below_by : (passes : ℕ → Bool) (high q : ℕ) (xs : List R) → passes q ≡ true → q ≤ high → IsSome (find (λ r. number_of r == q) xs)
      → any_below passes high xs ≡ true
  below_by passes high q [] over below there = absurd (let k : false ≡ true = there in cc)
  below_by passes high q (x ∷ xs) over below there = elim (cases_eq (number_of x) q) [
    | inl is ↦
        let a : passes (number_of x) ≡ true = subst (λ n. passes n ≡ true) (sym is) over in
        let b : number_of x ≤ high = omega (arith, below, is) in
        rw (a, le-leb _ _ b) refl
    | inr not ↦
        let more : IsSome (find (λ r. number_of r == q) xs) = (rw (ne_eqb (number_of x) q not) at there) in
        rw (below_by passes high q xs over below more) (or_true (passes (number_of x) && nat_le (number_of x) high))
  ]

  none_below : (passes : ℕ → Bool) (high : ℕ) (xs : List R)
      → ((q : ℕ) → q ≤ high → IsSome (find (λ r. number_of r == q) xs) → passes q ≡ false) → any_below passes high xs ≡ false
  none_below passes high [] h = refl
  none_below passes high (x ∷ xs) h =
      let more = none_below passes high xs (λ q below there. h q below (found_tail x xs q there)) in
      elim (cases_lt high (number_of x)) [
        | inl above ↦ rw (lt-leb _ _ above, and_false (passes (number_of x)), more) refl
        | inr below ↦
            let least = h (number_of x) below (some_is _ x (found_head x xs)) in
            rw (least, more) refl
      ]

  between_by : (low high q : ℕ) (xs : List R) → low < q → q ≤ high → IsSome (find (λ r. number_of r == q) xs) → any_between low high xs ≡ true
  between_by low high q xs over below there = below_by (λ n. nat_lt low n) high q xs (lt-ltb _ _ over) below there

  none_between : (low high : ℕ) (xs : List R) → Highest low high xs → any_between low high xs ≡ false
  none_between low high xs h = none_below (λ n. nat_lt low n) high xs (λ q below there. le-ltb _ _ (h q below there))

  highest : (low high : ℕ) (xs : List R) → any_between low high xs ≡ false → Highest low high xs
  highest low high xs none q below there = elim (cases_lt low q) [
    | inl over ↦ absurd (let clash : false ≡ true = sym none ∙ between_by low high q xs over below there in cc)
    | inr least ↦ least
  ]

-- ---- the nearest symbol
abbrev address_of : PublicValue → ℕ
address_of p = p.address

module _ (symbols : List PublicValue) (address : ℕ) where
  passes_below : (p : PublicValue) → is_nearest symbols address p ≡ true
      → (p.address ≤ address) × (any_between address_of p.address address symbols ≡ false)
  unfolding is_nearest
  passes_below p h =
      let t = both (nat_le p.address address) (not (any_between address_of p.address address symbols)) h in
      (leb-true _ _ t.0, unless _ t.1)

  fails_below : (p : PublicValue) → is_nearest symbols address p ≡ false → p.address ≤ address → any_between address_of p.address address symbols ≡ true
  unfolding is_nearest
  fails_below p h below = although _ (rw (le-leb _ _ below) at h)

  fails_above : (p : PublicValue) → address < p.address → is_nearest symbols address p ≡ false
  unfolding is_nearest
  fails_above p above = rw (lt-leb _ _ above) refl

  -- the nearest symbols are those at the greatest address that isn't above another
  at_greatest : (k : ℕ) → k ≤ address → IsSome (find (λ (p : PublicValue). p.address == k) symbols) → Highest address_of k address symbols
      → (x : PublicValue) → Contains symbols x → is_nearest symbols address x ≡ (x.address == k)
  unfolding is_nearest
  at_greatest k low there greatest x among = elim (cases_eq x.address k) [
    | inl is ↦
        let below : x.address ≤ address = omega (arith, is, low) in
        let none =
        none_between address_of x.address address symbols (λ q least some. let h = greatest q least some in omega (arith, h, is)) in
        rw (le-leb _ _ below, none, eq-eqb _ _ is) refl
    | inr not ↦ elim (cases_lt address x.address) [
      | inl above ↦ rw (lt-leb _ _ above, ne_eqb _ _ not) refl
      | inr below ↦
          let least = greatest x.address below (found_member address_of symbols x among) in
          let over : x.address < k = omega (arith, least, not) in
          rw (le-leb _ _ below, between_by address_of x.address address k symbols over low there, ne_eqb _ _ not) refl
    ]
  ]

  first_greatest : (k : ℕ) (p : PublicValue) → k ≤ address → Highest address_of k address symbols
      → find (λ (x : PublicValue). x.address == k) symbols ≡ Some p → nearest symbols address ≡ Some p
  first_greatest k p low greatest there =
      find_as (is_nearest symbols address) (λ x. x.address == k) symbols (at_greatest k low (some_is _ p there) greatest) ∙ there

  none_near : ((q : ℕ) → q ≤ address → find (λ (p : PublicValue). p.address == q) symbols ≡ None) → nearest symbols address ≡ None
  none_near h = find_none (is_nearest symbols address) symbols (λ x among. elim (cases_lt address x.address) [
    | inl above ↦ fails_above x above
    | inr below ↦ absurd (let k : false ≡ true = subst IsSome (h x.address below) (found_member address_of symbols x among) in cc)
  ])

  -- where no symbol is the nearest, one at or below the address has another between them
  another : find (is_nearest symbols address) symbols ≡ None → (x : PublicValue) → Contains symbols x → x.address ≤ address
      → (o : PublicValue) × Contains symbols o × (x.address < o.address) × (o.address ≤ address)
  another none x among below =
      let between = fails_below x (none_passes (is_nearest symbols address) symbols none x among) below in
      let other = any_member (λ (o : PublicValue). is_between x.address address o.address) symbols between in
      let t = both (nat_lt x.address other.0.address) (nat_le other.0.address address) other.2 in
      (other.0, other.1, ltb-true _ _ t.0, leb-true _ _ t.1)

  -- which can't go on
  climbs : find (is_nearest symbols address) symbols ≡ None → (n : ℕ) (x : PublicValue) → Contains symbols x → x.address ≤ address
      → address ≤ x.address + n → ⊥
  climbs none zero x among below left = let o = another none x among below in omega (arith, left, o.2, o.3)
  climbs none (suc n) x among below left =
      let o = another none x among below in
      let over = o.2 in
      climbs none n o.0 o.1 o.3 (omega (arith, left, over))

  nearest_by : (o : Option PublicValue) → find (is_nearest symbols address) symbols ≡ o → IsNearestOrNone symbols address o
  nearest_by None h = λ x among. elim (cases_lt address x.address) [
    | inl above ↦ above
    | inr below ↦ absurd (climbs h address x among below (omega arith))
  ]
  nearest_by (Some p) h =
      let t = found_passes (is_nearest symbols address) symbols p h in
      let low = passes_below p t.1 in
      let greatest = highest address_of p.address address symbols low.1 in
      record {
        among = t.0;
        below = low.0;
        closest = λ other there here. greatest other.address here (found_member address_of symbols other there);
        first =
            sym (find_as (is_nearest symbols address) (λ x. x.address == p.address) symbols
            (at_greatest p.address low.0 (found_member address_of symbols p t.0) greatest)) ∙ h;
      }

pub nearest_is : (symbols : List PublicValue) (address : ℕ) → IsNearestOrNone symbols address (nearest symbols address)
nearest_is symbols address = nearest_by symbols address (nearest symbols address) refl

-- ---- lists of the code
some_mapped : {A B : Type 0} (f : A → B) (o : Option A) → IsSome (option_map f o) → IsSome o
some_mapped f None h = h
some_mapped f (Some x) h = refl

pub found_public : (publics : List PublicSymbol) (address : ℕ) (p : PublicSymbol) → IsNearestNumber (λ s. s.address) publics address p
    → nearest (map public_of publics) address ≡ Some (public_of p)
found_public publics address p h =
    first_greatest (map public_of publics) address p.address (public_of p) h.below
    (λ q below there.
    h.closest q below (some_mapped public_of (find (λ s. s.address == q) publics) (subst IsSome (find-map public_of (λ s. s.address == q) publics) there)))
    (find-map public_of (λ s. s.address == p.address) publics ∙ ap (option_map public_of) h.first)

pub no_public : (publics : List PublicSymbol) (address : ℕ)
    → ((q : ℕ) → q ≤ address → first_numbered (λ (s : PublicSymbol). s.address) q publics ≡ None)
    → nearest (map public_of publics) address ≡ None
no_public publics address h =
    none_near (map public_of publics) address
    (λ q below. find-map public_of (λ s. s.address == q) publics ∙ ap (option_map public_of) (h q below))

abbrev begins : Function → ℕ
begins f = f.address

abbrev any_parts : ℕ → ℕ → List Function → Bool
any_parts symbol address fs = list_any (parts symbol address) (map function_of fs)

-- functions part a symbol from an address by where they begin
by_beginnings : (symbol address : ℕ) (fs : List Function)
    → any_parts symbol address fs ≡ any_below (λ n. n) (λ n. nat_le symbol n) address (map begins fs)
by_beginnings symbol address [] = refl
by_beginnings symbol address (f ∷ fs) =
    ap (λ b. (nat_le symbol f.address && nat_le f.address address) || b) (by_beginnings symbol address fs)

pub parted_by : (symbol address start : ℕ) (fs : List Function) → IsNearestNumber (λ (n : ℕ). n) (map begins fs) address start
    → any_parts symbol address fs ≡ nat_le symbol start
parted_by symbol address start fs h = by_beginnings symbol address fs ∙ elim (cases_lt start symbol) [
  | inl under ↦
      none_below (λ n. n) (λ n. nat_le symbol n) address (map begins fs)
      (λ q below there. let low = h.closest q below there in lt-leb _ _ (omega (arith, low, under)))
      ∙ sym (lt-leb _ _ under)
  | inr over ↦
      below_by (λ n. n) (λ n. nat_le symbol n) address start (map begins fs) (le-leb _ _ over) h.below (some_is _ start h.first)
      ∙ sym (le-leb _ _ over)
]

pub parted_none : (symbol address : ℕ) (fs : List Function) → ((q : ℕ) → q ≤ address → first_numbered (λ (n : ℕ). n) q (map begins fs) ≡ None)
    → any_parts symbol address fs ≡ false
parted_none symbol address fs h =
    by_beginnings symbol address fs
    ∙ none_below (λ n. n) (λ n. nat_le symbol n) address (map begins fs)
    (λ q below there. absurd (let k : false ≡ true = subst IsSome (h q below) there in cc))
