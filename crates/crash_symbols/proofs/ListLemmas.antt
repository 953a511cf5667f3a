-- Lists: the last item, what is found in items up to a number of them, and numbers one by one.
use Rattle.std.proofs.Common.{◌≡◌, ◌∙◌, ◌+◌, ◌-◌, ◌<◌, ◌≤◌, ◌++◌, ◌∷◌, [], ℕ, suc, Bool, List, Option, Some, None, ap, append-nil, append_assoc}
use Rattle.std.proofs.Common.{arith, cond, filter, length, length-append, map, reverse, sym, take}
use Rattle.std.specs.List.{cons_option, range_with_len}
use Rattle.std.proofs.lemmas.List.{map-append, map-id, reverse-append}
use Rattle.std.proofs.lemmas.List.FromFn.{filter_of_map_range_with_len_more, map-range_with_len_more}

-- the last item of a list is the first of the reversed one
pub last_first : {A : Type 0} (before after : List A) (x : A) → before ≡ after ++ (x ∷ []) → reverse before ≡ x ∷ reverse after
last_first before after x is = ap reverse is ∙ reverse-append after (x ∷ [])

-- ---- what is found in items, up to a number of them

-- one item more, in which there may be something
pub one_found : {D : Type 0} (most : ℕ) (found more rest : List D) (o : Option D) {all : List D}
    → length found < most → more ≡ found ++ cons_option o []
    → found ++ take (most - length found) (cons_option o rest) ≡ all → more ++ take (most - length more) rest ≡ all
one_found most found more rest None below is whole = rw (is ∙ append-nil found) whole
one_found most found more rest (Some d) below is whole =
    let next : most - length found ≡ suc (most - length more) = omega (arith, ap length is, length-append found (d ∷ [])) in
    ap (λ ds. ds ++ take (most - length more) rest) is
    ∙ append_assoc found (d ∷ []) (take (most - length more) rest) ∙ (rw next at whole)

-- there is no room for more
pub all_found : {D : Type 0} (most : ℕ) (found rest : List D) {all : List D} → most ≤ length found
    → found ++ take (most - length found) rest ≡ all → found ≡ all
all_found most found rest past whole =
    let none : most - length found ≡ 0 = omega arith in sym (append-nil found) ∙ (rw none at whole)

-- ---- numbers

module _ {X Z : Type 0} (made : X → Z) (make : ℕ → Z) where
  -- one number more
  pub numbered_next : (n : ℕ) (before after : List X) (x : X) → after ≡ before ++ (x ∷ []) → made x ≡ make n
      → map made before ≡ map make (range_with_len 0 n) → map made after ≡ map make (range_with_len 0 (n + 1))
  numbered_next n before after x more is done =
      ap (map made) more ∙ map-append made before (x ∷ []) ∙ ap (λ z. map made before ++ (z ∷ [])) is
      ∙ ap (λ zs. zs ++ (make n ∷ [])) done ∙ sym (map-range_with_len_more make 0 n n (omega arith))

-- the numbers so far that pass a test, with one more
kept_more : (test : ℕ → Bool) (n : ℕ) → filter test (range_with_len 0 (n + 1)) ≡ filter test (range_with_len 0 n) ++ cond (test n) (n ∷ []) []
kept_more test n =
    ap (filter test) (sym (map-id (range_with_len 0 (n + 1)))) ∙ filter_of_map_range_with_len_more test (λ k. k) 0 n n (omega arith)
    ∙ ap (λ l. filter test l ++ cond (test n) (n ∷ []) []) (map-id (range_with_len 0 n))

-- the same where a list of marks has the test
pub kept_next : (test : ℕ → Bool) (n : ℕ) (passes : Bool) (before after : List ℕ) → test n ≡ passes → after ≡ before ++ cond passes (n ∷ []) []
    → before ≡ filter test (range_with_len 0 n) → after ≡ filter test (range_with_len 0 (n + 1))
kept_next test n passes before after is more so =
    more ∙ ap (λ l. l ++ cond passes (n ∷ []) []) so ∙ ap (λ b. filter test (range_with_len 0 n) ++ cond b (n ∷ []) []) (sym is) ∙ sym (kept_more test n)
