-- What the laws on a directory stand on.
use Rattle.std.proofs.Common.{◌≡◌, ◌≢◌, ℕ, zero, suc, ◌+◌, ◌<◌, ◌≤◌, Bool, true, false, List, [], ◌∷◌, ◌++◌, length, map, reverse, Option, Some, None}
use Rattle.std.proofs.Common.{refl, ap, sym, ◌∙◌, subst, arith, add-one, append_assoc, append-nil, inl, inr}
use Rattle.std.specs.Prelude.{find, ◌==◌, All, Contains}
use Rattle.std.specs.List.{cons_option, filter_map, range_with_len}
use Rattle.std.specs.List.Sorted.{IsStrictlyIncreasing}
use Rattle.std.proofs.lemmas.Bool.{cases_lt, eqb-true, ne_eqb, eq-eqb}
use Rattle.std.proofs.lemmas.List.Elements.{All-cons, All-head, All-map, All-tail}
use Rattle.minidump_format.specs.declared.format.header.MINIDUMP_DIRECTORY.{MINIDUMP_DIRECTORY}
use Rattle.minidump.specs.declared.directory.DecidingEntry.{DecidingEntry}
use Rattle.minidump.specs.Directory.{with_indices, deciding_entry, deciding_entries_below}
use Rattle.minidump.proofs.DirectoryLemmas.{deciding_entry-more}

-- entries of other types change nothing
deciding_entry-others : (t : ℕ) (later es : List MINIDUMP_DIRECTORY) → All (λ x. x.stream_type ≢ t) later → deciding_entry t (es ++ later) ≡ deciding_entry t es
deciding_entry-others t [] es others = rw append-nil refl
deciding_entry-others t (x ∷ later) es others =
    let other : (x.stream_type == t) ≡ false = ne_eqb x.stream_type t (All-head (λ y. y.stream_type ≢ t) x later others) in
    ap (deciding_entry t) (sym (append_assoc es (x ∷ []) later))
    ∙ deciding_entry-others t later (es ++ x ∷ []) (All-tail (λ y. y.stream_type ≢ t) x later others)
    ∙ deciding_entry-more t es x ∙ rw other refl

pub deciding_entry-last : (es later : List MINIDUMP_DIRECTORY) (e : MINIDUMP_DIRECTORY) → All (λ x. x.stream_type ≢ e.stream_type) later
    → deciding_entry e.stream_type (es ++ (e ∷ later)) ≡ Some (record { index = length es; entry = e })
deciding_entry-last es later e others =
    let own : (e.stream_type == e.stream_type) ≡ true = eq-eqb e.stream_type e.stream_type refl in
    ap (deciding_entry e.stream_type) (sym (append_assoc es (e ∷ []) later))
    ∙ deciding_entry-others e.stream_type later (es ++ e ∷ []) others
    ∙ deciding_entry-more e.stream_type es e ∙ rw own refl

-- none decides where no entry has the type
pub deciding_entry-none : (t : ℕ) (es : List MINIDUMP_DIRECTORY) → All (λ x. x.stream_type ≢ t) es → deciding_entry t es ≡ None
deciding_entry-none t es others = deciding_entry-others t es [] others

-- what a search finds passes
pub find_passes : {X : Type 0} (p : X → Bool) (xs : List X) (x : X) → find p xs ≡ Some x → p x ≡ true
find_passes p [] x found = cc
find_passes p (y ∷ ys) x found = go (p y) refl (λ rest. find_passes p ys x rest)
  where
    go : (b : Bool) → p y ≡ b → (find p ys ≡ Some x → p x ≡ true) → p x ≡ true
    go true is later = let same : y ≡ x = let h : Some y ≡ Some x = rw is at found in cc in subst (λ z. p z ≡ true) same is
    go false is later = later (rw is at found)

pub deciding_has_type : (t : ℕ) (es : List MINIDUMP_DIRECTORY) (d : DecidingEntry) → deciding_entry t es ≡ Some d → d.entry.stream_type ≡ t
deciding_has_type t es d found = eqb-true d.entry.stream_type t (find_passes (λ x. x.entry.stream_type == t) (reverse (with_indices es)) d found)

-- a smaller number before increasing ones
increasing-cons : (x : ℕ) (xs : List ℕ) → All (λ y. x < y) xs → IsStrictlyIncreasing xs → IsStrictlyIncreasing (x ∷ xs)
increasing-cons x xs above increasing zero lt = above 0 0 (omega arith)
increasing-cons x xs above increasing (suc k) lt = rw add-one (rw add-one at (increasing k (omega arith)))

contains-cons : {X : Type 0} (x y : X) (xs : List X) → Contains xs x → Contains (y ∷ xs) x
contains-cons x y xs (k, lt, at) = (suc k, omega arith, at)

-- what a function gives of numbers in order, where it gives a value of each number that has that number as its key
module _ {X : Type 0} (f : ℕ → Option X) (key : X → ℕ) (with_keys : (t : ℕ) (x : X) → f t ≡ Some x → key x ≡ t) where
  -- each value is given at its key
  pub given_at_key : (n a : ℕ) → All (λ x. (f (key x) ≡ Some x) × (a ≤ key x)) (filter_map f (range_with_len a n))
  given_at_key zero a = λ k d lt. absurd (omega arith)
  given_at_key (suc n) a = go (f a) refl (weaker _ (given_at_key n (a + 1)))
    where
      weaker : (xs : List X) → All (λ x. (f (key x) ≡ Some x) × (a + 1 ≤ key x)) xs → All (λ x. (f (key x) ≡ Some x) × (a ≤ key x)) xs
      weaker xs all k d lt = let h = all k d lt in (h.0, omega (arith, h.1))

      go : (o : Option X) → f a ≡ o → All (λ x. (f (key x) ≡ Some x) × (a ≤ key x)) (filter_map f (range_with_len (a + 1) n))
          → All (λ x. (f (key x) ≡ Some x) × (a ≤ key x)) (cons_option (f a) (filter_map f (range_with_len (a + 1) n)))
      go None is rest = rw is rest
      go (Some x) is rest =
          let own : key x ≡ a = with_keys a x is in
          let first : (f (key x) ≡ Some x) × (a ≤ key x) = (rw own is, omega arith) in
          rw is (All-cons (λ y. (f (key y) ≡ Some y) × (a ≤ key y)) x (filter_map f (range_with_len (a + 1) n)) first rest)

  -- the keys ascend
  pub keys_ascend : (n a : ℕ) → IsStrictlyIncreasing (map key (filter_map f (range_with_len a n)))
  keys_ascend zero a = λ k lt. absurd (omega arith)
  keys_ascend (suc n) a = go (f a) refl (keys_ascend n (a + 1)) (given_at_key n (a + 1))
    where
      go : (o : Option X) → f a ≡ o → IsStrictlyIncreasing (map key (filter_map f (range_with_len (a + 1) n)))
          → All (λ x. (f (key x) ≡ Some x) × (a + 1 ≤ key x)) (filter_map f (range_with_len (a + 1) n))
          → IsStrictlyIncreasing (map key (cons_option (f a) (filter_map f (range_with_len (a + 1) n))))
      go None is rest all = rw is rest
      go (Some x) is rest all =
          let own : key x ≡ a = with_keys a x is in
          rw is (increasing-cons (key x) _ (All-map (λ y. key x < y) key _ (λ k d lt. omega (arith, (all k d lt).1))) rest)

  -- each value at a key among the numbers is there
  pub has_given : (n a t : ℕ) (x : X) → a ≤ t → t < a + n → f t ≡ Some x → Contains (filter_map f (range_with_len a n)) x
  has_given zero a t x low high is = absurd (omega arith)
  has_given (suc n) a t x low high is = elim (cases_lt a t) [
    | inl lt ↦ longer (f a) (has_given n (a + 1) t x (omega arith) (omega arith) is)
    | inr ge ↦ let here : t ≡ a = omega arith in let first : f a ≡ Some x = rw here at is in rw first (0, omega arith, refl)
  ]
    where
      longer : (o : Option X) → Contains (filter_map f (range_with_len (a + 1) n)) x → Contains (cons_option o (filter_map f (range_with_len (a + 1) n))) x
      longer None has = has
      longer (Some y) has = contains-cons x y _ has

pub streams_ascend : (es : List MINIDUMP_DIRECTORY) (limit : ℕ) → IsStrictlyIncreasing (map (λ d. d.entry.stream_type) (deciding_entries_below limit es))
unfolding deciding_entries_below
streams_ascend es limit = keys_ascend (λ t. deciding_entry t es) (λ d. d.entry.stream_type) (λ t d is. deciding_has_type t es d is) limit 0

pub streams_decide : (es : List MINIDUMP_DIRECTORY) (limit : ℕ) → All (λ d. deciding_entry d.entry.stream_type es ≡ Some d) (deciding_entries_below limit es)
unfolding deciding_entries_below
streams_decide es limit k d lt = (given_at_key (λ t. deciding_entry t es) (λ x. x.entry.stream_type) (λ t x is. deciding_has_type t es x is) limit 0 k d lt).0

pub streams_have : (es : List MINIDUMP_DIRECTORY) (limit t : ℕ) (d : DecidingEntry) → t < limit → deciding_entry t es ≡ Some d → Contains (deciding_entries_below limit es) d
unfolding deciding_entries_below
streams_have es limit t d lt is =
    has_given (λ t. deciding_entry t es) (λ x. x.entry.stream_type) (λ t x is. deciding_has_type t es x is) limit 0 t d (omega arith) (omega arith) is
