-- The last item of a list that passes a test, and the threads of entries.
use Rattle.std.proofs.Common.{◌≡◌, ◌≢◌, ℕ, Bool, true, false, cond, List, [], ◌∷◌, ◌++◌, length, map, reverse, Ok, Option, Some, None, refl, ap, sym, ◌∙◌}
use Rattle.std.proofs.Common.{arith}
use Rattle.std.specs.Prelude.{find, ◌==◌, All, ◌↔◌}
use Rattle.std.specs.Option.{option_map, option_or}
use Rattle.std.proofs.lemmas.Bool.{eqb-true, ne_eqb, eq-eqb}
use Rattle.std.proofs.lemmas.List.{length-map, reverse-append}
use Rattle.std.proofs.lemmas.List.Elements.{All-cons, All-head, All-tail}
use Rattle.std.proofs.lemmas.List.Folds.{find-append}
use Rattle.minidump_bytes.specs.declared.endian.Endian.{Endian}
use Rattle.minidump_format.specs.declared.format.thread.MINIDUMP_THREAD.{MINIDUMP_THREAD}
use Rattle.minidump_system.specs.Reads.{all_kept}
use Rattle.minidump_system.proofs.KeptLemmas.{kept_mapped}
use Rattle.minidump.specs.Thread.{IsLastThread, Thread, thread_at}

module _ {X : Type 0} (p : X → Bool) where
  -- it is in the rest, or it is the first
  last-cons : (x : X) (xs : List X) → find p (reverse (x ∷ xs)) ≡ option_or (find p (reverse xs)) (cond (p x) (Some x) None)
  last-cons x xs = ap (find p) (reverse-append (x ∷ []) xs) ∙ find-append p (reverse xs) (x ∷ [])

  -- there is none where all fail
  all_fail : (xs : List X) → All (λ x. p x ≡ false) xs → find p (reverse xs) ≡ None
  all_fail [] fail = refl
  all_fail (x ∷ xs) fail =
      let first : p x ≡ false = All-head (λ y. p y ≡ false) x xs fail in
      last-cons x xs ∙ rw (all_fail xs (All-tail (λ y. p y ≡ false) x xs fail), first) refl

  fails : (x : X) (b : Bool) → cond b (Some x) None ≡ None → b ≡ false
  fails x true e = cc
  fails x false e = refl

  -- and all fail where there is none
  none_passes : (xs : List X) → find p (reverse xs) ≡ None → All (λ x. p x ≡ false) xs
  none_passes [] none = λ k d lt. absurd (omega arith)
  none_passes (x ∷ xs) none = go (find p (reverse xs)) refl (rw (last-cons x xs) at none) (none_passes xs)
    where
      go : (o : Option X) → find p (reverse xs) ≡ o → option_or (find p (reverse xs)) (cond (p x) (Some x) None) ≡ None
          → (find p (reverse xs) ≡ None → All (λ y. p y ≡ false) xs) → All (λ y. p y ≡ false) (x ∷ xs)
      go (Some y) is e rest = let h : Some y ≡ None = rw is at e in cc
      go None is e rest = All-cons (λ y. p y ≡ false) x xs (fails x (p x) (rw is at e)) (rest is)

  -- one that passes, before others that fail
  pub last_passes : (earlier later : List X) (x : X) → p x ≡ true → All (λ y. p y ≡ false) later → find p (reverse (earlier ++ x ∷ later)) ≡ Some x
  last_passes earlier later x passes fail =
      ap (find p) (reverse-append earlier (x ∷ later)) ∙ find-append p (reverse (x ∷ later)) (reverse earlier)
      ∙ rw (last-cons x later, all_fail later fail, passes) refl

module _ {A B : Type 0} (f : A → B) (p : B → Bool) where
  either : (o : Option A) (found : Option B) (b : Bool) (x : A) → option_map f o ≡ found
      → option_map f (option_or o (cond b (Some x) None)) ≡ option_or found (cond b (Some (f x)) None)
  either (Some y) found b x same = rw (← same) refl
  either None found true x same = rw (← same) refl
  either None found false x same = rw (← same) refl

  -- the last item that passes a test, seen by a view
  pub last_seen : (xs : List A) → option_map f (find (λ x. p (f x)) (reverse xs)) ≡ find p (reverse (map f xs))
  last_seen [] = refl
  last_seen (x ∷ xs) =
      rw (last-cons (λ y. p (f y)) x xs, last-cons p (f x) (map f xs))
      (either (find (λ y. p (f y)) (reverse xs)) (find p (reverse (map f xs))) (p (f x)) x (last_seen xs))

module _ {X : Type 0} (key : X → ℕ) where
  -- the last of a key
  pub last_of_key : (earlier later : List X) (x : X) → All (λ y. key y ≢ key x) later → find (λ y. key y == key x) (reverse (earlier ++ x ∷ later)) ≡ Some x
  last_of_key earlier later x others =
      last_passes (λ y. key y == key x) earlier later x (eq-eqb (key x) (key x) refl) (λ k d lt. ne_eqb _ (key x) (others k d lt))

  differs : (n k : ℕ) → (n == k) ≡ false → n ≢ k
  differs n k fail same = let equal : (n == k) ≡ true = eq-eqb n k same in cc

  -- none is of a key exactly where all keys are others
  pub none_of_key : (xs : List X) (k : ℕ) → find (λ y. key y == k) (reverse xs) ≡ None ↔ All (λ y. key y ≢ k) xs
  none_of_key xs k = (
    (λ none. λ i d lt. differs _ k (none_passes (λ y. key y == k) xs none i d lt)),
    (λ others. all_fail (λ y. key y == k) xs (λ i d lt. ne_eqb _ k (others i d lt))),
  )

-- the last thread of an id is what a search from the end finds
pub last_is_found : (id : ℕ) (threads : List Thread) (last : Option Thread) → IsLastThread id threads last
    → last ≡ find (λ t. t.raw.thread_id == id) (reverse threads)
last_is_found id threads None others = sym ((none_of_key (λ t. t.raw.thread_id) threads id).1 others)
last_is_found id threads (Some t) (earlier, later, split, own, others) =
    rw (split, ← own) (sym (last_of_key (λ x. x.raw.thread_id) earlier later t (λ k d lt. rw own (others k d lt))))

earlier_too : (id : ℕ) (x : Thread) (xs : List Thread) (t : Thread) → IsLastThread id xs (Some t) → IsLastThread id (x ∷ xs) (Some t)
earlier_too id x xs t (earlier, later, split, own, others) = (x ∷ earlier, later, ap (λ l. x ∷ l) split, own, others)

first_or_none : (id : ℕ) (x : Thread) (xs : List Thread) (b : Bool) → (x.raw.thread_id == id) ≡ b
    → All (λ t. t.raw.thread_id ≢ id) xs → IsLastThread id (x ∷ xs) (cond b (Some x) None)
first_or_none id x xs true own others = ([], xs, refl, eqb-true x.raw.thread_id id own, others)
first_or_none id x xs false other others =
    All-cons (λ t. t.raw.thread_id ≢ id) x xs (differs {X = Thread} (λ t. t.raw.thread_id) x.raw.thread_id id other) others

-- and what a search from the end finds is the last
pub found_is_last : (id : ℕ) (threads : List Thread) → IsLastThread id threads (find (λ t. t.raw.thread_id == id) (reverse threads))
found_is_last id [] = λ k d lt. absurd (omega arith)
found_is_last id (x ∷ xs) =
    rw (last-cons (λ t. t.raw.thread_id == id) x xs) (go (find (λ t. t.raw.thread_id == id) (reverse xs)) (found_is_last id xs))
  where
    go : (found : Option Thread) → IsLastThread id xs found
        → IsLastThread id (x ∷ xs) (option_or found (cond (x.raw.thread_id == id) (Some x) None))
    go (Some t) rest = earlier_too id x xs t rest
    go None others = first_or_none id x xs (x.raw.thread_id == id) refl others

-- each entry becomes its thread
pub kept_threads : (order : Endian) (file : List ℕ) (raws : List MINIDUMP_THREAD)
    → all_kept (λ raw. Ok (Some (thread_at order file raw))) raws ≡ Ok (map (thread_at order file) raws)
kept_threads order file raws = kept_mapped (thread_at order file) raws

-- so that there are as many threads as entries
pub as_many_threads : (order : Endian) (file : List ℕ) (raws : List MINIDUMP_THREAD) (threads : List Thread)
    → all_kept (λ raw. Ok (Some (thread_at order file raw))) raws ≡ Ok threads → length threads ≡ length raws
as_many_threads order file raws threads is =
    let both : Ok (map (thread_at order file) raws) ≡ Ok threads = sym (kept_threads order file raws) ∙ is in
    let same : map (thread_at order file) raws ≡ threads = cc in
    rw (← same) (length-map raws (thread_at order file))
