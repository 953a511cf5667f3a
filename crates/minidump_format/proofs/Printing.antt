-- Lemmas on calls that print one after another.
use Rattle.std.specs.Prelude.{◌≡◌, ℕ, false, List, [], ◌++◌, Option, Result, Ok, Err, IsErrAnd}
use Rattle.std.proofs.Common.{refl, subst, append-nil, ap, sym, ◌∙◌, append_assoc}
use Rattle.std.proofs.KnownBytes.{Appends-nil, Appends-trans}
use Rattle.std.proofs.lemmas.Result.{err_from_is_err_and}
use Rattle.minidump_bytes.proofs.ToldLemmas.{not_dead}
use Rattle.minidump_bytes.specs.declared.told.Told.{Told}
use Rattle.minidump_bytes.specs.Told.{PutsAll, PutsPrefix, device_of, has_failed}
use Rattle.minidump_format.specs.declared.error.Error.{Error}
use Rattle.minidump_format.specs.Print.{Prints}

module _ {D : Type 0} (contents : D → Option (List ℕ)) where
  -- a prefix of one text, after another that went out whole
  prefix_after : (a b c : Told D) (xs ys : List ℕ) → PutsAll contents a b xs → PutsPrefix contents b c ys → PutsPrefix contents a c (xs ++ ys)
  prefix_after a b c xs ys all some = record {
    front = xs ++ some.front;
    rest = some.rest;
    split = ap (λ l. xs ++ l) some.split ∙ sym (append_assoc xs some.front some.rest);
    grown = Appends-trans _ _ _ _ _ all.grown some.grown;
    dead = not_dead all.ready;
  }

  -- a prefix of a text is a prefix of each longer text
  prefix_longer : (a b : Told D) (xs ys : List ℕ) → PutsPrefix contents a b xs → PutsPrefix contents a b (xs ++ ys)
  prefix_longer a b xs ys some = record {
    front = some.front;
    rest = some.rest ++ ys;
    split = ap (λ l. l ++ ys) some.split ∙ append_assoc some.front some.rest ys;
    grown = some.grown;
    dead = some.dead;
  }

  -- one text went out, and then another was printed
  pub prints_then : (a b c : Told D) (xs ys : List ℕ) (r : Result (Unit {0}) Error) → PutsAll contents a b xs → Prints contents b c ys r
      → Prints contents a c (xs ++ ys) r
  prints_then a b c xs ys (Ok _) all then = record { ready = all.ready; grown = Appends-trans _ _ _ _ _ all.grown then.grown; alive = then.alive }
  prints_then a b c xs ys (Err e) all then = (prefix_after a b c xs ys all then.0, then.1)

  -- where printing a text fails, printing a longer one fails
  pub prints_longer : (a b : Told D) (xs ys : List ℕ) (e : Error) → Prints contents a b xs (Err e) → Prints contents a b (xs ++ ys) (Err e)
  prints_longer a b xs ys e failed = (prefix_longer a b xs ys failed.0, failed.1)

  -- the exit of a `?`
  pub prints_exit : (a b : Told D) (xs ys : List ℕ) (r : Result (Unit {0}) Error) (e : Error) → IsErrAnd r (λ y. y ≡ e)
      → Prints contents a b xs (Err e) → Prints contents a b (xs ++ ys) r
  prints_exit a b xs ys r e exit failed = let p = err_from_is_err_and r exit in rw (p.1, p.2) (prints_longer a b xs ys e failed)

-- all of the text went out, but for the rest
pub record PutsAllBut {D : Type 0} (contents : D → Option (List ℕ)) (old new : Told D) (text rest : List ℕ) : Type 0 where
  pub front : List ℕ
  pub split : text ≡ front ++ rest
  pub put : PutsAll contents old new front

module _ {D : Type 0} (contents : D → Option (List ℕ)) where
  -- nothing went out yet
  pub but_all : (a : Told D) (text : List ℕ) → has_failed a ≡ false → PutsAllBut contents a a text text
  but_all a text alive =
      record { front = []; split = refl; put = record { ready = alive; grown = Appends-nil (contents (device_of a)); alive = alive } }

  -- a first part went out
  pub but_first : (a b : Told D) (xs ys : List ℕ) → PutsAll contents a b xs → PutsAllBut contents a b (xs ++ ys) ys
  but_first a b xs ys put = record { front = xs; split = refl; put = put }

  -- and then the next part
  pub but_next : (a b c : Told D) (text xs ys : List ℕ) → PutsAllBut contents a b text (xs ++ ys) → PutsAll contents b c xs → PutsAllBut contents a c text ys
  but_next a b c text xs ys before put = record {
    front = before.front ++ xs;
    split = before.split ∙ sym (append_assoc before.front xs ys);
    put = prints_then contents a b c before.front xs (Ok tt) before.put put;
  }

  -- or printing the next part failed
  pub but_exit : (a b c : Told D) (text xs ys : List ℕ) (r : Result (Unit {0}) Error) (e : Error) → PutsAllBut contents a b text (xs ++ ys)
      → IsErrAnd r (λ y. y ≡ e) → Prints contents b c xs (Err e) → Prints contents a c text r
  but_exit a b c text xs ys r e before exit failed =
      subst (λ t. Prints contents a c t r) (sym before.split)
      (prints_then contents a b c before.front (xs ++ ys) r before.put (prints_exit contents b c xs ys r e exit failed))

  -- or the rest was printed
  pub but_last : (a b c : Told D) (text rest : List ℕ) (r : Result (Unit {0}) Error) → PutsAllBut contents a b text rest → Prints contents b c rest r
      → Prints contents a c text r
  but_last a b c text rest r before last =
      subst (λ t. Prints contents a c t r) (sym before.split) (prints_then contents a b c before.front rest r before.put last)

  -- or there was no rest
  pub but_none : (a b : Told D) (text : List ℕ) → PutsAllBut contents a b text [] → PutsAll contents a b text
  but_none a b text before = subst (PutsAll contents a b) (sym (before.split ∙ append-nil before.front)) before.put
