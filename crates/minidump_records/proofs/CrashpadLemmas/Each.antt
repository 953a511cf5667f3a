-- Readings by index: none, one more, and one that fails.
use Rattle.std.proofs.Common.{◌≡◌, ℕ, zero, suc, ◌+◌, ◌-◌, ◌*◌, ◌<◌, ◌≤◌, List, [], ◌∷◌, ◌++◌, Ok, Err, refl, arith, add-one, add-zero, add-suc, inl, inr}
use Rattle.std.proofs.Common.{length}
use Rattle.std.specs.Prelude.{Some, Result}
use Rattle.std.specs.Result.{IsErrAnd}
use Rattle.std.proofs.lemmas.Result.{err_from_is_err_and}
use Rattle.std.specs.Option.{ok_or}
use Rattle.std.proofs.lemmas.Bool.{le-ltb, lt-ltb}
use Rattle.minidump_bytes.specs.declared.endian.Endian.{Endian}
use Rattle.minidump_bytes.specs.Layout.{Layout}
use Rattle.minidump_bytes.specs.Span.{record_at}
use Rattle.minidump_format.specs.Answer.{Gives, GivesError}
use Rattle.minidump_format.specs.declared.error.Error.{Error}
use Rattle.minidump_format.specs.declared.error.Error.TheVariants.{OutOfMemory, StreamReadFailure, StreamSizeMismatch}
use Rattle.minidump_format.specs.declared.format.header.MINIDUMP_LOCATION_DESCRIPTOR.{MINIDUMP_LOCATION_DESCRIPTOR}
use Rattle.minidump_records.specs.Crashpad.Parts.{EntryList, each, list_at, part_at, parts, tested_list, WithinPart, WithinParts}

pub each-none : {V : Type 0} (read : ℕ → Result V Error) → each read 0 ≡ Ok []
unfolding each
each-none read = refl

pub each-more : {V : Type 0} (read : ℕ → Result V Error) (n : ℕ) (vs : List V) (v : V) → each read n ≡ Ok vs → read n ≡ Ok v
    → each read (n + 1) ≡ Ok (vs ++ v ∷ [])
unfolding each
each-more read n vs v before one = rw (add-one, before, one) refl

stays : {V : Type 0} (read : ℕ → Result V Error) (n k : ℕ) (e : Error) → each read n ≡ Err e → each read (n + k) ≡ Err e
unfolding each
stays read n zero e h = rw (add-zero) h
stays read n (suc k) e h = rw (add-suc, stays read n k e h) refl

is_that_error : {N B : Type 0} (e : Error) (whole : Result B Error) → N → whole ≡ Err e → GivesError N e whole
is_that_error OutOfMemory whole memory h = memory
is_that_error e whole memory h = h

-- the exit of a `?` whose error is known to be that of the whole, where memory may run out
pub gives_missing : {N X B : Type 0} (view : X → B) (r : Result X Error) (e : Error) (whole : Result B Error) → IsErrAnd r (λ y. y ≡ e) → N → whole ≡ Err e
    → Gives view N r whole
gives_missing view r e whole exit memory h = let p = err_from_is_err_and r exit in rw (p.1, p.2) (is_that_error e whole memory h)

-- what a part gives is what the whole gives, where the two are the same
pub gives_same : {M N X B : Type 0} (view : X → B) (r : Result X Error) (part whole : Result B Error) → (M → N) → whole ≡ part → Gives view M r part
    → Gives view N r whole
gives_same view (Ok x) part whole memory same h = rw same h
gives_same view (Err OutOfMemory) part whole memory same h = memory h
gives_same view (Err e) part whole memory same h = rw same h

-- the error of the first index that has one is that of all
pub each-error : {V : Type 0} (read : ℕ → Result V Error) (i n : ℕ) (vs : List V) (e : Error) → i < n → each read i ≡ Ok vs → read i ≡ Err e
    → each read n ≡ Err e
unfolding each
each-error read i n vs e lt before one =
    let here : each read (suc i) ≡ Err e = rw (before, one) refl in
    let so : suc i + (n - suc i) ≡ n = omega arith in
    rw so at (stays read (suc i) (n - suc i) e here)

module _ {R V : Type 0} (layout : Layout R) (part : Endian → List ℕ → R → Result V Error) (order : Endian) (file bytes : List ℕ) where
  -- the part of an entry that is there
  pub at_entry : (i : ℕ) (x : R) (r : Result V Error) → record_at layout order (4 + layout.size * i) bytes ≡ Some x → part order file x ≡ r
      → part_at layout part order file bytes i ≡ r
  at_entry i x r e h = rw e h

  -- and of one that is not
  pub at_none : (i : ℕ) (e : Error) → Err e ≡ ok_or (record_at layout order (4 + layout.size * i) bytes) StreamReadFailure
      → part_at layout part order file bytes i ≡ Err e
  at_none i e h = rw (← h) refl

module _ {R V : Type 0} (layout : Layout R) (part : Endian → List ℕ → R → Result V Error) (order : Endian) (file : List ℕ) where
  -- the parts of a list whose entries are no more bytes than the file has
  pub tested_parts : (l : MINIDUMP_LOCATION_DESCRIPTOR) (list : EntryList) → list_at order file l ≡ Ok list → layout.size * list.count ≤ length file
      → tested_list layout part order file l ≡ parts layout part order file list
  unfolding tested_list
  tested_parts l list h fits = rw (h, le-ltb _ _ fits) refl

  -- and the error of one whose entries are more
  pub too_long : (l : MINIDUMP_LOCATION_DESCRIPTOR) (list : EntryList) → list_at order file l ≡ Ok list → length file < layout.size * list.count
      → tested_list layout part order file l ≡ Err (StreamSizeMismatch (layout.size * list.count) (length file))
  unfolding tested_list
  too_long l list h long = rw (h, lt-ltb _ _ long) refl

-- the reads of one entry more, whose part may be an error, and of one more that is read
pub within_entry : (size bytes most i old mid new : ℕ) → size * i ≤ bytes → mid ≤ old + i * (1 + most) → WithinPart (size * (i + 1)) bytes most mid new
    → WithinParts size bytes most old new
within_entry size bytes most i old mid new room before (inl h) = (i, room, omega (arith, h, before))
within_entry size bytes most i old mid new room before (inr h) = (i + 1, h.0, omega (arith, h.1, before))

pub within_more : (size bytes most i old mid new : ℕ) → mid ≤ old + i * (1 + most) → WithinPart (size * (i + 1)) bytes most mid new
    → new ≤ old + (i + 1) * (1 + most)
within_more size bytes most i old mid new before (inl h) = omega (arith, h, before)
within_more size bytes most i old mid new before (inr h) = omega (arith, h.1, before)
