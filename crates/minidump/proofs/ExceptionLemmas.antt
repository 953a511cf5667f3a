-- Lemmas on the exceptions of all entries of the directory.
use Rattle.std.proofs.Common.{◌≡◌, ◌∙◌, ℕ, ◌+◌, List, [], ◌∷◌, Bool, true, false, Option, Some, None, cond, length, map, refl, ap, sym}
use Rattle.std.specs.Prelude.{◌==◌, Err, filter, find, reverse}
use Rattle.std.specs.List.{enumerate_from, last_or}
use Rattle.std.specs.Option.{option_map, option_or}
use Rattle.std.proofs.lemmas.List.{reverse-append}
use Rattle.std.proofs.lemmas.List.Folds.{find-append}
use Rattle.minidump_format.specs.declared.error.Error.TheVariants.{StreamNotFound}
use Rattle.minidump_format.specs.declared.format.header.MINIDUMP_DIRECTORY.{MINIDUMP_DIRECTORY}
use Rattle.minidump_format.specs.Header.{directory_entry, located}
use Rattle.minidump.specs.declared.directory.DecidingEntry.{DecidingEntry}
use Rattle.minidump.specs.Directory.{deciding_entry, directory, with_indices}
use Rattle.minidump.specs.Dump.{Dump, bytes_of_span, stream_of}
use Rattle.minidump.specs.Exception.{exception_stream}
use Rattle.minidump.specs.Exceptions.{exception_of_entry, exceptions_in}
use Rattle.minidump.specs.Streams.{entries_of}
use Rattle.minidump.proofs.ThreadLemmas.{last_seen}
use Rattle.minidump.proofs.EntryLemmas.{stream_by_bytes}

-- entries with indices are as many entries as there were
entries_again : (n : ℕ) (es : List MINIDUMP_DIRECTORY) → entries_of (map (λ p. record { index = p.0; entry = p.1 }) (enumerate_from n es)) ≡ es
entries_again n [] = refl
entries_again n (e ∷ es) = ap (λ l. e ∷ l) (entries_again (n + 1) es)

entries_with_indices : (es : List MINIDUMP_DIRECTORY) → entries_of (with_indices es) ≡ es
entries_with_indices es = entries_again 0 es

module _ {A B : Type 0} (f : A → B) (p : A → Bool) where
  with_last : (o : Option B) (found : Option A) (x : A) → option_or (option_map f found) (Some (f x)) ≡ option_or (option_map f (option_or found (Some x))) o
  with_last o None x = refl
  with_last o (Some y) x = refl

  without_last : (o : Option B) (found : Option A) → option_or (option_map f found) o ≡ option_or (option_map f (option_or found None)) o
  without_last o None = refl
  without_last o (Some y) = refl

  by_test : (o : Option B) (x : A) (xs : List A) (found : Option A) (b : Bool) → ((o : Option B) → last_or o (map f xs) ≡ option_or (option_map f found) o)
      → last_or o (map f (cond b (x ∷ xs) xs)) ≡ option_or (option_map f (option_or found (cond b (Some x) None))) o
  by_test o x xs found true so_far = so_far (Some (f x)) ∙ with_last o found x
  by_test o x xs found false so_far = so_far o ∙ without_last o found

  -- the last value of those that pass a test is that of the first from the end that does
  last_passing : (o : Option B) (xs : List A) → last_or o (map f (filter p xs)) ≡ option_or (option_map f (find p (reverse xs))) o
  last_passing o [] = refl
  last_passing o (x ∷ xs) =
      rw (reverse-append (x ∷ []) xs, find-append p (reverse xs) (x ∷ []))
      (by_test o x (filter p xs) (find p (reverse xs)) (p x) (λ other. last_passing other xs))

pub last_is_the_stream : (d : Dump) → last_or (Some (Err StreamNotFound)) (exceptions_in d) ≡ Some (stream_of exception_stream d)
last_is_the_stream d =
    let es = directory d.order d.file d.header in
    let t = exception_stream.stream_type in
    let seen : option_map (λ e. e.entry) (deciding_entry t es) ≡ find (λ e. e.stream_type == t) (reverse es) =
    last_seen (λ e. e.entry) (λ e. e.stream_type == t) (with_indices es) ∙ ap (λ l. find (λ e. e.stream_type == t) (reverse l)) (entries_with_indices es) in
    last_passing (exception_of_entry d) (λ e. e.stream_type == t) (Some (Err StreamNotFound)) es
    ∙ ap (λ o. option_or (option_map (exception_of_entry d) o) (Some (Err StreamNotFound))) (sym seen)
    ∙ by_entry (deciding_entry t es) refl
  where
    by_entry : (o : Option DecidingEntry) → deciding_entry exception_stream.stream_type (directory d.order d.file d.header) ≡ o
        → option_or (option_map (exception_of_entry d) (option_map (λ e. e.entry) o)) (Some (Err StreamNotFound)) ≡ Some (stream_of exception_stream d)
    by_entry None is = rw is refl
    by_entry (Some e) is = ap Some (sym (stream_by_bytes exception_stream d (bytes_of_span (located d.file e.entry.location)) (rw is refl)))
