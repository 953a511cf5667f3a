-- Fields that are put in one after another make what all of them mean.
use Rattle.std.proofs.Common.{◌≡◌, ℕ, Bool, true, false, List, [], ◌∷◌, ◌++◌, refl, ap, sym, ◌∙◌, append_assoc}
use Rattle.std.proofs.lemmas.List.{append-nil}
use Rattle.std.specs.Prelude.{Option, Some, None, ◌==◌, if◌then◌else◌}
use Rattle.std.specs.Option.{option_and_then, option_map}
use Rattle.minidump_bytes.specs.Wire.{Field, Payload}
use Rattle.minidump_stability.specs.Fields.{both, each, join, last_of, merge_messages, message_in, nested, payloads, repeated, scalar}
use Rattle.minidump_stability.specs.Rows.{put_fields, one_nested, one_repeated, only, puts, row, scalar_row, through}

-- the fields make what they mean, from a start
abbrev pub Means : {X : Type 0} → (Field → X → Option X) → X → (List Field → Option X) → Type 0
Means put start meaning = (fs : List Field) → puts put fs start ≡ meaning fs

-- ---- the payloads of a number
module _ {X : Type 0} (change : Payload → X → Option X) where
  abbrev pub changes : List Payload → X → Option X
  changes [] x = Some x
  changes (p ∷ ps) x = option_and_then (changes ps) (change p x)

  only_by : (number : ℕ) (f : Field) (fs : List Field) (x : X) (t : Bool) → (f.number == number) ≡ t
      → ((y : X) → puts (only number change) fs y ≡ changes (payloads number fs) y)
      → option_and_then (puts (only number change) fs) (if t then change f.payload x else Some x)
      ≡ changes (if t then f.payload ∷ payloads number fs else payloads number fs) x
  only_by number f fs x true t more = go (change f.payload x)
    where
      go : (r : Option X) → option_and_then (puts (only number change) fs) r ≡ option_and_then (changes (payloads number fs)) r
      go None = refl
      go (Some y) = more y
  only_by number f fs x false t more = more x

  pub only_is : (number : ℕ) (fs : List Field) (x : X) → puts (only number change) fs x ≡ changes (payloads number fs) x
  only_is number [] x = refl
  only_is number (f ∷ fs) x = only_by number f fs x (f.number == number) refl (λ y. only_is number fs y)

-- ---- rows
none_left : {A B C : Type 0} (g : A → Option B) (a : Option A) → both {B = C} (option_and_then g a) None ≡ None
none_left g None = refl
none_left g (Some x) = left (g x)
  where
    left : {B C : Type 0} (b : Option B) → both {B = C} b None ≡ None
    left None = refl
    left (Some y) = refl

both_then : {A B : Type 0} (k : A × B → Option (A × B)) (g : A → Option A) (h : B → Option B) (a : Option A) (b : Option B)
    → ((x : A) (w : B) → k (x, w) ≡ both (g x) (h w))
    → option_and_then k (both a b) ≡ both (option_and_then g a) (option_and_then h b)
both_then k g h None b each = refl
both_then k g h (Some x) None each = sym (none_left g (Some x))
both_then k g h (Some x) (Some w) each = each x w

module _ {X W : Type 0} (number : ℕ) (change : Payload → X → Option X) (rest : Field → W → Option W) where
  pub row_is : (fs : List Field) (x : X) (w : W) → puts (row number change rest) fs (x, w) ≡ both (puts (only number change) fs x) (puts rest fs w)
  row_is [] x w = refl
  row_is (f ∷ fs) x w =
      both_then (puts (row number change rest) fs) (puts (only number change) fs) (puts rest fs) (only number change f x) (rest f w) (λ y v. row_is fs y v)

  pub beside : (x : X) (w : W) (one : List Field → Option X) (more : List Field → Option W) → Means (only number change) x one → Means rest w more
      → Means (row number change rest) (x, w) (λ fs. both (one fs) (more fs))
  beside x w one more h k = λ fs. row_is fs x w ∙ rw (h fs, k fs) refl

module _ {V W : Type 0} (tuple_of : V → W) (of_tuple : W → V) (put : Field → W → Option W) (same : (v : V) → of_tuple (tuple_of v) ≡ v)
    (back : (w : W) → tuple_of (of_tuple w) ≡ w) where
  through_by : (fs : List Field) (r : Option W) → ((v : V) → puts (through tuple_of of_tuple put) fs v ≡ option_map of_tuple (puts put fs (tuple_of v)))
      → option_and_then (puts (through tuple_of of_tuple put) fs) (option_map of_tuple r) ≡ option_map of_tuple (option_and_then (puts put fs) r)
  through_by fs None more = refl
  through_by fs (Some w) more = more (of_tuple w) ∙ ap (λ u. option_map of_tuple (puts put fs u)) (back w)

  pub through_is : (fs : List Field) (v : V) → puts (through tuple_of of_tuple put) fs v ≡ option_map of_tuple (puts put fs (tuple_of v))
  through_is [] v = ap Some (sym (same v))
  through_is (f ∷ fs) v = through_by fs (put f (tuple_of v)) (λ u. through_is fs u)

  pub through_means : (v : V) (meaning : List Field → Option W) → Means put (tuple_of v) meaning
      → Means (through tuple_of of_tuple put) v (λ fs. option_map of_tuple (meaning fs))
  through_means v meaning h = λ fs. through_is fs v ∙ ap (option_map of_tuple) (h fs)

-- ---- scalars
module _ {N : Type 0} (value : Payload → Option N) where
  later : (n : N) (x : Option N) (o : Option (List N))
      → option_map (λ ns. last_of ns (Some n)) o ≡ option_map (λ ns. last_of ns x) (option_map (λ ns. n ∷ ns) o)
  later n x None = refl
  later n x (Some ns) = refl

  scalar_by : (ps : List Payload) (x : Option N) (v : Option N)
      → ((y : Option N) → changes (scalar_row value) ps y ≡ option_map (λ ns. last_of ns y) (each value ps))
      → option_and_then (changes (scalar_row value) ps) (option_map Some v)
      ≡ option_map (λ ns. last_of ns x) (option_and_then (λ n. option_map (λ ns. n ∷ ns) (each value ps)) v)
  scalar_by ps x None more = refl
  scalar_by ps x (Some n) more = more (Some n) ∙ later n x (each value ps)

  scalar_is : (ps : List Payload) (x : Option N) → changes (scalar_row value) ps x ≡ option_map (λ ns. last_of ns x) (each value ps)
  scalar_is [] x = refl
  scalar_is (p ∷ ps) x = scalar_by ps x (value p) (λ y. scalar_is ps y)

  pub only_scalar : (number : ℕ) → Means (only number (scalar_row value)) None (scalar value number)
  only_scalar number = λ fs. only_is (scalar_row value) number fs None ∙ scalar_is (payloads number fs) None

-- ---- messages
module _ {M : Type 0} (put : Field → M → Option M) where
  append_by : (fs gs : List Field) (r : Option M) → ((m : M) → puts put (fs ++ gs) m ≡ option_and_then (puts put gs) (puts put fs m))
      → option_and_then (puts put (fs ++ gs)) r ≡ option_and_then (puts put gs) (option_and_then (puts put fs) r)
  append_by fs gs None more = refl
  append_by fs gs (Some m) more = more m

  pub puts-append : (fs gs : List Field) (m : M) → puts put (fs ++ gs) m ≡ option_and_then (puts put gs) (puts put fs m)
  puts-append [] gs m = refl
  puts-append (f ∷ fs) gs m = append_by fs gs (put f m) (λ n. puts-append fs gs n)

module _ {M : Type 0} (put : Field → M → Option M) (empty : M) where
  -- the fields of several payloads, one after another
  abbrev all_in : Option (List (List Field)) → M → Option M
  all_in fss m = option_and_then (λ all. puts put (join all) m) fss

  nested_none : (fs : List Field) (m : M) (fss : Option (List (List Field))) → puts put fs m ≡ None → all_in (option_map (λ all. fs ∷ all) fss) m ≡ None
  nested_none fs m None is = refl
  nested_none fs m (Some all) is = puts-append put fs (join all) m ∙ rw is refl

  nested_some : (fs : List Field) (m n : M) (fss : Option (List (List Field))) → puts put fs m ≡ Some n
      → all_in (option_map (λ all. fs ∷ all) fss) m ≡ all_in fss n
  nested_some fs m n None is = refl
  nested_some fs m n (Some all) is = puts-append put fs (join all) m ∙ rw is refl

  nested_step : (ps : List Payload) (fs : List Field) (m : M) (r : Option M) → puts put fs m ≡ r
      → ((n : M) → changes (one_nested put empty) ps (Some n) ≡ option_map Some (all_in (each message_in ps) n))
      → option_and_then (changes (one_nested put empty) ps) (option_map Some r) ≡ option_map Some (all_in (option_map (λ all. fs ∷ all) (each message_in ps)) m)
  nested_step ps fs m None is more = rw (nested_none fs m (each message_in ps) is) refl
  nested_step ps fs m (Some n) is more = more n ∙ ap (option_map Some) (sym (nested_some fs m n (each message_in ps) is))

  nested_by : (ps : List Payload) (m : M) (fields : Option (List Field))
      → ((n : M) → changes (one_nested put empty) ps (Some n) ≡ option_map Some (all_in (each message_in ps) n))
      → option_and_then (changes (one_nested put empty) ps) (option_map Some (put_fields put fields m))
      ≡ option_map Some (all_in (option_and_then (λ fs. option_map (λ all. fs ∷ all) (each message_in ps)) fields) m)
  nested_by ps m None more = refl
  nested_by ps m (Some fs) more = nested_step ps fs m (puts put fs m) refl more

  nested_on : (ps : List Payload) (m : M) → changes (one_nested put empty) ps (Some m) ≡ option_map Some (all_in (each message_in ps) m)
  nested_on [] m = refl
  nested_on (p ∷ ps) m = nested_by ps m (message_in p) (λ n. nested_on ps n)

  module _ (message : List Field → Option M) (means : Means put empty message) where
    first_by : (fs : List Field) (fss : Option (List (List Field)))
        → option_map Some (all_in (option_map (λ all. fs ∷ all) fss) empty) ≡ option_and_then (merge_messages message) (option_map (λ all. fs ∷ all) fss)
    first_by fs None = refl
    first_by fs (Some all) = ap (option_map Some) (means (join (fs ∷ all)))

    first : (fields : Option (List Field)) (fss : Option (List (List Field)))
        → option_map Some (all_in (option_and_then (λ fs. option_map (λ all. fs ∷ all) fss) fields) empty)
        ≡ option_and_then (merge_messages message) (option_and_then (λ fs. option_map (λ all. fs ∷ all) fss) fields)
    first None fss = refl
    first (Some fs) fss = first_by fs fss

    nested_is : (ps : List Payload) → changes (one_nested put empty) ps None ≡ option_and_then (merge_messages message) (each message_in ps)
    nested_is [] = refl
    nested_is (p ∷ ps) = nested_on (p ∷ ps) empty ∙ first (message_in p) (each message_in ps)

    pub only_nested : (number : ℕ) → Means (only number (one_nested put empty)) None (nested message number)
    only_nested number = λ fs. only_is (one_nested put empty) number fs None ∙ nested_is (payloads number fs)

    -- ---- repeated messages
    abbrev all_of : Option (List (List Field)) → Option (List M)
    all_of fss = option_and_then (each message) fss

    no_message : (fs : List Field) (fss : Option (List (List Field))) → message fs ≡ None → all_of (option_map (λ all. fs ∷ all) fss) ≡ None
    no_message fs None is = refl
    no_message fs (Some all) is = rw is refl

    more_by : (m : M) (xs : List M) (o : Option (List M))
        → option_map (λ ys. (xs ++ m ∷ []) ++ ys) o ≡ option_map (λ ys. xs ++ ys) (option_map (λ ys. m ∷ ys) o)
    more_by m xs None = refl
    more_by m xs (Some ys) = ap Some (append_assoc xs (m ∷ []) ys)

    one_message : (fs : List Field) (m : M) (xs : List M) (fss : Option (List (List Field))) → message fs ≡ Some m
        → option_map (λ ys. (xs ++ m ∷ []) ++ ys) (all_of fss) ≡ option_map (λ ys. xs ++ ys) (all_of (option_map (λ all. fs ∷ all) fss))
    one_message fs m xs None is = refl
    one_message fs m xs (Some all) is = rw is (more_by m xs (each message all))

    repeated_step : (ps : List Payload) (fs : List Field) (xs : List M) (r : Option M) → message fs ≡ r
        → ((ys : List M) → changes (one_repeated put empty) ps ys ≡ option_map (λ zs. ys ++ zs) (all_of (each message_in ps)))
        → option_and_then (changes (one_repeated put empty) ps) (option_map (λ m. xs ++ m ∷ []) r)
        ≡ option_map (λ ys. xs ++ ys) (all_of (option_map (λ all. fs ∷ all) (each message_in ps)))
    repeated_step ps fs xs None is more = rw (no_message fs (each message_in ps) is) refl
    repeated_step ps fs xs (Some m) is more = more (xs ++ m ∷ []) ∙ one_message fs m xs (each message_in ps) is

    repeated_by : (ps : List Payload) (xs : List M) (fields : Option (List Field))
        → ((ys : List M) → changes (one_repeated put empty) ps ys ≡ option_map (λ zs. ys ++ zs) (all_of (each message_in ps)))
        → option_and_then (changes (one_repeated put empty) ps) (option_map (λ m. xs ++ m ∷ []) (put_fields put fields empty))
        ≡ option_map (λ ys. xs ++ ys) (all_of (option_and_then (λ fs. option_map (λ all. fs ∷ all) (each message_in ps)) fields))
    repeated_by ps xs None more = refl
    repeated_by ps xs (Some fs) more = repeated_step ps fs xs (puts put fs empty) (sym (means fs)) more

    repeated_is : (ps : List Payload) (xs : List M) → changes (one_repeated put empty) ps xs ≡ option_map (λ ys. xs ++ ys) (all_of (each message_in ps))
    repeated_is [] xs = ap Some (sym (append-nil xs))
    repeated_is (p ∷ ps) xs = repeated_by ps xs (message_in p) (λ ys. repeated_is ps ys)

    as_it_is : (o : Option (List M)) → option_map (λ ys. [] ++ ys) o ≡ o
    as_it_is None = refl
    as_it_is (Some ys) = refl

    pub only_repeated : (number : ℕ) → Means (only number (one_repeated put empty)) [] (repeated message number)
    only_repeated number = λ fs.
        only_is (one_repeated put empty) number fs [] ∙ repeated_is (payloads number fs) [] ∙ as_it_is (all_of (each message_in (payloads number fs)))
