-- A message is read field by field.
use Rattle.std.proofs.Common.{◌≡◌, ℕ, ◌<◌, ◌≤◌, ◌+◌, ◌-◌, List, [], ◌∷◌, ◌++◌, length, drop, slice_range, arith, refl, ap, sym, subst, ◌∙◌}
use Rattle.std.proofs.Common.{append_assoc, append-nil}
use Rattle.std.specs.Prelude.{unwrap_or, Option, Some, None, Result, Ok, Err}
use Rattle.std.specs.Option.{ok_or, option_map}
use Rattle.std.proofs.lemmas.List.{drop_all, length-drop}
use Rattle.std.proofs.lemmas.List.Sums.{sum_by-append}
use Rattle.std.proofs.lemmas.Result.{err_from_is_err_and}
use Rattle.std.specs.Result.{IsErrAnd}
use Rattle.std.proofs.lemmas.List.Folds.{drop_split}
use Rattle.minidump_bytes.specs.Wire.{Field, SpellsField, SpellsFields, field_at}
use Rattle.minidump_bytes.proofs.WireFieldLemmas.{field_there}
use Rattle.minidump_format.specs.Answer.{Gives, GivesError}
use Rattle.minidump_format.specs.declared.error.Error.{Error}
use Rattle.minidump_format.specs.declared.error.Error.TheVariants.{DataError, OutOfMemory}
use Rattle.minidump_stability.specs.Fields.{HasField, field_count, fields_in}
use Rattle.minidump_stability.specs.Rows.{put_bytes, put_fields, puts}
use Rattle.minidump_stability.proofs.FieldLemmas.{after_fields, fields_are_spelled, first_field}
use Rattle.minidump_stability.proofs.RowLemmas.{puts-append}

-- ---- the fields that were read
-- the bytes before an offset are fields, which make the value so far
pub record Reading {V : Type 0} (put : Field → V → Option V) (old : V) (bytes : List ℕ) (offset : ℕ) (now : V) (fields : List Field) : Type 0 where
  pub front : List ℕ
  pub whole : bytes ≡ front ++ drop offset bytes
  pub spelled : SpellsFields front fields
  pub made : puts put fields old ≡ Some now

spells_then : (front piece : List ℕ) (fs : List Field) (f : Field) → SpellsFields front fs → SpellsField piece f
    → SpellsFields (front ++ piece) (fs ++ f ∷ [])
spells_then front piece [] f none one = (piece, [], rw none (sym (append-nil piece)), one, refl)
spells_then front piece (g ∷ gs) f (a, b, parts, first, more) one =
    (a, b ++ piece, rw parts (append_assoc a b piece), first, spells_then b piece gs f more one)

module _ {V : Type 0} (put : Field → V → Option V) (old : V) (bytes : List ℕ) where
  pub reading_none : Reading put old bytes 0 old []
  reading_none = record { front = []; whole = refl; spelled = refl; made = refl }

  module _ (offset : ℕ) (now : V) (fields : List Field) (r : Reading put old bytes offset now fields) where
    one_by : (f : Field) (new : Option V) → put f now ≡ new → puts put (fields ++ f ∷ []) old ≡ new
    one_by f None p = puts-append put fields (f ∷ []) old ∙ rw (r.made, p) refl
    one_by f (Some v) p = puts-append put fields (f ∷ []) old ∙ rw (r.made, p) refl

    -- ---- one field more
    module _ (next : ℕ) (f : Field) (at : field_at offset bytes ≡ Some (f, next)) where
      longer : bytes ≡ (r.front ++ slice_range bytes offset next) ++ drop next bytes
      longer =
          let there = field_there bytes offset f next at in
          r.whole ∙ ap (λ l. r.front ++ l) (drop_split bytes offset next there.forward)
          ∙ sym (append_assoc r.front (slice_range bytes offset next) (drop next bytes))

      more : SpellsFields (r.front ++ slice_range bytes offset next) (fields ++ f ∷ [])
      more = spells_then r.front (slice_range bytes offset next) fields f r.spelled (field_there bytes offset f next at).spelled

      pub reading_more : (new : V) → put f now ≡ Some new → Reading put old bytes next new (fields ++ f ∷ [])
      reading_more new p =
          record { front = r.front ++ slice_range bytes offset next; whole = longer; spelled = more; made = one_by f (Some new) p }

      -- a field that is read is among those that the bytes begin with
      pub reading_has : (kind : Field → Type 0) → kind f → HasField kind bytes
      reading_has kind is = record {
        front = r.front ++ slice_range bytes offset next;
        back = drop next bytes;
        before = fields;
        field = f;
        whole = longer;
        spelled = more;
        is_kind = is;
      }

    -- ---- the end
    all_fields : length bytes ≤ offset → fields_in bytes ≡ Some fields
    all_fields past =
        let front : bytes ≡ r.front = r.whole ∙ ap (λ l. r.front ++ l) (drop_all offset bytes past) ∙ append-nil r.front in
        (fields_are_spelled bytes fields).1 (subst (λ l. SpellsFields l fields) (sym front) r.spelled)

    pub reading_end : length bytes ≤ offset → put_bytes put bytes old ≡ Some now
    reading_end past = rw (all_fields past) r.made

    pub reading_count : (inside : Field → ℕ) → length bytes ≤ offset → field_count inside (unwrap_or (fields_in bytes) []) ≡ field_count inside fields
    reading_count inside past = rw (all_fields past) refl

    -- ---- no field, or one that isn't added
    -- all fields of the bytes, of which there are more than were read
    later : (gs : List Field) → SpellsFields bytes gs → (hs : List Field) × (gs ≡ fields ++ hs) × SpellsFields (drop offset bytes) hs
    later gs s = after_fields r.front (drop offset bytes) fields gs r.spelled (subst (λ l. SpellsFields l gs) r.whole s)

    left : offset < length bytes → 0 < length (drop offset bytes)
    left some = omega (arith, some, length-drop offset bytes)

    abbrev is_at : Field × List ℕ → Field × ℕ
    is_at r = (r.0, length bytes - length r.1)

    pub reading_stuck : offset < length bytes → field_at offset bytes ≡ None → put_bytes put bytes old ≡ None
    reading_stuck some none = by_all (fields_in bytes) refl
      where
        by_all : (o : Option (List Field)) → fields_in bytes ≡ o → put_fields put o old ≡ None
        by_all None is = refl
        by_all (Some gs) is =
            let m = later gs ((fields_are_spelled bytes gs).0 is) in
            let one = first_field (drop offset bytes) m.0 (left some) m.2 in
            let there : field_at offset bytes ≡ Some (is_at (one.0, one.2)) = ap (option_map is_at) one.4 in
            absurd (let k : None ≡ Some (is_at (one.0, one.2)) = sym none ∙ there in cc)

    pub reading_error : (next : ℕ) (f : Field) → offset < length bytes → field_at offset bytes ≡ Some (f, next) → put f now ≡ None
        → put_bytes put bytes old ≡ None
    reading_error next f some at p = by_all (fields_in bytes) refl
      where
        by_all : (o : Option (List Field)) → fields_in bytes ≡ o → put_fields put o old ≡ None
        by_all None is = refl
        by_all (Some gs) is =
            let m = later gs ((fields_are_spelled bytes gs).0 is) in
            let one = first_field (drop offset bytes) m.0 (left some) m.2 in
            let there : field_at offset bytes ≡ Some (is_at (one.0, one.2)) = ap (option_map is_at) one.4 in
            let both : Some (f, next) ≡ Some (is_at (one.0, one.2)) = sym at ∙ there in
            let same : (f, next) ≡ is_at (one.0, one.2) = cc in
            let head : one.0 ≡ f = sym (ap (λ q. q.0) same) in
            let none : put one.0 now ≡ None = rw head p in
            rw (m.1, one.3) (puts-append put fields (one.0 ∷ one.1) old ∙ rw (r.made, none) refl)

-- what one field more counts
pub count_more : (inside : Field → ℕ) (fs : List Field) (f : Field) → field_count inside (fs ++ f ∷ []) ≡ field_count inside fs + (1 + inside f)
count_more inside fs f = sum_by-append (λ g. 1 + inside g) fs (f ∷ []) ∙ omega arith

-- ---- how errors are passed on
module _ {A B : Type 0} (P Q : Type 0) (weaker : P → Q) where
  pub error_alike : (e : Error) (part : Option A) (whole : Option B) → (part ≡ None → whole ≡ None) → GivesError P e (ok_or part DataError)
      → GivesError Q e (ok_or whole DataError)
  error_alike OutOfMemory part whole rule h = weaker h
  error_alike e (Some x) whole rule h = (let k : Ok x ≡ Err e = h in cc)
  error_alike e None whole rule h = (let k : ok_or {T = A} None DataError ≡ Err e = h in let s : DataError ≡ e = cc in rw (rule refl, s) refl)

-- the exit of a `?`: an error of a part is one of the whole
pub gives_error : {X A B : Type 0} (P Q : Type 0) (view : X → B) (r : Result X Error) (e : Error) (part : Option A) (whole : Option B)
    → IsErrAnd r (λ y. y ≡ e) → GivesError P e (ok_or part DataError) → (P → Q) → (part ≡ None → whole ≡ None)
    → Gives view Q r (ok_or whole DataError)
gives_error P Q view r e part whole exit error weaker rule =
    let p = err_from_is_err_and r exit in rw (p.1, p.2) (error_alike P Q weaker e part whole rule error)

-- and where it is known that nothing is there
pub gives_none : {X B : Type 0} (P : Type 0) (view : X → B) (r : Result X Error) (e : Error) (whole : Option B) → IsErrAnd r (λ y. y ≡ e) → whole ≡ None
    → DataError ≡ e → Gives view P r (ok_or whole DataError)
gives_none P view r e whole exit none is = let p = err_from_is_err_and r exit in rw (p.1, p.2, none, ← is) refl

-- where memory is taken for no field, none is taken
pub gives_plain : {X V : Type 0} (view : X → V) (kind : Field → Type 0) (bytes : List ℕ) (r : Result X Error) (a : Result V Error)
    → ((f : Field) → kind f → ⊥) → Gives view (HasField kind bytes) r a → Gives view ⊥ r a
gives_plain view kind bytes (Ok x) a plain h = h
gives_plain view kind bytes (Err OutOfMemory) a plain h = plain h.field h.is_kind
gives_plain view kind bytes (Err e) a plain h = h

pub view_none : {A B : Type 0} (view : A → B) (r : Option A) (o : Option B) (d e : Error) → option_map view r ≡ o → Err e ≡ ok_or r d → (o ≡ None) × (d ≡ e)
view_none view (Some x) o d e s h = (let k : Err e ≡ Ok x = h in cc)
view_none view None o d e s h = (sym s, (let k : e ≡ d = cc in sym k))

pub view_some : {A B : Type 0} (view : A → B) (r : Option A) (o : Option B) (x : A) → option_map view r ≡ o → r ≡ Some x → o ≡ Some (view x)
view_some view r o x s h = sym (rw h at s)

pub is_there : {A : Type 0} (o : Option A) (d : Error) (x : A) → ok_or o d ≡ Ok x → o ≡ Some x
is_there (Some a) d x h = (let k : a ≡ x = cc in ap Some k)
is_there None d x h = (let k : Err d ≡ Ok x = h in cc)
