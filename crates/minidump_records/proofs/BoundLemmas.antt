-- How much handles and Crashpad's information hold at most, by the bytes of the file.
use Rattle.std.proofs.Common.{◌≡◌, ℕ, zero, suc, ◌+◌, ◌-◌, ◌*◌, ◌<◌, ◌≤◌, ◌⊎◌, List, [], ◌∷◌, ◌++◌, length, drop, slice_range, arith, refl, subst, inl, inr}
use Rattle.std.proofs.Common.{Bool, true, false, nat_eq, nat_le, nat_lt, All, IfOk, Ok, Err, length-append, length-take, length-drop, mul-suc}
use Rattle.std.specs.Prelude.{Option, Some, None, Result, if◌then◌else◌, ◌==◌, ◌||◌, ◌&&◌}
use Rattle.std.specs.List.{AllByRecursion, IsDistinct, cons_option, filter_map, list_any}
use Rattle.std.specs.Option.{ok_or, option_and_then}
use Rattle.std.proofs.lemmas.Bool.Decides.{nat_tests}
use Rattle.std.proofs.lemmas.List.{length-map}
use Rattle.std.proofs.lemmas.List.Elements.{All-cons, All-map, All-nil, All-push}
use Rattle.std.proofs.lemmas.Map.Steps.{length-le_from_distinct_below}
use Rattle.std.proofs.Math.Nat.{mul-le-mul_left}
use Rattle.minidump_bytes.specs.declared.endian.Endian.{Endian}
use Rattle.minidump_bytes.specs.Entries.{entries}
use Rattle.minidump_bytes.specs.Layout.{Layout, number_layout}
use Rattle.minidump_bytes.specs.Span.{record_at, span}
use Rattle.minidump_bytes.proofs.EntryLemmas.{length-entries}
use Rattle.minidump_format.specs.declared.error.Error.{Error}
use Rattle.minidump_format.specs.declared.error.Error.TheVariants.{StreamReadFailure, StreamSizeMismatch}
use Rattle.minidump_format.specs.declared.format.header.MINIDUMP_LOCATION_DESCRIPTOR.{MINIDUMP_LOCATION_DESCRIPTOR}
use Rattle.minidump_format.specs.declared.format.crashpad.MINIDUMP_CRASHPAD_INFO.{MINIDUMP_CRASHPAD_INFO}
use Rattle.minidump_format.specs.declared.format.crashpad.MINIDUMP_MODULE_CRASHPAD_INFO.{MINIDUMP_MODULE_CRASHPAD_INFO}
use Rattle.minidump_format.specs.declared.format.crashpad.MINIDUMP_MODULE_CRASHPAD_INFO_LINK.{MINIDUMP_MODULE_CRASHPAD_INFO_LINK}
use Rattle.minidump_format.specs.declared.format.handle.MINIDUMP_HANDLE_DESCRIPTOR.{MINIDUMP_HANDLE_DESCRIPTOR}
use Rattle.minidump_format.specs.declared.format.handle.MINIDUMP_HANDLE_DESCRIPTOR_2.{MINIDUMP_HANDLE_DESCRIPTOR_2}
use Rattle.minidump_format.specs.Crashpad.{module_crashpad_info, module_link}
use Rattle.minidump_format.specs.Handle.{handle_descriptor, handle_descriptor_2, object_information}
use Rattle.minidump_format.specs.Header.{located}
use Rattle.minidump_system.specs.declared.framing.HandleEntries.{HandleEntries}
use Rattle.minidump_system.specs.declared.framing.HandleEntries.TheVariants.{Short, Long}
use Rattle.minidump_system.specs.Chain.{Follow}
use Rattle.minidump_system.specs.Framing.{handle_list, handles_in, list_header_of}
use Rattle.minidump_system.specs.Reads.{and_then}
use Rattle.minidump_records.specs.declared.handles.information.MinidumpHandleObjectInformation.{MinidumpHandleObjectInformation}
use Rattle.minidump_records.specs.declared.handles.raw.RawHandleDescriptor.TheVariants.{HandleDescriptor, HandleDescriptor2}
use Rattle.minidump_records.specs.Bounds.{CrashpadIsWithin, FitsAfter, HandlesAreWithin}
use Rattle.minidump_records.specs.Crashpad.{Crashpad, Module, annotation_dictionary, crashpad_info_in, crashpad_record, module_in, text_dictionary, texts_at}
use Rattle.minidump_records.specs.Crashpad.Annotations.{Annotation}
use Rattle.minidump_records.specs.Crashpad.Dictionary.{text_in}
use Rattle.minidump_records.specs.Crashpad.Parts.{EntryList, each, list_of, list_at, part_at, parts, tested_list}
use Rattle.minidump_records.specs.Handles.{Handle, all_handles, chain_offsets, handle_data_in, handle_in, object_chain}
use Rattle.minidump_records.specs.Handles.ObjectChain.{information_at, next_of, with_type}
use Rattle.minidump_records.proofs.HandleLemmas.OneObjectChain.{is_object_chain}
use Rattle.minidump_records.proofs.HandleLemmas.Chain.{nonzero}

-- ---- object chains

same_number : (m n : ℕ) → nat_eq m n ≡ true → m ≡ n
same_number m n h = grind (arith, nat_tests)

either : (a b : Bool) → (a || b) ≡ true → (a ≡ true) ⊎ (b ≡ true)
either true b h = inl refl
either false b h = inr h

module _ {I : Type 0} (at : ℕ → Option I) (next : I → ℕ) (bound : ℕ) (in_file : (p : ℕ) (i : I) → at p ≡ Some i → (0 < p) × (p < bound)) where
  not_zero : (link : ℕ) (chain : List ℕ) → Follow at next link chain → AllByRecursion (λ p. nat_eq 0 p ≡ false) chain
  not_zero link [] f = tt
  not_zero link (p ∷ ps) (here, i, is, more) = (let some = (in_file p i is).0 in grind (arith, nat_tests, some), not_zero (next i) ps more)

  below : (link : ℕ) (chain : List ℕ) → Follow at next link chain → (q : ℕ) → list_any (nat_eq q) chain ≡ true → q < bound
  below link [] f q h = absurd (let k : false ≡ true = h in cc)
  below link (p ∷ ps) (here, i, is, more) q h = elim (either (nat_eq q p) (list_any (nat_eq q) ps) h) [
    | inl this ↦ omega (arith, same_number q p this, (in_file p i is).1)
    | inr rest ↦ below (next i) ps more q rest
  ]

  -- the offsets and 0 are different numbers below the bound
  few_offsets : (link : ℕ) (chain : List ℕ) → 0 < bound → Follow at next link chain → IsDistinct nat_eq chain → length chain + 1 ≤ bound
  unfolding IsDistinct
  few_offsets link chain some f d =
      omega (
        arith,
        length-le_from_distinct_below (0 ∷ chain) bound (not_zero link chain f, d) (λ q h. elim (either (nat_eq q 0) (list_any (nat_eq q) chain) h) [
          | inl this ↦ omega (arith, same_number q 0 this, some)
          | inr rest ↦ below link chain f q rest
        ]),
      )

-- a piece of information has its 12 bytes in the file
whole : (order : Endian) (file : List ℕ) (offset : ℕ) (i : MinidumpHandleObjectInformation) → information_at order file offset ≡ Some i → offset + 12 ≤ length file
unfolding information_at
whole order file offset i h = by_zero (offset == 0) h
  where
    by_room : (b : Bool) → nat_le (offset + 12) (length file) ≡ b → option_and_then with_type (record_at object_information order offset file) ≡ Some i
        → offset + 12 ≤ length file
    by_room true e k = grind (arith, nat_tests, e)
    by_room false e k = (let j = rw e at k in cc)

    by_zero : (b : Bool) → option_and_then with_type (if b then None else record_at object_information order offset file) ≡ Some i → offset + 12 ≤ length file
    by_zero true k = cc
    by_zero false k = by_room (nat_le (offset + 12) (length file)) refl k

cons_length : {Y : Type 0} (o : Option Y) (ys : List Y) → length (cons_option o ys) ≤ length ys + 1
cons_length None ys = omega arith
cons_length (Some y) ys = omega arith

length-filter_map : {X Y : Type 0} (h : X → Option Y) (xs : List X) → length (filter_map h xs) ≤ length xs
length-filter_map h [] = omega arith
length-filter_map h (x ∷ xs) = omega (arith, cons_length (h x) (filter_map h xs), length-filter_map h xs)

pub few_infos : (order : Endian) (file : List ℕ) (link : ℕ) → length (object_chain order file link) ≤ length file - 12
unfolding object_chain
few_infos order file link =
    let the = chain_offsets order file link in
    let is = is_object_chain order file link in
    let offsets = few_offsets (information_at order file) next_of (length file - 12 + 1)
    (λ p i is. (nonzero order file p i is, omega (arith, whole order file p i is))) link the (omega arith) is.follow is.distinct in
    omega (arith, offsets, length-filter_map (information_at order file) the)

-- ---- results

and_then_ok : {A B : Type 0} (r : Result A Error) (next : A → Result B Error) (y : B) → and_then r next ≡ Ok y → (x : A) × (r ≡ Ok x) × (next x ≡ Ok y)
and_then_ok (Ok x) next y h = (x, refl, h)
and_then_ok (Err e) next y h = (let k : Err e ≡ Ok y = h in cc)

ok_or_ok : {A : Type 0} (o : Option A) (e : Error) (x : A) → ok_or o e ≡ Ok x → o ≡ Some x
ok_or_ok (Some y) e x h = (let k : Ok y ≡ Ok x = h in cc)
ok_or_ok None e x h = (let k : Err e ≡ Ok x = h in cc)

pub if_ok : {A : Type 0} (r : Result A Error) (P : A → Type 0) → ((x : A) → r ≡ Ok x → P x) → IfOk r P
if_ok (Ok x) P h = h x refl
if_ok (Err e) P h = tt

-- ---- spans

slice_length : (from to : ℕ) (file : List ℕ) → length (slice_range file from to) ≤ length file
slice_length from to file = omega (arith, length-take (to - from) (drop from file), length-drop from file)

pub span_length : (from to : ℕ) (file bytes : List ℕ) → span from to file ≡ Some bytes → length bytes ≤ length file
span_length from to file bytes h = by (nat_le from to && nat_le to (length file)) h
  where
    by : (b : Bool) → (if b then Some (slice_range file from to) else None) ≡ Some bytes → length bytes ≤ length file
    by true k = (let e : slice_range file from to ≡ bytes = cc in subst (λ l. length l ≤ length file) e (slice_length from to file))
    by false k = cc

-- ---- lists of Crashpad

each_length : {V : Type 0} (read : ℕ → Result V Error) (n : ℕ) (vs : List V) → each read n ≡ Ok vs → length vs ≡ n
unfolding each
each_length read zero vs h = (let e : [] ≡ vs = cc in subst (λ l. length l ≡ 0) e refl)
each_length read (suc n) vs h =
    let a = and_then_ok (each read n) (λ ws. and_then (read n) (λ v. Ok (ws ++ v ∷ []))) vs h in
    let b = and_then_ok (read n) (λ v. Ok (a.0 ++ v ∷ [])) vs a.2 in
    let e : a.0 ++ b.0 ∷ [] ≡ vs = (let k = b.2 in cc) in
    subst (λ l. length l ≡ suc n) e (omega (arith, each_length read n a.0 a.1, length-append a.0 (b.0 ∷ [])))

-- what each reading gives has what every reading gives
each_all : {V : Type 0} (P : V → Type 0) (read : ℕ → Result V Error) → ((i : ℕ) (v : V) → read i ≡ Ok v → P v) → (n : ℕ) (vs : List V) → each read n ≡ Ok vs
    → All P vs
unfolding each
each_all P read rule zero vs h = (let e : [] ≡ vs = cc in subst (All P) e (All-nil P))
each_all P read rule (suc n) vs h =
    let a = and_then_ok (each read n) (λ ws. and_then (read n) (λ v. Ok (ws ++ v ∷ []))) vs h in
    let b = and_then_ok (read n) (λ v. Ok (a.0 ++ v ∷ [])) vs a.2 in
    let e : a.0 ++ b.0 ∷ [] ≡ vs = (let k = b.2 in cc) in
    subst (All P) e (All-push P a.0 b.0 (each_all P read rule n a.0 a.1) (rule n b.0 b.1))

module _ {R V : Type 0} (layout : Layout R) (part : Endian → List ℕ → R → Result V Error) (order : Endian) (file : List ℕ) where
  -- an entry that is read is in the bytes
  entry_inside : (bytes : List ℕ) (i : ℕ) (v : V) → part_at layout part order file bytes i ≡ Ok v → 4 + layout.size * i + layout.size ≤ length bytes
  entry_inside bytes i v h =
      let a = and_then_ok (ok_or (record_at layout order (4 + layout.size * i) bytes) StreamReadFailure) (part order file) v h in
      by (nat_le (4 + layout.size * i + layout.size) (length bytes)) refl
      (ok_or_ok (record_at layout order (4 + layout.size * i) bytes) StreamReadFailure a.0 a.1)
    where
      by : {x : R} (b : Bool) → nat_le (4 + layout.size * i + layout.size) (length bytes) ≡ b
          → (if b then Some (layout.value order (slice_range bytes (4 + layout.size * i) (4 + layout.size * i + layout.size))) else None) ≡ Some x
          → 4 + layout.size * i + layout.size ≤ length bytes
      by true e k = grind (arith, nat_tests, e)
      by false e k = cc

  entries_inside : (bytes : List ℕ) (n : ℕ) (vs : List V) → each (part_at layout part order file bytes) n ≡ Ok vs → 0 < n → 4 + layout.size * n ≤ length bytes
  unfolding each
  entries_inside bytes zero vs h some = absurd (omega (arith, some))
  entries_inside bytes (suc n) vs h some =
      let read = part_at layout part order file bytes in
      let a = and_then_ok (each read n) (λ ws. and_then (read n) (λ v. Ok (ws ++ v ∷ []))) vs h in
      let b = and_then_ok (read n) (λ v. Ok (a.0 ++ v ∷ [])) vs a.2 in
      omega (arith, entry_inside bytes n b.0 b.1, mul-suc layout.size n)

  -- what a list is read from, where it is read
  record EntriesFit (l : MINIDUMP_LOCATION_DESCRIPTOR) (vs : List V) : Type 0 where
    list : EntryList
    short : length list.bytes ≤ length file
    are : parts layout part order file list ≡ Ok vs

  list_is_short : (l : MINIDUMP_LOCATION_DESCRIPTOR) (list : EntryList) → list_at order file l ≡ Ok list → length list.bytes ≤ length file
  unfolding list_at
  list_is_short l list h =
      let a = and_then_ok (ok_or (located file l) StreamReadFailure) (λ bytes.
      if l.data_size == 0 then Ok (list_of bytes 0) else
      and_then (ok_or (record_at (number_layout 4) order 0 bytes) StreamReadFailure) (λ count. Ok (list_of bytes count))) list h in
      let short = span_length l.rva (l.rva + l.data_size) file a.0 (ok_or_ok (located file l) StreamReadFailure a.0 a.1) in
      by (l.data_size == 0) a.0 short a.2
    where
      same : (bytes : List ℕ) (count : ℕ) → length bytes ≤ length file → list_of bytes count ≡ list → length list.bytes ≤ length file
      same bytes count short e = subst (λ (c : EntryList). length c.bytes ≤ length file) e short

      by : (b : Bool) (bytes : List ℕ) → length bytes ≤ length file
          → (if b then Ok (list_of bytes 0) else
          and_then (ok_or (record_at (number_layout 4) order 0 bytes) StreamReadFailure) (λ count. Ok (list_of bytes count))) ≡ Ok list
          → length list.bytes ≤ length file
      by true bytes short k = same bytes 0 short cc
      by false bytes short k =
          let c = and_then_ok (ok_or (record_at (number_layout 4) order 0 bytes) StreamReadFailure) (λ count. Ok (list_of bytes count)) list k in
          (let k = c.2 in same bytes c.0 short cc)

  entries_fit : (l : MINIDUMP_LOCATION_DESCRIPTOR) (vs : List V) → tested_list layout part order file l ≡ Ok vs → EntriesFit l vs
  unfolding tested_list
  entries_fit l vs h =
      let a = and_then_ok (list_at order file l) (λ list.
      if nat_lt (length file) (layout.size * list.count) then Err (StreamSizeMismatch (layout.size * list.count) (length file)) else
      parts layout part order file list) vs h in
      record { list = a.0; short = list_is_short l a.0 a.1; are = by a.0 (nat_lt (length file) (layout.size * a.0.count)) a.2 }
    where
      by : (list : EntryList) (b : Bool)
          → (if b then Err (StreamSizeMismatch (layout.size * list.count) (length file)) else parts layout part order file list) ≡ Ok vs
          → parts layout part order file list ≡ Ok vs
      by list true k = cc
      by list false k = k

  -- the entries of a list are in the file, after their count
  pub list_fits : (l : MINIDUMP_LOCATION_DESCRIPTOR) (vs : List V) → tested_list layout part order file l ≡ Ok vs → FitsAfter 4 layout.size (length file) vs
  list_fits l vs h some =
      let o = entries_fit l vs h in
      let count : length vs ≡ o.list.count = each_length (part_at layout part order file o.list.bytes) o.list.count vs o.are in
      let inside = entries_inside o.list.bytes o.list.count vs o.are (omega (arith, some, count)) in
      rw count (omega (arith, inside, o.short))

  -- what they name has what each part has
  pub list_all : (P : V → Type 0) → ((x : R) (v : V) → part order file x ≡ Ok v → P v)
      → (l : MINIDUMP_LOCATION_DESCRIPTOR) (vs : List V) → tested_list layout part order file l ≡ Ok vs → All P vs
  list_all P rule l vs h =
      let o = entries_fit l vs h in
      each_all P (part_at layout part order file o.list.bytes)
      (λ i v is. (let a = and_then_ok (ok_or (record_at layout order (4 + layout.size * i) o.list.bytes) StreamReadFailure) (part order file) v is in
      rule a.0 v a.2))
      o.list.count vs o.are

-- ---- handles

few_by : (n header size count : ℕ) → nat_lt n (header + size * count) ≡ false → 32 ≤ size → 32 * count ≤ n
few_by n header size count e large =
    let all : header + size * count ≤ n = grind (arith, nat_tests, e) in
    omega (arith, all, mul-le-mul_left count large)

handles_few : (order : Endian) (bytes : List ℕ) (list : HandleEntries) → handle_list order bytes ≡ Ok list → 32 * handles_in list ≤ length bytes
handles_few order bytes list h = by_room (nat_le 12 (length bytes)) refl h
  where
    by_entries : (header size count : ℕ) (b c : Bool) → (size == 32) ≡ b → (count == 0) ≡ c → (b || c) ≡ true
        → nat_lt (length bytes) (header + size * count) ≡ false → 32 * count ≤ length bytes
    by_entries header size count true c e f o a = few_by (length bytes) header size count a (grind (arith, nat_tests, e))
    by_entries header size count false true e f o a = (let none : count ≡ 0 = grind (arith, nat_tests, f) in omega (arith, none))
    by_entries header size count false false e f o a = absurd (let k : false ≡ true = o in cc)

    by_tests : (header size count : ℕ) (t u v : Bool) → nat_lt (length bytes) (header + size * count) ≡ t → (size == 40) ≡ u
        → (size == 32 || count == 0) ≡ v
        → (if t then Err (StreamSizeMismatch (header + size * count) (length bytes)) else (
        if u then Ok (Long (entries handle_descriptor_2 order bytes header count)) else (
        if v then Ok (Short (entries handle_descriptor order bytes header count)) else Err StreamReadFailure))) ≡ Ok list
        → 32 * handles_in list ≤ length bytes
    by_tests header size count true u v a b c k = cc
    by_tests header size count false true v a b c k =
        let e : Long (entries handle_descriptor_2 order bytes header count) ≡ list = cc in
        let forty : size ≡ 40 = grind (arith, nat_tests, b) in
        subst (λ l. 32 * handles_in l ≤ length bytes) e (rw (length-entries handle_descriptor_2 order bytes header count)
        (few_by (length bytes) header size count a (omega (arith, forty))))
    by_tests header size count false false true a b c k =
        let e : Short (entries handle_descriptor order bytes header count) ≡ list = cc in
        subst (λ l. 32 * handles_in l ≤ length bytes) e (rw (length-entries handle_descriptor order bytes header count)
        (by_entries header size count (size == 32) (count == 0) refl refl c a))
    by_tests header size count false false false a b c k = cc

    by_room : (b : Bool) → nat_le 12 (length bytes) ≡ b → handle_list order bytes ≡ Ok list → 32 * handles_in list ≤ length bytes
    by_room true e k =
        let x = list_header_of order bytes in
        by_tests x.size_of_header x.size_of_entry x.number_of_entries (nat_lt (length bytes) (x.size_of_header + x.size_of_entry * x.number_of_entries))
        (x.size_of_entry == 40) (x.size_of_entry == 32 || x.number_of_entries == 0) refl refl refl (rw e at k)
    by_room false e k = (let j = rw e at k in cc)

all_of : {X : Type 0} (P : X → Type 0) → ((x : X) → P x) → (xs : List X) → All P xs
all_of P h [] = All-nil P
all_of P h (x ∷ xs) = All-cons P x xs (h x) (all_of P h xs)

all_within : (order : Endian) (file : List ℕ) (list : HandleEntries) → 32 * handles_in list ≤ length file
    → HandlesAreWithin (length file) (all_handles order file list)
all_within order file (Short raws) few =
    let f : MINIDUMP_HANDLE_DESCRIPTOR → Handle = λ r. handle_in order file (HandleDescriptor r) in
    let P : Handle → Type 0 = λ h. length h.object_infos ≤ length file - 12 in
    record { entries = rw (length-map raws f) few; infos = All-map P f raws (all_of (λ r. P (f r)) (λ r. few_infos order file 0) raws) }
all_within order file (Long raws) few =
    let f : MINIDUMP_HANDLE_DESCRIPTOR_2 → Handle = λ r. handle_in order file (HandleDescriptor2 r) in
    let P : Handle → Type 0 = λ h. length h.object_infos ≤ length file - 12 in
    record { entries = rw (length-map raws f) few; infos = All-map P f raws (all_of (λ r. P (f r)) (λ r. few_infos order file r.object_info_rva) raws) }

pub handles_within : (order : Endian) (file bytes : List ℕ) → length bytes ≤ length file
    → IfOk (handle_data_in order file bytes) (HandlesAreWithin (length file))
handles_within order file bytes short =
    if_ok (handle_data_in order file bytes) (HandlesAreWithin (length file))
    (λ handles h.
    let a = and_then_ok (handle_list order bytes) (λ list. Ok (all_handles order file list)) handles h in
    let e : all_handles order file a.0 ≡ handles = (let k = a.2 in cc) in
    subst (HandlesAreWithin (length file)) e (all_within order file a.0 (omega (arith, short, handles_few order bytes a.0 a.1))))

-- ---- Crashpad's information

module _ (order : Endian) (file : List ℕ) where
  abbrev modules_next : MINIDUMP_CRASHPAD_INFO → List (List ℕ × List ℕ) → List Module → Result Crashpad Error
  modules_next raw simple modules = Ok (record { raw = raw; simple_annotations = simple; module_list = modules })

  abbrev simple_next : MINIDUMP_CRASHPAD_INFO → List (List ℕ × List ℕ) → Result Crashpad Error
  simple_next raw simple = and_then (tested_list module_link module_in order file raw.module_list) (modules_next raw simple)

  abbrev record_next : MINIDUMP_CRASHPAD_INFO → Result Crashpad Error
  record_next raw = and_then (text_dictionary order file raw.simple_annotations) (simple_next raw)

  abbrev module_objects : MINIDUMP_MODULE_CRASHPAD_INFO_LINK → MINIDUMP_MODULE_CRASHPAD_INFO → List (List ℕ) → List (List ℕ × List ℕ)
      → List (List ℕ × Annotation) → Result Module Error
  module_objects link raw texts simple objects = Ok (record {
    raw = raw;
    module_index = link.minidump_module_list_index;
    list_annotations = texts;
    simple_annotations = simple;
    annotation_objects = objects;
  })

  abbrev module_simple : MINIDUMP_MODULE_CRASHPAD_INFO_LINK → MINIDUMP_MODULE_CRASHPAD_INFO → List (List ℕ) → List (List ℕ × List ℕ) → Result Module Error
  module_simple link raw texts simple = and_then (annotation_dictionary order file raw.annotation_objects) (module_objects link raw texts simple)

  abbrev module_texts : MINIDUMP_MODULE_CRASHPAD_INFO_LINK → MINIDUMP_MODULE_CRASHPAD_INFO → List (List ℕ) → Result Module Error
  module_texts link raw texts = and_then (text_dictionary order file raw.simple_annotations) (module_simple link raw texts)

  abbrev module_record : MINIDUMP_MODULE_CRASHPAD_INFO_LINK → MINIDUMP_MODULE_CRASHPAD_INFO → Result Module Error
  module_record link raw = and_then (texts_at order file raw.list_annotations) (module_texts link raw)

  texts_fit : (link : MINIDUMP_MODULE_CRASHPAD_INFO_LINK) (m : Module) → module_in order file link ≡ Ok m → FitsAfter 4 4 (length file) m.list_annotations
  unfolding module_in
  texts_fit link m h =
      let a = and_then_ok (ok_or (record_at module_crashpad_info order link.location.rva file) StreamReadFailure) (module_record link) m h in
      let b = and_then_ok (texts_at order file a.0.list_annotations) (module_texts link a.0) m a.2 in
      let c = and_then_ok (text_dictionary order file a.0.simple_annotations) (module_simple link a.0 b.0) m b.2 in
      let d = and_then_ok (annotation_dictionary order file a.0.annotation_objects) (module_objects link a.0 b.0 c.0) m c.2 in
      let e : b.0 ≡ m.list_annotations = (let k = d.2 in cc) in
      subst (FitsAfter 4 4 (length file)) e (list_fits (number_layout 4) text_in order file a.0.list_annotations b.0 b.1)

  pub crashpad_within : (bytes : List ℕ) → IfOk (crashpad_info_in order file bytes) (CrashpadIsWithin (length file))
  unfolding crashpad_info_in
  crashpad_within bytes =
      if_ok (crashpad_info_in order file bytes) (CrashpadIsWithin (length file))
      (λ c h.
      let a = and_then_ok (crashpad_record order bytes) record_next c h in
      let b = and_then_ok (text_dictionary order file a.0.simple_annotations) (simple_next a.0) c a.2 in
      let d = and_then_ok (tested_list module_link module_in order file a.0.module_list) (modules_next a.0 b.0) c b.2 in
      let e : d.0 ≡ c.module_list = (let k = d.2 in cc) in
      record {
        modules = subst (FitsAfter 4 12 (length file)) e (list_fits module_link module_in order file a.0.module_list d.0 d.1);
        texts =
            let Fits : Module → Type 0 = λ m. FitsAfter 4 4 (length file) m.list_annotations in
            subst (All Fits) e (list_all module_link module_in order file Fits texts_fit a.0.module_list d.0 d.1);
      })
