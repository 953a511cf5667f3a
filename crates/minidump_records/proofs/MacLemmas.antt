-- The records of the crash information of macOS, one after another.
use Rattle.std.proofs.Common.{◌≡◌, ℕ, ◌<◌, ◌+◌, List, [], ◌∷◌, ◌++◌, length, get_or, drop, drop-cons, add-one, map, refl, ap, sym, ◌∙◌, append_assoc}
use Rattle.std.proofs.Common.{append-nil, Bool, true, false, arith, cond, subst, Ok, Err, Option, Some, None, Result}
use Rattle.std.proofs.lemmas.List.Sums.{sum_by-cons}
use Rattle.std.specs.Prelude.{◌==◌, ⊤, count_by, if◌then◌else◌, is_none, nat_eq, nat_lt}
use Rattle.std.specs.List.{cons_option, filter_map, zip}
use Rattle.std.specs.Option.{ok_or, option_and_then, option_eq, option_map}
use Rattle.minidump_bytes.specs.declared.endian.Endian.{Endian}
use Rattle.minidump_format.specs.declared.error.Error.{Error}
use Rattle.minidump_format.specs.declared.format.header.MINIDUMP_LOCATION_DESCRIPTOR.{MINIDUMP_LOCATION_DESCRIPTOR}
use Rattle.minidump_format.specs.declared.error.Error.TheVariants.{StreamReadFailure}
use Rattle.minidump_format.specs.declared.format.mac.MINIDUMP_MAC_CRASH_INFO_RECORD.{MINIDUMP_MAC_CRASH_INFO_RECORD}
use Rattle.minidump_format.specs.Header.{located}
use Rattle.minidump_format.specs.Mac.{mac_record, mac_record_4, mac_record_5}
use Rattle.minidump_bytes.specs.Span.{record_at}
use Rattle.minidump_system.specs.Reads.{all_ok, and_then}
use Rattle.minidump_records.specs.MacCrashInfo.Record.{MacRecord, MacTexts, by_version, fixed_part, texts_in, v1, v4, v5}
use Rattle.minidump_records.specs.MacCrashInfo.{located_record, located_records, located_version, neighbouring_record, record_after_version, same_version, stated_version, states_version_0}

-- the records so far, and then those that are left
abbrev pub after_these : List MacRecord → Result (List MacRecord) Error → Result (List MacRecord) Error
after_these done left = and_then left (λ rest. Ok (done ++ rest))

none_yet : (left : Result (List MacRecord) Error) → left ≡ after_these [] left
none_yet (Ok rs) = refl
none_yet (Err e) = refl

skipped : (done : List MacRecord) (tail : Result (List MacRecord) Error)
    → after_these done (and_then tail (λ rs. Ok (cons_option None rs))) ≡ after_these done tail
skipped done (Ok rs) = refl
skipped done (Err e) = refl

one_more : (done : List MacRecord) (r : MacRecord) (tail : Result (List MacRecord) Error)
    → after_these done (and_then tail (λ rs. Ok (cons_option (Some r) rs))) ≡ after_these (done ++ r ∷ []) tail
one_more done r (Ok rs) = ap Ok (sym (append_assoc done (r ∷ []) rs))
one_more done r (Err e) = refl

-- the records of readings, without those that are left out
abbrev kept : Result (List (Option MacRecord)) Error → Result (List MacRecord) Error
kept read = and_then read (λ rs. Ok (filter_map (λ r. r) rs))

kept_first : (first : Result (Option MacRecord) Error) (rest : Result (List (Option MacRecord)) Error)
    → kept (and_then first (λ r. and_then rest (λ rs. Ok (r ∷ rs)))) ≡ and_then first (λ r. and_then (kept rest) (λ rs. Ok (cons_option r rs)))
kept_first (Err e) rest = refl
kept_first (Ok r) (Err e) = refl
kept_first (Ok r) (Ok rs) = refl

-- ---- the records that are left out

abbrev Reading : Type 0
Reading = Result (Option MacRecord) Error

-- a reading that is no error leaves the record out exactly where its version is 0
abbrev LeftOut : Bool → Reading → Type 0
LeftOut zero (Err e) = ⊤
LeftOut zero (Ok r) = is_none r ≡ zero

after_head : (zero : Bool) (same : Result ℕ Error) (read : Reading)
    → LeftOut zero read → LeftOut zero (and_then same (λ version. read))
after_head zero (Err e) read h = tt
after_head zero (Ok version) read h = h

with_texts : {R : Type 0} (raw : Result R Error) (texts : Result MacTexts Error)
    (f : R → MacTexts → MacRecord)
    → LeftOut false (and_then raw (λ r. and_then texts (λ t. Ok (Some (f r t)))))
with_texts (Err e) texts f = tt
with_texts (Ok r) (Err e) f = tt
with_texts (Ok r) (Ok t) f = refl

either : (b : Bool) (x y : Reading) → LeftOut false x → LeftOut false y
    → LeftOut false (if b then x else y)
either true x y h k = h
either false x y h k = k

at_zero : (zero : Bool) (x : Reading) → LeftOut false x → LeftOut zero (if zero then Ok None else x)
at_zero true x h = refl
at_zero false x h = h

module _ (order : Endian) (file : List ℕ) (start : ℕ) where
  of_version : (head : MINIDUMP_MAC_CRASH_INFO_RECORD) (bytes : List ℕ)
      → LeftOut (head.version == 0) (by_version order start head bytes)
  of_version head bytes =
      let raw_4 = fixed_part mac_record_4 order start bytes in
      let raw_5 = fixed_part mac_record_5 order start bytes in
      let texts = texts_in start bytes in
      let x1 : Reading = if nat_lt start 16 then Err StreamReadFailure else Ok (Some (v1 head)) in
      let x4 : Reading = and_then raw_4 (λ r. and_then texts (λ t. Ok (Some (v4 r t)))) in
      let x5 : Reading = and_then raw_5 (λ r. and_then texts (λ t. Ok (Some (v5 r t)))) in
      let later : Reading = if head.version == 4 then x4 else x5 in
      at_zero (head.version == 0) (if nat_lt head.version 4 then x1 else later)
      (either (nat_lt head.version 4) x1 later
      (either (nat_lt start 16) (Err StreamReadFailure) (Ok (Some (v1 head))) tt refl)
      (either (head.version == 4) x4 x5 (with_texts raw_4 texts v4) (with_texts raw_5 texts v5)))

  module _ (before : Option ℕ) where
    of_head : (bytes : List ℕ) (head : Option MINIDUMP_MAC_CRASH_INFO_RECORD)
        → LeftOut (option_eq nat_eq (option_map (λ h. h.version) head) (Some 0))
        (and_then (ok_or head StreamReadFailure) (λ h.
        and_then (same_version before h.version) (λ version. by_version order start h bytes)))
    of_head bytes None = tt
    of_head bytes (Some h) =
        after_head (h.version == 0) (same_version before h.version)
        (by_version order start h bytes) (of_version h bytes)

    of_bytes : (found : Option (List ℕ))
        → LeftOut (option_eq nat_eq (option_and_then (stated_version order) found) (Some 0))
        (and_then (ok_or found StreamReadFailure) (record_after_version order start before))
    of_bytes None = tt
    of_bytes (Some bytes) = of_head bytes (record_at mac_record order 0 bytes)

    of_location : (l : MINIDUMP_LOCATION_DESCRIPTOR)
        → LeftOut (states_version_0 order file l) (located_record order file start before l)
    unfolding located_record located_version
    of_location l = of_bytes (located file l)

-- of locations the records that are read, and those that state version 0, are all
abbrev AreAll : Endian → List ℕ → List MINIDUMP_LOCATION_DESCRIPTOR
    → Result (List MacRecord) Error → Type 0
AreAll order file ls (Err e) = ⊤
AreAll order file ls (Ok rs) = length rs + count_by (states_version_0 order file) ls ≡ length ls

one_location : (order : Endian) (file : List ℕ)
    (l : MINIDUMP_LOCATION_DESCRIPTOR) (ls : List MINIDUMP_LOCATION_DESCRIPTOR)
    (r : Reading) (rest : Result (List MacRecord) Error)
    → LeftOut (states_version_0 order file l) r → AreAll order file ls rest
    → AreAll order file (l ∷ ls) (and_then r (λ x. and_then rest (λ rs. Ok (cons_option x rs))))
one_location order file l ls (Err e) rest h k = tt
one_location order file l ls (Ok r) (Err e) h k = tt
one_location order file l ls (Ok None) (Ok rs) h k =
    let more = sum_by-cons (λ x. cond (states_version_0 order file x) 1 0) l ls in
    let one : ◌≡◌ {A = ℕ} 1 (cond (states_version_0 order file l) 1 0) = ap (λ b. cond b 1 0) h in
    omega arith
one_location order file l ls (Ok (Some r)) (Ok rs) h k =
    let more = sum_by-cons (λ x. cond (states_version_0 order file x) 1 0) l ls in
    let none : ◌≡◌ {A = ℕ} 0 (cond (states_version_0 order file l) 1 0) = ap (λ b. cond b 1 0) h in
    omega arith

module _ (order : Endian) (file : List ℕ) (start : ℕ) where
  -- the records at locations, after one of a version
  unfoldable pub left : Option ℕ → List MINIDUMP_LOCATION_DESCRIPTOR → Result (List MacRecord) Error
  left before [] = Ok []
  left before (l ∷ ls) =
      and_then (located_record order file start before l) (λ r. and_then (left (located_version order file l) ls) (λ rs. Ok (cons_option r rs)))

  -- the records at locations, each by the location before it, are the same
  by_neighbours : (before : Option MINIDUMP_LOCATION_DESCRIPTOR) (ls : List MINIDUMP_LOCATION_DESCRIPTOR)
      → kept (all_ok (neighbouring_record order file start) (zip (before ∷ map Some ls) ls)) ≡ left (option_and_then (located_version order file) before) ls
  unfolding left all_ok
  by_neighbours before [] = refl
  by_neighbours before (l ∷ ls) =
      kept_first (neighbouring_record order file start (before, l)) (all_ok (neighbouring_record order file start) (zip (Some l ∷ map Some ls) ls))
      ∙ ap (λ rest. and_then (neighbouring_record order file start (before, l)) (λ r. and_then rest (λ rs. Ok (cons_option r rs)))) (by_neighbours (Some l) ls)

  pub all_left : (ls : List MINIDUMP_LOCATION_DESCRIPTOR) → located_records order file start ls ≡ after_these [] (left None ls)
  unfolding located_records
  all_left ls = by_neighbours None ls ∙ none_yet (left None ls)

  of_locations : (before : Option ℕ) (ls : List MINIDUMP_LOCATION_DESCRIPTOR)
      → AreAll order file ls (left before ls)
  unfolding left
  of_locations before [] = refl
  of_locations before (l ∷ ls) =
      one_location order file l ls _ _ (of_location order file start before l)
      (of_locations (located_version order file l) ls)

  -- the records that are read, and those that state version 0, are as many as the locations
  pub all_counted : (ls : List MINIDUMP_LOCATION_DESCRIPTOR) (rs : List MacRecord)
      → located_records order file start ls ≡ Ok rs
      → length rs + count_by (states_version_0 order file) ls ≡ length ls
  unfolding located_records
  all_counted ls rs is =
      subst (AreAll order file ls) (sym (by_neighbours None ls) ∙ is) (of_locations None ls)

  next_one : (ls : List MINIDUMP_LOCATION_DESCRIPTOR) (i : ℕ) (d : MINIDUMP_LOCATION_DESCRIPTOR) → i < length ls → drop i ls ≡ get_or ls i d ∷ drop (i + 1) ls
  next_one ls i d lt = rw (add-one i, drop-cons ls i d lt) refl

  module _ (whole : Result (List MacRecord) Error) (before : Option ℕ) (done : List MacRecord) (ls : List MINIDUMP_LOCATION_DESCRIPTOR) where
    module _ (i : ℕ) (d : MINIDUMP_LOCATION_DESCRIPTOR) (lt : i < length ls) (so_far : whole ≡ after_these done (left before (drop i ls))) where
      -- a record that is left out
      pub left_none : (version : ℕ) → Some version ≡ located_version order file (get_or ls i d)
          → located_record order file start before (get_or ls i d) ≡ Ok None
          → whole ≡ after_these done (left (Some version) (drop (i + 1) ls))
      unfolding left
      left_none version at is = so_far ∙ rw (next_one ls i d lt, is, at) (skipped done (left (located_version order file (get_or ls i d)) (drop (i + 1) ls)))

      -- one that is kept
      pub left_some : (version : ℕ) (r : MacRecord) → Some version ≡ located_version order file (get_or ls i d)
          → located_record order file start before (get_or ls i d) ≡ Ok (Some r)
          → whole ≡ after_these (done ++ r ∷ []) (left (Some version) (drop (i + 1) ls))
      unfolding left
      left_some version r at is =
          so_far ∙ rw (next_one ls i d lt, is, at) (one_more done r (left (located_version order file (get_or ls i d)) (drop (i + 1) ls)))

      -- a record that is an error is the error of all
      pub left_error : (e : Error) → located_record order file start before (get_or ls i d) ≡ Err e → whole ≡ Err e
      unfolding left
      left_error e is = so_far ∙ rw (next_one ls i d lt, is) refl

    -- the end
    pub left_end : ls ≡ [] → whole ≡ after_these done (left before ls) → whole ≡ Ok done
    unfolding left
    left_end e so_far = so_far ∙ rw (e, append-nil done) refl
