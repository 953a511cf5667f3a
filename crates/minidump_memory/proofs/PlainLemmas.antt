-- One descriptor more of a plain list: its region, and whether it names bytes outside the file.
use Rattle.std.proofs.Common.{◌≡◌, ◌∙◌, ℕ, ◌+◌, ◌<◌, ◌≤◌, ◌++◌, ◌∷◌, [], List, Bool, true, false, Option, Some, None, Result, Ok, Err, ap, arith, get_or, length, refl, sym, take}
use Rattle.std.proofs.lemmas.List.{take_more}
use Rattle.std.proofs.lemmas.List.Elements.{filter_map-append}
use Rattle.std.proofs.lemmas.List.Sums.{sum_by_more}
use Rattle.std.specs.List.{cons_option}
use Rattle.std.specs.Option.{ok_or}
use Rattle.std.specs.Prelude.{◌==◌, ◌&&◌, ◌||◌, cond, count_by, if◌then◌else◌, is_none, not}
use Rattle.std.specs.Result.{result_ok}
use Rattle.minidump_bytes.specs.declared.endian.Endian.{Endian}
use Rattle.minidump_format.specs.Answer.{GivesError}
use Rattle.minidump_format.specs.Header.{located}
use Rattle.minidump_format.specs.declared.error.Error.{Error}
use Rattle.minidump_format.specs.declared.error.Error.TheVariants.{MemoryReadFailure, OutOfMemory, StreamReadFailure}
use Rattle.minidump_format.specs.declared.format.memory.MINIDUMP_MEMORY_DESCRIPTOR.{MINIDUMP_MEMORY_DESCRIPTOR}
use Rattle.minidump_system.specs.Reads.{and_then}
use Rattle.minidump_memory.specs.Memory.{MemoryRegion, descriptor_region, spans_read}
use Rattle.minidump_memory.specs.MemoryList.{descriptor_regions, is_outside}

-- no region is read, since its bytes are not all in the file
abbrev pub by_error : {V : Type 0} → Result V Error → Bool
by_error (Err StreamReadFailure) = true
by_error r = false

by_parts : {V : Type 0} (z y : Bool) (s : Option (List ℕ)) (f : List ℕ → V)
    → by_error (if z || y then Err MemoryReadFailure else and_then (ok_or s StreamReadFailure) (λ bytes. Ok (f bytes)))
    ≡ (not z && (not y && is_none s))
by_parts true y s f = refl
by_parts false true s f = refl
by_parts false false None f = refl
by_parts false false (Some bytes) f = refl

module _ (order : Endian) (file : List ℕ) where
  outside_by_error : (d : MINIDUMP_MEMORY_DESCRIPTOR) → by_error (descriptor_region order file d) ≡ is_outside file d
  outside_by_error d = by_parts (d.memory.rva == 0) (d.memory.data_size == 0)
      (located file d.memory)
      (λ bytes. record { desc = d; base_address = d.start_of_memory_range; size = d.memory.data_size; bytes = bytes; endian = order })

  module _ (ds : List MINIDUMP_MEMORY_DESCRIPTOR) (i : ℕ) (d : MINIDUMP_MEMORY_DESCRIPTOR) (inside : i < length ds) (item : get_or ds i d ≡ d)
      (r : Result (MemoryRegion MINIDUMP_MEMORY_DESCRIPTOR) Error) (is : descriptor_region order file d ≡ r) where
    pub regions_more : descriptor_regions order file (take (i + 1) ds) ≡ descriptor_regions order file (take i ds) ++ cons_option (result_ok r) []
    regions_more = ap (descriptor_regions order file) (take_more ds i d inside)
        ∙ filter_map-append (λ e. result_ok (descriptor_region order file e)) (take i ds) (get_or ds i d ∷ [])
        ∙ ap (λ e. descriptor_regions order file (take i ds) ++ cons_option (result_ok (descriptor_region order file e)) []) item
        ∙ ap (λ o. descriptor_regions order file (take i ds) ++ cons_option (result_ok o) []) is

    pub outside_more : count_by (is_outside file) (take (i + 1) ds) ≡ count_by (is_outside file) (take i ds) + cond (by_error r) 1 0
    outside_more = sum_by_more (λ x. cond (is_outside file x) 1 0) ds i d inside
        ∙ ap (λ b. count_by (is_outside file) (take i ds) + cond b 1 0)
        (ap (is_outside file) item ∙ sym (outside_by_error d) ∙ ap by_error is)

-- no region's error is that memory ran out
pub given_error : {V : Type 0} (r : Result V Error) (e : Error) → GivesError ⊥ e r → r ≡ Err e
given_error r OutOfMemory h = absurd h
given_error r e h = h

-- ---- numbers

no_or_one : (b : Bool) → (if b then 0 else 1) ≤ 1
no_or_one true = omega arith
no_or_one false = omega arith

pub one_span : (d : MINIDUMP_MEMORY_DESCRIPTOR) → spans_read d ≤ 1
one_span d = no_or_one (d.memory.rva == 0 || d.memory.data_size == 0)
