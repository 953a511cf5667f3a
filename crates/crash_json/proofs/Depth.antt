-- A line nests seven levels deep at most, but for its soft errors, which nest no deeper than they may.
use Rattle.std.proofs.Common.{◌≡◌, ◌≤◌, ◌++◌, ℕ, Bool, false, true, List, [], ◌∷◌, Option, Some, None, Result, Ok, Err, arith, refl}
use Rattle.std.specs.Prelude.{codes, unwrap_or}
use Rattle.std.specs.Option.{option_and_then}
use Rattle.json.specs.Json.{Json, if_last, max_depth, string, value}
use Rattle.json.specs.Lex.{tokens}
use Rattle.json.specs.Token.{Token}
use Rattle.json.specs.Tree.{depth, members_depth}
use Rattle.json.proofs.Nesting.{value-depth}
use Rattle.minidump.specs.declared.Error.{Error}
use Rattle.minidump.specs.Below.Records.Crashpad.{Crashpad}
use Rattle.minidump.specs.Below.Records.CrashpadText.{annotation_text}
use Rattle.minidump.specs.Below.Records.Pairs.{pairs_of}
use Rattle.crash_threads.specs.declared.addresses.AddressFacts.{AddressFacts}
use Rattle.crash.specs.declared.damage.Damage.{Damage}
use Rattle.crash.specs.declared.damage.Damage.TheVariants.{Stream}
use Rattle.crash_threads.specs.Cause.{ExceptionValue}
use Rattle.crash.specs.Crash.{CrashValue}
use Rattle.crash_process.specs.Modules.{LoadedValue}
use Rattle.crash_threads.specs.Point.{PointValue}
use Rattle.crash_threads.specs.Threads.{ThreadValue, crashed_thread}
use Rattle.crash_symbols.specs.Names.{NamedFrameValue}
use Rattle.crash_symbols.specs.Shown.{SymbolizedValue}
use Rattle.crash_json.specs.Tree.{array_of, count, hex_string, members_of}
use Rattle.crash_json.proofs.TreeDepth.{array_within, both_within, flat, numbered_array_within, or_null_within}
use Rattle.crash_json.specs.declared.JsonLimits.{JsonLimits}
use Rattle.crash_json.specs.Cause.{address_json, address_members, crash_info_json, exception_json, memory_json, sender_json}
use Rattle.crash_json.specs.Crashpad.{crashpad_json, crashpad_module_json, dictionary_json, entry_json}
use Rattle.crash_json.specs.Frames.{frame_json, frame_members, inline_json, name_members, register_members, registers_json}
use Rattle.crash_json.specs.Minidump.{damage_json, damage_object, file_members, minidump_json, process_members, region_json, signature_members, stream_json}
use Rattle.crash_json.specs.Modules.{module_json, module_members, modules_json, unloaded_json, unreadable_json}
use Rattle.crash_json.specs.Point.{point_json, register_json, word_json}
use Rattle.crash_json.specs.Records.{assertion_json, boot_args_json, handle_json, kind_json, mac_crash_json, mac_record_json, soft_depth, soft_json}
use Rattle.crash_json.specs.ReportValue.{ReportValue}
use Rattle.crash_json.specs.Report.{error_json, json_of, line_json, path_members, before_threads, stream_members, system_members}
use Rattle.crash_json.specs.System.{environment_members, limit_json, limits_json, release_json, system_json, variable_json}
use Rattle.crash_json.specs.Threads.{crashing_json, index_members, range_json, short_json, thread_json, thread_members, threads_json}

-- ---- modules and threads

module_depth : (symbols : Option SymbolizedValue) (index : ℕ) (m : LoadedValue) → depth (module_json symbols index m) ≤ 1
unfolding module_members
module_depth None index m = omega (arith, flat)
module_depth (Some s) index m = omega (arith, flat)

fields_within : (registers : List (List ℕ × ℕ)) → members_depth (members_of (register_members registers)) ≤ 0
fields_within [] = omega arith
fields_within (r ∷ registers) = omega (arith, fields_within registers)

names_depth : (symbols : Option SymbolizedValue) (f : NamedFrameValue) → members_depth (members_of (name_members symbols f)) ≤ 2
unfolding inline_json
names_depth (Some s) f = omega (arith, flat, array_within inline_json 1 (λ c. omega (arith, flat)))
names_depth None f = omega arith

frame_depth : (r : ReportValue) (is_crashing : Bool) (t : ThreadValue) (number : ℕ) (f : NamedFrameValue) → depth (frame_json r is_crashing t number f) ≤ 3
unfolding frame_members
frame_depth r is_crashing t number f = omega (arith, flat, or_null_within registers_json 1 (λ c. omega (arith, fields_within)), names_depth)

index_depth : (is_crashing : Bool) (number : ℕ) → members_depth (members_of (index_members is_crashing number)) ≤ 0
index_depth true number = omega arith
index_depth false number = omega arith

thread_depth : (r : ReportValue) (is_crashing : Bool) (number : ℕ) (t : ThreadValue) → depth (thread_json r is_crashing number t) ≤ 5
unfolding thread_members range_json short_json
thread_depth r is_crashing number t =
    omega (
      arith,
      flat,
      both_within,
      index_depth,
      or_null_within range_json 1 (λ x. omega arith),
      or_null_within short_json 1 (λ x. omega arith),
      numbered_array_within (frame_json r is_crashing t) 3 (frame_depth r is_crashing t),
    )

crashing_depth : (r : ReportValue) → depth (crashing_json r) ≤ 5
crashing_depth r = or_null_within (λ p. thread_json r true p.0 p.1) 5 (λ p. thread_depth r true p.0 p.1) (crashed_thread r.crash.threads)

-- ---- Crashpad's information, and the environment

dictionary_depth : {V : Type 0} (json : V → Json) → ((v : V) → depth (json v) ≤ 0) → (es : List (List ℕ × V)) → depth (dictionary_json json es) ≤ 2
unfolding entry_json
dictionary_depth json each es = array_within (λ e. entry_json e.0 (json e.1)) 1 (λ e. omega (arith, each e.1)) es

crashpad_depth : (c : Crashpad) → depth (crashpad_json c) ≤ 5
unfolding crashpad_json crashpad_module_json
crashpad_depth c =
    let texts = dictionary_depth string (λ t. omega arith) in
    omega (
      arith,
      texts,
      array_within crashpad_module_json 3
          (λ m. omega (
            arith,
            array_within string 0 (λ t. omega arith),
            texts,
            dictionary_depth (λ a. string (annotation_text a)) (λ a. omega arith),
          )),
    )

environment_depth : (is_asked : Bool) (text : Result (List ℕ) Error) → members_depth (members_of (environment_members is_asked text)) ≤ 2
unfolding entry_json
environment_depth true (Ok text) = omega (arith, array_within variable_json 1 (λ p. omega arith) (pairs_of 0x3d text))
environment_depth false (Ok text) = omega arith
environment_depth is_asked (Err e) = omega arith

-- ---- what the schema has no member for

exception_depth : (e : Result ExceptionValue Error) → depth (exception_json e) ≤ 2
unfolding exception_json sender_json
exception_depth (Ok e) =
    omega (arith, flat, array_within hex_string 0 (λ n. omega arith), or_null_within sender_json 1 (λ s. omega (arith, flat)))
exception_depth (Err e) = omega arith

address_members_depth : (a : AddressFacts) → members_depth (members_of (address_members a)) ≤ 1
unfolding address_members memory_json
address_members_depth a = omega (arith, flat, or_null_within memory_json 1 (λ m. omega (arith, flat)))

damage_depth : (d : Damage) → depth (damage_json d) ≤ 1
unfolding damage_object
damage_depth (Stream number error) = omega arith
damage_depth d = omega arith

point_depth : (p : PointValue) → depth (point_json p) ≤ 4
unfolding point_json word_json
point_depth p =
    omega (
      arith,
      address_members_depth,
      array_within count 0 (λ b. omega arith),
      array_within word_json 1 (λ w. omega (arith, flat)),
      array_within register_json 2 (λ r. omega (arith, address_members_depth)),
      fields_within,
      array_within string 0 (λ t. omega arith),
    )

process_depth : (environment : Bool) (c : CrashValue) → members_depth (members_of (process_members environment c)) ≤ 5
unfolding process_members
process_depth environment c = omega (arith, flat, both_within, environment_depth)

file_depth : (c : CrashValue) → members_depth (members_of (file_members c)) ≤ 5
unfolding file_members stream_json region_json unreadable_json
file_depth c =
    omega (
      arith,
      array_within stream_json 1 (λ e. omega (arith, flat)),
      array_within region_json 1 (λ r. omega arith),
      array_within damage_json 1 damage_depth,
      array_within unreadable_json 1 (λ m. omega arith),
    )

signature_depth : (r : ReportValue) → members_depth (members_of (signature_members r)) ≤ 5
unfolding signature_members kind_json assertion_json
signature_depth r =
    omega (
      arith,
      flat,
      or_null_within address_json 2 (λ a. omega (arith, address_members_depth)),
      or_null_within point_json 4 point_depth,
      array_within exception_json 2 exception_depth,
      array_within kind_json 1 (λ k. omega arith),
      or_null_within assertion_json 1 (λ a. omega (arith, flat)),
      or_null_within crashpad_json 5 crashpad_depth,
    )

minidump_depth : (r : ReportValue) → depth (minidump_json r) ≤ 6
minidump_depth r =
    let last = both_within (file_members r.crash) (signature_members r) in
    omega (arith, both_within (process_members r.limits.environment r.crash), last, process_depth, file_depth, signature_depth)

-- ---- the soft errors

read_within : (text : List ℕ) (read : Option (Json × List Token)) → value soft_depth (tokens text) ≡ read
    → depth (unwrap_or (option_and_then (λ p. if_last p.0 p.1) read) (string text)) ≤ soft_depth
read_within text None is = omega arith
read_within text (Some (j, [])) is = value-depth soft_depth (tokens text) [] j is
read_within text (Some (j, t ∷ ts)) is = omega arith

soft_within : (text : List ℕ) → depth (soft_json text) ≤ soft_depth
unfolding soft_json
soft_within text = read_within text (value soft_depth (tokens text)) refl

-- ---- all of it

path_depth : (path : Option (List ℕ)) → members_depth (members_of (path_members path)) ≤ 0
path_depth None = omega arith
path_depth (Some path) = omega arith

records_within : (r : ReportValue) → members_depth (members_of (stream_members r.crash ++ ((codes "minidump", minidump_json r) ∷ []))) ≤ soft_depth
unfolding stream_members release_json mac_crash_json mac_record_json boot_args_json handle_json limits_json limit_json
records_within r =
    omega (
      arith,
      flat,
      or_null_within release_json 1 (λ r. omega (arith, flat)),
      or_null_within mac_crash_json 3 (λ all. omega (arith, array_within mac_record_json 1 (λ r. omega (arith, flat)))),
      or_null_within boot_args_json 0 (λ b. omega (arith, flat)),
      or_null_within (array_of handle_json) 2 (array_within handle_json 1 (λ h. omega (arith, flat))),
      or_null_within soft_json soft_depth soft_within,
      or_null_within limits_json 3 (λ text. omega (arith, array_within limit_json 1 (λ l. omega (arith, flat)))),
      minidump_depth,
    )

rest_within : (r : ReportValue) → members_depth (members_of (before_threads r.crash
    ++ ((codes "threads", threads_json r) ∷ (codes "crashing_thread", crashing_json r)
    ∷ (stream_members r.crash ++ ((codes "minidump", minidump_json r) ∷ []))))) ≤ soft_depth
unfolding before_threads threads_json unloaded_json
rest_within r =
    omega (
      arith,
      flat,
      array_within unloaded_json 1 (λ m. omega (arith, flat)),
      numbered_array_within (thread_json r false) 5 (thread_depth r false),
      crashing_depth r,
      records_within r,
    )

line_within : (r : ReportValue) → depth (line_json r) ≤ max_depth
unfolding system_members modules_json system_json crash_info_json
line_within r =
    omega (
      arith,
      flat,
      both_within,
      path_depth,
      or_null_within system_json 1 (λ s. omega (arith, flat)),
      numbered_array_within (module_json r.symbols) 1 (module_depth r.symbols),
      rest_within r,
    )

pub line_depth : (limits : JsonLimits) (path : Option (List ℕ)) (symbols : Option SymbolizedValue) (c : CrashValue)
    → depth (json_of limits path symbols c) ≤ max_depth
line_depth limits path symbols c = line_within (record { limits = limits; path = path; symbols = symbols; crash = c })

pub error_depth : (path status : List ℕ) → depth (error_json path status) ≤ max_depth
unfolding error_json
error_depth path status = omega arith
