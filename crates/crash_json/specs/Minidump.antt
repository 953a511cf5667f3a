-- What a minidump says that the schema has no member for, as JSON.
use Rattle.std.specs.Prelude.{ℕ, ◌==◌, ◌++◌, Bool, List, [], ◌∷◌, codes, Option, Some, None, Ok}
use Rattle.std.specs.Prelude.{if◌then◌else◌}
use Rattle.std.specs.Option.{option_and_then, option_map}
use Rattle.std.specs.Result.{result_ok}
use Rattle.json.specs.Json.{Json, string}
use Rattle.minidump.specs.declared.Error.{Error}
use Rattle.minidump.specs.declared.MinidumpBreakpadInfo.{MinidumpBreakpadInfo}
use Rattle.minidump.specs.Below.Format.Error.{name_of_error}
use Rattle.minidump.specs.Below.Format.StreamType.{stream_type_of, type_name}
use Rattle.minidump.specs.Below.MemoryLists.Unified.{UnifiedRegion, unified_regions}
use Rattle.crash.specs.declared.damage.Damage.{Damage}
use Rattle.crash.specs.declared.damage.Damage.TheVariants.{Entries, Exception, ExceptionContext, Modules}
use Rattle.crash.specs.declared.damage.Damage.TheVariants.{Parameters, Records, Regions, Stack, Stream}
use Rattle.crash.specs.declared.damage.Damage.TheVariants.{Texts, ThreadContext}
use Rattle.crash_process.specs.declared.directory.StreamEntry.{StreamEntry}
use Rattle.crash.specs.Crash.{CrashValue, status_of}
use Rattle.crash_symbols.specs.Signature.{signature_in}
use Rattle.crash_json.specs.Tree.{array_of, count, hex_string, object_of, or_null}
use Rattle.crash_json.specs.Cause.{address_json, exception_json}
use Rattle.crash_json.specs.Crashpad.{crashpad_json}
use Rattle.crash_json.specs.ReportValue.{ReportValue}
use Rattle.crash_json.specs.Modules.{unreadable_json}
use Rattle.crash_json.specs.Point.{point_json}
use Rattle.crash_json.specs.Records.{assertion_json, kind_json}
use Rattle.crash_json.specs.System.{environment_members}
use Rattle.crash_json.specs.Threads.{registers_of}

-- ---- streams

-- a stream by its type, the name of that, where its bytes are, and the name of its error
unfoldable pub stream_json : StreamEntry → Json
stream_json s = object_of (
    (codes "type", hex_string s.number)
    ∷ (codes "name", or_null string (option_map type_name (stream_type_of s.number)))
    ∷ (codes "size", count s.size)
    ∷ (codes "rva", hex_string s.rva)
    ∷ (codes "error", or_null string (option_map name_of_error s.error))
    ∷ [])

-- ---- memory

-- a region of memory by its first address and its size
unfoldable pub region_json : UnifiedRegion → Json
region_json r = object_of (
    (codes "base_addr", hex_string r.base_address) ∷ (codes "size", count r.size) ∷ [])

-- ---- damage

-- damage by the word for what it is of, the type of a stream, the number of entries of a list, the id of
-- a thread, and an error
unfoldable pub damage_object : List ℕ → Option ℕ → Option ℕ → Option ℕ → Option Error → Json
damage_object what number entries thread error = object_of (
    (codes "what", string what)
    ∷ (codes "number", or_null hex_string number)
    ∷ (codes "count", or_null count entries)
    ∷ (codes "thread_id", or_null count thread)
    ∷ (codes "error", or_null string (option_map name_of_error error))
    ∷ [])

-- something that is there and can't be read
abbrev pub damage_json : Damage → Json
damage_json (Stream number error) =
    damage_object (codes "stream") (Some number) None None (Some error)
damage_json (Entries n) = damage_object (codes "entries") None (Some n) None None
damage_json (Regions n) = damage_object (codes "regions") None (Some n) None None
damage_json (Modules n) = damage_object (codes "modules") None (Some n) None None
damage_json (Texts number n) = damage_object (codes "texts") (Some number) (Some n) None None
damage_json (Records number n) = damage_object (codes "records") (Some number) (Some n) None None
damage_json (Exception error) = damage_object (codes "exception") None None None (Some error)
damage_json (Parameters id n) = damage_object (codes "parameters") None (Some n) (Some id) None
damage_json (ExceptionContext id) =
    damage_object (codes "exception_context") None None (Some id) None
damage_json (ThreadContext id) = damage_object (codes "thread_context") None None (Some id) None
damage_json (Stack id) = damage_object (codes "stack") None None (Some id) None

-- ---- all of it

-- a time stamp, absent where it is 0, which says nothing
abbrev pub unless_zero : ℕ → Option ℕ
unless_zero n = if n == 0 then None else Some n

-- the threads that requested and wrote the dump, by Breakpad's information
abbrev pub breakpad_members : Option MinidumpBreakpadInfo → List (List ℕ × Json)
breakpad_members info =
    (codes "requesting_thread_id", or_null count (option_and_then (λ b. b.requesting_thread_id) info))
    ∷ (codes "dump_thread_id", or_null count (option_and_then (λ b. b.dump_thread_id) info)) ∷ []

-- the process, with its environment, and who wrote the dump
unfoldable pub process_members : Bool → CrashValue → List (List ℕ × Json)
process_members environment c =
    (codes "written", or_null count (unless_zero c.directory.written))
    ∷ (codes "uptime", or_null count c.process.uptime)
    ∷ (codes "parent_process_id", or_null count c.process.parent)
    ∷ (codes "resident_size", or_null count c.process.resident)
    ∷ (breakpad_members (result_ok c.contents.system.breakpad)
    ++ ((codes "command_line", or_null string c.process.command_line)
    ∷ (environment_members environment c.contents.process.environ
    ++ ((codes "comment", or_null string c.process.comments.narrow)
    ∷ (codes "wide_comment", or_null string c.process.comments.wide)
    ∷ []))))

-- what the dump holds, and what of it can't be read
unfoldable pub file_members : CrashValue → List (List ℕ × Json)
file_members c =
    (codes "status", count (status_of (Ok c)))
    ∷ (codes "streams", array_of stream_json c.directory.entries)
    ∷ (codes "memory", array_of region_json (unified_regions c.contents.space.memory))
    ∷ (codes "damage", array_of damage_json c.damage)
    ∷ (codes "unreadable_modules", array_of unreadable_json c.modules.unreadable)
    ∷ []

-- what is known of the crash, with its signature; then the kinds of handles, the assertion and
-- Crashpad's annotations
unfoldable pub signature_members : ReportValue → List (List ℕ × Json)
signature_members r = let c = r.crash in
    (codes "address", or_null address_json c.cause.address)
    ∷ (codes "point", or_null point_json c.point)
    ∷ (codes "exceptions", array_of exception_json c.cause.exceptions)
    ∷ (codes "exception", or_null count c.cause.counts)
    ∷ (codes "signature", or_null string (signature_in r.symbols c))
    ∷ (codes "registers_of", or_null string (registers_of c.threads))
    ∷ (codes "handle_kinds", array_of kind_json c.process.handle_kinds)
    ∷ (codes "assertion", or_null assertion_json (result_ok c.contents.messages.assertion))
    ∷ (codes "crashpad", or_null crashpad_json (result_ok c.contents.messages.crashpad))
    ∷ []

-- what the schema has no member for
abbrev pub minidump_json : ReportValue → Json
minidump_json r = object_of (process_members r.limits.environment r.crash
    ++ (file_members r.crash ++ signature_members r))
