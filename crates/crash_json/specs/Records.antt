-- Handles, what macOS keeps of a crash and of its boot, Mozilla's soft errors, which are a text that
-- ought to be JSON, and an assertion, as JSON.
use Rattle.std.specs.Prelude.{ℕ, ◌==◌, List, [], ◌∷◌, codes, length, Option, Some, None}
use Rattle.std.specs.Prelude.{if◌then◌else◌, unwrap_or}
use Rattle.std.specs.Option.{option_and_then}
use Rattle.json.specs.Json.{Json, if_last, string, value}
use Rattle.json.specs.Lex.{tokens}
use Rattle.minidump.specs.declared.format.MINIDUMP_ASSERTION_INFO.{MINIDUMP_ASSERTION_INFO}
use Rattle.minidump.specs.Below.Bytes.Text16.{text_before_nul}
use Rattle.minidump.specs.Below.Records.BootArgs.{BootArgs}
use Rattle.minidump.specs.Below.Records.Descriptor.{handle}
use Rattle.minidump.specs.Below.Records.Handles.{Handle}
use Rattle.minidump.specs.Below.Records.MacCrashInfo.{MacRecords}
use Rattle.minidump.specs.Below.Records.Record as mac
use Rattle.minidump.specs.Below.Records.Record.{MacRecord, text_of}
use Rattle.crash_process.specs.HandleKinds.{KindValue}
use Rattle.crash_json.specs.Tree.{array_of, count, hex_string, object_of, or_null}

-- ---- handles

-- a handle by its value and its names
unfoldable pub handle_json : Handle → Json
handle_json h = object_of (
    (codes "handle", or_null hex_string (handle h.raw))
    ∷ (codes "type_name", or_null string h.type_name)
    ∷ (codes "object_name", or_null string h.object_name)
    ∷ [])

-- a kind of handles: the name of their type, and how many there are
unfoldable pub kind_json : KindValue → Json
kind_json k = object_of (
    (codes "type_name", string k.type_name) ∷ (codes "count", count k.count) ∷ [])

-- ---- macOS

-- a record of macOS's crash information
unfoldable pub mac_record_json : MacRecord → Json
mac_record_json r = object_of (
    (codes "thread", or_null hex_string (mac.thread r))
    ∷ (codes "dialog_mode", or_null hex_string (mac.dialog_mode r))
    ∷ (codes "abort_cause", or_null hex_string (mac.abort_cause r))
    ∷ (codes "module", or_null string (text_of (λ t. t.module_path) r))
    ∷ (codes "message", or_null string (text_of (λ t. t.message) r))
    ∷ (codes "signature_string", or_null string (text_of (λ t. t.signature_string) r))
    ∷ (codes "backtrace", or_null string (text_of (λ t. t.backtrace) r))
    ∷ (codes "message2", or_null string (text_of (λ t. t.message2) r))
    ∷ [])

-- the crash information of macOS
unfoldable pub mac_crash_json : MacRecords → Json
mac_crash_json all = object_of (
    (codes "num_records", count (length all.records))
    ∷ (codes "records", array_of mac_record_json all.records)
    ∷ [])

-- the arguments of the boot of macOS
unfoldable pub boot_args_json : BootArgs → Json
boot_args_json b = or_null string b.text

-- ---- soft errors

-- how deep the value may nest: a line may have 128 levels, and its object is one of them
abbrev pub soft_depth : ℕ
soft_depth = 127

-- the value of a text that is JSON and nests no deeper
abbrev pub value_in : List ℕ → Option Json
value_in text = option_and_then (λ p. if_last p.0 p.1) (value soft_depth (tokens text))

-- the soft errors: that value, or the text where it has none
unfoldable pub soft_json : List ℕ → Json
soft_json text = unwrap_or (value_in text) (string text)

-- ---- an assertion

-- the words for the kind of an assertion, of those that Breakpad has
abbrev pub assertion_kind : ℕ → Option (List ℕ)
assertion_kind kind = if kind == 1 then Some (codes "invalid parameter")
    else (if kind == 2 then Some (codes "pure virtual call") else None)

-- an assertion: its kind, its expression, and the function, the file and the line that it stands in
unfoldable pub assertion_json : MINIDUMP_ASSERTION_INFO → Json
assertion_json a = object_of (
    (codes "kind", or_null string (assertion_kind a._type))
    ∷ (codes "expression", or_null string (text_before_nul a.expression))
    ∷ (codes "function", or_null string (text_before_nul a.function))
    ∷ (codes "file", or_null string (text_before_nul a.file))
    ∷ (codes "line", count a.line)
    ∷ [])
