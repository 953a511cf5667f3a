-- The lines of what the process itself said of the crash: an assertion, Crashpad's annotations,
-- macOS's crash information and Mozilla's soft errors.
use Rattle.std.specs.Prelude.{ℕ, ◌++◌, ◌==◌, List, [], ◌∷◌, codes, if◌then◌else◌, map}
use Rattle.std.specs.Fmt.{decimal}
use Rattle.std.specs.List.{concat, enumerate_from, flat_map}
use Rattle.minidump.specs.declared.format.MINIDUMP_ASSERTION_INFO.{MINIDUMP_ASSERTION_INFO}
use Rattle.minidump.specs.declared.format.MINIDUMP_CRASHPAD_INFO.{MINIDUMP_CRASHPAD_INFO}
use Rattle.minidump.specs.Below.Format.Guid.{guid_text}
use Rattle.minidump.specs.Below.Records.Annotations.{Annotation}
use Rattle.minidump.specs.Below.Records.Assertion.{text_or_empty}
use Rattle.minidump.specs.Below.Records.Crashpad.{Crashpad, Module}
use Rattle.minidump.specs.Below.Records.CrashpadText.{annotation_text}
use Rattle.minidump.specs.Below.Records.Record as mac
use Rattle.minidump.specs.Below.Records.Record.{MacRecord, text_of}
use Rattle.crash_streams.specs.Contents.{MessageStreamValues}
use Rattle.crash_lines.specs.Lines.{if_ok, table}
use Rattle.crash_lines.specs.Words.{hex_if, text_after, text_if}

-- the words for the kind of an assertion, of those that Breakpad has
abbrev pub kind_words : ℕ → List ℕ
kind_words kind = if kind == 1 then codes "(invalid parameter) "
    else (if kind == 2 then codes "(pure virtual call) " else [])

-- the line of an assertion: its kind and its expression, and the function, the file and the line
-- that it stands in
unfoldable pub assertion_line : MINIDUMP_ASSERTION_INFO → List ℕ
assertion_line a = concat (codes "assertion " ∷ kind_words a._type
    ∷ text_after [] (text_or_empty a.expression)
    ∷ text_after (codes ", function ") (text_or_empty a.function)
    ∷ text_after (codes ", file ") (text_or_empty a.file) ∷ codes ", line " ∷ decimal a.line ∷ [])

-- the line of an annotation of a list, which has no name
unfoldable pub unnamed_row : List ℕ → List ℕ
unnamed_row text = concat (codes "list annotation " ∷ text ∷ [])

-- the line of an annotation after words: its name and its text
unfoldable pub annotation_row : List ℕ → List ℕ × List ℕ → List ℕ
annotation_row what e = concat (what ∷ e.0 ∷ codes " = " ∷ e.1 ∷ [])

-- that of an annotation of a dictionary
abbrev pub simple_row : List ℕ × List ℕ → List ℕ
simple_row e = annotation_row (codes "annotation ") e

-- that of one that has a type
abbrev pub object_row : List ℕ × Annotation → List ℕ
object_row e = annotation_row (codes "object annotation ") (e.0, annotation_text e.1)

-- the line before the annotations of a module, by its index in the list of modules of the file
unfoldable pub module_row : ℕ → List ℕ
module_row index = concat (codes "annotations of module " ∷ decimal index ∷ [])

-- a module, and its annotations: its list of texts, its dictionary, and those that have a type
abbrev pub module_lines : Module → List (List ℕ)
module_lines m = module_row m.module_index ∷ (map unnamed_row m.list_annotations
    ++ (map simple_row m.simple_annotations ++ map object_row m.annotation_objects))

-- the line of the identifiers of Crashpad's report and of its client
unfoldable pub report_line : MINIDUMP_CRASHPAD_INFO → List ℕ
report_line raw = concat (codes "Crashpad report " ∷ guid_text raw.report_id
    ∷ codes ", client " ∷ guid_text raw.client_id ∷ [])

-- the identifiers, the annotations of the process, and then those of each module
abbrev pub crashpad_lines : Crashpad → List (List ℕ)
crashpad_lines c = report_line c.raw
    ∷ (map simple_row c.simple_annotations ++ flat_map module_lines c.module_list)

-- a record of macOS's crash information, by its number: its texts and its numbers, where it has them
unfoldable pub record_lines : ℕ → MacRecord → List (List ℕ)
record_lines number r = table (
    (codes "macOS record " ∷ decimal number ∷ [])
    ∷ (text_if (codes "macOS module: ") (text_of (λ t. t.module_path) r) [] ∷ [])
    ∷ (text_if (codes "macOS message: ") (text_of (λ t. t.message) r) [] ∷ [])
    ∷ (text_if (codes "macOS second message: ") (text_of (λ t. t.message2) r) [] ∷ [])
    ∷ (text_if (codes "macOS signature: ") (text_of (λ t. t.signature_string) r) [] ∷ [])
    ∷ (text_if (codes "macOS backtrace: ") (text_of (λ t. t.backtrace) r) [] ∷ [])
    ∷ (hex_if (codes "macOS thread ") (mac.thread r) ∷ [])
    ∷ (hex_if (codes "macOS dialog mode ") (mac.dialog_mode r) ∷ [])
    ∷ (hex_if (codes "macOS abort cause ") (mac.abort_cause r) ∷ [])
    ∷ [])

-- the records
abbrev pub mac_lines : List MacRecord → List (List ℕ)
mac_lines records = flat_map (λ r. record_lines r.0 r.1) (enumerate_from 0 records)

-- all that the process said
abbrev pub messages_lines : MessageStreamValues → List (List ℕ)
messages_lines m = if_ok (λ a. assertion_line a ∷ []) m.assertion
    ++ (if_ok crashpad_lines m.crashpad
    ++ (if_ok (λ all. mac_lines all.records) m.mac_crash_info
    ++ if_ok (λ t. concat (codes "soft errors " ∷ t ∷ []) ∷ []) m.soft_errors))
