-- A record of the crash information of macOS: Mozilla's MDRawMacCrashInfoRecord, by its version.
use Rattle.std.specs.Prelude.{⊤, ℕ, ◌+◌, ◌==◌, List, length, Option, Some, None, Result, Ok, Err, nat_lt, string_bytes}
use Rattle.std.specs.Prelude.{if◌then◌else◌}
use Rattle.std.specs.Option.{ok_or}
use Rattle.minidump_bytes.specs.declared.endian.Endian.{Endian}
use Rattle.minidump_bytes.specs.Layout.{Layout}
use Rattle.minidump_bytes.specs.Span.{record_at}
use Rattle.minidump_bytes.specs.Text8.{cstring}
use Rattle.minidump_format.specs.declared.error.Error.{Error}
use Rattle.minidump_format.specs.declared.error.Error.TheVariants.{StreamReadFailure}
use Rattle.minidump_format.specs.declared.format.mac.MINIDUMP_MAC_CRASH_INFO_RECORD.{MINIDUMP_MAC_CRASH_INFO_RECORD}
use Rattle.minidump_format.specs.declared.format.mac.MINIDUMP_MAC_CRASH_INFO_RECORD_4.{MINIDUMP_MAC_CRASH_INFO_RECORD_4}
use Rattle.minidump_format.specs.declared.format.mac.MINIDUMP_MAC_CRASH_INFO_RECORD_5.{MINIDUMP_MAC_CRASH_INFO_RECORD_5}
use Rattle.minidump_format.specs.declared.format.mac.MINIDUMP_MAC_CRASH_INFO_RECORD_STRINGS_4.{}
use Rattle.minidump_format.specs.declared.format.mac.MINIDUMP_MAC_CRASH_INFO_RECORD_STRINGS_4.{}
use Rattle.minidump_format.specs.declared.format.mac.MINIDUMP_MAC_CRASH_INFO_RECORD_STRINGS_4.{MINIDUMP_MAC_CRASH_INFO_RECORD_STRINGS_4}
use Rattle.minidump_format.specs.declared.format.mac.MINIDUMP_MAC_CRASH_INFO_RECORD_STRINGS_5.{}
use Rattle.minidump_format.specs.declared.format.mac.MINIDUMP_MAC_CRASH_INFO_RECORD_STRINGS_5.{}
use Rattle.minidump_format.specs.declared.format.mac.MINIDUMP_MAC_CRASH_INFO_RECORD_STRINGS_5.{MINIDUMP_MAC_CRASH_INFO_RECORD_STRINGS_5}
use Rattle.minidump_format.specs.Mac.{mac_record_4, mac_record_5}
use Rattle.minidump_system.specs.OsParts.{unless_empty}
use Rattle.minidump_system.specs.Reads.{and_then}
use Rattle.minidump_records.specs.declared.mac_crash_info.raw.RawMacCrashInfo.{RawMacCrashInfo}
use Rattle.minidump_records.specs.declared.mac_crash_info.raw.RawMacCrashInfo.TheVariants.{V1, V4, V5}
use Rattle.minidump_records.specs.declared.mac_crash_info.record.Texts.{Texts}

-- ---- a record as a value

-- its texts, in UTF-8
pub record MacTexts : Type 0 where
  pub module_path : List ℕ
  pub message : List ℕ
  pub signature_string : List ℕ
  pub backtrace : List ℕ
  pub message2 : List ℕ

-- a record of version 1 to 3, of version 4, and of version 5 and above
pub data MacRecord : Type 0 where
  v1 : MINIDUMP_MAC_CRASH_INFO_RECORD → MacRecord
  v4 : MINIDUMP_MAC_CRASH_INFO_RECORD_4 → MacTexts → MacRecord
  v5 : MINIDUMP_MAC_CRASH_INFO_RECORD_5 → MacTexts → MacRecord

-- the texts of a record of version 4
abbrev pub texts_4 : MINIDUMP_MAC_CRASH_INFO_RECORD_STRINGS_4 → MacTexts
texts_4 t = record {
  module_path = string_bytes t.module_path;
  message = string_bytes t.message;
  signature_string = string_bytes t.signature_string;
  backtrace = string_bytes t.backtrace;
  message2 = string_bytes t.message2;
}

-- the texts of a record of version 5
abbrev pub texts_5 : MINIDUMP_MAC_CRASH_INFO_RECORD_STRINGS_5 → MacTexts
texts_5 t = record {
  module_path = string_bytes t.module_path;
  message = string_bytes t.message;
  signature_string = string_bytes t.signature_string;
  backtrace = string_bytes t.backtrace;
  message2 = string_bytes t.message2;
}

-- the texts of a record, whatever its version
abbrev pub texts_of : Texts → MacTexts
texts_of t = record {
  module_path = string_bytes t.module_path;
  message = string_bytes t.message;
  signature_string = string_bytes t.signature_string;
  backtrace = string_bytes t.backtrace;
  message2 = string_bytes t.message2;
}

-- the record of a `RawMacCrashInfo`
abbrev pub mac_record_of : RawMacCrashInfo → MacRecord
mac_record_of (V1 raw texts) = v1 raw
mac_record_of (V4 raw texts) = v4 raw (texts_4 texts)
mac_record_of (V5 raw texts) = v5 raw (texts_5 texts)

-- ---- its fields: a number that is 0, and an empty text, are absent

-- a number, or none where it is 0
abbrev pub if_nonzero : ℕ → Option ℕ
if_nonzero n = if n == 0 then None else Some n

-- version: that of the record (Apple's crashreporter_annotations_t)
abbrev pub version : MacRecord → Option ℕ
version (v1 raw) = if_nonzero raw.version
version (v4 raw texts) = if_nonzero raw.version
version (v5 raw texts) = if_nonzero raw.version

-- thread, from version 4 on (Apple's crashreporter_annotations_t)
abbrev pub thread : MacRecord → Option ℕ
thread (v1 raw) = None
thread (v4 raw texts) = if_nonzero raw.thread
thread (v5 raw texts) = if_nonzero raw.thread

-- dialog_mode, from version 4 on (Apple's crashreporter_annotations_t)
abbrev pub dialog_mode : MacRecord → Option ℕ
dialog_mode (v1 raw) = None
dialog_mode (v4 raw texts) = if_nonzero raw.dialog_mode
dialog_mode (v5 raw texts) = if_nonzero raw.dialog_mode

-- abort_cause, from version 5 on (Apple's crashreporter_annotations_t)
abbrev pub abort_cause : MacRecord → Option ℕ
abort_cause (v1 raw) = None
abort_cause (v4 raw texts) = None
abort_cause (v5 raw texts) = if_nonzero raw.abort_cause

-- a text of version 4 and above
abbrev pub text_of : (MacTexts → List ℕ) → MacRecord → Option (List ℕ)
text_of field (v1 raw) = None
text_of field (v4 raw texts) = unless_empty (field texts)
text_of field (v5 raw texts) = unless_empty (field texts)

-- ---- its bytes

-- the text at an offset in the bytes of a record, up to its NUL, which they have to contain, too
abbrev pub text_at : ℕ → List ℕ → Result (List ℕ) Error
text_at offset bytes = ok_or (cstring offset bytes) StreamReadFailure

-- the offset after the text at an offset and its NUL
abbrev pub end_of_text : ℕ → List ℕ → ℕ
end_of_text offset text = offset + length text + 1

-- the five texts: the first is at an offset, and each other one comes after the text before it
unfoldable pub texts_in : ℕ → List ℕ → Result MacTexts Error
texts_in first bytes =
    and_then (text_at first bytes) (λ module_path. let second = end_of_text first module_path in
    and_then (text_at second bytes) (λ message. let third = end_of_text second message in
    and_then (text_at third bytes) (λ signature. let fourth = end_of_text third signature in
    and_then (text_at fourth bytes) (λ backtrace. let fifth = end_of_text fourth backtrace in
    and_then (text_at fifth bytes) (λ message2. Ok (record {
      module_path = module_path;
      message = message;
      signature_string = signature;
      backtrace = backtrace;
      message2 = message2;
    }))))))

-- the fixed part, which has to end where the texts begin, or before; bytes between the two are not
-- read
unfoldable pub fixed_part : {R : Type 0} → Layout R → Endian → ℕ → List ℕ → Result R Error
fixed_part layout order start bytes =
    if nat_lt start layout.size
    then Err StreamReadFailure
    else ok_or (record_at layout order 0 bytes) StreamReadFailure

-- the record of a head, by its version, where the texts begin at `start`; none for version 0.
-- Versions 1 to 3 have no texts: there `start` may lie after the record
abbrev pub by_version : Endian → ℕ → MINIDUMP_MAC_CRASH_INFO_RECORD → List ℕ
    → Result (Option MacRecord) Error
by_version order start head bytes =
    if head.version == 0 then Ok None else (
    if nat_lt head.version 4 then
    (if nat_lt start 16 then Err StreamReadFailure else Ok (Some (v1 head))) else (
    if head.version == 4
    then and_then (fixed_part mac_record_4 order start bytes)
    (λ raw. and_then (texts_in start bytes) (λ texts. Ok (Some (v4 raw texts))))
    else and_then (fixed_part mac_record_5 order start bytes)
    (λ raw. and_then (texts_in start bytes) (λ texts. Ok (Some (v5 raw texts))))))

-- the record is of a version that has texts
abbrev pub HasTexts : MacRecord → Type 0
HasTexts (v1 raw) = ⊥
HasTexts (v4 raw texts) = ⊤
HasTexts (v5 raw texts) = ⊤

-- the fewest reads of a record after its head: from version 4 on the fixed part and five texts
abbrev pub record_reads : MacRecord → ℕ
record_reads (v1 raw) = 0
record_reads (v4 raw texts) = 6
record_reads (v5 raw texts) = 6

-- the fewest reads after the head, none for a record of version 0
abbrev pub item_reads : Option MacRecord → ℕ
item_reads None = 0
item_reads (Some r) = record_reads r
