-- Errors that did not keep the writer of a dump from writing it: Mozilla's stream of JSON in UTF-8.
use Rattle.std.specs.Prelude.{ℕ, List, ◌++◌, codes, Result}
use Rattle.std.specs.Option.{ok_or}
use Rattle.minidump_bytes.specs.Text8.{utf8_text}
use Rattle.minidump_format.specs.declared.format.stream_type.MINIDUMP_STREAM_TYPE.TheVariants.{MozSoftErrors}
use Rattle.minidump_format.specs.declared.error.Error.{Error}
use Rattle.minidump_format.specs.declared.error.Error.TheVariants.{DataError}
use Rattle.minidump_format.specs.StreamType.{number_of}
use Rattle.minidump_system.specs.StreamSpec.{StreamSpec}
use Rattle.minidump_format.specs.Text.{line_end}
use Rattle.minidump_records.specs.declared.soft_errors.MinidumpSoftErrors.{MinidumpSoftErrors}

-- the text of a value
abbrev pub soft_errors_of : MinidumpSoftErrors → List ℕ
soft_errors_of e = e.text.now

-- the stream is one text
abbrev pub soft_errors_in : List ℕ → Result (List ℕ) Error
soft_errors_in bytes = ok_or (utf8_text bytes) DataError

-- the stream of type MozSoftErrors
abbrev pub soft_errors_stream : StreamSpec MinidumpSoftErrors (List ℕ)
soft_errors_stream = record {
  stream_type = number_of MozSoftErrors;
  value = soft_errors_of;
  meaning = λ order file bytes system. soft_errors_in bytes;
  most = λ n. 0;
  fewest = λ order bytes system text. 0;
  memory = λ order file bytes system. ⊥;
}

-- the text in a report: the name of the type on a line, and the text with a line feed after it
abbrev pub soft_errors_text : List ℕ → List ℕ
soft_errors_text text = codes "MozSoftErrors\n" ++ (text ++ line_end)
