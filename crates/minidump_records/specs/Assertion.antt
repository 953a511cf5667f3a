-- An assertion that failed: Breakpad's MDRawAssertionInfo.
use Rattle.std.specs.Prelude.{ℕ, List, [], ◌∷◌, codes, Result}
use Rattle.std.specs.Fmt.{decimal}
use Rattle.std.specs.List.{concat}
use Rattle.std.specs.Option.{ok_or, unwrap_or}
use Rattle.minidump_bytes.specs.declared.endian.Endian.{Endian}
use Rattle.minidump_bytes.specs.Span.{record_at}
use Rattle.minidump_bytes.specs.Text16.{text_before_nul}
use Rattle.minidump_format.specs.declared.format.stream_type.MINIDUMP_STREAM_TYPE.TheVariants.{AssertionInfoStream}
use Rattle.minidump_format.specs.declared.error.Error.{Error}
use Rattle.minidump_format.specs.declared.error.Error.TheVariants.{StreamReadFailure}
use Rattle.minidump_format.specs.declared.format.assertion.MINIDUMP_ASSERTION_INFO.{MINIDUMP_ASSERTION_INFO}
use Rattle.minidump_format.specs.Assertion.{assertion_info}
use Rattle.minidump_format.specs.StreamType.{number_of}
use Rattle.minidump_system.specs.StreamSpec.{StreamSpec}
use Rattle.minidump_records.specs.declared.assertion.MinidumpAssertion.{MinidumpAssertion}

-- the record of a value
abbrev pub assertion_of : MinidumpAssertion → MINIDUMP_ASSERTION_INFO
assertion_of a = a.raw

-- Breakpad's MDRawAssertionInfo: a record
abbrev pub assertion_in : Endian → List ℕ → Result MINIDUMP_ASSERTION_INFO Error
assertion_in order bytes = ok_or (record_at assertion_info order 0 bytes) StreamReadFailure

-- the stream of type AssertionInfoStream
abbrev pub assertion_stream : StreamSpec MinidumpAssertion MINIDUMP_ASSERTION_INFO
assertion_stream = record {
  stream_type = number_of AssertionInfoStream;
  value = assertion_of;
  meaning = λ order file bytes system. assertion_in order bytes;
  most = λ n. 1;
  fewest = λ order bytes system info. 1;
  memory = λ order file bytes system. ⊥;
}

-- the printed text, with the three texts of the record
unfoldable pub fields_text : MINIDUMP_ASSERTION_INFO → List ℕ → List ℕ → List ℕ → List ℕ
fields_text raw expression function file = concat (
    codes "MDAssertion\n"
    ∷ codes "  expression                                 = " ∷ expression ∷ codes "\n"
    ∷ codes "  function                                   = " ∷ function ∷ codes "\n"
    ∷ codes "  file                                       = " ∷ file ∷ codes "\n"
    ∷ codes "  line                                       = " ∷ decimal raw.line ∷ codes "\n"
    ∷ codes "  type                                       = " ∷ decimal raw._type ∷ codes "\n"
    ∷ codes "\n"
    ∷ [])

-- the printed text of code units: empty if they are no text
abbrev pub text_or_empty : List ℕ → List ℕ
text_or_empty units = unwrap_or (text_before_nul units) []

-- the printed text of a MINIDUMP_ASSERTION_INFO
abbrev pub assertion_text : MINIDUMP_ASSERTION_INFO → List ℕ
assertion_text raw =
    fields_text raw (text_or_empty raw.expression) (text_or_empty raw.function)
    (text_or_empty raw.file)
