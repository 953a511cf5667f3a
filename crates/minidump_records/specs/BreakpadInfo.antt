-- Which threads wrote a dump and asked for it: Breakpad's MDRawBreakpadInfo.
use Rattle.std.specs.Prelude.{ℕ, ◌==◌, List, [], ◌∷◌, codes, Option, Some, None, Result, Ok, bit_and, if◌then◌else◌}
use Rattle.std.specs.List.{concat}
use Rattle.std.specs.Option.{ok_or}
use Rattle.minidump_bytes.specs.declared.endian.Endian.{Endian}
use Rattle.minidump_bytes.specs.Piece.{hex, or_invalid}
use Rattle.minidump_bytes.specs.Span.{record_at}
use Rattle.minidump_format.specs.declared.format.stream_type.MINIDUMP_STREAM_TYPE.TheVariants.{BreakpadInfoStream}
use Rattle.minidump_format.specs.declared.error.Error.{Error}
use Rattle.minidump_format.specs.declared.error.Error.TheVariants.{StreamReadFailure}
use Rattle.minidump_format.specs.declared.format.breakpad.MINIDUMP_BREAKPAD_INFO.{MINIDUMP_BREAKPAD_INFO}
use Rattle.minidump_format.specs.declared.format.breakpad.TheConstants.BreakpadInfoValid.{DumpThreadId}
use Rattle.minidump_format.specs.declared.format.breakpad.TheConstants.BreakpadInfoValid.{RequestingThreadId}
use Rattle.minidump_format.specs.Breakpad.{breakpad_info}
use Rattle.minidump_format.specs.StreamType.{number_of}
use Rattle.minidump_system.specs.StreamSpec.{StreamSpec}
use Rattle.minidump_system.specs.Reads.{and_then}
use Rattle.minidump_records.specs.declared.breakpad_info.MinidumpBreakpadInfo.{MinidumpBreakpadInfo}

-- a field, where its flag is set; other bits are ignored
abbrev pub where_valid : ℕ → ℕ → ℕ → Option ℕ
where_valid validity flag id = if bit_and validity flag == flag then Some id else None

-- the record with the ids whose flags are set
abbrev pub breakpad_in : MINIDUMP_BREAKPAD_INFO → MinidumpBreakpadInfo
breakpad_in raw = record {
  raw = raw;
  dump_thread_id = where_valid raw.validity DumpThreadId.0 raw.dump_thread_id;
  requesting_thread_id = where_valid raw.validity RequestingThreadId.0 raw.requesting_thread_id;
}

-- Breakpad's MDRawBreakpadInfo: a record
abbrev pub breakpad_info_in : Endian → List ℕ → Result MinidumpBreakpadInfo Error
breakpad_info_in order bytes =
    and_then (ok_or (record_at breakpad_info order 0 bytes) StreamReadFailure)
    (λ raw. Ok (breakpad_in raw))

-- the stream of type BreakpadInfoStream
abbrev pub breakpad_info_stream : StreamSpec MinidumpBreakpadInfo MinidumpBreakpadInfo
breakpad_info_stream = record {
  stream_type = number_of BreakpadInfoStream;
  value = λ info. info;
  meaning = λ order file bytes system. breakpad_info_in order bytes;
  most = λ n. 1;
  fewest = λ order bytes system info. 1;
  memory = λ order file bytes system. ⊥;
}

-- the printed text
unfoldable pub breakpad_info_text : MinidumpBreakpadInfo → List ℕ
breakpad_info_text info = concat (
    codes "MINIDUMP_BREAKPAD_INFO\n"
    ∷ codes "  validity             = " ∷ hex info.raw.validity ∷ codes "\n"
    ∷ codes "  dump_thread_id       = " ∷ or_invalid hex info.dump_thread_id ∷ codes "\n"
    ∷ codes "  requesting_thread_id = " ∷ or_invalid hex info.requesting_thread_id ∷ codes "\n"
    ∷ codes "\n"
    ∷ [])
