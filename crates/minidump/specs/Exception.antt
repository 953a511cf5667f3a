-- The exception of a minidump: Microsoft's MINIDUMP_EXCEPTION_STREAM, with the address of the
-- crash.
use Rattle.std.specs.Prelude.{ℕ, ◌%◌, ◌^◌, ◌==◌, ◌||◌, ◌&&◌, nat_le, Bool, false, List, [], ◌∷◌, ◌++◌}
use Rattle.std.specs.Prelude.{slice_index, Option, Some, None, Result, Ok}
use Rattle.std.specs.Prelude.{codes, if◌then◌else◌, min, take}
use Rattle.std.specs.Fmt.{decimal}
use Rattle.std.specs.List.{concat, enumerate_from, flat_map}
use Rattle.std.specs.Option.{ok_or, option_copied}
use Rattle.minidump_bytes.specs.Piece.{hex, right}
use Rattle.minidump_bytes.specs.declared.endian.Endian.{Endian}
use Rattle.minidump_bytes.specs.Span.{record_at}
use Rattle.minidump_format.specs.declared.format.stream_type.MINIDUMP_STREAM_TYPE.TheVariants.{ExceptionStream}
use Rattle.minidump_format.specs.declared.error.Error.{Error}
use Rattle.minidump_format.specs.declared.error.Error.TheVariants.{StreamReadFailure}
use Rattle.minidump_format.specs.declared.format.exception.MINIDUMP_EXCEPTION.{MINIDUMP_EXCEPTION}
use Rattle.minidump_format.specs.declared.format.exception.MINIDUMP_EXCEPTION_STREAM.{MINIDUMP_EXCEPTION_STREAM}
use Rattle.minidump_format.specs.Exception.{exception_layout}
use Rattle.minidump_format.specs.declared.format.header.MINIDUMP_LOCATION_DESCRIPTOR.{MINIDUMP_LOCATION_DESCRIPTOR}
use Rattle.minidump_format.specs.Header.{located}
use Rattle.minidump_format.specs.StreamType.{number_of}
use Rattle.minidump_format.specs.Text.{line_end}
use Rattle.minidump_system.specs.StreamSpec.{StreamSpec}
use Rattle.minidump_system.specs.declared.cpu.Cpu.{Cpu}
use Rattle.minidump_system.specs.declared.cpu.PointerWidth.{PointerWidth}
use Rattle.minidump_system.specs.declared.cpu.PointerWidth.TheVariants.{Bits32}
use Rattle.minidump_system.specs.declared.os.Os.{Os}
use Rattle.minidump_system.specs.declared.os.Os.TheVariants.{Windows}
use Rattle.minidump_system.specs.Cpu.{width_of}
use Rattle.minidump_system.specs.Reads.{and_then}
use Rattle.minidump_system.specs.System.{System}
use Rattle.minidump_context.specs.declared.raw_context.MinidumpRawContext.{MinidumpRawContext}
use Rattle.minidump_context.specs.Text.{context_text}
use Rattle.minidump.specs.declared.exception.MinidumpException.{MinidumpException}
use Rattle.minidump.specs.Thread.{known_context}

-- an exception: its record, the id of its thread, the bytes of that thread's context, and their
-- byte order
pub record Exception : Type 0 where
  pub raw : MINIDUMP_EXCEPTION_STREAM
  pub thread_id : ℕ
  pub context : Option (List ℕ)
  pub order : Endian

-- the exception of a `MinidumpException`, as its fields have it
abbrev pub exception_of : MinidumpException → Exception
exception_of e = record { raw = e.raw; thread_id = e.thread_id; context = option_copied e.context; order = e.endian }

-- the exception of a record: a context whose bytes are not in the file is absent
abbrev pub exception_at : Endian → List ℕ → MINIDUMP_EXCEPTION_STREAM → Exception
exception_at order file raw = record {
  raw = raw;
  thread_id = raw.thread_id;
  context = located file raw.thread_context;
  order = order;
}

-- Microsoft's MINIDUMP_EXCEPTION_STREAM: one record
abbrev pub exception_in : Endian → List ℕ → List ℕ → Result Exception Error
exception_in order file bytes =
    and_then (ok_or (record_at exception_layout order 0 bytes) StreamReadFailure)
    (λ raw. Ok (exception_at order file raw))

-- whether the second parameter is the address that was accessed: on Windows, of winnt.h's
-- EXCEPTION_ACCESS_VIOLATION and EXCEPTION_IN_PAGE_ERROR. Any number of parameters from two on has
-- a second one, also one above 15
abbrev has_address : Os → MINIDUMP_EXCEPTION → Bool
has_address Windows r =
    (r.exception_code == 0xc0000005 || r.exception_code == 0xc0000006)
    && nat_le 2 r.number_parameters
has_address _ r = false

-- an address in as many bits as a pointer has, and whole where that is unknown
abbrev as_wide : PointerWidth → ℕ → ℕ
as_wide Bits32 address = address % 2 ^ 32
as_wide _ address = address

-- the address of a crash: the one that was accessed, else the one at which the exception happened
abbrev pub crash_address : Os → Cpu → MINIDUMP_EXCEPTION → ℕ
crash_address os cpu r =
    as_wide (width_of cpu)
    (if has_address os r then slice_index r.exception_information 1 else r.exception_address)

-- the stream of type ExceptionStream
abbrev pub exception_stream : StreamSpec MinidumpException Exception
exception_stream = record {
  stream_type = number_of ExceptionStream;
  value = exception_of;
  meaning = λ order file bytes system. exception_in order file bytes;
  most = λ n. 2;
  fewest = λ order bytes system exception. 2;
  memory = λ order file bytes system. ⊥;
}

-- the printed text, line by line: the numbers of the record
unfoldable pub exception_head : ℕ → MINIDUMP_EXCEPTION → List ℕ
exception_head thread_id r = concat (
    codes "MINIDUMP_EXCEPTION\n"
    ∷ codes "  thread_id                                  = " ∷ hex thread_id ∷ codes "\n"
    ∷ codes "  exception_record.exception_code            = " ∷ hex r.exception_code ∷ codes "\n"
    ∷ codes "  exception_record.exception_flags           = " ∷ hex r.exception_flags ∷ codes "\n"
    ∷ codes "  exception_record.exception_record          = " ∷ hex r.exception_record ∷ codes "\n"
    ∷ codes "  exception_record.exception_address         = " ∷ hex r.exception_address ∷ codes "\n"
    ∷ codes "  exception_record.number_parameters         = " ∷ decimal r.number_parameters ∷ codes "\n"
    ∷ [])

-- one of the parameters, of which there are at most 15 whatever their number says
unfoldable pub parameter_line : ℕ → ℕ → List ℕ
parameter_line index value =
    concat (codes "  exception_record.exception_information[" ∷ right 2 (decimal index)
    ∷ codes "] = " ∷ hex value ∷ codes "\n" ∷ [])

-- a line for each of the exception's parameters: NumberParameters of them, at most 15
unfoldable pub parameter_lines : MINIDUMP_EXCEPTION → List ℕ
parameter_lines r =
    flat_map (λ p. parameter_line p.0 p.1)
    (enumerate_from 0 (take (min r.number_parameters 15) r.exception_information))

-- the location of the context
unfoldable pub location_lines : MINIDUMP_LOCATION_DESCRIPTOR → List ℕ
location_lines l = concat (
    codes "  thread_context.data_size                   = " ∷ decimal l.data_size ∷ codes "\n"
    ∷ codes "  thread_context.rva                         = " ∷ hex l.rva ∷ codes "\n"
    ∷ [])

-- what is printed instead of an absent context
unfoldable pub no_exception_context : List ℕ
no_exception_context = codes "  (no context)\n\n    "

-- an empty line and the text of the context of an exception; without a context the text ends with
-- four spaces and no line feed
abbrev pub exception_context_text : Option MinidumpRawContext → List ℕ
exception_context_text (Some c) = line_end ++ context_text c
exception_context_text None = no_exception_context

-- the text of an exception with such a context
abbrev pub exception_with : Exception → Option MinidumpRawContext → List ℕ
exception_with e context =
    exception_head e.thread_id e.raw.exception_record
    ++ (parameter_lines e.raw.exception_record
    ++ (location_lines e.raw.thread_context ++ exception_context_text context))

-- the printed text of an exception
abbrev pub exception_text : Option System → Exception → List ℕ
exception_text system e = exception_with e (known_context system e.order e.context)
