-- A vendor's own stream, of type 0x11223344, which has no name: the number of a program's build,
-- the time at which it was made, and its name.
use Rattle.std.specs.Prelude.{ℕ, List, Option, Result, Ok, IsSomeAnd, string_bytes}
use Rattle.std.specs.Option.{ok_or}
use Rattle.minidump.specs.declared.Endian.{Endian}
use Rattle.minidump.specs.declared.Error.{Error}
use Rattle.minidump.specs.declared.Error.TheVariants.{DataError, StreamReadFailure}
use Rattle.minidump.specs.Below.Bytes.Layout.{Layout}
use Rattle.minidump.specs.Below.Bytes.Number.{number_at}
use Rattle.minidump.specs.Below.Bytes.Span.{record_at}
use Rattle.minidump.specs.Below.Bytes.Text16.{TakesMemory16, text16}
use Rattle.minidump.specs.Below.System.Reads.{and_then}
use Rattle.minidump.specs.Below.System.StreamSpec.{StreamSpec}
use Rattle.minidump.specs.Dump.{dump_in, stream_of}
use Rattle.examples.specs.declared.own_stream.Build.{Build}
use Rattle.examples.specs.declared.own_stream.RawBuild.{RawBuild}

-- a build as a value: its name in UTF-8
pub record BuildValue : Type 0 where
  pub number : ℕ
  pub time : ℕ
  pub name : List ℕ

-- the build of a `Build`
abbrev pub build_of : Build → BuildValue
build_of b = record { number = b.number; time = b.time; name = string_bytes b.name }

-- the record: three numbers of 32 bits
abbrev pub raw_build : Layout RawBuild
raw_build = record {
  size = 12;
  value = λ order bytes. record {
    number = number_at order 4 0 bytes;
    time = number_at order 4 4 bytes;
    name_rva = number_at order 4 8 bytes;
  };
}

-- the record of a stream
abbrev pub build_record : Endian → List ℕ → Option RawBuild
build_record order bytes = record_at raw_build order 0 bytes

-- the build of a stream: its record, and the MINIDUMP_STRING at the RVA of the record
abbrev pub build_in : Endian → List ℕ → List ℕ → Result BuildValue Error
build_in order file bytes =
    and_then (ok_or (build_record order bytes) StreamReadFailure) (λ raw.
    and_then (ok_or (text16 order raw.name_rva file) DataError) (λ name.
    Ok (record { number = raw.number; time = raw.time; name = name })))

-- the table of the type
abbrev pub build_stream : StreamSpec Build BuildValue
build_stream = record {
  stream_type = 0x11223344;
  value = build_of;
  meaning = λ order file bytes system. build_in order file bytes;
  most = λ n. 2;
  fewest = λ order bytes system build. 2;
  memory = λ order file bytes system. IsSomeAnd (build_record order bytes)
      (λ raw. TakesMemory16 order raw.name_rva file);
}

-- the build that a file tells of, or the error of the file or of its stream
abbrev pub build_of_file : List ℕ → Result BuildValue Error
build_of_file file = and_then (dump_in file) (λ dump. stream_of build_stream dump)
