-- The arguments of macOS's boot: Mozilla's MDRawMacBootargs.
use Rattle.std.specs.Prelude.{ℕ, List, ◌++◌, codes, length, Option, Result, Ok, nat_le, if◌then◌else◌, string_bytes}
use Rattle.std.specs.Prelude.{IsSomeAnd}
use Rattle.std.specs.Option.{ok_or, option_map, option_or}
use Rattle.minidump_bytes.specs.declared.endian.Endian.{Endian}
use Rattle.minidump_bytes.specs.Layout.{Layout}
use Rattle.minidump_bytes.specs.Number.{number_at}
use Rattle.minidump_bytes.specs.Span.{record_at}
use Rattle.minidump_bytes.specs.Text16.{text16, TakesMemory16}
use Rattle.minidump_format.specs.declared.format.stream_type.MINIDUMP_STREAM_TYPE.TheVariants.{MozMacosBootargsStream}
use Rattle.minidump_format.specs.declared.error.Error.{Error}
use Rattle.minidump_format.specs.declared.error.Error.TheVariants.{StreamReadFailure}
use Rattle.minidump_format.specs.declared.format.mac.MINIDUMP_MAC_BOOTARGS.{MINIDUMP_MAC_BOOTARGS}
use Rattle.minidump_format.specs.Mac.{mac_boot_args}
use Rattle.minidump_format.specs.StreamType.{number_of}
use Rattle.minidump_system.specs.StreamSpec.{StreamSpec}
use Rattle.minidump_system.specs.Reads.{and_then}
use Rattle.minidump_records.specs.Print.{text_or_nothing}
use Rattle.minidump_records.specs.declared.boot_args.MinidumpMacBootargs.{MinidumpMacBootargs}
use Rattle.minidump_records.specs.declared.boot_args.ShortBootArgs.{ShortBootArgs}

-- boot arguments as a value: their record and their text, in UTF-8
pub record BootArgs : Type 0 where
  pub raw : MINIDUMP_MAC_BOOTARGS
  pub text : Option (List ℕ)

-- the boot arguments of a `MinidumpMacBootargs`
abbrev pub mac_bootargs_of : MinidumpMacBootargs → BootArgs
mac_bootargs_of b = record { raw = b.raw; text = option_map string_bytes b.bootargs }

-- the short form of the record: an RVA of 32 bits
abbrev pub short_boot_args : Layout ShortBootArgs
short_boot_args = record {
  size = 8;
  value = λ order bytes. record {
    stream_type = number_at order 4 0 bytes;
    bootargs = number_at order 4 4 bytes;
  };
}

-- a record of 8 bytes as one of 12
abbrev widen : ShortBootArgs → MINIDUMP_MAC_BOOTARGS
widen short = record { stream_type = short.stream_type; bootargs = short.bootargs }

-- the record: the long form where the bytes hold it, else the short form
abbrev pub boot_args_record : Endian → List ℕ → Option MINIDUMP_MAC_BOOTARGS
boot_args_record order bytes =
    option_or (record_at mac_boot_args order 0 bytes)
    (option_map widen (record_at short_boot_args order 0 bytes))

-- Mozilla's MDRawMacBootargs: a record, and the text at its RVA, which may be none
abbrev pub mac_bootargs_in : Endian → List ℕ → List ℕ → Result BootArgs Error
mac_bootargs_in order file bytes =
    and_then (ok_or (boot_args_record order bytes) StreamReadFailure)
    (λ raw. Ok (record { raw = raw; text = text16 order raw.bootargs file }))

-- the reads: the long form, then the short form where the long one isn't there, and the text
abbrev pub boot_args_reads : List ℕ → ℕ
boot_args_reads bytes = if nat_le 12 (length bytes) then 2 else 3

-- the stream of type MozMacosBootargsStream. It takes memory where the text at its RVA does
abbrev pub mac_bootargs_stream : StreamSpec MinidumpMacBootargs BootArgs
mac_bootargs_stream = record {
  stream_type = number_of MozMacosBootargsStream;
  value = mac_bootargs_of;
  meaning = λ order file bytes system. mac_bootargs_in order file bytes;
  most = λ n. 3;
  fewest = λ order bytes system args. boot_args_reads bytes;
  memory =
      λ order file bytes system. IsSomeAnd (boot_args_record order bytes)
      (λ raw. TakesMemory16 order raw.bootargs file);
}

-- the arguments after their label, or nothing where there are none; then an empty line
abbrev pub mac_bootargs_text : BootArgs → List ℕ
mac_bootargs_text b = codes "mac_boot_args = " ++ (text_or_nothing b.text ++ codes "\n\n")
