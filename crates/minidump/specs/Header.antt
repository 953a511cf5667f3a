-- Which bytes begin with the header of a minidump, in which byte order, and the errors of all
-- others.
use Rattle.std.specs.Prelude.{ℕ, ◌%◌, ◌^◌, List, length, slice_range, Option, Some, None, Result, Ok, Err}
use Rattle.std.specs.Prelude.{nat_lt, ◌==◌, if◌then◌else◌}
use Rattle.minidump_bytes.specs.declared.endian.Endian.{Endian}
use Rattle.minidump_bytes.specs.declared.endian.Endian.TheVariants.{Little, Big}
use Rattle.minidump_format.specs.declared.error.Error.{Error}
use Rattle.minidump_format.specs.declared.error.Error.TheVariants.{MissingHeader, HeaderMismatch, VersionMismatch}
use Rattle.minidump_format.specs.declared.format.header.MINIDUMP_HEADER.{MINIDUMP_HEADER}
use Rattle.minidump_format.specs.Header.{header}

-- the first 32 bytes, as a header of a byte order
abbrev pub header_in : Endian → List ℕ → MINIDUMP_HEADER
header_in order bytes = header.value order (slice_range bytes 0 32)

-- the byte order in which the file begins with the signature: 4d 44 4d 50 is little, 50 4d 44 4d is
-- big
abbrev pub order_of : List ℕ → Option Endian
order_of bytes =
    if (header_in Little bytes).signature == 0x504d444d then Some Little else (
    if (header_in Big bytes).signature == 0x504d444d then Some Big else None)

-- the low 16 bits of the version are those of a minidump. The high half is the writer's own
abbrev with_version : Endian → MINIDUMP_HEADER → Result (Endian × MINIDUMP_HEADER) Error
with_version order h = if h.version % 2 ^ 16 == 0xa793 then Ok (order, h) else Err VersionMismatch

-- the header in a byte order, or the error where the signature is that of neither order
abbrev in_order : List ℕ → Option Endian → Result (Endian × MINIDUMP_HEADER) Error
in_order bytes None = Err HeaderMismatch
in_order bytes (Some order) = with_version order (header_in order bytes)

-- the byte order and the header, or the first error: too few bytes, a signature in neither byte
-- order, another version
abbrev pub header_of : List ℕ → Result (Endian × MINIDUMP_HEADER) Error
header_of bytes = if nat_lt (length bytes) 32 then Err MissingHeader else in_order bytes (order_of bytes)
