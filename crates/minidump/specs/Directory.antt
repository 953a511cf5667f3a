-- The directory of a minidump: stream_count records MINIDUMP_DIRECTORY of 12 bytes, from
-- stream_directory_rva on.
use Rattle.std.specs.Prelude.{ℕ, ◌+◌, ◌*◌, List, length, reverse, find, map, Option, Bool, nat_le, ◌==◌, ◌||◌}
use Rattle.std.specs.List.{enumerate_from, filter_map, range_with_len}
use Rattle.minidump_bytes.specs.declared.endian.Endian.{Endian}
use Rattle.minidump_bytes.specs.Entries.{entries}
use Rattle.minidump_format.specs.declared.format.header.MINIDUMP_HEADER.{MINIDUMP_HEADER}
use Rattle.minidump_format.specs.declared.format.header.MINIDUMP_DIRECTORY.{MINIDUMP_DIRECTORY}
use Rattle.minidump_format.specs.Header.{directory_entry}
use Rattle.minidump.specs.declared.directory.DecidingEntry.{DecidingEntry}

-- its entries, in the order of the file
abbrev pub directory : Endian → List ℕ → MINIDUMP_HEADER → List MINIDUMP_DIRECTORY
directory order bytes h = entries directory_entry order bytes h.stream_directory_rva h.stream_count

-- every entry is in the file; it may lie in the header too. Where there is none, the offset of the
-- directory may be any
abbrev pub is_readable : List ℕ → MINIDUMP_HEADER → Bool
is_readable bytes h =
    h.stream_count == 0
    || nat_le (h.stream_directory_rva + directory_entry.size * h.stream_count) (length bytes)

-- the entries, each with its index
abbrev pub with_indices : List MINIDUMP_DIRECTORY → List DecidingEntry
with_indices es = map (λ p. record { index = p.0; entry = p.1 }) (enumerate_from 0 es)

-- the entry that decides a type of stream: the last that has it
abbrev pub deciding_entry : ℕ → List MINIDUMP_DIRECTORY → Option DecidingEntry
deciding_entry stream_type es = find (λ d. d.entry.stream_type == stream_type) (reverse (with_indices es))

-- the deciding entries of the types below a limit, ascending by type
unfoldable pub deciding_entries_below : ℕ → List MINIDUMP_DIRECTORY → List DecidingEntry
deciding_entries_below limit es = filter_map (λ stream_type. deciding_entry stream_type es) (range_with_len 0 limit)
