-- The value of a minidump, which clauses speak of: it has no addresses in memory.
use Rattle.minidump_bytes.specs.Source.{bytes_of}
use Rattle.minidump.specs.declared.dump.Minidump.{Minidump}
use Rattle.minidump.specs.Dump.{Dump}

-- the minidump of a `Minidump`, as its fields have it
abbrev pub dump_of : Minidump → Dump
dump_of d = record { file = bytes_of d.source; order = d.endian; header = d.header }
