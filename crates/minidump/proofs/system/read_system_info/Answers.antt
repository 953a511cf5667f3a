-- Memory is wanted only where an entry decides.
use Rattle.std.proofs.Common.{refl}
use Rattle.minidump_bytes.specs.Source.{bytes_of}
use Rattle.minidump_format.specs.declared.format.stream_type.MINIDUMP_STREAM_TYPE.TheVariants.{SystemInfoStream}
use Rattle.minidump_format.specs.StreamType.{number_of}
use Rattle.minidump.specs.Dump.{Dump}
use Rattle.minidump.proofs.EntryLemmas.{bytes_have_entry}
use Rattle.minidump.proofs.system.read_system_info.Goals as goal

pub returns-in-Err-OutOfMemory-clause-memory : goal.returns-in-Err-OutOfMemory-clause-memory
returns-in-Err-OutOfMemory-clause-memory c =
    let dump : Dump = record { file = bytes_of c.args.source; order = c.args.endian; header = c.args.header.now } in
    let t = number_of SystemInfoStream in
    (refl, bytes_have_entry dump t (rw (← c.requires.at t) (rw c.in-Ok.ensures.means refl)))
