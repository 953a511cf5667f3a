-- A directory of no entries has none, wherever it begins.
use Rattle.std.proofs.Common.{◌≡◌, ℕ, arith, List, refl}
use Rattle.minidump_bytes.specs.declared.endian.Endian.{Endian}
use Rattle.minidump_bytes.specs.Entries.{entries}
use Rattle.minidump_bytes.specs.Source.{bytes_of}
use Rattle.minidump_format.specs.Header.{directory_entry}
use Rattle.minidump.proofs.dump.Minidump.all_entries.Goals as goal

none_anywhere : (order : Endian) (file : List ℕ) (a b n : ℕ) → n ≡ 0 → entries directory_entry order file a n ≡ entries directory_entry order file b n
unfolding entries
none_anywhere order file a b n none = rw none refl

pub returns-clause-entries : goal.returns-clause-entries
returns-clause-entries c =
    let dump = c.args.self.now in
    grind (arith, none_anywhere dump.endian (bytes_of dump.source) c.if-count-eq0.start dump.header.stream_directory_rva dump.header.stream_count)
