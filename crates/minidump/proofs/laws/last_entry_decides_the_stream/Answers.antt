-- The bytes are those of the last entry, and the stream is what they mean.
use Rattle.std.proofs.Common.{◌≡◌, ◌≢◌, List, ◌∷◌, ◌++◌, refl, subst}
use Rattle.std.specs.Prelude.{All, ℕ}
use Rattle.minidump_format.specs.declared.format.header.MINIDUMP_DIRECTORY.{MINIDUMP_DIRECTORY}
use Rattle.minidump_format.specs.Header.{located}
use Rattle.minidump.specs.Directory.{directory}
use Rattle.minidump.specs.Dump.{Dump, raw_stream, bytes_of_span}
use Rattle.minidump.proofs.EntryLemmas.{memory_by_bytes, stream_by_bytes}
use Rattle.minidump.proofs.LawsLemmas.{deciding_entry-last, deciding_entry-none}
use Rattle.minidump.proofs.laws.last_entry_decides_the_stream.Goals as goal

-- the bytes of a type that the last entry has
bytes_are : (t : ℕ) (d : Dump) (es later : List MINIDUMP_DIRECTORY) (e : MINIDUMP_DIRECTORY) → directory d.order d.file d.header ≡ es ++ (e ∷ later)
    → e.stream_type ≡ t → All (λ x. x.stream_type ≢ e.stream_type) later → raw_stream t d ≡ bytes_of_span (located d.file e.location)
bytes_are t d es later e is same others =
    subst (λ (n : ℕ). raw_stream n d ≡ bytes_of_span (located d.file e.location)) same (rw (is, deciding_entry-last es later e others) refl)

pub returns-clause-answer : goal.returns-clause-answer
returns-clause-answer g c d es later e is same others =
    stream_by_bytes g.S.MinidumpStream.spec d (bytes_of_span (located d.file e.location)) (bytes_are _ d es later e is same others)

pub returns-clause-memory : goal.returns-clause-memory
returns-clause-memory g c d es later e is same others =
    memory_by_bytes g.S.MinidumpStream.spec d (bytes_of_span (located d.file e.location)) (bytes_are _ d es later e is same others)

pub returns-clause-none : goal.returns-clause-none
returns-clause-none g c d others = rw (deciding_entry-none _ (directory d.order d.file d.header) others) (refl, λ h. h)
