-- The exceptions of a minidump: the streams of all entries of type ExceptionStream.
use Rattle.std.specs.Prelude.{◌==◌, List, Result, filter, map}
use Rattle.minidump_format.specs.declared.error.Error.{Error}
use Rattle.minidump_format.specs.declared.format.header.MINIDUMP_DIRECTORY.{MINIDUMP_DIRECTORY}
use Rattle.minidump_format.specs.Header.{located}
use Rattle.minidump_system.specs.Reads.{and_then}
use Rattle.minidump.specs.Dump.{Dump, all_entries, bytes_of_span, dump_system}
use Rattle.minidump.specs.Exception.{Exception, exception_stream}

-- the exception of an entry of the directory, or its error
abbrev pub exception_of_entry : Dump → MINIDUMP_DIRECTORY → Result Exception Error
exception_of_entry d e =
    and_then (bytes_of_span (located d.file e.location))
    (λ bytes. exception_stream.meaning d.order d.file bytes (dump_system d))

-- those of the entries that have the type
abbrev pub exceptions_among : Dump → List MINIDUMP_DIRECTORY → List (Result Exception Error)
exceptions_among d es =
    map (exception_of_entry d) (filter (λ e. e.stream_type == exception_stream.stream_type) es)

-- all exceptions, in the order of the directory
abbrev pub exceptions_in : Dump → List (Result Exception Error)
exceptions_in d = exceptions_among d (all_entries d)
