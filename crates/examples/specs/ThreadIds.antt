-- The ids of a minidump's threads: one for each entry of Microsoft's MINIDUMP_THREAD_LIST, in its
-- order.
use Rattle.std.specs.Prelude.{ℕ, List, Result, Ok, map}
use Rattle.minidump.specs.declared.Error.{Error}
use Rattle.minidump.specs.Below.System.Reads.{and_then}
use Rattle.minidump.specs.Dump.{dump_in, stream_of}
use Rattle.minidump.specs.Promise.{thread_list_stream}
use Rattle.minidump.specs.Thread.{Thread}

-- the ids of threads
abbrev pub ids_of : List Thread → List ℕ
ids_of threads = map (λ t. t.raw.thread_id) threads

-- the ids of the threads that the format assigns to the bytes, or the error that it assigns to them
-- or to their list of threads
abbrev pub ids_in : List ℕ → Result (List ℕ) Error
ids_in bytes = and_then (dump_in bytes)
    (λ dump. and_then (stream_of thread_list_stream dump) (λ threads. Ok (ids_of threads)))
