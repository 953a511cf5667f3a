-- The exceptions so far.
use Rattle.std.proofs.Common.{◌≡◌, map, take}
use Rattle.minidump.specs.Below.Contexts.Context.{map_ok}
use Rattle.minidump.specs.Promise.{exception_stream}
use Rattle.crash_threads.specs.Cause.{exception_in, exception_of}
use Rattle.crash_streams.specs.Contents.{contents_of}
use Rattle.crash_threads.proofs.cause.cause_of.Given as goal

abbrev pub invariant-loop-item : goal.invariant-loop-item
invariant-loop-item l = map (map_ok exception_of) l.exceptions.items
    ≡ map (map_ok (exception_in l.names (contents_of l.contents)))
    (map (map_ok exception_stream.value) (take l.item-index l.contents.threads.exceptions.items))
