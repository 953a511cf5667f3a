-- The threads of the list so far.
use Rattle.std.proofs.Common.{◌≡◌, map, take}
use Rattle.std.specs.Option.{option_copied, option_map}
use Rattle.minidump.specs.Promise.{exception_stream}
use Rattle.minidump.specs.Thread.{thread_of}
use Rattle.crash_streams.specs.Contents.{contents_of}
use Rattle.crash_threads.specs.Threads.{thread_in, thread_value}
use Rattle.crash_threads.proofs.threads.all_threads.Given as goal

abbrev pub invariant-loop-item : goal.invariant-loop-item
invariant-loop-item l = map thread_value l.threads.items
    ≡ map (thread_in l.names l.scan (contents_of l.contents) l.code_bits (option_map exception_stream.value (option_copied l.exception)))
    (map thread_of (take l.item-index l.entries))
