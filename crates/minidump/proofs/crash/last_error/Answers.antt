-- The last error of the thread that was found.
use Rattle.std.proofs.Common.{rules, ◌≡◌, refl, sym}
use Rattle.std.specs.Prelude.{Some}
use Rattle.std.specs.Option.{option_map}
use Rattle.std.specs.Result.{result_ok}
use Rattle.minidump_memory.specs.Unified.{unified_list}
use Rattle.minidump.specs.Dump.{stream_of}
use Rattle.minidump.specs.DumpValue.{dump_of}
use Rattle.minidump.specs.Memory.{memories_of_dump}
use Rattle.minidump.specs.Promise.{thread_list_stream}
use Rattle.minidump.specs.Thread.{thread_list_of, thread_of}
use Rattle.minidump.proofs.CrashLemmas.{thread_error}
use Rattle.minidump.proofs.SharedLemmas.{found_stream}
use Rattle.minidump.proofs.crash.last_error.Goals as goal

pub returns-in_default-get_thread : goal.returns-in_default-get_thread
returns-in_default-get_thread c =
    let listed = sym (found_stream thread_list_stream (dump_of c.args.dump.now) c.args.streams.now.threads (Some c.in-Some.list.now) c.requires.threads
    (rw c.in-Some.is at c.in_ok-list.ensures)) in
    rw (listed, ← c.get_thread.ensures.answer) (search rules)

pub returns-in_default-2 : goal.returns-in_default-2
returns-in_default-2 c =
    let d = dump_of c.args.dump.now in
    let listed = sym (found_stream thread_list_stream d c.args.streams.now.threads (Some c.in-Some.list.now) c.requires.threads
    (rw c.in-Some.is at c.in_ok-list.ensures)) in
    let held = c.in_ok-memory.ensures d c.requires in
    rw (listed, ← c.get_thread.ensures.answer, c.in-Some-get_thread.is, ← held) (search rules)

pub returns : goal.returns
returns c =
    let d = dump_of c.args.dump.now in
    let listed = sym (found_stream thread_list_stream d c.args.streams.now.threads (Some c.in-Some.list.now) c.requires.threads
    (rw c.in-Some.is at c.in_ok-list.ensures)) in
    let held : option_map unified_list (Some c.in-Some-2.memory.now) ≡ memories_of_dump d =
    rw c.in-Some-2.is at c.in_ok-memory.ensures d c.requires in
    thread_error c.args.names.now c.args.cpu c.args.id (result_ok (stream_of thread_list_stream d)) (memories_of_dump d) (thread_list_of c.in-Some.list.now)
    (thread_of c.in-Some-get_thread.thread.now) (unified_list c.in-Some-2.memory.now) c.last_error.result
    listed (rw (← c.get_thread.ensures.answer, c.in-Some-get_thread.is) refl) (sym held) c.last_error.ensures.answer
