-- The thread of an entry, else the one after them.
use Rattle.std.proofs.Common.{◌≤◌, arith, eq-eqb, length, refl}
use Rattle.std.proofs.lemmas.Bool.{ne_eqb}
use Rattle.std.proofs.lemmas.List.{length-map}
use Rattle.std.proofs.lemmas.Option.{slice_get-map, slice_get_past, slice_get_read}
use Rattle.minidump.specs.Thread.{thread_of}
use Rattle.crash_threads.proofs.threads.walked_at.Goals as goal

pub returns-in-Some : goal.returns-in-Some
returns-in-Some c =
    let threads = c.entries_of-threads.result.now in
    let thread = c.in-Some.thread.now in
    let found = slice_get_read threads (length threads) c.args.index thread refl c.in-Some.ensures.lookup.3.0 c.in-Some.ensures.lookup.1 in
    rw (← c.entries_of-threads.ensures, slice_get-map thread_of threads c.args.index, found, ← c.exception_at-exception.ensures) c.walked_thread.ensures

pub returns-in-None : goal.returns-in-None
returns-in-None c =
    let threads = c.entries_of-threads.result.now in
    let past : length threads ≤ c.args.index = omega (arith, c.if-index-threads.true) in
    let none = slice_get_past threads c.args.index past in
    let same = eq-eqb c.args.index (length threads) c.if-index-threads.true in
    rw (
      ← c.entries_of-threads.ensures,
      slice_get-map thread_of threads c.args.index,
      none,
      length-map threads thread_of,
      same,
      ← c.exception_at-exception.ensures,
    )
    c.extra_walked.ensures

pub returns-in-None-2 : goal.returns-in-None-2
returns-in-None-2 c =
    let threads = c.entries_of-threads.result.now in
    let none = slice_get_past threads c.args.index c.in-None.ensures.lookup.3 in
    let other = ne_eqb c.args.index (length threads) c.if-index-threads.false in
    rw (← c.entries_of-threads.ensures, slice_get-map thread_of threads c.args.index, none, length-map threads thread_of, other) refl
