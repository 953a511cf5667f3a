-- The calls so far.
use Rattle.std.proofs.Common.{◌≡◌, ◌++◌, Some, map, take}
use Rattle.crash_symbols.specs.NameParts.{call_of, named_of}
use Rattle.crash_text.specs.Threads.{entry_of}
use Rattle.crash_text.proofs.threads.push_calls.Given as goal

abbrev pub invariant-loop-call : goal.invariant-loop-call
invariant-loop-call l = map entry_of l.entries.items
    ≡ map entry_of l.fn.entries.items ++ map (λ c. (named_of l.frame, Some c)) (map call_of (take l.call-index l.call-items))
