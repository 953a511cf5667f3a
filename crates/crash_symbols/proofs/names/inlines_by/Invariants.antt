-- The line and the calls so far, with what the calls that are left add, are all.
use Rattle.std.proofs.Common.{◌≡◌, ◌++◌, map, reverse, vec_len}
use Rattle.std.specs.Option.{option_map}
use Rattle.breakpad_symbols.specs.SymbolFile.{symbols_of}
use Rattle.crash_symbols.specs.NameParts.{call_of, source_of}
use Rattle.crash_symbols.specs.Names.{inlines_by, line_around}
use Rattle.crash_symbols.proofs.names.inlines_by.Given as goal

abbrev pub invariant-loop-call : goal.invariant-loop-call
invariant-loop-call l = record {
  line : line_around (symbols_of l.file) (option_map source_of l.line) (reverse l.calls.items)
      ≡ line_around (symbols_of l.file) (option_map source_of l.innermost) (reverse l.fn.calls.items);
  inlines : map call_of l.inlines.items ++ inlines_by (symbols_of l.file) (option_map source_of l.line) (reverse l.calls.items)
      ≡ inlines_by (symbols_of l.file) (option_map source_of l.innermost) (reverse l.fn.calls.items);
}

abbrev pub decreases-loop-call : goal.decreases-loop-call
decreases-loop-call l = vec_len l.calls
