-- What is shown of threads: their backtraces by symbols, or without symbols their walks.
use Rattle.std.specs.Prelude.{ℕ, List, map, Option, Some, None, slice_get, take}
use Rattle.std.specs.Option.{option_and_then, option_map}
use Rattle.crash_threads.specs.Frames.{CrashWalkValue, all_frames}
use Rattle.crash_threads.specs.Threads.{ThreadValue}
use Rattle.crash_symbols.specs.declared.backtraces.Symbolized.{Symbolized}
use Rattle.crash_symbols.specs.Backtraces.{backtraces_of}
use Rattle.crash_symbols.specs.Names.{NamedFrameValue, named_in}
use Rattle.crash_symbols.specs.Symbols.{KnownSymbols, files_of, known_of}

-- what is known of the symbol files of the modules, and the backtraces of the threads
pub record SymbolizedValue : Type 0 where
  pub known : KnownSymbols
  pub threads : List (Option CrashWalkValue)

-- the same of a `Symbolized`
abbrev pub symbolized_of : Symbolized → SymbolizedValue
symbolized_of s = record { known = known_of s.symbols.now; threads = backtraces_of s.backtraces.now }

-- what is known of the symbol files, where there are symbols
abbrev pub known_in : Option SymbolizedValue → Option KnownSymbols
known_in symbols = option_map (λ s. s.known) symbols

-- what is shown of the thread of an index: its backtrace, and without symbols its walk
abbrev pub shown_in : Option SymbolizedValue → ℕ → ThreadValue → Option CrashWalkValue
shown_in (Some s) number t = option_and_then (λ w. w) (slice_get s.threads number)
shown_in None number t = t.walk

-- the first frames of a walk, with the candidates after them, each with its names
abbrev pub first_frames : ℕ → Option KnownSymbols → CrashWalkValue → List NamedFrameValue
first_frames limit symbols w = map (named_in (files_of symbols)) (take limit (all_frames w))
