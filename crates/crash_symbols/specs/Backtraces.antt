-- The backtraces of a crash by its symbol files, and the modules whose symbol files are wanted.
use Rattle.std.specs.Prelude.{ℕ, ◌==◌, ◌&&◌, Bool, false, true, List, filter, length, map, Option}
use Rattle.std.specs.List.{list_any, range_with_len}
use Rattle.std.specs.Option.{option_map, option_map_or}
use Rattle.symbol_walk.specs.Walk.{symbol_walk_in}
use Rattle.crash.specs.Crash.{CrashValue, walked_in}
use Rattle.crash_threads.specs.declared.frames.CrashFrame.{CrashFrame}
use Rattle.crash_threads.specs.Frames.{CrashWalkValue, all_frames, crash_walk_of, walk_on}
use Rattle.crash_symbols.specs.declared.backtraces.Backtraces.{Backtraces}
use Rattle.crash_symbols.specs.declared.symbols.SymbolState.{SymbolState}
use Rattle.crash_symbols.specs.declared.symbols.SymbolState.TheVariants.{Unwanted}
use Rattle.crash_symbols.specs.Symbols.{KnownSymbols, state_at}

-- the backtraces of a `Backtraces`
abbrev pub backtraces_of : Backtraces → List (Option CrashWalkValue)
backtraces_of b = map (option_map crash_walk_of) b.threads.items

-- ---- the backtraces of a crash

-- the backtrace of a thread, with at most so many candidates: the walk by symbols, with the module
-- of each frame; none where it has no walk
unfoldable pub backtrace_in : CrashValue → KnownSymbols → ℕ → ℕ → Option CrashWalkValue
backtrace_in c s scan thread =
    option_map (λ w. walk_on w.0 (symbol_walk_in w.0 s.files w.1 scan)) (walked_in c thread)

-- those of all threads
abbrev pub backtraces_in : CrashValue → KnownSymbols → ℕ → List (Option CrashWalkValue)
backtraces_in c s scan =
    map (backtrace_in c s scan) (range_with_len 0 (length c.threads.threads))

-- ---- the modules whose symbol files are wanted

-- a frame lies in the module of an index
abbrev pub lies_in : ℕ → CrashFrame → Bool
lies_in index f = option_map_or (λ place. place.0 == index) f.«module» false

-- a frame or a candidate of a thread does, if the thread has a backtrace
abbrev pub visits : ℕ → Option CrashWalkValue → Bool
visits index thread = option_map_or (λ w. list_any (lies_in index) (all_frames w)) thread false

-- nothing is known of a symbol file
abbrev pub is_unwanted : SymbolState → Bool
is_unwanted Unwanted = true
is_unwanted _ = false

-- the symbol file of the module of an index is wanted: nothing is known of it, and a frame or a
-- candidate lies in the module
abbrev pub is_wanted : List (Option CrashWalkValue) → List SymbolState → ℕ → Bool
is_wanted threads states index =
    is_unwanted (state_at states index) && list_any (visits index) threads

-- the indices of the modules, of so many, whose symbol files are wanted
abbrev pub wanted_in : List (Option CrashWalkValue) → List SymbolState → ℕ → List ℕ
wanted_in threads states count = filter (is_wanted threads states) (range_with_len 0 count)
