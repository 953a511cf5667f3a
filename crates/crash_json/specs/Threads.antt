-- Threads as JSON.
use Rattle.std.specs.Prelude.{ℕ, Bool, true, false, List, [], ◌∷◌, ◌++◌, codes, length}
use Rattle.std.specs.Prelude.{Option, if◌then◌else◌}
use Rattle.std.specs.Option.{option_and_then, option_map, option_map_or}
use Rattle.json.specs.Json.{Json, boolean, string}
use Rattle.stack_walk.specs.declared.end.WalkEnd.{WalkEnd}
use Rattle.stack_walk.specs.declared.end.WalkEnd.TheVariants as ending
use Rattle.crash_threads.specs.declared.contexts.ContextOrigin.{ContextOrigin}
use Rattle.crash_threads.specs.declared.contexts.ContextOrigin.TheVariants.{OfException, OfThread}
use Rattle.crash_threads.specs.declared.contexts.ShortContext.{ShortContext}
use Rattle.crash_threads.specs.declared.frames.CrashFrame.{CrashFrame}
use Rattle.crash_threads.specs.declared.stacks.StackRange.{StackRange}
use Rattle.crash_threads.specs.Contexts.{unaccepted_size}
use Rattle.crash_threads.specs.Threads.{ThreadValue, ThreadsValue, crashed_thread, short_context}
use Rattle.crash_threads.specs.Frames.{CrashWalkValue, all_frames}
use Rattle.crash_symbols.specs.Names.{NamedFrameValue}
use Rattle.crash_symbols.specs.Shown.{SymbolizedValue, first_frames, known_in, shown_in}
use Rattle.crash_json.specs.Tree.{count, hex_string, numbered_array_of, object_of, or_null}
use Rattle.crash_json.specs.Cause.{problem_name}
use Rattle.crash_json.specs.Frames.{frame_json}
use Rattle.crash_json.specs.ReportValue.{ReportValue}

-- a range of addresses, by the first one and how many there are
unfoldable pub range_json : StackRange → Json
range_json r = object_of ((codes "base_addr", hex_string r.base) ∷ (codes "size", count r.size) ∷ [])

-- how many bytes there are of a context that is cut, and how many a whole one has
unfoldable pub short_json : ShortContext → Json
short_json s = object_of ((codes "size", count s.size) ∷ (codes "whole", count s.whole) ∷ [])

-- the word for why the last frame has no caller
abbrev pub end_name : WalkEnd → List ℕ
end_name ending.NoMemory = codes "no_memory"
end_name ending.UnknownWidth = codes "unknown_width"
end_name ending.NoFramePointer = codes "no_frame_pointer"
end_name ending.ZeroFramePointer = codes "zero_frame_pointer"
end_name ending.BelowStackPointer = codes "below_stack_pointer"
end_name ending.NoRecord = codes "no_record"
end_name ending.NoCode = codes "no_code"
end_name ending.NoReturnRule = codes "no_return_rule"
end_name ending.ZeroReturnAddress = codes "zero_return_address"

-- what is found in a stack: the frames, and after them the candidates
abbrev pub frames_in : Option CrashWalkValue → List CrashFrame
frames_in walk = option_map_or all_frames walk []

-- the candidates among these
abbrev pub candidates_in : Option CrashWalkValue → List CrashFrame
candidates_in walk = option_map_or (λ w. w.candidates) walk []

-- the first of the frames and candidates, each with its names
abbrev pub named_frames : ℕ → Option SymbolizedValue → Option CrashWalkValue → List NamedFrameValue
named_frames limit symbols walk = option_map_or (first_frames limit (known_in symbols)) walk []

-- the index of the thread that crashed, as its first member
abbrev pub index_members : Bool → ℕ → List (List ℕ × Json)
index_members is_crashing number =
    if is_crashing then (codes "threads_index", count number) ∷ [] else []

-- the members of a thread but its frames, by what is shown of it
unfoldable pub thread_members : ThreadValue → Option CrashWalkValue → List (List ℕ × Json)
thread_members t walk =
    (codes "thread_id", count t.id)
    ∷ (codes "thread_name", or_null string t.name)
    ∷ (codes "is_listed", boolean t.is_listed)
    ∷ (codes "last_error_value", or_null string t.last_error)
    ∷ (codes "frame_count", count (length (frames_in walk)))
    ∷ (codes "candidate_count", count (length (candidates_in walk)))
    ∷ (codes "stack", or_null range_json t.stack)
    ∷ (codes "stack_memory", or_null range_json t.stack_memory)
    ∷ (codes "context_problem", or_null string (option_map problem_name t.context_problem))
    ∷ (codes "context_size", or_null count (unaccepted_size t.context_problem))
    ∷ (codes "short_context", or_null short_json (short_context t))
    ∷ (codes "end", or_null string (option_map (λ w. end_name w.end) walk))
    ∷ []

-- a thread by its index, with its first frames
abbrev pub thread_json : ReportValue → Bool → ℕ → ThreadValue → Json
thread_json r is_crashing number t = let walk = shown_in r.symbols number t in object_of (
    index_members is_crashing number ++ (thread_members t walk
    ++ ((
      codes "frames",
      numbered_array_of (frame_json r is_crashing t) (named_frames r.limits.frames r.symbols walk),
    ) ∷ [])))

-- the threads
unfoldable pub threads_json : ReportValue → Json
threads_json r = numbered_array_of (thread_json r false) r.crash.threads.threads

-- the thread that crashed
abbrev pub crashing_json : ReportValue → Json
crashing_json r = or_null (λ p. thread_json r true p.0 p.1) (crashed_thread r.crash.threads)

-- the word for whose context it is
abbrev pub origin_name : ContextOrigin → List ℕ
origin_name OfException = codes "exception"
origin_name OfThread = codes "thread"

-- the context that the registers of the thread that crashed come from
abbrev pub registers_of : ThreadsValue → Option (List ℕ)
registers_of t = option_map (λ c. origin_name c.origin)
    (option_and_then (λ p. p.1.context) (crashed_thread t))
