-- The lines of threads and of their frames, and which frames are printed.
use Rattle.std.specs.Prelude.{ℕ, ◌++◌, ◌-◌, Bool, List, [], ◌∷◌, length, map, codes}
use Rattle.std.specs.Prelude.{if◌then◌else◌, take, unwrap_or, Option, Some, None, ◌==◌, ◌&&◌, ◌||◌}
use Rattle.std.specs.Prelude.{false, true, is_none, not}
use Rattle.std.specs.Fmt.{decimal}
use Rattle.std.specs.List.{concat, enumerate_from, flat_map}
use Rattle.std.specs.Option.{option_copied, option_map, option_map_or}
use Rattle.stack_walk.specs.declared.end.WalkEnd.{WalkEnd}
use Rattle.stack_walk.specs.declared.end.WalkEnd.TheVariants as ending
use Rattle.stack_walk.specs.declared.frame.FrameTrust.{FrameTrust}
use Rattle.stack_walk.specs.declared.frame.FrameTrust.TheVariants.{Cfi, Context, FramePointer, Link}
use Rattle.stack_walk.specs.declared.frame.FrameTrust.TheVariants.{Scan}
use Rattle.minidump.specs.Below.Bytes.Piece.{hex}
use Rattle.crash_threads.specs.declared.frames.CrashFrame.{CrashFrame}
use Rattle.crash_process.specs.Modules.{LoadedValue}
use Rattle.crash_threads.specs.Frames.{CrashWalkValue, all_frames}
use Rattle.crash_symbols.specs.NameParts.{call_of, named_of}
use Rattle.crash_symbols.specs.Names.{CallValue, NamedFrameValue, SourceValue}
use Rattle.crash_symbols.specs.Shown.{first_frames, known_in, shown_in}
use Rattle.crash_threads.specs.declared.contexts.ContextProblem.{ContextProblem}
use Rattle.crash_threads.specs.declared.contexts.ContextProblem.TheVariants.{NoSystem, NotAccepted}
use Rattle.crash_threads.specs.declared.contexts.ContextProblem.TheVariants.{Outside}
use Rattle.crash_threads.specs.declared.stacks.StackRange.{StackRange}
use Rattle.crash_threads.specs.Contexts.{unaccepted_size}
use Rattle.crash_process.specs.Process.{SystemValue}
use Rattle.crash_threads.specs.Threads.{ThreadValue, crashed_thread, short_context}
use Rattle.crash_text.specs.declared.threads.FrameEntry.{FrameEntry}
use Rattle.crash_text.specs.declared.limits.TextLimits.{TextLimits}
use Rattle.crash_lines.specs.Lines.{if_some, table}
use Rattle.crash_text.specs.Page.{PageValue, if_asked}
use Rattle.crash_lines.specs.Words.{count_if, decimal_if, hex_if, hex_unless, id_words, line_text}
use Rattle.crash_lines.specs.Words.{lossy_if, missing_lines, place_text, text_if, words_or}
use Rattle.crash_lines.specs.Point.{short_if}

-- ---- a frame, and the inlined calls there

-- a frame, and a call where it is an inlined one there
abbrev pub EntryValue : Type 0
EntryValue = NamedFrameValue × Option CallValue

-- the same of a `FrameEntry`
abbrev pub entry_of : FrameEntry → EntryValue
entry_of e = (named_of e.frame.now, option_map call_of (option_copied e.call))

-- the inlined calls at a frame, the innermost first
abbrev pub call_entries : NamedFrameValue → List EntryValue
call_entries f = map (λ c. (f, Some c)) f.inlines

-- the same, and then the frame
abbrev pub entries_of : NamedFrameValue → List EntryValue
entries_of f = call_entries f ++ (f, None) ∷ []

-- those of frames
unfoldable pub entries_in : List NamedFrameValue → List EntryValue
entries_in frames = flat_map entries_of frames

-- ---- the line of a frame

-- the words for how a frame was found
abbrev pub found_text : FrameTrust → List ℕ
found_text Context = codes ", context"
found_text Cfi = codes ", call frame information"
found_text FramePointer = codes ", frame pointer"
found_text Scan = codes ", scan"
found_text Link = codes ", link register"

-- the words for a source line
abbrev pub source_text : Option SourceValue → List ℕ
source_text (Some s) = line_text s.file s.line
source_text None = []

-- the address of a frame: that by which it is looked up, which lies in the call of a caller, or the
-- instruction where there is none
abbrev pub printed_address : CrashFrame → ℕ
printed_address f = unwrap_or f.address f.instruction

-- the line of an inlined call at a frame: its number, the frame's address, its function, its source line
-- and the frame's module
unfoldable pub call_line : List LoadedValue → ℕ → CrashFrame → CallValue → List ℕ
call_line modules number f c = concat (codes "    #" ∷ decimal number ∷ codes " "
    ∷ hex (printed_address f) ∷ lossy_if (codes " ") c.function ∷ source_text c.source
    ∷ place_text modules (codes " in no module") f.«module» ∷ codes ", inline" ∷ [])

-- the line of a frame: its number, its address, its function with the offset in it, its source line, its
-- module, and how it was found; then, where they are asked for, its instruction if that isn't the
-- address, its stack pointer and its frame pointer
unfoldable pub frame_line : Bool → List LoadedValue → ℕ → NamedFrameValue → List ℕ
frame_line is_asked modules number f = concat (codes "    #" ∷ decimal number ∷ codes " "
    ∷ hex (printed_address f.frame) ∷ lossy_if (codes " ") (option_map (λ g. g.name) f.function)
    ∷ hex_if (codes " + ") (option_map (λ g. g.offset) f.function) ∷ source_text f.line
    ∷ place_text modules (codes " in no module") f.frame.«module» ∷ found_text f.frame.trust
    ∷ hex_unless (printed_address f.frame) (codes ", instruction ")
    (if_asked is_asked (Some f.frame.instruction))
    ∷ hex_if (codes ", stack pointer ") (if_asked is_asked (Some f.frame.stack_pointer))
    ∷ hex_if (codes ", frame pointer ") (if_asked is_asked f.frame.frame_pointer) ∷ [])

-- the line of either
abbrev pub entry_line : Bool → List LoadedValue → ℕ → NamedFrameValue → Option CallValue → List ℕ
entry_line is_asked modules number f (Some c) = call_line modules number f.frame c
entry_line is_asked modules number f None = frame_line is_asked modules number f

-- frames and calls, each with its number
abbrev pub each_entry : Bool → List LoadedValue → List EntryValue → List (List ℕ)
each_entry is_asked modules entries =
    map (λ p. entry_line is_asked modules p.0 p.1.0 p.1.1) (enumerate_from 0 entries)

-- ---- the frames of a thread

-- how many of the frames of a thread and the candidates after them are printed: as many as the
-- limit says, or the first alone
abbrev pub frame_limit : TextLimits → Bool → ℕ
frame_limit limits is_whole = if is_whole then limits.frames else 1

-- why a walk ends, in words
abbrev pub end_text : WalkEnd → List ℕ
end_text ending.NoMemory = codes "no memory of its stack"
end_text ending.UnknownWidth = codes "unknown width of an address"
end_text ending.NoFramePointer = codes "no frame pointer"
end_text ending.ZeroFramePointer = codes "frame pointer of 0"
end_text ending.BelowStackPointer = codes "frame pointer below the stack pointer"
end_text ending.NoRecord = codes "no frame record at the frame pointer"
end_text ending.NoCode = codes "no code at the return address"
end_text ending.NoReturnRule = codes "no rule for the return address"
end_text ending.ZeroReturnAddress = codes "return address of 0"

-- what comes after the frames of a thread whose frames are all printed: how many more there are
-- beyond the limit, the end of its walk, and how many of all of them are candidates, which follow
-- the last caller
unfoldable pub rest_lines : TextLimits → CrashWalkValue → List (List ℕ)
rest_lines limits w = table (
    (count_if (codes "    and ") (length (all_frames w) - limits.frames) (codes " more") ∷ [])
    ∷ (codes "    end: " ∷ end_text w.end ∷ [])
    ∷ (count_if (codes "    candidates: ") (length w.candidates) [] ∷ [])
    ∷ [])

-- what is found in the stack of a thread
abbrev pub walk_lines : PageValue → Bool → CrashWalkValue → List (List ℕ)
walk_lines p is_whole w = each_entry p.limits.lists p.crash.modules.loaded
    (entries_in (first_frames (frame_limit p.limits is_whole) (known_in p.symbols) w))
    ++ (if is_whole then rest_lines p.limits w else [])

-- ---- a thread

-- the line of a thread: its id, its name where it has one, and whether the list of threads lacks it;
-- its last error; and how much there is of the context of its registers, where that is cut
unfoldable pub heading_lines : ThreadValue → List (List ℕ)
heading_lines t = table (
    (codes "thread " ∷ id_words t.id ∷ text_if (codes " \"") t.name (codes "\"")
    ∷ words_or (not t.is_listed) (codes ", not in the list of threads") [] ∷ [])
    ∷ (text_if (codes "    last error ") t.last_error [] ∷ [])
    ∷ (short_if (codes "    ") (short_context t) ∷ [])
    ∷ [])

-- the line of a range of addresses after words, and whether it is absent
unfoldable pub range_row : List ℕ → StackRange → Bool → List ℕ
range_row words range is_absent =
    concat (words ∷ hex range.base ∷ codes ", " ∷ hex range.size ∷ codes " bytes"
    ∷ words_or is_absent (codes ", no memory where it begins") [] ∷ [])

-- a range is another
abbrev pub is_range : StackRange → Option StackRange → Bool
is_range range (Some other) = other.base == range.base && other.size == range.size
is_range range None = false

-- the memory of a stack, where it isn't the stack as its entry names it
abbrev pub memory_lines : Option StackRange → StackRange → List (List ℕ)
memory_lines stack memory =
    if is_range memory stack then [] else range_row (codes "    stack memory ") memory false ∷ []

-- the stack of a thread as its entry names it, with whether the dump lacks it, and its memory
abbrev pub stack_lines : Option StackRange → Option StackRange → List (List ℕ)
stack_lines stack memory =
    if_some (λ range. range_row (codes "    stack ") range (is_none memory) ∷ []) stack
    ++ if_some (memory_lines stack) memory

-- the line of words on a context, where there are any, and how many bytes there are of it where it isn't
-- accepted
unfoldable pub context_lines : List ℕ → Option ContextProblem → List (List ℕ)
context_lines words problem =
    table ((words ∷ decimal_if (codes ", ") (unaccepted_size problem) (codes " bytes") ∷ []) ∷ [])

-- the words for why a thread has no frames
abbrev pub no_walk_words : Option SystemValue → Option ContextProblem → List ℕ
no_walk_words (Some _) (Some Outside) = codes "    its context is outside the file"
no_walk_words (Some _) _ = codes "    no context that can be read"
no_walk_words None problem = codes "    no frames without system information"

-- the words for why the own context of a thread isn't used, whose frames are those of the exception's
-- context. That the system is unknown is said elsewhere
abbrev pub own_words : Option ContextProblem → List ℕ
own_words (Some Outside) = codes "    its own context is outside the file"
own_words (Some (NotAccepted size)) = codes "    its own context can't be read"
own_words (Some NoSystem) = []
own_words None = []

-- what is found in the stack of a thread, or why nothing is
abbrev pub found_lines : PageValue → Bool → ThreadValue → Option CrashWalkValue → List (List ℕ)
found_lines p is_whole t (Some w) =
    context_lines (own_words t.context_problem) t.context_problem ++ walk_lines p is_whole w
found_lines p is_whole t None =
    context_lines (no_walk_words p.crash.process.system t.context_problem) t.context_problem

-- a thread by its index, with its stack and the end of its walk if all of its frames are asked for
abbrev pub thread_lines : PageValue → Bool → ℕ → ThreadValue → List (List ℕ)
thread_lines p is_whole number t = heading_lines t
    ++ ((if is_whole then stack_lines t.stack t.stack_memory else [])
    ++ found_lines p is_whole t (shown_in p.symbols number t))

-- ---- threads

-- whether an index is this one
abbrev pub is_index : Option ℕ → ℕ → Bool
is_index (Some index) number = index == number
is_index None number = false

-- the lines of the thread that crashed, or that there are no threads
abbrev pub crashed_lines : PageValue → List (List ℕ)
crashed_lines p = missing_lines (codes "no threads") p.crash.contents.threads.threads
    ++ if_some (λ t. thread_lines p true t.0 t.1) (crashed_thread p.crash.threads)

-- whether all frames of each thread are printed: where they are asked for, or none crashed
abbrev pub shows_all : TextLimits → Option ℕ → Bool
shows_all limits crashing = limits.all_threads || is_none crashing

-- a thread of an index, if it isn't the one that crashed
abbrev pub other_lines : PageValue → ℕ → ThreadValue → List (List ℕ)
other_lines p number t = if is_index p.crash.threads.crashing number then []
    else thread_lines p (shows_all p.limits p.crash.threads.crashing) number t

-- those of threads that didn't crash
abbrev pub each_other : PageValue → List ThreadValue → List (List ℕ)
each_other p threads = flat_map (λ t. other_lines p t.0 t.1) (enumerate_from 0 threads)

-- ---- all frames that are printed

-- those of a thread with an index: none if it has no walk
abbrev pub frames_at : PageValue → ℕ → ThreadValue → List CrashFrame
frames_at p number t = option_map_or (λ w. take (frame_limit p.limits
    (is_index p.crash.threads.crashing number || shows_all p.limits p.crash.threads.crashing))
    (all_frames w)) (shown_in p.symbols number t) []

-- those of all threads
abbrev pub frames_in : PageValue → List ThreadValue → List CrashFrame
frames_in p threads = flat_map (λ t. frames_at p t.0 t.1) (enumerate_from 0 threads)
