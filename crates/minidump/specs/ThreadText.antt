-- The printed texts of threads and of their list, with the context and the stack of each.
use Rattle.std.specs.Prelude.{ℕ, ◌*◌, ◌/◌, Bool, List, [], ◌∷◌, ◌++◌, length, codes, Option, Some, None, if◌then◌else◌}
use Rattle.std.specs.Fmt.{decimal}
use Rattle.std.specs.List.{concat, flat_map, range_with_len}
use Rattle.std.specs.Option.{option_map}
use Rattle.minidump_bytes.specs.declared.endian.Endian.{Endian}
use Rattle.minidump_bytes.specs.Number.{number_at}
use Rattle.minidump_bytes.specs.Piece.{hex, wide_hex}
use Rattle.minidump_format.specs.declared.format.thread.MINIDUMP_THREAD.{MINIDUMP_THREAD}
use Rattle.minidump_format.specs.Numbered.{numbered_list}
use Rattle.minidump_format.specs.Text.{line_end}
use Rattle.minidump_system.specs.Cpu.{width_of}
use Rattle.minidump_system.specs.declared.cpu.PointerWidth.{PointerWidth}
use Rattle.minidump_system.specs.declared.cpu.PointerWidth.TheVariants.{Bits32, Bits64, Unknown}
use Rattle.minidump_system.specs.System.{System}
use Rattle.minidump_context.specs.declared.raw_context.MinidumpRawContext.{MinidumpRawContext}
use Rattle.minidump_context.specs.Text.{context_text}
use Rattle.minidump_memory.specs.Unified.{UnifiedRegion, UnifiedRegions}
use Rattle.minidump.specs.Thread.{Thread, known_context, stack_of}
use Rattle.minidump.specs.declared.thread.print.ThreadHead.{ThreadHead}
use Rattle.minidump.specs.declared.thread.stack.Word.{Word}
use Rattle.minidump.specs.declared.thread.stack.Word.TheVariants as kind

-- MINIDUMP_THREAD: the numbers of the entry
unfoldable pub thread_head : MINIDUMP_THREAD → List ℕ
thread_head t = concat (
    codes "MINIDUMP_THREAD\n"
    ∷ codes "  thread_id                   = " ∷ hex t.thread_id ∷ codes "\n"
    ∷ codes "  suspend_count               = " ∷ decimal t.suspend_count ∷ codes "\n"
    ∷ codes "  priority_class              = " ∷ hex t.priority_class ∷ codes "\n"
    ∷ codes "  priority                    = " ∷ hex t.priority ∷ codes "\n"
    ∷ codes "  teb                         = " ∷ hex t.teb ∷ codes "\n"
    ∷ codes "  stack.start_of_memory_range = " ∷ hex t.stack.start_of_memory_range ∷ codes "\n"
    ∷ codes "  stack.memory.data_size      = " ∷ hex t.stack.memory.data_size ∷ codes "\n"
    ∷ codes "  stack.memory.rva            = " ∷ hex t.stack.memory.rva ∷ codes "\n"
    ∷ codes "  thread_context.data_size    = " ∷ hex t.thread_context.data_size ∷ codes "\n"
    ∷ codes "  thread_context.rva          = " ∷ hex t.thread_context.rva ∷ codes "\n"
    ∷ codes "\n"
    ∷ [])

-- what is printed instead of an absent context
unfoldable pub no_thread_context : List ℕ
no_thread_context = codes "  (no context)\n\n"

-- the text of the context of a thread
abbrev pub thread_context_text : Option MinidumpRawContext → List ℕ
thread_context_text (Some c) = context_text c
thread_context_text None = no_thread_context

-- what a `ThreadHead` prints: the entry and the context
abbrev pub thread_head_of : ThreadHead → List ℕ
thread_head_of h = thread_head h.raw.now ++ thread_context_text (option_map (λ c. c.raw) h.context)

-- the bytes of a word: those of a pointer, and 8 where its width is unknown
abbrev pub word_bytes : PointerWidth → ℕ
word_bytes Bits32 = 4
word_bytes Bits64 = 8
word_bytes Unknown = 8

-- the offset of a word of a stack, and the word, of so many bytes
unfoldable pub word_line : ℕ → ℕ → ℕ → List ℕ
word_line size offset word = concat (
    codes "    0x" ∷ wide_hex 8 offset ∷ codes ": 0x" ∷ wide_hex (2 * size) word ∷ codes "\n"
    ∷ [])

-- the line of a word of four or eight bytes
abbrev pub text_of_word : Word → List ℕ
text_of_word (kind.Bits32 offset word) = word_line 4 offset word
text_of_word (kind.Bits64 offset word) = word_line 8 offset word

-- the whole words of a stack; the bytes after the last one are left out
abbrev pub word_lines : Endian → ℕ → List ℕ → List ℕ
word_lines order size bytes =
    flat_map (λ i. word_line size (size * i) (number_at order size (size * i) bytes))
    (range_with_len 0 (length bytes / size))

-- the words of a stack, each as wide as a pointer
unfoldable pub stack_words_text : Endian → PointerWidth → List ℕ → List ℕ
stack_words_text order width bytes = word_lines order (word_bytes width) bytes

-- the heading of a stack
unfoldable pub stack_heading : List ℕ
stack_heading = codes "Stack\n"

-- what is printed instead of an absent stack
unfoldable pub no_stack : List ℕ
no_stack = codes "No stack\n\n"

-- the text of the stack of a thread
abbrev pub stack_text : Endian → PointerWidth → Option UnifiedRegion → List ℕ
stack_text order width (Some stack) = stack_heading ++ (stack_words_text order width stack.bytes ++ line_end)
stack_text order width None = no_stack

-- how wide a pointer is on the machine of a dump
abbrev pub pointer_width : Option System → PointerWidth
pointer_width (Some s) = width_of s.cpu
pointer_width None = Unknown

-- what stands after the context: an empty line where the text is brief, else the stack
abbrev pub thread_end : Bool → Endian → PointerWidth → Option UnifiedRegion → List ℕ
thread_end brief order width stack = if brief then line_end else stack_text order width stack

-- a thread, by its context and its stack
abbrev pub thread_with : Thread → Option MinidumpRawContext → Bool → PointerWidth → Option UnifiedRegion → List ℕ
thread_with t context brief width stack =
    (thread_head t.raw ++ thread_context_text context) ++ thread_end brief t.order width stack

-- a thread, in the memory and on the machine of a dump
abbrev pub thread_text : Option UnifiedRegions → Option System → Bool → Thread → List ℕ
thread_text memory system brief t =
    thread_with t (known_context system t.order t.context) brief (pointer_width system)
    (stack_of memory t)

-- the printed text of the list of threads
abbrev pub thread_list_text : Option UnifiedRegions → Option System → Bool → List Thread → List ℕ
thread_list_text memory system brief threads =
    numbered_list (codes "MinidumpThreadList\n  thread_count = ") (codes "thread")
    (thread_text memory system brief) threads
