-- The lines of where the thread that crashed stands: an address, the registers, the code and the words
-- of the stack.
use Rattle.std.specs.Prelude.{ℕ, List, [], ◌∷◌, codes, not, slice_get, Option, Some, None, ◌++◌}
use Rattle.std.specs.Prelude.{map, min, if◌then◌else◌, is_some, ◌&&◌, Bool, true}
use Rattle.std.specs.List.{concat, flat_map}
use Rattle.std.specs.Option.{option_and_then, option_map, option_map_or}
use Rattle.std.specs.Fmt.{decimal}
use Rattle.minidump.specs.Below.Bytes.Piece.{hex, left, wide_hex}
use Rattle.crash_threads.specs.declared.addresses.AddressFacts.{AddressFacts}
use Rattle.crash_threads.specs.declared.addresses.AddressMemory.{AddressMemory}
use Rattle.crash_threads.specs.declared.addresses.AddressMemory.TheVariants.{Committed, Free}
use Rattle.crash_threads.specs.declared.addresses.AddressMemory.TheVariants.{Reserved}
use Rattle.crash_threads.specs.declared.addresses.MemoryRights.{MemoryRights}
use Rattle.crash.specs.Crash.{CrashValue}
use Rattle.minidump.specs.Below.Contexts.Register.{register_text}
use Rattle.crash_threads.specs.declared.contexts.ContextOrigin.{ContextOrigin}
use Rattle.crash_threads.specs.declared.contexts.ContextOrigin.TheVariants.{OfException, OfThread}
use Rattle.crash_threads.specs.declared.contexts.ShortContext.{ShortContext}
use Rattle.crash_threads.specs.Contexts.{ContextValue}
use Rattle.crash_threads.specs.Threads.{crashed_thread}
use Rattle.crash_threads.specs.declared.point.StackWord.{StackWord}
use Rattle.crash_threads.specs.Addresses.{is_executable, is_placed}
use Rattle.crash_process.specs.Modules.{LoadedValue}
use Rattle.crash_threads.specs.Point.{PointValue}
use Rattle.crash_lines.specs.Words.{hex_if, id_if, place_text, text_if, words_or}
use Rattle.crash_lines.specs.Lines.{headed, if_some, table}

-- ---- an address

-- the path of the unloaded module of an index
abbrev pub unloaded_path : CrashValue → Option ℕ → Option (List ℕ)
unloaded_path c index =
    option_map (λ m. m.path) (option_and_then (slice_get c.modules.unloaded) index)

-- the id of the thread of an index
abbrev pub thread_id : CrashValue → Option ℕ → Option ℕ
thread_id c index = option_map (λ t. t.id) (option_and_then (slice_get c.threads.threads) index)

-- a letter for each right of memory, a dash for each that is absent, and whether it is guarded
abbrev pub rights_words : MemoryRights → List ℕ
rights_words r = concat (codes ", memory " ∷ words_or r.is_readable (codes "r") (codes "-")
    ∷ words_or r.is_writable (codes "w") (codes "-")
    ∷ words_or r.is_executable (codes "x") (codes "-")
    ∷ words_or r.is_guarded (codes " guarded") [] ∷ [])

-- the memory that contains an address: its state, or its rights where it is committed
abbrev pub state_words : AddressMemory → List ℕ
state_words Free = codes ", memory free"
state_words Reserved = codes ", memory reserved"
state_words (Committed rights) = rights_words rights

-- the same, where it is known
abbrev pub memory_words : Option AddressMemory → List ℕ
memory_words (Some m) = state_words m
memory_words None = []

-- the line of an address after its name: its module and the offset in it, or these words where no
-- module has it; how far it is from 0, where it is near; that it isn't canonical; the unloaded
-- module that contained it, the threads in and below whose stacks it lies, and its memory
unfoldable pub address_line : CrashValue → List ℕ → List ℕ → List ℕ → AddressFacts → List ℕ
address_line c indent name nowhere a = concat (indent ∷ name ∷ codes " " ∷ hex a.address
    ∷ place_text c.modules.loaded nowhere a.«module» ∷ hex_if (codes ", null + ") a.null_offset
    ∷ words_or (not a.is_canonical) (codes ", not canonical") []
    ∷ text_if (codes ", in unloaded ") (unloaded_path c a.unloaded) []
    ∷ id_if (codes ", in the stack of thread ") (thread_id c a.stack_of)
    ∷ id_if (codes ", below the stack of thread ") (thread_id c a.below_stack)
    ∷ memory_words a.memory ∷ [])

-- ---- the registers

-- the words for a register of `size` bytes: its name in three columns, and its value with two
-- digits for each byte, of at most 8
abbrev pub register_words : ℕ → List ℕ × ℕ → List ℕ
register_words size r = concat (codes "  " ∷ left 3 r.0 ∷ codes " "
    ∷ register_text (min size 8) r.1 ∷ [])

-- the line of a row of registers
unfoldable pub register_row : ℕ → List (List ℕ × ℕ) → List ℕ
register_row size row = concat (codes "  " ∷ flat_map (register_words size) row ∷ [])

-- rows of four; the last one may be shorter
abbrev pub rows : {X : Type 0} → List X → List (List X)
rows (a ∷ b ∷ c ∷ d ∷ rest) = (a ∷ b ∷ c ∷ d ∷ []) ∷ rows rest
rows [] = []
rows few = few ∷ []

-- how much there is of a context, where it is cut, after words
abbrev pub short_if : List ℕ → Option ShortContext → List ℕ
short_if words (Some s) = concat (words ∷ codes "context of " ∷ decimal s.size ∷ codes " of "
    ∷ decimal s.whole ∷ codes " bytes" ∷ [])
short_if words None = []

-- whose registers they are
abbrev pub heading_of : ContextOrigin → List ℕ
heading_of OfException = codes "registers at the exception"
heading_of OfThread = codes "registers of the thread when the dump was written"

-- the line of whose registers they are, and how much of their context there is, where it is cut
unfoldable pub heading_row : ContextOrigin → Option ShortContext → List ℕ
heading_row origin short =
    concat (heading_of origin ∷ short_if (codes ", from a ") short ∷ [])

-- the registers of a context, or that there are none that can be read
abbrev pub known_lines : Option ContextValue → List (List ℕ)
known_lines (Some c) = heading_row c.origin c.short ∷ map (register_row c.size) (rows c.registers)
known_lines None = codes "no registers that can be read" ∷ []

-- the context of the thread that crashed
abbrev pub crashed_context : CrashValue → Option ContextValue
crashed_context c = option_and_then (λ t. t.1.context) (crashed_thread c.threads)

-- the registers of that, and nothing without the system, which says how to read a context
abbrev pub registers_lines : CrashValue → List (List ℕ)
registers_lines c = if is_some c.process.system then known_lines (crashed_context c) else []

-- ---- the flags

-- the words for a flags register or a segment: its name and its value
abbrev pub flag_words : List ℕ × ℕ → List ℕ
flag_words r = concat (codes "  " ∷ r.0 ∷ codes " " ∷ hex r.1 ∷ [])

-- the words for a flag that is set
abbrev pub set_words : List ℕ → List ℕ
set_words name = concat (codes " " ∷ name ∷ [])

-- names after words, where there are any
abbrev pub names_after : List ℕ → List (List ℕ) → List ℕ
names_after words [] = []
names_after words (name ∷ names) = words ++ flat_map set_words (name ∷ names)

-- the line of the flags and the segments, and that of the flags that are set, where there are any
unfoldable pub flags_lines : PointValue → List (List ℕ)
flags_lines p = table (
    (codes "  " ∷ flat_map flag_words p.flags ∷ [])
    ∷ (names_after (codes "    flags set:") p.set_flags ∷ [])
    ∷ [])

-- ---- the registers in a module or a stack

-- the line of a register, where its value lies in a module or a stack
abbrev pub if_placed : CrashValue → List ℕ × AddressFacts → List (List ℕ)
if_placed c r = if is_placed r.1 then address_line c (codes "    ") r.0 [] r.1 ∷ [] else []

-- the registers whose values lie there, below a heading
abbrev pub placed_lines : CrashValue → List (List ℕ × AddressFacts) → List (List ℕ)
placed_lines c registers =
    headed (codes "registers in a module or a stack") (flat_map (if_placed c) registers)

-- the flags, and these registers
abbrev pub processor_lines : CrashValue → PointValue → List (List ℕ)
processor_lines c p = flags_lines p ++ placed_lines c p.registers

-- ---- the instruction pointer

-- an address is ordinary for code: a module has it, and its memory may be run as code or isn't
-- known
abbrev pub is_ordinary : AddressFacts → Bool
is_ordinary a = is_some a.«module» && option_map_or is_executable a.memory true

-- the line of an instruction pointer that isn't ordinary
abbrev pub instruction_lines : CrashValue → AddressFacts → List (List ℕ)
instruction_lines c a = if is_ordinary a then []
    else address_line c [] (codes "instruction") (codes " in no module") a ∷ []

-- ---- the code

-- the words for a byte
abbrev pub byte_words : ℕ → List ℕ
byte_words b = concat (codes " " ∷ wide_hex 2 b ∷ [])

-- the bytes at an address, where there are any
abbrev pub code_at : ℕ → List ℕ → List ℕ
code_at address [] = []
code_at address (b ∷ bs) = concat (codes "bytes at " ∷ hex address ∷ codes ":"
    ∷ flat_map byte_words (b ∷ bs) ∷ [])

-- the line of the bytes at the instruction pointer, where there are any
unfoldable pub code_lines : PointValue → List (List ℕ)
code_lines p = table ((code_at p.instruction.address p.code ∷ []) ∷ [])

-- ---- the words

-- the line of a word by the modules
unfoldable pub word_line : List LoadedValue → StackWord → List ℕ
word_line modules w = concat (codes "    " ∷ hex w.address ∷ codes " " ∷ hex w.value
    ∷ place_text modules [] w.«module» ∷ [])

-- the words of the stack, below a heading
abbrev pub words_lines : List LoadedValue → List StackWord → List (List ℕ)
words_lines modules words = headed (codes "words at the stack pointer") (map (word_line modules) words)

-- the code, and these words
abbrev pub memory_lines : List LoadedValue → PointValue → List (List ℕ)
memory_lines modules p = code_lines p ++ words_lines modules p.words

-- ---- all of it

-- where the thread that crashed stands
abbrev pub point_lines : CrashValue → List (List ℕ)
point_lines c = if_some (λ p. processor_lines c p
    ++ (instruction_lines c p.instruction ++ memory_lines c.modules.loaded p)) c.point
