-- The lines of what can't be read, and of the lists of a dump: how many items each has and, if lists are
-- asked for, the items.
use Rattle.std.specs.Prelude.{ℕ, ◌++◌, List, [], ◌∷◌, map, Some, codes, ◌||◌, Bool, is_none, length}
use Rattle.std.specs.Prelude.{Option, Result, Ok, Err, if◌then◌else◌}
use Rattle.std.specs.Fmt.{decimal}
use Rattle.std.specs.List.{concat}
use Rattle.minidump.specs.Below.Bytes.Piece.{hex}
use Rattle.crash.specs.declared.damage.Damage.{Damage}
use Rattle.crash.specs.declared.damage.Damage.TheVariants.{Entries, Exception, ExceptionContext}
use Rattle.crash.specs.declared.damage.Damage.TheVariants.{Modules, Parameters, Records, Regions}
use Rattle.crash.specs.declared.damage.Damage.TheVariants.{Stack, Stream, Texts, ThreadContext}
use Rattle.crash_process.specs.declared.unreadable_modules.ModulePart.{ModulePart}
use Rattle.crash_process.specs.declared.unreadable_modules.ModulePart.TheVariants.{CodeView, Name}
use Rattle.crash_process.specs.declared.unreadable_modules.UnreadableModule.{UnreadableModule}
use Rattle.crash.specs.Crash.{CrashValue}
use Rattle.minidump.specs.declared.Error.{Error}
use Rattle.minidump.specs.Below.MemoryLists.Unified.{UnifiedRegion, unified_regions}
use Rattle.minidump.specs.Below.Modules.UnloadedModule.{UnloadedValue}
use Rattle.minidump.specs.Below.Records.Descriptor.{handle}
use Rattle.minidump.specs.Below.Records.Handles.{Handle}
use Rattle.minidump.specs.Below.Records.Pairs.{pairs_of}
use Rattle.crash_process.specs.declared.directory.StreamEntry.{StreamEntry}
use Rattle.crash_process.specs.HandleKinds.{KindValue}
use Rattle.crash_process.specs.Linux.{LimitValue, limits_in}
use Rattle.crash_process.specs.Modules.{UnloadedModuleValue}
use Rattle.crash_lines.specs.Words.{count_row, error_words, hex_if, id_words, key_text, lossy_if}
use Rattle.crash_lines.specs.Words.{stream_text, text_if, words_or}
use Rattle.crash_text.specs.declared.limits.TextLimits.{TextLimits}
use Rattle.crash_lines.specs.Lines.{if_some}
use Rattle.crash_text.specs.Modules.{all_modules}
use Rattle.crash_text.specs.Page.{PageValue}

-- ---- what is there and can't be read

-- the line of something that can't be read, or of bytes that are not in the file
unfoldable pub damage_row : Damage → List ℕ
damage_row (Stream number error) =
    concat (codes "can't be read: " ∷ stream_text number ∷ error_words (Some error) ∷ [])
damage_row (Entries count) =
    concat (codes "outside the file: entries of the directory: " ∷ decimal count ∷ [])
damage_row (Regions count) =
    concat (codes "outside the file: regions of the plain list of memory: " ∷ decimal count ∷ [])
damage_row (Modules count) =
    concat (codes "can't be read: modules without addresses: " ∷ decimal count ∷ [])
damage_row (Texts number count) = concat (codes "can't be read: texts of " ∷ stream_text number
    ∷ codes ": " ∷ decimal count ∷ [])
damage_row (Records number count) = concat (codes "can't be read: records of "
    ∷ stream_text number ∷ codes ": " ∷ decimal count ∷ [])
damage_row (Exception error) =
    concat (codes "can't be read: an exception before the last" ∷ error_words (Some error) ∷ [])
damage_row (Parameters thread count) =
    concat (codes "can't be read: parameters of the exception on thread " ∷ id_words thread
    ∷ codes ": " ∷ decimal count ∷ [])
damage_row (ExceptionContext thread) =
    concat (codes "outside the file: the context of the exception on thread " ∷ id_words thread ∷ [])
damage_row (ThreadContext thread) =
    concat (codes "outside the file: the context of thread " ∷ id_words thread ∷ [])
damage_row (Stack thread) =
    concat (codes "outside the file: the stack of thread " ∷ id_words thread ∷ [])

-- the words for a part of a module's entry
abbrev pub part_words : ModulePart → List ℕ
part_words Name = codes "the name of module "
part_words CodeView = codes "the CodeView record of module "

-- the line of a module of which a part can't be read
unfoldable pub unreadable_line : UnreadableModule → List ℕ
unreadable_line m = concat (codes "can't be read: " ∷ part_words m.part ∷ decimal m.index
    ∷ codes " at " ∷ hex m.base ∷ codes ", " ∷ hex m.size ∷ codes " bytes" ∷ [])

-- all of it
abbrev pub damage_lines : CrashValue → List (List ℕ)
damage_lines c = map damage_row c.damage ++ map unreadable_line c.modules.unreadable

-- ---- lists

-- the number of items, and the lines of them if they are asked for
abbrev pub list_lines : {X : Type 0} → Bool → List ℕ → (X → List ℕ) → List X → List (List ℕ)
list_lines is_asked what row items =
    count_row what (length items) ∷ (if is_asked then map row items else [])

-- ---- streams

-- the line of a stream: its name, the number of its type, its bytes, and why it can't be read
unfoldable pub entry_line : StreamEntry → List ℕ
entry_line e = concat (codes "    " ∷ stream_text e.number ∷ codes " (" ∷ hex e.number
    ∷ codes "), " ∷ decimal e.size ∷ codes " bytes at " ∷ hex e.rva ∷ error_words e.error ∷ [])

-- ---- unloaded modules

-- the line of a module that was unloaded: its base address, its end, its path, and the name and the
-- identifier of its code file
unfoldable pub unloaded_line : UnloadedModuleValue → List ℕ
unloaded_line m = concat (codes "    " ∷ hex m.base ∷ hex_if (codes "-") m.end ∷ codes " " ∷ m.path
    ∷ key_text (codes ", code ") m.file m.code_id ∷ [])

-- the modules that were unloaded, where their list can be read
abbrev pub unloaded_lines : TextLimits → List UnloadedModuleValue
    → Result (List UnloadedValue) Error → List (List ℕ)
unloaded_lines limits modules (Ok _) =
    list_lines (all_modules limits) (codes "unloaded modules") unloaded_line modules
unloaded_lines limits modules (Err _) = []

-- ---- memory

-- the line of a region of memory
unfoldable pub region_line : UnifiedRegion → List ℕ
region_line r = concat (codes "    " ∷ hex r.base_address ∷ codes ", " ∷ hex r.size
    ∷ codes " bytes" ∷ [])

-- the regions of memory, where one of their lists can be read
abbrev pub memory_lines : TextLimits → List UnifiedRegion → Option Error × Option Error
    → List (List ℕ)
memory_lines limits regions errors = if is_none errors.0 || is_none errors.1
    then list_lines limits.lists (codes "memory regions") region_line regions else []

-- ---- handles

-- the line of a handle: its value, the name of its type, and its own
unfoldable pub handle_line : Handle → List ℕ
handle_line h = concat (codes "    " ∷ hex_if [] (handle h.raw)
    ∷ words_or (is_none (handle h.raw)) (codes "no value") []
    ∷ text_if (codes " ") h.type_name [] ∷ text_if (codes " \"") h.object_name (codes "\"") ∷ [])

-- the line of a kind of handles: the name of their type, and how many there are
unfoldable pub kind_line : KindValue → List ℕ
kind_line k = concat (codes "    " ∷ k.type_name ∷ codes " " ∷ decimal k.count ∷ [])

-- the handles, where their list can be read: how many there are, each kind, and all of them if they
-- are asked for
abbrev pub handles_lines : TextLimits → List KindValue → Result (List Handle) Error
    → List (List ℕ)
handles_lines limits kinds (Ok handles) = count_row (codes "handles") (length handles)
    ∷ (map kind_line kinds
    ++ (if limits.lists || limits.handles then map handle_line handles else []))
handles_lines limits kinds (Err _) = []

-- ---- Linux's limits of the process

-- the line of a limit: its name, the soft and the hard one, and what they count
unfoldable pub limit_line : LimitValue → List ℕ
limit_line l = concat (codes "    " ∷ l.name ∷ codes " soft " ∷ l.soft ∷ codes " hard " ∷ l.hard
    ∷ text_if (codes " ") l.unit [] ∷ [])

-- the limits, where their stream can be read
abbrev pub limits_lines : TextLimits → Result (List ℕ) Error → List (List ℕ)
limits_lines limits (Ok text) = list_lines limits.lists (codes "limits") limit_line (limits_in text)
limits_lines limits (Err _) = []

-- ---- Linux's environment

-- the line of a variable of the environment, with U+FFFD for what isn't UTF-8
unfoldable pub variable_line : List ℕ × List ℕ → List ℕ
variable_line p = concat (lossy_if (codes "environment ") (Some p.0)
    ∷ lossy_if (codes "=") (Some p.1) ∷ [])

-- the environment, where its stream can be read: the number of variables, and only if they are
-- asked for themselves their lines
abbrev pub environment_lines : TextLimits → Result (List ℕ) Error → List (List ℕ)
environment_lines limits (Ok text) = list_lines limits.environment (codes "environment variables")
    variable_line (pairs_of 0x3d text)
environment_lines limits (Err _) = []

-- ---- all of them

-- the lists after the modules
abbrev pub lists_lines : PageValue → List (List ℕ)
lists_lines p = unloaded_lines p.limits p.crash.modules.unloaded p.crash.contents.space.unloaded
    ++ (list_lines p.limits.lists (codes "streams") entry_line p.crash.directory.entries
    ++ (memory_lines p.limits (unified_regions p.crash.contents.space.memory)
    p.crash.contents.space.memory_errors
    ++ (if_some (λ count. count_row (codes "maps") count ∷ []) p.crash.contents.space.map_count
    ++ (handles_lines p.limits p.crash.process.handle_kinds p.crash.contents.process.handles
    ++ (limits_lines p.limits p.crash.contents.process.limits
    ++ environment_lines p.limits p.crash.contents.process.environ)))))
