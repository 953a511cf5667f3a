-- What the program writes.
use Rattle.std.specs.Prelude.{◌≡◌, ◌⊎◌, ℕ, ◌++◌, List, [], ◌∷◌, bytes_eq, codes, Bool, true, ⊤}
use Rattle.std.specs.Prelude.{if◌then◌else◌, Option, Some, None, Result, Ok, Err}
use Rattle.std.specs.Prelude.{IfErr, IsErrAnd, IsOkAnd}
use Rattle.std.specs.List.{concat}
use Rattle.std.specs.Option.{option_and_then, option_map, option_or}
use Rattle.std.specs.Result.{result_ok}
use Rattle.minidump.specs.declared.Told.{Told}
use Rattle.minidump.specs.declared.Error.{Error}
use Rattle.minidump.specs.declared.Error.TheVariants.{IoError}
use Rattle.minidump.specs.declared.Range.{Range}
use Rattle.minidump.specs.Below.Bytes.Piece.{hex}
use Rattle.minidump.specs.Below.Bytes.Told.{PutsAll, PutsPrefix, has_failed}
use Rattle.minidump.specs.Below.Format.Error.{name_of_error}
use Rattle.minidump.specs.Below.Format.Print.{Prints}
use Rattle.minidump.specs.Below.Index.Lookup.{looked_up}
use Rattle.minidump.specs.Below.MemoryLists.Memory.{range_of_region}
use Rattle.minidump.specs.Below.MemoryLists.Unified.{UnifiedRegion, unified_regions}
use Rattle.minidump.specs.Below.MemoryLists.UnifiedInfo.{InfoRegions, OfInfo, OfMaps}
use Rattle.minidump.specs.Below.MemoryLists.UnifiedInfo.{range_of_info_region, info_regions}
use Rattle.minidump.specs.Below.Modules.Module.{ModuleValue, range_of_module}
use Rattle.minidump.specs.Dump.{Dump, IsDumpErrorOr, dump_in, stream_of}
use Rattle.minidump.specs.File.{IsFile, ReadsFile}
use Rattle.minidump.specs.Memory.{memories_of_dump}
use Rattle.minidump.specs.Modules.{modules_of_dump}
use Rattle.minidump.specs.Promise.{linux_maps_stream, memory_info_list_stream}
use Rattle.minidump.specs.Report.{report_text}
use Rattle.minidump.specs.Text.{dump_text}
use Rattle.mdump.specs.declared.command.Command.{Command}
use Rattle.mdump.specs.declared.command.Task.{Task}
use Rattle.mdump.specs.declared.command.Task.TheVariants.{Dir, At, Report}
use Rattle.mdump.specs.Command.{IsCommand, IsCommandOf}

-- the usage
abbrev pub usage : List ℕ
usage = codes "usage: mdump dir FILE | at FILE HEXADDRESS | report FILE\n"

-- the name of the program, and its version
abbrev pub version : List ℕ
version = codes "mdump 0.27.0+rattle.1\n"

-- the text that words ask for without a file: the usage, also by no words at all, or the version
abbrev pub told_of : List (List ℕ) → Option (List ℕ)
told_of [] = Some usage
told_of (word ∷ []) = if bytes_eq word (codes "--help") then Some usage
    else if bytes_eq word (codes "--version") then Some version else None
told_of _ = None

-- what a dump tells of its regions: the memory information where it can be read, else Linux's maps
-- where they can be. The maps are not asked for an address that the information lacks
abbrev pub info_of_dump : Dump → Option InfoRegions
info_of_dump dump =
    option_or (option_map OfInfo (result_ok (stream_of memory_info_list_stream dump)))
    (option_map OfMaps (result_ok (stream_of linux_maps_stream dump)))

-- the line of the region of memory that was found: its base address and its size; or that there is none
abbrev pub memory_line : Option UnifiedRegion → List ℕ
memory_line (Some region) = concat (
    codes "memory " ∷ hex region.base_address ∷ codes " " ∷ hex region.size ∷ codes "\n" ∷ [])
memory_line None = codes "memory none\n"

-- the line of the module that was found: its base address, its size and its name, which is as it is,
-- line feeds included; or that there is none
abbrev pub module_line : Option ModuleValue → List ℕ
module_line (Some m) = concat (
    codes "module " ∷ hex m.raw.base_of_image ∷ codes " " ∷ hex m.raw.size_of_image ∷ codes " "
    ∷ m.name ∷ codes "\n" ∷ [])
module_line None = codes "module none\n"

-- the line of the range that was found by the memory information or the maps: its first and its
-- last address; or that there is none
abbrev pub info_line : Option Range → List ℕ
info_line (Some range) = concat (
    codes "info " ∷ hex range.start ∷ codes " " ∷ hex range.end ∷ codes "\n" ∷ [])
info_line None = codes "info none\n"

-- the kept item of a list of a dump that contains an address: none where the list is missing or
-- malformed
abbrev pub looked_up_in : {R : Type 0} → (R → Option Range) → Option (List R) → ℕ → Option R
looked_up_in range list address = option_and_then (λ regions. looked_up range regions address) list

-- the range of the kept region that contains an address, in the memory information or the maps
abbrev pub range_found : Option InfoRegions → ℕ → Option Range
range_found infos address = option_and_then range_of_info_region
    (looked_up_in range_of_info_region (option_map info_regions infos) address)

-- the lines of what lies at an address: the region of the dump's memory, the module, and the range
-- by the memory information or the maps
abbrev pub lines_of : Dump → ℕ → List ℕ
lines_of dump address =
    let regions = option_map unified_regions (memories_of_dump dump) in
    memory_line (looked_up_in range_of_region regions address)
    ++ (module_line (looked_up_in range_of_module (modules_of_dump dump) address)
    ++ info_line (range_found (info_of_dump dump) address))

-- what a task prints of a minidump; its report is without names of codes
abbrev pub text_of : Task → Dump → List ℕ
text_of Dir dump = dump_text dump
text_of (At address) dump = lines_of dump address
text_of Report dump = report_text [] dump

-- Below, `old` and `new` are the output before a call that returned `result`, and after it. Of a
-- text that was printed it took all at `Ok`, and a prefix at an error.

-- a task was done on bytes: its text, of the minidump that they are, was printed; or nothing was,
-- and the error is theirs, or memory ran out. Their error is one of a header or a directory, and
-- neither `FileNotFound` nor `IoError`
abbrev pub IsDoneOn : {D : Type 0} → (D → Option (List ℕ)) → Told D → Told D → Task → List ℕ
    → Result (Unit {0}) Error → Type 0
IsDoneOn contents old new task bytes result =
    IsOkAnd (dump_in bytes) (λ dump. Prints contents old new (text_of task dump) result)
    ⊎ ((new ≡ old) × IsErrAnd result (IsDumpErrorOr ⊤ bytes))

-- `opens path answer` says what opening a path returns, `left` which bytes a file has left, where
-- they are known, and `failed` whether a read of it has failed
module _ {F D : Type 0} (opens : List ℕ → Option F → Type 0) (left : F → Option (List ℕ))
    (failed : F → Bool) (contents : D → Option (List ℕ)) (old new : Told D) where
  -- a command was done: its task on the bytes of the file of its path; or nothing was printed, and
  -- the error is that of reading the file
  abbrev pub IsDone : Command → Result (Unit {0}) Error → Type 0
  IsDone command result =
      ((bytes : List ℕ) × IsFile opens left command.path.now bytes
      × IsDoneOn contents old new command.task bytes result)
      ⊎ ((new ≡ old) × IsErrAnd result (λ e. (rest : List ℕ)
      × ReadsFile opens left failed command.path.now [] rest (Err e)))

  -- what words ask for was done: the usage or the version was printed, of which the only error is
  -- `IoError`; or the command that they mean was done
  unfoldable pub IsAnswered : List (List ℕ) → Result (Unit {0}) Error → Type 0
  IsAnswered words result =
      ((text : List ℕ) × (told_of words ≡ Some text) × Prints contents old new text result
      × IfErr result (λ e. e ≡ IoError))
      ⊎ ((command : Command) × IsCommandOf words command × IsDone command result)

-- the device took all of a text; or it has failed, and took a prefix of it
abbrev pub IsTold : {D : Type 0} → (D → Option (List ℕ)) → Told D → Told D → List ℕ → Type 0
IsTold contents old new text =
    PutsAll contents old new text ⊎ (PutsPrefix contents old new text × (has_failed new ≡ true))

-- what an error is said of: the path of the command that the words mean, or the program if they ask
-- for the usage or the version
abbrev pub subject_of : List (List ℕ) → List ℕ
subject_of [] = codes "mdump"
subject_of (word ∷ []) = codes "mdump"
subject_of (word ∷ path ∷ words) = path

-- the line of an error: what it is said of, and its name
abbrev pub error_line : List ℕ → Error → List ℕ
error_line subject e = subject ++ (codes ": " ++ (name_of_error e ++ codes "\n"))

-- What a run of the program with these words wrote, by its status:
-- 0: the output took what the words ask for, and standard error nothing;
-- 1: there was an error. The output is as it was, or took a prefix of what the words ask for, and
--    standard error took the line of the error;
-- 2: the words are no command, and ask for neither the usage nor the version. The output is as it
--    was, and standard error took the usage.
-- A standard error that has failed took a prefix of that line, or of that usage
unfoldable pub IsRun : {F O E : Type 0} (opens : List ℕ → Option F → Type 0)
    (left : F → Option (List ℕ)) (failed : F → Bool) (output : O → Option (List ℕ))
    (errors : E → Option (List ℕ)) (words : List (List ℕ)) (out_old out_new : Told O)
    (err_old err_new : Told E) (status : ℕ) → Type 0
IsRun opens left failed output errors words out_old out_new err_old err_new status =
    ((status ≡ 0) × IsAnswered opens left failed output out_old out_new words (Ok tt)
    × (err_new ≡ err_old))
    ⊎ (((status ≡ 1) × ((e : Error)
    × IsAnswered opens left failed output out_old out_new words (Err e)
    × IsTold errors err_old err_new (error_line (subject_of words) e)))
    ⊎ ((status ≡ 2) × (told_of words ≡ None) × (¬ (IsCommand words)) × (out_new ≡ out_old)
    × IsTold errors err_old err_new usage))
