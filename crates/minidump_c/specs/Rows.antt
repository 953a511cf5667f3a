-- A crash as numbers, tables and texts, and what a call writes of it to a caller's buffers.
use Rattle.std.specs.Prelude.{◌≡◌, ℕ, List, [], length, Result, IsOkAnd}
use Rattle.std.specs.Option.{option_map_or}
use Rattle.minidump.specs.declared.Error.{Error}
use Rattle.minidump.specs.Below.Contexts.Context.{map_ok}
use Rattle.minidump.specs.Below.Reasons.Names.{Lists}
use Rattle.crash.specs.Crash.{CrashValue, crash_in}
use Rattle.minidump_c.specs.declared.frames.FrameRow.{FrameRow}
use Rattle.minidump_c.specs.declared.numbers.CrashRow.{CrashRow}
use Rattle.minidump_c.specs.declared.rows.Rows.{Rows}
use Rattle.minidump_c.specs.declared.tables.ModuleRow.{ModuleRow}
use Rattle.minidump_c.specs.declared.tables.RegisterRow.{RegisterRow}
use Rattle.minidump_c.specs.declared.tables.ThreadRow.{ThreadRow}
use Rattle.minidump_c.specs.declared.tables.UnloadedRow.{UnloadedRow}
use Rattle.minidump_c.specs.Frames.{frame_rows}
use Rattle.minidump_c.specs.Numbers.{crash_row, own_texts, registers_of, walk_of}
use Rattle.minidump_c.specs.Spans.{rows_after, texts_after}
use Rattle.minidump_c.specs.Tables.{module_row, register_row, thread_row, unloaded_row}
use Rattle.minidump_c.specs.Text.{buffer_with}

-- the numbers, the frames and registers of the thread that crashed, the threads, the modules, the
-- unloaded modules, and all texts
pub record RowsValue : Type 0 where
  pub crash : CrashRow
  pub frames : List FrameRow
  pub registers : List RegisterRow
  pub threads : List ThreadRow
  pub modules : List ModuleRow
  pub unloaded : List UnloadedRow
  pub texts : List ℕ

-- the same of a `Rows`
abbrev pub rows_value : Rows → RowsValue
rows_value r = record {
  crash = r.crash;
  frames = r.frames.items;
  registers = r.registers.items;
  threads = r.threads.items;
  modules = r.modules.items;
  unloaded = r.unloaded.items;
  texts = r.texts.items;
}

-- ---- the rows of a crash

-- the texts of the crash and its registers, and after them those of the threads, of the modules, and
-- of the unloaded modules
abbrev pub register_texts : CrashValue → List ℕ
register_texts c = texts_after register_row (own_texts c) (registers_of c)

abbrev pub thread_texts : CrashValue → List ℕ
thread_texts c = texts_after thread_row (register_texts c) c.threads.threads

abbrev pub module_texts : CrashValue → List ℕ
module_texts c = texts_after module_row (thread_texts c) c.modules.loaded

abbrev pub all_texts : CrashValue → List ℕ
all_texts c = texts_after unloaded_row (module_texts c) c.modules.unloaded

-- the frames
abbrev pub frames_of : CrashValue → List FrameRow
frames_of c = option_map_or frame_rows (walk_of c) []

-- a crash as rows
abbrev pub rows_of : CrashValue → RowsValue
rows_of c = record {
  crash = crash_row c (length (frames_of c)) (length (all_texts c));
  frames = frames_of c;
  registers = rows_after register_row (own_texts c) (registers_of c);
  threads = rows_after thread_row (register_texts c) c.threads.threads;
  modules = rows_after module_row (thread_texts c) c.modules.loaded;
  unloaded = rows_after unloaded_row (module_texts c) c.modules.unloaded;
  texts = all_texts c;
}

-- the rows of the crash of a file, or why the file is no minidump
abbrev pub rows_in : List ℕ → ℕ → Lists → Result RowsValue Error
rows_in bytes scan names = map_ok rows_of (crash_in bytes names scan)

-- ---- a caller's buffers

-- the contents of the buffers of a call
abbrev pub buffers : CrashRow → List FrameRow → List RegisterRow → List ThreadRow → List ModuleRow
    → List UnloadedRow → List ℕ → RowsValue
buffers crash frames registers threads modules unloaded texts = record {
  crash = crash;
  frames = frames;
  registers = registers;
  threads = threads;
  modules = modules;
  unloaded = unloaded;
  texts = texts;
}

-- the buffers with the rows at their fronts, as far as they fit
abbrev pub filled_with : RowsValue → RowsValue → RowsValue
filled_with rows old = record {
  crash = rows.crash;
  frames = buffer_with rows.frames old.frames;
  registers = buffer_with rows.registers old.registers;
  threads = buffer_with rows.threads old.threads;
  modules = buffer_with rows.modules old.modules;
  unloaded = buffer_with rows.unloaded old.unloaded;
  texts = buffer_with rows.texts old.texts;
}

-- the buffers hold the assigned rows
abbrev pub IsTold : Result RowsValue Error → RowsValue → RowsValue → Type 0
IsTold assigned old new = IsOkAnd assigned (λ rows. new ≡ filled_with rows old)
