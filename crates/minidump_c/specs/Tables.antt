-- The registers, the threads, the modules and the unloaded modules of a crash, as rows. Each row comes
-- with the texts before it and after them its own.
use Rattle.std.specs.Prelude.{ℕ, ◌+◌, ◌++◌, List, length, unwrap_or}
use Rattle.std.specs.Option.{option_map_or}
use Rattle.crash_process.specs.Modules.{LoadedValue, UnloadedModuleValue}
use Rattle.crash_threads.specs.Threads.{ThreadValue, short_context}
use Rattle.minidump_c.specs.declared.tables.ModuleRow.{ModuleRow}
use Rattle.minidump_c.specs.declared.tables.RegisterRow.{RegisterRow}
use Rattle.minidump_c.specs.declared.tables.ThreadRow.{ThreadRow}
use Rattle.minidump_c.specs.declared.tables.UnloadedRow.{UnloadedRow}
use Rattle.minidump_c.specs.Spans.{bit, flag, span_after, text_in}

-- a register: its name and its value
abbrev pub register_row : List ℕ → List ℕ × ℕ → RegisterRow × List ℕ
register_row before r = (record { value = r.1; name = span_after before r.0 }, before ++ r.0)

-- a thread: 0 for the stack of one without a stack, for the frames and candidates of one without a walk,
-- and for the sizes of a context that is whole
abbrev pub thread_row : List ℕ → ThreadValue → ThreadRow × List ℕ
thread_row before t = (
  record {
    stack_base = option_map_or (λ s. s.base) t.stack 0;
    stack_size = option_map_or (λ s. s.size) t.stack 0;
    name = span_after before (text_in t.name);
    last_error = span_after (before ++ text_in t.name) (text_in t.last_error);
    frame_count = option_map_or (λ w. length w.frames + length w.candidates) t.walk 0;
    candidate_count = option_map_or (λ w. length w.candidates) t.walk 0;
    short_size = option_map_or (λ s. s.size) (short_context t) 0;
    whole_size = option_map_or (λ s. s.whole) (short_context t) 0;
    id = t.id;
    has_context = flag t.context;
    is_listed = bit t.is_listed;
  },
  before ++ text_in t.name ++ text_in t.last_error,
)

-- a module: 0 for an end of more than 64 bits
abbrev pub module_row : List ℕ → LoadedValue → ModuleRow × List ℕ
module_row before m = (
  record {
    base = m.base;
    end = unwrap_or m.end 0;
    path = span_after before m.path;
    version = span_after (before ++ m.path) (text_in m.version);
    code_id = span_after (before ++ m.path ++ text_in m.version) (text_in m.code_id);
    debug_file = span_after (before ++ m.path ++ text_in m.version ++ text_in m.code_id) (text_in m.debug_file);
    debug_id = span_after (before ++ m.path ++ text_in m.version ++ text_in m.code_id ++ text_in m.debug_file) (text_in m.debug_id);
  },
  before ++ m.path ++ text_in m.version ++ text_in m.code_id ++ text_in m.debug_file ++ text_in m.debug_id,
)

-- a module that was unloaded
abbrev pub unloaded_row : List ℕ → UnloadedModuleValue → UnloadedRow × List ℕ
unloaded_row before m = (
  record {
    base = m.base;
    end = unwrap_or m.end 0;
    path = span_after before m.path;
    code_id = span_after (before ++ m.path) (text_in m.code_id);
  },
  before ++ m.path ++ text_in m.code_id,
)
