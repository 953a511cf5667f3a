-- The numbers of a crash.
use Rattle.std.specs.Prelude.{ℕ, ◌++◌, List, [], length, Option, unwrap_or}
use Rattle.std.specs.Option.{option_and_then, option_map, option_map_or}
use Rattle.minidump.specs.declared.system_info.Cpu.{Cpu}
use Rattle.minidump.specs.declared.system_info.Cpu.TheVariants as cpu
use Rattle.minidump.specs.declared.system_info.Os.{Os}
use Rattle.minidump.specs.declared.system_info.Os.TheVariants as os
use Rattle.crash_threads.specs.Cause.{counted_exception}
use Rattle.crash_threads.specs.Contexts.{ContextValue}
use Rattle.crash.specs.Crash.{CrashValue}
use Rattle.crash_threads.specs.Frames.{CrashWalkValue}
use Rattle.crash_threads.specs.Threads.{ThreadValue, crashed_thread}
use Rattle.crash_threads.specs.declared.contexts.ContextOrigin.{ContextOrigin}
use Rattle.crash_threads.specs.declared.contexts.ContextOrigin.TheVariants.{OfException, OfThread}
use Rattle.minidump_c.specs.declared.numbers.CrashRow.{CrashRow}
use Rattle.minidump_c.specs.Exceptions.{exception_row}
use Rattle.minidump_c.specs.Facts.{facts_row}
use Rattle.minidump_c.specs.Frames.{end_number}
use Rattle.minidump_c.specs.Spans.{flag, span_after, text_in}

-- ---- what counts of a crash

-- the thread that crashed
abbrev pub crashed : CrashValue → Option ThreadValue
crashed c = option_map (λ p. p.1) (crashed_thread c.threads)

-- its registers, and how they are known
abbrev pub context_of : CrashValue → Option ContextValue
context_of c = option_and_then (λ t. t.context) (crashed c)

abbrev pub registers_of : CrashValue → List (List ℕ × ℕ)
registers_of c = option_map_or (λ x. x.registers) (context_of c) []

-- what is found in its stack
abbrev pub walk_of : CrashValue → Option CrashWalkValue
walk_of c = option_and_then (λ t. t.walk) (crashed c)

-- ---- the texts of the crash itself

-- the reason in words
abbrev pub reason_of : CrashValue → List ℕ
reason_of c = text_in (option_and_then (λ e. e.reason) (counted_exception c.cause))

-- the version of the system, its build, and the description of its processor
abbrev pub version_of : CrashValue → List ℕ
version_of c = option_map_or (λ s. s.version) c.process.system []

abbrev pub build_of : CrashValue → List ℕ
build_of c = text_in (option_and_then (λ s. s.build) c.process.system)

abbrev pub model_of : CrashValue → List ℕ
model_of c = text_in (option_and_then (λ s. s.cpu_model) c.process.system)

-- all four
abbrev pub own_texts : CrashValue → List ℕ
own_texts c = reason_of c ++ version_of c ++ build_of c ++ model_of c

-- ---- the numbers

-- the numbers of the operating systems
abbrev pub os_number : Os → ℕ
os_number (os.Unknown id) = 0
os_number os.Windows = 1
os_number os.MacOs = 2
os_number os.Ios = 3
os_number os.Linux = 4
os_number os.Solaris = 5
os_number os.Android = 6
os_number os.Ps3 = 7
os_number os.NaCl = 8

-- the numbers of the architectures of processors
abbrev pub cpu_number : Cpu → ℕ
cpu_number (cpu.Unknown id) = 0
cpu_number cpu.X86 = 1
cpu_number cpu.X86_64 = 2
cpu_number cpu.Ppc = 3
cpu_number cpu.Ppc64 = 4
cpu_number cpu.Sparc = 5
cpu_number cpu.Arm = 6
cpu_number cpu.Arm64 = 7
cpu_number cpu.Mips = 8
cpu_number cpu.Mips64 = 9

-- the numbers of whose context the registers are of
abbrev pub origin_number : ContextOrigin → ℕ
origin_number OfException = 1
origin_number OfThread = 2

-- the numbers of a crash, whose texts lie at the front of the buffer, with the number of rows of frames
-- and of the bytes of all texts: 0 for what is absent
abbrev pub crash_row : CrashValue → ℕ → ℕ → CrashRow
crash_row c frames texts = record {
  exception = exception_row (counted_exception c.cause);
  facts = facts_row c.cause.address;
  uptime = unwrap_or c.process.uptime 0;
  thread_index = unwrap_or c.threads.crashing 0;
  damage_count = length c.damage;
  register_size = option_map_or (λ x. x.size) (context_of c) 0;
  frame_count = frames;
  register_count = length (registers_of c);
  thread_count = length c.threads.threads;
  module_count = length c.modules.loaded;
  unloaded_count = length c.modules.unloaded;
  texts_len = texts;
  reason = span_after [] (reason_of c);
  version = span_after (reason_of c) (version_of c);
  build = span_after (reason_of c ++ version_of c) (build_of c);
  cpu_model = span_after (reason_of c ++ version_of c ++ build_of c) (model_of c);
  thread = option_map_or (λ t. t.id) (crashed c) 0;
  process_id = unwrap_or c.process.id 0;
  written = c.directory.written;
  os = option_map_or (λ s. os_number s.os) c.process.system 0;
  cpu = option_map_or (λ s. cpu_number s.cpu) c.process.system 0;
  processors = option_map_or (λ s. s.processors) c.process.system 0;
  has_thread = flag (crashed c);
  has_system = flag c.process.system;
  has_process_id = flag c.process.id;
  has_uptime = flag c.process.uptime;
  context = option_map_or (λ x. origin_number x.origin) (context_of c) 0;
  walk_end = option_map_or (λ w. end_number w.end) (walk_of c) 0;
}
