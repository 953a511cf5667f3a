-- The crash that a file holds: a value for each file that is a minidump.
use Rattle.std.specs.Prelude.{ℕ, ◌==◌, List, length, Option, Result, Ok, Err, if◌then◌else◌}
use Rattle.std.specs.Option.{option_map}
use Rattle.minidump.specs.declared.Error.{Error}
use Rattle.minidump.specs.declared.MinidumpContext.{MinidumpContext}
use Rattle.minidump.specs.Below.Reasons.Names.{Lists}
use Rattle.minidump.specs.Below.System.Reads.{and_then}
use Rattle.minidump.specs.Dump.{Dump, dump_in}
use Rattle.stack_walk.specs.Frames.{StackValue}
use Rattle.crash.specs.declared.crash.Crash.{Crash}
use Rattle.crash.specs.declared.damage.Damage.{Damage}
use Rattle.crash_threads.specs.Cause.{CauseValue, cause_in, cause_of}
use Rattle.crash_streams.specs.Contents.{ContentsValue, contents_in, contents_of}
use Rattle.crash.specs.Damage.{damage_in}
use Rattle.crash_process.specs.Directory.{DirectoryValue, directory_in, directory_of}
use Rattle.crash_process.specs.Modules.{ModulesValue, modules_in, modules_of}
use Rattle.crash_threads.specs.Point.{PointValue, point_in, point_of}
use Rattle.crash_process.specs.Process.{ProcessFacts, process_in, process_of}
use Rattle.crash_threads.specs.Frames.{code_bits_in}
use Rattle.crash_threads.specs.Threads.{ThreadsValue, threads_in, threads_of, walked_at}

-- a crash: the streams, and what is found in them
pub record CrashValue : Type 0 where
  pub contents : ContentsValue
  pub directory : DirectoryValue
  pub process : ProcessFacts
  pub cause : CauseValue
  pub threads : ThreadsValue
  pub point : Option PointValue
  pub modules : ModulesValue
  pub damage : List Damage

-- the crash of a `Crash`
abbrev pub crash_of : Crash → CrashValue
crash_of c = record {
  contents = contents_of c.contents;
  directory = directory_of c.directory;
  process = process_of c.process;
  cause = cause_of c.cause;
  threads = threads_of c.threads;
  point = option_map point_of c.point;
  modules = modules_of c.modules;
  damage = c.damage.items;
}

-- the crash of a dump with these contents
abbrev pub crash_by : Lists → ℕ → Dump → ContentsValue → CrashValue
crash_by names scan d c = record {
  contents = c;
  directory = directory_in d c;
  process = process_in d c;
  cause = cause_in names c;
  threads = threads_in names scan c;
  point = point_in c (code_bits_in c) (cause_in names c).counts (threads_in names scan c).crashing;
  modules = modules_in d c;
  damage = damage_in c (directory_in d c) (process_in d c) (cause_in names c)
      (threads_in names scan c);
}

-- the crash of a file, with the names of codes of these lists and at most so many candidates a
-- thread, or why the file is no minidump
abbrev pub crash_in : List ℕ → Lists → ℕ → Result CrashValue Error
crash_in file names scan =
    and_then (dump_in file) (λ d. Ok (crash_by names scan d (contents_in d)))

-- the status with which a dump ends a program, the same for each form of output
abbrev pub status_of : Result CrashValue Error → ℕ
status_of (Err _) = 1
status_of (Ok c) = if length c.damage == 0 then 0 else 1

-- the stack and the context by which the thread of an index is walked
abbrev pub walked_in : CrashValue → ℕ → Option (StackValue × MinidumpContext)
walked_in c thread = walked_at c.contents c.threads.code_bits c.cause.counts thread
