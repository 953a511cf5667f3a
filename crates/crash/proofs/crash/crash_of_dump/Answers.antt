-- Each part is that of the contents, which are those of the dump.
use Rattle.std.proofs.Common.{◌≡◌, ◌∙◌, ℕ, List, Option, ap, refl}
use Rattle.std.specs.Option.{option_map}
use Rattle.minidump.specs.Below.Reasons.Names.{Lists}
use Rattle.minidump.specs.Dump.{Dump}
use Rattle.minidump.specs.DumpValue.{dump_of}
use Rattle.crash.specs.declared.damage.Damage.{Damage}
use Rattle.crash_threads.specs.Cause.{CauseValue, cause_in, cause_of}
use Rattle.crash_streams.specs.Contents.{ContentsValue, contents_of}
use Rattle.crash.specs.Crash.{CrashValue, crash_by}
use Rattle.crash.specs.Damage.{damage_in}
use Rattle.crash_process.specs.Directory.{DirectoryValue, directory_in, directory_of}
use Rattle.crash_process.specs.Modules.{ModulesValue, modules_in, modules_of}
use Rattle.crash_threads.specs.Point.{PointValue, point_in, point_of}
use Rattle.crash_process.specs.Process.{ProcessFacts, process_in, process_of}
use Rattle.crash_threads.specs.Threads.{ThreadsValue, threads_in, threads_of}
use Rattle.crash.proofs.crash.crash_of_dump.Goals as goal

parts_are_crash : (names : Lists) (scan : ℕ) (d : Dump) (c : ContentsValue) (directory : DirectoryValue) (process : ProcessFacts) (cause : CauseValue)
    (threads : ThreadsValue) (point : Option PointValue) (modules : ModulesValue) (damage : List Damage) → directory ≡ directory_in d c
    → process ≡ process_in d c → cause ≡ cause_in names c → threads ≡ threads_in names scan c
    → point ≡ point_in c threads.code_bits cause.counts threads.crashing → modules ≡ modules_in d c
    → damage ≡ damage_in c directory process cause threads
    → ◌≡◌ {A = CrashValue} (record { contents = c; directory = directory; process = process; cause = cause; threads = threads; point = point; modules = modules; damage = damage })
    (crash_by names scan d c)
parts_are_crash names scan d c directory process cause threads point modules damage of_directory of_process of_cause of_threads of_point of_modules of_damage =
    rw (of_damage, of_process, of_point, of_threads, of_cause, of_modules, of_directory) refl

pub returns-clause-crash : goal.returns-clause-crash
returns-clause-crash c =
    let d = dump_of c.args.dump.now in
    parts_are_crash c.args.names.now c.args.scan d (contents_of c.in_ok-contents.contents)
    (directory_of c.in_ok-directory.directory) (process_of c.in_ok-process.process) (cause_of c.in_ok-cause.cause) (threads_of c.in_ok-threads.threads)
    (option_map point_of c.in_ok-point.point) (modules_of c.in_ok-modules.modules) c.in_ok-damage.damage.items c.in_ok-directory.ensures
    c.in_ok-process.ensures.process c.in_ok-cause.ensures.cause c.in_ok-threads.ensures.threads c.in_ok-point.ensures c.in_ok-modules.ensures.modules
    c.in_ok-damage.ensures.damage
    ∙ ap (crash_by c.args.names.now c.args.scan d) c.in_ok-contents.ensures.contents
