-- The limits that were found, and those of the lines that are left, are all.
use Rattle.std.proofs.Common.{◌≡◌, ◌++◌, map}
use Rattle.std.specs.List.{filter_map}
use Rattle.minidump.specs.Promise.{linux_proc_limits_stream}
use Rattle.crash_process.specs.Linux.{limit_in, limit_of, limits_in}
use Rattle.crash_process.proofs.linux.limits_of.Given as goal

abbrev pub invariant-loop-line : goal.invariant-loop-line
invariant-loop-line l = map limit_of l.made.items ++ filter_map limit_in l.line-iterator ≡ limits_in (linux_proc_limits_stream.value l.limits)
