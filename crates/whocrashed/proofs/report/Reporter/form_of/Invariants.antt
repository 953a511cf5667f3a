-- What is known is sound, and the backtraces are those that it gives.
use Rattle.std.proofs.Common.{◌≡◌}
use Rattle.crash.specs.Crash.{crash_of}
use Rattle.crash_symbols.specs.Backtraces.{backtraces_in, backtraces_of}
use Rattle.crash_symbols.specs.Symbols.{known_of}
use Rattle.whocrashed_inputs.specs.Symbols.{IsSound}
use Rattle.whocrashed.proofs.report.Reporter.form_of.Given as goal

abbrev pub invariant-loop : goal.invariant-loop
invariant-loop l = record {
  sound : IsSound (crash_of l.crash).modules.loaded (known_of l.symbols);
  found : backtraces_of l.backtraces ≡ backtraces_in (crash_of l.crash) (known_of l.symbols) l.self.options.now.scan;
}
