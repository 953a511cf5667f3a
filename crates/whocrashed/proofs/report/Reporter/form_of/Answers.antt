-- Nothing is known at first, and then what was found.
use Rattle.crash_symbols.specs.Symbols.{known_of}
use Rattle.whocrashed_inputs.proofs.SymbolLemmas.{none_sound}
use Rattle.whocrashed.proofs.report.Reporter.form_of.Goals as goal

pub loop-init : goal.loop-init
loop-init c = record {
  sound = none_sound c.args.crash.now.modules.loaded.items (known_of c.in_ok-symbols.symbols)
      (rw c.as_slice-modules.ensures.value at c.in_ok-symbols.ensures.files) (rw c.as_slice-modules.ensures.value at c.in_ok-symbols.ensures.states);
  found = c.in_ok-backtraces.ensures;
}

pub loop-preserved : goal.loop-preserved
loop-preserved c =
    let sound = rw c.as_slice-modules.ensures.value at c.find-in-loop.ensures.sound in
    record { sound = sound c.loop.invariant.sound; found = c.in_ok-backtraces-2.ensures }
