-- The addresses of the functions so far.
use Rattle.std.proofs.Common.{◌≡◌, map, take}
use Rattle.breakpad_symbols.specs.declared.function.Function.{Function}
use Rattle.breakpad_symbols.proofs.function_list.starts_of.Given as goal

abbrev pub invariant-loop-function : goal.invariant-loop-function
invariant-loop-function l = l.starts.items ≡ map (λ (f : Function). f.address) (take l.function-index l.functions)
