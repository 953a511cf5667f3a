-- What is found in the list of the file is found in the list of what it says.
use Rattle.std.proofs.Common.{refl}
use Rattle.minidump_index.proofs.RegionViews.{counted}
use Rattle.breakpad_symbols.specs.Function.{function_of, range_of_function}
use Rattle.breakpad_symbols.specs.SymbolFile.{functions_of}
use Rattle.symbol_walk.specs.Symbols.{range_of_lines}
use Rattle.symbol_walk.proofs.walk.function_at.Goals as goal

pub returns : goal.returns
returns c =
    (counted function_of range_of_function range_of_lines (λ r. refl) (functions_of c.args.symbols.now) c.args.offset _ _ _ c.function_at.ensures).is
