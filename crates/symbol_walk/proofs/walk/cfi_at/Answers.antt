-- What is found in the list of the file is found in the list of what it says.
use Rattle.std.proofs.Common.{refl}
use Rattle.minidump_index.proofs.RegionViews.{counted}
use Rattle.breakpad_symbols.specs.Cfi.{cfi_of, range_of_cfi}
use Rattle.breakpad_symbols.specs.SymbolFile.{cfi_records_of}
use Rattle.symbol_walk.specs.Symbols.{range_of_rules}
use Rattle.symbol_walk.proofs.walk.cfi_at.Goals as goal

pub returns : goal.returns
returns c = (counted cfi_of range_of_cfi range_of_rules (λ r. refl) (cfi_records_of c.args.symbols.now) c.args.offset _ _ _ c.cfi_at.ensures).is
