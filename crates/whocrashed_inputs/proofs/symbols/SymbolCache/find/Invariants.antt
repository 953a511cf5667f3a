-- What is known is as sound as it was, no module so far is unwanted, what is known of others stays, and the cache looks where it did.
use Rattle.std.proofs.Common.{◌≡◌, ◌<◌, ℕ, map}
use Rattle.std.specs.Prelude.{Contains, slice_index}
use Rattle.crash_process.specs.Modules.{loaded_of}
use Rattle.crash_symbols.specs.Symbols.{known_of}
use Rattle.whocrashed_inputs.specs.Symbols.{IsAsked, IsKept, IsSound}
use Rattle.whocrashed_inputs.proofs.symbols.SymbolCache.find.Given as goal

abbrev pub invariant-loop-index : goal.invariant-loop-index
invariant-loop-index l = record {
  sound : IsSound (map loaded_of l.modules) (known_of l.fn.symbols) → IsSound (map loaded_of l.modules) (known_of l.symbols);
  asked : (j : ℕ) → j < l.index-index → IsAsked (known_of l.symbols).states (slice_index l.wanted j);
  others : (k : ℕ) → ¬ Contains l.wanted k → IsKept (known_of l.fn.symbols) (known_of l.symbols) k;
  dirs : l.self.dirs ≡ l.fn.self.dirs;
  limit : l.self.limit ≡ l.fn.self.limit;
}
