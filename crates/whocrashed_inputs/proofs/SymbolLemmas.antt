-- What is known of the symbol files of modules, with one more that was looked for.
use Rattle.std.proofs.Common.{◌≡◌, ◌≢◌, ◌∷◌, [], arith, ℕ, zero, suc, length, List, map, refl, replicate, true, Some, None}
use Rattle.std.specs.Borrow.{Bor}
use Rattle.std.specs.Option.{option_map}
use Rattle.std.specs.Prelude.{IfOk, is_some, slice_get, Option, Result, Ok, Err}
use Rattle.std.specs.Result.{result_ok}
use Rattle.std.specs.List.{AllZip, slice_set}
use Rattle.std.proofs.lemmas.List.{map-set}
use lib.LanesLaws.{map-replicate}
use Rattle.std.proofs.lemmas.Option.{same_Some}
use Rattle.breakpad_symbols.specs.SymbolFile.{SymbolsValue, symbols_of}
use Rattle.breakpad_symbols.specs.declared.symbol_file.SymbolFile.{SymbolFile}
use Rattle.crash_process.specs.Modules.{LoadedValue, loaded_of}
use Rattle.crash_process.specs.declared.modules.CrashModule.{CrashModule}
use Rattle.crash_symbols.specs.Modules.{is_of_module}
use Rattle.crash_symbols.specs.Symbols.{KnownSymbols, are_loaded}
use Rattle.crash_symbols.specs.declared.symbols.SymbolState.{SymbolState}
use Rattle.crash_symbols.specs.declared.symbols.SymbolState.TheVariants.{Unwanted}
use Rattle.whocrashed_inputs.specs.declared.symbols.NoSymbols.{NoSymbols}
use Rattle.whocrashed_inputs.specs.declared.symbols.NoSymbols.TheVariants as reason
use Rattle.whocrashed_inputs.specs.Symbols.{Belongs, IsAsked, IsKept, IsSound, state_read}

-- what a symbol file says that was looked for: nothing where there is none
abbrev pub value_read : Result (Bor SymbolFile) NoSymbols → Option SymbolsValue
value_read found = option_map (λ file. symbols_of file.now) (result_ok found)

-- what was looked for is loaded exactly if it was found, and isn't unwanted
found_tells : (found : Result (Bor SymbolFile) NoSymbols)
    → (are_loaded (state_read found) ≡ is_some (value_read found)) × (state_read found ≢ Unwanted)
unfolding are_loaded
found_tells (Ok f) = (refl, λ e. cc)
found_tells (Err reason.Missing) = (refl, λ e. cc)
found_tells (Err reason.Corrupt) = (refl, λ e. cc)
found_tells (Err reason.OutOfMemory) = (refl, λ e. cc)

-- what was found belongs to the module of its index
found_belongs : (modules : List LoadedValue) (index : ℕ) (found : Result (Bor SymbolFile) NoSymbols)
    → IfOk found (λ f. (m : LoadedValue) → slice_get modules index ≡ Some m → is_of_module (symbols_of f.now) m ≡ true)
    → (m : LoadedValue) → slice_get modules index ≡ Some m → Belongs m (value_read found)
found_belongs modules index (Ok f) own m there = own m there
found_belongs modules index (Err why) own m there = tt

-- lists whose items are pairwise in a relation, with one replaced
zip_set : {A B : Type 0} (R : A → B → Type 0) (xs : List A) (ys : List B) (i : ℕ) (y : B) → ((x : A) → slice_get xs i ≡ Some x → R x y)
    → AllZip R xs ys → AllZip R xs (slice_set ys i y)
zip_set R [] [] i y given each = each
zip_set R [] (b ∷ ys) i y given each = absurd each
zip_set R (a ∷ xs) [] i y given each = absurd each
zip_set R (a ∷ xs) (b ∷ ys) zero y given each = (given a refl, each.1)
zip_set R (a ∷ xs) (b ∷ ys) (suc i) y given each = (each.0, zip_set R xs ys i y given each.1)

-- the items of other indices stay
get_set : {A : Type 0} (xs : List A) (i k : ℕ) (x : A) → k ≢ i → slice_get (slice_set xs i x) k ≡ slice_get xs k
get_set [] i k x apart = refl
get_set (y ∷ xs) zero zero x apart = absurd (apart refl)
get_set (y ∷ xs) zero (suc k) x apart = refl
get_set (y ∷ xs) (suc i) zero x apart = refl
get_set (y ∷ xs) (suc i) (suc k) x apart = get_set xs i k x (λ e. apart (omega arith))

-- a state that isn't unwanted takes a place
state_set : (states : List SymbolState) (i k : ℕ) (state : SymbolState) → state ≢ Unwanted → (k ≢ i → IsAsked states k)
    → IsAsked (slice_set states i state) k
state_set [] i k state new old = λ e. cc
state_set (s ∷ states) zero zero state new old = λ e. new (same_Some _ _ e)
state_set (s ∷ states) zero (suc k) state new old = old (λ e. absurd (omega arith))
state_set (s ∷ states) (suc i) zero state new old = old (λ e. absurd (omega arith))
state_set (s ∷ states) (suc i) (suc k) state new old = state_set states i k state new (λ apart. old (λ e. apart (omega arith)))

module _ (modules : List LoadedValue) (old new : KnownSymbols) (index : ℕ) (found : Result (Bor SymbolFile) NoSymbols)
    (files : new.files ≡ slice_set old.files index (value_read found)) (states : new.states ≡ slice_set old.states index (state_read found)) where
  -- what was known is as sound with what was found
  pub sound_with : IfOk found (λ f. (m : LoadedValue) → slice_get modules index ≡ Some m → is_of_module (symbols_of f.now) m ≡ true)
      → IsSound modules old → IsSound modules new
  sound_with own was = record {
    belong = rw files (zip_set Belongs modules old.files index (value_read found) (found_belongs modules index found own) was.belong);
    loaded = rw (files, states, map-set, map-set, (found_tells found).0, was.loaded) refl;
  }

  -- the module isn't unwanted, nor is one that wasn't
  pub asked_with : (k : ℕ) → (k ≢ index → IsAsked old.states k) → IsAsked new.states k
  asked_with k before = rw states (state_set old.states index k (state_read found) (found_tells found).1 before)

  -- what is known of other modules stays
  pub kept_with : (k : ℕ) → k ≢ index → IsKept old new k
  kept_with k apart = (rw files (get_set old.files index k (value_read found) apart), rw states (get_set old.states index k (state_read found) apart))

-- a list of copies is mapped to one of copies
pub ruleset replicated = (map-replicate)

none_belongs : (modules : List CrashModule) → AllZip Belongs (map loaded_of modules) (replicate (length modules) None)
none_belongs [] = tt
none_belongs (m ∷ modules) = (tt, none_belongs modules)

-- where nothing is known, all is sound
pub none_sound : (modules : List CrashModule) (known : KnownSymbols) → known.files ≡ replicate (length modules) None
    → known.states ≡ replicate (length modules) Unwanted → IsSound (map loaded_of modules) known
unfolding are_loaded
none_sound modules known files states = record {
  belong = rw files (none_belongs modules);
  loaded = rw (files, states, map-replicate, map-replicate) refl;
}
