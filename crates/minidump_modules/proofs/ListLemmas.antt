-- The modules of the entries that have addresses, and the unloaded modules.
use Rattle.std.proofs.Common.{◌≡◌, ◌+◌, ◌<◌, [], ◌∷◌, arith, filter, length, map, List, ℕ, Ok, Option, Result}
use Rattle.std.proofs.lemmas.List.Sums.{length-filter}
use Rattle.std.specs.Prelude.{count_by, not}
use Rattle.minidump_format.specs.declared.error.Error.{Error}
use Rattle.minidump_bytes.specs.declared.endian.Endian.{Endian}
use Rattle.minidump_format.specs.declared.format.module.MINIDUMP_MODULE.{MINIDUMP_MODULE}
use Rattle.minidump_system.specs.declared.os.Os.{Os}
use Rattle.minidump_system.specs.Reads.{all_kept, all_ok, read_each, read_if}
use Rattle.minidump_system.proofs.KeptLemmas.{kept_each, kept_if, one_for_each, split_by}
use Rattle.minidump_modules.specs.Module.{ModuleValue, has_range, read_module}
use Rattle.minidump_format.specs.declared.format.module.MINIDUMP_UNLOADED_MODULE.{MINIDUMP_UNLOADED_MODULE}
use Rattle.minidump_modules.specs.UnloadedModule.{unloaded_with_range}
use Rattle.minidump_modules.specs.ModuleList.{modules_in}

pub kept_modules : (order : Endian) (os : Option Os) (file : List ℕ) (raws : List MINIDUMP_MODULE)
    → all_kept (λ raw. read_if has_range (read_module order os file) raw) raws ≡ modules_in order os file raws
kept_modules order os file raws = kept_if has_range (read_module order os file) raws

pub kept_unloaded : (order : Endian) (file : List ℕ) (raws : List MINIDUMP_UNLOADED_MODULE)
    → all_kept (λ raw. read_each (unloaded_with_range order file) raw) raws ≡ all_ok (unloaded_with_range order file) raws
kept_unloaded order file raws = kept_each (unloaded_with_range order file) raws

-- where a module was read, there is an entry
pub some_kept : {R V M : Type 0} (read : R → Result (Option V) Error) (raws : List R) (view : M → V) (ms : List M)
    → all_kept read raws ≡ Ok (map view ms) → 0 < length ms → 0 < length raws
unfolding all_kept
some_kept read [] view [] same some = some
some_kept read [] view (m ∷ ms) same some = absurd (let no : ⊥ = cc in no)
some_kept read (r ∷ rs) view ms same some = omega arith

-- entries that give no module have no addresses
pub others_counted : (order : Endian) (os : Option Os) (file : List ℕ) (raws : List MINIDUMP_MODULE) (ms : List ModuleValue)
    → modules_in order os file raws ≡ Ok ms → length ms + count_by (λ raw. not (has_range raw)) raws ≡ length raws
others_counted order os file raws ms is =
    let each = one_for_each (read_module order os file) (filter has_range raws) ms is in
    let those = length-filter has_range raws in
    omega (arith, each, those, split_by has_range raws)
