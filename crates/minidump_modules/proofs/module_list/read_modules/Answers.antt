-- Entries that give no module are those that have no addresses.
use Rattle.std.proofs.Common.{◌≡◌, ◌∙◌, ◌-◌, arith, map, sym, refl, Ok}
use Rattle.std.proofs.lemmas.List.{length-map}
use Rattle.std.specs.Prelude.{count_by, not}
use Rattle.minidump_bytes.specs.Source.{bytes_of}
use Rattle.minidump_modules.specs.Module.{ModuleValue, has_range, module_of}
use Rattle.minidump_modules.specs.ModuleList.{modules_in}
use Rattle.minidump_modules.proofs.ListLemmas.{kept_modules, others_counted}
use Rattle.minidump_modules.proofs.module_list.read_modules.Goals as goal

pub overflow_sub-without_addresses : goal.overflow_sub-without_addresses
overflow_sub-without_addresses c =
    let items = c.in_ok-modules.modules.items in
    let kept : modules_in c.args.endian c.args.os (bytes_of c.args.all) c.args.raws ≡ Ok (map module_of items) =
    sym (kept_modules c.args.endian c.args.os (bytes_of c.args.all) c.args.raws) ∙ c.in_ok-modules.ensures.means
    in
    omega (arith, others_counted _ _ _ _ _ kept, length-map {B = ModuleValue} items module_of, c.len.ensures, c.len-count.ensures)

pub returns-clause-means : goal.returns-clause-means
returns-clause-means c =
    let items = c.in_ok-modules.modules.items in
    let kept : modules_in c.args.endian c.args.os (bytes_of c.args.all) c.args.raws ≡ Ok (map module_of items) =
    sym (kept_modules c.args.endian c.args.os (bytes_of c.args.all) c.args.raws) ∙ c.in_ok-modules.ensures.means
    in
    let without : count_by (λ raw. not (has_range raw)) c.args.raws ≡ c.len-count.result - c.len.result =
    omega (arith, others_counted _ _ _ _ _ kept, length-map {B = ModuleValue} items module_of, c.len.ensures, c.len-count.ensures)
    in
    rw (kept, without, c.in_ok-from_regions.ensures.list) refl
