-- The bytes of the build id, and the zeros after them.
use Rattle.std.proofs.Common.{◌≡◌, take}
use Rattle.minidump_modules.proofs.PaddingLemmas.{pad_to_16_is}
use Rattle.minidump_modules.proofs.module.pad_to_16.Goals as goal

pub returns : goal.returns
returns c =
    let front : c.copy_from_slice.new.self ≡ take c.min-len.result c.args.build_id.now = c.copy_from_slice.ensures.after in
    rw front (pad_to_16_is c.args.build_id.now c.min-len.result c.min-len.ensures)
