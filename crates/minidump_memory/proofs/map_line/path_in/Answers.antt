-- A text that doesn't begin with a bracket is a segment of shared memory, or a path.
use Rattle.std.proofs.Common.{◌≢◌, ◌∙◌, get_or, sym}
use Rattle.minidump_memory.proofs.PathLemmas.{nothing_is_mapped, plain_is}
use Rattle.minidump_memory.proofs.map_line.path_in.Goals as goal

pub returns-then-is_empty : goal.returns-then-is_empty
returns-then-is_empty c =
    sym (nothing_is_mapped c.args.text.now (rw c.as_bytes-bytes.ensures.value at (sym c.is_empty.ensures ∙ c.if-is_empty.true)))

pub returns : goal.returns
returns c =
    let first : get_or c.args.text.now 0 0 ≢ 91 = rw c.as_bytes-bytes.ensures.value at c.if-bytes-eq91.false in
    c.plain_path.ensures
    ∙ sym (plain_is c.args.text.now (rw c.as_bytes-bytes.ensures.value at (sym c.is_empty.ensures ∙ c.if-is_empty.false)) first)
