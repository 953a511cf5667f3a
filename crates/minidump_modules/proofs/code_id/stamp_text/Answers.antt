-- What the two numbers are written as.
use Rattle.minidump_bytes.proofs.HexLemmas.{padded_hex}
use Rattle.minidump_modules.specs.CodeId.{stamp_form}
use Rattle.minidump_modules.proofs.code_id.stamp_text.Goals as goal

pub returns : goal.returns
unfolding stamp_form
returns c = rw (← padded_hex 8 c.args.stamp) (simp (c.laid_out.ensures, c.in_radix.ensures, c.in_radix-2.ensures) at c.format.ensures.ok)
