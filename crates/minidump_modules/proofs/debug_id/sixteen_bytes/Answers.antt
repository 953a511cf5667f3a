-- A text of 32 bytes is parsed as digits without hyphens.
use Rattle.std.proofs.Common.{refl, ◌∙◌, ◌≡◌}
use Rattle.uuid.specs.Text.{parsed, parsed_simple}
use Rattle.minidump_modules.specs.DebugId.{sixteen_bytes}
use Rattle.minidump_modules.proofs.BreakpadLemmas.{parsed_ok}
use Rattle.minidump_modules.proofs.debug_id.sixteen_bytes.Goals as goal

pub returns : goal.returns
unfolding sixteen_bytes
returns c =
    let simple : parsed c.args.digits.now ≡ parsed_simple c.args.digits.now = rw c.requires refl in
    c.ok.ensures.value ∙ parsed_ok c.try_parse_ascii.result (parsed c.args.digits.now) c.try_parse_ascii.ensures.ok c.try_parse_ascii.ensures.bytes ∙ simple
