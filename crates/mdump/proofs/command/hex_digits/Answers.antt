-- Digits without a sign are read as they are.
use Rattle.std.proofs.Common.{◌≢◌, get_or, lit<, arith}
use Rattle.std.proofs.lemmas.Str.Pattern.{starts_char}
use Rattle.mdump.proofs.CommandLemmas.{reads_hex}
use Rattle.mdump.proofs.command.hex_digits.Goals as goal

pub returns : goal.returns
returns c =
    let plus = starts_char 43 c.args.digits.now c.starts_with.result c.starts_with.ensures.cases (lit< tt) (lit< tt) in
    let plain : get_or c.args.digits.now 0 0 ≢ 43 = λ e. let same = plus.1 e in cc in
    rw c.ok.ensures.value (reads_hex c.args.digits.now c.from_str_radix.result c.from_str_radix.ensures.value plain (omega arith))
