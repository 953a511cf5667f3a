use Rattle.std.proofs.Common.{◌∙◌, rules, sym}
use Rattle.crash_lines.proofs.LineLemmas.{escape_bytes}
use Rattle.crash_lines.proofs.lines.push_char.Goals as goal

pub returns-then-is_control : goal.returns-then-is_control
returns-then-is_control c =
    rw (escape_bytes c.args.c (sym c.is_control.ensures ∙ c.if-is_control.true)) (search rules)
