-- The text of a crash: a function of its value.
use Rattle.std.specs.Prelude.{ℕ, ◌++◌, List, [], ◌∷◌, Option, codes}
use Rattle.std.specs.List.{flat_map}
use Rattle.crash.specs.Crash.{CrashValue}
use Rattle.crash_symbols.specs.Shown.{SymbolizedValue}
use Rattle.crash_symbols.specs.Signature.{signature_in}
use Rattle.crash_text.specs.declared.limits.TextLimits.{TextLimits}
use Rattle.crash_text.specs.Lists.{damage_lines}
use Rattle.crash_lines.specs.Exceptions.{crash_lines, none_lines}
use Rattle.crash_lines.specs.Lines.{line_of, table}
use Rattle.crash_text.specs.Lists.{lists_lines}
use Rattle.crash_lines.specs.Messages.{messages_lines}
use Rattle.crash_text.specs.Modules.{modules_lines}
use Rattle.crash_text.specs.Page.{PageValue}
use Rattle.crash_lines.specs.System.{head_lines}
use Rattle.crash_lines.specs.Words.{text_if}
use Rattle.crash_text.specs.Threads.{crashed_lines, each_other}

-- the line of the signature of a crash, where it has one
unfoldable pub signature_lines : Option (List ℕ) → List (List ℕ)
signature_lines text = table ((text_if (codes "signature ") text [] ∷ []) ∷ [])

-- the lines of a crash, in their order
abbrev pub lines_of : PageValue → List (List ℕ)
lines_of p = none_lines p.crash.cause.exceptions ++ (head_lines p.crash
    ++ (crash_lines p.crash ++ (signature_lines (signature_in p.symbols p.crash)
    ++ (damage_lines p.crash ++ (crashed_lines p ++ (messages_lines p.crash.contents.messages
    ++ (each_other p p.crash.threads.threads
    ++ (modules_lines p p.crash.contents.space.modules_error ++ lists_lines p))))))))

-- the text of a crash: its lines, each as it is printed, with symbols where they are known
abbrev pub text_of : TextLimits → Option SymbolizedValue → CrashValue → List ℕ
text_of limits symbols c =
    flat_map line_of (lines_of (record { crash = c; limits = limits; symbols = symbols }))
