-- What a text is made of.
use Rattle.std.specs.Prelude.{ℕ, Bool, Option, None, if◌then◌else◌}
use Rattle.std.specs.Option.{option_copied, option_map}
use Rattle.crash.specs.Crash.{CrashValue, crash_of}
use Rattle.crash_symbols.specs.Shown.{SymbolizedValue, symbolized_of}
use Rattle.crash_text.specs.declared.limits.TextLimits.{TextLimits}
use Rattle.crash_text.specs.declared.text.Page.{Page}

-- a crash, how much of it is printed, and its symbols where they are known
pub record PageValue : Type 0 where
  pub crash : CrashValue
  pub limits : TextLimits
  pub symbols : Option SymbolizedValue

-- the same of a `Page`
abbrev pub page_of : Page → PageValue
page_of p = record {
  crash = crash_of p.crash.now;
  limits = p.limits.now;
  symbols = option_map symbolized_of (option_copied p.symbols);
}

-- a number, where it is asked for
abbrev pub if_asked : Bool → Option ℕ → Option ℕ
if_asked is_asked n = if is_asked then n else None
