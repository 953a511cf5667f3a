-- What a line is made of.
use Rattle.std.specs.Prelude.{ℕ, List, Option}
use Rattle.std.specs.Option.{option_copied, option_map}
use Rattle.crash.specs.Crash.{CrashValue, crash_of}
use Rattle.crash_symbols.specs.Shown.{SymbolizedValue, symbolized_of}
use Rattle.crash_json.specs.declared.JsonLimits.{JsonLimits}
use Rattle.crash_json.specs.declared.report.Report.{Report}

-- a crash, with how much of it is written, the path of its file, where it has one, and the symbols,
-- where they are known
pub record ReportValue : Type 0 where
  pub limits : JsonLimits
  pub path : Option (List ℕ)
  pub symbols : Option SymbolizedValue
  pub crash : CrashValue

-- the same of a `Report`
abbrev pub report_of : Report → ReportValue
report_of r = record {
  limits = r.limits;
  path = option_copied r.path;
  symbols = option_map symbolized_of (option_copied r.symbols);
  crash = crash_of r.crash.now;
}
