-- Texts in a caller's buffer.
use Rattle.std.specs.Prelude.{◌≡◌, ◌==◌, ℕ, List, ◌++◌, length, take, drop, not, None, Result, IsOkAnd}
use Rattle.minidump.specs.declared.Error.{Error}
use Rattle.minidump.specs.Below.Contexts.Context.{map_ok}
use Rattle.minidump.specs.Below.Reasons.Names.{Lists}
use Rattle.minidump.specs.Dump.{dump_in}
use Rattle.minidump.specs.Report.{report_text}
use Rattle.minidump.specs.Text.{dump_text}
use Rattle.crash.specs.Crash.{crash_in}
use Rattle.crash_json.specs.Report.{text_of}
use Rattle.crash_json.specs.declared.JsonLimits.{JsonLimits}

-- a buffer with some items at its front, as far as they fit
abbrev pub buffer_with : {A : Type 0} → List A → List A → List A
buffer_with items buffer = take (length buffer) items ++ drop (length items) buffer

-- the buffer has such items, as far as they fit, and the count is that of all of them
abbrev pub IsFilled : {A : Type 0} → (List A → Type 0) → List A → List A → ℕ → Type 0
IsFilled {A} Are old new count =
    (items : List A) × Are items × (new ≡ buffer_with items old) × (count ≡ length items)

-- the text of the header and the directory
abbrev pub IsDirectoryOf : List ℕ → List ℕ → Type 0
IsDirectoryOf bytes text = IsOkAnd (dump_in bytes) (λ dump. text ≡ dump_text dump)

-- the report, with the names of codes of these lists
abbrev pub IsReportOf : List ℕ → Lists → List ℕ → Type 0
IsReportOf bytes names text = IsOkAnd (dump_in bytes) (λ dump. text ≡ report_text names dump)

-- at most so many frames a thread, and the variables of the environment unless the other number is 0
abbrev pub limits_by : ℕ → ℕ → JsonLimits
limits_by frames environment = record { frames = frames; environment = not (environment == 0) }

-- the JSON text of the crash of a file, without a path, or why the file is no minidump
abbrev pub json_in : List ℕ → ℕ → JsonLimits → Lists → Result (List ℕ) Error
json_in bytes scan limits names = map_ok (text_of limits None None) (crash_in bytes names scan)
