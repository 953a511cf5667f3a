-- A crash as JSON, in the schema of `minidump-stackwalk --json`: a JSON value for each crash.
use Rattle.std.specs.Prelude.{ℕ, List, [], ◌∷◌, ◌++◌, codes, length, Option, Some, None}
use Rattle.std.specs.Result.{result_ok}
use Rattle.json.specs.Json.{Json, string}
use Rattle.json.specs.Print.{print}
use Rattle.json.specs.Tree.{json_tokens}
use Rattle.crash.specs.Crash.{CrashValue}
use Rattle.crash_symbols.specs.Shown.{SymbolizedValue}
use Rattle.crash_json.specs.Tree.{array_of, count, object_of, or_null}
use Rattle.crash_json.specs.declared.JsonLimits.{JsonLimits}
use Rattle.crash_json.specs.Cause.{crash_info_json}
use Rattle.crash_json.specs.ReportValue.{ReportValue}
use Rattle.crash_json.specs.Minidump.{minidump_json}
use Rattle.crash_json.specs.Modules.{main_module, modules_json, unloaded_json}
use Rattle.crash_json.specs.Records.{boot_args_json, handle_json, mac_crash_json, soft_json}
use Rattle.crash_json.specs.System.{limits_json, release_json, system_json}
use Rattle.crash_json.specs.Threads.{crashing_json, threads_json}

-- the path of a file, where it has one
abbrev pub path_members : Option (List ℕ) → List (List ℕ × Json)
path_members None = []
path_members (Some path) = (codes "path", string path) ∷ []

-- the system, the crash, and which module is the main one
unfoldable pub system_members : CrashValue → List (List ℕ × Json)
system_members c =
    (codes "status", string (codes "OK"))
    ∷ (codes "system_info", or_null system_json c.process.system)
    ∷ (codes "crash_info", crash_info_json c)
    ∷ (codes "main_module", or_null count (main_module c.modules.loaded))
    ∷ []

-- what stands between the modules and the threads: the modules that were unloaded, the id of the
-- process, and how many threads it has
unfoldable pub before_threads : CrashValue → List (List ℕ × Json)
before_threads c =
    (codes "unloaded_modules", array_of unloaded_json c.modules.unloaded)
    ∷ (codes "pid", or_null count c.process.id)
    ∷ (codes "thread_count", count (length c.threads.threads))
    ∷ []

-- what single streams hold
unfoldable pub stream_members : CrashValue → List (List ℕ × Json)
stream_members c = let messages = c.contents.messages in
    (codes "lsb_release", or_null release_json c.process.release)
    ∷ (codes "mac_crash_info", or_null mac_crash_json (result_ok messages.mac_crash_info))
    ∷ (codes "mac_boot_args", or_null boot_args_json (result_ok messages.mac_boot_args))
    ∷ (codes "handles", or_null (array_of handle_json) (result_ok c.contents.process.handles))
    ∷ (codes "soft_errors", or_null soft_json (result_ok messages.soft_errors))
    ∷ (codes "linux_memory_map_count", or_null count c.contents.space.map_count)
    ∷ (codes "proc_limits", or_null limits_json (result_ok c.contents.process.limits))
    ∷ []

-- the line by what it is made of
abbrev pub line_json : ReportValue → Json
line_json r = object_of (path_members r.path
    ++ (system_members r.crash
    ++ ((codes "modules", modules_json r.symbols r.crash.modules.loaded)
    ∷ (before_threads r.crash
    ++ ((codes "threads", threads_json r)
    ∷ (codes "crashing_thread", crashing_json r)
    ∷ (stream_members r.crash ++ ((codes "minidump", minidump_json r) ∷ [])))))))

-- a crash, with the path of its file, where it has one, and with symbols, where they are known
abbrev pub json_of : JsonLimits → Option (List ℕ) → Option SymbolizedValue → CrashValue → Json
json_of limits path symbols c =
    line_json (record { limits = limits; path = path; symbols = symbols; crash = c })

-- the line of a crash: its value with nothing between the tokens
abbrev pub text_of : JsonLimits → Option (List ℕ) → Option SymbolizedValue → CrashValue → List ℕ
text_of limits path symbols c = print (json_tokens (json_of limits path symbols c))

-- ---- a file that is no dump

-- the line of a file that is no minidump: its path, and the word for why
unfoldable pub error_json : List ℕ → List ℕ → Json
error_json path status =
    object_of ((codes "path", string path) ∷ (codes "status", string status) ∷ [])

-- the same as its text, with nothing between the tokens
abbrev pub error_text : List ℕ → List ℕ → List ℕ
error_text path status = print (json_tokens (error_json path status))
