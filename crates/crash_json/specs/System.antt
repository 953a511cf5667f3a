-- The system on which a process ran, and what Linux says of it and of the process, as JSON.
use Rattle.std.specs.Prelude.{ℕ, Bool, List, [], ◌∷◌, ◌++◌, codes, if◌then◌else◌, length}
use Rattle.std.specs.Prelude.{Option, Some, None, Result, Ok, Err}
use Rattle.std.specs.Str.Lossy.{utf8_lossy}
use Rattle.json.specs.Json.{Json, null, string}
use Rattle.minidump.specs.declared.Error.{Error}
use Rattle.minidump.specs.Below.Records.Pairs.{pairs_of}
use Rattle.minidump.specs.Below.System.Cpu.{cpu_name}
use Rattle.minidump.specs.Below.System.Os.{os_long_name}
use Rattle.crash_process.specs.Linux.{LimitValue, limits_in}
use Rattle.crash_process.specs.Process.{SystemValue}
use Rattle.crash_process.specs.Release.{ReleaseValue}
use Rattle.crash_json.specs.Tree.{array_of, count, object_of, or_null}
use Rattle.crash_json.specs.Crashpad.{entry_json}

-- a version, and after a space the build, where it is known
abbrev pub with_build : List ℕ → Option (List ℕ) → List ℕ
with_build version None = version
with_build version (Some build) = version ++ (codes " " ++ build)

-- a system
unfoldable pub system_json : SystemValue → Json
system_json s = object_of (
    (codes "os", string (os_long_name s.os))
    ∷ (codes "os_ver", string (with_build s.version s.build))
    ∷ (codes "cpu_arch", string (cpu_name s.cpu))
    ∷ (codes "cpu_info", or_null string s.cpu_model)
    ∷ (codes "cpu_count", count s.processors)
    ∷ (codes "cpu_microcode_version", or_null string s.microcode)
    ∷ [])

-- the release of a Linux system
unfoldable pub release_json : ReleaseValue → Json
release_json r = object_of (
    (codes "id", or_null string r.id)
    ∷ (codes "release", or_null string r.release)
    ∷ (codes "codename", or_null string r.codename)
    ∷ (codes "description", or_null string r.description)
    ∷ [])

-- ---- the limits

-- a limit by its name, the soft and the hard one, and what they count
unfoldable pub limit_json : LimitValue → Json
limit_json l = object_of (
    (codes "name", string l.name)
    ∷ (codes "soft", string l.soft)
    ∷ (codes "hard", string l.hard)
    ∷ (codes "unit", or_null string l.unit)
    ∷ [])

-- the limits of the text that has them, as the only member of an object
unfoldable pub limits_json : List ℕ → Json
limits_json text = object_of ((codes "limits", array_of limit_json (limits_in text)) ∷ [])

-- ---- the environment

-- a variable by its name and its value, with U+FFFD for what isn't UTF-8
abbrev pub variable_json : List ℕ × List ℕ → Json
variable_json p = entry_json (utf8_lossy p.0) (string (utf8_lossy p.1))

-- the variables of the environment, where they are asked for, and how many there are, where its
-- stream can be read
abbrev pub environment_members : Bool → Result (List ℕ) Error → List (List ℕ × Json)
environment_members is_asked (Ok text) = let variables = pairs_of 0x3d text in
    (codes "environment", if is_asked then array_of variable_json variables else null)
    ∷ (codes "environment_count", count (length variables)) ∷ []
environment_members is_asked (Err _) =
    (codes "environment", null) ∷ (codes "environment_count", null) ∷ []
