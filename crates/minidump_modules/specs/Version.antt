-- The version of a module, by Microsoft's VS_FIXEDFILEINFO.
use Rattle.std.specs.Prelude.{ℕ, ◌/◌, ◌%◌, ◌==◌, ◌&&◌, List, [], ◌∷◌, codes, Bool, true, false, Option, Some, None}
use Rattle.std.specs.Prelude.{if◌then◌else◌}
use Rattle.std.specs.Fmt.{decimal}
use Rattle.std.specs.List.{concat}
use Rattle.minidump_format.specs.declared.format.module.VS_FIXEDFILEINFO.{VS_FIXEDFILEINFO}
use Rattle.minidump_system.specs.declared.os.Os.{Os}
use Rattle.minidump_system.specs.declared.os.Os.TheVariants.{Windows, MacOs, Ios}

-- it is set: VS_FFI_SIGNATURE and VS_FFI_STRUCVERSION
abbrev pub is_set : VS_FIXEDFILEINFO → Bool
is_set v = (v.signature == 0xfeef04bd) && (v.struct_version == 0x10000)

-- four numbers, joined by dots
unfoldable pub join_by_dots : ℕ → ℕ → ℕ → ℕ → List ℕ
join_by_dots a b c d =
    concat (decimal a ∷ codes "." ∷ decimal b ∷ codes "." ∷ decimal c ∷ codes "." ∷ decimal d ∷ [])

-- the system is macOS or iOS
abbrev pub is_apple : Option Os → Bool
is_apple (Some MacOs) = true
is_apple (Some Ios) = true
is_apple _ = false

-- the system is Windows
abbrev pub is_windows : Option Os → Bool
is_windows (Some Windows) = true
is_windows _ = false

-- the file's version by its four halves
abbrev halves : VS_FIXEDFILEINFO → List ℕ
halves v =
    join_by_dots (v.file_version_hi / 65536) (v.file_version_hi % 65536) (v.file_version_lo / 65536)
    (v.file_version_lo % 65536)

-- the halves on Windows and Apple's systems; elsewhere the numbers of the file and of its product
abbrev pub version_text : Option Os → VS_FIXEDFILEINFO → List ℕ
version_text (Some Windows) v = halves v
version_text (Some MacOs) v = halves v
version_text (Some Ios) v = halves v
version_text _ v =
    join_by_dots v.file_version_hi v.file_version_lo v.product_version_hi v.product_version_lo

-- the version in a module's VS_FIXEDFILEINFO, where that is set
abbrev pub version_of : Option Os → VS_FIXEDFILEINFO → Option (List ℕ)
version_of os v = if is_set v then Some (version_text os v) else None
