-- Debug identifiers, as Breakpad has them: a GUID, or the time stamp of a Pdb20, with an appendix.
use Rattle.std.specs.Prelude.{ℕ, ◌-◌, ◌++◌, ◌==◌, ◌&&◌, List, [], codes, length, take, drop, replicate, true, false}
use Rattle.std.specs.Prelude.{Option, None, nat_le, if◌then◌else◌}
use Rattle.std.specs.Fmt.{digits}
use Rattle.std.specs.Option.{option_and_then, option_map}
use Rattle.minidump_bytes.specs.Digits.{number_of_digits}
use Rattle.uuid.specs.Text.{parsed_simple, simple_text, upper}
use Rattle.minidump_format.specs.Guid.{uuid_text}
use Rattle.minidump_modules.specs.declared.debug_id.DebugId.{DebugId}
use Rattle.minidump_modules.specs.declared.debug_id.Kind.{Kind}
use Rattle.minidump_modules.specs.declared.debug_id.Kind.TheVariants.{Guid, Stamp}

-- the identifier of a GUID and an appendix
abbrev pub by_guid : List ℕ → ℕ → DebugId
by_guid bytes appendix = record { kind = Guid bytes appendix }

-- the identifier of a time stamp and an age
abbrev pub by_stamp : ℕ → ℕ → DebugId
by_stamp stamp age = record { kind = Stamp stamp age }

-- the bytes that 32 hexadecimal digits write
unfoldable pub sixteen_bytes : List ℕ → Option (List ℕ)
sixteen_bytes digits = parsed_simple digits

-- Breakpad's form: the 32 digits of a GUID, and 1 to 8 of an appendix
abbrev pub from_breakpad : List ℕ → Option DebugId
from_breakpad text =
    if nat_le 33 (length text) && nat_le (length text) 40
    then option_and_then (λ uuid. option_map (by_guid uuid) (number_of_digits 16 32 (drop 32 text)))
    (sixteen_bytes (take 32 text))
    else None

-- an appendix after a hyphen, where it is not 0
abbrev pub appendix_text : ℕ → List ℕ
appendix_text n = if n == 0 then [] else codes "-" ++ digits 16 false n

-- eight digits in upper case
abbrev pub eight_upper : ℕ → List ℕ
eight_upper n = replicate (8 - length (digits 16 true n)) 48 ++ digits 16 true n

-- the text of a GUID or of a time stamp, with its appendix
abbrev kind_text : Kind → List ℕ
kind_text (Guid bytes appendix) = uuid_text bytes ++ appendix_text appendix
kind_text (Stamp stamp age) = eight_upper stamp ++ appendix_text age

-- the text of a debug identifier
abbrev pub debug_id_text : DebugId → List ℕ
debug_id_text id = kind_text id.kind

-- the 32 digits of a GUID in upper case
unfoldable pub breakpad_digits : List ℕ → List ℕ
breakpad_digits bytes = simple_text upper bytes

-- the digits of a GUID or of a time stamp in upper case, then its appendix in lower case, also
-- where it is 0
abbrev breakpad_kind_text : Kind → List ℕ
breakpad_kind_text (Guid bytes appendix) = breakpad_digits bytes ++ digits 16 false appendix
breakpad_kind_text (Stamp stamp age) = digits 16 true stamp ++ digits 16 false age

-- Breakpad's text of a debug identifier, by which symbol servers name their folders
abbrev pub breakpad_text : DebugId → List ℕ
breakpad_text id = breakpad_kind_text id.kind
