-- The text so far.
use Rattle.std.proofs.Common.{◌≡◌, ◌++◌, ◌∷◌, map, string_bytes, take}
use Rattle.std.specs.List.{flat_map}
use Rattle.std.specs.Str.Lossy.{utf8_lossy}
use Rattle.minidump.specs.Below.Bytes.LinuxOsStr.{text_of}
use Rattle.crash_process.proofs.linux.joined_words.Given as goal

abbrev pub invariant-loop-other : goal.invariant-loop-other
invariant-loop-other l = string_bytes l.text
    ≡ string_bytes l.initial.text ++ flat_map (λ word. 0x20 ∷ utf8_lossy word) (map text_of (take l.other-index l.others))
