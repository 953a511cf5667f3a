-- The characters of the bytes so far.
use Rattle.std.proofs.Common.{◌≡◌, ◌++◌, map, take}
use Rattle.minidump_memory.specs.Contents.{byte_character}
use Rattle.minidump_memory.proofs.contents.push_characters.Given as goal

abbrev pub invariant-loop-byte : goal.invariant-loop-byte
invariant-loop-byte l = l.out.items ≡ l.fn.out.items ++ map byte_character (take l.byte-index l.bytes)
