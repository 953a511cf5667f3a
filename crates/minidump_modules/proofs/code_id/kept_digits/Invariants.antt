-- The digits kept so far.
use Rattle.std.proofs.Common.{◌≡◌, take, string_bytes}
use Rattle.minidump_modules.specs.CodeId.{kept_digits}
use Rattle.minidump_modules.proofs.code_id.kept_digits.Given as goal

abbrev pub invariant-loop-byte : goal.invariant-loop-byte
invariant-loop-byte l = string_bytes l.digits ≡ kept_digits (take l.byte-index l.bytes)
