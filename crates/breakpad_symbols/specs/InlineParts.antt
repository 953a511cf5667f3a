-- What the code holds of an INLINE line.
use Rattle.std.specs.Prelude.{ℕ, List}
use Rattle.minidump_bytes.specs.declared.linux_os_str.LinuxOsStr.{LinuxOsStr}
use Rattle.minidump_bytes.specs.LinuxOsStr.{text_of}
use Rattle.breakpad_symbols.specs.declared.inline.InlineCall.{InlineCall}

-- the call, and the bytes of the text of its ranges
abbrev pub head_of : InlineCall × LinuxOsStr → InlineCall × List ℕ
head_of head = (head.0, text_of head.1)
