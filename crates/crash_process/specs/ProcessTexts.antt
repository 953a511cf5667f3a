-- The texts of a process: what Linux's files say of it, its command line, and the comments of the
-- dump.
use Rattle.std.specs.Prelude.{ℕ, ◌*◌, ◌/◌, ◌%◌, ◌^◌, ◌==◌, ◌&&◌, ◌||◌, not, List, bytes_eq, codes, find, length, Bool}
use Rattle.std.specs.Prelude.{false, Option, Some, None, Result, if◌then◌else◌, is_none, map, nat_lt, string_bytes}
use Rattle.std.specs.List.{before_first, list_all}
use Rattle.std.specs.Option.{option_and_then, option_map, option_map_or}
use Rattle.std.specs.Result.{result_ok}
use Rattle.std.specs.Str.Lossy.{utf8_lossy}
use Rattle.minidump.specs.declared.Endian.{Endian}
use Rattle.minidump.specs.declared.Error.{Error}
use Rattle.minidump.specs.declared.format.MINIDUMP_STREAM_TYPE.TheVariants.{CommentStreamA, CommentStreamW}
use Rattle.minidump.specs.Below.Bytes.Digits.{number_of_digits}
use Rattle.minidump.specs.Below.Bytes.LinuxOsStr.{before_suffix, trimmed}
use Rattle.minidump.specs.Below.Bytes.Text16.{text_before_nul, units_at}
use Rattle.minidump.specs.Below.Format.StreamType.{number_of}
use Rattle.minidump.specs.Below.Records.Pairs.{pairs_of}
use Rattle.minidump.specs.Dump.{Dump, raw_stream}
use Rattle.crash_process.specs.declared.process_texts.Comments.{Comments}

-- ---- Linux's files

-- the value of the first pair that has a key
abbrev pub value_in : List ℕ → List (List ℕ × List ℕ) → Option (List ℕ)
value_in key pairs = option_map (λ p. p.1) (find (λ p. bytes_eq p.0 key) pairs)

-- the same of the lines of a status or of a description of the processors, each a key and a value
-- around a colon: none where the stream can't be read
abbrev pub value_of : List ℕ → Result (List ℕ) Error → Option (List ℕ)
value_of key text = option_and_then (λ text. value_in key (pairs_of 0x3a text)) (result_ok text)

-- the number that a value of a status writes
abbrev pub status_number : List ℕ → Result (List ℕ) Error → Option ℕ
status_number key status = option_and_then (number_of_digits 10 32) (value_of key status)

-- the number of bytes of so many kB, each of 1,024 bytes: none where it has more than 64 bits
abbrev pub bytes_of_kb : ℕ → Option ℕ
bytes_of_kb kb = if nat_lt (kb * 1024) (2 ^ 64) then Some (kb * 1024) else None

-- the number of bytes of a size that a value of a status writes in kB
abbrev pub status_size : List ℕ → Result (List ℕ) Error → Option ℕ
status_size key status = option_and_then (λ text. option_and_then bytes_of_kb
    (option_and_then (number_of_digits 10 64) (before_suffix (codes " kB") text))) (value_of key status)

-- the text of a value of a description of the processors, with U+FFFD for what isn't UTF-8
abbrev pub cpu_text : List ℕ → Result (List ℕ) Error → Option (List ℕ)
cpu_text key cpu = option_map utf8_lossy (value_of key cpu)

-- ---- the command line

-- a space in the place of the 0 that ends an argument
abbrev pub spaced : ℕ → ℕ
spaced b = if b == 0 then 0x20 else b

-- the arguments of a command line, with a space between two, without white space around them, and
-- with U+FFFD for what isn't UTF-8
abbrev pub command_text : List ℕ → List ℕ
command_text bytes = utf8_lossy (trimmed (map spaced bytes))

-- the command line of a dump: its stream LinuxCmdLine
abbrev pub command_line_in : Dump → Option (List ℕ)
command_line_in d = option_map command_text (result_ok (raw_stream 0x47670006 d))

-- ---- the comments

-- the comments of a dump: that of bytes, that of UTF-16, and whether the latter is damaged
pub record CommentsValue : Type 0 where
  pub narrow : Option (List ℕ)
  pub wide : Option (List ℕ)
  pub is_wide_damaged : Bool

-- the same of `Comments`
abbrev pub comments_of : Comments → CommentsValue
comments_of c = record {
  narrow = option_map string_bytes c.narrow;
  wide = option_map string_bytes c.wide;
  is_wide_damaged = c.is_wide_damaged;
}

-- the code units of bytes
abbrev units_in : Endian → List ℕ → List ℕ
units_in order bytes = units_at order 0 (length bytes / 2) bytes

-- the text of UTF-16 before the first 0: none where a surrogate lacks its partner
abbrev pub wide_text : Endian → List ℕ → Option (List ℕ)
wide_text order bytes = text_before_nul (units_in order bytes)

-- a text of UTF-16 is damaged: a surrogate lacks its partner, or it is cut: the last byte is half a code unit, and
-- none of the whole ones before it is 0
abbrev pub is_damaged : Endian → List ℕ → Bool
is_damaged order bytes = is_none (wide_text order bytes)
    || (length bytes % 2 == 1 && list_all (λ u. not (u == 0)) (units_in order bytes))

-- the comments of the streams CommentStreamA, of bytes before the first 0, with U+FFFD for what isn't UTF-8, and
-- CommentStreamW
abbrev pub comments_in : Dump → CommentsValue
comments_in d = record {
  narrow = option_map (λ bytes. utf8_lossy (before_first (λ b. b == 0) bytes))
      (result_ok (raw_stream (number_of CommentStreamA) d));
  wide = option_and_then (wide_text d.order) (result_ok (raw_stream (number_of CommentStreamW) d));
  is_wide_damaged = option_map_or (is_damaged d.order)
      (result_ok (raw_stream (number_of CommentStreamW) d)) false;
}
