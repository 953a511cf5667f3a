-- The limits of a process, as Linux's `/proc/PID/limits` has them: a line has the words of a name, the
-- soft and the hard limit, and what they count.
use Rattle.std.specs.Prelude.{ℕ, ◌++◌, ◌||◌, Bool, List, [], ◌∷◌, bytes_eq, codes, drop, take}
use Rattle.std.specs.Prelude.{Option, Some, None, if◌then◌else◌, string_bytes}
use Rattle.std.specs.Char.{is_ascii_digit}
use Rattle.std.specs.List.{filter_map, flat_map, list_all, position}
use Rattle.std.specs.Option.{option_and_then, option_map}
use Rattle.std.specs.Str.Lossy.{utf8_lossy}
use Rattle.minidump.specs.Below.Bytes.LinuxOsStr.{text_lines, words_of}
use Rattle.crash_process.specs.declared.linux.ProcessLimit.{ProcessLimit}

-- a limit: its name, the soft and the hard one, and what they count
pub record LimitValue : Type 0 where
  pub name : List ℕ
  pub soft : List ℕ
  pub hard : List ℕ
  pub unit : Option (List ℕ)

-- the same of a `ProcessLimit`
abbrev pub limit_of : ProcessLimit → LimitValue
limit_of l = record {
  name = string_bytes l.name;
  soft = string_bytes l.soft;
  hard = string_bytes l.hard;
  unit = option_map string_bytes l.unit;
}

-- a word is a limit: the word for none, or digits
abbrev pub is_limit : List ℕ → Bool
is_limit word = bytes_eq word (codes "unlimited") || list_all is_ascii_digit word

-- words with a space between two, and with U+FFFD for what isn't UTF-8
abbrev pub joined_words : List (List ℕ) → List ℕ
joined_words [] = []
joined_words (word ∷ words) =
    utf8_lossy word ++ flat_map (λ other. 0x20 ∷ utf8_lossy other) words

-- what limits count: the first of these words
abbrev pub unit_in : List (List ℕ) → Option (List ℕ)
unit_in [] = None
unit_in (word ∷ words) = Some (utf8_lossy word)

-- the limit that has the words of its name, and the words after it: the soft limit, the hard one, and what they
-- count
abbrev pub limit_from : List (List ℕ) → List (List ℕ) → Option LimitValue
limit_from name [] = None
limit_from name (soft ∷ []) = None
limit_from name (soft ∷ hard ∷ words) =
    if is_limit hard then Some (record {
      name = joined_words name;
      soft = utf8_lossy soft;
      hard = utf8_lossy hard;
      unit = unit_in words;
    }) else None

-- the limit of the words of a line: the soft one is the first word that is a limit
abbrev pub words_limit : List (List ℕ) → Option LimitValue
words_limit words =
    option_and_then (λ at. limit_from (take at words) (drop at words)) (position is_limit words)

-- that of a line
abbrev pub limit_in : List ℕ → Option LimitValue
limit_in line = words_limit (words_of line)

-- the limits of a text, in the order of its lines
abbrev pub limits_in : List ℕ → List LimitValue
limits_in text = filter_map limit_in (text_lines text)
