-- Texts that Linux wrote, as a dump keeps them: pairs of a key and a value, line by line.
use Rattle.std.specs.Prelude.{ℕ, ◌-◌, ◌==◌, ◌&&◌, Bool, List, length, slice_index, slice_range, Option, nat_le}
use Rattle.std.specs.Prelude.{if◌then◌else◌}
use Rattle.std.specs.List.{filter_map}
use Rattle.std.specs.Option.{option_map}
use Rattle.minidump_bytes.specs.LinuxOsStr.{cut_first, text_lines, trimmed}

-- the text has two bytes or more, and a quote at each end
abbrev is_quoted : List ℕ → Bool
is_quoted text =
    nat_le 2 (length text) && (slice_index text 0 == 34 && slice_index text (length text - 1) == 34)

-- the text without the quotes at its ends, where it has both
unfoldable pub without_quotes : List ℕ → List ℕ
without_quotes text = if is_quoted text then slice_range text 1 (length text - 1) else text

-- the key or the value of a pair: trimmed, and then without quotes. What is between the quotes is
-- not trimmed again
abbrev pub pair_side : List ℕ → List ℕ
pair_side text = without_quotes (trimmed text)

-- the pair of a line: what comes before its first separator, and what comes after it; none for a
-- line without one
abbrev pub pair_of : ℕ → List ℕ → Option (List ℕ × List ℕ)
pair_of separator line =
    option_map (λ sides. (pair_side sides.0, pair_side sides.1)) (cut_first separator line)

-- the pairs of a text, in the order of its lines. The separator is a colon in cpuinfo and status,
-- and an equals sign in the environment and lsb-release
abbrev pub pairs_of : ℕ → List ℕ → List (List ℕ × List ℕ)
pairs_of separator text = filter_map (pair_of separator) (text_lines text)
