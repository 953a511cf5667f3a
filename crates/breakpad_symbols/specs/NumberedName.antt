-- FILE and INLINE_ORIGIN: source files and functions, by their numbers.
use Rattle.std.specs.Prelude.{ℕ, List, codes, Option, Some}
use Rattle.minidump_bytes.specs.Digits.{number_of_digits}
use Rattle.minidump_bytes.specs.LinuxOsStr.{after_prefix, cut_first, text_of}
use Rattle.breakpad_symbols.specs.declared.numbered_name.NumberedName.{NumberedName}
use Rattle.minidump_bytes.specs.Cut.{and_then}

-- a number and the name that it stands for
pub record NameValue : Type 0 where
  pub number : ℕ
  pub name : List ℕ

-- the same of a `NumberedName`
abbrev pub name_of : NumberedName → NameValue
name_of n = record { number = n.number; name = text_of n.name }

-- a keyword with the space after it, and `number name`
unfoldable pub numbered_name : List ℕ → List ℕ → Option NameValue
numbered_name keyword line =
    and_then (after_prefix keyword line) (λ fields.
    and_then (cut_first 32 fields) (λ number.
    and_then (number_of_digits 10 32 number.0) (λ n.
    Some (record { number = n; name = number.1 }))))

-- `FILE number name`
abbrev pub file_line : List ℕ → Option NameValue
file_line line = numbered_name (codes "FILE ") line

-- `INLINE_ORIGIN number name`
abbrev pub origin_line : List ℕ → Option NameValue
origin_line line = numbered_name (codes "INLINE_ORIGIN ") line

-- the file of a line
abbrev pub file_in : List ℕ → List (List ℕ) → Option NameValue
file_in line lines = file_line line

-- the function of a line whose calls are put in place
abbrev pub origin_in : List ℕ → List (List ℕ) → Option NameValue
origin_in line lines = origin_line line
