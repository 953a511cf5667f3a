-- What the texts of several streams share: absent texts.
use Rattle.std.specs.Prelude.{ℕ, List, Option}
use Rattle.minidump_format.specs.Text.{if_there}

-- a text, or nothing where there is none
abbrev pub text_or_nothing : Option (List ℕ) → List ℕ
text_or_nothing text = if_there (λ t. t) text
