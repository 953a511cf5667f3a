-- The name of a file.
use Rattle.std.specs.Prelude.{ℕ, [], ◌∷◌, List}
use Rattle.std.specs.Char.{char_set_contains}
use Rattle.std.specs.List.{after_last}

-- what comes after the last separator of a path, of Windows or of Unix
abbrev pub file_name : List ℕ → List ℕ
file_name path = after_last (char_set_contains (0x2f ∷ 0x5c ∷ [])) path
