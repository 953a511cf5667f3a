-- Texts that a record names by an RVA.
use Rattle.std.specs.Prelude.{ℕ, ◌==◌, ◌&&◌, Bool, is_none, List, not, Option}

-- a record names a text where none is. An RVA of 0 names none
abbrev pub lacks_text : ℕ → Option (List ℕ) → Bool
lacks_text rva text = is_none text && not (rva == 0)
