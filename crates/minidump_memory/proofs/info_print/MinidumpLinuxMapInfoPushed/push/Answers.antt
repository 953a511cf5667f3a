-- The pieces of the kind are its text, and those of the letters theirs.
use Rattle.std.proofs.Common.{◌≡◌, ◌∙◌, ◌++◌, ◌∷◌, [], ℕ, List, ap, append_assoc}
use Rattle.std.specs.List.{concat}
use Rattle.minidump_bytes.specs.Piece.{piece_text}
use Rattle.minidump_memory.specs.InfoText.{map_info_text}
use Rattle.minidump_memory.proofs.info_print.MinidumpLinuxMapInfoPushed.push.Goals as goal

three : (a b c rest : List ℕ) → concat (a ∷ b ∷ c ∷ []) ++ rest ≡ a ++ (b ++ (c ++ rest))
three a b c rest =
    append_assoc a (b ++ (c ++ [])) rest ∙ ap (λ l. a ++ l) (append_assoc b (c ++ []) rest ∙ ap (λ l. b ++ l) (append_assoc c [] rest))

four : (a b c d rest : List ℕ) → concat (a ∷ b ∷ c ∷ d ∷ []) ++ rest ≡ a ++ (b ++ (c ++ (d ++ rest)))
four a b c d rest = append_assoc a (concat (b ∷ c ∷ d ∷ [])) rest ∙ ap (λ l. a ++ l) (three b c d rest)

pub returns : goal.returns
unfolding map_info_text
returns c =
    let kind = c.kind.result in
    let letters = c.letters.result in
    rw (
      ← c.kind.ensures,
      ← c.letters.ensures,
      three kind.0.now (piece_text kind.1) kind.2.now,
      four letters.0.now letters.1.now letters.2.now letters.3.now,
    )
    c.push_pieces.ensures.ok
