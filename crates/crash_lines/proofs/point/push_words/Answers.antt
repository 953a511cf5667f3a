-- There are lines where there are words.
use Rattle.std.proofs.Common.{append_assoc, append-nil, ◌≡◌, ◌==◌, [], ◌∷◌, ℕ, false, List, codes, length, map, refl, rules}
use Rattle.std.proofs.lemmas.List.{take_all}
use Rattle.crash_process.specs.Modules.{loaded_of}
use Rattle.crash_lines.specs.Lines.{headed}
use Rattle.crash_lines.specs.Point.{word_line}
use Rattle.crash_lines.proofs.point.push_words.Goals as goal

some_lines : {X : Type 0} (line : X → List ℕ) (heading : List ℕ) (xs : List X) → (length xs == 0) ≡ false
    → headed heading (map line xs) ≡ heading ∷ map line xs
some_lines line heading [] h = cc
some_lines line heading (x ∷ xs) h = refl

pub returns : goal.returns
returns c =
    let all = take_all c.loop-word.word-index c.args.words.now c.loop-word-test.false in
    let each = rw all at c.loop-word.invariant in
    rw (some_lines (word_line (map loaded_of c.args.modules.now)) (codes "words at the stack pointer") c.args.words.now (search rules))
    (rw (each, c.in_ok-push_text_line.ensures.ok) (simp (append_assoc, append-nil)))
